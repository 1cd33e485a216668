-- The places that are the same for every source.
use Rattle.scad_fault.specs.declared.place.Place.{Place}

-- no place
abbrev pub no_place : Place
no_place = record { line = 0; col = 0 }

-- the first byte of a source
abbrev pub first_place : Place
first_place = record { line = 1; col = 1 }
