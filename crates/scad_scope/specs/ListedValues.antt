-- Values at the places of listed names, in the order in which they were first set.
use Rattle.std.specs.Prelude.{◌≡◌, ℕ, suc, List, [], ◌∷◌, map, Option, Some, None, if◌then◌else◌, nat_eq}
use Rattle.scad_value.specs.Datum.{Datum}
use Rattle.scad_value.specs.View.{datum_of}
use Rattle.scad_value.specs.declared.value.Value.{Value}
use Rattle.scad_scope.specs.Listing.{Listing, place_of, name_at}
use Rattle.scad_scope.specs.Names.{Names}

-- the names of a frame that was pushed with names; of another one no name is listed
abbrev pub or_unlisted : Option Listing → Listing
or_unlisted None = []
or_unlisted (Some listing) = listing

-- a value with the name of its place
abbrev pub name_placed : Listing → ℕ × Value → List ℕ × Datum
name_placed listing e = (name_at listing e.0, datum_of e.1)

abbrev pub place_in_entry : ℕ × Value → ℕ
place_in_entry e = e.0

-- how many places stand before a place in a list: all of them where it isn't there
abbrev pub number_in : ℕ → List ℕ → ℕ
number_in place [] = 0
number_in place (p ∷ more) = if nat_eq place p then 0 else suc (number_in place more)

-- each is the place of its name
abbrev pub ArePlaces : Listing → List ℕ → Type 0
ArePlaces listing places = map (λ p. place_of (name_at listing p) listing) places ≡ map Some places

-- the place of the first of the names, where it is listed
abbrev pub first_place : Listing → Names → Option ℕ
first_place listing [] = None
first_place listing (p ∷ more) = place_of p.0 listing
