-- The slots of a name: where it can lie in a frame and in those round it.
use Rattle.std.specs.Prelude.{ℕ, ◌+◌, List, [], ◌∷◌, Option, Some, None}
use Rattle.scad_scope.specs.declared.slot.Slot.{Slot}
use Rattle.scad_scope.specs.Listing.{Listing, place_of}

-- a slot of the frame so many outwards, where the name has a place in it, and further ones
abbrev pub slot_onto : ℕ → Option ℕ → List Slot → List Slot
slot_onto up None more = more
slot_onto up (Some place) more = record { up = up; place = place } ∷ more

-- the slots in frames of which the innermost is so many outwards
abbrev pub slots_from : List ℕ → ℕ → List Listing → List Slot
slots_from name up [] = []
slots_from name up (listing ∷ more) = slot_onto up (place_of name listing) (slots_from name (up + 1) more)

-- one slot for each frame that lists the name, the innermost first
abbrev pub slots_of : List ℕ → List Listing → List Slot
slots_of name listings = slots_from name 0 listings
