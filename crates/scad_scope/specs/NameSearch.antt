-- Where a name lies among those at places.
use Rattle.std.specs.Prelude.{◌≡◌, ℕ, ◌<◌, ◌≤◌, List, length, Some, None}
use Rattle.scad_scope.specs.declared.placed_values.Found.{Found}
use Rattle.scad_scope.specs.declared.placed_values.Found.TheVariants.{Set, Free, Unlisted}
use Rattle.scad_scope.specs.Listing.{Listing, place_of, name_at}
use Rattle.scad_scope.specs.Names.{Names, place_in}

-- the place of a name that has no value there
pub record IsFree (name : List ℕ) (listing : Listing) (all : Names) (place : ℕ) : Type 0 where
  pub listed : place_of name listing ≡ Some place
  pub named : name_at listing place ≡ name
  pub absent : length all ≤ place_in name all

abbrev pub IsFound : List ℕ → Listing → Names → Found → Type 0
IsFound name listing all (Set number) = (number ≡ place_in name all) × (number < length all)
IsFound name listing all (Free place) = IsFree name listing all place
IsFound name listing all Unlisted = (place_of name listing ≡ None) × (length all ≤ place_in name all)
