-- The names that a frame and those round it were pushed with.
use Rattle.std.specs.Prelude.{◌≡◌, ℕ, zero, suc, Bool, true, ◌&&◌, is_some, List, [], ◌∷◌, map, slice_index_or, Option, Some, None, if◌then◌else◌}
use Rattle.scad_scope.specs.Listing.{Listing, place_of}
use Rattle.scad_scope.specs.Names.{Names}
use Rattle.scad_scope.specs.FrameStore.{Stored, stored_at}

-- whether each name that has a value is listed
abbrev pub are_listed : Listing → Names → Bool
are_listed listing [] = true
are_listed listing (p ∷ more) = is_some (place_of p.0 listing) && are_listed listing more

-- the names that a frame was pushed with, where it was pushed with names and holds no other
abbrev pub names_held : Option Listing → Names → Option Listing
names_held None all = None
names_held (Some listing) all = if are_listed listing all then Some listing else None

-- the same of the frame of a number, where `listed` has of each frame the names that it was pushed with
abbrev pub names_at : List (Option Listing) → List Stored → ℕ → Option Listing
names_at listed all n = names_held (slice_index_or listed n None) (stored_at all n).names

-- the number of a frame and of those round it, the innermost first, at most `count` of them
abbrev pub outwards : ℕ → List Stored → Option ℕ → List ℕ
outwards zero all at = []
outwards (suc count) all None = []
outwards (suc count) all (Some n) = n ∷ outwards count all (stored_at all n).parent

-- a frame and all round it: each has a lower number than the one before, so that there are no more
abbrev pub chain_at : List Stored → ℕ → List ℕ
chain_at all n = outwards (suc n) all (Some n)

-- a frame and those round it, the innermost first, were pushed with these names and hold no other
abbrev pub HoldNames : List Listing → List (Option Listing) → List Stored → ℕ → Type 0
HoldNames listings listed all n = map (names_at listed all) (chain_at all n) ≡ map Some listings
