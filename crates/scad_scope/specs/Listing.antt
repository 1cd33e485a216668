-- The names that a frame can hold: those that its scope assigns, its parameters, its loop variables or its names of `let`.
use Rattle.std.specs.Prelude.{ℕ, is_some, List, [], ◌∷◌, ◌++◌, position, slice_index_or, Option, if◌then◌else◌}
use Rattle.scad_scope.specs.Names.{is_same_name}

-- a list of names, each of which has its place in it
abbrev pub Listing : Type 0
Listing = List (List ℕ)

-- the place of a name, where it is listed
abbrev pub place_of : List ℕ → Listing → Option ℕ
place_of name listing = position (is_same_name name) listing

-- the name of a place, an empty one where there is none
abbrev pub name_at : Listing → ℕ → List ℕ
name_at listing place = slice_index_or listing place []

-- a name more goes last, where it isn't listed
abbrev pub with_listed : List ℕ → Listing → Listing
with_listed name listing = if is_some (place_of name listing) then listing else listing ++ name ∷ []
