-- Trees of set operations over closed surfaces, as values apart from where they lie in memory.
use Rattle.std.specs.Prelude.{List, [], ◌∷◌}
use Rattle.scad_solid.specs.declared.triangle.Triangle.{Triangle}

mutual
  pub data Solid : Type 0 where
    nothing : Solid
    -- what a surface bounds
    surface : List Triangle → Solid
    union : Solids → Solid
    intersection : Solids → Solid
    -- the first without the rest
    difference : Solid → Solids → Solid

  pub data Solids : Type 0 where
    none : Solids
    member : Solid → Solids → Solids

-- the members in order
abbrev pub members_of : Solids → List Solid
members_of none = []
members_of (member s rest) = s ∷ members_of rest

abbrev pub members : List Solid → Solids
members [] = none
members (s ∷ rest) = member s (members rest)
