-- What a tree of set operations contains, from what its surfaces contain.
use Rattle.std.specs.Prelude.{Bool, true, false, not, ◌&&◌, ◌||◌, List, [], ◌∷◌}
use Rattle.scad_solid.specs.declared.triangle.Triangle.{Triangle}
use Rattle.scad_tree.specs.Solid.{Solid, Solids, nothing, surface, union, intersection, difference, none, member}
use Rattle.scad_tree.specs.Normal.{are_some}

abbrev mutual
  -- whether a tree holds what is inside these surfaces: a union what some member holds, an intersection what all its
  -- members hold, where it has any, a difference what the first holds and none of the rest
  pub holds : (List Triangle → Bool) → Solid → Bool
  holds inside nothing = false
  holds inside (surface ts) = inside ts
  holds inside (union ms) = some_hold inside ms
  holds inside (intersection ms) = are_some ms && all_hold inside ms
  holds inside (difference first rest) = holds inside first && not (some_hold inside rest)

  pub some_hold : (List Triangle → Bool) → Solids → Bool
  some_hold inside none = false
  some_hold inside (member s rest) = holds inside s || some_hold inside rest

  pub all_hold : (List Triangle → Bool) → Solids → Bool
  all_hold inside none = true
  all_hold inside (member s rest) = holds inside s && all_hold inside rest

-- the union, the intersection and the difference of what the members hold
abbrev pub any_holds : (List Triangle → Bool) → List Solid → Bool
any_holds inside [] = false
any_holds inside (s ∷ rest) = holds inside s || any_holds inside rest

abbrev pub each_holds : (List Triangle → Bool) → List Solid → Bool
each_holds inside [] = true
each_holds inside (s ∷ rest) = holds inside s && each_holds inside rest

abbrev pub has_items : List Solid → Bool
has_items [] = false
has_items (s ∷ rest) = true

abbrev pub first_alone_holds : (List Triangle → Bool) → List Solid → Bool
first_alone_holds inside [] = false
first_alone_holds inside (first ∷ rest) = holds inside first && not (any_holds inside rest)
