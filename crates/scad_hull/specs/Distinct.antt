-- Points in order, each once.
use Rattle.std.specs.Prelude.{List, [], ◌∷◌}
use Rattle.std.specs.BTreeSet.{insert_key}
use Rattle.std.specs.declared.cmp.Ordering.{Ordering}

module _ {X : Type 0} (cmp : X → X → Ordering) where
  -- points in order, with further ones each put to its place unless it stands there
  abbrev pub with_all : List X → List X → List X
  with_all sorted [] = sorted
  with_all sorted (p ∷ ps) = with_all (insert_key cmp sorted p) ps

  abbrev pub distinct : List X → List X
  distinct ps = with_all [] ps
