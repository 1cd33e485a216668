-- The trees of statements in memory.
use Rattle.std.proofs.Common.{◌≡◌, List, [], ◌∷◌, ◌++◌, refl, ap}
use Rattle.scad_tree.specs.declared.node.Node.{Node}
use Rattle.scad_tree.specs.Solid.{Solid}
use Rattle.scad_tree.specs.View.{solid_of, solids}

pub solids-push : (all : List Node) (t : Node) → solids (all ++ t ∷ []) ≡ solids all ++ solid_of t ∷ []
solids-push [] t = refl
solids-push (s ∷ all) t = ap (λ (l : List Solid). solid_of s ∷ l) (solids-push all t)

pub ruleset trees = (solids-push)
