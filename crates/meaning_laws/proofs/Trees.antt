-- Operations over trees of solids give trees of solids.
use Rattle.std.proofs.Common.{Bool, true, false, not, List, [], ◌∷◌, ◌++◌, if◌then◌else◌}
use Rattle.std.specs.Prelude.{All}
use Rattle.std.specs.List.{flat_map, list_any}
use Rattle.std.proofs.lemmas.List.Elements.{All-nil, All-cons, All-head, All-tail, All-append, All-filter}
use Rattle.scad_solid.specs.declared.triangle.Triangle.{Triangle}
use Rattle.scad_solid.specs.Solid.{IsSolid}
use Rattle.scad_tree.specs.Normal.{is_nothing, parts, union_of, united, intersection_of, intersected, without}
use Rattle.scad_tree.specs.Normal.{not_empty}
use Rattle.scad_tree.specs.Normal.{subtracted}
use Rattle.scad_tree.specs.Order.{surfaces, all_surfaces}
use Rattle.scad_tree.specs.Solid.{Solid, Solids, nothing, surface, union, intersection, difference, none, member}
use Rattle.scad_tree.specs.Solid.{members}
use Rattle.scad_tree.specs.Solid.{members_of}
use Rattle.scad_tree.specs.Solids.{AreSolids}
use Rattle.scad_leaves.specs.declared.operation.Operation.{Operation}
use Rattle.scad_leaves.specs.declared.operation.Operation.TheVariants.{Unite, Intersect, Subtract}
use Rattle.scad_leaves.specs.Operation.{operated}

-- each tree of a list is of solids
abbrev pub AllSolids : List Solid → Type 0
AllSolids ss = All AreSolids ss

pub solids-nothing : AreSolids nothing
solids-nothing = All-nil IsSolid

pub solids-surface : (ts : List Triangle) → IsSolid ts → AreSolids (surface ts)
solids-surface ts solid = All-cons IsSolid ts [] solid (All-nil IsSolid)

-- where both are it, either is
pub solids-if : (b : Bool) (s t : Solid) → AreSolids s → AreSolids t → AreSolids (if b then s else t)
solids-if true s t first other = first
solids-if false s t first other = other

alone : (s : Solid) → AreSolids s → AllSolids (s ∷ [])
alone s solid = All-cons AreSolids s [] solid (All-nil AreSolids)

-- trees as the members of an operation
solids-members : (ss : List Solid) → AllSolids ss → All IsSolid (all_surfaces (members ss))
solids-members [] all = All-nil IsSolid
solids-members (s ∷ ss) all =
    All-append IsSolid (surfaces s) (all_surfaces (members ss)) (All-head AreSolids s ss all)
    (solids-members ss (All-tail AreSolids s ss all))

-- ---- unions
-- both lists of surfaces, where one after the other is of solids
All-split : (xs ys : List (List Triangle)) → All IsSolid (xs ++ ys) → All IsSolid xs × All IsSolid ys
All-split [] ys all = (All-nil IsSolid, all)
All-split (x ∷ xs) ys all =
    let rest = All-split xs ys (All-tail IsSolid x (xs ++ ys) all) in
    (All-cons IsSolid x xs (All-head IsSolid x (xs ++ ys) all) rest.0, rest.1)

solids-members_of : (ms : Solids) → All IsSolid (all_surfaces ms) → AllSolids (members_of ms)
solids-members_of none all = All-nil AreSolids
solids-members_of (member s rest) all =
    let both = All-split (surfaces s) (all_surfaces rest) all in
    All-cons AreSolids s (members_of rest) both.0 (solids-members_of rest both.1)

solids-parts : (s : Solid) → AreSolids s → AllSolids (parts s)
solids-parts nothing solid = All-nil AreSolids
solids-parts (surface ts) solid = alone (surface ts) solid
solids-parts (union ms) solid = solids-members_of ms solid
solids-parts (intersection ms) solid = alone (intersection ms) solid
solids-parts (difference first rest) solid = alone (difference first rest) solid

solids-all_parts : (ss : List Solid) → AllSolids ss → AllSolids (flat_map parts ss)
solids-all_parts [] all = All-nil AreSolids
solids-all_parts (s ∷ ss) all =
    All-append AreSolids (parts s) (flat_map parts ss) (solids-parts s (All-head AreSolids s ss all))
    (solids-all_parts ss (All-tail AreSolids s ss all))

solids-union_of : (ss : List Solid) → AllSolids ss → AreSolids (union_of ss)
solids-union_of [] all = solids-nothing
solids-union_of (s ∷ []) all = All-head AreSolids s [] all
solids-union_of (s ∷ t ∷ rest) all = solids-members (s ∷ t ∷ rest) all

pub solids-united : (ss : List Solid) → AllSolids ss → AreSolids (united ss)
unfolding united
solids-united ss all = solids-union_of (flat_map parts ss) (solids-all_parts ss all)

-- ---- intersections
solids-intersection_of : (ss : List Solid) → AllSolids ss → AreSolids (intersection_of ss)
solids-intersection_of [] all = solids-nothing
solids-intersection_of (s ∷ []) all = All-head AreSolids s [] all
solids-intersection_of (s ∷ t ∷ rest) all = solids-members (s ∷ t ∷ rest) all

solids-intersected : (ss : List Solid) → AllSolids ss → AreSolids (intersected ss)
unfolding intersected
solids-intersected ss all = solids-if (list_any is_nothing ss) _ _ solids-nothing (solids-intersection_of ss all)

-- ---- differences
solids-without : (first : Solid) (rest : List Solid) → AreSolids first → AllSolids rest → AreSolids (without first rest)
solids-without first [] solid all = solid
solids-without first (s ∷ rest) solid all =
    All-append IsSolid (surfaces first) (all_surfaces (members (s ∷ rest))) solid (solids-members (s ∷ rest) all)

pub solids-subtracted : (ss : List Solid) → AllSolids ss → AreSolids (subtracted ss)
unfolding subtracted
solids-subtracted [] all = solids-nothing
solids-subtracted (first ∷ rest) all =
    solids-if (is_nothing first) _ _ solids-nothing
    (solids-without first (not_empty rest) (All-head AreSolids first rest all)
    (All-filter (λ s. not (is_nothing s)) AreSolids rest (All-tail AreSolids first rest all)))

pub solids-operated : (o : Operation) (ss : List Solid) → AllSolids ss → AreSolids (operated o ss)
solids-operated Unite ss all = solids-united ss all
solids-operated Intersect ss all = solids-intersected ss all
solids-operated Subtract ss all = solids-subtracted ss all
