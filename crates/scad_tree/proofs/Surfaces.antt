-- The surfaces of a node are those of solids, node by node.
use Rattle.std.proofs.Common.{◌≡◌, ℕ, ◌+◌, ◌<◌, ◌≤◌, Vec, Box, Global, drop, length, get_or, sym, subst, List}
use Rattle.std.specs.Prelude.{All}
use Rattle.std.proofs.lemmas.List.Elements.{All-nil, All-append}
use Rattle.scad_solid.specs.Solid.{IsSolid}
use Rattle.scad_tree.specs.Solid.{members}
use Rattle.scad_tree.specs.declared.node.Node.{Node, Union, Inter, Diff}
use Rattle.scad_tree.specs.View.{solid_of, solids}
use Rattle.scad_tree.specs.Order.{surfaces, all_surfaces}
use Rattle.scad_tree.specs.Solids.{AreSolids}
use Rattle.scad_tree.proofs.Rows.{at_union, at_inter, at_diff, left-more, left-none}

-- what is left of nodes, one of which is asked
pub solids_more : (all : List Node) (i : ℕ) (n : Node) → i < length all → n ≡ get_or all i n → AreSolids (solid_of n)
    → All IsSolid (all_surfaces (members (solids (drop (i + 1) all))))
    → All IsSolid (all_surfaces (members (solids (drop i all))))
solids_more all i n below is one more =
    subst (λ ms. All IsSolid (all_surfaces ms)) (sym (left-more all i n below is))
    (All-append IsSolid (surfaces (solid_of n)) (all_surfaces (members (solids (drop (i + 1) all)))) one more)

pub solids_none : (all : List Node) (i : ℕ) → length all ≤ i
    → All IsSolid (all_surfaces (members (solids (drop i all))))
solids_none all i past = subst (λ ms. All IsSolid (all_surfaces ms)) (sym (left-none all i past)) (All-nil IsSolid)

-- those of an operation
pub solids_union : (n : Node) (v : Vec Node Global) → n ≡ Union v
    → All IsSolid (all_surfaces (members (solids v.items))) → AreSolids (solid_of n)
solids_union n v is h = subst AreSolids (sym (at_union n v is)) h

pub solids_inter : (n : Node) (v : Vec Node Global) → n ≡ Inter v
    → All IsSolid (all_surfaces (members (solids v.items))) → AreSolids (solid_of n)
solids_inter n v is h = subst AreSolids (sym (at_inter n v is)) h

pub solids_diff : (n : Node) (b : Box Node Global) (v : Vec Node Global) → n ≡ Diff b v → AreSolids (solid_of b.value)
    → All IsSolid (all_surfaces (members (solids v.items))) → AreSolids (solid_of n)
solids_diff n b v is first rest = subst AreSolids (sym (at_diff n b v is))
    (All-append IsSolid (surfaces (solid_of b.value)) (all_surfaces (members (solids v.items))) first rest)
