-- Whether a node holds a point, from whether its members do, and whether one member more does.
use Rattle.std.proofs.Common.{◌≡◌, ◌+◌, Bool, List, true, false, not, ◌&&◌, ◌||◌, ap, sym, drop, ◌∙◌}
use Rattle.scad_geom.specs.Half.{meant}
use Rattle.scad_solid.specs.Cut.{plane_of, contains}
use Rattle.scad_solid.specs.declared.triangle.Triangle.{Triangle}
use Rattle.scad_tree.specs.Member.{holds, some_hold, all_hold}
use Rattle.scad_tree.specs.Normal.{are_some}
use Rattle.scad_tree.specs.Solid.{members}
use Rattle.scad_tree.specs.View.{solid_of, solids}
use Rattle.scad_tree.proofs.Rows.{at_union, at_inter, at_diff, left-more, left-none}
use Rattle.scad_tree.proofs.inside.+inside.Goals as goal

pub any_holds-nodes-preserved : goal.any_holds-nodes-preserved
any_holds-nodes-preserved t c =
    let at = c.args.at in
    let all = c.args.nodes.now in
    let i = c.nodes.node-index in
    let inside : List Triangle → Bool = λ ts. contains (plane_of at.layer at.height) ts (meant at.half at.point) in
    let more = some_hold inside (members (solids (drop (i + 1) all))) in
    c.nodes.invariant
    ∙ ap (some_hold inside) (left-more all i c.node-item.result c.nodes-test.true c.node-item.is)
    ∙ ap (λ (b : Bool). b || more) (sym c.holds.ensures ∙ c.if-holds.false)

pub any_holds-returns-then-holds : goal.any_holds-returns-then-holds
any_holds-returns-then-holds t c =
    let at = c.args.at in
    let all = c.args.nodes.now in
    let i = c.nodes.node-index in
    let inside : List Triangle → Bool = λ ts. contains (plane_of at.layer at.height) ts (meant at.half at.point) in
    let more = some_hold inside (members (solids (drop (i + 1) all))) in
    sym (c.nodes.invariant
    ∙ ap (some_hold inside) (left-more all i c.node-item.result c.nodes-test.true c.node-item.is)
    ∙ ap (λ (b : Bool). b || more) (sym c.holds.ensures ∙ c.if-holds.true))

pub any_holds-returns : goal.any_holds-returns
any_holds-returns t c =
    let at = c.args.at in
    let inside : List Triangle → Bool = λ ts. contains (plane_of at.layer at.height) ts (meant at.half at.point) in
    sym (c.nodes.invariant ∙ ap (some_hold inside) (left-none c.args.nodes.now c.nodes.node-index c.nodes-test.false))

pub all_hold-nodes-preserved : goal.all_hold-nodes-preserved
all_hold-nodes-preserved t c =
    let at = c.args.at in
    let all = c.args.nodes.now in
    let i = c.nodes.node-index in
    let inside : List Triangle → Bool = λ ts. contains (plane_of at.layer at.height) ts (meant at.half at.point) in
    let more = all_hold inside (members (solids (drop (i + 1) all))) in
    c.nodes.invariant
    ∙ ap (all_hold inside) (left-more all i c.node-item.result c.nodes-test.true c.node-item.is)
    ∙ ap (λ (b : Bool). b && more) (sym c.holds.ensures ∙ c.if-not-holds.false)

pub all_hold-returns-then-not-holds : goal.all_hold-returns-then-not-holds
all_hold-returns-then-not-holds t c =
    let at = c.args.at in
    let all = c.args.nodes.now in
    let i = c.nodes.node-index in
    let inside : List Triangle → Bool = λ ts. contains (plane_of at.layer at.height) ts (meant at.half at.point) in
    let more = all_hold inside (members (solids (drop (i + 1) all))) in
    sym (c.nodes.invariant
    ∙ ap (all_hold inside) (left-more all i c.node-item.result c.nodes-test.true c.node-item.is)
    ∙ ap (λ (b : Bool). b && more) (sym c.holds.ensures ∙ c.if-not-holds.true))

pub all_hold-returns : goal.all_hold-returns
all_hold-returns t c =
    let at = c.args.at in
    let inside : List Triangle → Bool = λ ts. contains (plane_of at.layer at.height) ts (meant at.half at.point) in
    sym (c.nodes.invariant ∙ ap (all_hold inside) (left-none c.args.nodes.now c.nodes.node-index c.nodes-test.false))

pub holds-returns-in-Union : goal.holds-returns-in-Union
holds-returns-in-Union t c =
    let at = c.args.at in
    let inside : List Triangle → Bool = λ ts. contains (plane_of at.layer at.height) ts (meant at.half at.point) in
    c.any_holds.ensures ∙ ap (λ ns. some_hold inside (members (solids ns))) c.deref.ensures.value
    ∙ sym (ap (holds inside) (at_union c.args.node.now c.in-Union.members c.in-Union.is))

pub holds-returns-then-has_any : goal.holds-returns-then-has_any
holds-returns-then-has_any t c =
    let at = c.args.at in
    let inside : List Triangle → Bool = λ ts. contains (plane_of at.layer at.height) ts (meant at.half at.point) in
    let all = all_hold inside (members (solids c.in-Inter.members.items)) in
    let some : are_some (members (solids c.in-Inter.members.items)) ≡ true =
    ap (λ ns. are_some (members (solids ns))) (sym c.deref-in-Inter.ensures.value) ∙ sym c.has_any.ensures
    ∙ c.if-has_any.true in
    c.all_hold.ensures ∙ ap (λ ns. all_hold inside (members (solids ns))) c.deref-then-has_any.ensures.value
    ∙ sym (ap (λ (b : Bool). b && all) some)
    ∙ sym (ap (holds inside) (at_inter c.args.node.now c.in-Inter.members c.in-Inter.is))

pub holds-returns-in-Empty : goal.holds-returns-in-Empty
holds-returns-in-Empty t c =
    let at = c.args.at in
    ap (λ n. holds (λ ts. contains (plane_of at.layer at.height) ts (meant at.half at.point)) (solid_of n))
    (sym c.in-Empty.is)

pub holds-returns-in-Leaf : goal.holds-returns-in-Leaf
holds-returns-in-Leaf t c =
    let at = c.args.at in
    c.contains.ensures
    ∙ ap (λ n. holds (λ ts. contains (plane_of at.layer at.height) ts (meant at.half at.point)) (solid_of n))
    (sym c.in-Leaf.is)

pub holds-returns-then-holds : goal.holds-returns-then-holds
holds-returns-then-holds t c =
    let at = c.args.at in
    let inside : List Triangle → Bool = λ ts. contains (plane_of at.layer at.height) ts (meant at.half at.point) in
    let none = not (some_hold inside (members (solids c.in-Diff.rest.items))) in
    let first : holds inside (solid_of c.in-Diff.first.value) ≡ true =
    ap (λ n. holds inside (solid_of n)) (sym c.deref-in-Diff.ensures) ∙ sym c.holds.ensures ∙ c.if-holds.true in
    ap not c.any_holds-then-holds.ensures
    ∙ ap (λ ns. not (some_hold inside (members (solids ns)))) c.deref-then-holds.ensures.value
    ∙ sym (ap (λ (b : Bool). b && none) first)
    ∙ sym (ap (holds inside) (at_diff c.args.node.now c.in-Diff.first c.in-Diff.rest c.in-Diff.is))

pub holds-returns-else-holds : goal.holds-returns-else-holds
holds-returns-else-holds t c =
    let at = c.args.at in
    let inside : List Triangle → Bool = λ ts. contains (plane_of at.layer at.height) ts (meant at.half at.point) in
    let none = not (some_hold inside (members (solids c.in-Diff.rest.items))) in
    let first : holds inside (solid_of c.in-Diff.first.value) ≡ false =
    ap (λ n. holds inside (solid_of n)) (sym c.deref-in-Diff.ensures) ∙ sym c.holds.ensures ∙ c.if-holds.false in
    c.if-holds.false ∙ sym (ap (λ (b : Bool). b && none) first)
    ∙ sym (ap (holds inside) (at_diff c.args.node.now c.in-Diff.first c.in-Diff.rest c.in-Diff.is))

pub holds-returns-else-has_any : goal.holds-returns-else-has_any
holds-returns-else-has_any t c =
    let at = c.args.at in
    let inside : List Triangle → Bool = λ ts. contains (plane_of at.layer at.height) ts (meant at.half at.point) in
    let all = all_hold inside (members (solids c.in-Inter.members.items)) in
    let none : are_some (members (solids c.in-Inter.members.items)) ≡ false =
    ap (λ ns. are_some (members (solids ns))) (sym c.deref-in-Inter.ensures.value) ∙ sym c.has_any.ensures
    ∙ c.if-has_any.false in
    c.if-has_any.false ∙ sym (ap (λ (b : Bool). b && all) none)
    ∙ sym (ap (holds inside) (at_inter c.args.node.now c.in-Inter.members c.in-Inter.is))
