-- A node's value from that of its members, which code sees as a slice, and that of members from those that are left.
use Rattle.std.proofs.Common.{◌≡◌, ℕ, slice_index_or, false, true, Bool, not, ◌&&◌, ◌||◌, ◌+◌, drop, refl, sym, ap, ◌∙◌, arith}
use Rattle.std.proofs.lemmas.List.{at_drop_more, at_drop_all}
use Rattle.scad_geom.specs.Shape.{shape_holds, any_holds, all_holds, has_items}
use Rattle.scad_geom.proofs.Shapes.{holds_union, holds_inter, holds_diff}
use Rattle.scad_geom.proofs.membership.+holds.Goals as goal

pub holds-returns-in-Union : goal.holds-returns-in-Union
holds-returns-in-Union t c =
    let inside : ℕ → Bool = λ leaf. slice_index_or c.args.inside.now leaf false in
    c.any_holds.ensures ∙ ap (any_holds inside) c.deref.ensures.value ∙ sym (holds_union inside c.in-Union.members) ∙ ap
    (shape_holds inside) (sym c.in-Union.is)

pub holds-returns-then-has_any : goal.holds-returns-then-has_any
holds-returns-then-has_any t c =
    let inside : ℕ → Bool = λ leaf. slice_index_or c.args.inside.now leaf false in
    let some : has_items c.in-Inter.members.items ≡ true = ap has_items (sym c.deref-in-Inter.ensures.value) ∙ sym
    c.has_any.ensures ∙ c.if-has_any.true in
    c.all_hold.ensures ∙ ap (all_holds inside) c.deref-then-has_any.ensures.value
    ∙ sym (ap (λ (b : Bool). b && all_holds inside c.in-Inter.members.items) some) ∙ sym
    (holds_inter inside c.in-Inter.members) ∙ ap (shape_holds inside) (sym c.in-Inter.is)

pub holds-returns-else-has_any : goal.holds-returns-else-has_any
holds-returns-else-has_any t c =
    let inside : ℕ → Bool = λ leaf. slice_index_or c.args.inside.now leaf false in
    let none : has_items c.in-Inter.members.items ≡ false = ap has_items (sym c.deref-in-Inter.ensures.value) ∙ sym
    c.has_any.ensures ∙ c.if-has_any.false in
    c.if-has_any.false ∙ sym (ap (λ (b : Bool). b && all_holds inside c.in-Inter.members.items) none) ∙ sym
    (holds_inter inside c.in-Inter.members) ∙ ap (shape_holds inside) (sym c.in-Inter.is)

pub holds-returns-then-holds : goal.holds-returns-then-holds
holds-returns-then-holds t c =
    let inside : ℕ → Bool = λ leaf. slice_index_or c.args.inside.now leaf false in
    let first : shape_holds inside c.in-Diff.first.value ≡ true = ap (shape_holds inside) (sym c.deref-in-Diff.ensures)
    ∙ sym c.holds.ensures ∙ c.if-holds.true in
    ap not (c.any_holds-then-holds.ensures ∙ ap (any_holds inside) c.deref-then-holds.ensures.value)
    ∙ sym (ap (λ (b : Bool). b && not (any_holds inside c.in-Diff.rest.items)) first) ∙ sym
    (holds_diff inside c.in-Diff.first c.in-Diff.rest) ∙ ap (shape_holds inside) (sym c.in-Diff.is)

pub all_hold-members-init : goal.all_hold-members-init
all_hold-members-init t c = refl

pub any_holds-members-init : goal.any_holds-members-init
any_holds-members-init t c = refl

pub all_hold-offset_bounds-members-member-index : goal.all_hold-offset_bounds-members-member-index
all_hold-offset_bounds-members-member-index t c = omega arith

pub any_holds-offset_bounds-members-member-index : goal.any_holds-offset_bounds-members-member-index
any_holds-offset_bounds-members-member-index t c = omega arith

pub all_hold-returns : goal.all_hold-returns
all_hold-returns t c =
    let inside : ℕ → Bool = λ leaf. slice_index_or c.args.inside.now leaf false in
    sym (c.members.invariant
    ∙ at_drop_all (all_holds inside) c.args.members.now c.members.member-index c.members-test.false)

pub any_holds-returns : goal.any_holds-returns
any_holds-returns t c =
    let inside : ℕ → Bool = λ leaf. slice_index_or c.args.inside.now leaf false in
    sym (c.members.invariant
    ∙ at_drop_all (any_holds inside) c.args.members.now c.members.member-index c.members-test.false)

pub all_hold-returns-then-not-holds : goal.all_hold-returns-then-not-holds
all_hold-returns-then-not-holds t c =
    let inside : ℕ → Bool = λ leaf. slice_index_or c.args.inside.now leaf false in
    sym (c.members.invariant
    ∙ at_drop_more (all_holds inside) c.args.members.now c.members.member-index c.member-item.result c.members-test.true
    ∙ ap (λ (held : Bool). held && all_holds inside (drop (c.members.member-index + 1) c.args.members.now))
    (ap (shape_holds inside) (sym c.member-item.is) ∙ sym c.holds.ensures ∙ c.if-not-holds.true))

pub any_holds-returns-then-holds : goal.any_holds-returns-then-holds
any_holds-returns-then-holds t c =
    let inside : ℕ → Bool = λ leaf. slice_index_or c.args.inside.now leaf false in
    sym (c.members.invariant
    ∙ at_drop_more (any_holds inside) c.args.members.now c.members.member-index c.member-item.result c.members-test.true
    ∙ ap (λ (held : Bool). held || any_holds inside (drop (c.members.member-index + 1) c.args.members.now))
    (ap (shape_holds inside) (sym c.member-item.is) ∙ sym c.holds.ensures ∙ c.if-holds.true))

pub all_hold-members-preserved : goal.all_hold-members-preserved
all_hold-members-preserved t c =
    let inside : ℕ → Bool = λ leaf. slice_index_or c.args.inside.now leaf false in
    c.members.invariant
    ∙ at_drop_more (all_holds inside) c.args.members.now c.members.member-index c.member-item.result c.members-test.true
    ∙ ap (λ (held : Bool). held && all_holds inside (drop (c.members.member-index + 1) c.args.members.now))
    (ap (shape_holds inside) (sym c.member-item.is) ∙ sym c.holds.ensures ∙ c.if-not-holds.false)

pub any_holds-members-preserved : goal.any_holds-members-preserved
any_holds-members-preserved t c =
    let inside : ℕ → Bool = λ leaf. slice_index_or c.args.inside.now leaf false in
    c.members.invariant
    ∙ at_drop_more (any_holds inside) c.args.members.now c.members.member-index c.member-item.result c.members-test.true
    ∙ ap (λ (held : Bool). held || any_holds inside (drop (c.members.member-index + 1) c.args.members.now))
    (ap (shape_holds inside) (sym c.member-item.is) ∙ sym c.holds.ensures ∙ c.if-holds.false)

pub holds-returns-in-Leaf : goal.holds-returns-in-Leaf
holds-returns-in-Leaf t c =
    let inside : ℕ → Bool = λ leaf. slice_index_or c.args.inside.now leaf false in
    c.is_inside.ensures ∙ ap (shape_holds inside) (sym c.in-Leaf.is)

pub holds-returns-else-holds : goal.holds-returns-else-holds
holds-returns-else-holds t c =
    let inside : ℕ → Bool = λ leaf. slice_index_or c.args.inside.now leaf false in
    let first : shape_holds inside c.in-Diff.first.value ≡ false = ap (shape_holds inside) (sym c.deref-in-Diff.ensures)
    ∙ sym c.holds.ensures ∙ c.if-holds.false in
    c.if-holds.false ∙ sym (ap (λ (b : Bool). b && not (any_holds inside c.in-Diff.rest.items)) first)
    ∙ sym (holds_diff inside c.in-Diff.first c.in-Diff.rest) ∙ ap (shape_holds inside) (sym c.in-Diff.is)

pub holds-returns-in-Empty : goal.holds-returns-in-Empty
holds-returns-in-Empty t c =
    let inside : ℕ → Bool = λ leaf. slice_index_or c.args.inside.now leaf false in
    ap (shape_holds inside) (sym c.in-Empty.is)
