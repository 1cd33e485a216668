use Rattle.std.proofs.Common.{Less, Equal, Greater, ◌≡◌, List, length, to_z, of_z, sym, subst, ap, ◌∙◌, arith, rules, ℤ}
use Rattle.std.specs.Ordering.{int_cmp, ordering_index}
use Rattle.std.specs.List.{HoldsAt}
use Rattle.std.specs.List.Sorted.{IsNonDecreasingBy, IsPartitionPoint}
use Rattle.scad_geom.proofs.Casts.{casts}
use Rattle.plan_support.proofs.HeightRows.{searchable, found_row, missed_row}
use Rattle.plan_support.proofs.rows.Rows.runs_at.Goals as goal
use mir.Syntax.{w32}

pub get-requires : goal.get-requires
get-requires c =
    let same : c.as_slice.result.now ≡ c.self.inside.heights.items = c.as_slice.ensures.value in
    let n = ap length same in
    let b = c.in-Ok.ensures.bound in
    let m = c.self.invariant in
    omega (arith, n, b, m)

pub returns-in-Ok : goal.returns-in-Ok
returns-in-Ok c =
    let same : c.as_slice.result.now ≡ c.self.inside.heights.items = c.as_slice.ensures.value in
    let b = c.in-Ok.ensures.bound in
    let n = ap length same in
    let h : HoldsAt (λ (z : ℤ). int_cmp z c.args.y ≡ Equal) c.self.inside.heights.items c.in-Ok.i =
    subst (λ (ys : List ℤ). HoldsAt (λ (z : ℤ). int_cmp z c.args.y ≡ Equal) ys c.in-Ok.i) same
    (search (rules, casts)) in
    c.get.ensures ∙ found_row c.self.inside.heights.items c.self.inside.lists c.args.self.now c.args.y c.self.invariant
    c.self.view_is c.requires c.in-Ok.i (omega (arith, n, b)) h

pub returns-in-Err : goal.returns-in-Err
returns-in-Err c =
    let same : c.as_slice.result.now ≡ c.self.inside.heights.items = c.as_slice.ensures.value in
    let up : IsNonDecreasingBy (λ (z : ℤ). ordering_index (int_cmp z c.args.y)) c.as_slice.result.now =
    subst (IsNonDecreasingBy (λ (z : ℤ). ordering_index (int_cmp z c.args.y))) (sym same)
    (searchable c.self.inside.heights.items c.self.inside.lists c.args.self.now c.args.y c.self.invariant
    c.self.view_is c.requires) in
    let y : to_z w32 (of_z w32 c.args.y) ≡ c.args.y = search (rules, casts) in
    let p : IsPartitionPoint (λ (z : ℤ). int_cmp z c.args.y ≡ Less) (λ (z : ℤ). int_cmp z c.args.y ≡ Greater)
    c.as_slice.result.now c.in-Err.field-0 =
    subst (λ (h : ℤ). IsNonDecreasingBy (λ (z : ℤ). ordering_index (int_cmp z h)) c.as_slice.result.now
    → IsPartitionPoint (λ (z : ℤ). int_cmp z h ≡ Less) (λ (z : ℤ). int_cmp z h ≡ Greater) c.as_slice.result.now
    c.in-Err.field-0)
    y c.in-Err.ensures.position up in
    sym (missed_row c.self.inside.heights.items c.self.inside.lists c.args.self.now c.args.y c.in-Err.field-0
    c.self.view_is
    (subst (λ (ys : List ℤ). IsPartitionPoint (λ (z : ℤ). int_cmp z c.args.y ≡ Less)
    (λ (z : ℤ). int_cmp z c.args.y ≡ Greater) ys c.in-Err.field-0) same p))
