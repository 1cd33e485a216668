-- The height of the common point, by the sign of the divisor.
use Rattle.std.proofs.Common.{◌≡◌, ◌^◌, ◌<◌, ◌≤◌, Bool, ℕ, ℤ, pos, neg_ℤ, ◌-ℤ◌, int_lt, unsigned_abs, to_z, of_z, sym, ap, ap₂, ◌∙◌, subst, arith}
use Rattle.std.specs.Prelude.{if◌then◌else◌}
use Rattle.std.proofs.lemmas.Int.{ints}
use mir.Syntax.{w64, w128}
use Rattle.scad_geom.specs.declared.level.Level.{Level}
use Rattle.scad_geom.specs.Line.{lean, apart}
use Rattle.scad_geom.specs.Meeting.{meeting}
use Rattle.scad_geom.proofs.Casts.{by_cast, cast_size, fits_by_size, handed, widened}
use Rattle.slice_events.proofs.meeting.level_of_lines.Goals as goal
use Rattle.slice_events.proofs.meeting.level_of_lines.Goals.{Then-lean-gt0, Else-lean-gt0}

turned_size : (z : ℤ) → unsigned_abs z ≤ 2 ^ 67 → unsigned_abs (pos 0 -ℤ z) < 2 ^ 127
turned_size z small = omega (arith, ints)

turned : (z : ℤ) → pos 0 -ℤ z ≡ neg_ℤ z
turned z = omega (arith, ints)

abbrev level : ℤ → ℤ → Level
level n d = record { n = n; d = d }

-- the number handed on is small, and so is the opposite one
gap_small : (c : Then-lean-gt0) → unsigned_abs (pos 0 -ℤ to_z w128 (of_z w128 c.apart-apart.result)) < 2 ^ 127
gap_small c =
    let gap : ℤ = c.apart-apart.result in
    turned_size (to_z w128 (of_z w128 gap)) (subst (λ (n : ℕ). n ≤ 2 ^ 67)
    (sym (cast_size w128 gap (omega (arith, c.apart-apart.ensures.size)))) c.apart-apart.ensures.size)

lean_small : (c : Else-lean-gt0)
    → unsigned_abs (pos 0 -ℤ to_z w128 (of_z w128 (to_z w64 (of_z w64 c.lean.result)))) < 2 ^ 127
lean_small c =
    let divisor : ℤ = to_z w64 (of_z w64 c.lean.result) in
    let size = cast_size w64 c.lean.result (omega (arith, c.lean.ensures.size)) in
    let small : unsigned_abs divisor ≤ 2 ^ 67 = omega (arith, size, c.lean.ensures.size) in
    turned_size (to_z w128 (of_z w128 divisor)) (subst (λ (n : ℕ). n ≤ 2 ^ 67)
    (sym (cast_size w128 divisor (omega (arith, small)))) small)

pub overflow_sub-result : goal.overflow_sub-result
overflow_sub-result c =
    fits_by_size w128 (pos 0 -ℤ to_z w128 (of_z w128 c.apart-apart.result)) (gap_small c)

pub overflow_sub-result-else-lean-gt0 : goal.overflow_sub-result-else-lean-gt0
overflow_sub-result-else-lean-gt0 c =
    fits_by_size w128 (pos 0 -ℤ to_z w128 (of_z w128 (to_z w64 (of_z w64 c.lean.result)))) (lean_small c)

pub returns-then-lean-gt0-clause-value : goal.returns-then-lean-gt0-clause-value
unfolding meeting
returns-then-lean-gt0-clause-value c =
    let e = c.args.e.now.edge in
    let f = c.args.f.now.edge in
    let gap = by_cast w128 c.apart-apart.type_inv c.apart-apart.ensures.value in
    let divisor : to_z w128 (of_z w128 (to_z w64 (of_z w64 c.lean.result))) ≡ lean e f =
    widened w64 w128 c.lean.result (omega (arith, c.lean.ensures.size)) (omega (arith, c.lean.ensures.size))
    c.lean.ensures.value in
    ap₂ level (handed w128 (pos 0 -ℤ to_z w128 (of_z w128 c.apart-apart.result)) (gap_small c)
    (ap (λ (z : ℤ). pos 0 -ℤ z) gap ∙ turned (apart e f))) divisor
    ∙ sym (ap (λ (b : Bool). if b then level (neg_ℤ (apart e f)) (lean e f) else level (apart e f) (neg_ℤ (lean e f)))
    (sym (ap (int_lt (pos 0)) divisor) ∙ c.if-lean-gt0.true))

pub returns-then-lean-gt0-clause-divisor : goal.returns-then-lean-gt0-clause-divisor
returns-then-lean-gt0-clause-divisor c =
    subst (λ (z : ℤ). unsigned_abs z ≤ 10 ^ 13) c.lean.ensures.value c.lean.ensures.size

pub returns-else-lean-gt0-clause-value : goal.returns-else-lean-gt0-clause-value
unfolding meeting
returns-else-lean-gt0-clause-value c =
    let e = c.args.e.now.edge in
    let f = c.args.f.now.edge in
    let gap = by_cast w128 c.apart-apart.type_inv c.apart-apart.ensures.value in
    let divisor : to_z w128 (of_z w128 (to_z w64 (of_z w64 c.lean.result))) ≡ lean e f =
    widened w64 w128 c.lean.result (omega (arith, c.lean.ensures.size)) (omega (arith, c.lean.ensures.size))
    c.lean.ensures.value in
    ap₂ level gap (handed w128 (pos 0 -ℤ to_z w128 (of_z w128 (to_z w64 (of_z w64 c.lean.result))))
    (lean_small c) (ap (λ (z : ℤ). pos 0 -ℤ z) divisor ∙ turned (lean e f)))
    ∙ sym (ap (λ (b : Bool). if b then level (neg_ℤ (apart e f)) (lean e f) else level (apart e f) (neg_ℤ (lean e f)))
    (sym (ap (int_lt (pos 0)) divisor) ∙ c.if-lean-gt0.false))

pub returns-else-lean-gt0-clause-divisor : goal.returns-else-lean-gt0-clause-divisor
returns-else-lean-gt0-clause-divisor c =
    subst (λ (z : ℤ). unsigned_abs z ≤ 10 ^ 13) c.lean.ensures.value c.lean.ensures.size
