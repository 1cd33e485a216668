-- The sizes of what is handed on, and what comes out by the heading of the way.
use Rattle.std.proofs.Common.{◌≡◌, pos, ◌+ℤ◌, ◌-ℤ◌, ◌*ℤ◌, true, false, sym, ◌∙◌, refl, arith, rules, to_z, of_z}
use Rattle.std.specs.Prelude.{int_le}
use Rattle.std.specs.Int.{w128}
use Rattle.scad_geom.proofs.Casts.{casts, sizes}
use Rattle.plan_infill.proofs.Nearer.{by_direction}
use Rattle.plan_infill.proofs.near_steps.breadth.Goals as goal

pub times-requires-clause-left : goal.times-requires-clause-left
times-requires-clause-left c = omega (arith, sizes)

pub times-requires-clause-right : goal.times-requires-clause-right
times-requires-clause-right c = omega (arith, sizes)

pub times-requires-then-y-x-clause-left : goal.times-requires-then-y-x-clause-left
times-requires-then-y-x-clause-left c = omega (arith, sizes)

pub times-requires-then-y-x-clause-right : goal.times-requires-then-y-x-clause-right
times-requires-then-y-x-clause-right c = omega (arith, sizes)

pub plus-requires : goal.plus-requires
plus-requires c = record { fits = omega (arith, sizes) }

pub plus-requires-else-y-x : goal.plus-requires-else-y-x
plus-requires-else-y-x c = record { fits = omega (arith, sizes) }

pub times-requires-then-plus-le0-clause-left : goal.times-requires-then-plus-le0-clause-left
times-requires-then-plus-le0-clause-left c = omega (arith, sizes)

pub times-requires-then-plus-le0-clause-right : goal.times-requires-then-plus-le0-clause-right
times-requires-then-plus-le0-clause-right c = omega (arith, sizes)

pub times-requires-then-plus-le0-2-clause-left : goal.times-requires-then-plus-le0-2-clause-left
times-requires-then-plus-le0-2-clause-left c = omega (arith, sizes)

pub times-requires-then-plus-le0-2-clause-right : goal.times-requires-then-plus-le0-2-clause-right
times-requires-then-plus-le0-2-clause-right c = omega (arith, sizes)

pub minus-requires : goal.minus-requires
minus-requires c = record { fits = omega (arith, sizes) }

pub times-requires-then-x-ge0-clause-left : goal.times-requires-then-x-ge0-clause-left
times-requires-then-x-ge0-clause-left c = omega (arith, sizes)

pub times-requires-then-x-ge0-clause-right : goal.times-requires-then-x-ge0-clause-right
times-requires-then-x-ge0-clause-right c = omega (arith, sizes)

pub times-requires-then-x-ge0-2-clause-left : goal.times-requires-then-x-ge0-2-clause-left
times-requires-then-x-ge0-2-clause-left c = omega (arith, sizes)

pub times-requires-then-x-ge0-2-clause-right : goal.times-requires-then-x-ge0-2-clause-right
times-requires-then-x-ge0-2-clause-right c = omega (arith, sizes)

pub plus-requires-then-x-ge0 : goal.plus-requires-then-x-ge0
plus-requires-then-x-ge0 c = record { fits = omega (arith, sizes) }

pub times-requires-else-x-ge0-clause-left : goal.times-requires-else-x-ge0-clause-left
times-requires-else-x-ge0-clause-left c = omega (arith, sizes)

pub times-requires-else-x-ge0-clause-right : goal.times-requires-else-x-ge0-clause-right
times-requires-else-x-ge0-clause-right c = omega (arith, sizes)

pub times-requires-else-x-ge0-2-clause-left : goal.times-requires-else-x-ge0-2-clause-left
times-requires-else-x-ge0-2-clause-left c = omega (arith, sizes)

pub times-requires-else-x-ge0-2-clause-right : goal.times-requires-else-x-ge0-2-clause-right
times-requires-else-x-ge0-2-clause-right c = omega (arith, sizes)

pub minus-requires-else-x-ge0 : goal.minus-requires-else-x-ge0
minus-requires-else-x-ge0 c = record { fits = omega (arith, sizes) }

pub returns-then-y-x-clause-size : goal.returns-then-y-x-clause-size
returns-then-y-x-clause-size c = omega (arith, sizes)

pub returns-then-plus-le0-clause-size : goal.returns-then-plus-le0-clause-size
returns-then-plus-le0-clause-size c = omega (arith, sizes)

pub returns-then-x-ge0-clause-size : goal.returns-then-x-ge0-clause-size
returns-then-x-ge0-clause-size c = omega (arith, sizes)

pub returns-else-x-ge0-clause-size : goal.returns-else-x-ge0-clause-size
returns-else-x-ge0-clause-size c = omega (arith, sizes)

pub returns-then-y-x-clause-value : goal.returns-then-y-x-clause-value
returns-then-y-x-clause-value c =
    let s = c.args.s in
    let t = c.args.t in
    let x = c.args.x in
    let y = c.args.y in
    let p : int_le y x ≡ true = search (rules, casts) in
    let e : to_z w128 (of_z w128 c.plus.result) ≡ s *ℤ x +ℤ t *ℤ y = search (rules, casts) in
    e ∙ sym (by_direction s t x y true (int_le (x +ℤ y) (pos 0)) (int_le (pos 0) x) p refl refl)

pub returns-then-plus-le0-clause-value : goal.returns-then-plus-le0-clause-value
returns-then-plus-le0-clause-value c =
    let s = c.args.s in
    let t = c.args.t in
    let x = c.args.x in
    let y = c.args.y in
    let p : int_le y x ≡ false = search (rules, casts) in
    let q : int_le (x +ℤ y) (pos 0) ≡ true = search (rules, casts) in
    let e : to_z w128 (of_z w128 c.minus.result) ≡ t *ℤ y -ℤ s *ℤ x = search (rules, casts) in
    e ∙ sym (by_direction s t x y false true (int_le (pos 0) x) p q refl)

pub returns-then-x-ge0-clause-value : goal.returns-then-x-ge0-clause-value
returns-then-x-ge0-clause-value c =
    let s = c.args.s in
    let t = c.args.t in
    let x = c.args.x in
    let y = c.args.y in
    let p : int_le y x ≡ false = search (rules, casts) in
    let q : int_le (x +ℤ y) (pos 0) ≡ false = search (rules, casts) in
    let r : int_le (pos 0) x ≡ true = search (rules, casts) in
    let e : to_z w128 (of_z w128 c.plus-then-x-ge0.result) ≡ s *ℤ y +ℤ t *ℤ x = search (rules, casts) in
    e ∙ sym (by_direction s t x y false false true p q r)

pub returns-else-x-ge0-clause-value : goal.returns-else-x-ge0-clause-value
returns-else-x-ge0-clause-value c =
    let s = c.args.s in
    let t = c.args.t in
    let x = c.args.x in
    let y = c.args.y in
    let p : int_le y x ≡ false = search (rules, casts) in
    let q : int_le (x +ℤ y) (pos 0) ≡ false = search (rules, casts) in
    let r : int_le (pos 0) x ≡ false = search (rules, casts) in
    let e : to_z w128 (of_z w128 c.minus-else-x-ge0.result) ≡ s *ℤ y -ℤ t *ℤ x = search (rules, casts) in
    e ∙ sym (by_direction s t x y false false false p q r)
