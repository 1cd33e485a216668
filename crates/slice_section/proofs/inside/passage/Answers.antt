-- The difference of what is counted.
use Rattle.std.proofs.Common.{◌≡◌, ◌≤◌, Bool, true, false, ℤ, pos, ◌-ℤ◌, ◌*ℤ◌, int_lt, unsigned_abs, refl, ap, ap₂, sym, ◌∙◌, subst, to_z, of_z, arith}
use Rattle.std.proofs.lemmas.Int.{to_z-of_z}
use mir.Syntax.{w128}
use mir.Val.{bool_byte}
use Rattle.scad_geom.specs.Winding.{counted}
use Rattle.scad_geom.proofs.Casts.{by_cast, handed}
use Rattle.slice_section.proofs.inside.passage.Goals as goal
use Rattle.slice_section.proofs.inside.passage.Goals.{After-from-2}

counted_byte : (b : Bool) → pos (bool_byte b) ≡ counted b
counted_byte true = refl
counted_byte false = refl

step_small : (s t : Bool) → unsigned_abs (counted s -ℤ counted t) ≤ 1
step_small true true = omega arith
step_small true false = omega arith
step_small false true = omega arith
step_small false false = omega arith

second : (c : After-from-2)
    → to_z w128 (of_z w128 c.from.result) ≡ counted (int_lt (c.args.y *ℤ c.args.b.now.d) (c.args.b.now.y *ℤ pos 2))
second c =
    let b = c.args.b.now in
    let test = c.is_above.ensures
    ∙ ap (λ (y : ℤ). int_lt (y *ℤ b.d) (b.y *ℤ pos 2)) (to_z-of_z w128 c.args.y c.ranges.y) in
    by_cast w128 c.from.type_inv (c.from.ensures ∙ counted_byte c.is_above.result ∙ ap counted test)

first : (c : After-from-2)
    → to_z w128 (of_z w128 c.from-2.result) ≡ counted (int_lt (c.args.y *ℤ c.args.a.now.d) (c.args.a.now.y *ℤ pos 2))
first c =
    let a = c.args.a.now in
    let test = c.is_above-2.ensures
    ∙ ap (λ (y : ℤ). int_lt (y *ℤ a.d) (a.y *ℤ pos 2)) (to_z-of_z w128 c.args.y c.ranges.y) in
    by_cast w128 c.from-2.type_inv (c.from-2.ensures ∙ counted_byte c.is_above-2.result ∙ ap counted test)

small : (c : After-from-2)
    → unsigned_abs (to_z w128 (of_z w128 c.from.result) -ℤ to_z w128 (of_z w128 c.from-2.result)) ≤ 1
small c =
    let a = c.args.a.now in
    let b = c.args.b.now in
    subst (λ (z : ℤ). unsigned_abs z ≤ 1) (sym (ap₂ (λ (s t : ℤ). s -ℤ t) (second c) (first c)))
    (step_small (int_lt (c.args.y *ℤ b.d) (b.y *ℤ pos 2)) (int_lt (c.args.y *ℤ a.d) (a.y *ℤ pos 2)))

pub returns-clause-value : goal.returns-clause-value
returns-clause-value c =
    handed w128 (to_z w128 (of_z w128 c.from.result) -ℤ to_z w128 (of_z w128 c.from-2.result)) (omega (arith, small c))
    (ap₂ (λ (s t : ℤ). s -ℤ t) (second c) (first c))

pub returns-clause-size : goal.returns-clause-size
returns-clause-size c =
    let step = to_z w128 (of_z w128 c.from.result) -ℤ to_z w128 (of_z w128 c.from-2.result) in
    let same : to_z w128 (of_z w128 step) ≡ step = handed w128 step (omega (arith, small c)) refl in
    subst (λ (z : ℤ). unsigned_abs z ≤ 1) (sym same) (small c)
