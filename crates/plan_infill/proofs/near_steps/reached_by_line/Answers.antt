use Rattle.std.proofs.Common.{◌≡◌, ◌∙◌, ℕ, ◌^◌, ◌≤◌, sym, ap, ap₂, subst, FitsSigned, ℤ, pos, arith, ◌+ℤ◌, ◌-ℤ◌, ◌<ℤ◌}
use lib.Signed.{◌≤ℤ◌}
use Rattle.std.specs.Prelude.{◌↔◌}
use Rattle.scad_geom.specs.Line.{x_at}
use Rattle.std.proofs.lemmas.Int.{to_z-of_z}
use mir.Syntax.{w128}
use Rattle.scad_geom.proofs.Casts.{sizes, by_cast, read_widened}
use Rattle.plan_infill.specs.Reach.{IsBesideLine}
use Rattle.plan_infill.proofs.Places.{both_fit, both_size, is_floor, is_ceiling}
use Rattle.plan_infill.proofs.RowReach.{line_those}
use Rattle.plan_infill.proofs.near_steps.reached_by_line.Goals as goal

pub minus-requires : goal.minus-requires
minus-requires c = record {
  fits = both_fit c.x_at-x.result c.line_reach-reach.result c.x_at-x.ensures.size c.line_reach-reach.ensures.size;
}

pub plus-requires : goal.plus-requires
plus-requires c = record { fits = omega (arith, sizes) }

pub plus-requires-2 : goal.plus-requires-2
plus-requires-2 c = record {
  fits = both_fit c.x_at-x.result c.line_reach-reach.result c.x_at-x.ensures.size c.line_reach-reach.ensures.size;
}

wider : (n : ℕ) → n ≤ 2 ^ 90 → n ≤ 2 ^ 100
wider n small = omega arith

pub floor-requires : goal.floor-requires
floor-requires c = record {
  divisor = subst (λ (z : ℤ). pos 0 <ℤ z) (sym (by_cast w128 c.rise.type_inv c.rise.ensures.value)) c.requires.rises;
  size = wider _ (both_size c.x_at-x.result c.line_reach-reach.result c.x_at-x.ensures.size
      c.line_reach-reach.ensures.size c.minus.result c.minus.ensures.size);
}

pub ceiling-requires : goal.ceiling-requires
ceiling-requires c = record {
  divisor = subst (λ (z : ℤ). pos 0 <ℤ z) (sym (by_cast w128 c.rise-2.type_inv c.rise-2.ensures.value))
      c.requires.rises;
  size = wider _ (both_size c.x_at-x.result c.line_reach-reach.result c.x_at-x.ensures.size
      c.line_reach-reach.ensures.size c.plus-2.result c.plus-2.ensures.size);
}

next : (c : goal.After-ceiling) → c.plus.result ≡ c.floor.result +ℤ pos 1
next c =
    c.plus.ensures.sum
    ∙ ap (λ (z : ℤ). z +ℤ pos 1) (to_z-of_z w128 c.floor.result (record { sfits = c.floor.type_inv }))

pub returns : goal.returns
returns c x =
    let at = by_cast w128 c.x_at-x.type_inv (c.x_at-x.ensures.value
    ∙ ap (λ (z : ℤ). x_at c.args.e.now z (pos 1)) (read_widened c.args.y c.ranges.y)) in
    let by = by_cast w128 c.line_reach-reach.type_inv c.line_reach-reach.ensures.value in
    let f = is_floor (by_cast w128 c.minus.type_inv (c.minus.ensures.difference ∙ ap₂ (λ (s t : ℤ). s -ℤ t) at by))
    (by_cast w128 c.rise.type_inv c.rise.ensures.value) c.floor.ensures.value in
    let u = is_ceiling (by_cast w128 c.plus-2.type_inv (c.plus-2.ensures.sum ∙ ap₂ (λ (s t : ℤ). s +ℤ t) at by))
    (by_cast w128 c.rise-2.type_inv c.rise-2.ensures.value) c.ceiling.ensures.value in
    let w = line_those c.args.c c.args.y c.args.e.now c.floor.result c.ceiling.result c.requires.rises f u x in
    let v : ((c.plus.result ≤ℤ x) × (x <ℤ c.ceiling.result)) ↔ IsBesideLine c.args.c c.args.y c.args.e.now x
    = subst (λ (z : ℤ). ((z ≤ℤ x) × (x <ℤ c.ceiling.result))
    ↔ IsBesideLine c.args.c c.args.y c.args.e.now x)
    (sym (next c)) w in
    let p_fits : FitsSigned w128 c.plus.result = record { sfits = c.plus.type_inv } in
    let c_fits : FitsSigned w128 c.ceiling.result = record { sfits = c.ceiling.type_inv } in
    simp to_z-of_z v
