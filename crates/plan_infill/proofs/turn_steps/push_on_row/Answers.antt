use Rattle.std.proofs.Common.{to_z, of_z, ℤ, ap, ap₂, subst, ◌∙◌, rules, [], ◌∷◌, pos, ◌-ℤ◌, ◌<ℤ◌, sym}
use Rattle.std.proofs.lemmas.List.{append-nil}
use Rattle.std.proofs.lemmas.Int.{to_z-of_z}
use lib.Signed.{◌≤ℤ◌, lt_z, le_z}
use mir.Syntax.{w32}
use Rattle.scad_geom.specs.declared.point.Pt.{Pt}
use Rattle.scad_geom.specs.Line.{low, high, rise, x_at, heading}
use Rattle.scad_geom.proofs.Casts.{casts}
use Rattle.plan_infill.specs.Quotient.{IsCeiling}
use Rattle.plan_infill.proofs.Places.{less, at_most, small_fits}
use Rattle.plan_infill.proofs.Steps.{step_of, row_turns, row_below, row_above}
use Rattle.plan_infill.proofs.turn_steps.push_on_row.Goals as goal
use Rattle.plan_infill.proofs.turn_steps.push_on_row.Goals.{else-low-y-via-then-low-y+else-y-high, else-low-y-via-else-low-y}

pub crossing-requires : goal.crossing-requires
crossing-requires c =
    let at = to_z w32 (of_z w32 c.args.y) in
    let lower = small_fits c.low.result.y (c.low.ensures.within c.requires.edge).y in
    let upper = small_fits c.high.result.y (c.high.ensures.within c.requires.edge).y in
    let from = to_z-of_z w32 c.low.result.y lower ∙ ap (λ (p : Pt). p.y) c.low.ensures.value in
    let until = to_z-of_z w32 c.high.result.y upper ∙ ap (λ (p : Pt). p.y) c.high.ensures.value in
    record {
      edge = c.requires.edge;
      from = at_most (low c.args.e.now).y at (sym (ap (λ (z : ℤ). le_z z at) from) ∙ c.if-low-y.true);
      until = less at (high c.args.e.now).y (sym (ap (λ (z : ℤ). lt_z at z) until) ∙ c.if-y-high.true);
    }

pub returns-in_ok-push : goal.returns-in_ok-push
returns-in_ok-push c =
    let lower = small_fits c.low.result.y (c.low.ensures.within c.requires.edge).y in
    let upper = small_fits c.high.result.y (c.high.ensures.within c.requires.edge).y in
    let at = to_z-of_z w32 c.args.y c.ranges.y in
    let under = to_z-of_z w32 c.low.result.y lower ∙ ap (λ (p : Pt). p.y) c.low.ensures.value in
    let over = to_z-of_z w32 c.high.result.y upper ∙ ap (λ (p : Pt). p.y) c.high.ensures.value in
    let from = at_most (low c.args.e.now).y c.args.y (sym (ap₂ le_z under at) ∙ c.if-low-y.true) in
    let until = less c.args.y (high c.args.e.now).y (sym (ap₂ lt_z at over) ∙ c.if-y-high.true) in
    let k = subst (λ (z : ℤ). IsCeiling (x_at c.args.e.now z (pos 1)) (rise c.args.e.now) c.crossing.result) at
    c.crossing.ensures.value in
    let steps = row_turns c.args.e.now c.args.y c.crossing.result from until k c.crossing.ensures.size in
    (step_of c.crossing.result (pos 0 -ℤ heading c.args.e.now) ∷ [], steps, search (rules, casts))

pub returns-else-low-y : goal.returns-else-low-y
returns-else-low-y c = elim c.else-low-y.branch [
  | else-low-y-via-then-low-y+else-y-high w ↦
      let until : (high c.args.e.now).y ≤ℤ c.args.y = search (rules, casts) in
      ([], row_above c.args.e.now c.args.y until, sym (append-nil c.args.steps.now.items))
  | else-low-y-via-else-low-y w ↦
      let from : c.args.y <ℤ (low c.args.e.now).y = search (rules, casts) in
      ([], row_below c.args.e.now c.args.y from, sym (append-nil c.args.steps.now.items))
]
