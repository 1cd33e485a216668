use Rattle.std.proofs.Common.{◌≤◌, sym, subst, ℤ, FitsSigned, unsigned_abs, arith}
use Rattle.std.proofs.lemmas.Result.{on_ok_weaker}
use Rattle.std.proofs.lemmas.Int.{ints, to_z-of_z}
use Rattle.scad_geom.specs.declared.point.Edge.{Edge}
use Rattle.scad_geom.specs.Limits.{coordinate_limit}
use Rattle.plan_infill.specs.declared.line.Line.{Line}
use Rattle.plan_infill.specs.declared.line.Line.TheVariants.{Row}
use Rattle.plan_infill.specs.Runs.{IsLineWithin}
use Rattle.plan_infill.specs.Steps.{AreNearSteps}
use Rattle.plan_infill.proofs.RowReach.{exchanged_steps}
use Rattle.plan_infill.proofs.near_steps.push_near_steps.Goals as goal
use mir.Syntax.{w32}

pub returns-in-Column : goal.returns-in-Column
returns-in-Column c =
    let x : ℤ = c.in-Column.x in
    let within : unsigned_abs x ≤ coordinate_limit = subst (IsLineWithin coordinate_limit) c.in-Column.is c.requires.line in
    let fits : FitsSigned w32 x = omega (arith, ints, within) in
    on_ok_weaker c.push_on_row-in-Column.result
    (λ k. (
      k.0,
      subst (λ (l : Line). AreNearSteps c.args.c l c.args.e.now k.0) (sym c.in-Column.is)
          (exchanged_steps c.args.c x c.args.e.now k.0
          (subst (λ (e : Edge). AreNearSteps c.args.c (Row x) e k.0) c.exchanged.ensures.value
          (subst (λ (z : ℤ). AreNearSteps c.args.c (Row z) c.exchanged.result k.0) (to_z-of_z w32 x fits) k.1))),
      k.2,
    ))
    c.push_on_row-in-Column.ensures
