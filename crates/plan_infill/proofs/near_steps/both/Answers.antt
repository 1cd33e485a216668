-- The greater and the lesser of two places, as numbers of 128 bits.
use Rattle.std.proofs.Common.{FitsSigned, rules, ap₂, ◌∙◌}
use Rattle.std.specs.Int.{int_min, int_max}
use Rattle.std.proofs.lemmas.Int.{to_z-of_z}
use mir.Syntax.{w128}
use Rattle.scad_geom.proofs.Casts.{by_cast}
use Rattle.plan_infill.proofs.near_steps.both.Goals as goal

pub returns : goal.returns
returns c =
    let a_from : FitsSigned w128 c.args.a.from = search rules in
    let b_from : FitsSigned w128 c.args.b.from = search rules in
    let a_until : FitsSigned w128 c.args.a.until = search rules in
    let b_until : FitsSigned w128 c.args.b.until = search rules in
    record {
      from = by_cast w128 c.max.type_inv
          (c.max.ensures.value ∙ ap₂ int_max (to_z-of_z w128 _ a_from) (to_z-of_z w128 _ b_from));
      until = by_cast w128 c.min.type_inv
          (c.min.ensures.value ∙ ap₂ int_min (to_z-of_z w128 _ a_until) (to_z-of_z w128 _ b_until));
    }
