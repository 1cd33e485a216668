use Rattle.std.proofs.Common.{rules}
use Rattle.scad_geom.proofs.Casts.{casts}
use Rattle.plan_infill.specs.Columns.{IsClamped}
use Rattle.plan_infill.proofs.Parts.{first_part}
use Rattle.plan_infill.proofs.turn_steps.first_part.Goals as goal

pub returns : goal.returns
returns c =
    let k : IsClamped c.args.until c.args.of.from c.args.of.until c.clamped.result = search (rules, casts) in
    let w = first_part c.args.of c.args.until c.clamped.result c.requires.order k in
    search (rules, casts)
