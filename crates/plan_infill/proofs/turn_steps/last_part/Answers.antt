use Rattle.std.proofs.Common.{rules}
use Rattle.scad_geom.proofs.Casts.{casts}
use Rattle.plan_infill.specs.Columns.{IsClamped}
use Rattle.plan_infill.proofs.Parts.{last_part}
use Rattle.plan_infill.proofs.turn_steps.last_part.Goals as goal

pub returns : goal.returns
returns c =
    let k : IsClamped c.args.from c.args.of.from c.args.of.until c.clamped.result = search (rules, casts) in
    let w = last_part c.args.of c.args.from c.clamped.result c.requires.order k in
    search (rules, casts)
