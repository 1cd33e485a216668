use Rattle.std.proofs.Common.{rules}
use Rattle.slice_work.specs.declared.want.Want.TheVariants.{Plan}
use Rattle.scad_tree.specs.View.{solid_of}
use Rattle.scad_slice.proofs.SomeParts.{parts_are_there}
use Rattle.scad_run.specs.SourceReport.{sample_script}
use Rattle.scad_run.proofs.CommandEnd.{slice_finishes, plan_finishes, sample_finishes}
use Rattle.scad_run.proofs.SampleEnds.{no_fault_rises}
use Rattle.scad_run.proofs.finish.finish.Goals as goal

pub returns-in-Slice-clause-completes : goal.returns-in-Slice-clause-completes
returns-in-Slice-clause-completes g c =
    slice_finishes c.args.order.now.command.now c.args.order.now.settings (solid_of c.args.tree.now)
    c.args.order.now.in_range c.slice.result (g.D.Desk.view c.args.desk.now)
    (g.D.Desk.view c.slice.new.desk) c.in-Slice.field-0 c.as_str.result.now (search rules) c.slice.ensures.completes

pub returns-in-Plan-clause-completes : goal.returns-in-Plan-clause-completes
returns-in-Plan-clause-completes g c =
    plan_finishes c.args.order.now.command.now c.args.order.now.settings (solid_of c.args.tree.now)
    c.args.order.now.in_range c.plan.result (g.D.Desk.view c.args.desk.now)
    (g.D.Desk.view c.plan.new.desk) c.in-Plan.field-0 c.as_str-in-Plan.result.now c.as_str-in-Plan-2.result.now
    (search rules) c.plan.ensures.completes

pub returns-in-Sample-clause-completes : goal.returns-in-Sample-clause-completes
returns-in-Sample-clause-completes g c =
    sample_finishes c.args.order.now.command.now c.args.order.now.settings (solid_of c.args.tree.now)
    c.args.order.now.in_range c.sampled.result (g.D.Desk.view c.args.desk.now)
    _ (search rules) c.sampled.ensures

pub returns-in-Sample-clause-leaves : goal.returns-in-Sample-clause-leaves
returns-in-Sample-clause-leaves g c =
    let there = parts_are_there Plan c.args.order.now.settings (solid_of c.args.tree.now) c.requires.solids in
    record {
      files = search rules;
      later = search rules;
      cause = no_fault_rises (sample_script _ c.args.order.now.settings there.0 (solid_of c.args.tree.now))
          c.sampled.result _ (c.sampled.ensures there.0 there.1);
    }
