use Rattle.std.proofs.Common.{rules, ◌≤◌, subst}
use Rattle.scad_script.specs.declared.stop.Stop.{Stop}
use Rattle.scad_script.proofs.Layers.{as_left}
use Rattle.scad_tree.specs.View.{solid_of}
use Rattle.slice_work.specs.Part.{layer_limit}
use Rattle.scad_slice.specs.Budgets.{layer_count}
use Rattle.scad_slice.proofs.ScriptCourse.{slice_few}
use Rattle.scad_slice.proofs.Ending.{slice_ends}
use Rattle.scad_slice.proofs.Stopping.{stops_all}
use Rattle.scad_slice.proofs.slice_command.slice.Goals as goal

pub returns-in_err-make-clause-completes : goal.returns-in_err-make-clause-completes
returns-in_err-make-clause-completes g c part of_part whole start left =
    stops_all whole _ _ start _ (search rules)
    (c.in_err-make.ensures.carries whole _ start
    (as_left (slice_few c.args.workpiece.now.settings c.args.cli.now part (solid_of c.args.workpiece.now.tree.now)
    (subst (λ n. n ≤ layer_limit) c.in_ok-count_layers.ensures.count c.in_ok-count_layers.ensures.few)) left))

pub returns-in_err-written-clause-completes : goal.returns-in_err-written-clause-completes
returns-in_err-written-clause-completes g c part of_part whole start left =
    stops_all whole _ _ start _ (search rules)
    (c.in_err-written.ensures.carries part of_part whole _ start
    (c.in_ok-make.ensures.carries whole _ start
    (as_left (slice_few c.args.workpiece.now.settings c.args.cli.now part (solid_of c.args.workpiece.now.tree.now)
    (subst (λ n. n ≤ layer_limit) c.in_ok-count_layers.ensures.count c.in_ok-count_layers.ensures.few)) left)))

pub returns-in_err-line-clause-completes : goal.returns-in_err-line-clause-completes
returns-in_err-line-clause-completes g c part of_part whole start left =
    stops_all whole _ Stop.Memory start _ (search rules) (
      _,
      c.in_ok-written.ensures.carries part of_part whole _ start
          (c.in_ok-make.ensures.carries whole _ start
          (as_left (slice_few c.args.workpiece.now.settings c.args.cli.now part (solid_of c.args.workpiece.now.tree.now)
          (subst (λ n. n ≤ layer_limit) c.in_ok-count_layers.ensures.count c.in_ok-count_layers.ensures.few)) left)),
    )

pub returns-clause-completes : goal.returns-clause-completes
returns-clause-completes g c part of_part whole start left =
    as_left
    (slice_ends c.args.workpiece.now.settings part (layer_count c.args.workpiece.now.settings.layer_height (solid_of c.args.workpiece.now.tree.now))
    c.in_ok-written.written c.from_vec.result
    (c.in_ok-written.ensures.written part of_part) (search rules))
    (c.in_ok-written.ensures.carries part of_part whole _ start
    (c.in_ok-make.ensures.carries whole _ start
    (as_left (slice_few c.args.workpiece.now.settings c.args.cli.now part (solid_of c.args.workpiece.now.tree.now)
    (subst (λ n. n ≤ layer_limit) c.in_ok-count_layers.ensures.count c.in_ok-count_layers.ensures.few)) left)))
