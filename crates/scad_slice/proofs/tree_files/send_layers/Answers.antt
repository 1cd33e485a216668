use Rattle.std.proofs.Common.{Err, sym, ap, ◌∙◌, subst}
use Rattle.std.specs.Option.{option_copied}
use Rattle.scad_fault.specs.declared.budget.Budget.{Budget}
use Rattle.scad_script.specs.declared.stop.Stop.{Stop}
use Rattle.scad_script.specs.declared.refusal.Refusal.TheVariants.{Over}
use Rattle.scad_script.specs.Script.{Refuses, ends, layers}
use Rattle.scad_script.specs.Play.{Left, Stops, Carries}
use Rattle.scad_tree.specs.View.{solid_of}
use Rattle.slice_work.specs.declared.summary.Summary.{Summary}
use Rattle.slice_work.specs.Rates.{rates_of}
use Rattle.slice_work.specs.Script.{layer_steps, stop_of}
use Rattle.slice_work.specs.Sums.{IsSummary}
use Rattle.scad_slice.proofs.BudgetBefore.{refuses_all}
use Rattle.scad_slice.proofs.Survey.{Drawing, drawing, drawing_same, Draws}
use Rattle.scad_slice.proofs.tree_files.send_layers.Goals as goal

pub returns-in-Err-Over-clause-carries : goal.returns-in-Err-Over-clause-carries
returns-in-Err-Over-clause-carries g c part of_part whole rest start left =
    let budget = c.in-Err-Over.budget in
    subst (λ (b : Budget). Left whole (ends (Refuses (Over b))) start (g.D.Desk.view c.args.desk.now))
    (sym c.in-Err-Over.budget-is)
    (refuses_all c.args.want c.args.workpiece.now.settings (solid_of c.args.workpiece.now.tree.now) part c.args.count
    budget c.are_solids.ensures c.args.workpiece.now.in_range c.requires.counted of_part
    (c.covers_of.ensures.over budget (c.in-Err-Over.is ∙ ap Err c.in-Err-Over.field-0-is)) whole rest start _ left)

pub returns-in-Ok-work-clause-told : goal.returns-in-Ok-work-clause-told
returns-in-Ok-work-clause-told g c part of_part =
    let made = c.work_on-layers.result in
    let is = c.work_on-layers.ensures in
    let same = drawing_same
    (drawing made.print.want made.print.settings (solid_of made.tree.now) (option_copied made.covers))
    (drawing c.args.want c.args.workpiece.now.settings (solid_of c.args.workpiece.now.tree.now) c.in-Ok.covers)
    is.want is.settings (ap solid_of is.tree) (is.covers ∙ c.as_ref.ensures.value) in
    subst (λ (d : Drawing). IsSummary d.want (rates_of d.s) part c.args.count c.in-Ok-work.told) same
    (c.in-Ok-work.ensures.summary part (subst (Draws part) (sym same) (c.in-Ok.ensures.fits, of_part)))

pub returns-clause-carries : goal.returns-clause-carries
returns-clause-carries g c part of_part whole rest start left =
    let made = c.work_on-layers.result in
    let is = c.work_on-layers.ensures in
    let same = drawing_same
    (drawing made.print.want made.print.settings (solid_of made.tree.now) (option_copied made.covers))
    (drawing c.args.want c.args.workpiece.now.settings (solid_of c.args.workpiece.now.tree.now) c.in-Ok.covers)
    is.want is.settings (ap solid_of is.tree) (is.covers ∙ c.as_ref.ensures.value) in
    subst (λ (stop : Stop). Stops whole stop start (g.D.Desk.view c.work.new.desk)) (sym c.stop_of.ensures)
    (subst (λ (d : Drawing).
    Carries {T = Summary} (layers (layer_steps d.want (rates_of d.s) part) 0 c.args.count)
    (Err (stop_of c.in-Err.fault)) (g.D.Desk.view c.args.desk.now) (g.D.Desk.view c.work.new.desk)) same
    (c.in-Err.ensures.carries part (subst (Draws part) (sym same) (c.in-Ok.ensures.fits, of_part))) whole rest start
    left)
