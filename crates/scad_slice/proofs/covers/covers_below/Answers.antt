use Rattle.std.proofs.Common.{◌<◌, List, Err, refl, sym, ap, ◌∙◌, subst, rules, arith}
use Rattle.plan_support.specs.Covers.{AreCovers, AreTooMany}
use Rattle.plan_support.specs.Rows.{Row}
use Rattle.scad_tree.specs.View.{solid_of}
use Rattle.slice_work.specs.declared.want.Want.TheVariants.{Plan}
use Rattle.scad_slice.specs.Covers.{IsPassedByAll}
use Rattle.scad_slice.proofs.Survey.{covers_are, too_many, one_over}
use Rattle.scad_slice.proofs.covers.covers_below.Goals as goal

pub returns-in-Ok-clause-fits : goal.returns-in-Ok-clause-fits
returns-in-Ok-clause-fits g c =
    let s = c.args.workpiece.now.settings in
    let spaced : 0 < s.support_spacing = search (rules, arith) in
    covers_are s (solid_of c.args.workpiece.now.tree.now) c.in_ok-rows.rows.items c.in-Ok.covers spaced
    c.in_ok-rows.ensures.rows
    (subst (λ (rows : List (List Row)). AreCovers rows c.in-Ok.covers) c.deref.ensures.value c.in-Ok.ensures.covers)
    c.in-Ok.ensures.rows c.in-Ok.ensures.within

pub returns-clause-over : goal.returns-clause-over
returns-clause-over g c budget is =
    let s = c.args.workpiece.now.settings in
    let tree = solid_of c.args.workpiece.now.tree.now in
    let runs = c.in-Err-Runs.runs in
    let spaced : 0 < s.support_spacing = search (rules, arith) in
    subst (IsPassedByAll Plan s tree)
    (sym c.support_runs.ensures ∙ one_over c.support_runs.result budget _ _ refl refl is)
    (too_many s tree c.in_ok-rows.rows.items runs spaced c.in_ok-rows.ensures.rows
    (subst (λ (rows : List (List Row)). AreTooMany rows runs) c.deref.ensures.value
    (c.covers.ensures.runs runs (c.in-Err-Runs.is ∙ ap Err c.in-Err-Runs.field-0-is))))
