-- The outlines that are told are those that were read.
use Rattle.std.proofs.Common.{◌≡◌, true, List, Vec}
use Rattle.std.specs.List.{list_all}
use Rattle.std.specs.Global.{Global}
use Rattle.std.proofs.lemmas.Result.{err_from_is_err_and}
use Rattle.scad_ast.specs.declared.expression.Arg.{Arg}
use Rattle.scad_ast.specs.View.{arguments}
use Rattle.scad_value.specs.View.{data_of}
use Rattle.scad_modules.specs.declared.outline.Outline.{Outline}
use Rattle.scad_modules.specs.FlatShapes.{outlines_of}
use Rattle.scad_modules.specs.Outline.{is_outline}
use Rattle.scad_modules.specs.Shapes.{Fineness}
use Rattle.scad_modules.specs.View.{outlines}
use Rattle.scad_machine.specs.Machine.{state_of}
use Rattle.scad_leaves.proofs.Fine.{not-refused}
use Rattle.scad_leaves.proofs.Readings.{called-read, told-holds}
use Rattle.scad_leaves.proofs.shapes.called_outlines.Goals as goal

pub returns-in_err-fine-clause-does : goal.returns-in_err-fine-clause-does
returns-in_err-fine-clause-does c =
    let p = err_from_is_err_and c.from_residual.result c.from_residual.ensures.1 in
    rw (p.1, p.2) (λ some. not-refused _ _ _ _ _ (c.in_err-fine.ensures some))

pub returns-in_err-fine-clause-outlines : goal.returns-in_err-fine-clause-outlines
returns-in_err-fine-clause-outlines c =
    rw (err_from_is_err_and c.from_residual.result c.from_residual.ensures.1).1 tt

pub returns-clause-does : goal.returns-clause-does
returns-clause-does c =
    let s = state_of c.args.m.now in
    called-read (λ (v : Vec Outline Global). outlines v.items)
    (λ (f : Fineness) (xs : List Arg). outlines_of c.args.flat f (arguments xs) (data_of c.args.found.now))
    _ _ c.args.call.args.now.items c.deref.result.now c.outlines_of-read.result c.args.call.at c.args.call.name.now s
    c.argued.result c.in_ok-fine.ensures c.deref.ensures.value c.outlines_of-read.ensures.reads
    (c.argued.ensures.argued s)

pub returns-clause-outlines : goal.returns-clause-outlines
returns-clause-outlines c =
    told-holds (λ (v : Vec Outline Global). list_all is_outline (outlines v.items) ≡ true) c.outlines_of-read.result
    c.argued.result c.argued.ensures.same c.outlines_of-read.ensures.outlines
