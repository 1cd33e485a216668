-- The primitive that is told is the one that was read.
use Rattle.std.proofs.Common.{◌≡◌, true, List}
use Rattle.std.proofs.lemmas.Result.{err_from_is_err_and}
use Rattle.scad_ast.specs.declared.expression.Arg.{Arg}
use Rattle.scad_ast.specs.View.{arguments}
use Rattle.scad_value.specs.View.{data_of}
use Rattle.scad_modules.specs.declared.primitive.Primitive.{Primitive}
use Rattle.scad_modules.specs.Primitive.{is_primitive}
use Rattle.scad_modules.specs.Shapes.{Fineness, primitive_of}
use Rattle.scad_modules.specs.View.{primitive}
use Rattle.scad_machine.specs.Machine.{state_of}
use Rattle.scad_leaves.proofs.Fine.{not-refused}
use Rattle.scad_leaves.proofs.Readings.{called-read, told-holds}
use Rattle.scad_leaves.proofs.shapes.called_primitive.Goals as goal

pub returns-in_err-fine-clause-does : goal.returns-in_err-fine-clause-does
returns-in_err-fine-clause-does c =
    let p = err_from_is_err_and c.from_residual.result c.from_residual.ensures.1 in
    rw (p.1, p.2) (λ some. not-refused _ _ _ _ _ (c.in_err-fine.ensures some))

pub returns-clause-does : goal.returns-clause-does
returns-clause-does c =
    let s = state_of c.args.m.now in
    called-read primitive
    (λ (f : Fineness) (xs : List Arg). primitive_of c.args.shape f (arguments xs) (data_of c.args.found.now))
    _ _ c.args.call.args.now.items c.deref.result.now c.primitive_of-read.result c.args.call.at c.args.call.name.now s
    c.argued.result c.in_ok-fine.ensures c.deref.ensures.value c.primitive_of-read.ensures.reads
    (c.argued.ensures.argued s)

pub returns-clause-primitive : goal.returns-clause-primitive
returns-clause-primitive c =
    told-holds (λ (p : Primitive). is_primitive (primitive p) ≡ true) c.primitive_of-read.result
    c.argued.result c.argued.ensures.same c.primitive_of-read.ensures.primitive
