use Rattle.std.proofs.Common.{map}
use Rattle.scad_ast.specs.Text.{parameters_text}
use Rattle.scad_ast.specs.Scope.{parameter}
use Rattle.text_scan.proofs.Printed.{none, four, that, next, last}
use Rattle.scad_ast.proofs.printing.statement.write_params.Goals as goal

pub params-init : goal.params-init
params-init c = λ end rest. rest

pub params-preserved : goal.params-preserved
params-preserved c = λ end rest.
    c.params.invariant end
    (that (next (λ all. parameters_text c.params.first (map parameter all)) c.deref-param-items.ensures.value
    c.params-test.true c.param-item.is)
    (four c.write_separator.ensures c.write_word.ensures c.write_default.ensures rest))

pub returns : goal.returns
returns c =
    c.params.invariant _
    (that (last (λ all. parameters_text c.params.first (map parameter all)) c.deref-param-items.ensures.value
    c.params-test.false)
    (none c.params.out))
