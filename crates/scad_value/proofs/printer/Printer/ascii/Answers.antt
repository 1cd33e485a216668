use Rattle.std.proofs.Common.{refl, sym}
use Rattle.std.proofs.lemmas.List.{drop_more}
use Rattle.text_scan.proofs.Printed.{none, two, that, last}
use Rattle.scad_value.proofs.printer.Printer.ascii.Goals as goal

pub bytes-init : goal.bytes-init
bytes-init c = λ end rest. rest

pub bytes-preserved : goal.bytes-preserved
bytes-preserved c = λ end rest.
    c.bytes.invariant end
    (that (sym (drop_more c.args.text.now c.bytes.b-index 0 c.bytes-test.true)) (two c.put.ensures rest))

pub returns : goal.returns
returns c =
    c.bytes.invariant _ (that (last (λ all. all) {there = c.args.text.now} refl c.bytes-test.false) (none c.bytes.self))
