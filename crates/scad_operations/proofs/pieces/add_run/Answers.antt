use Rattle.std.proofs.Common.{◌++◌, List, sym, ap, arith}
use Rattle.std.proofs.lemmas.List.{length-map}
use Rattle.scad_value.specs.Datum.{Datum}
use Rattle.scad_value.specs.View.{datum_of, data_in}
use Rattle.scad_operations.proofs.Parts.{alike-left}
use Rattle.scad_operations.proofs.RunsLeft.{items-range}
use Rattle.scad_operations.proofs.pieces.add_run.Goals as goal

pub numbers-init : goal.numbers-init
numbers-init c = ap (λ (l : List Datum). data_in c.args.out.now ++ l)
    (sym (items-range c.args.start c.args.step c.args.end))

-- past the limit of steps the rest is left out
pub returns-then-len : goal.returns-then-len
returns-then-len c =
    let count = length-map c.numbers.out.items datum_of in
    alike-left (data_in c.numbers.out) _ c.numbers.next c.args.step c.args.end
    (omega (arith, count, c.len.ensures, c.if-len.true)) c.numbers.invariant
