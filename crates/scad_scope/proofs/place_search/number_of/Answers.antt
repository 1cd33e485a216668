use Rattle.std.proofs.Common.{arith}
use Rattle.scad_scope.proofs.ListedValues.{number-here, number-other, number-none}
use Rattle.scad_scope.proofs.place_search.number_of.Goals as goal

pub returns-then-entry-place : goal.returns-then-entry-place
returns-then-entry-place c =
    let here = number-here c.args.place c.args.all.now c.entries.entry-index c.entry-item.result (omega arith)
    c.entry-item.is (omega arith) in
    omega (arith, here, c.entries.invariant.counted, c.entries.invariant.number)

pub entries-preserved : goal.entries-preserved
entries-preserved c =
    let other = number-other c.args.place c.args.all.now c.entries.entry-index c.entry-item.result (omega arith)
    c.entry-item.is (λ same. omega (arith, same)) in
    record {
      counted = omega (arith, c.entries.invariant.counted);
      number = omega (arith, other, c.entries.invariant.number);
    }

pub returns : goal.returns
returns c =
    let none = number-none c.args.place c.args.all.now c.entries.entry-index (omega arith) in
    omega (arith, none, c.entries.invariant.counted, c.entries.invariant.number)
