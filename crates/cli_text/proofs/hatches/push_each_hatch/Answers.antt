use Rattle.std.proofs.Common.{refl}
use Rattle.std.specs.List.{flat_map}
use Rattle.text_scan.proofs.Printed.{none, two, that, next_or, last}
use Rattle.cli_text.specs.Cli.{hatch_text}
use Rattle.cli_text.proofs.hatches.push_each_hatch.Goals as goal

pub hatches-init : goal.hatches-init
hatches-init c = λ end rest. rest

pub hatches-preserved : goal.hatches-preserved
hatches-preserved c = λ end rest.
    c.hatches.invariant end
    (that (next_or (flat_map hatch_text) _ {there = c.args.hatches.now} refl c.hatches-test.true refl)
    (two c.push_hatch.ensures rest))

pub returns : goal.returns
returns c =
    c.hatches.invariant _
    (that (last (flat_map hatch_text) {there = c.args.hatches.now} refl c.hatches-test.false) (none c.hatches.out))
