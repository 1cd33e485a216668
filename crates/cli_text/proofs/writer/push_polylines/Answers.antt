use Rattle.std.proofs.Common.{refl, ◌∙◌}
use Rattle.std.specs.List.{flat_map}
use Rattle.text_scan.proofs.Printed.{none, two, that, next_or, last}
use Rattle.cli_text.specs.Cli.{polyline_text}
use Rattle.cli_text.proofs.writer.push_polylines.Goals as goal

pub loops-init : goal.loops-init
loops-init c = λ end rest. rest

pub loops-preserved : goal.loops-preserved
loops-preserved c = λ end rest.
    c.loops.invariant end
    (that (next_or (flat_map polyline_text) _ {there = c.args.loops.now} refl c.loops-test.true
    (c.as_slice.ensures ∙ c.outline-item.is))
    (two c.push_polyline.ensures rest))

pub returns : goal.returns
returns c =
    c.loops.invariant _
    (that (last (flat_map polyline_text) {there = c.args.loops.now} refl c.loops-test.false) (none c.loops.out))
