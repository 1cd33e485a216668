use Rattle.std.proofs.Common.{refl}
use Rattle.std.specs.List.{flat_map}
use Rattle.text_scan.proofs.Printed.{none, two, that, next_or, last}
use Rattle.cli_text.specs.Cli.{point_text}
use Rattle.cli_text.proofs.polyline.push_points.Goals as goal

pub points-init : goal.points-init
points-init c = λ end rest. rest

pub points-preserved : goal.points-preserved
points-preserved c = λ end rest.
    c.points.invariant end
    (that (next_or (flat_map point_text) _ {there = c.args.points.now} refl c.points-test.true refl)
    (two c.push_point.ensures rest))

pub returns : goal.returns
returns c =
    c.points.invariant _
    (that (last (flat_map point_text) {there = c.args.points.now} refl c.points-test.false) (none c.points.out))
