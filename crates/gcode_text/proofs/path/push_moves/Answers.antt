use Rattle.std.proofs.Common.{pos, refl, arith}
use Rattle.text_scan.proofs.Printed.{none, two, that}
use Rattle.gcode_text.proofs.Steps.{next_move_text, next_move_volume, no_more_moves, no_more_volume}
use Rattle.gcode_text.proofs.path.push_moves.Goals as goal

pub points-init : goal.points-init
points-init c = record { text = λ end rest. rest; volume = refl; small = omega arith }

pub points-preserved : goal.points-preserved
points-preserved c = record {
  text = λ end rest. c.points.invariant.text end (that (next_move_text c.args.rates.now c.points.sum
      c.push_move-sum.result c.points.from c.args.rest.now c.points.to-index (record { x = pos 0; y = pos 0 })
      c.points-test.true c.push_move-sum.ensures.volume) (two c.push_move-sum.ensures.text rest));
  volume = next_move_volume c.args.rates.now c.points.sum c.push_move-sum.result _ c.points.from c.args.rest.now
      c.points.to-index (record { x = pos 0; y = pos 0 }) c.points-test.true c.points.invariant.volume
      c.push_move-sum.ensures.volume;
  small = omega arith;
}

pub returns-clause-text : goal.returns-clause-text
returns-clause-text c =
    c.points.invariant.text _
    (that (no_more_moves c.args.rates.now c.points.sum c.points.from c.args.rest.now c.points.to-index
    c.points-test.false) (none c.points.out))

pub returns-clause-volume : goal.returns-clause-volume
returns-clause-volume c =
    no_more_volume c.args.rates.now c.points.sum _ c.points.from c.args.rest.now c.points.to-index c.points-test.false
    c.points.invariant.volume

pub push_move-sum-requires-clause-width : goal.push_move-sum-requires-clause-width
push_move-sum-requires-clause-width c = c.requires.width

pub push_move-sum-requires-clause-height : goal.push_move-sum-requires-clause-height
push_move-sum-requires-clause-height c = c.requires.height

pub push_move-sum-requires-clause-area : goal.push_move-sum-requires-clause-area
push_move-sum-requires-clause-area c = c.requires.area
