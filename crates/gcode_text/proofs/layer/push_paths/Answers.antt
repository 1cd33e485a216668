use Rattle.std.proofs.Common.{refl, arith, ◌∙◌}
use Rattle.text_scan.proofs.Printed.{none, two, that}
use Rattle.gcode_text.proofs.Steps.{next_path_text, next_path_volume, next_path_room, no_more_paths, no_more_paths_volume}
use Rattle.gcode_text.proofs.layer.push_paths.Goals as goal

pub paths-init : goal.paths-init
paths-init c = record { text = λ end rest. rest; volume = refl; small = omega arith }

pub paths-preserved : goal.paths-preserved
paths-preserved c =
    let is = c.as_slice.ensures ∙ c.path-item.is in
    record {
      text = λ end rest. c.paths.invariant.text end (that (next_path_text c.args.rates.now c.paths.sum
          c.push_path-sum.result c.args.paths.now c.paths.path-index c.as_slice.result.now c.path-item.result
          c.paths-test.true is c.push_path-sum.ensures.volume) (two c.push_path-sum.ensures.text rest));
      volume = next_path_volume c.args.rates.now c.paths.sum c.push_path-sum.result _ c.args.paths.now
          c.paths.path-index c.as_slice.result.now c.path-item.result c.paths-test.true is c.paths.invariant.volume
          c.push_path-sum.ensures.volume;
      small = next_path_room c.paths.sum c.push_path-sum.result _ c.args.paths.now c.paths.path-index
          c.as_slice.result.now c.path-item.result c.paths-test.true is c.paths.invariant.small
          c.push_path-sum.ensures.small;
    }

pub returns-clause-text : goal.returns-clause-text
returns-clause-text c =
    c.paths.invariant.text _
    (that (no_more_paths c.args.rates.now c.paths.sum c.args.paths.now c.paths.path-index c.paths-test.false)
    (none c.paths.out))

pub returns-clause-volume : goal.returns-clause-volume
returns-clause-volume c =
    no_more_paths_volume c.args.rates.now c.paths.sum _ c.args.paths.now c.paths.path-index c.paths-test.false
    c.paths.invariant.volume

pub push_path-sum-requires-clause-width : goal.push_path-sum-requires-clause-width
push_path-sum-requires-clause-width c = c.requires.width

pub push_path-sum-requires-clause-height : goal.push_path-sum-requires-clause-height
push_path-sum-requires-clause-height c = c.requires.height

pub push_path-sum-requires-clause-area : goal.push_path-sum-requires-clause-area
push_path-sum-requires-clause-area c = c.requires.area
