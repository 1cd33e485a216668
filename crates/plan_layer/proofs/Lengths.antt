-- The moves of plans have a length.
use Rattle.std.proofs.Common.{◌≤◌, sym, arith}
use Rattle.slice_loops.specs.Lengths.{HasLength}
use Rattle.plan_infill.proofs.Lengths.{runs_have_lengths}
use Rattle.plan_walls.proofs.Lengths.{walls_have_lengths}
use Rattle.scad_words.specs.declared.settings.Settings.{Settings}
use Rattle.scad_words.specs.Settings.{AreInRange}
use Rattle.plan_layer.specs.Plan.{distance}
use Rattle.plan_layer.specs.Infill.{line_at, depth}
use Rattle.plan_layer.specs.Lengths.{PlansHaveLengths}
use Rattle.plan_layer.proofs.Each.{plan_holds}

some_width : (s : Settings) → AreInRange s → 1 ≤ s.line_width
some_width s range = let least = range.line_width.least in omega (arith, least)

pub plans_have_lengths : PlansHaveLengths
plans_have_lengths outlines layer s paths runs range p =
    plan_holds HasLength outlines layer s
    (record {
      walls = λ k loops are. walls_have_lengths (distance s.line_width k) outlines loops are;
      there = λ z r is. runs_have_lengths outlines (depth s) (line_at layer z) s.line_width r (some_width s range) is;
      back = λ z r is same.
          runs_have_lengths outlines (depth s) (line_at layer z) s.line_width r (some_width s range) is (sym same);
    })
    paths runs p
