use Rattle.std.proofs.Common.{◌≡◌, ◌-◌, length, None}
use Rattle.layer_board.specs.Calls.{view, layers_of, IsOf}
use Rattle.run_samples.proofs.boards.draw.Given as goal

abbrev pub invariant-loop-n : goal.invariant-loop-n
invariant-loop-n l = IsOf l.board l.pass × ((view l.pass).pending ≡ None) × (length (view l.pass).members ≡ 1)

abbrev pub decreases-loop-n : goal.decreases-loop-n
decreases-loop-n l = layers_of l.board - length (view l.pass).drawn
