use Rattle.std.proofs.Common.{◌≡◌, length}
use Rattle.cli_read.specs.Reading.{words_behind, points_at}
use Rattle.cli_read.proofs.Fronts.{with_front}
use Rattle.cli_read.proofs.points.points_at.Given as goal

abbrev pub invariant-points : goal.invariant-points
invariant-points l = with_front l.points.items (points_at l.n (words_behind l.rest)) ≡ points_at l.n
    (words_behind l.fn.text)

abbrev pub decreases-points : goal.decreases-points
decreases-points l = length l.rest
