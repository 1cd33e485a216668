use Rattle.std.proofs.Common.{◌≡◌, ◌+◌, ◌-◌, map, All, vec_len}
use Rattle.layer_board.specs.Pass.{opened}
use Rattle.layer_board.specs.Calls.{view, layers_of, workers_of, IsOf, IsFresh, AreSplit}
use Rattle.layer_board.proofs.board.Board.new.Given as goal

abbrev pub invariant-loop-made : goal.invariant-loop-made
invariant-loop-made l =
    (layers_of l.board ≡ l.count) × (workers_of l.board ≡ l.workers) × IsOf l.board l.first
    × (view l.first ≡ record (opened l.count) { given = l._made })
    × All (IsFresh l.board) l.passes.items × (vec_len l.passes + 1 ≡ l._made)
    × AreSplit l.count (l._made - 1) (view l.first) (map view l.passes.items)
