use Rattle.std.proofs.Common.{◌≡◌, ◌++◌, ◌-◌, drop}
use Rattle.slice_border.specs.Pieces.{flat_pieces}
use Rattle.slice_border.specs.Stops.{spots_in}
use Rattle.slice_bool.proofs.flat.push_stretches.Given as goal

abbrev pub invariant-stops : goal.invariant-stops
invariant-stops l = l.out.items ++ flat_pieces l.sweep.edges.now l.sweep.shape.now (drop (l.i - 1) (spots_in l.stops))
    ≡ l.fn.out.items ++ flat_pieces l.sweep.edges.now l.sweep.shape.now (spots_in l.stops)
