use Rattle.std.proofs.Common.{◌≡◌, take}
use Rattle.std.specs.Prelude.{map, All}
use Rattle.slice_snap.specs.EndOrder.{end_of, spots_in, IsEndOf}
use Rattle.slice_snap.proofs.end_order.ends.Given as goal

abbrev pub invariant-pieces : goal.invariant-pieces
invariant-pieces l = record {
  spots : spots_in l.ends.items ≡ map (end_of l.start) (take l.place l.pieces);
  each : All (IsEndOf l.start l.pieces) l.ends.items;
}
