use Rattle.std.proofs.Common.{ℕ, take, pos, ◌-ℤ◌}
use lib.Signed.{◌≤ℤ◌}
use Rattle.std.specs.Prelude.{All}
use Rattle.scad_geom.specs.Within.{IsEdgeWithin}
use Rattle.plan_infill.specs.Extent.{IsEdgeAmong}
use Rattle.plan_infill.proofs.extent.extent_of.Given as goal

abbrev pub invariant-sides : goal.invariant-sides
invariant-sides l = record {
  among : All (IsEdgeAmong l.rows l.extent.low l.extent.high) (take l.side-index l.sides);
  from : (limit : ℕ) → All (IsEdgeWithin limit) l.sides → (pos 0 -ℤ pos limit) ≤ℤ l.extent.low;
  to : (limit : ℕ) → All (IsEdgeWithin limit) l.sides → l.extent.high ≤ℤ pos limit;
}
