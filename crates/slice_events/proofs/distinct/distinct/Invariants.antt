use Rattle.std.proofs.Common.{◌≡◌, ◌++◌, drop}
use Rattle.std.specs.List.{All}
use Rattle.scad_geom.specs.Limits.{coordinate_limit}
use Rattle.scad_geom.specs.Level.{IsLevelWithin}
use Rattle.slice_events.specs.Collection.{levels_in, is_lower}
use Rattle.slice_events.specs.Distinct.{distinct_by}
use Rattle.slice_events.proofs.distinct.distinct.Given as goal

abbrev pub invariant-heights : goal.invariant-heights
invariant-heights l = record {
  kept : l.out.items ++ distinct_by is_lower (drop l.i (levels_in l.heights))
      ≡ distinct_by is_lower (levels_in l.heights);
  within : All (IsLevelWithin coordinate_limit) l.out.items;
}
