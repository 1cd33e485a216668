use Rattle.std.proofs.Common.{◌≡◌, ◌++◌, ◌-◌, map}
use Rattle.std.specs.List.{list_all, range_with_len}
use Rattle.scad_shapes.specs.Pushes.{ring_in_range}
use Rattle.scad_extrude.specs.Revolution.{turned_ring_at, turned_rings}
use Rattle.scad_extrude.proofs.turns.turns.Given as goal

-- the rings so far are in range, and with those left they are all
abbrev pub invariant-turns : goal.invariant-turns
invariant-turns l = record {
  made : l.rings.items ++ map (turned_ring_at l.ring l.n l.m) (range_with_len l.j (l.n - l.j)) ≡ turned_rings l.ring l.n
      l.m;
  ranged : list_all ring_in_range (turned_rings l.ring l.n l.m) ≡ list_all ring_in_range
      (map (turned_ring_at l.ring l.n l.m) (range_with_len l.j (l.n - l.j)));
}
