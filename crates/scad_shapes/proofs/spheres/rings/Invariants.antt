use Rattle.std.proofs.Common.{◌≡◌, ◌++◌, ◌-◌, map}
use Rattle.std.specs.List.{list_all, range_with_len}
use Rattle.scad_shapes.specs.Pushes.{ring_in_range}
use Rattle.scad_shapes.specs.Rings.{sphere_ring_at, sphere_rings_of}
use Rattle.scad_shapes.proofs.spheres.rings.Given as goal

-- the rings so far are in range, and with those left they are all
abbrev pub invariant-rings : goal.invariant-rings
invariant-rings l = record {
  made : l.rings.items ++ map (sphere_ring_at l.r l.n l.m) (range_with_len l.i (l.count - l.i)) ≡ sphere_rings_of l.r
      l.n l.m;
  ranged : list_all ring_in_range (sphere_rings_of l.r l.n l.m) ≡ list_all ring_in_range
      (map (sphere_ring_at l.r l.n l.m) (range_with_len l.i (l.count - l.i)));
}
