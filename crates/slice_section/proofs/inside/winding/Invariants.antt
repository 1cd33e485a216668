use Rattle.std.proofs.Common.{◌≡◌, ◌≤◌, ◌+ℤ◌, drop, unsigned_abs, true}
use Rattle.std.specs.List.{list_all}
use Rattle.scad_geom.specs.Point.{halves}
use Rattle.scad_geom.specs.Winding.{wind}
use Rattle.scad_solid.specs.Cut.{cuts_of}
use Rattle.scad_solid.specs.Range.{is_triangle_in_range}
use Rattle.slice_section.proofs.inside.winding.Given as goal

-- the sum so far has one turn of at most 1 for each triangle, and what is left completes it
abbrev pub invariant-triangles : goal.invariant-triangles
invariant-triangles l = record {
  small : unsigned_abs l.sum ≤ l.triangle-index;
  sum : wind (halves l.x l.y) (cuts_of l.plane l.triangles) ≡ l.sum +ℤ wind (halves l.x l.y)
      (cuts_of l.plane (drop l.triangle-index l.triangles));
  in_range : list_all is_triangle_in_range (drop l.triangle-index l.triangles) ≡ true;
}
