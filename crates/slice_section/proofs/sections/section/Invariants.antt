use Rattle.std.proofs.Common.{◌≡◌, ◌++◌, drop, true}
use Rattle.std.specs.List.{list_all}
use Rattle.scad_solid.specs.Range.{is_triangle_in_range}
use Rattle.slice_section.specs.Section.{edges_at}
use Rattle.slice_section.proofs.sections.section.Given as goal

-- the edges so far and those of the triangles left are all
abbrev pub invariant-loop-triangle : goal.invariant-loop-triangle
invariant-loop-triangle l = record {
  made : l.edges.items ++ edges_at l.plane (drop l.triangle-index l.triangle-items) ≡ edges_at l.plane l.triangle-items;
  in_range : list_all is_triangle_in_range (drop l.triangle-index l.triangle-items) ≡ true;
}
