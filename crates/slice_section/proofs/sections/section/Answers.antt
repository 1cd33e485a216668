use Rattle.std.proofs.Common.{FitsSigned, to_z, of_z, ◌++◌, ap₂, ap, sym, subst, ◌∙◌, ◌≡◌}
use Rattle.std.specs.List.{list_all}
use Rattle.std.proofs.lemmas.Int.{to_z-of_z}
use Rattle.std.proofs.lemmas.List.{append-nil, at_drop_all}
use Rattle.scad_geom.specs.Segment.{segments}
use Rattle.scad_geom.specs.Balance.{IsBalanced}
use Rattle.scad_solid.specs.Range.{is_triangle_in_range}
use Rattle.slice_section.specs.Section.{edges_at, section_of}
use Rattle.slice_section.proofs.Edges.{edges_at-more, in_range-here, in_range-later}
use Rattle.slice_section.proofs.Balance.{IsBalanced-section_of}
use Rattle.slice_section.proofs.sections.section.Goals as goal
use mir.Syntax.{w128}

pub loop-triangle-init : goal.loop-triangle-init
loop-triangle-init c = record {
  made = ap (λ es. es ++ edges_at (to_z w128 (of_z w128 c.plane_of-plane.result)) c.as_slice-triangle-items.result.now)
      c.new-edges.ensures.items;
  in_range = ap (list_all is_triangle_in_range) c.as_slice-triangle-items.ensures.all ∙
      c.as_slice-triangle-items.ensures.solid.in_range;
}

pub push_edge-requires : goal.push_edge-requires
push_edge-requires c = in_range-here c.as_slice-triangle-items.result.now c.loop-triangle.triangle-index _
    c.loop-triangle-test.true c.loop-triangle.invariant.in_range

pub loop-triangle-preserved : goal.loop-triangle-preserved
loop-triangle-preserved c = record {
  made = edges_at-more (to_z w128 (of_z w128 c.plane_of-plane.result)) c.as_slice-triangle-items.result.now
      c.loop-triangle.triangle-index _ _ _ _ c.loop-triangle-test.true c.loop-triangle.invariant.made
      c.in_ok-push_edge.ensures;
  in_range = in_range-later c.as_slice-triangle-items.result.now c.loop-triangle.triangle-index
      c.loop-triangle-test.true c.loop-triangle.invariant.in_range;
}

told : (c : goal.After-loop-triangle) → c.loop-triangle.edges.items ≡ section_of c.args.solid.now c.args.layer c.args.h
told c =
    let fits : FitsSigned w128 c.plane_of-plane.result = record { sfits = c.plane_of-plane.type_inv } in
    let made = simp to_z-of_z at c.loop-triangle.invariant.made in
    sym (ap (λ es. c.loop-triangle.edges.items ++ es) (at_drop_all (edges_at c.plane_of-plane.result)
    c.as_slice-triangle-items.result.now c.loop-triangle.triangle-index c.loop-triangle-test.false) ∙ append-nil
    c.loop-triangle.edges.items)
    ∙ made ∙ ap₂ edges_at c.plane_of-plane.ensures c.as_slice-triangle-items.ensures.all

pub returns-clause-edges : goal.returns-clause-edges
returns-clause-edges c = told c

pub returns-clause-balanced : goal.returns-clause-balanced
returns-clause-balanced c = subst (λ es. IsBalanced (segments es)) (sym (told c))
    (IsBalanced-section_of c.args.solid.now c.args.layer c.args.h c.as_slice-triangle-items.ensures.solid.closed)
