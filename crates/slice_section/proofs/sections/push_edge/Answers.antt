use Rattle.std.proofs.Common.{◌++◌, not, ap, sym, ◌∙◌}
use Rattle.std.proofs.lemmas.Int.{to_z-of_z}
use Rattle.std.proofs.lemmas.List.{append-nil}
use Rattle.scad_geom.proofs.Balance.{same_whole}
use Rattle.slice_section.proofs.Edges.{edges_at-some, edges_at-flat, edges_at-none}
use Rattle.slice_section.proofs.sections.push_edge.Goals as goal

pub returns-in_ok-push-in-Some : goal.returns-in_ok-push-in-Some
returns-in_ok-push-in-Some c =
    let plane_fits = c.ranges.plane in
    let is = sym c.in-Some.is ∙ simp to_z-of_z at c.edge_of.ensures in
    c.in_ok-push-in-Some.ensures.items ∙ ap (λ es. c.args.edges.now.items ++ es)
    (sym (edges_at-some c.args.plane c.args.triangle.now c.in-Some.edge is
    (ap not (same_whole c.in-Some.edge.a c.in-Some.edge.b) ∙ sym c.ne.ensures ∙ c.if-ne.true)))

pub returns-else-ne : goal.returns-else-ne
returns-else-ne c =
    let plane_fits = c.ranges.plane in
    let is = sym c.in-Some.is ∙ simp to_z-of_z at c.edge_of.ensures in
    sym (ap (λ es. c.args.edges.now.items ++ es) (edges_at-flat c.args.plane c.args.triangle.now c.in-Some.edge is
    (ap not (same_whole c.in-Some.edge.a c.in-Some.edge.b) ∙ sym c.ne.ensures ∙ c.if-ne.false)) ∙ append-nil
    c.args.edges.now.items)

pub returns-in-None : goal.returns-in-None
returns-in-None c =
    let plane_fits = c.ranges.plane in
    let is = sym c.in-None.is ∙ simp to_z-of_z at c.edge_of.ensures in
    sym (ap (λ es. c.args.edges.now.items ++ es) (edges_at-none c.args.plane c.args.triangle.now is) ∙ append-nil
    c.args.edges.now.items)
