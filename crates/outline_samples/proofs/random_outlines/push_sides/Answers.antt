-- One more outline's sides are closed and in range.
use Rattle.std.proofs.Common.{◌≡◌, List, [], map, flat_map, sym, subst, ◌∙◌}
use Rattle.std.specs.Prelude.{All}
use Rattle.std.proofs.lemmas.List.Elements.{All-append, All-map, All-cons, All-nil}
use Rattle.scad_geom.specs.declared.point.Pt.{Pt}
use Rattle.scad_geom.specs.declared.point.Edge.{Edge}
use Rattle.scad_geom.specs.declared.level.LeafEdge.{LeafEdge}
use Rattle.scad_geom.specs.Limits.{coordinate_limit}
use Rattle.scad_geom.specs.Within.{IsWithin, IsEdgeWithin}
use Rattle.scad_geom.specs.Segment.{segments}
use Rattle.scad_geom.specs.Balance.{IsBalanced}
use Rattle.scad_geom.specs.Loop.{sides}
use Rattle.scad_tree.specs.Sections.{leaf_edge}
use Rattle.scad_tree.proofs.LeafSections.{balanced_more}
use Rattle.plan_sides.proofs.Closure.{sides_balanced}
use Rattle.plan_sides.proofs.Within.{outlines_within}
use Rattle.outline_samples.proofs.random_outlines.push_sides.Goals as goal

-- the call saw the sides of the outline
sides_are : (c : goal.After-drop-around-2) → c.deref.result.now ≡ flat_map sides c.from_ref.result.now
sides_are c = c.deref.ensures.value ∙ c.in_ok-around.ensures

pub returns-clause-within : goal.returns-clause-within
returns-clause-within c =
    let old : List LeafEdge = c.args.edges.now.items in
    let around : List Edge = c.deref.result.now in
    let outline : All (λ l. All (IsWithin coordinate_limit) l) c.from_ref.result.now =
    subst (λ (ls : List (List Pt)). All (λ l. All (IsWithin coordinate_limit) l) ls) (sym c.from_ref.ensures.value)
    (All-cons (λ l. All (IsWithin coordinate_limit) l) c.args.outline.now [] c.requires.points
    (All-nil (λ l. All (IsWithin coordinate_limit) l))) in
    let these : All (IsEdgeWithin coordinate_limit) around =
    subst (λ (es : List Edge). All (IsEdgeWithin coordinate_limit) es) (sym (sides_are c))
    (outlines_within coordinate_limit c.from_ref.result.now outline) in
    subst (λ (es : List LeafEdge). All (λ e. IsEdgeWithin coordinate_limit e.edge) es)
    (sym c.in_ok-push_leaf.ensures)
    (All-append (λ (e : LeafEdge). IsEdgeWithin coordinate_limit e.edge) old (map (leaf_edge c.args.leaf) around)
    c.requires.within
    (All-map (λ (e : LeafEdge). IsEdgeWithin coordinate_limit e.edge) (leaf_edge c.args.leaf) around these))

pub returns-clause-balanced : goal.returns-clause-balanced
returns-clause-balanced c =
    balanced_more c.args.edges.now.items c.push_leaf.new.edges.items c.args.leaf c.deref.result.now
    (subst (λ (es : List Edge). IsBalanced (segments es)) (sym (sides_are c)) (sides_balanced c.from_ref.result.now))
    c.in_ok-push_leaf.ensures c.requires.balanced
