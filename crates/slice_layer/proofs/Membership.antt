-- The outlines of a layer hold what the tree contains, away from its cuts.
use Rattle.std.proofs.Common.{◌≡◌, ℕ, zero, suc, true, not, List, [], ◌∷◌, map, flat_map, pos, ◌<ℤ◌, arith, ap, ◌∙◌}
use Rattle.std.proofs.lemmas.Int.{ints}
use Rattle.std.specs.List.{AllByRecursion}
use Rattle.std.proofs.lemmas.List.Elements.{recursion_from_All, All-from_recursion}
use Rattle.scad_geom.specs.declared.shape.Shape.{Shape}
use Rattle.scad_geom.specs.Point.{Point, whole}
use Rattle.scad_geom.specs.Half.{centre}
use Rattle.scad_geom.specs.Near.{IsClear}
use Rattle.scad_geom.specs.Segment.{segments}
use Rattle.scad_geom.specs.Winding.{wind, counted}
use Rattle.scad_geom.specs.Shape.{shape_holds, is_in_by}
use Rattle.scad_geom.specs.Leaves.{edges_of}
use Rattle.scad_geom.specs.Sign.{is_zero}
use Rattle.scad_geom.proofs.Order.{front, back}
use Rattle.scad_solid.specs.declared.triangle.Triangle.{Triangle}
use Rattle.scad_solid.specs.Surface.{is_closed}
use Rattle.scad_solid.specs.Cut.{cuts_of, plane_of, contains}
use Rattle.winding_laws.specs.Nearness.{IsClearSegment}
use Rattle.winding_laws.proofs.Rounding.{rounding_keeps_winding}
use Rattle.winding_laws.proofs.Lengths.{lengths_keep_winding}
use Rattle.winding_laws.specs.Edges.{rounded_edge}
use Rattle.slice_section.specs.Section.{section_of}
use Rattle.scad_tree.specs.Solid.{Solid}
use Rattle.scad_tree.specs.Order.{surfaces}
use Rattle.scad_tree.specs.LeafNumbers.{surface_at}
use Rattle.scad_tree.specs.Sections.{tree_section}
use Rattle.scad_tree.specs.Containment.{contained_at}
use Rattle.slice_border.specs.Membership.{IsClearByHalf}
use Rattle.slice_border.proofs.Membership as border
use Rattle.scad_tree.specs.Solids.{AreClosed}
use Rattle.slice_layer.specs.Outlines.{StandsFor}
use Rattle.slice_layer.specs.Cuts.{cuts_at, IsClearOfCuts}
use Rattle.slice_layer.specs.Laws.{OutlinesHoldPoints, OutlinesHoldCentres}
use Rattle.slice_section.proofs.CutBalance.{cuts_balanced}
use Rattle.slice_layer.proofs.Sections.{leaf_edges, surface_closed, leaves_balanced, sections_have}
use Rattle.slice_layer.proofs.Clear.{IsClearCut, IsClearEdge, cuts_clear, edges_clear}

module _ (layer h : ℕ) (q : Point) (d : pos 0 <ℤ q.d) where
  -- the section of a closed surface winds as its exact cuts round a point that is clear of them by one micrometre
  section_winds : (ts : List Triangle) → is_closed ts ≡ true → AllByRecursion (IsClearCut q d)
      (cuts_of (plane_of layer h) ts) → wind q (segments (section_of ts layer h))
      ≡ wind q (cuts_of (plane_of layer h) ts)
  section_winds ts closed clear =
      let cuts = cuts_of (plane_of layer h) ts in
      lengths_keep_winding (map rounded_edge cuts) true true q d
      ∙ rounding_keeps_winding true true q d cuts (cuts_balanced layer h ts closed)
      (All-from_recursion (IsClearSegment (pos 1) q) cuts (cuts_clear q d (plane_of layer h) ts clear))

  -- the cuts of one surface are some of all
  surface_clear : (all : List (List Triangle)) (k : ℕ) → AllByRecursion (IsClearCut q d)
      (flat_map (cuts_of (plane_of layer h)) all) → AllByRecursion (IsClearCut q d)
      (cuts_of (plane_of layer h) (surface_at all k))
  surface_clear [] k c = tt
  surface_clear (ts ∷ all) zero c = front (IsClearCut q d) (cuts_of (plane_of layer h) ts)
      (flat_map (cuts_of (plane_of layer h)) all) c
  surface_clear (ts ∷ all) (suc k) c = surface_clear all k (back (IsClearCut q d) (cuts_of (plane_of layer h) ts)
      (flat_map (cuts_of (plane_of layer h)) all) c)

  module _ (s : Solid) (closed : AreClosed s) (clear : IsClearOfCuts layer h s q) where
    surfaces_closed : AllByRecursion (λ ts. is_closed ts ≡ true) (surfaces s)
    surfaces_closed = recursion_from_All (λ ts. is_closed ts ≡ true) (surfaces s) closed

    all_clear : AllByRecursion (IsClearCut q d) (cuts_at (plane_of layer h) s)
    all_clear = recursion_from_All (IsClearCut q d) (cuts_at (plane_of layer h) s) clear

    leaf_winds : (leaf : ℕ) → wind q (segments (edges_of leaf (tree_section layer h s)))
        ≡ wind q (cuts_of (plane_of layer h) (surface_at (surfaces s) leaf))
    leaf_winds leaf =
        ap (λ es. wind q (segments es)) (leaf_edges layer h s leaf)
        ∙ section_winds (surface_at (surfaces s) leaf) (surface_closed layer h (surfaces s) leaf surfaces_closed)
        (surface_clear (surfaces s) leaf all_clear)

    -- a shape that stands for the tree holds, over the section, what the tree contains by its exact cuts
    section_contains : (shape : Shape) → StandsFor shape s → is_in_by true true (tree_section layer h s) shape q
        ≡ contained_at layer h q s
    unfolding is_in_by
    section_contains shape stands =
        (λ i. shape_holds (λ leaf. not (is_zero (leaf_winds leaf i))) shape)
        ∙ stands (λ ts. contains (plane_of layer h) ts q)

    section_clear : IsClearByHalf (tree_section layer h s) q
    section_clear =
        All-from_recursion (λ e. IsClear (pos 1) q (whole e.edge.a) (whole e.edge.b)) (tree_section layer h s)
        (sections_have layer h (IsClearEdge q d) 0 (surfaces s) (edges_clear q d (plane_of layer h) (surfaces s)
        all_clear))

pub outlines_hold_points : OutlinesHoldPoints
outlines_hold_points layer h s outlines closed a q d clear =
    border.outlines_hold_points (tree_section layer h s) a.shape outlines
    (leaves_balanced layer h s (recursion_from_All (λ ts. is_closed ts ≡ true) (surfaces s) closed)) a.are_outlines
    true true q d
    (section_clear layer h q d s closed clear)
    ∙ ap counted (section_contains layer h q d s closed clear a.shape a.stands)

pub outlines_hold_centres : OutlinesHoldCentres
outlines_hold_centres layer h s outlines closed a i j clear = outlines_hold_points layer h s outlines closed a
    (centre i j) (omega (arith, ints)) clear
