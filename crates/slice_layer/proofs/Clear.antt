-- What is clear of exact cuts by one micrometre is clear of their rounded edges by one half.
use Rattle.std.proofs.Common.{List, [], ◌∷◌, ℤ, pos, ◌<ℤ◌, flat_map, arith}
use Rattle.std.proofs.lemmas.Int.{ints}
use Rattle.std.specs.List.{AllByRecursion}
use Rattle.scad_geom.specs.declared.point.Edge.{Edge}
use Rattle.scad_geom.specs.Point.{Point, whole}
use Rattle.scad_geom.specs.Segment.{Segment}
use Rattle.scad_geom.specs.Near.{IsHalf, IsClear}
use Rattle.scad_geom.proofs.Order.{front, back}
use Rattle.scad_solid.specs.declared.triangle.Triangle.{Triangle}
use Rattle.scad_solid.specs.Cut.{cuts_of}
use Rattle.winding_laws.specs.Nearness.{IsProper, IsClearSegment}
use Rattle.winding_laws.proofs.Farness.{moves_stay_clear}
use Rattle.winding_laws.proofs.Rounding.{rounded_close}
use Rattle.winding_laws.specs.Edges.{rounded, rounded_edge}
use Rattle.slice_layer.proofs.Ends.{cuts_proper}

module _ (q : Point) (d : pos 0 <ℤ q.d) where
  -- no point of a cut lies within one micrometre of q along both axes
  abbrev pub IsClearCut : Segment → Type 0
  IsClearCut c = IsClear (pos 2) q c.from c.to

  -- no point of an edge lies within one half
  abbrev pub IsClearEdge : Edge → Type 0
  IsClearEdge e = IsClear (pos 1) q (whole e.a) (whole e.b)

  one : pos 0 <ℤ pos 1
  one = omega (arith, ints)

  rounded_clear : (c : Segment) → IsProper c → IsClearCut c → IsClearEdge (rounded_edge c)
  rounded_clear c p h =
      moves_stay_clear (pos 1) (pos 1) q c.from c.to (whole (rounded c.from)) (whole (rounded c.to)) d
      p.from p.to one one h
      (rounded_close c.from p.from) (rounded_close c.to p.to)

  half_weaker : (x w : ℤ) → IsHalf (pos 1) x w → IsHalf (pos 2) x w
  half_weaker x w h =
      let from = h.from in
      let to = h.to in
      record { from = omega (arith, ints); to = omega (arith, ints) }

  -- what is clear by one micrometre is clear by one half
  cut_clear : (c : Segment) → IsProper c → IsClearCut c → IsClearSegment (pos 1) q c
  cut_clear c p h = record {
    proper = p;
    clear = λ s t from to some close. h s t from to some
        (record { across = half_weaker _ _ close.across; along = half_weaker _ _ close.along });
  }

  both : (P : Segment → Type 0) → ((c : Segment) → IsProper c → IsClearCut c → P c) → (cs : List Segment)
      → AllByRecursion IsProper cs → AllByRecursion IsClearCut cs → AllByRecursion P cs
  both P f [] p h = tt
  both P f (c ∷ cs) p h = (f c p.0 h.0, both P f cs p.1 h.1)

  module _ (plane : ℤ) where
    -- the cuts of a surface are clear segments
    pub cuts_clear : (ts : List Triangle) → AllByRecursion IsClearCut (cuts_of plane ts)
        → AllByRecursion (IsClearSegment (pos 1) q) (cuts_of plane ts)
    cuts_clear ts h = both (IsClearSegment (pos 1) q) cut_clear (cuts_of plane ts) (cuts_proper plane ts) h

    -- their rounded edges are clear
    pub edges_clear : (all : List (List Triangle)) → AllByRecursion IsClearCut (flat_map (cuts_of plane) all)
        → AllByRecursion (λ ts. AllByRecursion (λ c. IsClearEdge (rounded_edge c)) (cuts_of plane ts)) all
    edges_clear [] h = tt
    edges_clear (ts ∷ all) h = (
      both (λ c. IsClearEdge (rounded_edge c)) rounded_clear (cuts_of plane ts) (cuts_proper plane ts)
          (front IsClearCut (cuts_of plane ts) (flat_map (cuts_of plane) all) h),
      edges_clear all (back IsClearCut (cuts_of plane ts) (flat_map (cuts_of plane) all) h),
    )
