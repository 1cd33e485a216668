-- What points in range have as their hull is a solid with triangles.
use Rattle.std.proofs.Common.{◌≡◌, ◌<◌, true, false, ◌&&◌, List, [], ◌∷◌, length, refl, ap₂, subst, sym, arith}
use lib.IntN.{pos}
use Rattle.std.specs.Prelude.{IsTrue, Some, Ok}
use Rattle.std.specs.List.{AllByRecursion, list_all}
use Rattle.std.specs.List.Sorted.{IsStrictlySortedBy}
use Rattle.std.proofs.lemmas.Int.{ints}
use Rattle.std.proofs.lemmas.List.Elements.{All-nil}
use Rattle.scad_geom.specs.Point.{Point}
use Rattle.scad_geom.specs.PointRange.{is_in_range}
use Rattle.scad_geom.specs.declared.point3.Pt3.{Pt3}
use Rattle.scad_solid.specs.Range.{is_triangle_in_range}
use Rattle.scad_solid.specs.Solid.{fan, fan_around, fans}
use Rattle.scad_solid.specs.declared.triangle.Triangle.{Triangle}
use Rattle.scad_hull.specs.Distinct.{distinct}
use Rattle.scad_hull.specs.Faces.{faces_of, hull_of}
use Rattle.scad_hull.specs.Space.{space_cmp}
use Rattle.scad_hull.proofs.Backs.{all_rings, hull_is, hulls_close}
use Rattle.scad_hull.proofs.Distincts.{distinct_sorted}
use Rattle.scad_hull.proofs.FacePlanes.{all_changed, space_total}
use Rattle.scad_hull.proofs.FirstFaces.{told_all, told_at}
use Rattle.scad_hull.proofs.Ranges.{range_kept}
use Rattle.scad_hull.proofs.Rings.{all_joined}
use Rattle.scad_hull.proofs.SameFaces.{corners_of}
use Rattle.hull_laws.specs.Laws.{HullsAreSolids}
use Rattle.hull_laws.proofs.Holding.{hulls_hold}

-- ---- the corners of fans
abbrev AreAll : (Pt3 → Type 0) → Triangle → Type 0
AreAll P t = P t.a × P t.b × P t.c

fan_all : (P : Pt3 → Type 0) (a b : Pt3) (rs : List Pt3) → P a → P b → AllByRecursion P rs → AllByRecursion (AreAll P) (fan_around a b rs)
fan_all P a b [] ha hb h = tt
fan_all P a b (c ∷ rs) ha hb h = ((ha, hb, h.0), fan_all P a c rs ha h.0 h.1)

ring_all : (P : Pt3 → Type 0) (ring : List Pt3) → AllByRecursion P ring → AllByRecursion (AreAll P) (fan ring)
ring_all P [] h = tt
ring_all P (a ∷ []) h = tt
ring_all P (a ∷ (b ∷ rs)) h = fan_all P a b rs h.0 h.1.0 h.1.1

fans_all : (P : Pt3 → Type 0) (rings : List (List Pt3)) → AllByRecursion (AllByRecursion P) rings → AllByRecursion (AreAll P) (fans rings)
fans_all P [] h = tt
fans_all P (r ∷ rs) h = all_joined (AreAll P) (fan r) (fans rs) (ring_all P r h.0) (fans_all P rs h.1)

faces_in_range : (ps : List Pt3) → IsStrictlySortedBy space_cmp ps → IsTrue (list_all is_in_range ps)
    → list_all is_triangle_in_range (fans (faces_of ps)) ≡ true
faces_in_range ps sorted range =
    told_all is_triangle_in_range (fans (faces_of ps))
    (all_changed (λ t h. ap₂ (λ a b. a && b) h.0 (ap₂ (λ a b. a && b) h.1 h.2)) (fans (faces_of ps))
    (fans_all (λ q. is_in_range q ≡ true) (faces_of ps)
    (all_changed (λ r R. all_changed (λ q i. told_at ps is_in_range range q i.0) r (corners_of ps sorted r R)) (faces_of ps)
    (all_rings ps sorted))))

-- a point of the plane
abbrev somewhere : Point
somewhere = record { x = pos 0; y = pos 0; d = pos 1 }

no_false : false ≡ true → ⊥
no_false e = cc

-- a hull without triangles would hold every point, and a surface without triangles holds none
some_triangles : (points : List Pt3) (ts : List Triangle) → hull_of points ≡ Ok (Some ts) → 0 < length ts
some_triangles points [] e =
    absurd (no_false ((hulls_hold.each points [] e 0 1 somewhere (omega (arith, ints)) (All-nil _)).1 (All-nil _)))
some_triangles points (t ∷ ts) e = omega arith

pub hulls_are_solids : HullsAreSolids
hulls_are_solids = record {
  each = λ points ts range e.
      let ps = distinct space_cmp points in
      let sorted = distinct_sorted space_cmp space_total points in
      let h = hull_is points ts e in
      record {
        closed = hulls_close.each points ts e;
        in_range = subst (λ us. list_all is_triangle_in_range us ≡ true) (sym h.are)
            (faces_in_range ps sorted (range_kept points ps range refl));
      };
  some = some_triangles;
}
