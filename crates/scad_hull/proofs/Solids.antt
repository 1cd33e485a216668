-- The faces that were found, in their order, make the solid of the definition.
use Rattle.std.proofs.Common.{◌≡◌, ℕ, ◌≤◌, length, arith, Result, Ok, Err, Bool, true, false, ◌&&◌, List, [], ◌∷◌, map, sym, ap, ap₂, ◌∙◌, Option, Some, None}
use Rattle.std.specs.Global.{Vec}
use Rattle.std.specs.Prelude.{IsTrue, if◌then◌else◌, nat_lt}
use Rattle.std.proofs.lemmas.Bool.Decides.{nat_tests}
use Rattle.std.specs.List.{AllByRecursion, flat_map, list_all}
use Rattle.std.specs.List.Sorted.{IsStrictlySortedBy}
use Rattle.scad_geom.specs.PointRange.{is_in_range}
use Rattle.scad_geom.specs.declared.point3.Pt3.{Pt3}
use Rattle.scad_solid.specs.Range.{is_triangle_in_range}
use Rattle.scad_solid.specs.Surface.{is_closed}
use Rattle.scad_solid.specs.Solid.{fan, fan_around, fans, IsSolid}
use Rattle.scad_solid.specs.declared.triangle.Triangle.{Triangle}
use Rattle.scad_hull.specs.declared.node.Node.{Node}
use Rattle.scad_hull.specs.declared.fault.HullFault.{HullFault}
use Rattle.scad_hull.specs.declared.fault.HullFault.TheVariants.{Points}
use Rattle.scad_hull.specs.Distinct.{distinct}
use Rattle.scad_hull.specs.Flat.{point_count_limit}
use Rattle.scad_hull.specs.Node.{point_of}
use Rattle.scad_hull.specs.Space.{space_cmp}
use Rattle.scad_hull.specs.Faces.{are_flat, face_cmp, faces_of, solid_of_distinct, hull_of, IsSpread}
use Rattle.scad_hull.specs.Wrapping.{IsWrapped}
use Rattle.scad_hull.proofs.Backs.{all_rings}
use Rattle.scad_hull.proofs.Complete.{found_closed, found_all}
use Rattle.scad_hull.proofs.FacePlanes.{all_changed}
use Rattle.scad_hull.proofs.FirstFaces.{spread_told, told_all, told_at}
use Rattle.scad_hull.proofs.Rings.{all_joined}
use Rattle.scad_hull.proofs.SameFaces.{corners_of}
use Rattle.scad_hull.proofs.Sorting.{points_in, fans_of}

-- ---- the corners of fans
abbrev AreAll : (Pt3 → Type 0) → Triangle → Type 0
AreAll P t = P t.a × P t.b × P t.c

fan_all : (P : Pt3 → Type 0) (a b : Pt3) (rs : List Pt3) → P a → P b → AllByRecursion P rs
    → AllByRecursion (AreAll P) (fan_around a b rs)
fan_all P a b [] ha hb h = tt
fan_all P a b (c ∷ rs) ha hb h = ((ha, hb, h.0), fan_all P a c rs ha h.0 h.1)

ring_all : (P : Pt3 → Type 0) (ring : List Pt3) → AllByRecursion P ring → AllByRecursion (AreAll P) (fan ring)
ring_all P [] h = tt
ring_all P (a ∷ []) h = tt
ring_all P (a ∷ (b ∷ rs)) h = fan_all P a b rs h.0 h.1.0 h.1.1

fans_all : (P : Pt3 → Type 0) (rings : List (List Pt3)) → AllByRecursion (AllByRecursion P) rings
    → AllByRecursion (AreAll P) (fans rings)
fans_all P [] h = tt
fans_all P (r ∷ rs) h = all_joined (AreAll P) (fan r) (fans rs) (ring_all P r h.0) (fans_all P rs h.1)

module _ (ps : List Pt3) (sorted : IsStrictlySortedBy space_cmp ps) (range : IsTrue (list_all is_in_range ps)) where
  faces_in_range : list_all is_triangle_in_range (fans (faces_of ps)) ≡ true
  faces_in_range =
      told_all is_triangle_in_range (fans (faces_of ps))
      (all_changed (λ t h. ap₂ (λ a b. a && b) h.0 (ap₂ (λ a b. a && b) h.1 h.2)) (fans (faces_of ps))
      (fans_all (λ q. is_in_range q ≡ true) (faces_of ps)
      (all_changed (λ r R. all_changed (λ q i. told_at ps is_in_range range q i.0) r (corners_of ps sorted r R))
      (faces_of ps)
      (all_rings ps sorted))))

  module _ (spread : IsSpread ps) (faces : List (List Pt3)) (w : IsWrapped ps faces) (rings : List (Vec Node)) (ts : List Triangle)
      (order : map points_in rings ≡ distinct face_cmp faces) (are : ts ≡ flat_map (λ x. fan (map point_of x.items)) rings) where
    same_order : map points_in rings ≡ faces_of ps
    same_order = order ∙ found_all ps sorted spread faces w.faces w.backs w.first w.has_first

    pub solid_is : ts ≡ fans (faces_of ps)
    solid_is = are ∙ fans_of rings ∙ ap fans same_order

    pub solid_there : IsSolid ts
    solid_there = record {
      closed = ap is_closed (are ∙ fans_of rings ∙ ap fans order)
          ∙ found_closed ps sorted spread faces w.faces w.backs w.first w.has_first;
      in_range = ap (λ us. list_all is_triangle_in_range us) solid_is ∙ faces_in_range;
    }

  pub solid_told : IsSpread ps → (ts : List Triangle) → ts ≡ fans (faces_of ps)
      → Some ts ≡ (if are_flat ps then None else Some (fans (faces_of ps)))
  solid_told spread ts e =
      ap Some e ∙ ap (λ (b : Bool). if b then None else Some (fans (faces_of ps))) (sym (spread_told ps spread))

-- ---- as the code tells it
pub none_told : (ps : List Pt3) → are_flat ps ≡ true
    → None ≡ (if are_flat ps then None else Some (fans (faces_of ps)))
none_told ps e = sym (ap (λ (b : Bool). if b then None else Some (fans (faces_of ps))) e)

past_none : (n : ℕ) → n ≤ point_count_limit → nat_lt point_count_limit n ≡ false
past_none n h = grind (arith, nat_tests)

pub hull_told : (points qs : List Pt3) (o : Option (List Triangle)) → qs ≡ distinct space_cmp points
    → length qs ≤ point_count_limit
    → o ≡ (if are_flat qs then None else Some (fans (faces_of qs)))
    → ◌≡◌ {A = Result (Option (List Triangle)) HullFault} (Ok o) (hull_of points)
hull_told points qs o e few is =
    ap Ok is
    ∙ sym (ap (λ (b : Bool). if b then Err (Points (length qs)) else Ok
    (if are_flat qs then None else Some (fans (faces_of qs))))
    (past_none (length qs) few))
    ∙ ap solid_of_distinct e
