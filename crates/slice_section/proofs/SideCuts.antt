-- The side of a triangle that falls or rises through a plane has the plane between its ends.
use Rattle.std.proofs.Common.{◌≡◌, ◌≤◌, Bool, true, false, cond, ◌&&◌, List, [], ◌∷◌, Some, None, Option, ℤ, pos, ◌*ℤ◌, unsigned_abs, arith, refl, ap, ap₂, sym, ◌∙◌, nat_le}
use Rattle.scad_base.proofs.Tests.{int_lt-true}
use Rattle.std.proofs.lemmas.Bool.{and_parts}
use Rattle.std.specs.Prelude.{IfSome}
use Rattle.std.specs.List.{find, list_all}
use Rattle.std.specs.Option.{option_map}
use Rattle.std.proofs.lemmas.Bool.Decides.{nat_tests}
use Rattle.scad_geom.specs.declared.point3.Pt3.{Pt3}
use Rattle.scad_geom.specs.Limits.{point_limit}
use Rattle.scad_solid.specs.declared.side.Side.{Side}
use Rattle.scad_solid.specs.declared.triangle.Triangle.{Triangle}
use Rattle.scad_geom.specs.PointRange.{is_in_range}
use Rattle.scad_solid.specs.Range.{is_triangle_in_range}
use Rattle.scad_solid.specs.Surface.{sides_of}
use Rattle.scad_solid.specs.Cut.{falls, rises, is_above, is_below, cut_of, cut_between, point_between}
use Rattle.winding_laws.specs.Edges.{rounded, rounded_edge}
use Rattle.slice_section.specs.Through.{IsThrough}

-- what is found passes the test, and any test that all elements pass
found_passes : {X : Type 0} (p q : X → Bool) (xs : List X) (x : X) → list_all q xs ≡ true → find p xs ≡ Some x
    → (p x ≡ true) × (q x ≡ true)
found_passes p q [] x all e = absurd (cc)
found_passes p q (y ∷ ys) x all e =
    let here = and_parts (q y) (list_all q ys) all in
    elim (p y) as (λ b. p y ≡ b → cond b (Some y) (find p ys) ≡ Some x → (p x ≡ true) × (q x ≡ true)) [
      | true ↦ (λ t g. let same : y ≡ x = cc in (ap p (sym same) ∙ t, ap q (sym same) ∙ here.0))
      | false ↦ (λ t g. found_passes p q ys x here.1 g)
    ] refl e

abbrev ends_in_range : Side → Bool
ends_in_range s = is_in_range s.from && is_in_range s.to

sides_in_range : (t : Triangle) → is_triangle_in_range t ≡ true → list_all ends_in_range (sides_of t) ≡ true
sides_in_range t all =
    let a = and_parts (is_in_range t.a) (is_in_range t.b && is_in_range t.c) all in
    let bc = and_parts (is_in_range t.b) (is_in_range t.c) a.1 in
    ap₂ (λ u v. u && v) (ap₂ (λ u v. u && v) a.0 bc.0) (ap₂ (λ u v. u && v) (ap₂ (λ u v. u && v) bc.0 bc.1)
    (ap₂ (λ u v. u && v) (ap₂ (λ u v. u && v) bc.1 a.0) refl))

within : (z : ℤ) → nat_le (unsigned_abs z) point_limit ≡ true → unsigned_abs z ≤ point_limit
within z e = grind (arith, nat_tests)

through : (plane : ℤ) (p q : Pt3) → is_in_range p ≡ true → is_in_range q ≡ true → is_below plane p.z ≡ true
    → is_above plane q.z ≡ true → IsThrough plane p q
through plane p q at_p at_q below above =
    let px = and_parts (nat_le (unsigned_abs p.x) point_limit) _ at_p in
    let pyz = and_parts (nat_le (unsigned_abs p.y) point_limit) (nat_le (unsigned_abs p.z) point_limit) px.1 in
    let qx = and_parts (nat_le (unsigned_abs q.x) point_limit) _ at_q in
    let qyz = and_parts (nat_le (unsigned_abs q.y) point_limit) (nat_le (unsigned_abs q.z) point_limit) qx.1 in
    record {
      lower_x = within p.x px.0;
      lower_y = within p.y pyz.0;
      upper_x = within q.x qx.0;
      upper_y = within q.y qyz.0;
      heights = record {
        small_low = within p.z pyz.1;
        small_high = within q.z qyz.1;
        above = int_lt-true (pos 2 *ℤ p.z) plane below;
        below = int_lt-true plane (pos 2 *ℤ q.z) above;
      };
    }

pub falls_through : (plane : ℤ) (t : Triangle) (s : Side) → is_triangle_in_range t ≡ true
    → find (falls plane) (sides_of t) ≡ Some s → IsThrough plane s.to s.from
falls_through plane t s all e =
    let told = found_passes (falls plane) ends_in_range (sides_of t) s (sides_in_range t all) e in
    let ends = and_parts (is_in_range s.from) (is_in_range s.to) told.1 in
    let passes = and_parts (is_above plane s.from.z) (is_below plane s.to.z) told.0 in
    through plane s.to s.from ends.1 ends.0 passes.1 passes.0

pub rises_through : (plane : ℤ) (t : Triangle) (s : Side) → is_triangle_in_range t ≡ true
    → find (rises plane) (sides_of t) ≡ Some s → IsThrough plane s.from s.to
rises_through plane t s all e =
    let told = found_passes (rises plane) ends_in_range (sides_of t) s (sides_in_range t all) e in
    let ends = and_parts (is_in_range s.from) (is_in_range s.to) told.1 in
    let passes = and_parts (is_below plane s.from.z) (is_above plane s.to.z) told.0 in
    through plane s.from s.to ends.0 ends.1 passes.0 passes.1

-- the edge of a triangle by the sides that were found
pub edge-found : (plane : ℤ) (t : Triangle) (f r : Side) → Some f ≡ find (falls plane) (sides_of t)
    → Some r ≡ find (rises plane) (sides_of t)
    → Some (record {
      a = rounded (point_between f.to f.from plane);
      b = rounded
          (point_between r.from r.to plane);
    }) ≡ option_map rounded_edge (cut_of plane t)
edge-found plane t f r falling rising = ap₂ (λ a b. option_map rounded_edge (cut_between plane a b)) falling rising

pub edge-not_falling : (plane : ℤ) (t : Triangle) → None ≡ find (falls plane) (sides_of t)
    → None ≡ option_map rounded_edge (cut_of plane t)
edge-not_falling plane t none = ap (λ a. option_map rounded_edge (cut_between plane a (find (rises plane) (sides_of t))))
    none

pub edge-not_rising : (plane : ℤ) (t : Triangle) (f : Side) → Some f ≡ find (falls plane) (sides_of t)
    → None ≡ find (rises plane) (sides_of t) → None ≡ option_map rounded_edge (cut_of plane t)
edge-not_rising plane t f falling none = ap₂ (λ a b. option_map rounded_edge (cut_between plane a b)) falling none

pub falls_through_if : (plane : ℤ) (t : Triangle) (o : Option Side) → is_triangle_in_range t ≡ true
    → o ≡ find (falls plane) (sides_of t) → IfSome o (λ s. IsThrough plane s.to s.from)
falls_through_if plane t None all e = tt
falls_through_if plane t (Some s) all e = falls_through plane t s all (sym e)

pub rises_through_if : (plane : ℤ) (t : Triangle) (o : Option Side) → is_triangle_in_range t ≡ true
    → o ≡ find (rises plane) (sides_of t) → IfSome o (λ s. IsThrough plane s.from s.to)
rises_through_if plane t None all e = tt
rises_through_if plane t (Some s) all e = rises_through plane t s all (sym e)
