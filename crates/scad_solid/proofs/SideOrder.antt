-- The order of sides that `derive(Ord)` gives, and that it tells differing sides apart.
use Rattle.std.proofs.Common.{◌≡◌, true, ◌&&◌, ap, ap₂, sym, ◌∙◌, refl}
use Rattle.std.proofs.lemmas.Bool.{and_parts}
use Rattle.std.specs.Bool.{Decides}
use Rattle.std.specs.Ordering.{int_cmp, int_eq, ordering_then}
use Rattle.std.specs.declared.cmp.Ordering.{Ordering}
use Rattle.std.specs.declared.cmp.Ordering.TheVariants.{Equal}
use Rattle.std.specs.Cmp.{IsTotalOrder, signed_Decides}
use Rattle.std.proofs.lemmas.Cmp.{int_cmp_total, then_total, on_total}
use Rattle.std.proofs.lemmas.Map.Lookups.{exact_signed}
use Rattle.scad_geom.specs.declared.point3.Pt3.{Pt3}
use Rattle.scad_solid.specs.declared.side.Side.{Side}
use Rattle.scad_solid.specs.Side.{same_point, same_side}
use Rattle.scad_base.proofs.Tests.{both_equal}

abbrev pub point_cmp : Pt3 → Pt3 → Ordering
point_cmp p q = ordering_then (int_cmp p.x q.x) (ordering_then (int_cmp p.y q.y) (int_cmp p.z q.z))

abbrev pub side_cmp : Side → Side → Ordering
side_cmp s t = ordering_then (point_cmp s.from t.from) (point_cmp s.to t.to)

point_total : IsTotalOrder point_cmp
point_total = then_total (on_total (λ (p : Pt3). p.x) int_cmp_total)
    (then_total (on_total (λ (p : Pt3). p.y) int_cmp_total) (on_total (λ (p : Pt3). p.z) int_cmp_total))

pub side_total : IsTotalOrder side_cmp
side_total = then_total (on_total (λ (s : Side). s.from) point_total) (on_total (λ (s : Side). s.to) point_total)

point_exact : (p q : Pt3) → point_cmp p q ≡ Equal → p ≡ q
point_exact p q e =
    let x = both_equal (int_cmp p.x q.x) _ e in
    let yz = both_equal (int_cmp p.y q.y) (int_cmp p.z q.z) x.1 in
    let ex = exact_signed _ _ x.0 in
    let ey = exact_signed _ _ yz.0 in
    let ez = exact_signed _ _ yz.1 in
    λ i. record { x = ex i; y = ey i; z = ez i }

pub side_exact : (s t : Side) → side_cmp s t ≡ Equal → s ≡ t
side_exact s t e =
    let both = both_equal (point_cmp s.from t.from) (point_cmp s.to t.to) e in
    let from = point_exact s.from t.from both.0 in
    let to = point_exact s.to t.to both.1 in
    λ i. record { from = from i; to = to i }

point_Decides : (p q : Pt3) → Decides (same_point p q) (p ≡ q)
point_Decides p q = (there, back)
  where
    there : same_point p q ≡ true → p ≡ q
    there e =
        let x = and_parts (int_eq p.x q.x) _ e in
        let yz = and_parts (int_eq p.y q.y) (int_eq p.z q.z) x.1 in
        let ex = (signed_Decides p.x q.x).0 x.0 in
        let ey = (signed_Decides p.y q.y).0 yz.0 in
        let ez = (signed_Decides p.z q.z).0 yz.1 in
        λ i. record { x = ex i; y = ey i; z = ez i }

    back : p ≡ q → same_point p q ≡ true
    back e = ap (same_point p) (sym e) ∙ ap₂ (λ a b. a && b) ((signed_Decides p.x p.x).1 refl)
        (ap₂ (λ a b. a && b) ((signed_Decides p.y p.y).1 refl) ((signed_Decides p.z p.z).1 refl))

pub side_Decides : (s t : Side) → Decides (same_side s t) (s ≡ t)
side_Decides s t = (there, back)
  where
    there : same_side s t ≡ true → s ≡ t
    there e =
        let both = and_parts (same_point s.from t.from) (same_point s.to t.to) e in
        let from = (point_Decides s.from t.from).0 both.0 in
        let to = (point_Decides s.to t.to).0 both.1 in
        λ i. record { from = from i; to = to i }

    back : s ≡ t → same_side s t ≡ true
    back e = ap (same_side s) (sym e) ∙ ap₂ (λ a b. a && b) ((point_Decides s.from s.from).1 refl)
        ((point_Decides s.to s.to).1 refl)
