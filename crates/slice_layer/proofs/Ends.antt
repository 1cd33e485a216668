-- The ends of cuts: they are points, and of surfaces in range they are within the limit once they are rounded.
use Rattle.std.proofs.Common.{◌≡◌, ℕ, ◌*◌, ◌≤◌, Bool, true, false, cond, List, [], ◌∷◌, Some, None, Option, ℤ, pos, ◌+ℤ◌, ◌-ℤ◌, ◌*ℤ◌, ◌<ℤ◌, unsigned_abs, arith, refl, ap, sym, ◌∙◌, subst}
use Rattle.std.proofs.lemmas.Bool.{and_parts}
use Rattle.std.proofs.lemmas.Int.{ints}
use Rattle.std.specs.Prelude.{IfSome, int_lt}
use Rattle.std.specs.Int.{int_div_euclid}
use Rattle.std.specs.List.{find, list_all, cons_option, AllByRecursion}
use Rattle.scad_geom.specs.declared.point3.Pt3.{Pt3}
use Rattle.scad_geom.specs.Limits.{point_limit}
use Rattle.scad_geom.specs.Rounding.{half_down}
use Rattle.scad_geom.specs.Segment.{Segment}
use Rattle.scad_geom.specs.Within.{IsWithin, IsEdgeWithin}
use Rattle.scad_geom.proofs.Nearest.{rounds}
use Rattle.scad_solid.specs.declared.side.Side.{Side}
use Rattle.scad_solid.specs.declared.triangle.Triangle.{Triangle}
use Rattle.scad_solid.specs.Range.{is_triangle_in_range}
use Rattle.scad_solid.specs.Surface.{sides_of}
use Rattle.scad_solid.specs.Cut.{falls, rises, is_above, is_below, weighted, point_between, cut_between, cut_of, cuts_of}
use Rattle.winding_laws.specs.Nearness.{IsProper}
use Rattle.winding_laws.specs.Edges.{rounded, rounded_edge}
use Rattle.slice_section.specs.Through.{IsThrough}
use Rattle.slice_section.proofs.SideCuts.{falls_through_if, rises_through_if}
use Rattle.slice_section.proofs.WeightedMean.{weighted_range}

-- ---- they are points
-- what is found passes the test
found : {X : Type 0} (p : X → Bool) (xs : List X) (x : X) → find p xs ≡ Some x → p x ≡ true
found p [] x e = absurd (cc)
found p (y ∷ ys) x e =
    elim (p y) as (λ b. p y ≡ b → cond b (Some y) (find p ys) ≡ Some x → p x ≡ true) [
      | true ↦ (λ t g. let same : y ≡ x = cc in ap p (sym same) ∙ t)
      | false ↦ (λ t g. found p ys x g)
    ] refl e

-- a plane between two heights leaves some height between them
heights_apart : (plane low high : ℤ) → int_lt plane (pos 2 *ℤ high) ≡ true → int_lt (pos 2 *ℤ low) plane ≡ true
    → pos 0 <ℤ (pos 2 *ℤ high -ℤ pos 2 *ℤ low)
heights_apart plane low high above below = omega (arith, ints, above, below)

between_proper : (plane : ℤ) (f r : Option Side) → ((s : Side) → f ≡ Some s → falls plane s ≡ true)
    → ((s : Side) → r ≡ Some s → rises plane s ≡ true) → IfSome (cut_between plane f r) IsProper
between_proper plane None r falling rising = tt
between_proper plane (Some f) None falling rising = tt
between_proper plane (Some f) (Some r) falling rising =
    let down = and_parts (is_above plane f.from.z) (is_below plane f.to.z) (falling f refl) in
    let up = and_parts (is_below plane r.from.z) (is_above plane r.to.z) (rising r refl) in
    record {
      from = heights_apart plane f.to.z f.from.z down.0 down.1;
      to = heights_apart plane r.from.z r.to.z up.1
          up.0;
    }

cut_proper : (plane : ℤ) (t : Triangle) → IfSome (cut_of plane t) IsProper
cut_proper plane t = between_proper plane (find (falls plane) (sides_of t)) (find (rises plane) (sides_of t))
    (found (falls plane) (sides_of t)) (found (rises plane) (sides_of t))

-- ---- they are within the limit
half_down_within : (m : ℕ) (n d : ℤ) → pos 0 <ℤ d → unsigned_abs n ≤ m * unsigned_abs d → unsigned_abs (half_down n d) ≤
    m
half_down_within m n d above small =
    let r = rounds n d (int_div_euclid (d -ℤ pos 2 *ℤ n) (pos 2 *ℤ d)) m above small refl in
    subst (λ (z : ℤ). unsigned_abs z ≤ m) r.value r.size

coordinate_within : (lower upper low high plane : ℤ) → unsigned_abs lower ≤ point_limit
    → unsigned_abs upper ≤ point_limit → (pos 2 *ℤ low) <ℤ plane → plane <ℤ (pos 2 *ℤ high)
    → unsigned_abs (half_down (weighted lower upper low high plane) (pos 2 *ℤ high -ℤ pos 2 *ℤ low)) ≤ point_limit
coordinate_within lower upper low high plane small_lower small_upper above below =
    let spread : (pos 2 *ℤ high -ℤ plane) +ℤ (plane -ℤ pos 2 *ℤ low) ≡ pos 2 *ℤ high -ℤ pos 2 *ℤ low =
    omega (arith, ints) in
    let mean = weighted_range point_limit lower upper (pos 2 *ℤ high -ℤ plane) (plane -ℤ pos 2 *ℤ low) (omega arith)
    (omega arith) (omega (arith, ints)) (omega (arith, ints)) in
    half_down_within point_limit (weighted lower upper low high plane) (pos 2 *ℤ high -ℤ pos 2 *ℤ low)
    (omega (arith, ints))
    (subst (λ (d : ℤ). unsigned_abs (weighted lower upper low high plane) ≤ point_limit * unsigned_abs d) spread mean)

end_within : (plane : ℤ) (lower upper : Pt3) → IsThrough plane lower upper
    → IsWithin point_limit (rounded (point_between lower upper plane))
end_within plane lower upper h = record {
  x = coordinate_within lower.x upper.x lower.z upper.z plane h.lower_x h.upper_x h.heights.above h.heights.below;
  y = coordinate_within lower.y upper.y lower.z upper.z plane h.lower_y h.upper_y h.heights.above h.heights.below;
}

between_within : (plane : ℤ) (f r : Option Side) → IfSome f (λ s. IsThrough plane s.to s.from)
    → IfSome r (λ s. IsThrough plane s.from s.to) → IfSome (cut_between plane f r)
    (λ c. IsEdgeWithin point_limit (rounded_edge c))
between_within plane None r falling rising = tt
between_within plane (Some f) None falling rising = tt
between_within plane (Some f) (Some r) falling rising = record {
  a = end_within plane f.to f.from falling;
  b =
      end_within plane r.from r.to rising;
}

cut_within : (plane : ℤ) (t : Triangle) → is_triangle_in_range t ≡ true
    → IfSome (cut_of plane t) (λ c. IsEdgeWithin point_limit (rounded_edge c))
cut_within plane t h =
    between_within plane (find (falls plane) (sides_of t)) (find (rises plane) (sides_of t))
    (falls_through_if plane t (find (falls plane) (sides_of t)) h refl)
    (rises_through_if plane t (find (rises plane) (sides_of t)) h refl)

-- ---- of all cuts
module _ (plane : ℤ) (P : Segment → Type 0) where
  one_more : (o : Option Segment) (cs : List Segment) → IfSome o P → AllByRecursion P cs
      → AllByRecursion P (cons_option o cs)
  one_more None cs p h = h
  one_more (Some c) cs p h = (p, h)

  cuts_have : (Q : Triangle → Type 0) → ((t : Triangle) → Q t → IfSome (cut_of plane t) P) → (ts : List Triangle)
      → AllByRecursion Q ts → AllByRecursion P (cuts_of plane ts)
  cuts_have Q f [] h = tt
  cuts_have Q f (t ∷ ts) h = one_more (cut_of plane t) (cuts_of plane ts) (f t h.0) (cuts_have Q f ts h.1)

all_pass : {X : Type 0} (p : X → Bool) (xs : List X) → list_all p xs ≡ true → AllByRecursion (λ x. p x ≡ true) xs
all_pass p [] h = tt
all_pass p (x ∷ xs) h = let both = and_parts (p x) (list_all p xs) h in (both.0, all_pass p xs both.1)

anything : {X : Type 0} (xs : List X) → AllByRecursion (λ x. Unit {0}) xs
anything [] = tt
anything (x ∷ xs) = (tt, anything xs)

pub cuts_proper : (plane : ℤ) (ts : List Triangle) → AllByRecursion IsProper (cuts_of plane ts)
cuts_proper plane ts = cuts_have plane IsProper (λ t. Unit {0}) (λ t h. cut_proper plane t) ts (anything ts)

pub cuts_within : (plane : ℤ) (ts : List Triangle) → list_all is_triangle_in_range ts ≡ true
    → AllByRecursion (λ c. IsEdgeWithin point_limit (rounded_edge c)) (cuts_of plane ts)
cuts_within plane ts h = cuts_have plane (λ c. IsEdgeWithin point_limit (rounded_edge c)) (λ t. is_triangle_in_range t
    ≡ true) (cut_within plane) ts (all_pass is_triangle_in_range ts h)
