-- The cuts of a closed surface are balanced: whatever points count, at their starts as much is counted as at their
-- ends.
use Rattle.std.proofs.Common.{◌≡◌, ℕ, ◌+◌, Bool, true, false, cond, ◌&&◌, not, List, [], ◌∷◌, map, Some, None, Option, ℤ, refl, ap₂, sym, ◌∙◌, subst, arith}
use Rattle.std.specs.List.{cons_option, sum_by}
use Rattle.std.proofs.lemmas.List.Sums.{sum_by-cons, sum_by-append}
use Rattle.scad_geom.specs.Point.{Point, is_same_point}
use Rattle.scad_geom.specs.Segment.{Segment}
use Rattle.scad_geom.specs.Balance.{IsBalanced}
use Rattle.scad_geom.proofs.Balance.{once}
use Rattle.scad_solid.specs.declared.side.Side.{Side}
use Rattle.scad_solid.specs.declared.triangle.Triangle.{Triangle}
use Rattle.scad_solid.specs.Side.{reversed}
use Rattle.scad_solid.specs.Surface.{sides_of, sides, is_closed}
use Rattle.scad_solid.specs.Cut.{is_above, is_below, cut_between, cut_of, cuts_of, plane_of, point_between}
use Rattle.scad_solid.proofs.ClosedSides.{sum_by-reversed}
use Rattle.scad_solid.proofs.Holds.{below_or_above}

module _ (mark : Point → ℕ) (plane : ℤ) where
  abbrev starts : List Segment → ℕ
  starts cs = sum_by (λ c. mark c.from) cs

  abbrev ends : List Segment → ℕ
  ends cs = sum_by (λ c. mark c.to) cs

  -- the mark of the point at which a side falls through the plane, if it does
  abbrev falls_at : Side → ℕ
  falls_at s = cond (is_above plane s.from.z) (cond (is_below plane s.to.z) (mark (point_between s.to s.from plane)) 0)
      0

  abbrev start_of : Side → ℕ
  start_of s = mark (point_between s.to s.from plane)

  abbrev end_of : Side → ℕ
  end_of s = mark (point_between s.from s.to plane)

  abbrev ab : Triangle → Side
  ab t = record { from = t.a; to = t.b }

  abbrev bc : Triangle → Side
  bc t = record { from = t.b; to = t.c }

  abbrev ca : Triangle → Side
  ca t = record { from = t.c; to = t.a }

  -- the cut of a triangle by which of its corners lie above and below
  abbrev cut_by : Triangle → Bool → Bool → Bool → Bool → Bool → Bool → Option Segment
  cut_by t a a' b b' c c' = cut_between plane
      (cond (a && b') (Some (ab t)) (cond (b && c') (Some (bc t)) (cond (c && a') (Some (ca t)) None)))
      (cond (a' && b) (Some (ab t)) (cond (b' && c) (Some (bc t)) (cond (c' && a) (Some (ca t)) None)))

  abbrev Starts : Triangle → Bool → Bool → Bool → Bool → Bool → Bool → Type 0
  Starts t a a' b b' c c' = starts (cons_option (cut_by t a a' b b' c c') []) ≡
      cond a (cond b' (start_of (ab t)) 0) 0 + (cond b (cond c' (start_of (bc t)) 0) 0 + cond c
      (cond a' (start_of (ca t)) 0) 0)

  abbrev Ends : Triangle → Bool → Bool → Bool → Bool → Bool → Bool → Type 0
  Ends t a a' b b' c c' = ends (cons_option (cut_by t a a' b b' c c') []) ≡
      cond b (cond a' (end_of (ab t)) 0) 0 + (cond c (cond b' (end_of (bc t)) 0) 0 + cond a (cond c' (end_of (ca t)) 0)
      0)

  starts_by : (t : Triangle) (a b c : Bool) → Starts t a (not a) b (not b) c (not c)
  starts_by t true true true = refl
  starts_by t true true false = omega arith
  starts_by t true false true = omega arith
  starts_by t true false false = omega arith
  starts_by t false true true = omega arith
  starts_by t false true false = omega arith
  starts_by t false false true = omega arith
  starts_by t false false false = refl

  ends_by : (t : Triangle) (a b c : Bool) → Ends t a (not a) b (not b) c (not c)
  ends_by t true true true = refl
  ends_by t true true false = omega arith
  ends_by t true false true = omega arith
  ends_by t true false false = omega arith
  ends_by t false true true = omega arith
  ends_by t false true false = omega arith
  ends_by t false false true = omega arith
  ends_by t false false false = refl

  module _ (apart : (z : ℤ) → is_below plane z ≡ not (is_above plane z)) where
    starts_of : (t : Triangle) → starts (cons_option (cut_of plane t) []) ≡ sum_by falls_at (sides_of t)
    starts_of t =
        subst (λ x. Starts t (is_above plane t.a.z) x (is_above plane t.b.z) (is_below plane t.b.z)
        (is_above plane t.c.z) (is_below plane t.c.z)) (sym (apart t.a.z))
        (subst (λ x. Starts t (is_above plane t.a.z) (not (is_above plane t.a.z)) (is_above plane t.b.z) x
        (is_above plane t.c.z) (is_below plane t.c.z)) (sym (apart t.b.z))
        (subst (λ x. Starts t (is_above plane t.a.z) (not (is_above plane t.a.z)) (is_above plane t.b.z)
        (not (is_above plane t.b.z)) (is_above plane t.c.z) x) (sym (apart t.c.z))
        (starts_by t (is_above plane t.a.z) (is_above plane t.b.z) (is_above plane t.c.z))))
        ∙ omega arith

    ends_of : (t : Triangle) → ends (cons_option (cut_of plane t) []) ≡ sum_by (λ s. falls_at (reversed s)) (sides_of t)
    ends_of t =
        subst (λ x. Ends t (is_above plane t.a.z) x (is_above plane t.b.z) (is_below plane t.b.z) (is_above plane t.c.z)
        (is_below plane t.c.z)) (sym (apart t.a.z))
        (subst (λ x. Ends t (is_above plane t.a.z) (not (is_above plane t.a.z)) (is_above plane t.b.z) x
        (is_above plane t.c.z) (is_below plane t.c.z)) (sym (apart t.b.z))
        (subst (λ x. Ends t (is_above plane t.a.z) (not (is_above plane t.a.z)) (is_above plane t.b.z)
        (not (is_above plane t.b.z)) (is_above plane t.c.z) x) (sym (apart t.c.z))
        (ends_by t (is_above plane t.a.z) (is_above plane t.b.z) (is_above plane t.c.z))))
        ∙ omega arith

    starts-more : (o : Option Segment) (cs : List Segment) → starts (cons_option o cs) ≡ starts (cons_option o []) +
        starts cs
    starts-more None cs = omega arith
    starts-more (Some c) cs = omega (arith, sum_by-cons (λ (x : Segment). mark x.from) c cs)

    ends-more : (o : Option Segment) (cs : List Segment) → ends (cons_option o cs) ≡ ends (cons_option o []) + ends cs
    ends-more None cs = omega arith
    ends-more (Some c) cs = omega (arith, sum_by-cons (λ (x : Segment). mark x.to) c cs)

    starts_all : (ts : List Triangle) → starts (cuts_of plane ts) ≡ sum_by falls_at (sides ts)
    starts_all [] = refl
    starts_all (t ∷ ts) = starts-more (cut_of plane t) (cuts_of plane ts) ∙ ap₂ (λ m n. m + n) (starts_of t)
        (starts_all ts) ∙ sym (sum_by-append falls_at (sides_of t) (sides ts))

    ends_all : (ts : List Triangle) → ends (cuts_of plane ts) ≡ sum_by (λ s. falls_at (reversed s)) (sides ts)
    ends_all [] = refl
    ends_all (t ∷ ts) = ends-more (cut_of plane t) (cuts_of plane ts) ∙ ap₂ (λ m n. m + n) (ends_of t) (ends_all ts) ∙
        sym (sum_by-append (λ s. falls_at (reversed s)) (sides_of t) (sides ts))

-- a sum over reversed sides
sum_by-of_reversed : (f : Side → ℕ) (ss : List Side) → sum_by (λ s. f (reversed s)) ss ≡ sum_by f (map reversed ss)
sum_by-of_reversed f [] = refl
sum_by-of_reversed f (s ∷ ss) = omega (
  arith,
  sum_by-cons (λ x. f (reversed x)) s ss,
  sum_by-cons f (reversed s)
      (map reversed ss),
  sum_by-of_reversed f ss,
)

-- as much is marked where cuts start as where they end
pub marks_balanced : (mark : Point → ℕ) (layer h : ℕ) (ts : List Triangle) → is_closed ts ≡ true
    → sum_by (λ c. mark c.from) (cuts_of (plane_of layer h) ts) ≡ sum_by (λ c. mark c.to)
    (cuts_of (plane_of layer h) ts)
marks_balanced mark layer h ts closed =
    let plane = plane_of layer h in
    starts_all mark plane (below_or_above layer h) ts
    ∙ sym (ends_all mark plane (below_or_above layer h) ts ∙ sum_by-of_reversed (falls_at mark plane) (sides ts) ∙
    sum_by-reversed ts closed (falls_at mark plane))

pub cuts_balanced : (layer h : ℕ) (ts : List Triangle) → is_closed ts ≡ true
    → IsBalanced (cuts_of (plane_of layer h) ts)
cuts_balanced layer h ts closed = record {
  each = λ p some. marks_balanced (λ q. once (is_same_point p q)) layer h ts
      closed;
}
