-- As near as wanted to each point of a segment lies one that isn't an end.
use Rattle.std.proofs.Common.{◌≡◌, [], ◌∷◌, refl, sym, ap, ◌∙◌, arith}
use lib.IntN.{ℤ, pos, ◌+ℤ◌, ◌-ℤ◌, ◌*ℤ◌}
use lib.Signed.{◌<ℤ◌, ◌≤ℤ◌}
use Rattle.std.proofs.lemmas.Int.{ints, by_lt_z}
use Rattle.scad_base.proofs.Products.{positive_product}
use Rattle.scad_geom.specs.Point.{Point}
use Rattle.scad_geom.specs.Near.{mean}
use Rattle.scad_geom.proofs.Ring.{ring, num, ◌⊕◌, ◌⊖◌, ◌⊗◌, v0, v1, v2, v3, v4, v5, v6, v7}
use Rattle.scad_geom.proofs.Signs.{at_least_mul, square_at_least}
use Rattle.winding_laws.specs.Region.{Holds, box}
use Rattle.winding_laws.specs.Nearness.{seen_from, IsNear, IsPoint}
use Rattle.winding_laws.specs.Points.{IsOn}
use Rattle.winding_laws.specs.Approach.{HasAmid, AmidIsAnywhere}
use Rattle.winding_laws.proofs.Regions.{holds_as}
use Rattle.scad_base.proofs.Integers.{at_most_of_less, both_positive}

-- ---- boxes
across_is : (n x y : ℤ) → n *ℤ x +ℤ pos 0 *ℤ y ≡ n *ℤ x
across_is n x y = ring (n ∷ x ∷ y ∷ []) (v0 ⊗ v1 ⊕ num (pos 0) ⊗ v2) (v0 ⊗ v1) refl

across_back : (n x y : ℤ) → (pos 0 -ℤ n) *ℤ x +ℤ pos 0 *ℤ y ≡ n *ℤ (pos 0 -ℤ x)
across_back n x y = ring (n ∷ x ∷ y ∷ []) ((num (pos 0) ⊖ v0) ⊗ v1 ⊕ num (pos 0) ⊗ v2)
    (v0 ⊗ (num (pos 0) ⊖ v1)) refl

along_is : (n x y : ℤ) → pos 0 *ℤ x +ℤ n *ℤ y ≡ n *ℤ y
along_is n x y = ring (n ∷ x ∷ y ∷ []) (num (pos 0) ⊗ v1 ⊕ v0 ⊗ v2) (v0 ⊗ v2) refl

along_back : (n x y : ℤ) → pos 0 *ℤ x +ℤ (pos 0 -ℤ n) *ℤ y ≡ n *ℤ (pos 0 -ℤ y)
along_back n x y = ring (n ∷ x ∷ y ∷ []) (num (pos 0) ⊗ v1 ⊕ (num (pos 0) ⊖ v0) ⊗ v2)
    (v0 ⊗ (num (pos 0) ⊖ v2)) refl

pub at_most_as : (s t u : ℤ) → s ≡ u → u ≤ℤ t → s ≤ℤ t
at_most_as s t u e h = omega (arith, ints)

in_box : (n h : ℤ) (p : Point) → (n *ℤ p.x) ≤ℤ (h *ℤ p.d) → (n *ℤ (pos 0 -ℤ p.x)) ≤ℤ (h *ℤ p.d)
    → (n *ℤ p.y) ≤ℤ (h *ℤ p.d) → (n *ℤ (pos 0 -ℤ p.y)) ≤ℤ (h *ℤ p.d) → Holds (box n h) p
in_box n h p a b c d = (
  at_most_as _ _ _ (across_is n p.x p.y) a,
  (
    at_most_as _ _ _ (across_back n p.x p.y) b,
    (
      at_most_as _ _ _ (along_is n p.x p.y) c,
      (at_most_as _ _ _ (along_back n p.x p.y) d, tt),
    ),
  ),
)

-- ---- a point amid a segment anywhere: a mean of the point and of the middle, by a weight that is large enough
at_most_square : (z : ℤ) → z ≤ℤ (z *ℤ z)
at_most_square z = by_lt_z (pos 0) z
    (λ h.
    let m = at_least_mul z (z -ℤ pos 1) (at_most_of_less (pos 0) z h) (omega (arith, ints)) in
    let same : z *ℤ (z -ℤ pos 1) ≡ z *ℤ z -ℤ z = ring (z ∷ []) (v0 ⊗ (v0 ⊖ num (pos 1))) (v0 ⊗ v0 ⊖ v0) refl in
    omega (arith, ints))
    (λ h. let s = square_at_least z in omega (arith, ints))

at_most_turned : (z : ℤ) → (pos 0 -ℤ z) ≤ℤ (z *ℤ z)
at_most_turned z =
    let m = at_most_square (pos 0 -ℤ z) in
    let same : (pos 0 -ℤ z) *ℤ (pos 0 -ℤ z) ≡ z *ℤ z = ring (z ∷ []) ((num (pos 0) ⊖ v0) ⊗ (num (pos 0) ⊖ v0)) (v0 ⊗ v0)
    refl in
    omega (arith, ints)

module _ (n : ℤ) (np : pos 0 <ℤ n) (a b p : Point) (da : IsPoint a) (db : IsPoint b) (dp : IsPoint p) (o : IsOn a b p) where
  -- the middle, and how far it lies from p
  abbrev middle : Point
  middle = mean b.d a.d a b

  abbrev x_gap : ℤ
  x_gap = middle.x *ℤ p.d -ℤ p.x *ℤ middle.d

  abbrev y_gap : ℤ
  y_gap = middle.y *ℤ p.d -ℤ p.y *ℤ middle.d

  abbrev weight : ℤ
  weight = n *ℤ (x_gap *ℤ x_gap +ℤ y_gap *ℤ y_gap)

  abbrev amid : Point
  amid = mean weight (pos 1) p middle

  squares_least : pos 0 ≤ℤ (x_gap *ℤ x_gap +ℤ y_gap *ℤ y_gap)
  squares_least = let s = square_at_least x_gap in let t = square_at_least y_gap in omega (arith, ints)

  weight_least : pos 0 ≤ℤ weight
  weight_least = at_least_mul n (x_gap *ℤ x_gap +ℤ y_gap *ℤ y_gap) (at_most_of_less (pos 0) n np) squares_least

  middle_positive : pos 0 <ℤ middle.d
  middle_positive = let s = positive_product b.d a.d db da in let t = positive_product a.d b.d da db in omega (arith, ints)

  amid_positive : pos 0 <ℤ amid.d
  amid_positive = let s = at_least_mul weight p.d weight_least (at_most_of_less (pos 0) p.d dp) in let t = middle_positive in omega (arith, ints)

  gap_same : (w p d m e : ℤ) → (w *ℤ p +ℤ pos 1 *ℤ m) *ℤ d -ℤ p *ℤ (w *ℤ d +ℤ pos 1 *ℤ e)
      ≡ m *ℤ d -ℤ p *ℤ e
  gap_same w p d m e = ring (w ∷ p ∷ d ∷ m ∷ e ∷ []) ((v0 ⊗ v1 ⊕ num (pos 1) ⊗ v3) ⊗ v2 ⊖ v1 ⊗
      (v0 ⊗ v2 ⊕ num (pos 1) ⊗ v4)) (v3 ⊗ v2 ⊖ v1 ⊗ v4) refl

  -- the weight is at most the divisor of the difference
  room : weight ≤ℤ (pos 1 *ℤ (amid.d *ℤ p.d))
  room =
      let m = at_least_mul weight (p.d *ℤ p.d -ℤ pos 1) weight_least (no_less p.d dp) in
      let s : pos 0 <ℤ (middle.d *ℤ p.d) = positive_product middle.d p.d middle_positive dp in
      let same : pos 1 *ℤ (amid.d *ℤ p.d) ≡ weight *ℤ (p.d *ℤ p.d -ℤ pos 1) +ℤ weight +ℤ middle.d *ℤ p.d =
      ring (weight ∷ p.d ∷ middle.d ∷ []) (num (pos 1) ⊗ ((v0 ⊗ v1 ⊕ num (pos 1) ⊗ v2) ⊗ v1))
      (v0 ⊗ (v1 ⊗ v1 ⊖ num (pos 1)) ⊕ v0 ⊕ v2 ⊗ v1) refl in
      omega (arith, ints)
    where
      no_less : (d : ℤ) → pos 0 <ℤ d → pos 0 ≤ℤ (d *ℤ d -ℤ pos 1)
      no_less d h = let m = positive_product d d h h in omega (arith, ints)

  below : (z s t : ℤ) → z ≤ℤ s → pos 0 ≤ℤ t → (n *ℤ z) ≤ℤ (n *ℤ (s +ℤ t))
  below z s t h k =
      let m = at_least_mul n (s +ℤ t -ℤ z) (at_most_of_less (pos 0) n np) (omega (arith, ints)) in
      let same : n *ℤ (s +ℤ t -ℤ z) ≡ n *ℤ (s +ℤ t) -ℤ n *ℤ z = ring (n ∷ s ∷ t ∷ z ∷ []) (v0 ⊗ (v1 ⊕ v2 ⊖ v3))
      (v0 ⊗ (v1 ⊕ v2) ⊖ v0 ⊗ v3) refl in
      omega (arith, ints)

  below_second : (z s t : ℤ) → z ≤ℤ t → pos 0 ≤ℤ s → (n *ℤ z) ≤ℤ (n *ℤ (s +ℤ t))
  below_second z s t h k =
      let m = at_least_mul n (s +ℤ t -ℤ z) (at_most_of_less (pos 0) n np) (omega (arith, ints)) in
      let same : n *ℤ (s +ℤ t -ℤ z) ≡ n *ℤ (s +ℤ t) -ℤ n *ℤ z = ring (n ∷ s ∷ t ∷ z ∷ []) (v0 ⊗ (v1 ⊕ v2 ⊖ v3))
      (v0 ⊗ (v1 ⊕ v2) ⊖ v0 ⊗ v3) refl in
      omega (arith, ints)

  most : (s t u : ℤ) → s ≤ℤ t → t ≤ℤ u → s ≤ℤ u
  most s t u h k = omega (arith, ints)

  amid_near : IsNear (box n (pos 1)) p amid
  amid_near =
      holds_as (box n (pos 1)) (record { x = x_gap; y = y_gap; d = amid.d *ℤ p.d }) (seen_from p amid)
      (sym (gap_same weight p.x p.d middle.x middle.d)) (sym (gap_same weight p.y p.d middle.y middle.d)) refl
      (in_box n (pos 1) (record { x = x_gap; y = y_gap; d = amid.d *ℤ p.d })
      (most _ _ _ (below x_gap (x_gap *ℤ x_gap) (y_gap *ℤ y_gap) (at_most_square x_gap) (square_at_least y_gap))
      room)
      (most _ _ _ (below (pos 0 -ℤ x_gap) (x_gap *ℤ x_gap) (y_gap *ℤ y_gap) (at_most_turned x_gap)
      (square_at_least y_gap)) room)
      (most _ _ _ (below_second y_gap (x_gap *ℤ x_gap) (y_gap *ℤ y_gap) (at_most_square y_gap)
      (square_at_least x_gap))
      room)
      (most _ _ _ (below_second (pos 0 -ℤ y_gap) (x_gap *ℤ x_gap) (y_gap *ℤ y_gap) (at_most_turned y_gap)
      (square_at_least x_gap)) room))

  -- its weights
  one_number : (w k s t e f p x y : ℤ) → k *ℤ p ≡ s *ℤ x +ℤ t *ℤ y
      → k *ℤ (w *ℤ p +ℤ pos 1 *ℤ (f *ℤ x +ℤ e *ℤ y))
      ≡ (w *ℤ s +ℤ k *ℤ f) *ℤ x +ℤ (w *ℤ t +ℤ k *ℤ e) *ℤ y
  one_number w k s t e f p x y h =
      ring (w ∷ k ∷ e ∷ f ∷ p ∷ x ∷ y ∷ [])
      (v1 ⊗ (v0 ⊗ v4 ⊕ num (pos 1) ⊗ (v3 ⊗ v5 ⊕ v2 ⊗ v6)))
      (v0 ⊗ (v1 ⊗ v4) ⊕ v1 ⊗ (v3 ⊗ v5 ⊕ v2 ⊗ v6)) refl
      ∙ ap (λ (z : ℤ). w *ℤ z +ℤ k *ℤ (f *ℤ x +ℤ e *ℤ y)) h
      ∙ ring (w ∷ k ∷ s ∷ t ∷ e ∷ f ∷ x ∷ y ∷ [])
      (v0 ⊗ (v2 ⊗ v6 ⊕ v3 ⊗ v7) ⊕ v1 ⊗ (v5 ⊗ v6 ⊕ v4 ⊗ v7))
      ((v0 ⊗ v2 ⊕ v1 ⊗ v5) ⊗ v6 ⊕ (v0 ⊗ v3 ⊕ v1 ⊗ v4) ⊗ v7) refl

  above : (s e : ℤ) → pos 0 ≤ℤ s → pos 0 <ℤ e → pos 0 <ℤ (weight *ℤ s +ℤ o.k *ℤ e)
  above s e h g = let m = at_least_mul weight s weight_least h in let q = positive_product o.k e o.positive g in omega (arith, ints)

  has_amid : HasAmid n a b p
  has_amid =
      let hs : pos 0 <ℤ (weight *ℤ o.s +ℤ o.k *ℤ b.d) = above o.s b.d o.first db in
      let ht : pos 0 <ℤ (weight *ℤ o.t +ℤ o.k *ℤ a.d) = above o.t a.d o.second da in
      record {
        point = amid;
        positive = amid_positive;
        amid = record {
          on = record {
            k = o.k;
            s = weight *ℤ o.s +ℤ o.k *ℤ b.d;
            t = weight *ℤ o.t +ℤ o.k *ℤ a.d;
            positive = o.positive;
            first = at_most_of_less (pos 0) (weight *ℤ o.s +ℤ o.k *ℤ b.d) hs;
            second = at_most_of_less (pos 0) (weight *ℤ o.t +ℤ o.k *ℤ a.d) ht;
            some = both_positive (weight *ℤ o.s +ℤ o.k *ℤ b.d) (weight *ℤ o.t +ℤ o.k *ℤ a.d) hs ht;
            x = one_number weight o.k o.s o.t a.d b.d p.x a.x b.x o.x;
            y = one_number weight o.k o.s o.t a.d b.d p.y a.y b.y o.y;
            d = one_number weight o.k o.s o.t a.d b.d p.d a.d b.d o.d;
          };
          first = hs;
          second = ht;
        };
        near = amid_near;
      }

pub amid_is_anywhere : AmidIsAnywhere
amid_is_anywhere n np a b p da db dp o = has_amid n np a b p da db dp o
