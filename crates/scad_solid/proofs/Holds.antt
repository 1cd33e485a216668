-- What prisms and boxes contain, from how their cuts wind.
use Rattle.std.proofs.Common.{◌≡◌, ◌≢◌, inl, inr, ℕ, zero, suc, ◌+◌, ◌*◌, ◌/◌, Bool, true, false, not, ◌&&◌, List, ℤ, pos, negsuc, neg_ℤ, ◌+ℤ◌, ◌*ℤ◌, ◌<ℤ◌, arith, refl, ap, ap₂, sym, ◌∙◌, subst}
use Rattle.scad_base.proofs.Tests.{int_lt-true, int_lt-less}
use Rattle.std.specs.Prelude.{int_lt}
use Rattle.std.specs.Bool.{Decides}
use Rattle.std.specs.Ordering.{int_eq}
use Rattle.std.proofs.lemmas.Int.{ints}
use Rattle.std.proofs.lemmas.Bool.Decides.{Decides-at, Decides-int_eq, Decides-not, same_from_decides, Decides-and}
use Rattle.scad_geom.specs.declared.point.Pt.{Pt}
use Rattle.scad_geom.specs.declared.point3.Pt3.{Pt3}
use Rattle.scad_geom.specs.declared.half.Half.TheVariants.{Cell}
use Rattle.scad_geom.specs.Loop.{sides}
use Rattle.scad_geom.specs.Point.{Point}
use Rattle.scad_geom.specs.Segment.{segments}
use Rattle.scad_geom.specs.Half.{doubled, centre}
use Rattle.scad_geom.specs.Sign.{is_zero}
use Rattle.scad_geom.specs.Winding.{wind}
use Rattle.scad_solid.specs.Cut.{plane_of, contains, is_above, is_below}
use Rattle.scad_solid.specs.Laws.{prism, rectangle, box, IsBetween, IsCentreBetween, HoldBetween, HoldInside, PrismsHold, BoxesHold}
use Rattle.scad_solid.proofs.Prism.{winds, prism_wind}
use Rattle.scad_solid.proofs.Rectangle.{boxed, rectangle_wind}
use Rattle.std.proofs.lemmas.Bool.{not-true, false_from_ne_true}

-- exactly one of two tests holds
abbrev differ : Bool → Bool → Bool
differ true b = not b
differ false b = b

-- an odd number lies above or below each even one
odd_apart : (k z : ℤ) → int_lt (pos 2 *ℤ z) (pos 2 *ℤ k +ℤ pos 1) ≡ not (int_lt (pos 2 *ℤ k +ℤ pos 1) (pos 2 *ℤ z))
odd_apart k z = grind (arith, ints)

never : {P : Type 0} → false ≡ true → P
never e = absurd (cc)

-- an odd number lies strictly between two even ones exactly where it lies below one of the two
module _ (k a b : ℤ) where
  abbrev odd : ℤ
  odd = pos 2 *ℤ k +ℤ pos 1

  between : (below_a below_b : Bool) → int_lt odd (pos 2 *ℤ a) ≡ below_a → int_lt odd (pos 2 *ℤ b) ≡ below_b
      → differ below_a below_b ≡ true → IsBetween odd a b
  between true true ea eb e = never e
  between false false ea eb e = never e
  between false true ea eb e = inl (
    int_lt-true (pos 2 *ℤ a) odd (odd_apart k a ∙ ap not ea),
    int_lt-true odd
        (pos 2 *ℤ b) eb,
  )
  between true false ea eb e = inr (
    int_lt-true (pos 2 *ℤ b) odd (odd_apart k b ∙ ap not eb),
    int_lt-true odd
        (pos 2 *ℤ a) ea,
  )

  below_one : int_lt (pos 2 *ℤ a) odd ≡ true → int_lt odd (pos 2 *ℤ b) ≡ true → differ (int_lt odd (pos 2 *ℤ a))
      (int_lt odd (pos 2 *ℤ b)) ≡ true
  below_one ea eb = ap₂ differ (not-true (int_lt odd (pos 2 *ℤ a)) (sym (odd_apart k a) ∙ ea)) eb

  below_other : int_lt odd (pos 2 *ℤ a) ≡ true → int_lt (pos 2 *ℤ b) odd ≡ true → differ (int_lt odd (pos 2 *ℤ a))
      (int_lt odd (pos 2 *ℤ b)) ≡ true
  below_other ea eb = ap₂ differ ea (not-true (int_lt odd (pos 2 *ℤ b)) (sym (odd_apart k b) ∙ eb))

  between_told : Decides (differ (int_lt odd (pos 2 *ℤ a)) (int_lt odd (pos 2 *ℤ b))) (IsBetween odd a b)
  between_told = (between (int_lt odd (pos 2 *ℤ a)) (int_lt odd (pos 2 *ℤ b)) refl refl, told)
    where
      told : IsBetween odd a b → differ (int_lt odd (pos 2 *ℤ a)) (int_lt odd (pos 2 *ℤ b)) ≡ true
      told (inl (la, lb)) = below_one (int_lt-less (pos 2 *ℤ a) odd la) (int_lt-less odd (pos 2 *ℤ b) lb)
      told (inr (lb, la)) = below_other (int_lt-less odd (pos 2 *ℤ a) la) (int_lt-less (pos 2 *ℤ b) odd lb)

-- the whole height just below the plane of a layer; twice the plane's own height is an odd number
abbrev middle : ℕ → ℕ → ℤ
middle layer h = pos (layer * h + h / 2)

plane_odd : (layer h : ℕ) → plane_of layer h ≡ pos 2 *ℤ middle layer h +ℤ pos 1
plane_odd layer h = omega (arith, ints)

-- whether cuts wind at all, by the tests on which that depends
neg_is_zero : (c : ℤ) → neg_ℤ c ≡ pos 0 → c ≡ pos 0
neg_is_zero c e = omega (arith, ints)

zero_is_neg : (c : ℤ) → c ≡ pos 0 → neg_ℤ c ≡ pos 0
zero_is_neg c e = omega (arith, ints)

is_zero-neg : (c : ℤ) → int_eq (neg_ℤ c) (pos 0) ≡ int_eq c (pos 0)
is_zero-neg c =
    let some = Decides-int_eq (neg_ℤ c) (pos 0) in
    same_from_decides (int_eq (neg_ℤ c) (pos 0)) (int_eq c (pos 0)) (
      (λ t. neg_is_zero c (some.0 t)),
      (λ e. some.1 (zero_is_neg c e)),
    ) (Decides-int_eq c (pos 0))

winds_some : (a b : Bool) (c : ℤ) → not (int_eq (winds a b c) (pos 0)) ≡ differ a b && not (int_eq c (pos 0))
winds_some true true c = refl
winds_some true false c = ap not (is_zero-neg c)
winds_some false true c = refl
winds_some false false c = refl

is_zero-eq : (c : ℤ) → is_zero c ≡ int_eq c (pos 0)
is_zero-eq (pos zero) = refl
is_zero-eq (pos (suc n)) = let some = Decides-int_eq (pos (suc n)) (pos 0) in sym (false_from_ne_true (int_eq (pos (suc n)) (pos 0)) (λ e. absurd (omega (arith, ints, some.0 e))))
is_zero-eq (negsuc n) = refl

boxed_some : (a b c d : Bool) → not (int_eq (boxed a b c d) (pos 0)) ≡ differ c d && differ a b
boxed_some true true true true = refl
boxed_some true true true false = refl
boxed_some true true false true = refl
boxed_some true true false false = refl
boxed_some true false true true = refl
boxed_some true false true false = refl
boxed_some true false false true = refl
boxed_some true false false false = refl
boxed_some false true true true = refl
boxed_some false true true false = refl
boxed_some false true false true = refl
boxed_some false true false false = refl
boxed_some false false true true = refl
boxed_some false false true false = refl
boxed_some false false false true = refl
boxed_some false false false false = refl

module _ (layer h : ℕ) where
  pub below_or_above : (z : ℤ) → is_below (plane_of layer h) z ≡ not (is_above (plane_of layer h) z)
  below_or_above z = ap (λ p. int_lt (pos 2 *ℤ z) p) (plane_odd layer h) ∙ odd_apart (middle layer h) z ∙ ap
      (λ p. not (int_lt p (pos 2 *ℤ z))) (sym (plane_odd layer h))

  plane_between : (a b : ℤ) → Decides (differ (is_above (plane_of layer h) a) (is_above (plane_of layer h) b))
      (IsBetween (plane_of layer h) a b)
  plane_between a b = subst (λ p. Decides (differ (int_lt p (pos 2 *ℤ a)) (int_lt p (pos 2 *ℤ b))) (IsBetween p a b))
      (sym (plane_odd layer h)) (between_told (middle layer h) a b)

  prism_contains : (upper lower : ℤ) (ring : List Pt) (p : Point) → pos 0 <ℤ p.d
      → contains (plane_of layer h) (prism upper lower ring) p ≡ differ (is_above (plane_of layer h) upper)
      (is_above (plane_of layer h) lower) && not (int_eq (wind p (segments (sides ring))) (pos 0))
  prism_contains upper lower ring p some =
      ap (λ w. not (is_zero w))
      (prism_wind (plane_of layer h) upper lower (below_or_above upper) (below_or_above lower) ring p some)
      ∙ ap not (is_zero-eq (winds (is_above (plane_of layer h) upper) (is_above (plane_of layer h) lower)
      (wind p (segments (sides ring)))))
      ∙ winds_some (is_above (plane_of layer h) upper) (is_above (plane_of layer h) lower)
      (wind p (segments (sides ring)))

  prism_Decides : (upper lower : ℤ) (ring : List Pt) (p : Point) → pos 0 <ℤ p.d
      → Decides (contains (plane_of layer h) (prism upper lower ring) p) (IsBetween (plane_of layer h) upper lower
      × (wind p (segments (sides ring)) ≢ pos 0))
  prism_Decides upper lower ring p some =
      Decides-at _ _ (prism_contains upper lower ring p some)
      (Decides-and _ _ (plane_between upper lower) (Decides-not (int_eq (wind p (segments (sides ring))) (pos 0))
      (Decides-int_eq (wind p (segments (sides ring))) (pos 0))))

  rectangle_Decides : (x0 y0 x1 y1 i j : ℤ)
      → Decides (not (int_eq (wind (centre i j) (segments (sides (rectangle x0 y0 x1 y1)))) (pos 0)))
      (IsBetween (doubled Cell i) x0 x1 × IsBetween (doubled Cell j) y0 y1)
  rectangle_Decides x0 y0 x1 y1 i j =
      Decides-at _ _
      (ap (λ w. not (int_eq w (pos 0))) (rectangle_wind x0 y0 x1 y1 (doubled Cell i) (doubled Cell j))
      ∙ boxed_some (int_lt (doubled Cell j) (pos 2 *ℤ y0)) (int_lt (doubled Cell j) (pos 2 *ℤ y1))
      (int_lt (doubled Cell i) (pos 2 *ℤ x0)) (int_lt (doubled Cell i) (pos 2 *ℤ x1)))
      (Decides-and _ _ (between_told i x0 x1) (between_told j y0 y1))

  box_Decides : (p q : Pt3) (i j : ℤ) → Decides (contains (plane_of layer h) (box p q) (centre i j))
      (IsCentreBetween p q layer h i j)
  box_Decides p q i j =
      let whole = Decides-at _ _ (prism_contains q.z p.z (rectangle p.x p.y q.x q.y) (centre i j) (omega (arith, ints)))
      (Decides-and _ _ (plane_between q.z p.z) (rectangle_Decides p.x p.y q.x q.y i j)) in (
        (λ t. let all = whole.0 t in record { across = all.1.0; along = all.1.1; upwards = turned (plane_of layer h) q.z p.z all.0 }),
        (λ c. whole.1 (turned (plane_of layer h) p.z q.z c.upwards, (c.across, c.along))),
      )
    where
      turned : (t a b : ℤ) → IsBetween t a b → IsBetween t b a
      turned t a b (inl l) = inr l
      turned t a b (inr l) = inl l

pub prism_holds : (ring : List Pt) (upper lower : ℤ) → HoldInside ring upper lower (prism upper lower ring)
prism_holds ring upper lower = record { each = λ layer h p some. prism_Decides layer h upper lower ring p some }

pub box_holds : (p q : Pt3) → HoldBetween p q (box p q)
box_holds p q = record { each = λ layer h i j. box_Decides layer h p q i j }

pub prisms_hold : PrismsHold
prisms_hold = record { each = prism_holds }

pub boxes_hold : BoxesHold
boxes_hold = record { each = box_holds }
