-- Where as many segments start at each point as end there, sums over starts are sums over ends.
use Rattle.std.proofs.Common.{◌≡◌, ℕ, ◌+◌, ◌≤◌, Bool, true, false, cond, List, [], ◌∷◌, refl, sym, ap, ◌∙◌, arith}
use lib.IntN.{ℤ, ◌+ℤ◌, ◌-ℤ◌}
use Rattle.std.specs.List.{AllByRecursion}
use Rattle.std.proofs.lemmas.Int.{ints}
use Rattle.scad_geom.specs.Point.{Point, is_same_point}
use Rattle.scad_geom.specs.Segment.{Segment}
use Rattle.scad_geom.specs.Balance.{starts_at, ends_at, IsBalanced}
use Rattle.scad_geom.proofs.Balance.{once, starts-cons, ends-cons}
use Rattle.scad_geom.proofs.Sums.{sum_z}
use Rattle.winding_laws.specs.Nearness.{IsPoint, IsProper}
use Rattle.winding_laws.proofs.Sameness.{same_itself, same_through}

abbrev pub starts : List Segment → List Point
starts [] = []
starts (s ∷ ss) = s.from ∷ starts ss

abbrev pub ends : List Segment → List Point
ends [] = []
ends (s ∷ ss) = s.to ∷ ends ss

-- ---- sums and their differences
pub sum_with : (a b c d : ℤ) → b ≡ c +ℤ d → a +ℤ b ≡ c +ℤ (a +ℤ d)
sum_with a b c d h = omega (arith, ints)

pub sums_apart : (a b c d w x y z : ℤ) → a -ℤ b ≡ c -ℤ d → w -ℤ x ≡ y -ℤ z
    → (a +ℤ w) -ℤ (b +ℤ x) ≡ (c +ℤ y) -ℤ (d +ℤ z)
sums_apart a b c d w x y z h k = omega (arith, ints)

pub equal_by_gaps : (a b c d : ℤ) → a -ℤ b ≡ c -ℤ d → c ≡ d → a ≡ b
equal_by_gaps a b c d h k = omega (arith, ints)

pub sums_changed : (a b c d w x y z : ℤ) → a ≡ b +ℤ (d -ℤ c) → w +ℤ y ≡ x +ℤ z
    → (a +ℤ w) +ℤ (c +ℤ y) ≡ (b +ℤ x) +ℤ (d +ℤ z)
sums_changed a b c d w x y z h k = omega (arith, ints)

pub equal_by_sums : (a b c d : ℤ) → a +ℤ c ≡ b +ℤ d → c ≡ d → a ≡ b
equal_by_sums a b c d h k = omega (arith, ints)

-- ---- how often points stand in a list
-- how often a point stands in a list
abbrev tally : Point → List Point → ℕ
tally p [] = 0
tally p (q ∷ qs) = once (is_same_point p q) + tally p qs

tally-starts : (p : Point) (ss : List Segment) → starts_at p ss ≡ tally p (starts ss)
tally-starts p [] = refl
tally-starts p (s ∷ ss) = starts-cons p s ss
    ∙ ap (λ (n : ℕ). once (is_same_point p s.from) + n) (tally-starts p ss)

tally-ends : (p : Point) (ss : List Segment) → ends_at p ss ≡ tally p (ends ss)
tally-ends p [] = refl
tally-ends p (s ∷ ss) = ends-cons p s ss ∙ ap (λ (n : ℕ). once (is_same_point p s.to) + n) (tally-ends p ss)

-- the list without the first of its points that is the same as p
abbrev without : Point → List Point → List Point
without p [] = []
without p (q ∷ qs) = cond (is_same_point p q) qs (q ∷ without p qs)

points-without : (p : Point) (qs : List Point) → AllByRecursion IsPoint qs → AllByRecursion IsPoint (without p qs)
points-without p [] h = tt
points-without p (q ∷ qs) h = by_test (is_same_point p q) (points-without p qs h.1)
  where
    by_test : (t : Bool) → AllByRecursion IsPoint (without p qs)
        → AllByRecursion IsPoint (cond t qs (q ∷ without p qs))
    by_test true r = h.1
    by_test false r = (h.0, r)

tally-without : (x p : Point) → IsPoint x → (qs : List Point) → AllByRecursion IsPoint qs → 1 ≤ tally x qs
    → tally p qs ≡ once (is_same_point p x) + tally p (without x qs)
tally-without x p dx [] d h = absurd (omega arith)
tally-without x p dx (q ∷ qs) d h = by_test (is_same_point x q) refl h (tally-without x p dx qs d.1)
  where
    by_test : (t : Bool) → is_same_point x q ≡ t → 1 ≤ once t + tally x qs
        → (1 ≤ tally x qs → tally p qs ≡ once (is_same_point p x) + tally p (without x qs))
        → once (is_same_point p q) + tally p qs ≡ once (is_same_point p x)
        + tally p (cond t qs (q ∷ without x qs))
    by_test true e h r = ap (λ (b : Bool). once b + tally p qs) (sym (same_through p x q dx d.0 e))
    by_test false e h r = let s = r (omega arith) in omega arith

module _ (f : Point → ℤ) (same : (p q : Point) → IsPoint p → IsPoint q → is_same_point p q ≡ true → f p ≡ f q) where
  total-without : (x : Point) → IsPoint x → (qs : List Point) → AllByRecursion IsPoint qs → 1 ≤ tally x qs
      → sum_z f qs ≡ f x +ℤ sum_z f (without x qs)
  total-without x dx [] d h = absurd (omega arith)
  total-without x dx (q ∷ qs) d h = by_test (is_same_point x q) refl h (total-without x dx qs d.1)
    where
      by_test : (t : Bool) → is_same_point x q ≡ t → 1 ≤ once t + tally x qs
          → (1 ≤ tally x qs → sum_z f qs ≡ f x +ℤ sum_z f (without x qs))
          → f q +ℤ sum_z f qs ≡ f x +ℤ sum_z f (cond t qs (q ∷ without x qs))
      by_test true e h r = ap (λ (z : ℤ). z +ℤ sum_z f qs) (sym (same x q dx d.0 e))
      by_test false e h r = sum_with (f q) (sum_z f qs) (f x) (sum_z f (without x qs)) (r (omega arith))

  total-same : (ps qs : List Point) → AllByRecursion IsPoint ps → AllByRecursion IsPoint qs
      → ((p : Point) → IsPoint p → tally p ps ≡ tally p qs) → sum_z f ps ≡ sum_z f qs
  total-same [] [] dp dq h = refl
  total-same [] (q ∷ qs) dp dq h =
      let t = h q dq.0 in
      let o : once (is_same_point q q) ≡ 1 = ap once (same_itself q) in
      absurd (omega arith)
  total-same (p ∷ ps) qs dp dq h =
      let t = h p dp.0 in
      let o : once (is_same_point p p) ≡ 1 = ap once (same_itself p) in
      let some : 1 ≤ tally p qs = omega arith in
      ap (λ (z : ℤ). f p +ℤ z)
      (total-same ps (without p qs) dp.1 (points-without p qs dq) (λ q d. let a = h q d in let b = tally-without p q dp.0 qs dq some in omega arith))
      ∙ sym (total-without p dp.0 qs dq some)

  points-starts : (ss : List Segment) → AllByRecursion IsProper ss → AllByRecursion IsPoint (starts ss)
  points-starts [] h = tt
  points-starts (s ∷ ss) h = (h.0.from, points-starts ss h.1)

  points-ends : (ss : List Segment) → AllByRecursion IsProper ss → AllByRecursion IsPoint (ends ss)
  points-ends [] h = tt
  points-ends (s ∷ ss) h = (h.0.to, points-ends ss h.1)

  pub balanced_totals : (ss : List Segment) → AllByRecursion IsProper ss → IsBalanced ss → sum_z f (starts ss)
      ≡ sum_z f (ends ss)
  balanced_totals ss d h = total-same (starts ss) (ends ss) (points-starts ss d) (points-ends ss d)
      (λ p dp. sym (tally-starts p ss) ∙ h.each p dp ∙ tally-ends p ss)
