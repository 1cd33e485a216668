-- The triangles of a convex ring's fan all turn to the left, and its corners differ.
use Rattle.std.proofs.Common.{◌≡◌, List, [], ◌∷◌, ◌++◌, refl, sym, ap, ◌∙◌, arith, subst}
use lib.IntN.{ℤ, pos, ◌+ℤ◌, ◌-ℤ◌, ◌*ℤ◌}
use lib.Signed.{◌<ℤ◌, ◌≤ℤ◌}
use Rattle.std.specs.List.{AllByRecursion, Contains}
use Rattle.std.proofs.lemmas.Int.{ints, by_lt_z}
use Rattle.std.proofs.lemmas.List.Elements.{All-contains}
use Rattle.scad_base.proofs.Products.{positive_product}
use Rattle.scad_geom.proofs.Ring.{Term, ring, num, var, ◌⊕◌, ◌⊖◌, ◌⊗◌}
use Rattle.scad_geom.proofs.Signs.{at_least_mul}
use Rattle.scad_hull.specs.Plane.{left}
use Rattle.scad_hull.specs.Ring.{round, IsRightOfNone, AllTurnLeft, IsConvexRing}
use Rattle.scad_hull.proofs.Chains.{IsPlane}
use Rattle.scad_hull.proofs.Whole.{recursion_of}

-- what turns round four and five points have to do with one another
pub record HasSums {X : Type 0} (turn : X → X → X → ℤ) : Type 0 where
  pub whole : (t u a b : X) → turn u a b ≡ (turn t u a +ℤ turn t a b) -ℤ turn t u b
  pub crossed : (t u a b w : X) → turn t u a *ℤ turn t b w
      ≡ turn t u b *ℤ turn t a w -ℤ turn t u w *ℤ turn t a b

T : Term → Term → Term → Term → Term → Term → Term
T pf pg qf qg rf rg = (qf ⊖ pf) ⊗ (rg ⊖ pg) ⊖ (qg ⊖ pg) ⊗ (rf ⊖ pf)

pub sums_of : {X : Type 0} (f g : X → ℤ) → HasSums (left f g)
unfolding T
sums_of f g = record {
  whole = λ t u a b.
      ring (f t ∷ g t ∷ f u ∷ g u ∷ f a ∷ g a ∷ f b ∷ g b ∷ [])
      (T (var 2) (var 3) (var 4) (var 5) (var 6) (var 7))
      ((T (var 0) (var 1) (var 2) (var 3) (var 4) (var 5) ⊕ T (var 0) (var 1) (var 4) (var 5) (var 6) (var 7))
      ⊖ T (var 0) (var 1) (var 2) (var 3) (var 6) (var 7)) refl;
  crossed = λ t u a b w.
      ring (f t ∷ g t ∷ f u ∷ g u ∷ f a ∷ g a ∷ f b ∷ g b ∷ f w ∷ g w ∷ [])
      (T (var 0) (var 1) (var 2) (var 3) (var 4) (var 5) ⊗ T (var 0) (var 1) (var 6) (var 7) (var 8) (var 9))
      (T (var 0) (var 1) (var 2) (var 3) (var 6) (var 7) ⊗ T (var 0) (var 1) (var 4) (var 5) (var 8) (var 9)
      ⊖ T (var 0) (var 1) (var 2) (var 3) (var 8) (var 9) ⊗ T (var 0) (var 1) (var 4) (var 5) (var 6) (var 7)) refl;
}

-- no two of the elements are the same
abbrev pub Differ : {X : Type 0} → List X → Type 0
Differ [] = Unit {0}
Differ (p ∷ ps) = AllByRecursion (λ q. p ≡ q → ⊥) ps × Differ ps

-- signs
weak : (z : ℤ) → pos 0 <ℤ z → pos 0 ≤ℤ z
weak z h = omega (arith, ints)

level : (z : ℤ) → pos 0 ≤ℤ z → z ≤ℤ pos 0 → z ≡ pos 0
level z h k = omega (arith, ints)

nought : (z : ℤ) → z ≡ pos 0 → pos 0 ≤ℤ z
nought z e = omega (arith, ints)

back_nought : (y z : ℤ) → y ≡ pos 0 -ℤ z → z ≡ pos 0 → pos 0 ≤ℤ y
back_nought y z e f = omega (arith, ints)

both_ways : (y z : ℤ) → y ≡ pos 0 -ℤ z → pos 0 ≤ℤ y → pos 0 <ℤ z → ⊥
both_ways y z e h k = omega (arith, ints)

none : (z : ℤ) → z ≡ pos 0 → pos 0 <ℤ z → ⊥
none z e h = omega (arith, ints)

less : (s x y m : ℤ) → s ≡ (x +ℤ m) -ℤ y → m ≡ pos 0 → pos 0 <ℤ s → pos 0 <ℤ (x -ℤ y)
less s x y m e f h = omega (arith, ints)

less_too : (s z v m : ℤ) → s ≡ (m +ℤ z) -ℤ v → m ≡ pos 0 → pos 0 <ℤ s → pos 0 <ℤ (z -ℤ v)
less_too s z v m e f h = omega (arith, ints)

-- x above y above 0, and z above v and not below 0: the products differ
clash : (x y z v : ℤ) → pos 0 <ℤ y → pos 0 <ℤ (x -ℤ y) → pos 0 ≤ℤ z → pos 0 <ℤ (z -ℤ v)
    → x *ℤ z ≡ y *ℤ v → ⊥
clash x y z v hy hx hz hv e =
    against ((x -ℤ y) *ℤ z) (y *ℤ (z -ℤ v)) (x *ℤ z) (y *ℤ v)
    (ring (x ∷ y ∷ z ∷ v ∷ []) ((var 0 ⊖ var 1) ⊗ var 2 ⊕ var 1 ⊗ (var 2 ⊖ var 3))
    (var 0 ⊗ var 2 ⊖ var 1 ⊗ var 3) refl)
    (at_least_mul (x -ℤ y) z (weak (x -ℤ y) hx) hz) (positive_product y (z -ℤ v) hy hv) e
  where
    against : (s t p q : ℤ) → s +ℤ t ≡ p -ℤ q → pos 0 ≤ℤ s → pos 0 <ℤ t → p ≡ q → ⊥
    against s t p q e h k f = omega (arith, ints)

module _ {X : Type 0} (turn : X → X → X → ℤ) (Before Same : X → X → Type 0) (plane : IsPlane turn Before Same) (sums : HasSums turn) where
  module _ (t : X) where
    -- on from a, each corner lies to the left of the way from t to the last
    abbrev pub FanTurns : X → List X → Type 0
    FanTurns a [] = Unit {0}
    FanTurns a (b ∷ rs) = (pos 0 <ℤ turn t a b) × FanTurns b rs

    round_back : (a b : X) → turn a b t ≡ turn t a b
    round_back a b = same (turn a b t) (turn a t b) (turn t a b) (plane.turned a t b) (plane.swapped t a b)
      where
        same : (x y z : ℤ) → x ≡ pos 0 -ℤ y → y ≡ pos 0 -ℤ z → x ≡ z
        same x y z e f = omega (arith, ints)

    -- what lies to the left of what lies to the left
    pub strict_through : (a b q : X) → Before t a → Before t b → Before t q → pos 0 <ℤ turn t a b
        → pos 0 <ℤ turn t b q → pos 0 <ℤ turn t a q
    strict_through a b q ha hb hq h k =
        by_lt_z (pos 0) (turn t a q) (λ l. l) (λ l. absurd (flat (level (turn t a q)
        (plane.through t a q b ha hq hb (weak (turn t b q) k) (weak (turn t a b) h)) l)))
      where
        flat : turn t a q ≡ pos 0 → ⊥
        flat e =
            both_ways (turn t b a) (turn t a b) (plane.turned t a b)
            (plane.through t b a q hb ha hq (back_nought (turn t q a) (turn t a q) (plane.turned t a q) e)
            (weak (turn t b q) k)) h

    no_flat : (u a b w : X) → Before t u → Before t a → Before t b → pos 0 <ℤ turn t u a
        → pos 0 <ℤ turn u a b → pos 0 <ℤ turn a b w → pos 0 ≤ℤ turn b w t → turn t a b ≡ pos 0 → ⊥
    no_flat u a b w hu ha hb x turn_a turn_b z e =
        clash (turn t u a) (turn t u b) (turn t b w) (turn t a w) ahead
        (less (turn u a b) (turn t u a) (turn t u b) (turn t a b) (sums.whole t u a b) e turn_a)
        (subst (λ (s : ℤ). pos 0 ≤ℤ s) (round_back b w) z)
        (less_too (turn a b w) (turn t b w) (turn t a w) (turn t a b) (sums.whole t a b w) e turn_b)
        (sums.crossed t u a b w ∙ ap (λ (s : ℤ). turn t u b *ℤ turn t a w -ℤ turn t u w *ℤ s) e
        ∙ ring ((turn t u b *ℤ turn t a w) ∷ turn t u w ∷ []) (var 0 ⊖ var 1 ⊗ num (pos 0)) (var 0) refl)
      where
        flat : turn t u b ≡ pos 0 → ⊥
        flat f =
            both_ways (turn t a u) (turn t u a) (plane.turned t u a)
            (plane.through t a u b ha hu hb (back_nought (turn t b u) (turn t u b) (plane.turned t u b) f)
            (nought (turn t a b) e)) x

        ahead : pos 0 <ℤ turn t u b
        ahead = by_lt_z (pos 0) (turn t u b) (λ l. l) (λ l. absurd (flat (level (turn t u b)
            (plane.through t u b a hu hb ha (nought (turn t a b) e) (weak (turn t u a) x)) l)))

    strict_fan : (s u a : X) (rs : List X) → Before t u → Before t a → AllByRecursion (Before t) rs
        → AllTurnLeft turn (u ∷ (a ∷ (rs ++ (t ∷ (s ∷ [])))))
        → IsRightOfNone turn t (a ∷ (rs ++ (t ∷ (s ∷ [])))) → pos 0 <ℤ turn t u a → FanTurns a rs
    strict_fan s u a [] hu ha h l r k = tt
    strict_fan s u a (b ∷ []) hu ha h l r k = (subst (λ (z : ℤ). pos 0 <ℤ z) (round_back a b) l.1.0, tt)
    strict_fan s u a (b ∷ (w ∷ rs)) hu ha h l r k = (here, strict_fan s a b (w ∷ rs) ha h.0 h.1 l.1 r.1 here)
      where
        here : pos 0 <ℤ turn t a b
        here = by_lt_z (pos 0) (turn t a b) (λ m. m) (λ m. absurd (no_flat u a b w hu ha h.0 k l.0 l.1.0 r.1.0
            (level (turn t a b) (subst (λ (z : ℤ). pos 0 ≤ℤ z) (round_back a b) r.0) m)))

    ahead_of : (a b : X) (qs : List X) → Before t a → Before t b → AllByRecursion (Before t) qs
        → pos 0 <ℤ turn t a b
        → AllByRecursion (λ q. pos 0 <ℤ turn t b q) qs → AllByRecursion (λ q. pos 0 <ℤ turn t a q) qs
    ahead_of a b [] ha hb h k l = tt
    ahead_of a b (q ∷ qs) ha hb h k l = (strict_through a b q ha hb h.0 k l.0, ahead_of a b qs ha hb h.1 k l.1)

    all_ahead : (a : X) (rs : List X) → Before t a → AllByRecursion (Before t) rs → FanTurns a rs
        → AllByRecursion (λ q. pos 0 <ℤ turn t a q) rs
    all_ahead a [] ha h f = tt
    all_ahead a (b ∷ rs) ha h f = (f.0, ahead_of a b rs ha h.0 h.1 f.0 (all_ahead b rs h.0 h.1 f.1))

    other : (a q : X) → pos 0 <ℤ turn t a q → a ≡ q → ⊥
    other a q h e = none (turn t a q) (ap (turn t a) (sym e) ∙ plane.ends t a) h

    others : (a : X) (qs : List X) → AllByRecursion (λ q. pos 0 <ℤ turn t a q) qs
        → AllByRecursion (λ q. a ≡ q → ⊥) qs
    others a [] h = tt
    others a (q ∷ qs) h = (other a q h.0, others a qs h.1)

    all_differ : (a : X) (rs : List X) → Before t a → AllByRecursion (Before t) rs → FanTurns a rs
        → Differ (a ∷ rs)
    all_differ a [] ha h f = (tt, tt)
    all_differ a (b ∷ rs) ha h f = (others a (b ∷ rs) (all_ahead a (b ∷ rs) ha h f), all_differ b rs h.0 h.1 f.1)

    not_first : (qs : List X) → AllByRecursion (Before t) qs → AllByRecursion (λ q. t ≡ q → ⊥) qs
    not_first [] h = tt
    not_first (q ∷ qs) h = (λ e. let k : Before t t = subst (Before t) (sym e) h.0 in plane.once t t k k, not_first qs h.1)

  -- of a whole ring
  abbrev pub RingTurns : List X → Type 0
  RingTurns [] = Unit {0}
  RingTurns (t ∷ []) = Unit {0}
  RingTurns (t ∷ (a ∷ rs)) = FanTurns t a rs

  pub fan_of : (points ring : List X) → IsConvexRing turn Before points ring → RingTurns ring × Differ ring
  fan_of points [] convex = (tt, tt)
  fan_of points (t ∷ []) convex = (tt, (tt, tt))
  fan_of points (t ∷ (a ∷ [])) convex = let l = convex.three in absurd (omega arith)
  fan_of points (t ∷ (a ∷ (b ∷ rs))) convex =
      let first = recursion_of (Before t) (a ∷ (b ∷ rs)) convex.starts in
      let listed = recursion_of (Contains points) (t ∷ (a ∷ (b ∷ rs))) convex.corners in
      let held = All-contains (λ q. IsRightOfNone turn q (round (t ∷ (a ∷ (b ∷ rs))))) points t convex.holds listed.0 in
      let fan : FanTurns t a (b ∷ rs) = (
        convex.turns.0,
        strict_fan t a a b rs first.0 first.1.0 first.1.1 convex.turns.1 held.1.1 convex.turns.0,
      ) in
      (fan, (not_first t (a ∷ (b ∷ rs)) first, all_differ t a (b ∷ rs) first.0 first.1 fan))
