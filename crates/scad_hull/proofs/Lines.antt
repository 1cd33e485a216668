-- Points on one line: the first two of them give it.
use Rattle.std.proofs.Common.{◌≡◌, inl, inr, ℕ, zero, suc, Bool, true, false, cond, ◌&&◌, List, [], ◌∷◌, length, get_or, ◌<◌, ◌≤◌, refl, sym, ap, ap₂, ◌∙◌, arith, subst}
use lib.IntN.{ℤ, pos, ◌-ℤ◌, ◌*ℤ◌}
use lib.Signed.{◌<ℤ◌}
use Rattle.std.specs.Prelude.{int_lt, nat_lt}
use Rattle.std.specs.List.{list_all, AllByRecursion}
use Rattle.std.specs.List.Sorted.{IsStrictlySortedBy}
use Rattle.std.specs.Ordering.{int_cmp, ordering_then}
use Rattle.std.specs.declared.cmp.Ordering.TheVariants.{Less, Equal, Greater}
use Rattle.std.proofs.lemmas.Int.{ints, by_lt_z}
use Rattle.std.proofs.lemmas.Bool.{and_parts}
use Rattle.scad_base.proofs.Products.{positive_product, negative_product}
use Rattle.scad_geom.specs.Sign.{is_zero}
use Rattle.scad_geom.proofs.Signs.{zero_true}
use Rattle.scad_geom.proofs.Ring.{ring, num, ◌⊖◌, ◌⊗◌, v0, v1, v2, v3, v4, v5, v6, v7}
use Rattle.scad_hull.specs.Plane.{area, left, IsOnward, IsBefore}
use Rattle.scad_hull.specs.Flat.{flat_cmp, flat_left, are_on_line}

-- ---- the order
pub onward_of : (a b c d : ℤ) → ordering_then (int_cmp b d) (int_cmp a c) ≡ Less
    → IsOnward (c -ℤ a) (d -ℤ b)
onward_of a b c d e = by_tests (int_lt b d) (int_lt d b) (int_lt a c) (int_lt c a) refl refl refl e
  where
    by_tests : (l m n o : Bool) → int_lt b d ≡ l → int_lt d b ≡ m → int_lt a c ≡ n
        → ordering_then (cond l Less (cond m Greater Equal)) (cond n Less (cond o Greater Equal)) ≡ Less
        → IsOnward (c -ℤ a) (d -ℤ b)
    by_tests true m n o f g h e = inl (omega (arith, ints))
    by_tests false true n o f g h e = cc
    by_tests false false true o f g h e = inr (omega (arith, ints), omega (arith, ints))
    by_tests false false false true f g h e = cc
    by_tests false false false false f g h e = cc

pub before_of : (p q : ℤ × ℤ) → flat_cmp p q ≡ Less → IsBefore (λ r. r.0) (λ r. r.1) p q
before_of p q e = onward_of p.0 p.1 q.0 q.1 e

-- ---- products
pub nought_right : (u d : ℤ) → u *ℤ d ≡ pos 0 → (u ≡ pos 0 → ⊥) → d ≡ pos 0
nought_right u d e n = by_lt_z (pos 0) u
    (λ up. by_lt_z (pos 0) d (λ h. absurd (clash_up (u *ℤ d) e (positive_product u d up h)))
    (λ h. by_lt_z d (pos 0) (λ k. absurd (clash_down (u *ℤ d) e (flip u d (negative_product d u up k))))
    (λ k. omega (arith, ints))))
    (λ low. by_lt_z u (pos 0)
    (λ down. by_lt_z (pos 0) d (λ h. absurd (clash_down (u *ℤ d) e (negative_product u d h down)))
    (λ h. by_lt_z d (pos 0) (λ k. absurd (clash_up (u *ℤ d) e (both u d down k))) (λ k. omega (arith, ints))))
    (λ high. absurd (n (omega (arith, ints)))))
  where
    clash_up : (z : ℤ) → z ≡ pos 0 → pos 0 <ℤ z → ⊥
    clash_up z e h = omega (arith, ints)

    clash_down : (z : ℤ) → z ≡ pos 0 → z <ℤ pos 0 → ⊥
    clash_down z e h = omega (arith, ints)

    flip : (a b : ℤ) → (b *ℤ a) <ℤ pos 0 → (a *ℤ b) <ℤ pos 0
    flip a b h = subst (λ (z : ℤ). z <ℤ pos 0) (ring (a ∷ b ∷ []) (v1 ⊗ v0) (v0 ⊗ v1) refl) h

    both : (a b : ℤ) → a <ℤ pos 0 → b <ℤ pos 0 → pos 0 <ℤ (a *ℤ b)
    both a b h k = subst (λ (z : ℤ). pos 0 <ℤ z)
        (ring (a ∷ b ∷ []) ((num (pos 0) ⊖ v0) ⊗ (num (pos 0) ⊖ v1)) (v0 ⊗ v1) refl)
        (positive_product (pos 0 -ℤ a) (pos 0 -ℤ b) (omega (arith, ints)) (omega (arith, ints)))

-- ---- a line
module _ {X : Type 0} (f g : X → ℤ) (a b : X) (apart : IsBefore f g a b) where
  abbrev dx : ℤ
  dx = f b -ℤ f a

  abbrev dy : ℤ
  dy = g b -ℤ g a

  -- the turn between two points as the way from a to b sees them
  along : (p q : X) → area dx dy (f q -ℤ f p) (g q -ℤ g p) ≡ left f g a b q -ℤ left f g a b p
  along p q =
      ring (f a ∷ g a ∷ f b ∷ g b ∷ f p ∷ g p ∷ f q ∷ g q ∷ [])
      ((v2 ⊖ v0) ⊗ (v7 ⊖ v5) ⊖ (v3 ⊖ v1) ⊗ (v6 ⊖ v4))
      (((v2 ⊖ v0) ⊗ (v7 ⊖ v1) ⊖ (v3 ⊖ v1) ⊗ (v6 ⊖ v0))
      ⊖ ((v2 ⊖ v0) ⊗ (v5 ⊖ v1) ⊖ (v3 ⊖ v1) ⊗ (v4 ⊖ v0))) refl

  across : (x y z w u v : ℤ) → u *ℤ area x y z w ≡ x *ℤ area u v z w -ℤ z *ℤ area u v x y
  across x y z w u v =
      ring (x ∷ y ∷ z ∷ w ∷ u ∷ v ∷ []) (v4 ⊗ (v0 ⊗ v3 ⊖ v1 ⊗ v2))
      (v0 ⊗ (v4 ⊗ v3 ⊖ v5 ⊗ v2) ⊖ v2 ⊗ (v4 ⊗ v1 ⊖ v5 ⊗ v0)) refl

  upwards : (x y z w u v : ℤ) → v *ℤ area x y z w ≡ y *ℤ area u v z w -ℤ w *ℤ area u v x y
  upwards x y z w u v =
      ring (x ∷ y ∷ z ∷ w ∷ u ∷ v ∷ []) (v5 ⊗ (v0 ⊗ v3 ⊖ v1 ⊗ v2))
      (v1 ⊗ (v4 ⊗ v3 ⊖ v5 ⊗ v2) ⊖ v3 ⊗ (v4 ⊗ v1 ⊖ v5 ⊗ v0)) refl

  both_nought : (x z s t : ℤ) → s ≡ pos 0 → t ≡ pos 0 → x *ℤ s -ℤ z *ℤ t ≡ pos 0
  both_nought x z s t h k = ap₂ (λ (u v : ℤ). x *ℤ u -ℤ z *ℤ v) h k
      ∙ ring (x ∷ z ∷ []) (v0 ⊗ num (pos 0) ⊖ v1 ⊗ num (pos 0)) (num (pos 0)) refl

  module _ (p q r : X) (hp : left f g a b p ≡ pos 0) (hq : left f g a b q ≡ pos 0) (hr : left f g a b r ≡ pos 0) where
    level : (s : X) → left f g a b s ≡ pos 0 → area dx dy (f s -ℤ f p) (g s -ℤ g p) ≡ pos 0
    level s h = along p s ∙ ap₂ (λ (u v : ℤ). u -ℤ v) h hp

    by_width : dx *ℤ left f g p q r ≡ pos 0
    by_width =
        across (f q -ℤ f p) (g q -ℤ g p) (f r -ℤ f p) (g r -ℤ g p) dx dy
        ∙ both_nought (f q -ℤ f p) (f r -ℤ f p) (area dx dy (f r -ℤ f p) (g r -ℤ g p))
        (area dx dy (f q -ℤ f p) (g q -ℤ g p)) (level r hr) (level q hq)

    by_height : dy *ℤ left f g p q r ≡ pos 0
    by_height =
        upwards (f q -ℤ f p) (g q -ℤ g p) (f r -ℤ f p) (g r -ℤ g p) dx dy
        ∙ both_nought (g q -ℤ g p) (g r -ℤ g p) (area dx dy (f r -ℤ f p) (g r -ℤ g p))
        (area dx dy (f q -ℤ f p) (g q -ℤ g p)) (level r hr) (level q hq)

    -- three points on the line through a and b lie on one line
    pub on_one_line : left f g p q r ≡ pos 0
    on_one_line = elim apart [
      | inl up ↦ nought_right dy (left f g p q r) by_height (λ e. above dy e up)
      | inr flat ↦ nought_right dx (left f g p q r) by_width (λ e. above dx e flat.1)
    ]
      where
        above : (z : ℤ) → z ≡ pos 0 → pos 0 <ℤ z → ⊥
        above z e h = omega (arith, ints)

-- ---- the test
all_of : {X : Type 0} (p : X → Bool) (xs : List X) → AllByRecursion (λ x. p x ≡ true) xs
    → list_all p xs ≡ true
all_of p [] h = refl
all_of p (x ∷ xs) h = ap₂ (λ a b. a && b) h.0 (all_of p xs h.1)

pub each_of : {X : Type 0} (p : X → Bool) (xs : List X) → list_all p xs ≡ true
    → AllByRecursion (λ x. p x ≡ true) xs
each_of p [] h = tt
each_of p (x ∷ xs) h = let both = and_parts (p x) (list_all p xs) h in (both.0, each_of p xs both.1)

changed : {X : Type 0} {P Q : X → Type 0} → ((x : X) → P x → Q x) → (xs : List X) → AllByRecursion P xs
    → AllByRecursion Q xs
changed f [] h = tt
changed f (x ∷ xs) h = (f x h.0, changed f xs h.1)

same_truth : (a b : Bool) → (a ≡ true → b ≡ true) → (b ≡ true → a ≡ true) → a ≡ b
same_truth true b f g = sym (f refl)
same_truth false true f g = g refl
same_truth false false f g = refl

as_zero : (z : ℤ) → z ≡ pos 0 → is_zero z ≡ true
as_zero z e = ap is_zero e

end_on : (a b : ℤ × ℤ) → is_zero (flat_left a b b) ≡ true
end_on a b = as_zero (flat_left a b b) (ring (a.0 ∷ a.1 ∷ b.0 ∷ b.1 ∷ [])
    ((v2 ⊖ v0) ⊗ (v3 ⊖ v1) ⊖ (v3 ⊖ v1) ⊗ (v2 ⊖ v0)) (num (pos 0)) refl)

start_on : (a b : ℤ × ℤ) → is_zero (flat_left a b a) ≡ true
start_on a b = as_zero (flat_left a b a)
    (ring (a.0 ∷ a.1 ∷ b.0 ∷ b.1 ∷ []) ((v2 ⊖ v0) ⊗ (v1 ⊖ v1) ⊖ (v3 ⊖ v1) ⊗ (v0 ⊖ v0))
    (num (pos 0)) refl)

-- where all points lie on the line through two differing ones, any three lie on one line
pub line_of : (a b : ℤ × ℤ) → IsBefore (λ s. s.0) (λ s. s.1) a b → (ps : List (ℤ × ℤ))
    → AllByRecursion (λ p. flat_left a b p ≡ pos 0) ps → are_on_line ps ≡ true
line_of a b apart ps each =
    all_of (λ p. list_all (λ q. list_all (λ r. is_zero (flat_left p q r)) ps) ps) ps
    (changed (λ p hp. all_of (λ q. list_all (λ r. is_zero (flat_left p q r)) ps) ps
    (changed (λ q hq. all_of (λ r. is_zero (flat_left p q r)) ps
    (changed (λ r hr. as_zero (flat_left p q r) (on_one_line (λ s. s.0) (λ s. s.1) a b apart p q r hp hq hr))
    ps each)) ps each)) ps each)

module _ (a b : ℤ × ℤ) (rest : List (ℤ × ℤ)) (apart : flat_cmp a b ≡ Less) where
  abbrev ps : List (ℤ × ℤ)
  ps = a ∷ (b ∷ rest)

  abbrev on : ℤ × ℤ → Bool
  on p = is_zero (flat_left a b p)

  there : are_on_line ps ≡ true → list_all on ps ≡ true
  there h =
      let rows = (and_parts (list_all (λ q. list_all (λ r. is_zero (flat_left a q r)) ps) ps) _ h).0 in
      (each_of (λ q. list_all (λ r. is_zero (flat_left a q r)) ps) ps rows).1.0

  back : list_all on ps ≡ true → are_on_line ps ≡ true
  back h = line_of a b (before_of a b apart) ps (changed (λ p e. zero_true (flat_left a b p) e) ps (each_of on ps h))

  pub by_the_first : list_all on ps ≡ are_on_line ps
  by_the_first = same_truth (list_all on ps) (are_on_line ps) back there

-- ---- as the code tells it
nothing_on : are_on_line [] ≡ true
nothing_on = refl

one_on : (a : ℤ × ℤ) → are_on_line (a ∷ []) ≡ true
one_on a = ap (λ z. z && true) (ap (λ z. z && true) (ap (λ z. z && true) (start_on a a)))

pub few_on : (ps : List (ℤ × ℤ)) → length ps < 2 → are_on_line ps ≡ true
few_on [] h = refl
few_on (a ∷ []) h = one_on a
few_on (a ∷ (b ∷ ps)) h = absurd (omega arith)

pub others_on : (ps : List (ℤ × ℤ)) (a b : ℤ × ℤ) → 2 ≤ length ps → a ≡ get_or ps 0 a
    → b ≡ get_or ps 1 b → IsStrictlySortedBy flat_cmp ps
    → list_all (λ p. is_zero (flat_left a b p)) ps ≡ are_on_line ps
unfolding IsStrictlySortedBy
others_on [] a b h e f s = absurd (omega arith)
others_on (c ∷ []) a b h e f s = absurd (omega arith)
others_on (c ∷ (d ∷ ps)) a b h e f s = ap₂ (λ u v. list_all (λ p. is_zero (flat_left u v p)) (c ∷ (d ∷ ps)))
    e f
    ∙ by_the_first c d ps s.0.0

pub few_told : (qs : List (ℤ × ℤ)) → length qs < 2 → nat_lt (length qs) 2 ≡ are_on_line qs
few_told qs h = less (length qs) h ∙ sym (few_on qs h)
  where
    less : (n : ℕ) → n < 2 → nat_lt n 2 ≡ true
    less zero h = refl
    less (suc zero) h = refl
    less (suc (suc n)) h = absurd (omega arith)
