-- Lists that have each element equally often: their sums are the same, and where both ascend they are the same list.
use Rattle.std.proofs.Common.{◌≡◌, ℕ, suc, ◌+◌, ◌<◌, Bool, true, false, cond, List, [], ◌∷◌, length, get_or, arith, refl, ap, ap₂, sym, ◌∙◌, subst}
use Rattle.std.specs.Bool.{Decides}
use Rattle.std.specs.List.{sum_by, count_by}
use Rattle.std.specs.List.Sorted.{IsSortedBy}
use Rattle.std.specs.Ordering.{is_lt, ordering_reverse}
use Rattle.std.specs.declared.cmp.Ordering.{Ordering}
use Rattle.std.specs.declared.cmp.Ordering.TheVariants.{Less, Equal, Greater}
use Rattle.std.specs.Cmp.{IsTotalOrder}
use Rattle.std.proofs.lemmas.List.Sums.{sum_by-cons}
use Rattle.std.proofs.lemmas.List.Sorted.{ranks_by, sorted_far}

module _ {X : Type 0} (E : X → X → Bool) (decides : (a b : X) → Decides (E a b) (a ≡ b)) where
  -- how often z stands in the list
  abbrev pub times_in : X → List X → ℕ
  times_in z xs = count_by (E z) xs

  pub times_in-cons : (z x : X) (xs : List X) → times_in z (x ∷ xs) ≡ cond (E z x) 1 0 + times_in z xs
  times_in-cons z x xs = sum_by-cons (λ y. cond (E z y) 1 0) x xs

  same_itself : (z : X) → E z z ≡ true
  same_itself z = (decides z z).1 refl

  -- z itself counts once
  once : (z : X) → cond {A = ℕ} (E z z) 1 0 ≡ 1
  once z = ap {B = ℕ} (λ b. cond b 1 0) (same_itself z)

  times_in-other : (z x : X) (xs : List X) → E z x ≡ false → times_in z (x ∷ xs) ≡ times_in z xs
  times_in-other z x xs e =
      let none : cond {A = ℕ} (E z x) 1 0 ≡ 0 = ap {B = ℕ} (λ b. cond b 1 0) e in
      omega (arith, times_in-cons z x xs)

  -- the list without the first z
  without : X → List X → List X
  without z [] = []
  without z (x ∷ xs) = cond (E z x) xs (x ∷ without z xs)

  sum_by-without : (f : X → ℕ) (z : X) (xs : List X) → 0 < times_in z xs → sum_by f xs ≡ f z + sum_by f (without z xs)
  unfolding without
  sum_by-without f z [] some = absurd (omega arith)
  sum_by-without f z (x ∷ xs) some =
      elim (E z x) as (λ b. E z x ≡ b → sum_by f (x ∷ xs) ≡ f z + sum_by f (cond b xs (x ∷ without z xs))) [
        | true ↦ (λ e. subst (λ y. sum_by f (y ∷ xs) ≡ f z + sum_by f xs) ((decides z x).0 e) (sum_by-cons f z xs))
        | false ↦ (λ e.
            let left : 0 < times_in z xs = omega (arith, times_in-other z x xs e) in
            omega (arith, sum_by-cons f x xs, sum_by-cons f x (without z xs), sum_by-without f z xs left))
      ] refl

  pub same_sums : (xs ys : List X) → ((z : X) → times_in z xs ≡ times_in z ys) → (f : X → ℕ) → sum_by f xs ≡ sum_by f ys
  same_sums [] [] same f = refl
  same_sums [] (y ∷ ys) same f = absurd (omega (arith, same y, times_in-cons y y ys, once y))
  same_sums (x ∷ xs) ys same f =
      let there : 0 < times_in x ys = omega (arith, same x, times_in-cons x x xs, once x) in
      let rest : (z : X) → times_in z xs ≡ times_in z (without x ys) = λ z. omega (
        arith,
        same z,
        times_in-cons z x xs,
        sum_by-without (λ y. cond (E z y) 1 0) x ys there,
      ) in
      omega (arith, sum_by-cons f x xs, sum_by-without f x ys there, same_sums xs (without x ys) rest f)

  -- where z stands in a list
  pub place_of : (z : X) (xs : List X) → 0 < times_in z xs → (i : ℕ) × (i < length xs) × (get_or xs i z ≡ z)
  place_of z [] some = absurd (omega arith)
  place_of z (x ∷ xs) some =
      elim (E z x) as (λ b. E z x ≡ b → (i : ℕ) × (i < length (x ∷ xs)) × (get_or (x ∷ xs) i z ≡ z)) [
        | true ↦ (λ e. (0, omega arith, sym ((decides z x).0 e)))
        | false ↦ (λ e.
            let left : 0 < times_in z xs = omega (arith, times_in-other z x xs e) in
            let (i, inside, is) = place_of z xs left in
            (suc i, omega arith, is))
      ] refl

  module _ (R : X → X → Ordering) (total : IsTotalOrder R) (exact : (a b : X) → R a b ≡ Equal → a ≡ b) where
    abbrev lt : X → X → Bool
    lt a b = is_lt (R a b)

    -- neither stands before the other
    neither : (r : Ordering) → is_lt r ≡ false → is_lt (ordering_reverse r) ≡ false → r ≡ Equal
    neither Less a b = cc
    neither Equal a b = refl
    neither Greater a b = cc

    tied : (x y : X) → lt x y ≡ false → lt y x ≡ false → x ≡ y
    tied x y a b = exact x y (neither (R x y) a (ap is_lt (sym (total.antisymm y x)) ∙ b))

    -- no element stands before the first
    first_least : (x : X) (xs : List X) (z : X) → IsSortedBy lt (x ∷ xs) → 0 < times_in z (x ∷ xs) → lt z x ≡ false
    first_least x xs z ascends some =
        let (i, inside, is) = place_of z (x ∷ xs) some in
        subst (λ y. lt y x ≡ false) is (sorted_far lt (ranks_by total (λ y. y)) (x ∷ xs) ascends 0 i z (omega arith)
        inside)

    tail_ascends : (x : X) (xs : List X) → IsSortedBy lt (x ∷ xs) → IsSortedBy lt xs
    tail_ascends x xs ascends k d low inside =
        let shifted : suc k + 1 ≡ suc (k + 1) = omega arith in
        subst (λ n. lt (get_or (x ∷ xs) n d) (get_or xs k d) ≡ false) shifted (ascends (suc k) d (omega arith)
        (omega arith))

    pub same_ascending : (xs ys : List X) → IsSortedBy lt xs → IsSortedBy lt ys
        → ((z : X) → times_in z xs ≡ times_in z ys) → xs ≡ ys
    same_ascending [] [] a b same = refl
    same_ascending [] (y ∷ ys) a b same = absurd (omega (arith, same y, times_in-cons y y ys, once y))
    same_ascending (x ∷ xs) [] a b same = absurd (omega (arith, same x, times_in-cons x x xs, once x))
    same_ascending (x ∷ xs) (y ∷ ys) a b same =
        let heads : x ≡ y = tied x y
        (first_least y ys x b (omega (arith, same x, times_in-cons x x xs, once x)))
        (first_least x xs y a (omega (arith, same y, times_in-cons y y ys, once y))) in
        let rest : (z : X) → times_in z xs ≡ times_in z ys = λ z. omega (
          arith,
          same z,
          times_in-cons z x xs,
          times_in-cons z y ys,
          ap {B = ℕ} (λ v. cond (E z v) 1 0) heads,
        ) in
        ap₂ (λ u v. u ∷ v) heads (same_ascending xs ys (tail_ascends x xs a) (tail_ascends y ys b) rest)
