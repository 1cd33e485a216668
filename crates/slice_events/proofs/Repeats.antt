-- The steps of a loop that drops repeats from a sorted list.
use Rattle.std.proofs.Common.{◌≡◌, ℕ, zero, suc, ◌+◌, ◌<◌, Bool, true, false, List, [], ◌∷◌, length, get_or, drop, map, refl, ◌∙◌, arith, add-one}
use Rattle.std.specs.Prelude.{if◌then◌else◌}
use Rattle.std.specs.List.{AllByRecursion}
use Rattle.slice_events.specs.Distinct.{distinct_by, stays_by}

module _ {A B : Type 0} (lt : A → A → Bool) (f : B → A) where
  pub stays_last : (xs : List B) (i : ℕ) → i + 1 ≡ length xs → stays_by lt (map f xs) i ≡ true
  stays_last [] i h = absurd (omega arith)
  stays_last (x ∷ []) i h = refl
  stays_last (x ∷ (y ∷ xs)) zero h = absurd (omega arith)
  stays_last (x ∷ (y ∷ xs)) (suc i) h = stays_last (y ∷ xs) i (omega arith)

  pub stays_next : (xs : List B) (i : ℕ) (d e : B) → suc i < length xs
      → stays_by lt (map f xs) i ≡ lt (f (get_or xs i d)) (f (get_or xs (suc i) e))
  stays_next [] i d e h = absurd (omega arith)
  stays_next (x ∷ []) i d e h = absurd (omega arith)
  stays_next (x ∷ (y ∷ xs)) zero d e h = refl
  stays_next (x ∷ (y ∷ xs)) (suc i) d e h = stays_next (y ∷ xs) i d e (omega arith)

  distinct_more : (xs : List B) (i : ℕ) (d : B) → i < length xs
      → distinct_by lt (drop i (map f xs))
      ≡ (if stays_by lt (map f xs) i then f (get_or xs i d)
      ∷ distinct_by lt (drop (suc i) (map f xs)) else distinct_by lt (drop (suc i) (map f xs)))
  distinct_more [] i d h = absurd (omega arith)
  distinct_more (x ∷ []) zero d h = refl
  distinct_more (x ∷ []) (suc i) d h = absurd (omega arith)
  distinct_more (x ∷ (y ∷ xs)) zero d h = refl
  distinct_more (x ∷ (y ∷ xs)) (suc i) d h = distinct_more (y ∷ xs) i d (omega arith)

  -- an element that stays is kept, the others are left out
  pub distinct_kept : (xs : List B) (i : ℕ) (d : B) → i < length xs → stays_by lt (map f xs) i ≡ true
      → distinct_by lt (drop i (map f xs)) ≡ f (get_or xs i d) ∷ distinct_by lt (drop (i + 1) (map f xs))
  distinct_kept xs i d h e = distinct_more xs i d h ∙ rw (e, add-one) refl

  pub distinct_left : (xs : List B) (i : ℕ) → i < length xs → stays_by lt (map f xs) i ≡ false
      → distinct_by lt (drop i (map f xs)) ≡ distinct_by lt (drop (i + 1) (map f xs))
  distinct_left [] i h e = absurd (omega arith)
  distinct_left (x ∷ xs) i h e = distinct_more (x ∷ xs) i x h ∙ rw (e, add-one) refl

-- what holds of each element still does
pub distinct_all : {A : Type 0} (lt : A → A → Bool) (P : A → Type 0) (xs : List A) → AllByRecursion P xs
    → AllByRecursion P (distinct_by lt xs)
distinct_all lt P [] h = tt
distinct_all lt P (x ∷ []) h = h
distinct_all lt P (x ∷ (y ∷ xs)) h = by_test (lt x y) (distinct_all lt P (y ∷ xs) h.1)
  where
    by_test : (t : Bool) → AllByRecursion P (distinct_by lt (y ∷ xs))
        → AllByRecursion P (if t then x ∷ distinct_by lt (y ∷ xs) else distinct_by lt (y ∷ xs))
    by_test true r = (h.0, r)
    by_test false r = r
