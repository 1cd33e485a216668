-- The last items of a list, turned round, and what a chain does there.
use Rattle.std.proofs.Common.{◌≡◌, ℕ, zero, suc, ◌-◌, ◌+◌, ◌≤◌, ◌<◌, Bool, true, false, List, [], ◌∷◌, length, reverse, take, get_or, ℤ, pos, arith, refl, ap, ap₂, sym, ◌∙◌}
use Rattle.std.proofs.lemmas.List.{take_more, reverse-append, reverse-reverse, get_or-take, length-take-le, take-take}
use Rattle.std.proofs.Math.Seq.{take-length}
use Rattle.std.specs.Prelude.{int_lt, if◌then◌else◌}
use Rattle.scad_hull.specs.Chain.{bent, rest_of}

last_at : {X : Type 0} (xs : List X) (n : ℕ) (d : X) → n + 1 ≡ length xs → reverse xs ≡ get_or xs n d
    ∷ reverse (take n xs)
last_at xs n d e =
    ap reverse (sym (take-length xs) ∙ ap (λ m. take m xs) (sym e) ∙ take_more xs n d (omega arith))
    ∙ reverse-append (take n xs) (get_or xs n d ∷ [])

-- another default
other : {X : Type 0} (xs : List X) (i : ℕ) (d e : X) → i < length xs → get_or xs i d ≡ get_or xs i e
other [] i d e h = absurd (omega arith)
other (x ∷ xs) zero d e h = refl
other (x ∷ xs) (suc i) d e h = other xs i d e (omega arith)

-- two points at least
module _ {X : Type 0} (left : X → X → X → ℤ) (p d : X) (xs : List X) (two : 2 ≤ length xs) where
  abbrev top : X
  top = get_or xs (length xs - 1) d

  abbrev next : X
  next = get_or xs (length xs - 2) d

  fewer : reverse (take (length xs - 1) xs) ≡ next ∷ reverse (take (length xs - 2) xs)
  fewer =
      last_at (take (length xs - 1) xs) (length xs - 2) d (lengths (length-take-le (length xs - 1) xs (omega arith)))
      ∙ ap₂ (λ x ys. x ∷ reverse ys) (get_or-take (length xs - 1) xs (length xs - 2) d (omega arith))
      (take-take (length xs - 2) (length xs - 1) xs (omega arith))
    where
      lengths : length (take (length xs - 1) xs) ≡ length xs - 1
          → length xs - 2 + 1 ≡ length (take (length xs - 1) xs)
      lengths e = omega arith

  both : reverse xs ≡ top ∷ (next ∷ reverse (take (length xs - 2) xs))
  both = last_at xs (length xs - 1) d (omega arith) ∙ ap (λ ys. top ∷ ys) fewer

  tested : (t : Bool) → int_lt (pos 0) (left next top p) ≡ t → bent left p (reverse xs)
      ≡ (if t then reverse xs else bent left p (reverse (take (length xs - 1) xs)))
  tested t e =
      ap (bent left p) both
      ∙ ap (λ b. if b then top ∷ (next ∷ reverse (take (length xs - 2) xs)) else bent left p
      (next ∷ reverse (take (length xs - 2) xs))) e
      ∙ ap₂ (λ us vs. if t then us else bent left p vs) (sym both) (sym fewer)

pub few : {X : Type 0} (left : X → X → X → ℤ) (p : X) (xs : List X) → length xs < 2
    → bent left p (reverse xs) ≡ reverse xs
few left p [] h = refl
few left p (x ∷ []) h = refl
few left p (x ∷ (y ∷ xs)) h = absurd (omega arith)

-- the same as a loop tells it: b is the last item, a the one before
module _ {X : Type 0} (left : X → X → X → ℤ) (p a b : X) (xs : List X) (i j : ℕ) (long : i + 1 ≡ length xs)
    (less : j + 2 ≡ length xs) (top : b ≡ get_or xs i b) (next : a ≡ get_or xs j a)
    (t : Bool) (is : t ≡ int_lt (pos 0) (left a b p)) where
  two : 2 ≤ length xs
  two = omega arith

  top_at : get_or xs (length xs - 1) b ≡ b
  top_at = ap (λ n. get_or xs n b) (same (length xs) i long) ∙ sym top
    where
      same : (n i : ℕ) → i + 1 ≡ n → n - 1 ≡ i
      same n i e = omega arith

  next_at : get_or xs (length xs - 2) b ≡ a
  next_at = ap (λ n. get_or xs n b) (same (length xs) j less) ∙ other xs j b a (inside (length xs) j less)
      ∙ sym next
    where
      same : (n i : ℕ) → i + 2 ≡ n → n - 2 ≡ i
      same n i e = omega arith

      inside : (n i : ℕ) → i + 2 ≡ n → i < n
      inside n i e = omega arith

  told : int_lt (pos 0) (left (get_or xs (length xs - 2) b) (get_or xs (length xs - 1) b) p) ≡ t
  told = ap₂ (λ u v. int_lt (pos 0) (left u v p)) next_at top_at ∙ sym is

  pub stays : t ≡ true → bent left p (reverse xs) ≡ reverse xs
  stays test = tested left p b xs two true (told ∙ test)

  pub goes : (ys : List X) (m : ℕ) → m ≡ length xs → ys ≡ take (m - 1) xs → t ≡ false
      → bent left p (reverse ys) ≡ bent left p (reverse xs)
  goes ys m e rest test =
      ap (λ zs. bent left p (reverse zs)) (rest ∙ ap (λ n. take (n - 1) xs) e)
      ∙ sym (tested left p b xs two false (told ∙ test))

take_none : {X : Type 0} (n : ℕ) → take {A = X} n [] ≡ []
take_none zero = refl
take_none (suc n) = refl

-- without the last, by the list turned round
pub all_but_last : {X : Type 0} (xs ys zs : List X) (m : ℕ) → m ≡ length xs → ys ≡ take (m - 1) xs
    → reverse xs ≡ zs → ys ≡ reverse (rest_of zs)
all_but_last [] ys zs m e rest is = rest ∙ take_none (m - 1) ∙ ap (λ ws. reverse (rest_of ws)) is
all_but_last (x ∷ xs) ys zs m e rest is =
    rest ∙ ap (λ n. take (n - 1) (x ∷ xs)) e
    ∙ sym (reverse-reverse (take (length (x ∷ xs) - 1) (x ∷ xs)))
    ∙ ap (λ ws. reverse (rest_of ws)) (sym (last_at (x ∷ xs) (length (x ∷ xs) - 1) x (omega arith)) ∙ is)
