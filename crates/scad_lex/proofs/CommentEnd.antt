-- A comment in `/*` and `*/` is cut off at its first `*/`.
use Rattle.std.proofs.Common.{◌≡◌, ℕ, zero, suc, ◌+◌, ◌<◌, ◌≤◌, Bool, true, false, cond, ◌&&◌, List, [], ◌∷◌, length}
use Rattle.std.proofs.Common.{take, Option, Some, None, refl, sym, ap, arith, ◌∙◌, ◌⊎◌, inl, inr}
use Rattle.std.specs.Prelude.{slice_index, ◌==◌, option_map}
use Rattle.std.proofs.lemmas.Bool.{cases_lt, cases_Bool}
use Rattle.std.proofs.lemmas.Bool.Decides.{nat_tests}
use Rattle.std.proofs.lemmas.List.{length-take, get_or-take, get_or_past}
use Rattle.scad_lex.specs.Gap.{closed_len, closes_at}
use Rattle.scad_lex.specs.Longest.{IsClosed, CommentsAreLongest}

-- the first `*/` ends behind n bytes
pub record EndsFirst (bytes : List ℕ) (n : ℕ) : Type 0 where
  pub at : ℕ
  pub long : n ≡ at + 2
  pub closes : closes_at bytes at ≡ true
  pub first : (i : ℕ) → closes_at bytes i ≡ true → n ≤ i + 2

pub closes-next : (a : ℕ) (bytes : List ℕ) (i : ℕ) → closes_at (a ∷ bytes) (suc i) ≡ closes_at bytes i
closes-next a bytes i = let e : suc i + 1 ≡ suc (i + 1) =
    omega arith in ap (λ k. slice_index bytes i == 42 && slice_index (a ∷ bytes) k == 47) e

shorter : (o : Option ℕ) (n : ℕ) → option_map suc o ≡ Some n → (m : ℕ) × (o ≡ Some m) × (n ≡ suc m)
shorter None n e = absurd cc
shorter (Some m) n e = (m, refl, cc)

pub first-end : (bytes : List ℕ) (n : ℕ) → closed_len bytes ≡ Some n → EndsFirst bytes n
first-end [] n e = absurd cc
first-end (a ∷ bytes) n e = by_first (cases_Bool (closes_at (a ∷ bytes) 0)) (first-end bytes)
  where
    later : (t : Bool) → t ≡ false → cond t (Some 2) (option_map suc (closed_len bytes)) ≡ Some n →
        option_map suc (closed_len bytes) ≡ Some n
    later true h g = absurd cc
    later false h g = g

    two : (t : Bool) → t ≡ true → cond t (Some 2) (option_map suc (closed_len bytes)) ≡ Some n → n ≡ 2
    two true h g = cc
    two false h g = absurd cc

    by_first : (closes_at (a ∷ bytes) 0 ≡ true) ⊎ (closes_at (a ∷ bytes) 0 ≡ false) →
        ((m : ℕ) → closed_len bytes ≡ Some m → EndsFirst bytes m) → EndsFirst (a ∷ bytes) n
    by_first (inl t) hyp =
        let n_two = two (closes_at (a ∷ bytes) 0) t e in
        record { at = 0; long = omega (arith, n_two); closes = t; first = λ i closes. omega (arith, n_two) }
    by_first (inr f) hyp =
        let rest = shorter (closed_len bytes) n (later (closes_at (a ∷ bytes) 0) f e) in
        let there = hyp rest.0 rest.1 in
        record {
          at = suc there.at;
          long = omega (arith, rest.2, there.long);
          closes = closes-next a bytes there.at ∙ there.closes;
          first = λ i closes. none_before rest.0 rest.2 there i closes;
        }
      where
        none_before : (m : ℕ) → n ≡ suc m → EndsFirst bytes m → (i : ℕ) → closes_at (a ∷ bytes) i ≡ true → n ≤ i + 2
        none_before m is there zero closes = absurd cc
        none_before m is there (suc i) closes =
            omega (arith, is, there.first i (sym (closes-next a bytes i) ∙ closes))

-- within the bytes in front it closes as in all
pub closes-take : (m : ℕ) (bytes : List ℕ) (i : ℕ) → i + 2 ≤ m → closes_at (take m bytes) i ≡ closes_at bytes i
closes-take m bytes i h =
    ap (λ c. c == 42 && slice_index (take m bytes) (i + 1) == 47) (get_or-take m bytes i 0 (omega arith))
    ∙ ap (λ c. slice_index bytes i == 42 && c == 47) (get_or-take m bytes (i + 1) 0 (omega arith))

-- it closes within the bytes
pub closes-within : (bytes : List ℕ) (i : ℕ) → closes_at bytes i ≡ true → i + 2 ≤ length bytes
closes-within bytes i closes = by_order (cases_lt (i + 1) (length bytes))
  where
    outside : (x y : ℕ) → y ≡ 0 → (x == 42 && y == 47) ≡ true → ⊥
    outside x y e t = grind (arith, nat_tests)

    by_order : (i + 1 < length bytes) ⊎ (length bytes ≤ i + 1) → i + 2 ≤ length bytes
    by_order (inl h) = omega arith
    by_order (inr h) = absurd
        (outside (slice_index bytes i) (slice_index bytes (i + 1)) (get_or_past bytes (i + 1) 0 h) closes)

pub comments_are_longest : CommentsAreLongest
comments_are_longest bytes n e = record { within = inside; formed = λ some. closed; longest = longest }
  where
    there : EndsFirst bytes n
    there = first-end bytes n e

    inside : n ≤ length bytes
    inside = omega (arith, there.long, closes-within bytes there.at there.closes)

    size : length (take n bytes) ≡ n
    size = omega (arith, length-take n bytes, inside)

    closed : IsClosed (take n bytes)
    closed = record {
      ends = (there.at, size ∙ there.long, closes-take n bytes there.at (omega (arith, there.long)) ∙ there.closes);
      first = λ i closes. let within =
          closes-within (take n bytes) i closes in omega
          (arith, size, there.first i (sym (closes-take n bytes i (omega (arith, size, within))) ∙ closes));
    }

    longest : (m : ℕ) → m ≤ length bytes → IsClosed (take m bytes) → m ≤ n
    longest m h is = by_order (cases_lt n m)
      where
        by_order : (n < m) ⊎ (m ≤ n) → m ≤ n
        by_order (inr g) = g
        by_order (inl g) =
            omega (
              arith,
              length-take m bytes,
              is.first there.at
                  (closes-take m bytes there.at (omega (arith, there.long)) ∙ there.closes),
              there.long,
            )
