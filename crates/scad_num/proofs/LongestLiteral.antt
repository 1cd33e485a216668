-- What is cut off as the longest literal is a literal.
use Rattle.std.proofs.Common.{◌≡◌, ℕ, zero, suc, ◌+◌, ◌-◌, ◌<◌, ◌≤◌, min, Bool, true, false, cond, ◌&&◌, ◌||◌, eqb, ltb, List, [], ◌∷◌, length, take, drop, take_while, refl, sym, ◌∙◌, ap, arith, ◌⊎◌, inl, inr}
use Rattle.std.specs.Prelude.{slice_index, ◌==◌, nat_lt, if◌then◌else◌}
use Rattle.std.specs.Char.{is_ascii_digit}
use Rattle.std.proofs.lemmas.Bool.{cases_lt}
use Rattle.std.proofs.lemmas.Bool.Decides.{nat_tests}
use Rattle.std.proofs.lemmas.List.{length-take, get_or-take, get_or_past, drop-take, drop_all}
use Rattle.std.proofs.lemmas.List.Folds.{length-prefix_len}
use Rattle.scad_num.specs.Literal.{digits_len, has_point, decimal_digits, mantissa_len, sign_len, exponent_len, literal_len, is_literal}

-- the digits that the first n bytes begin with
digits_len-take : (n : ℕ) (bytes : List ℕ) → digits_len (take n bytes) ≡ min n (digits_len bytes)
digits_len-take zero bytes = omega arith
digits_len-take (suc n) [] = omega arith
digits_len-take (suc n) (c ∷ cs) = by_digit (is_ascii_digit c) (digits_len (take n cs)) (digits_len cs)
    (digits_len-take n cs)
  where
    by_digit : (b : Bool) (shorter whole : ℕ) → shorter ≡ min n whole → cond b (1 + shorter) 0 ≡ min (suc n)
        (cond b (1 + whole) 0)
    by_digit true shorter whole h = omega arith
    by_digit false shorter whole h = omega arith

-- and those behind the first i of them
digits_len-drop-take : (n i : ℕ) (bytes : List ℕ) → digits_len (drop i (take n bytes)) ≡ min (n - i)
    (digits_len (drop i bytes))
digits_len-drop-take n i bytes = by_order (cases_lt n i)
  where
    by_order : (n < i) ⊎ (i ≤ n) → digits_len (drop i (take n bytes)) ≡ min (n - i) (digits_len (drop i bytes))
    by_order (inl h) =
        let none : drop i (take n bytes) ≡ [] = drop_all i (take n bytes) (omega (arith, length-take n bytes)) in
        rw none (omega arith)
    by_order (inr h) =
        let whole : take n bytes ≡ take (i + (n - i)) bytes = let e : n ≡ i + (n - i) = omega arith in ap (λ k. take k bytes) e in
        rw (whole, drop-take i (n - i) bytes) (digits_len-take (n - i) (drop i bytes))

-- a byte of the first n, where it is not 0
slice_index-take : (n i : ℕ) (bytes : List ℕ) → i < n → slice_index (take n bytes) i ≡ slice_index bytes i
slice_index-take n i bytes h = get_or-take n bytes i 0 h

slice_index-take_past : (n i : ℕ) (bytes : List ℕ) → n ≤ i → slice_index (take n bytes) i ≡ 0
slice_index-take_past n i bytes h = get_or_past (take n bytes) i 0 (omega (arith, length-take n bytes))

-- how many digits stand behind the point
abbrev pub decimals_len : List ℕ → ℕ
decimals_len bytes = cond (has_point bytes) (digits_len (drop (digits_len bytes + 1) bytes)) 0

length-decimal_digits : (bytes : List ℕ) → length (decimal_digits bytes) ≡ decimals_len bytes
length-decimal_digits bytes = by_point (has_point bytes) (drop (digits_len bytes + 1) bytes)
  where
    by_point : (point : Bool) (rest : List ℕ) → length (cond point (take_while is_ascii_digit rest) [])
        ≡ cond point (digits_len rest) 0
    by_point true rest = length-prefix_len is_ascii_digit rest
    by_point false rest = refl

-- the length of a mantissa by its digits
abbrev pub len_of : ℕ → Bool → ℕ → ℕ
len_of whole point decimals = cond (eqb (whole + decimals) 0) 0 (cond point (whole + 1 + decimals) whole)

pub mantissa_len-by_digits : (bytes : List ℕ) → mantissa_len bytes ≡ len_of (digits_len bytes) (has_point bytes)
    (decimals_len bytes)
unfolding mantissa_len
mantissa_len-by_digits bytes = ap (len_of (digits_len bytes) (has_point bytes)) (length-decimal_digits bytes)

whole-le : (n whole tail : ℕ) (point : Bool) → len_of whole point (cond point tail 0) ≤ n → whole ≤ n
whole-le n whole tail true h = grind (arith, nat_tests)
whole-le n whole tail false h = grind (arith, nat_tests)

len_of-longer : (n whole tail : ℕ) (point : Bool) → len_of whole point (cond point tail 0) ≤ n → whole < n
    → len_of whole point (cond point (min (n - (whole + 1)) tail) 0) ≡ len_of whole point (cond point tail 0)
len_of-longer n whole tail true h g = grind (arith, nat_tests)
len_of-longer n whole tail false h g = refl

len_of-cut : (n whole tail : ℕ) (point : Bool) → len_of whole point (cond point tail 0) ≤ n → n ≤ whole
    → len_of whole false 0 ≡ len_of whole point (cond point tail 0)
len_of-cut n whole tail true h g = grind (arith, nat_tests)
len_of-cut n whole tail false h g = refl

-- the mantissa stands in any part that holds it
mantissa_len-take : (n : ℕ) (bytes : List ℕ) → mantissa_len bytes ≤ n → mantissa_len (take n bytes) ≡ mantissa_len bytes
mantissa_len-take n bytes h = mantissa_len-by_digits (take n bytes) ∙ shorter (cases_lt whole n) ∙ sym
    (mantissa_len-by_digits bytes)
  where
    whole : ℕ
    whole = digits_len bytes

    tail : ℕ
    tail = digits_len (drop (digits_len bytes + 1) bytes)

    fits : len_of (digits_len bytes) (has_point bytes) (decimals_len bytes) ≤ n
    fits = omega (arith, mantissa_len-by_digits bytes)

    same : digits_len (take n bytes) ≡ digits_len bytes
    same = omega (
      arith,
      digits_len-take n bytes,
      whole-le n (digits_len bytes)
          (digits_len (drop (digits_len bytes + 1) bytes)) (has_point bytes) fits,
    )

    shorter : (digits_len bytes < n) ⊎ (n ≤ digits_len bytes) → len_of (digits_len (take n bytes))
        (has_point (take n bytes)) (decimals_len (take n bytes)) ≡ len_of (digits_len bytes) (has_point bytes)
        (decimals_len bytes)
    shorter (inl g) =
        let point : has_point (take n bytes) ≡ has_point bytes = ap (λ k. slice_index (take n bytes) k == 46) same ∙ ap
        (λ c. c == 46) (slice_index-take n (digits_len bytes) bytes g) in
        let cut : digits_len (drop (digits_len (take n bytes) + 1) (take n bytes)) ≡ min (n - (digits_len bytes + 1))
        tail = ap (λ k. digits_len (drop (k + 1) (take n bytes))) same ∙ digits_len-drop-take n
        (digits_len bytes + 1) bytes in
        ap (λ k. len_of k (has_point (take n bytes)) (decimals_len (take n bytes))) same
        ∙ ap (λ b. len_of (digits_len bytes) b
        (cond b (digits_len (drop (digits_len (take n bytes) + 1) (take n bytes))) 0)) point
        ∙ ap (λ t. len_of (digits_len bytes) (has_point bytes) (cond (has_point bytes) t 0)) cut
        ∙ len_of-longer n (digits_len bytes) tail (has_point bytes) fits g
    shorter (inr g) =
        let point : has_point (take n bytes) ≡ false = ap (λ k. slice_index (take n bytes) k == 46) same ∙ ap
        (λ c. c == 46) (slice_index-take_past n (digits_len bytes) bytes g) in
        ap (λ k. len_of k (has_point (take n bytes)) (decimals_len (take n bytes))) same
        ∙ ap (λ b. len_of (digits_len bytes) b
        (cond b (digits_len (drop (digits_len (take n bytes) + 1) (take n bytes))) 0)) point
        ∙ len_of-cut n (digits_len bytes) tail (has_point bytes) fits g

-- the mark of an exponent stands in front
abbrev pub has_mark : List ℕ → Bool
has_mark bytes = slice_index bytes 0 == 101 || slice_index bytes 0 == 69

abbrev pub power_len : List ℕ → ℕ
power_len bytes = digits_len (drop (1 + sign_len bytes) bytes)

-- the length of an exponent by its parts
abbrev pub exponent_of : Bool → ℕ → ℕ → ℕ
exponent_of mark sign digits = cond (mark && ltb 0 digits) (1 + sign + digits) 0

pub exponent_len-by_parts : (bytes : List ℕ) → exponent_len bytes ≡ exponent_of (has_mark bytes) (sign_len bytes)
    (power_len bytes)
unfolding exponent_len
exponent_len-by_parts bytes = ap (exponent_of (has_mark bytes) (sign_len bytes)) (length-prefix_len is_ascii_digit
    (drop (1 + sign_len bytes) bytes))

pub exponent_of-parts : (mark : Bool) (sign digits : ℕ) → 0 < exponent_of mark sign digits
    → (exponent_of mark sign digits ≡ 1 + sign + digits) × (0 < digits)
exponent_of-parts true sign digits h = grind (arith, nat_tests)
exponent_of-parts false sign digits h = absurd (omega arith)

pub exponent_len-nil : exponent_len [] ≡ 0
unfolding exponent_len
exponent_len-nil = refl

-- an exponent stands in its own part
exponent_len-take : (bytes : List ℕ) → exponent_len (take (exponent_len bytes) bytes) ≡ exponent_len bytes
exponent_len-take bytes = by_len (cases_lt 0 (exponent_len bytes))
  where
    by_len : (0 < exponent_len bytes) ⊎ (exponent_len bytes ≤ 0) → exponent_len (take (exponent_len bytes) bytes)
        ≡ exponent_len bytes
    by_len (inr h) = let zero_len : exponent_len bytes ≡ 0 = omega arith in ap (λ n. exponent_len (take n bytes)) zero_len ∙ exponent_len-nil ∙ sym zero_len
    by_len (inl h) =
        let n = exponent_len bytes in
        let parts = exponent_of-parts (has_mark bytes) (sign_len bytes) (power_len bytes)
        (omega (arith, exponent_len-by_parts bytes)) in
        let long : exponent_len bytes ≡ 1 + sign_len bytes + power_len bytes = exponent_len-by_parts bytes ∙ parts.0 in
        let mark : has_mark (take n bytes) ≡ has_mark bytes = ap (λ c. c == 101 || c == 69)
        (slice_index-take n 0 bytes (omega arith)) in
        let sign : sign_len (take n bytes) ≡ sign_len bytes = ap (λ c. if c == 43 || c == 45 then 1 else 0)
        (slice_index-take n 1 bytes (omega (arith, long, parts.1))) in
        let digits : power_len (take n bytes) ≡ power_len bytes = ap (λ k. digits_len (drop (1 + k) (take n bytes)))
        sign ∙ digits_len-drop-take n (1 + sign_len bytes) bytes ∙ omega (arith, long) in
        exponent_len-by_parts (take n bytes)
        ∙ ap (λ b. exponent_of b (sign_len (take n bytes)) (power_len (take n bytes))) mark
        ∙ ap (λ k. exponent_of (has_mark bytes) k (power_len (take n bytes))) sign
        ∙ ap (exponent_of (has_mark bytes) (sign_len bytes)) digits
        ∙ sym (exponent_len-by_parts bytes)

-- a literal by its parts
pub literal_of-parts : (mantissa exponent : ℕ) → 0 < cond (eqb mantissa 0) 0 (mantissa + exponent)
    → cond (eqb mantissa 0) 0 (mantissa + exponent) ≡ mantissa + exponent
literal_of-parts mantissa exponent h = grind (arith, nat_tests)

-- the longest literal stands in its own part
literal_len-take : (bytes : List ℕ) → 0 < literal_len bytes → literal_len (take (literal_len bytes) bytes) ≡ literal_len
    bytes
unfolding literal_len
literal_len-take bytes h =
    let mantissa = mantissa_len bytes in
    let exponent = exponent_len (drop (mantissa_len bytes) bytes) in
    let long : cond (eqb mantissa 0) 0 (mantissa + exponent) ≡ mantissa + exponent = literal_of-parts mantissa exponent
    h in
    let front : mantissa_len (take (mantissa + exponent) bytes) ≡ mantissa = mantissa_len-take (mantissa + exponent)
    bytes (omega arith) in
    let back : exponent_len (drop mantissa (take (mantissa + exponent) bytes)) ≡ exponent = ap exponent_len
    (drop-take mantissa exponent bytes) ∙ exponent_len-take (drop mantissa bytes) in
    ap (λ n. literal_len (take n bytes)) long
    ∙ ap (λ m. cond (eqb m 0) 0 (m + exponent_len (drop m (take (mantissa + exponent) bytes)))) front
    ∙ ap (λ e. cond (eqb mantissa 0) 0 (mantissa + e)) back

-- the longest literal that bytes begin with is one literal
pub is_literal-take : (bytes : List ℕ) → 0 < literal_len bytes → literal_len bytes ≤ length bytes
    → is_literal (take (literal_len bytes) bytes) ≡ true
unfolding is_literal
is_literal-take bytes h g =
    let n = literal_len bytes in
    let same : literal_len (take n bytes) ≡ n = literal_len-take bytes h in
    let long : length (take n bytes) ≡ n = omega (arith, length-take n bytes) in
    ap (λ k. nat_lt 0 k && k == length (take n bytes)) same ∙ ap (λ k. nat_lt 0 n && n == k) long ∙ above n h
  where
    above : (n : ℕ) → 0 < n → (nat_lt 0 n && n == n) ≡ true
    above n h = grind (arith, nat_tests)
