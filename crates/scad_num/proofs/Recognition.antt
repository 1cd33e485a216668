-- The literal that is cut off is the longest by the form of literals.
use Rattle.std.proofs.Common.{◌≡◌, ℕ, zero, suc, ◌+◌, ◌-◌, ◌<◌, ◌≤◌, Bool, true, false, cond, eqb, ◌&&◌, ◌||◌, List, [], ◌∷◌, ◌++◌, length, take, drop, refl, sym, ap, subst, arith, ◌∙◌, ◌⊎◌, inl, inr, append_assoc, length-append, take-append-drop}
use Rattle.std.specs.Prelude.{slice_index, ◌==◌, nat_lt, if◌then◌else◌}
use Rattle.std.specs.Char.{is_ascii_digit}
use Rattle.std.proofs.lemmas.Bool.{cases_lt, cases_Bool}
use Rattle.std.proofs.lemmas.Bool.Decides.{nat_tests}
use Rattle.std.proofs.lemmas.List.{length-take, length-drop, get_or_at, get_or_past, drop_at, append-nil, take_all}
use Rattle.scad_num.specs.Laws.{LiteralsAreLongest, LiteralsAreRecognised}
use Rattle.scad_num.specs.Literal.{point, AreDigits, Mantissa, whole, pointed, IsMark, IsSign, Exponent, unsigned, signed, Literal, plain, scaled, digits_len, has_point, mantissa_len, sign_len, exponent_len, literal_len, is_literal}
use Rattle.scad_num.proofs.LongestLiteral.{decimals_len, len_of, mantissa_len-by_digits, has_mark, power_len, exponent_of, exponent_len-by_parts, exponent_of-parts, exponent_len-nil}
use Rattle.std.proofs.Math.Seq.{drop-append-add}

-- ---- a literal in front is no longer than what is cut off

-- digits in front, and those behind them
digits_len-append : (ds rest : List ℕ) → AreDigits ds → digits_len (ds ++ rest) ≡ length ds + digits_len rest
digits_len-append [] rest h = omega arith
digits_len-append (d ∷ ds) rest h = ap (λ b. cond b (1 + digits_len (ds ++ rest)) 0) h.0 ∙ omega
    (arith, digits_len-append ds rest h.1)

-- no digit stands in front
digits_len-other : (c : ℕ) (rest : List ℕ) → is_ascii_digit c ≡ false → digits_len (c ∷ rest) ≡ 0
digits_len-other c rest e = ap (λ b. cond b (1 + digits_len rest) 0) e

-- digits up to another byte
digits_len-upto : (ds : List ℕ) (c : ℕ) (rest : List ℕ) → AreDigits ds → is_ascii_digit c ≡ false
    → digits_len (ds ++ c ∷ rest) ≡ length ds
digits_len-upto ds c rest h e = omega (arith, digits_len-append ds (c ∷ rest) h, digits_len-other c rest e)

len_of-whole : (w d : ℕ) (p : Bool) → w ≤ len_of w p d
len_of-whole w d true = grind (arith, nat_tests)
len_of-whole w d false = grind (arith, nat_tests)

len_of-pointed : (w d : ℕ) → 0 < w + d → len_of w true d ≡ w + 1 + d
len_of-pointed w d h = grind (arith, nat_tests)

len_of-plain : (w d : ℕ) → 0 < w → len_of w false d ≡ w
len_of-plain w d h = grind (arith, nat_tests)

-- a mantissa with a point, before anything
pointed-len : (ds es rest : List ℕ) → AreDigits ds → AreDigits es → 0 < length ds + length es
    → mantissa_len (ds ++ point ∷ (es ++ rest)) ≡ length ds + 1 + (length es + digits_len rest)
pointed-len ds es rest d e some =
    let bytes = ds ++ point ∷ (es ++ rest) in
    let w : digits_len bytes ≡ length ds = digits_len-upto ds point (es ++ rest) d refl in
    let here : slice_index bytes (length ds) ≡ point = get_or_at ds point (es ++ rest) 0 (length ds) refl in
    let p : has_point bytes ≡ true = ap (λ k. slice_index bytes k == point) w ∙ ap (λ c. c == point) here in
    let rest_of : drop (digits_len bytes + 1) bytes ≡ es ++ rest = ap (λ k. drop (k + 1) bytes) w ∙ drop-append-add ds
    (point ∷ es ++ rest) 1 in
    let t : decimals_len bytes ≡ length es + digits_len rest =
    ap (λ b. cond b (digits_len (drop (digits_len bytes + 1) bytes)) 0) p ∙ ap digits_len rest_of ∙
    digits_len-append es rest e in
    mantissa_len-by_digits bytes
    ∙ ap (λ k. len_of k (has_point bytes) (decimals_len bytes)) w
    ∙ ap (λ b. len_of (length ds) b (decimals_len bytes)) p
    ∙ ap (len_of (length ds) true) t
    ∙ len_of-pointed (length ds) (length es + digits_len rest) (omega arith)

-- what stands in front as a mantissa is no longer than the longest
mantissa-le : {m : List ℕ} (rest : List ℕ) → Mantissa m → length m ≤ mantissa_len (m ++ rest)
mantissa-le rest (whole ds d some) =
    omega (
      arith,
      mantissa_len-by_digits (ds ++ rest),
      digits_len-append ds rest d,
      len_of-whole
          (digits_len (ds ++ rest)) (decimals_len (ds ++ rest)) (has_point (ds ++ rest)),
    )
mantissa-le rest (pointed ds es d e some) =
    let all = append_assoc ds (point ∷ es) rest in
    omega (arith, ap mantissa_len all, pointed-len ds es rest d e some, length-append ds (point ∷ es))

-- before a byte that goes on no mantissa it is the longest
mantissa-is : {m : List ℕ} (c : ℕ) (rest : List ℕ) → is_ascii_digit c ≡ false → (c == point) ≡ false → Mantissa m
    → mantissa_len (m ++ c ∷ rest) ≡ length m
mantissa-is c rest no_digit no_point (whole ds d some) =
    let bytes = ds ++ c ∷ rest in
    let w : digits_len bytes ≡ length ds = digits_len-upto ds c rest d no_digit in
    let here : slice_index bytes (length ds) ≡ c = get_or_at ds c rest 0 (length ds) refl in
    let p : has_point bytes ≡ false = ap (λ k. slice_index bytes k == point) w ∙ ap (λ b. b == point) here ∙ no_point in
    mantissa_len-by_digits bytes
    ∙ ap (λ k. len_of k (has_point bytes) (decimals_len bytes)) w
    ∙ ap (λ b. len_of (length ds) b (decimals_len bytes)) p
    ∙ len_of-plain (length ds) (decimals_len bytes) some
mantissa-is c rest no_digit no_point (pointed ds es d e some) =
    ap mantissa_len (append_assoc ds (point ∷ es) (c ∷ rest)) ∙ pointed-len ds es (c ∷ rest) d e some
    ∙ omega (arith, digits_len-other c rest no_digit, length-append ds (point ∷ es))

mantissa-some : {m : List ℕ} → Mantissa m → 0 < length m
mantissa-some (whole ds d some) = some
mantissa-some (pointed ds es d e some) = omega (arith, length-append ds (point ∷ es))

mark-no_digit : (c : ℕ) → IsMark c → is_ascii_digit c ≡ false
mark-no_digit c (inl e) = ap is_ascii_digit e
mark-no_digit c (inr e) = ap is_ascii_digit e

mark-no_point : (c : ℕ) → IsMark c → (c == point) ≡ false
mark-no_point c (inl e) = ap (λ b. b == point) e
mark-no_point c (inr e) = ap (λ b. b == point) e

mark-is : (c : ℕ) → IsMark c → (c == 101 || c == 69) ≡ true
mark-is c (inl e) = ap (λ b. b == 101 || b == 69) e
mark-is c (inr e) = ap (λ b. b == 101 || b == 69) e

sign-is : (c : ℕ) → IsSign c → ◌≡◌ {A = ℕ} (if c == 43 || c == 45 then 1 else 0) 1
sign-is c (inl e) = ap (λ b. if b == 43 || b == 45 then 1 else 0) e
sign-is c (inr e) = ap (λ b. if b == 43 || b == 45 then 1 else 0) e

digit-no_sign : (c : ℕ) → is_ascii_digit c ≡ true → ◌≡◌ {A = ℕ} (if c == 43 || c == 45 then 1 else 0) 0
digit-no_sign c e = grind (arith, nat_tests)

exponent_of-some : (sign k : ℕ) → 0 < k → exponent_of true sign k ≡ 1 + sign + k
exponent_of-some sign k h = grind (arith, nat_tests)

-- the same of an exponent
exponent-le : {e : List ℕ} (rest : List ℕ) → Exponent e → length e ≤ exponent_len (e ++ rest)
exponent-le rest (unsigned mark [] m d some) = absurd (omega arith)
exponent-le rest (unsigned mark (c ∷ ds) m d some) =
    let bytes = mark ∷ c ∷ ds ++ rest in
    let k = digits_len ((c ∷ ds) ++ rest) in
    let digits : k ≡ length (c ∷ ds) + digits_len rest = digits_len-append (c ∷ ds) rest d in
    let sign : sign_len bytes ≡ 0 = digit-no_sign c d.0 in
    let power : power_len bytes ≡ k = ap (λ n. digits_len (drop (1 + n) bytes)) sign in
    let long : exponent_len bytes ≡ 1 + 0 + k =
    exponent_len-by_parts bytes ∙ ap (λ b. exponent_of b (sign_len bytes) (power_len bytes)) (mark-is mark m)
    ∙ ap (λ n. exponent_of true n (power_len bytes)) sign ∙ ap (exponent_of true 0) power ∙ exponent_of-some 0 k
    (omega arith) in
    omega arith
exponent-le rest (signed mark sign ds m s d some) =
    let bytes = mark ∷ sign ∷ ds ++ rest in
    let k = digits_len (ds ++ rest) in
    let digits : k ≡ length ds + digits_len rest = digits_len-append ds rest d in
    let one : sign_len bytes ≡ 1 = sign-is sign s in
    let power : power_len bytes ≡ k = ap (λ n. digits_len (drop (1 + n) bytes)) one in
    let long : exponent_len bytes ≡ 1 + 1 + k =
    exponent_len-by_parts bytes ∙ ap (λ b. exponent_of b (sign_len bytes) (power_len bytes)) (mark-is mark m)
    ∙ ap (λ n. exponent_of true n (power_len bytes)) one ∙ ap (exponent_of true 1) power ∙ exponent_of-some 1 k
    (omega arith) in
    omega arith

-- an exponent begins with its mark
begins : {e : List ℕ} → Exponent e → (c : ℕ) × (es : List ℕ) × (e ≡ c ∷ es) × IsMark c
begins (unsigned mark ds m d some) = (mark, ds, refl, m)
begins (signed mark sign ds m s d some) = (mark, sign ∷ ds, refl, m)

cut-le : (m e : ℕ) → m ≤ cond (eqb m 0) 0 (m + e)
cut-le m e = grind (arith, nat_tests)

cut-is : (m e : ℕ) → 0 < m → cond (eqb m 0) 0 (m + e) ≡ m + e
cut-is m e h = grind (arith, nat_tests)

-- and of a literal
literal-le : {t : List ℕ} (rest : List ℕ) → Literal t → length t ≤ literal_len (t ++ rest)
unfolding literal_len
literal-le rest (plain m is) =
    let bytes = m ++ rest in
    omega (arith, mantissa-le rest is, cut-le (mantissa_len bytes) (exponent_len (drop (mantissa_len bytes) bytes)))
literal-le rest (scaled m e is exp) =
    let there = begins exp in
    let tail : e ++ rest ≡ there.0 ∷ there.1 ++ rest = ap (λ l. l ++ rest) there.2 in
    let bytes = m ++ (e ++ rest) in
    let front : mantissa_len bytes ≡ length m =
    ap (λ l. mantissa_len (m ++ l)) tail
    ∙ mantissa-is there.0 (there.1 ++ rest) (mark-no_digit there.0 there.3) (mark-no_point there.0 there.3) is in
    let back : drop (length m) bytes ≡ e ++ rest = drop_at m (e ++ rest) (length m) refl in
    let long : literal_len bytes ≡ length m + exponent_len (e ++ rest) =
    ap (λ n. cond (eqb n 0) 0 (n + exponent_len (drop n bytes))) front
    ∙ cut-is (length m) (exponent_len (drop (length m) bytes)) (mantissa-some is)
    ∙ ap (λ l. length m + exponent_len l) back in
    let all = ap literal_len (append_assoc m e rest) in
    omega (arith, length-append m e, exponent-le rest exp, long, all)

-- ---- what is cut off is a literal

digits-front : (bytes : List ℕ) → AreDigits (take (digits_len bytes) bytes)
digits-front [] = tt
digits-front (c ∷ cs) = by_digit (is_ascii_digit c) refl (digits-front cs)
  where
    by_digit : (b : Bool) → is_ascii_digit c ≡ b → AreDigits (take (digits_len cs) cs)
        → AreDigits (take (cond b (1 + digits_len cs) 0) (c ∷ cs))
    by_digit true e h = let up : suc (digits_len cs) ≡ 1 + digits_len cs = omega arith in subst (λ n. AreDigits (take n (c ∷ cs))) up (e, h)
    by_digit false e h = tt

digits_len-le : (bytes : List ℕ) → digits_len bytes ≤ length bytes
digits_len-le [] = omega arith
digits_len-le (c ∷ cs) = by_digit (is_ascii_digit c) (digits_len-le cs)
  where
    by_digit : (b : Bool) → digits_len cs ≤ length cs → cond b (1 + digits_len cs) 0 ≤ suc (length cs)
    by_digit true h = omega arith
    by_digit false h = omega arith

-- bytes in front, a byte, and bytes behind it
take-parts : (w d : ℕ) (bytes : List ℕ) (c : ℕ) → w < length bytes → slice_index bytes w ≡ c → take (w + 1 + d) bytes
    ≡ take w bytes ++ c ∷ take d (drop (w + 1) bytes)
take-parts w d [] c h e = absurd (omega arith)
take-parts zero d (b ∷ bytes) c h e = let n : 0 + 1 + d ≡ suc d = omega arith in ap (λ k. take k (b ∷ bytes)) n ∙ ap (λ x. x ∷ take d bytes) e
take-parts (suc w) d (b ∷ bytes) c h e =
    let n : suc w + 1 + d ≡ suc (w + 1 + d) = omega arith in
    let k : suc (w + 1) ≡ suc w + 1 = omega arith in
    ap (λ j. take j (b ∷ bytes)) n ∙ ap (λ l. b ∷ l) (take-parts w d bytes c (omega arith) e) ∙ ap
    (λ j. b ∷ take w bytes ++ c ∷ take d (drop j (b ∷ bytes))) k

take-none : (n : ℕ) (l : List ℕ) → l ≡ [] → take n l ≡ []
take-none zero l e = refl
take-none (suc n) l e = ap (take (suc n)) e

take-two : (m n : ℕ) (bytes : List ℕ) → take (m + n) bytes ≡ take m bytes ++ take n (drop m bytes)
take-two zero n bytes = let e : 0 + n ≡ n = omega arith in ap (λ k. take k bytes) e
take-two (suc m) n [] = take-none (suc m + n) [] refl ∙ sym (take-none n [] refl)
take-two (suc m) n (b ∷ bytes) = let e : suc m + n ≡ suc (m + n) = omega arith in ap (λ k. take k (b ∷ bytes)) e ∙ ap (λ l. b ∷ l) (take-two m n bytes)

-- a byte that isn't 0 stands within the bytes
within : (bytes : List ℕ) (i c : ℕ) → slice_index bytes i ≡ suc c → i < length bytes
within bytes i c e = by_order (cases_lt i (length bytes))
  where
    by_order : (i < length bytes) ⊎ (length bytes ≤ i) → i < length bytes
    by_order (inl h) = h
    by_order (inr h) = absurd (omega (arith, get_or_past bytes i 0 h))

point-is : (c : ℕ) → (c == point) ≡ true → c ≡ 46
point-is c e = grind (arith, nat_tests)

mantissa-front : (bytes : List ℕ) → 0 < mantissa_len bytes → (mantissa_len bytes ≤ length bytes)
    × Mantissa (take (mantissa_len bytes) bytes)
mantissa-front bytes some = by_point (cases_Bool (has_point bytes))
  where
    w : ℕ
    w = digits_len bytes

    Front : Type 0
    Front = (mantissa_len bytes ≤ length bytes) × Mantissa (take (mantissa_len bytes) bytes)

    by_digits : mantissa_len bytes ≡ len_of (digits_len bytes) (has_point bytes) (decimals_len bytes)
    by_digits = mantissa_len-by_digits bytes

    none : (d : ℕ) → len_of 0 false d ≡ 0
    none d = grind (arith, nat_tests)

    zero_sum : (w d : ℕ) → w + d ≡ 0 → len_of w true d ≡ 0
    zero_sum w d e = grind (arith, nat_tests)

    by_point : (has_point bytes ≡ true) ⊎ (has_point bytes ≡ false) → (mantissa_len bytes ≤ length bytes)
        × Mantissa (take (mantissa_len bytes) bytes)
    by_point (inr p) = by_whole (cases_lt 0 (digits_len bytes))
      where
        told : mantissa_len bytes ≡ len_of (digits_len bytes) false (decimals_len bytes)
        told = by_digits ∙ ap (λ b. len_of (digits_len bytes) b (decimals_len bytes)) p

        by_whole : (0 < digits_len bytes) ⊎ (digits_len bytes ≤ 0) → (mantissa_len bytes ≤ length bytes)
            × Mantissa (take (mantissa_len bytes) bytes)
        by_whole (inl h) =
            let long : mantissa_len bytes ≡ digits_len bytes = told ∙ len_of-plain (digits_len bytes)
            (decimals_len bytes) h in
            let inside = digits_len-le bytes in (
              omega arith,
              subst (λ n. Mantissa (take n bytes)) (sym long)
                  (whole (take (digits_len bytes) bytes) (digits-front bytes)
                  (omega (arith, length-take (digits_len bytes) bytes))),
            )
        by_whole (inr h) =
            let nothing : digits_len bytes ≡ 0 = omega arith in
            absurd (omega (
              arith,
              told ∙ ap (λ n. len_of n false (decimals_len bytes)) nothing ∙ none
                  (decimals_len bytes),
            ))
    by_point (inl p) = by_some (cases_lt 0 (digits_len bytes + digits_len (drop (digits_len bytes + 1) bytes)))
      where
        d : ℕ
        d = digits_len (drop (digits_len bytes + 1) bytes)

        told : mantissa_len bytes ≡ len_of (digits_len bytes) true (digits_len (drop (digits_len bytes + 1) bytes))
        told =
            by_digits ∙ ap (λ b. len_of (digits_len bytes) b (decimals_len bytes)) p
            ∙ ap (λ b. len_of (digits_len bytes) true (cond b (digits_len (drop (digits_len bytes + 1) bytes)) 0)) p

        here : slice_index bytes (digits_len bytes) ≡ 46
        here = point-is (slice_index bytes (digits_len bytes)) p

        by_some : (0 < digits_len bytes + digits_len (drop (digits_len bytes + 1) bytes)) ⊎
            (digits_len bytes + digits_len (drop (digits_len bytes + 1) bytes) ≤ 0)
            → (mantissa_len bytes ≤ length bytes) × Mantissa (take (mantissa_len bytes) bytes)
        by_some (inl h) =
            let long : mantissa_len bytes ≡ digits_len bytes + 1 + digits_len (drop (digits_len bytes + 1) bytes) =
            told ∙ len_of-pointed (digits_len bytes) (digits_len (drop (digits_len bytes + 1) bytes)) h in
            let rest = drop (digits_len bytes + 1) bytes in
            let inside = within bytes (digits_len bytes) 45 here in
            let behind = digits_len-le rest in
            let left = length-drop (digits_len bytes + 1) bytes in (
              omega arith,
              subst Mantissa (sym (ap (λ n. take n bytes) long ∙ take-parts (digits_len bytes) (digits_len rest) bytes
                  point inside here))
                  (pointed (take (digits_len bytes) bytes) (take (digits_len rest) rest) (digits-front bytes)
                  (digits-front rest)
                  (omega (arith, length-take (digits_len bytes) bytes, length-take (digits_len rest) rest))),
            )
        by_some (inr h) = absurd
            (omega (
              arith,
              told ∙ zero_sum (digits_len bytes) (digits_len (drop (digits_len bytes + 1) bytes))
                  (omega arith),
            ))

mark-from : (c : ℕ) → (c == 101 || c == 69) ≡ true → IsMark c
mark-from c e = by_first (c == 101) (c == 69) refl refl e
  where
    by_first : (p q : Bool) → (c == 101) ≡ p → (c == 69) ≡ q → (p || q) ≡ true → IsMark c
    by_first true q r s t = inl (grind (arith, nat_tests))
    by_first false true r s t = inr (grind (arith, nat_tests))
    by_first false false r s t = absurd cc

sign-from : (c : ℕ) → (c == 43 || c == 45) ≡ true → IsSign c
sign-from c e = by_first (c == 43) (c == 45) refl refl e
  where
    by_first : (p q : Bool) → (c == 43) ≡ p → (c == 45) ≡ q → (p || q) ≡ true → IsSign c
    by_first true q r s t = inl (grind (arith, nat_tests))
    by_first false true r s t = inr (grind (arith, nat_tests))
    by_first false false r s t = absurd cc

mark-true : (mark : Bool) (sign digits : ℕ) → 0 < exponent_of mark sign digits → mark ≡ true
mark-true true sign digits h = refl
mark-true false sign digits h = absurd (omega arith)

cond_at : {b c : Bool} → b ≡ c → ◌≡◌ {A = ℕ} (if b then 1 else 0) (if c then 1 else 0)
cond_at e = ap (λ b. if b then 1 else 0) e

exponent-front : (bytes : List ℕ) → 0 < exponent_len bytes → (exponent_len bytes ≤ length bytes)
    × Exponent (take (exponent_len bytes) bytes)
exponent-front [] some = absurd (omega (arith, exponent_len-nil))
exponent-front (c ∷ bytes) some = by_sign (cases_Bool (slice_index bytes 0 == 43 || slice_index bytes 0 == 45))
  where
    above : 0 < exponent_of (has_mark (c ∷ bytes)) (sign_len (c ∷ bytes)) (power_len (c ∷ bytes))
    above = omega (arith, exponent_len-by_parts (c ∷ bytes))

    mark : IsMark c
    mark = mark-from c (mark-true (has_mark (c ∷ bytes)) (sign_len (c ∷ bytes)) (power_len (c ∷ bytes)) above)

    parts : (exponent_of (has_mark (c ∷ bytes)) (sign_len (c ∷ bytes)) (power_len (c ∷ bytes)) ≡ 1 + sign_len
        (c ∷ bytes) + power_len (c ∷ bytes)) × (0 < power_len (c ∷ bytes))
    parts = exponent_of-parts (has_mark (c ∷ bytes)) (sign_len (c ∷ bytes)) (power_len (c ∷ bytes)) above

    long : exponent_len (c ∷ bytes) ≡ 1 + sign_len (c ∷ bytes) + power_len (c ∷ bytes)
    long = exponent_len-by_parts (c ∷ bytes) ∙ parts.0

    with_sign : (rest : List ℕ) → bytes ≡ slice_index bytes 0 ∷ rest → sign_len (c ∷ bytes) ≡ 1
        → IsSign (slice_index bytes 0)
        → (exponent_len (c ∷ bytes) ≤ suc (length bytes)) × Exponent (take (exponent_len (c ∷ bytes)) (c ∷ bytes))
    with_sign rest is one sign =
        let power : power_len (c ∷ bytes) ≡ digits_len rest = ap (λ n. digits_len (drop (1 + n) (c ∷ bytes))) one ∙ ap
        (λ l. digits_len (drop 1 l)) is in
        let n : exponent_len (c ∷ bytes) ≡ suc (suc (digits_len rest)) = omega (arith, long, power, one) in
        let inside = digits_len-le rest in
        let size = ap length is in
        let cut : take (exponent_len (c ∷ bytes)) (c ∷ bytes) ≡ c ∷ slice_index bytes 0 ∷ take (digits_len rest) rest =
        ap (λ k. take k (c ∷ bytes)) n ∙ ap (λ l. c ∷ take (suc (digits_len rest)) l) is in (
          omega arith,
          subst Exponent (sym cut) (signed c (slice_index bytes 0) (take (digits_len rest) rest) mark sign
              (digits-front rest) (omega (arith, parts.1, power, length-take (digits_len rest) rest))),
        )

    split : (l : List ℕ) → 0 < length l → (rest : List ℕ) × (l ≡ slice_index l 0 ∷ rest)
    split [] h = absurd (omega arith)
    split (b ∷ l) h = (l, refl)

    sign_some : (b : ℕ) → IsSign b → 0 < b
    sign_some b (inl e) = omega arith
    sign_some b (inr e) = omega arith

    some_byte : (l : List ℕ) → 0 < slice_index l 0 → 0 < length l
    some_byte [] h = absurd (omega arith)
    some_byte (b ∷ l) h = omega arith

    by_sign : ((slice_index bytes 0 == 43 || slice_index bytes 0 == 45) ≡ true) ⊎
        ((slice_index bytes 0 == 43 || slice_index bytes 0 == 45) ≡ false)
        → (exponent_len (c ∷ bytes) ≤ suc (length bytes)) × Exponent (take (exponent_len (c ∷ bytes)) (c ∷ bytes))
    by_sign (inl s) =
        let sign = sign-from (slice_index bytes 0) s in
        let there = split bytes (some_byte bytes (sign_some (slice_index bytes 0) sign)) in
        with_sign there.0 there.1 (cond_at s) sign
    by_sign (inr s) =
        let none : sign_len (c ∷ bytes) ≡ 0 = cond_at s in
        let power : power_len (c ∷ bytes) ≡ digits_len bytes = ap (λ n. digits_len (drop (1 + n) (c ∷ bytes))) none in
        let n : exponent_len (c ∷ bytes) ≡ suc (digits_len bytes) = omega (arith, long, power, none) in
        let inside = digits_len-le bytes in
        let cut : take (exponent_len (c ∷ bytes)) (c ∷ bytes) ≡ c ∷ take (digits_len bytes) bytes =
        ap (λ k. take k (c ∷ bytes)) n in (
          omega arith,
          subst Exponent (sym cut) (unsigned c (take (digits_len bytes) bytes) mark (digits-front bytes)
              (omega (arith, parts.1, power, length-take (digits_len bytes) bytes))),
        )

cut-some : (m e : ℕ) → 0 < cond (eqb m 0) 0 (m + e) → 0 < m
cut-some m e h = grind (arith, nat_tests)

-- what is cut off is a literal, within the bytes
literal-front : (bytes : List ℕ) → 0 < literal_len bytes → (literal_len bytes ≤ length bytes)
    × Literal (take (literal_len bytes) bytes)
unfolding literal_len
literal-front bytes some = by_exponent (cases_lt 0 (exponent_len (drop (mantissa_len bytes) bytes)))
  where
    m : 0 < mantissa_len bytes
    m = cut-some (mantissa_len bytes) (exponent_len (drop (mantissa_len bytes) bytes)) some

    front : (mantissa_len bytes ≤ length bytes) × Mantissa (take (mantissa_len bytes) bytes)
    front = mantissa-front bytes m

    long : cond (eqb (mantissa_len bytes) 0) 0 (mantissa_len bytes + exponent_len (drop (mantissa_len bytes) bytes))
        ≡ mantissa_len bytes + exponent_len (drop (mantissa_len bytes) bytes)
    long = cut-is (mantissa_len bytes) (exponent_len (drop (mantissa_len bytes) bytes)) m

    by_exponent : (0 < exponent_len (drop (mantissa_len bytes) bytes)) ⊎ (exponent_len (drop (mantissa_len bytes) bytes)
        ≤ 0)
        → (cond (eqb (mantissa_len bytes) 0) 0 (mantissa_len bytes + exponent_len (drop (mantissa_len bytes) bytes)) ≤
        length bytes)
        × Literal (take (cond (eqb (mantissa_len bytes) 0) 0 (mantissa_len bytes + exponent_len
        (drop (mantissa_len bytes) bytes))) bytes)
    by_exponent (inl e) =
        let rest = drop (mantissa_len bytes) bytes in
        let back = exponent-front rest e in
        let left = length-drop (mantissa_len bytes) bytes in (
          omega (arith, long, back.0, front.0),
          subst Literal (sym (ap (λ n. take n bytes) long ∙ take-two (mantissa_len bytes) (exponent_len rest) bytes))
              (scaled (take (mantissa_len bytes) bytes) (take (exponent_len rest) rest) front.1 back.1),
        )
    by_exponent (inr e) =
        let alone : cond (eqb (mantissa_len bytes) 0) 0 (mantissa_len bytes + exponent_len
        (drop (mantissa_len bytes) bytes)) ≡ mantissa_len bytes = omega (arith, long) in (
          omega (arith, alone, front.0),
          subst (λ n. Literal (take n bytes)) (sym alone)
              (plain (take (mantissa_len bytes) bytes) front.1),
        )

literal_len-le : (bytes : List ℕ) → literal_len bytes ≤ length bytes
literal_len-le bytes = by_some (cases_lt 0 (literal_len bytes))
  where
    by_some : (0 < literal_len bytes) ⊎ (literal_len bytes ≤ 0) → literal_len bytes ≤ length bytes
    by_some (inl h) = (literal-front bytes h).0
    by_some (inr h) = omega arith

-- a literal that bytes begin with is no longer
front-le : (bytes : List ℕ) (m : ℕ) → m ≤ length bytes → Literal (take m bytes) → m ≤ literal_len bytes
front-le bytes m h is =
    let there = literal-le (drop m bytes) is in
    omega (arith, ap literal_len (take-append-drop m bytes), length-take m bytes, there)

pub literals_are_longest : LiteralsAreLongest
literals_are_longest bytes = record {
  within = literal_len-le bytes;
  literal = λ some. (literal-front bytes some).1;
  longest = front-le bytes;
}

literal-some : {t : List ℕ} → Literal t → 0 < length t
literal-some (plain m is) = mantissa-some is
literal-some (scaled m e is exp) = omega (arith, length-append m e, mantissa-some is)

pub literals_are_recognised : LiteralsAreRecognised
unfolding is_literal
literals_are_recognised bytes = (recognised, is_one)
  where
    tested : (n k : ℕ) → (nat_lt 0 n && n == k) ≡ true → (0 < n) × (n ≡ k)
    tested n k e = grind (arith, nat_tests)

    whole_test : (n k : ℕ) → 0 < n → n ≡ k → (nat_lt 0 n && n == k) ≡ true
    whole_test n k h e = grind (arith, nat_tests)

    recognised : (nat_lt 0 (literal_len bytes) && literal_len bytes == length bytes) ≡ true → Literal bytes
    recognised e =
        let told = tested (literal_len bytes) (length bytes) e in
        subst Literal (ap (λ n. take n bytes) told.1 ∙ take_all (length bytes) bytes (omega arith))
        (literal-front bytes told.0).1

    is_one : Literal bytes → (nat_lt 0 (literal_len bytes) && literal_len bytes == length bytes) ≡ true
    is_one is =
        let low = literal-le [] is in
        let high = literal_len-le bytes in
        let some = literal-some is in
        let same = ap literal_len (append-nil bytes) in
        whole_test (literal_len bytes) (length bytes) (omega (arith, low, same, some)) (omega (arith, low, same, high))
