-- A number is read of its text, and of no other.
use Rattle.std.proofs.Common.{◌≡◌, ℕ, suc, ◌^◌, ◌<◌, ◌≤◌, Bool, true, false, not, cond, List, [], ◌∷◌, get_or, nat_lt, nat_le, refl, ap, ap₂, sym, subst, ◌∙◌, arith, Option, Some, None, Result, Ok, Err, FitsSigned}
use Rattle.std.specs.Prelude.{ℤ, pos, negsuc, neg_ℤ, unsigned_abs, bytes_eq, ◌&&◌, ◌==◌}
use Rattle.std.specs.Fmt.{decimal, signed_decimal}
use Rattle.std.specs.Int.{IsInRange, w32}
use Rattle.std.specs.List.{All, list_all}
use Rattle.std.specs.Str.{IsUtf8}
use Rattle.std.specs.Str.Parse.{digits_value, signed_digits_value, starts_with_minus, without_leading_plus, AllDigits, ParsesUnsigned, ParsesSigned}
use Rattle.std.specs.Int.Signed.{mag}
use Rattle.std.proofs.lemmas.Bool.{and_parts, not-true, ltb-true, lt-ltb}
use Rattle.std.proofs.lemmas.Bool.Decides.{nat_tests}
use Rattle.std.proofs.lemmas.Fmt.{decimal_is_IsNumeral, decimal_nonempty, parse-decimal, parse-signed_decimal, IsAscii-decimal, IsAscii-signed}
use Rattle.std.proofs.lemmas.List.Elements.{All-cons}
use Rattle.std.proofs.lemmas.List.Sums.{AllPass-from_list_all}
use Rattle.std.proofs.lemmas.Option.{cond_some, none-some}
use Rattle.std.proofs.lemmas.Slice.Eq.{bytes_eq-Decides}
use Rattle.std.proofs.lemmas.Str.{IsUtf8-from_ascii}
use Rattle.std.proofs.lemmas.Str.Parse.{digit_at, digit_from_value, without_leading_plus_none}
use Rattle.scad_geom.specs.Limits.{coordinate_limit}
use Rattle.cli_read.specs.Reading.{if_count, count_of, if_coordinate, coordinate_of}

-- a test that each digit passes is passed by each byte of a number
pub decimal_passes : (p : ℕ → Bool) → ((c : ℕ) → IsInRange 48 57 c → p c ≡ true) → (n : ℕ) → n < 2 ^ 64
    → list_all p (decimal n) ≡ true
decimal_passes p each n h = digits_pass (decimal n) (decimal_is_IsNumeral n h).0.1
  where
    digits_pass : (ds : List ℕ) → AllDigits 10 ds → list_all p ds ≡ true
    digits_pass [] h = refl
    digits_pass (c ∷ cs) h = ap₂ (λ (a b : Bool). a && b) (each c (digit_from_value c h.0)) (digits_pass cs h.1)

first_digit : (n : ℕ) → n < 2 ^ 64 → IsInRange 48 57 (get_or (decimal n) 0 0)
first_digit n h = digit_at (decimal n) 0 (decimal_is_IsNumeral n h).0.1 (decimal_nonempty n h)

pub same_bytes : (bs : List ℕ) → bytes_eq bs bs ≡ true
same_bytes bs = (bytes_eq-Decides bs bs).1 refl

-- ---- numbers from 0

if_count_text : (word : List ℕ) (m n : ℕ) → if_count m word ≡ Some n → (word ≡ decimal n) × (m ≡ n)
if_count_text word m n e =
    let c = cond_some (bytes_eq (decimal m) word) m n e in
    (sym ((bytes_eq-Decides (decimal m) word).0 c.0) ∙ ap decimal c.1, c.1)

pub count_text : (word : List ℕ) (n : ℕ) → count_of word ≡ Some n → (word ≡ decimal n) × (n < 2 ^ 32)
unfolding count_of
count_text word n e = by_size (nat_lt (digits_value 10 word) (2 ^ 32)) refl e
  where
    by_size : (b : Bool) → nat_lt (digits_value 10 word) (2 ^ 32) ≡ b → cond b (if_count (digits_value 10 word) word)
        None ≡ Some n → (word ≡ decimal n) × (n < 2 ^ 32)
    by_size true s e = let is = if_count_text word (digits_value 10 word) n e in (is.0, omega (arith, ltb-true (digits_value 10 word) (2 ^ 32) s, is.1))
    by_size false s e = absurd (none-some n e)

pub count_back : (n : ℕ) → n < 2 ^ 32 → count_of (decimal n) ≡ Some n
unfolding count_of
count_back n h =
    let value : digits_value 10 (decimal n) ≡ n = (decimal_is_IsNumeral n (omega arith)).1 in
    rw (value, lt-ltb n (2 ^ 32) h, same_bytes (decimal n)) refl

-- no other number is read
no_count : (word : List ℕ) → ((n : ℕ) → n < 2 ^ 32 → word ≡ decimal n → ⊥) → count_of word ≡ None
no_count word other = by_count (count_of word) refl
  where
    by_count : (o : Option ℕ) → count_of word ≡ o → o ≡ None
    by_count None e = refl
    by_count (Some n) e = let is = count_text word n e in absurd (other n is.1 is.0)

pub count_not_text : (word : List ℕ) → ¬ (IsUtf8 word) → None ≡ count_of word
count_not_text word other =
    sym (no_count word (λ n h is. other
    (subst IsUtf8 (sym is) (IsUtf8-from_ascii (decimal n) (IsAscii-decimal n (omega arith))))))

pub count_not_parsed : {E : Type 0} (word : List ℕ) (fault : E) (r : Result ℕ E) → r ≡ Err fault
    → ParsesUnsigned 32 10 word r → None ≡ count_of word
count_not_parsed word fault r failed parsed =
    sym (no_count word (λ n h is. absurd (none n (parse-decimal 32 n word r h (omega arith) is parsed))))
  where
    none : (n : ℕ) → r ≡ Ok n → ⊥
    none n e = cc

pub count_parsed : {E : Type 0} (word : List ℕ) (n : ℕ) (r : Result ℕ E) → r ≡ Ok n → ParsesUnsigned 32 10 word r
    → if_count n word ≡ count_of word
count_parsed {E} word n r read parsed = by_test (bytes_eq (decimal n) word) refl
  where
    same_number : (m : ℕ) → r ≡ Ok m → n ≡ m
    same_number m e = cc

    true_false : true ≡ false → ⊥
    true_false e = cc

    small : n < 2 ^ 32
    small = let number = subst (λ (x : Result ℕ E). ParsesUnsigned 32 10 word x) read parsed in omega (arith, number.0.1, number.1)

    other : bytes_eq (decimal n) word ≡ false → (m : ℕ) → m < 2 ^ 32 → word ≡ decimal m → ⊥
    other differs m h is =
        let same : n ≡ m = same_number m (parse-decimal 32 m word r h (omega arith) is parsed) in
        true_false (sym ((bytes_eq-Decides (decimal n) word).1 (ap decimal same ∙ sym is)) ∙ differs)

    by_test : (b : Bool) → bytes_eq (decimal n) word ≡ b → cond b (Some n) None ≡ count_of word
    by_test true e = sym (ap count_of (sym ((bytes_eq-Decides (decimal n) word).0 e)) ∙ count_back n small)
    by_test false e = sym (no_count word (other e))

-- ---- coordinates

signed_value : (z : ℤ) → unsigned_abs z ≤ coordinate_limit → signed_digits_value 10 (signed_decimal z) ≡ z
signed_value (pos n) h =
    let first = first_digit n (omega arith) in
    let minus : starts_with_minus (decimal n) ≡ false = grind (arith, nat_tests) in
    let plus : without_leading_plus (decimal n) ≡ decimal n = without_leading_plus_none (decimal n) (λ e. omega arith)
    in
    rw (minus, plus, (decimal_is_IsNumeral n (omega arith)).1) refl
signed_value (negsuc n) h = ap (λ (m : ℕ). neg_ℤ (pos m)) (decimal_is_IsNumeral (suc n) (omega arith)).1

pub coordinate_text : (word : List ℕ) (z : ℤ) → coordinate_of word ≡ Some z → (word ≡ signed_decimal z)
    × (unsigned_abs z ≤ coordinate_limit)
unfolding coordinate_of
coordinate_text word z e =
    let v = signed_digits_value 10 word in
    let c = cond_some (bytes_eq (signed_decimal v) word && nat_le (unsigned_abs v) coordinate_limit) v z e in
    let p = and_parts (bytes_eq (signed_decimal v) word) (nat_le (unsigned_abs v) coordinate_limit) c.0 in
    let small : unsigned_abs v ≤ coordinate_limit = grind (arith, nat_tests) in
    (sym ((bytes_eq-Decides (signed_decimal v) word).0 p.0) ∙ ap signed_decimal c.1, rw (← c.1) small)

pub coordinate_back : (z : ℤ) → unsigned_abs z ≤ coordinate_limit → coordinate_of (signed_decimal z) ≡ Some z
unfolding coordinate_of
coordinate_back z h =
    let small : nat_le (unsigned_abs z) coordinate_limit ≡ true = grind (arith, nat_tests) in
    rw (signed_value z h, same_bytes (signed_decimal z), small) refl

-- no other coordinate is read
no_coordinate : (word : List ℕ) → ((z : ℤ) → unsigned_abs z ≤ coordinate_limit → word ≡ signed_decimal z → ⊥)
    → coordinate_of word ≡ None
no_coordinate word other = by_coordinate (coordinate_of word) refl
  where
    by_coordinate : (o : Option ℤ) → coordinate_of word ≡ o → o ≡ None
    by_coordinate None e = refl
    by_coordinate (Some z) e = let is = coordinate_text word z e in absurd (other z is.1 is.0)

small_signed : (z : ℤ) → unsigned_abs z ≤ coordinate_limit → (mag z < 2 ^ 63) × FitsSigned w32 z
small_signed (pos n) h = (omega arith, record { sfits = omega arith })
small_signed (negsuc n) h = (omega arith, record { sfits = omega arith })

pub coordinate_not_text : (word : List ℕ) → ¬ (IsUtf8 word) → None ≡ coordinate_of word
coordinate_not_text word other =
    sym (no_coordinate word
    (λ z h is. other (subst IsUtf8 (sym is) (IsUtf8-from_ascii (signed_decimal z)
    (IsAscii-signed z (small_signed z h).0)))))

pub coordinate_not_parsed : {E : Type 0} (word : List ℕ) (fault : E) (r : Result ℤ E) → r ≡ Err fault
    → ParsesSigned w32 10 word r → None ≡ coordinate_of word
coordinate_not_parsed word fault r failed parsed =
    sym (no_coordinate word
    (λ z h is. absurd (none z (parse-signed_decimal w32 z word r (small_signed z h).1 (small_signed z h).0 is
    parsed))))
  where
    none : (z : ℤ) → r ≡ Ok z → ⊥
    none z e = cc

pub parsed_fits : {E : Type 0} (word : List ℕ) (z : ℤ) (r : Result ℤ E) → r ≡ Ok z → ParsesSigned w32 10 word r
    → FitsSigned w32 z
parsed_fits {E} word z r read parsed =
    let number = subst (λ (x : Result ℤ E). ParsesSigned w32 10 word x) read parsed in
    subst (FitsSigned w32) (sym number.1) number.0.1

pub coordinate_parsed : {E : Type 0} (word : List ℕ) (z : ℤ) (r : Result ℤ E) → r ≡ Ok z → ParsesSigned w32 10 word r
    → if_coordinate z word ≡ coordinate_of word
coordinate_parsed word z r read parsed =
    by_test (bytes_eq (signed_decimal z) word && nat_le (unsigned_abs z) coordinate_limit) refl
  where
    same_number : (y : ℤ) → r ≡ Ok y → z ≡ y
    same_number y e = cc

    true_false : true ≡ false → ⊥
    true_false e = cc

    other : (bytes_eq (signed_decimal z) word && nat_le (unsigned_abs z) coordinate_limit) ≡ false → (y : ℤ)
        → unsigned_abs y ≤ coordinate_limit → word ≡ signed_decimal y → ⊥
    other differs y h is =
        let same : z ≡ y = same_number y (parse-signed_decimal w32 y word r (small_signed y h).1 (small_signed y h).0 is
        parsed) in
        let text : bytes_eq (signed_decimal z) word ≡ true = (bytes_eq-Decides (signed_decimal z) word).1
        (ap signed_decimal same ∙ sym is) in
        let near : unsigned_abs z ≤ coordinate_limit = rw same h in
        let small : nat_le (unsigned_abs z) coordinate_limit ≡ true = grind (arith, nat_tests) in
        true_false (sym (ap₂ (λ (a b : Bool). a && b) text small) ∙ differs)

    by_test : (b : Bool) → (bytes_eq (signed_decimal z) word && nat_le (unsigned_abs z) coordinate_limit) ≡ b
        → cond b (Some z) None ≡ coordinate_of word
    by_test true e =
        let p = and_parts (bytes_eq (signed_decimal z) word) (nat_le (unsigned_abs z) coordinate_limit) e in
        let near : unsigned_abs z ≤ coordinate_limit = grind (arith, nat_tests) in
        sym (ap coordinate_of (sym ((bytes_eq-Decides (signed_decimal z) word).0 p.0)) ∙ coordinate_back z near)
    by_test false e = sym (no_coordinate word (other e))

-- ---- a byte that no number has

abbrev pub Lacks : ℕ → List ℕ → Type 0
Lacks mark bs = All (λ b. (b == mark) ≡ false) bs

pub lacks_from_test : (mark : ℕ) (bs : List ℕ) → list_all (λ b. not (b == mark)) bs ≡ true → Lacks mark bs
lacks_from_test mark bs h k d l = not-true (get_or bs k d == mark) (AllPass-from_list_all (λ (b : ℕ). not (b == mark))
    bs h k d l)

pub decimal_lacks : (mark n : ℕ) → mark < 48 → n < 2 ^ 64 → Lacks mark (decimal n)
decimal_lacks mark n m h = lacks_from_test mark (decimal n) (decimal_passes (λ b. not (b == mark)) (other mark m) n h)
  where
    other : (mark : ℕ) → mark < 48 → (c : ℕ) → IsInRange 48 57 c → not (c == mark) ≡ true
    other mark m c digit = grind (arith, nat_tests)

pub signed_lacks : (mark : ℕ) (z : ℤ) → mark < 45 → unsigned_abs z ≤ coordinate_limit → Lacks mark (signed_decimal z)
signed_lacks mark (pos n) m h = decimal_lacks mark n (omega arith) (omega arith)
signed_lacks mark (negsuc n) m h =
    All-cons (λ (b : ℕ). (b == mark) ≡ false) 45 (decimal (suc n)) (other mark m)
    (decimal_lacks mark (suc n) (omega arith) (omega arith))
  where
    other : (mark : ℕ) → mark < 45 → (45 == mark) ≡ false
    other mark m = grind (arith, nat_tests)
