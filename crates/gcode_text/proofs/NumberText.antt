-- Numbers that are written are read back.
use Rattle.std.proofs.Common.{◌≡◌, ℕ, suc, ◌+◌, ◌-◌, ◌*◌, ◌/◌, ◌%◌, ◌^◌, ◌<◌, Bool, true, false, not, cond, nat_le, nat_lt, List, [], ◌∷◌, ◌++◌, length, refl, ap, ap₂, sym, ◌∙◌, arith, Some}
use Rattle.std.specs.Prelude.{ℤ, pos, negsuc, neg_ℤ, unsigned_abs, ◌==◌, ◌&&◌, slice_index}
use Rattle.std.specs.Char.{digit_value, is_ascii_digit}
use Rattle.std.specs.Fmt.{decimal}
use Rattle.std.specs.List.{list_all}
use Rattle.std.specs.Str.Parse.{AllDigits, digits_value, digits_value_after}
use Rattle.std.proofs.lemmas.Bool.Decides.{nat_tests}
use Rattle.std.proofs.lemmas.Fmt.{decimal_is_IsNumeral_wide}
use Rattle.std.proofs.lemmas.List.{take_at, length-append, append-nil}
use Rattle.gcode_text.specs.Numeral.{last_digits, fixed, millimetres}
use Rattle.text_scan.specs.Marks.{first_at}
use Rattle.gcode_text.specs.Reading.{are_digits, whole_size, pointed_size, size_of, number}
use Rattle.std.proofs.lemmas.Bool.{and_parts, eq-eqb}
use Rattle.std.proofs.Math.Seq.{drop-append-add}

-- ---- digits
all_digits : (ds : List ℕ) → AllDigits 10 ds → list_all is_ascii_digit ds ≡ true
all_digits [] h = refl
all_digits (c ∷ cs) h =
    let value = h.0 in
    let digit : is_ascii_digit c ≡ true = grind (arith, nat_tests) in
    ap₂ (λ (a b : Bool). a && b) digit (all_digits cs h.1)

pub decimal_digits : (n : ℕ) → n < 10 ^ 64 → are_digits (decimal n) ≡ true
unfolding are_digits
decimal_digits n h =
    let p = decimal_is_IsNumeral_wide n h in
    ap₂ (λ (a b : Bool). a && b) (some (length (decimal n)) p.0.0) (all_digits (decimal n) p.0.1)
  where
    some : (k : ℕ) → 0 < k → nat_lt 0 k ≡ true
    some k h = grind (arith, nat_tests)

pub list_all-weaken : (p q : ℕ → Bool) → ((b : ℕ) → p b ≡ true → q b ≡ true) → (xs : List ℕ) → list_all p xs ≡ true
    → list_all q xs ≡ true
list_all-weaken p q f [] h = refl
list_all-weaken p q f (x ∷ xs) h =
    ap₂ (λ (a b : Bool). a && b) (f x (and_parts (p x) (list_all p xs) h).0)
    (list_all-weaken p q f xs (and_parts (p x) (list_all p xs) h).1)

pub first_mark : (mark : ℕ) (xs rest : List ℕ) → list_all (λ b. not (b == mark)) xs ≡ true
    → first_at mark (xs ++ mark ∷ rest) ≡ length xs
first_mark mark [] rest h = ap (λ (b : Bool). cond (not b) (1 + first_at mark rest) 0) (eq-eqb mark mark refl)
first_mark mark (x ∷ xs) rest h =
    let next : first_at mark (xs ++ mark ∷ rest) ≡ length xs = first_mark mark xs rest
    ((and_parts (not (x == mark)) (list_all (λ b. not (b == mark)) xs) h).1) in
    ap (λ (b : Bool). cond b (1 + first_at mark (xs ++ mark ∷ rest)) 0)
    ((and_parts (not (x == mark)) (list_all (λ b. not (b == mark)) xs) h).0) ∙ omega arith

pub no_mark : (mark : ℕ) (xs : List ℕ) → list_all (λ b. not (b == mark)) xs ≡ true → first_at mark xs ≡ length xs
no_mark mark [] h = refl
no_mark mark (x ∷ xs) h =
    let next : first_at mark xs ≡ length xs = no_mark mark xs
    ((and_parts (not (x == mark)) (list_all (λ b. not (b == mark)) xs) h).1) in
    ap (λ (b : Bool). cond b (1 + first_at mark xs) 0)
    ((and_parts (not (x == mark)) (list_all (λ b. not (b == mark)) xs) h).0) ∙ omega arith

digit_back : (d : ℕ) → d < 10 → digit_value (48 + d) ≡ d
digit_back d h = grind (arith, nat_tests)

pub three : (v m : ℕ) → m < 1000 → digits_value_after 10 v (last_digits 3 m) ≡ v * 1000 + m
unfolding last_digits
three v m h =
    let a = digit_back (m / 10 / 10 % 10) (omega arith) in
    let b = digit_back (m / 10 % 10) (omega arith) in
    let c = digit_back (m % 10) (omega arith) in
    rw (a, b, c) (omega arith)

pub five : (v m : ℕ) → m < 100000 → digits_value_after 10 v (last_digits 5 m) ≡ v * 100000 + m
unfolding last_digits
five v m h =
    let a = digit_back (m / 10 / 10 / 10 / 10 % 10) (omega arith) in
    let b = digit_back (m / 10 / 10 / 10 % 10) (omega arith) in
    let c = digit_back (m / 10 / 10 % 10) (omega arith) in
    let d = digit_back (m / 10 % 10) (omega arith) in
    let e = digit_back (m % 10) (omega arith) in
    rw (a, b, c, d, e) (omega arith)

-- ---- sizes

digit_no_point : (b : ℕ) → is_ascii_digit b ≡ true → not (b == 46) ≡ true
digit_no_point b h = grind (arith, nat_tests)

pub digits_alone : (ds : List ℕ) → are_digits ds ≡ true → list_all is_ascii_digit ds ≡ true
unfolding are_digits
digits_alone ds h = (and_parts (nat_lt 0 (length ds)) (list_all is_ascii_digit ds) h).1

no_point : (ds : List ℕ) → are_digits ds ≡ true → list_all (λ b. not (b == 46)) ds ≡ true
no_point ds h = list_all-weaken is_ascii_digit (λ b. not (b == 46)) digit_no_point ds (digits_alone ds h)

in_front : (xs ys : List ℕ) (c : ℕ) → nat_lt (length xs) (length (xs ++ c ∷ ys)) ≡ true
in_front xs ys c = let e = length-append xs (c ∷ ys) in grind (arith, nat_tests)

pub size_pointed : (places : ℕ) (whole decimals : List ℕ) → are_digits whole ≡ true
    → size_of places (whole ++ 46 ∷ decimals) ≡ pointed_size places whole decimals
unfolding size_of
size_pointed places whole decimals h =
    let at = first_mark 46 whole decimals (no_point whole h) in
    rw (
      at,
      in_front whole decimals 46,
      take_at whole (46 ∷ decimals) (length whole) refl,
      drop-append-add whole
          (46 ∷ decimals) 1,
    ) refl

pub size_whole : (places : ℕ) (whole : List ℕ) → are_digits whole ≡ true → size_of places whole
    ≡ Some (digits_value 10 whole * 10 ^ places)
unfolding size_of whole_size
size_whole places whole h =
    let at = no_mark 46 whole (no_point whole h) in
    let not_below : nat_lt (length whole) (length whole) ≡ false = grind (arith, nat_tests) in
    rw (at, not_below, h) refl

pub pointed_is : (places : ℕ) (whole decimals : List ℕ) → are_digits whole ≡ true → are_digits decimals ≡ true
    → nat_le (length decimals) places ≡ true →
    pointed_size places whole decimals ≡ Some (digits_value_after 10 (digits_value 10 whole) decimals * 10 ^
    (places - length decimals))
unfolding pointed_size
pointed_is places whole decimals a b c = rw (a, b, c) refl

glyph : (m : ℕ) → is_ascii_digit (48 + m % 10) ≡ true
glyph m = grind (arith, nat_tests)

pub three_digits : (m : ℕ) → are_digits (last_digits 3 m) ≡ true
unfolding last_digits are_digits
three_digits m = rw (glyph (m / 10 / 10), glyph (m / 10), glyph m) refl

pub five_digits : (m : ℕ) → are_digits (last_digits 5 m) ≡ true
unfolding last_digits are_digits
five_digits m = rw (
  glyph (m / 10 / 10 / 10 / 10),
  glyph (m / 10 / 10 / 10),
  glyph (m / 10 / 10),
  glyph (m / 10),
  glyph
      m,
) refl

three_long : (m : ℕ) → length (last_digits 3 m) ≡ 3
unfolding last_digits
three_long m = refl

five_long : (m : ℕ) → length (last_digits 5 m) ≡ 5
unfolding last_digits
five_long m = refl

pub size_three : (n : ℕ) → n < 10 ^ 64 → size_of 3 (fixed 3 n) ≡ Some n
unfolding fixed
size_three n h =
    let digits = decimal_digits (n / 1000) (omega arith) in
    let value = (decimal_is_IsNumeral_wide (n / 1000) (omega arith)).1 in
    size_pointed 3 (decimal (n / 1000)) (last_digits 3 (n % 1000)) digits
    ∙ pointed_is 3 (decimal (n / 1000)) (last_digits 3 (n % 1000)) digits (three_digits (n % 1000))
    (ap (λ (k : ℕ). nat_le k 3) (three_long (n % 1000)))
    ∙ ap (λ (k : ℕ). Some (digits_value_after 10 (digits_value 10 (decimal (n / 1000))) (last_digits 3 (n % 1000)) * 10
    ^ (3 - k))) (three_long (n % 1000))
    ∙ ap Some (omega (arith, three (digits_value 10 (decimal (n / 1000))) (n % 1000) (omega arith), value))

pub size_five : (n : ℕ) → n < 10 ^ 64 → size_of 5 (fixed 5 n) ≡ Some n
unfolding fixed
size_five n h =
    let digits = decimal_digits (n / 100000) (omega arith) in
    let value = (decimal_is_IsNumeral_wide (n / 100000) (omega arith)).1 in
    size_pointed 5 (decimal (n / 100000)) (last_digits 5 (n % 100000)) digits
    ∙ pointed_is 5 (decimal (n / 100000)) (last_digits 5 (n % 100000)) digits (five_digits (n % 100000))
    (ap (λ (k : ℕ). nat_le k 5) (five_long (n % 100000)))
    ∙ ap (λ (k : ℕ). Some (digits_value_after 10 (digits_value 10 (decimal (n / 100000))) (last_digits 5 (n % 100000)) *
    10 ^ (5 - k))) (five_long (n % 100000))
    ∙ ap Some (omega (arith, five (digits_value 10 (decimal (n / 100000))) (n % 100000) (omega arith), value))

-- ---- numbers

pub no_minus : (ds rest : List ℕ) → are_digits ds ≡ true → (slice_index (ds ++ rest) 0 == 45) ≡ false
unfolding are_digits
no_minus [] rest h = absurd (cc)
no_minus (c ∷ cs) rest h = digit_no_minus c
    ((and_parts (is_ascii_digit c) (list_all is_ascii_digit cs)
    ((and_parts (nat_lt 0 (length (c ∷ cs))) (list_all is_ascii_digit (c ∷ cs)) h).1)).0)
  where
    digit_no_minus : (c : ℕ) → is_ascii_digit c ≡ true → (c == 45) ≡ false
    digit_no_minus c h = grind (arith, nat_tests)

pub positive_number : (places : ℕ) (text : List ℕ) (n : ℕ) → (slice_index text 0 == 45) ≡ false → size_of places text
    ≡ Some n → number places text ≡ Some (pos n)
unfolding number
positive_number places text n m e = rw (m, e) refl

pub negative_number : (places : ℕ) (text : List ℕ) (n : ℕ) → size_of places text ≡ Some n → number places (45 ∷ text)
    ≡ Some (neg_ℤ (pos n))
unfolding number
negative_number places text n e = rw e refl

fixed_no_minus : (places n : ℕ) → n / 10 ^ places < 10 ^ 64 → (slice_index (fixed places n) 0 == 45) ≡ false
unfolding fixed
fixed_no_minus places n h = no_minus (decimal (n / 10 ^ places)) (46 ∷ last_digits places (n % 10 ^ places))
    (decimal_digits (n / 10 ^ places) h)

pub millimetres_back : (z : ℤ) → unsigned_abs z < 10 ^ 64 → number 3 (millimetres z) ≡ Some z
unfolding millimetres
millimetres_back (pos n) h = positive_number 3 (fixed 3 n) n (fixed_no_minus 3 n (omega arith)) (size_three n h)
millimetres_back (negsuc n) h = negative_number 3 (fixed 3 (suc n)) (suc n) (size_three (suc n) h)

pub thousandths_back : (n : ℕ) → n < 10 ^ 64 → number 3 (fixed 3 n) ≡ Some (pos n)
thousandths_back n h = positive_number 3 (fixed 3 n) n (fixed_no_minus 3 n (omega arith)) (size_three n h)

pub amount_back : (n : ℕ) → n < 10 ^ 64 → number 5 (fixed 5 n) ≡ Some (pos n)
amount_back n h = positive_number 5 (fixed 5 n) n (fixed_no_minus 5 n (omega arith)) (size_five n h)

pub decimal_back : (n : ℕ) → n < 10 ^ 64 → number 5 (decimal n) ≡ Some (pos (n * 10 ^ 5))
decimal_back n h =
    let digits = decimal_digits n h in
    let value = (decimal_is_IsNumeral_wide n h).1 in
    positive_number 5 (decimal n) (n * 10 ^ 5) (ap (λ (xs : List ℕ). slice_index xs 0 == 45)
    (sym (append-nil (decimal n))) ∙ no_minus (decimal n) [] digits)
    (size_whole 5 (decimal n) digits ∙ ap (λ (v : ℕ). Some (v * 10 ^ 5)) value)
