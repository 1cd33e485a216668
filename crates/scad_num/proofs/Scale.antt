-- A decimal number rounded at a place: it is read to one digit more, and that digit decides.
use Rattle.std.proofs.Common.{◌≡◌, ℕ, zero, suc, ◌+◌, ◌-◌, ◌*◌, ◌/◌, ◌^◌, ◌<◌, ◌≤◌, min, List, [], ◌∷◌, ◌++◌, length, take, drop, refl, sym, ◌∙◌, ap, arith, subst, ◌⊎◌, inl, inr, pow-add, length-append}
use Rattle.std.specs.Str.Parse.{AllDigits, digits_value, digits_value_after}
use Rattle.std.specs.Char.{digit_value}
use Rattle.std.proofs.lemmas.Bool.{cases_lt}
use Rattle.std.proofs.lemmas.Int.Digits.{digits_value-lt}
use Rattle.std.proofs.lemmas.List.{take-append-drop, length-drop, take_all}
use Rattle.std.proofs.lemmas.Nat.{div-mul-add}
use Rattle.std.proofs.Math.Nat.{mul_assoc, mul_comm, pow-suc, div-div-eq-div-mul, mul-div-mul_left, mul-div_cancel, add-mul-div_right, div-eq_of_lt, pow-le-pow_right}
use Rattle.scad_num.specs.Rounding.{half_up}
use Rattle.scad_num.proofs.Caps.{ten_pow_pos, min-mul}
use Rattle.scad_num.proofs.Digits.{min-digits_value_after}
use Rattle.std.proofs.Math.Nat.{le-mul_of_pos_right}

-- rounding half up is cutting at one digit more, and rounding at that digit
pub half_up-by_digit : (n d : ℕ) → 0 < d → half_up n d ≡ (10 * n / d + 5) / 10
unfolding half_up
half_up-by_digit n d h =
    let whole : (10 * n + 5 * d) / d ≡ 10 * n / d + 5 = add-mul-div_right (10 * n) 5 h in
    let down : (10 * n + 5 * d) / d / 10 ≡ (10 * n + 5 * d) / (d * 10) = div-div-eq-div-mul (10 * n + 5 * d) d 10 in
    let top : 10 * n + 5 * d ≡ 5 * (2 * n + d) = omega arith in
    let bottom : d * 10 ≡ 5 * (2 * d) = omega arith in
    let five : 5 * (2 * n + d) / (5 * (2 * d)) ≡ (2 * n + d) / (2 * d) = mul-div-mul_left (2 * n + d) (2 * d)
    (omega arith) in
    cc

-- the number that joined digits write
pub digits_value_after-append : (n : ℕ) (xs ys : List ℕ) → digits_value_after 10 n (xs ++ ys) ≡ digits_value_after 10
    (digits_value_after 10 n xs) ys
digits_value_after-append n [] ys = refl
digits_value_after-append n (x ∷ xs) ys = digits_value_after-append (n * 10 + digit_value x) xs ys

-- a number in front is worth a power of ten
pub digits_value_after-split : (n : ℕ) (ds : List ℕ) → digits_value_after 10 n ds ≡ n * 10 ^ length ds + digits_value 10
    ds
digits_value_after-split n [] = omega arith
digits_value_after-split n (c ∷ cs) =
    let after = digits_value_after-split (n * 10 + digit_value c) cs in
    let alone = digits_value_after-split (0 * 10 + digit_value c) cs in
    omega (arith, ap (λ x. n * x) (pow-suc 10 (length cs)))

pub digits_value-append : (xs ys : List ℕ) → digits_value 10 (xs ++ ys) ≡ digits_value 10 xs * 10 ^ length ys +
    digits_value 10 ys
digits_value-append xs ys = digits_value_after-append 0 xs ys ∙ digits_value_after-split (digits_value 10 xs) ys

-- what is left of digits is digits
pub AllDigits-drop : (n : ℕ) (ds : List ℕ) → AllDigits 10 ds → AllDigits 10 (drop n ds)
AllDigits-drop zero ds h = h
AllDigits-drop (suc n) [] h = tt
AllDigits-drop (suc n) (c ∷ cs) h = AllDigits-drop n cs h.1

-- leaving out the last j digits divides by 10 ^ j
pub digits_value-first : (ds : List ℕ) (j : ℕ) → AllDigits 10 ds → digits_value 10 (take (length ds - j) ds)
    ≡ digits_value 10 ds / 10 ^ j
digits_value-first ds j h = by_length (cases_lt (length ds) j)
  where
    by_length : (length ds < j) ⊎ (j ≤ length ds) → digits_value 10 (take (length ds - j) ds) ≡ digits_value 10 ds / 10
        ^ j
    by_length (inl past) =
        let none : length ds - j ≡ 0 = omega arith in
        let small : digits_value 10 ds < 10 ^ length ds = digits_value-lt 10 ds h in
        let power : 10 ^ length ds ≤ 10 ^ j = pow-le-pow_right (omega arith) (omega arith) in
        rw none (sym (div-eq_of_lt (omega arith)))
    by_length (inr within) =
        let kept = length ds - j in
        let left : length (drop kept ds) ≡ j = omega (arith, length-drop kept ds) in
        let low : digits_value 10 (drop kept ds) < 10 ^ j = subst (λ n. digits_value 10 (drop kept ds) < 10 ^ n) left
        (digits_value-lt 10 (drop kept ds) (AllDigits-drop kept ds h)) in
        let parts : digits_value 10 ds ≡ digits_value 10 (take kept ds) * 10 ^ j + digits_value 10 (drop kept ds) =
        ap (digits_value 10) (sym (take-append-drop kept ds)) ∙ digits_value-append (take kept ds) (drop kept ds) ∙ ap
        (λ n. digits_value 10 (take kept ds) * 10 ^ n + digits_value 10 (drop kept ds)) left in
        sym (ap (λ n. n / 10 ^ j) parts ∙ div-mul-add (digits_value 10 (take kept ds)) (10 ^ j)
        (digits_value 10 (drop kept ds)) low)

-- the first so many digits as a number, with zeros where there are fewer
abbrev pub leading : List ℕ → ℕ → ℕ
leading ds wanted = digits_value 10 (take wanted ds) * 10 ^ (wanted - length ds)

-- moving the point by some places and cutting behind it leaves the first digits
pub leading-scaled : (ds : List ℕ) (a b : ℕ) → AllDigits 10 ds → 10 * (digits_value 10 ds * 10 ^ a) / 10 ^ b
    ≡ leading ds ((length ds + a + 1) - b)
leading-scaled ds a b h = by_places (cases_lt (a + 1) b)
  where
    value : ℕ
    value = digits_value 10 ds

    raised : 10 * (digits_value 10 ds * 10 ^ a) ≡ 10 ^ (a + 1) * digits_value 10 ds
    raised = omega (arith, ap (λ x. digits_value 10 ds * x) (pow-add 10 a 1))

    by_places : (a + 1 < b) ⊎ (b ≤ a + 1) → 10 * (digits_value 10 ds * 10 ^ a) / 10 ^ b
        ≡ leading ds ((length ds + a + 1) - b)
    by_places (inl fewer) =
        let j = b - (a + 1) in
        let wanted : (length ds + a + 1) - b ≡ length ds - j = omega arith in
        let zeros : length ds - j - length ds ≡ 0 = omega arith in
        let power : 10 ^ b ≡ 10 ^ (a + 1) * 10 ^ j = ap (λ n. 10 ^ n) (omega arith) ∙ pow-add 10 (a + 1) j in
        let cut : 10 ^ (a + 1) * digits_value 10 ds / (10 ^ (a + 1) * 10 ^ j) ≡ digits_value 10 ds / 10 ^ j =
        mul-div-mul_left (digits_value 10 ds) (10 ^ j) (ten_pow_pos (a + 1)) in
        let first = digits_value-first ds j h in
        rw (wanted, zeros, raised, power, cut) (omega arith)
    by_places (inr more) =
        let zeros = a + 1 - b in
        let wanted : (length ds + a + 1) - b ≡ length ds + zeros = omega arith in
        let tail : length ds + zeros - length ds ≡ zeros = omega arith in
        let all : take (length ds + zeros) ds ≡ ds = take_all (length ds + zeros) ds (omega arith) in
        let power : 10 ^ (a + 1) ≡ 10 ^ zeros * 10 ^ b = ap (λ n. 10 ^ n) (omega arith) ∙ pow-add 10 zeros b in
        let whole : 10 ^ (a + 1) * digits_value 10 ds ≡ digits_value 10 ds * 10 ^ zeros * 10 ^ b =
        mul_comm (10 ^ (a + 1)) (digits_value 10 ds) ∙ ap (λ x. digits_value 10 ds * x) power ∙ sym
        (mul_assoc (digits_value 10 ds) (10 ^ zeros) (10 ^ b)) in
        rw (wanted, tail, all, raised, whole) (mul-div_cancel (digits_value 10 ds * 10 ^ zeros) (ten_pow_pos b))

-- digits before and behind the point, with the point moved, rounded half up at one digit more
pub half_up-scaled : (whole decimals : List ℕ) (up down : ℕ) → AllDigits 10 (whole ++ decimals)
    → half_up (digits_value 10 (whole ++ decimals) * 10 ^ (6 + up)) (10 ^ (length decimals + down))
    ≡ (leading (whole ++ decimals) ((length whole + 7 + up) - down) + 5) / 10
half_up-scaled whole decimals up down h =
    let by_digit = half_up-by_digit (digits_value 10 (whole ++ decimals) * 10 ^ (6 + up))
    (10 ^ (length decimals + down)) (ten_pow_pos (length decimals + down)) in
    let cut = leading-scaled (whole ++ decimals) (6 + up) (length decimals + down) h in
    let wanted : (length (whole ++ decimals) + (6 + up) + 1) - (length decimals + down) ≡ (length whole + 7 + up) -
    down = omega (arith, length-append whole decimals) in
    by_digit ∙ ap (λ x. (x + 5) / 10) (cut ∙ ap (leading (whole ++ decimals)) wanted)

-- the first digits of joined digits
pub take-append : (n : ℕ) (xs ys : List ℕ) → take n (xs ++ ys) ≡ take n xs ++ take (n - length xs) ys
take-append zero xs ys = let none : 0 ≡ 0 - length xs = omega arith in ap (λ k. take k ys) none
take-append (suc n) [] ys = let all : suc n ≡ suc n - 0 = omega arith in ap (λ k. take k ys) all
take-append (suc n) (x ∷ xs) ys =
    let left : n - length xs ≡ suc n - suc (length xs) = omega arith in
    ap (λ l. x ∷ l) (take-append n xs ys ∙ ap (λ k. take n xs ++ take k ys) left)

-- digits joined to digits are digits
pub AllDigits-append : (xs ys : List ℕ) → AllDigits 10 xs → AllDigits 10 ys → AllDigits 10 (xs ++ ys)
AllDigits-append [] ys h g = g
AllDigits-append (x ∷ xs) ys h g = (h.0, AllDigits-append xs ys h.1 g)

-- the first digits may be read part by part, each up to the cap
pub leading-by_parts : (whole decimals : List ℕ) (wanted cap : ℕ)
    → min (min (digits_value_after 10 (min (digits_value_after 10 0 (take wanted whole)) cap)
    (take (wanted - length whole) decimals)) cap * 10 ^ (wanted - (length whole + length decimals))) cap
    ≡ min (leading (whole ++ decimals) wanted) cap
leading-by_parts whole decimals wanted cap =
    let zeros = 10 ^ (wanted - (length whole + length decimals)) in
    let joined : digits_value_after 10 (digits_value_after 10 0 (take wanted whole))
    (take (wanted - length whole) decimals) ≡ digits_value 10 (take wanted (whole ++ decimals)) =
    sym (ap (digits_value 10) (take-append wanted whole decimals) ∙ digits_value_after-append 0 (take wanted whole)
    (take (wanted - length whole) decimals)) in
    let long : wanted - length (whole ++ decimals) ≡ wanted - (length whole + length decimals) =
    omega (arith, length-append whole decimals) in
    ap (λ n. min (n * zeros) cap) (min-digits_value_after cap (digits_value_after 10 0 (take wanted whole))
    (take (wanted - length whole) decimals))
    ∙ min-mul cap (digits_value_after 10 (digits_value_after 10 0 (take wanted whole))
    (take (wanted - length whole) decimals)) zeros (ten_pow_pos (wanted - (length whole + length decimals)))
    ∙ ap (λ n. min n cap) (ap (λ n. n * zeros) joined ∙ ap (λ k. digits_value 10 (take wanted (whole ++ decimals)) * 10
    ^ k) (sym long))

-- rounding at the last digit, up to the cap
pub min-rounded : (n : ℕ) → (min n 10000000000000010 + 5) / 10 ≡ min ((n + 5) / 10) 1000000000000001
min-rounded n = omega arith

-- from 17 zeros on a number above 0 is past the cap
pub leading_past : (ds : List ℕ) (wanted : ℕ) → length ds + 17 ≤ wanted → min (leading ds wanted) 10000000000000010
    ≡ min (digits_value 10 ds * 10 ^ 17) 10000000000000010
leading_past ds wanted h =
    let all : take wanted ds ≡ ds = take_all wanted ds (omega arith) in
    let zeros : wanted - length ds ≡ 17 + (wanted - length ds - 17) = omega arith in
    let power : 10 ^ (wanted - length ds) ≡ 10 ^ 17 * 10 ^ (wanted - length ds - 17) = ap (λ k. 10 ^ k) zeros ∙ pow-add
    10 17 (wanted - length ds - 17) in
    rw (all, power) (past (digits_value 10 ds) (10 ^ (wanted - length ds - 17)) (ten_pow_pos (wanted - length ds - 17)))
  where
    past : (n k : ℕ) → 0 < k → min (n * (10 ^ 17 * k)) 10000000000000010 ≡ min (n * 10 ^ 17) 10000000000000010
    past zero k h = omega arith
    past (suc n) k h =
        let more = le-mul_of_pos_right (suc n * 10 ^ 17) h in
        let same : suc n * (10 ^ 17 * k) ≡ suc n * 10 ^ 17 * k = sym (mul_assoc (suc n) (10 ^ 17) k) in
        omega arith

-- moves of the point may be cut to a number that no text's length reaches
pub leading-far : (ds : List ℕ) (whole up down far : ℕ) → whole ≤ length ds → length ds + 17 ≤ far
    → (up ≡ 0) ⊎ (down ≡ 0)
    → min (leading ds ((whole + 7 + min up far) - min down far)) 10000000000000010
    ≡ min (leading ds ((whole + 7 + up) - down)) 10000000000000010
leading-far ds whole up down far within room one_way = by_up (cases_lt far up) (cases_lt far down) one_way
  where
    Same : Type 0
    Same = min (leading ds ((whole + 7 + min up far) - min down far)) 10000000000000010
        ≡ min (leading ds ((whole + 7 + up) - down)) 10000000000000010

    same_place : (whole + 7 + min up far) - min down far ≡ (whole + 7 + up) - down → Same
    same_place e = ap (λ q. min (leading ds q) 10000000000000010) e

    by_up : (far < up) ⊎ (up ≤ far) → (far < down) ⊎ (down ≤ far) → (up ≡ 0) ⊎ (down ≡ 0) → Same
    by_up (inl u) d (inl e) = absurd (omega arith)
    by_up (inl u) d (inr e) = leading_past ds ((whole + 7 + min up far) - min down far) (omega arith) ∙ sym
        (leading_past ds ((whole + 7 + up) - down) (omega arith))
    by_up (inr u) (inl d) (inl e) = same_place (omega arith)
    by_up (inr u) (inl d) (inr e) = absurd (omega arith)
    by_up (inr u) (inr d) e = same_place (omega arith)

-- and so may those of a literal, before the millionths are judged
pub half_up-far : (whole decimals : List ℕ) (up down far : ℕ) → AllDigits 10 (whole ++ decimals)
    → length whole + length decimals + 17 ≤ far → (up ≡ 0) ⊎ (down ≡ 0)
    → min (half_up (digits_value 10 (whole ++ decimals) * 10 ^ (6 + min up far))
    (10 ^ (length decimals + min down far))) 1000000000000001
    ≡ min (half_up (digits_value 10 (whole ++ decimals) * 10 ^ (6 + up)) (10 ^ (length decimals + down)))
    1000000000000001
half_up-far whole decimals up down far digits room one_way =
    let long = length-append whole decimals in
    let near = half_up-scaled whole decimals (min up far) (min down far) digits in
    let exact = half_up-scaled whole decimals up down digits in
    let same = leading-far (whole ++ decimals) (length whole) up down far (omega arith) (omega arith) one_way in
    ap (λ n. min n 1000000000000001) near ∙ sym
    (min-rounded (leading (whole ++ decimals) ((length whole + 7 + min up far) - min down far)))
    ∙ ap (λ n. (n + 5) / 10) same ∙ min-rounded (leading (whole ++ decimals) ((length whole + 7 + up) - down)) ∙ ap
    (λ n. min n 1000000000000001) (sym exact)
