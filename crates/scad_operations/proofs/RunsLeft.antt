-- What `for` and `each` run over.
use Rattle.std.proofs.Common.{◌≡◌, ◌≢◌, ℕ, zero, suc, ◌+◌, ◌-◌, ◌/◌, ◌<◌, ◌≤◌, ◌⊎◌, inl, inr, ℤ, pos, negsuc, neg_ℤ, ◌+ℤ◌, ◌-ℤ◌, ◌<ℤ◌, Bool, true, false, List, [], ◌∷◌, ◌++◌, Some, if◌then◌else◌, Vec, Global, refl, ap, ◌∙◌, arith}
use Rattle.std.specs.declared.rc.Rc.{Rc}
use Rattle.std.specs.Prelude.{int_lt, int_div, unsigned_abs}
use Rattle.std.proofs.lemmas.Int.{ints}
use Rattle.std.proofs.lemmas.Bool.{cases_lt}
use Rattle.scad_num.specs.Number.{most}
use Rattle.std.proofs.Math.Nat.{div-eq_of_lt, div-eq-sub-div, div-zero}
use Rattle.std.proofs.lemmas.List.{map-append}
use Rattle.scad_value.specs.Datum.{number, range}
use Rattle.scad_value.specs.View.{datum_of, elements, data_of}
use Rattle.scad_value.specs.declared.value.Value.{Value}
use Rattle.scad_value.specs.declared.value.Value.{List as ListValue}
use Rattle.scad_value.proofs.Rows.{vector_view}
use Rattle.scad_operations.specs.Runs.{numbers_from, count_up, count_down, count_of_range, items, as_list, is_past, numbers_left}

-- ---- values behind others
pub data-push : (all : List Value) (v : Value) → data_of (all ++ v ∷ []) ≡ data_of all ++ datum_of v ∷ []
data-push all v = map-append datum_of all (v ∷ [])

listed : (all : List Value) → as_list (elements all) ≡ data_of all
listed [] = refl
listed (v ∷ all) = ap (λ l. datum_of v ∷ l) (listed all)

-- the elements of a vector
pub items-vector : (all : Rc (Vec Value Global) Global) → items (datum_of (ListValue all)) ≡ data_of all.value.items
unfolding items
items-vector all = ap items (vector_view all) ∙ listed all.value.items

pub items-range : (a s b : ℤ) → items (range a s b) ≡ numbers_left (Some a) s b
unfolding items
items-range a s b = refl

pub ruleset kinds = (items-vector, items-range, data-push)

-- ---- how many numbers of a range are left
abs-neg : (n : ℕ) → unsigned_abs (neg_ℤ (pos n)) ≡ n
abs-neg zero = refl
abs-neg (suc n) = refl

abs-quotient : (x y : ℤ) → unsigned_abs (int_div x y) ≡ unsigned_abs x / unsigned_abs y
abs-quotient (pos a) (pos b) = refl
abs-quotient (pos a) (negsuc b) = abs-neg (a / suc b)
abs-quotient (negsuc a) (pos b) = abs-neg (suc a / b)
abs-quotient (negsuc a) (negsuc b) = refl

count-past : (n s b : ℤ) → is_past n s b ≡ true → count_of_range n s b ≡ 0
count-past n s b past = by (int_lt s (pos 0)) past
  where
    by : (c : Bool) → (if c then int_lt n b else int_lt b n) ≡ true
        → (if c then count_down n s b else count_up n s b) ≡ 0
    by true e = ap (λ t. if t then 0 else (1 + unsigned_abs (int_div (b -ℤ n) s))) e
    by false e = ap (λ t. if t then 0 else (1 + unsigned_abs (int_div (b -ℤ n) s))) e

count-within : (n s b : ℤ) → is_past n s b ≡ false
    → count_of_range n s b ≡ 1 + unsigned_abs (b -ℤ n) / unsigned_abs s
count-within n s b within = by (int_lt s (pos 0)) within
  where
    by : (c : Bool) → (if c then int_lt n b else int_lt b n) ≡ false
        → (if c then count_down n s b else count_up n s b) ≡ 1 + unsigned_abs (b -ℤ n) / unsigned_abs s
    by true e = ap (λ t. if t then 0 else (1 + unsigned_abs (int_div (b -ℤ n) s))) e ∙ ap (λ q. 1 + q)
        (abs-quotient (b -ℤ n) s)
    by false e = ap (λ t. if t then 0 else (1 + unsigned_abs (int_div (b -ℤ n) s))) e ∙ ap (λ q. 1 + q)
        (abs-quotient (b -ℤ n) s)

-- a step on: past the end where less than a step is left, else a step nearer
step-past : (n s b : ℤ) → is_past n s b ≡ false → unsigned_abs (b -ℤ n) < unsigned_abs s
    → is_past (n +ℤ s) s b ≡ true
step-past n s b within less = by (int_lt s (pos 0)) refl within
  where
    by : (c : Bool) → int_lt s (pos 0) ≡ c → (if c then int_lt n b else int_lt b n) ≡ false
        → (if c then int_lt (n +ℤ s) b else int_lt b (n +ℤ s)) ≡ true
    by true e w = grind (arith, ints)
    by false e w = grind (arith, ints)

step-within : (n s b : ℤ) → is_past n s b ≡ false → unsigned_abs s ≤ unsigned_abs (b -ℤ n)
    → is_past (n +ℤ s) s b ≡ false
step-within n s b within more = by (int_lt s (pos 0)) refl within
  where
    by : (c : Bool) → int_lt s (pos 0) ≡ c → (if c then int_lt n b else int_lt b n) ≡ false
        → (if c then int_lt (n +ℤ s) b else int_lt b (n +ℤ s)) ≡ false
    by true e w = grind (arith, ints)
    by false e w = grind (arith, ints)

step-nearer : (n s b : ℤ) → is_past n s b ≡ false → unsigned_abs s ≤ unsigned_abs (b -ℤ n)
    → unsigned_abs (b -ℤ (n +ℤ s)) ≡ unsigned_abs (b -ℤ n) - unsigned_abs s
step-nearer n s b within more = by (int_lt s (pos 0)) refl within
  where
    by : (c : Bool) → int_lt s (pos 0) ≡ c → (if c then int_lt n b else int_lt b n) ≡ false
        → unsigned_abs (b -ℤ (n +ℤ s)) ≡ unsigned_abs (b -ℤ n) - unsigned_abs s
    by true e w = grind (arith, ints)
    by false e w = grind (arith, ints)

-- a number that is out of range is past the end
pub low-past : (n s b : ℤ) → is_past n s b ≡ false → unsigned_abs n ≤ most → unsigned_abs b ≤ most
    → (n +ℤ s) <ℤ negsuc 999999999999999 → is_past (n +ℤ s) s b ≡ true
low-past n s b within in_n in_b low = by (int_lt s (pos 0)) refl within
  where
    by : (c : Bool) → int_lt s (pos 0) ≡ c → (if c then int_lt n b else int_lt b n) ≡ false
        → (if c then int_lt (n +ℤ s) b else int_lt b (n +ℤ s)) ≡ true
    by true e w = grind (arith, ints)
    by false e w = grind (arith, ints)

pub high-past : (n s b : ℤ) → is_past n s b ≡ false → unsigned_abs n ≤ most → unsigned_abs b ≤ most
    → pos most <ℤ (n +ℤ s) → is_past (n +ℤ s) s b ≡ true
high-past n s b within in_n in_b high = by (int_lt s (pos 0)) refl within
  where
    by : (c : Bool) → int_lt s (pos 0) ≡ c → (if c then int_lt n b else int_lt b n) ≡ false
        → (if c then int_lt (n +ℤ s) b else int_lt b (n +ℤ s)) ≡ true
    by true e w = grind (arith, ints)
    by false e w = grind (arith, ints)

abs-some : (z : ℤ) → z ≢ pos 0 → 0 < unsigned_abs z
abs-some (pos zero) h = absurd (h refl)
abs-some (pos (suc k)) h = omega arith
abs-some (negsuc k) h = omega arith

from-count : (n s : ℤ) (k c : ℕ) → c ≡ suc k → numbers_from n s c ≡ number n ∷ numbers_from (n +ℤ s) s k
from-count n s k c e = ap (numbers_from n s) e

-- nothing is left past the end
pub left-past : (n s b : ℤ) → is_past n s b ≡ true → numbers_left (Some n) s b ≡ []
left-past n s b past = ap (numbers_from n s) (count-past n s b past)

-- a step on the same is left but for the first number
pub left-next : (n s b : ℤ) → is_past n s b ≡ false → s ≢ pos 0
    → numbers_left (Some n) s b ≡ number n ∷ numbers_left
    (Some (n +ℤ s)) s b
left-next n s b within some = from-count n s (count_of_range (n +ℤ s) s b) (count_of_range n s b)
    (count-within n s b within ∙ by (cases_lt (unsigned_abs (b -ℤ n)) (unsigned_abs s)))
  where
    by : (unsigned_abs (b -ℤ n) < unsigned_abs s) ⊎ (unsigned_abs s ≤ unsigned_abs (b -ℤ n))
        → 1 + unsigned_abs (b -ℤ n) / unsigned_abs s ≡ suc (count_of_range (n +ℤ s) s b)
    by (inl less) =
        let none = count-past (n +ℤ s) s b (step-past n s b within less) in
        let quotient = div-eq_of_lt less in
        omega (arith, none, quotient)
    by (inr more) =
        let rest = count-within (n +ℤ s) s b (step-within n s b within more) ∙ ap (λ d. 1 + d / unsigned_abs s)
        (step-nearer n s b within more) in
        let quotient = div-eq-sub-div (abs-some s some) more in
        omega (arith, rest, quotient)

-- it is the last one where a step on is past the end, or there is no step
pub left-last : (n s b : ℤ) → is_past n s b ≡ false → is_past (n +ℤ s) s b ≡ true → s ≢ pos 0
    → numbers_left (Some n) s b ≡ number n ∷ []
left-last n s b within past some = left-next n s b within some
    ∙ ap (λ l. number n ∷ l) (left-past (n +ℤ s) s b past)

pub left-alone : (n s b : ℤ) → is_past n s b ≡ false → s ≡ pos 0
    → numbers_left (Some n) s b ≡ number n ∷ []
left-alone n s b within none =
    let count : count_of_range n s b ≡ suc 0 = count-within n s b within ∙ ap (λ k. 1 + unsigned_abs (b -ℤ n) /
    unsigned_abs k) none ∙ ap (λ q. 1 + q) (div-zero (unsigned_abs (b -ℤ n))) in
    from-count n s 0 (count_of_range n s b) count

pub ruleset past_end = (left-past)
