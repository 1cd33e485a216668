-- Values at the places of listed names.
use Rattle.std.proofs.Common.{◌≡◌, ℕ, zero, suc, ◌+◌, ◌<◌, ◌≤◌, Bool, true, false, List, [], ◌∷◌, ◌++◌, map, length, drop, get_or, Option, Some, None, if◌then◌else◌, refl, sym, ap, ap₂, ◌∙◌, arith}
use Rattle.std.specs.Prelude.{nat_eq}
use Rattle.std.specs.List.{range_with_len}
use Rattle.std.specs.Cmp.Lexicographic.{bytes_decides}
use Rattle.std.proofs.lemmas.Bool.{false_from_ne_true, false≢true, eq-eqb, eqb-true}
use Rattle.std.proofs.lemmas.List.{drop_more, drop_all, map-append}
use Rattle.std.proofs.lemmas.List.Quantifiers.{position-Some}
use Rattle.std.proofs.lemmas.Option.{none-some}
use Rattle.scad_value.specs.declared.value.Value.{Value}
use Rattle.scad_scope.specs.Listing.{Listing, place_of, name_at}
use Rattle.scad_scope.specs.Names.{is_same_name, place_in}
use Rattle.scad_scope.specs.ListedValues.{ArePlaces, name_placed, number_in, place_in_entry}

-- ---- names and their places
pub place-name : (name : List ℕ) (l : Listing) (p : ℕ) → place_of name l ≡ Some p → name ≡ name_at l p
place-name name l p is =
    (bytes_decides name (name_at l p)).0 (position-Some (is_same_name name) l p [] is).1

pub place-itself : (name : List ℕ) (l : Listing) (p : ℕ) → place_of name l ≡ Some p
    → place_of (name_at l p) l ≡ Some p
place-itself name l p is = ap (λ n. place_of n l) (sym (place-name name l p is)) ∙ is

abbrev or_zero : Option ℕ → ℕ
or_zero None = 0
or_zero (Some n) = n

-- a name is that of a place exactly where it has this place
same-place : (name : List ℕ) (l : Listing) (p q : ℕ) → place_of name l ≡ Some p
    → place_of (name_at l q) l ≡ Some q → is_same_name name (name_at l q) ≡ nat_eq p q
same-place name l p q is there = by (is_same_name name (name_at l q)) refl (nat_eq p q) refl
  where
    by : (b : Bool) → is_same_name name (name_at l q) ≡ b → (c : Bool) → nat_eq p q ≡ c → b ≡ c
    by true e true f = refl
    by true e false f =
        let one : Some p ≡ Some q = sym is ∙ ap (λ n. place_of n l) ((bytes_decides name (name_at l q)).0 e) ∙ there in
        absurd (false≢true (sym f ∙ eq-eqb p q (ap or_zero one)))
    by false e true f =
        let same : name ≡ name_at l q = place-name name l p is ∙ ap (name_at l) (eqb-true p q f) in
        absurd (false≢true (sym e ∙ (bytes_decides name (name_at l q)).1 same))
    by false e false f = refl

-- ---- entries
pub first : (l : Listing) (q : ℕ) (qs : List ℕ) → ArePlaces l (q ∷ qs) → place_of (name_at l q) l ≡ Some q
first l q qs are = ap (λ os. get_or os 0 None) are

pub others : (l : Listing) (q : ℕ) (qs : List ℕ) → ArePlaces l (q ∷ qs) → ArePlaces l qs
others l q qs are = ap (drop 1) are

-- a listed name stands where its place does
pub place-number : (name : List ℕ) (l : Listing) (p : ℕ) (es : List (ℕ × Value)) → ArePlaces l (map place_in_entry es)
    → place_of name l ≡ Some p
    → number_in p (map place_in_entry es) ≡ place_in name (map (name_placed l) es)
place-number name l p [] are is = refl
place-number name l p (e ∷ es) are is =
    let qs = map place_in_entry es in
    ap₂ (λ b n. if b then 0 else suc n) (sym (same-place name l p e.0 is (first l e.0 qs are)))
    (place-number name l p es (others l e.0 qs are) is)

-- another name doesn't stand there
pub place-unlisted : (name : List ℕ) (l : Listing) (es : List (ℕ × Value)) → ArePlaces l (map place_in_entry es)
    → place_of name l ≡ None → length (map (name_placed l) es) ≤ place_in name (map (name_placed l) es)
place-unlisted name l [] are is = omega arith
place-unlisted name l (e ∷ es) are is =
    let qs = map place_in_entry es in
    by (place-unlisted name l es (others l e.0 qs are) is) (is_same_name name (name_at l e.0)) refl
  where
    by : length (map (name_placed l) es) ≤ place_in name (map (name_placed l) es) → (b : Bool)
        → is_same_name name (name_at l e.0) ≡ b → length (name_placed l e ∷ map (name_placed l) es)
        ≤ (if b then 0 else suc (place_in name (map (name_placed l) es)))
    by rest true same =
        absurd (none-some e.0 (sym is ∙ ap (λ n. place_of n l) ((bytes_decides name (name_at l e.0)).0 same)
        ∙ first l e.0 (map place_in_entry es) are))
    by rest false same = omega (arith, rest)

-- ---- places in their order
differ : (p a : ℕ) → a < p → nat_eq p a ≡ false
differ p a low = false_from_ne_true (nat_eq p a) (λ e. let same = eqb-true p a e in let no : ⊥ = omega (arith, low, same) in no)

number-after : (a k n : ℕ) → k < n → number_in (a + k) (range_with_len a n) ≡ k
number-after a k zero low = absurd (omega (arith, low))
number-after a zero (suc n) low =
    ap (λ b. if b then 0 else suc (number_in (a + 0) (range_with_len (a + 1) n))) (eq-eqb (a + 0) a (omega arith))
number-after a (suc k) (suc n) low =
    ap (λ b. if b then 0 else suc (number_in (a + suc k) (range_with_len (a + 1) n))) (differ (a + suc k) a (omega arith))
    ∙ ap suc (ap (λ m. number_in m (range_with_len (a + 1) n)) (let e : a + suc k ≡ a + 1 + k = omega arith in e)
    ∙ number-after (a + 1) k n (omega (arith, low)))

number-beyond : (p a n : ℕ) → a + n ≤ p → number_in p (range_with_len a n) ≡ n
number-beyond p a zero past = refl
number-beyond p a (suc n) past =
    ap (λ b. if b then 0 else suc (number_in p (range_with_len (a + 1) n))) (differ p a (omega (arith, past)))
    ∙ ap suc (number-beyond p (a + 1) n (omega (arith, past)))

pub number-there : (p n : ℕ) (qs : List ℕ) → qs ≡ range_with_len 0 n → p < n → p ≡ number_in p qs
number-there p n qs are low =
    sym (ap (number_in p) are ∙ ap (λ m. number_in m (range_with_len 0 n)) (let e : p ≡ 0 + p = omega arith in e)
    ∙ number-after 0 p n low)

pub number-past : (p n : ℕ) (qs : List ℕ) → qs ≡ range_with_len 0 n → n ≤ p → n ≡ number_in p qs
number-past p n qs are past = sym (ap (number_in p) are ∙ number-beyond p 0 n (omega (arith, past)))

range-last : (a n : ℕ) → range_with_len a n ++ (a + n) ∷ [] ≡ range_with_len a (suc n)
range-last a zero = ap (λ m. m ∷ []) (let e : a + 0 ≡ a = omega arith in e)
range-last a (suc n) =
    ap (λ m. a ∷ range_with_len (a + 1) n ++ m ∷ []) (let e : a + suc n ≡ a + 1 + n = omega arith in e)
    ∙ ap (λ l. a ∷ l) (range-last (a + 1) n)

-- ---- an entry more
pub places-push : (l : Listing) (es : List (ℕ × Value)) (p : ℕ) (v : Value) → ArePlaces l (map place_in_entry es)
    → place_of (name_at l p) l ≡ Some p → ArePlaces l (map place_in_entry (es ++ (p, v) ∷ []))
places-push l es p v are is =
    let place_at : ℕ → Option ℕ = λ q. place_of (name_at l q) l in
    let qs = map place_in_entry es in
    let parts = map-append place_in_entry es ((p, v) ∷ []) in
    ap (map place_at) parts ∙ map-append place_at qs (p ∷ [])
    ∙ ap₂ (λ os o. os ++ o ∷ []) are is
    ∙ sym (map-append (λ q. Some q) qs (p ∷ [])) ∙ sym (ap (map (λ q. Some q)) parts)

pub order-push : (es : List (ℕ × Value)) (p n m : ℕ) (v : Value) → map place_in_entry es ≡ range_with_len 0 n → p ≡ n
    → m ≡ n + 1 → map place_in_entry (es ++ (p, v) ∷ []) ≡ range_with_len 0 m
order-push es p n m v are last more =
    map-append place_in_entry es ((p, v) ∷ [])
    ∙ ap₂ (λ qs q. qs ++ q ∷ []) are (let e : p ≡ 0 + n = omega (arith, last) in e)
    ∙ range-last 0 n ∙ ap (range_with_len 0) (let e : suc n ≡ m = omega (arith, more) in e)

-- ---- the search
next : (p : ℕ) (all : List (ℕ × Value)) (i : ℕ) (e : ℕ × Value) → i < length all → e ≡ get_or all i e
    → number_in p (map place_in_entry (drop i all))
    ≡ (if nat_eq p e.0 then 0 else suc (number_in p (map place_in_entry (drop (i + 1) all))))
next p all i e below is =
    ap (λ l. number_in p (map place_in_entry l)) (drop_more all i e below)
    ∙ ap (λ f. number_in p (place_in_entry f ∷ map place_in_entry (drop (i + 1) all))) (sym is)

pub number-here : (p : ℕ) (all : List (ℕ × Value)) (i : ℕ) (e : ℕ × Value) → i < length all → e ≡ get_or all i e
    → e.0 ≡ p → number_in p (map place_in_entry (drop i all)) ≡ 0
number-here p all i e below is same =
    next p all i e below is
    ∙ ap (λ b. if b then 0 else suc (number_in p (map place_in_entry (drop (i + 1) all)))) (eq-eqb p e.0 (sym same))

pub number-other : (p : ℕ) (all : List (ℕ × Value)) (i : ℕ) (e : ℕ × Value) → i < length all → e ≡ get_or all i e
    → (e.0 ≡ p → ⊥) → number_in p (map place_in_entry (drop i all))
    ≡ suc (number_in p (map place_in_entry (drop (i + 1) all)))
number-other p all i e below is other =
    next p all i e below is
    ∙ ap (λ b. if b then 0 else suc (number_in p (map place_in_entry (drop (i + 1) all))))
    (false_from_ne_true (nat_eq p e.0) (λ f. other (sym (eqb-true p e.0 f))))

pub number-none : (p : ℕ) (all : List (ℕ × Value)) (i : ℕ) → length all ≤ i
    → number_in p (map place_in_entry (drop i all)) ≡ 0
number-none p all i past = ap (λ l. number_in p (map place_in_entry l)) (drop_all i all past)
