-- The lines that workers have drawn, each once, in the order of their numbers.
use Rattle.std.proofs.Common.{◌≡◌, ℕ, zero, suc, ◌+◌, ◌<◌, ◌≤◌, List, [], ◌∷◌, ◌++◌, length, get_or, take, map, refl, sym, ap, ap₂, subst, ◌∙◌, arith, ℤ, pos, add-zero, All, Contains}
use Rattle.std.specs.Prelude.{sum_by}
use Rattle.std.specs.List.Sorted.{IsPermutation, IsNonDecreasingBy}
use Rattle.std.proofs.lemmas.List.{length-map, get_or-map, map_push, take_more, take_all}
use Rattle.std.proofs.lemmas.List.Sums.{sum_by-cons, sum_by_push}
use Rattle.std.proofs.lemmas.List.Sorted.{IsPermutation-map, All-permutation, sum_by-IsPermutation}
use Rattle.layer_board.specs.Numbers.{below, Rearranged}
use Rattle.layer_board.proofs.Counts.{is, is_same, contains_counted}
use Rattle.plan_support.specs.declared.line.Line.{Line}
use Rattle.plan_support.specs.declared.line.Want.{Want}
use Rattle.plan_support.specs.Rows.{Row}
use Rattle.plan_support.specs.Lines.{HasLine, HasLines}
use Rattle.plan_support.specs.Shares.{IsOwnLine}
use Rattle.plan_support.proofs.LineWork.{lines_start, lines_more}

-- so many numbers from the first on
abbrev from : ℕ → ℕ → List ℕ
from first zero = []
from first (suc n) = first ∷ from (suc first) n

length_from : (first n : ℕ) → length (from first n) ≡ n
length_from first zero = refl
length_from first (suc n) = ap suc (length_from (suc first) n)

get_from : (first n k d : ℕ) → k < n → get_or (from first n) k d ≡ first + k
get_from first zero k d l = absurd (omega (arith, l))
get_from first (suc n) zero d l = sym (add-zero first)
get_from first (suc n) (suc k) d l = let e = get_from (suc first) n k d (omega (arith, l)) in omega (arith, e)

from_more : (weight : ℕ → ℕ) (first n : ℕ)
    → sum_by weight (from first (suc n)) ≡ sum_by weight (from first n) + weight (first + n)
from_more weight first zero =
    let s = sum_by-cons weight first [] in
    let e = ap weight (add-zero first) in
    omega (arith, s, e)
from_more weight first (suc n) =
    let s = sum_by-cons weight first (from (suc first) (suc n)) in
    let t = sum_by-cons weight first (from (suc first) n) in
    let more = from_more weight (suc first) n in
    let same : suc first + n ≡ first + suc n = omega arith in
    let e = ap weight same in
    omega (arith, s, t, more, e)

below_from : (weight : ℕ → ℕ) (n : ℕ) → sum_by weight (below n) ≡ sum_by weight (from 0 n)
below_from weight zero = refl
below_from weight (suc n) =
    let s = sum_by_push weight (below n) n in
    let before = below_from weight n in
    let more = from_more weight 0 n in
    let same : 0 + n ≡ n = omega arith in
    let e = ap weight same in
    omega (arith, s, before, more, e)

-- numbers that don't fall, and are those from the first on, each once, are these in turn
in_turn : (first n : ℕ) (ns : List ℕ)
    → ((i j d : ℕ) → i ≤ j → j < length ns → get_or ns i d ≤ get_or ns j d)
    → Rearranged ns (from first n) → ns ≡ from first n
in_turn first zero [] rises same = refl
in_turn first zero (x ∷ xs) rises same =
    let s = sum_by-cons (λ (_ : ℕ). 1) x xs in
    let e = same (λ _. 1) in
    absurd (omega (arith, s, e))
in_turn first (suc n) [] rises same =
    let s = sum_by-cons (λ (_ : ℕ). 1) first (from (suc first) n) in
    let e = same (λ _. 1) in
    absurd (omega (arith, s, e))
in_turn first (suc n) (x ∷ xs) rises same =
    ap₂ (λ (y : ℕ) (ys : List ℕ). y ∷ ys) is_first
    (in_turn (suc first) n xs (λ i j d p q. rises (suc i) (suc j) d (omega (arith, p)) (omega (arith, q))) rest)
  where
    here : Contains (x ∷ xs) first
    here =
        let e = same (is first) in
        let s = sum_by-cons (is first) first (from (suc first) n) in
        let one = is_same first first refl in
        contains_counted first (x ∷ xs) (omega (arith, e, s, one))

    there : Contains (from first (suc n)) x
    there =
        let e = same (is x) in
        let s = sum_by-cons (is x) x xs in
        let one = is_same x x refl in
        contains_counted x (from first (suc n)) (omega (arith, e, s, one))

    at_most : x ≤ first
    at_most =
        let up : x ≤ get_or (x ∷ xs) here.0 first = rises 0 here.0 first (omega arith) here.1 in
        let e = here.2 in
        omega (arith, up, e)

    at_least : first ≤ x
    at_least =
        let within = there.1 in
        let long = length_from first (suc n) in
        let e = get_from first (suc n) there.0 x (omega (arith, within, long)) in
        let f = there.2 in
        omega (arith, e, f)

    is_first : x ≡ first
    is_first = omega (arith, at_most, at_least)

    rest : Rearranged xs (from (suc first) n)
    rest weight =
        let e = same weight in
        let s = sum_by-cons weight x xs in
        let t = sum_by-cons weight first (from (suc first) n) in
        let f = ap weight is_first in
        omega (arith, e, s, t, f)

-- ---- lines

abbrev number : Line → ℕ
number l = l.number

no_line : Line
no_line = record { number = 0; count = 0; covers = [] }

-- one line more that a worker has worked
pub noted_more : (drawn : List ℕ) (done more : List Line) (line : Line) (n : ℕ)
    → drawn ≡ map (λ (l : Line). l.number) done → line.number ≡ n → more ≡ done ++ line ∷ []
    → drawn ++ n ∷ [] ≡ map (λ (l : Line). l.number) more
noted_more drawn done more line n noted same is =
    ap₂ (λ (xs : List ℕ) (x : ℕ). xs ++ x ∷ []) noted (sym same)
    ∙ sym (map_push number done line) ∙ ap (map number) (sym is)

module _ (layers : List (List Row)) (heights : List ℤ) (want : Want) (lines : List Line)
    (rises : IsNonDecreasingBy (λ (l : Line). l.number) lines)
    (each : Rearranged (map (λ (l : Line). l.number) lines) (below (length heights)))
    (own : All (IsOwnLine layers heights want) lines) where
  numbers : map number lines ≡ from 0 (length heights)
  numbers = in_turn 0 (length heights) (map number lines) (λ i j d p q.
      let long = length-map lines number in
      let l : j < length lines = omega (arith, q, long) in
      let k : i < length lines = omega (arith, p, l) in
      let e = get_or-map number lines i no_line d k in
      let f = get_or-map number lines j no_line d l in
      let up = rises i j no_line p l in
      omega (arith, e, f, up))
      (λ weight. each weight ∙ below_from weight (length heights))

  as_many : length lines ≡ length heights
  as_many = sym (length-map lines number) ∙ ap length numbers ∙ length_from 0 (length heights)

  line_at : (i : ℕ) → i < length heights
      → HasLine layers (get_or heights i (pos 0)) want (get_or lines i no_line)
  line_at i l =
      let long = as_many in
      let line = get_or lines i no_line in
      let inside : i < length lines = omega (arith, l, long) in
      let found = get_or-map number lines i no_line 0 inside in
      let same = ap (λ (ns : List ℕ). get_or ns i 0) numbers in
      let wanted = get_from 0 (length heights) i 0 l in
      let is : line.number ≡ i = omega (arith, found, same, wanted) in
      subst (λ (k : ℕ). HasLine layers (get_or heights k (pos 0)) want line) is
      (own i no_line inside).has

  first_lines : (i : ℕ) → i ≤ length heights
      → HasLines layers (take i heights) want (take i lines)
  first_lines zero l = lines_start layers want
  first_lines (suc i) l =
      let long = as_many in
      let p : i < length heights = omega (arith, l) in
      let q : i < length lines = omega (arith, l, long) in
      let next : i + 1 ≡ suc i = omega arith in
      let y = get_or heights i (pos 0) in
      let line = get_or lines i no_line in
      let before = first_lines i (omega (arith, l)) in
      let more : HasLines layers (take i heights ++ y ∷ []) want (take i lines ++ line ∷ []) =
      lines_more layers want (take i heights) (take i lines) y line before (line_at i p) in
      subst (λ (k : ℕ). HasLines layers (take k heights) want (take k lines)) next
      (subst (λ (ls : List Line). HasLines layers (take (i + 1) heights) want ls)
      (sym (take_more lines i no_line q))
      (subst (λ (ys : List ℤ). HasLines layers ys want (take i lines ++ line ∷ []))
      (sym (take_more heights i (pos 0) p)) more))

  in_order : HasLines layers heights want lines
  in_order =
      let n = length heights in
      let long = as_many in
      subst (λ (ls : List Line). HasLines layers heights want ls)
      (take_all n lines (omega (arith, long)))
      (subst (λ (ys : List ℤ). HasLines layers ys want (take n lines))
      (take_all n heights (omega arith))
      (first_lines n (omega arith)))

-- what the workers have drawn of all lines, sorted
pub sorted_lines : (layers : List (List Row)) (heights : List ℤ) (want : Want) (drawn lines : List Line)
    → Rearranged (map (λ (l : Line). l.number) drawn) (below (length heights))
    → All (IsOwnLine layers heights want) drawn → IsPermutation drawn lines
    → IsNonDecreasingBy (λ (l : Line). l.number) lines → HasLines layers heights want lines
sorted_lines layers heights want drawn lines each own same rises =
    in_order layers heights want lines rises
    (λ weight. sum_by-IsPermutation weight (map number drawn) (map number lines)
    (IsPermutation-map number drawn lines same) ∙ each weight)
    (All-permutation (IsOwnLine layers heights want) drawn lines same own)
