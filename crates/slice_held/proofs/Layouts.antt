-- The value of a shape's first cell is the shape's, where the counts of operations are right.
use Rattle.std.proofs.Common.{◌⊎◌, inl, inr, ◌≡◌, ◌≢◌, ℕ, zero, suc, ◌+◌, ◌-◌, ◌<◌, ◌≤◌, Bool, true, false, not, ◌&&◌, ◌||◌, List, [], ◌∷◌, ◌++◌, length, map, drop, refl, sym, ap, ap₂, ◌∙◌, subst, arith}
use Rattle.std.specs.Prelude.{count_by, ◌==◌, if◌then◌else◌}
use Rattle.std.specs.List.{AllByRecursion}
use Rattle.std.proofs.lemmas.List.{length-append, length-map}
use Rattle.std.proofs.lemmas.List.Sums.{sum_by-cons, sum_by-append}
use Rattle.scad_geom.specs.declared.shape.Shape.{Shape, Empty, Leaf, Union', Inter', Diff', Row_of-Shape, end_of-Shape, more_of-Shape}
use Rattle.scad_geom.specs.Shape.{shape_holds, some_hold, all_hold, has_member}
use Rattle.scad_geom.proofs.Order.{front, back}
use Rattle.slice_held.specs.declared.cell.Cell.{Cell}
use Rattle.slice_held.specs.Cells.{cell_at, bare, holds, is_told, tells, told}
use Rattle.slice_held.specs.Layout.{blank, cells_of, cells_of_row}
use Rattle.slice_held.proofs.Counting.{once, none_told, told_parent}

-- ---- what holds of all cells of a list
all_more : {P Q : Cell → Type 0} → ((c : Cell) → P c → Q c) → (xs : List Cell) → AllByRecursion P xs
    → AllByRecursion Q xs
all_more f [] h = tt
all_more f (x ∷ xs) h = (f x h.0, all_more f xs h.1)

pub all_append : (P : Cell → Type 0) (xs ys : List Cell) → AllByRecursion P xs → AllByRecursion P ys
    → AllByRecursion P (xs ++ ys)
all_append P [] ys h k = k
all_append P (x ∷ xs) ys h k = (h.0, all_append P xs ys h.1 k)

-- the operation is this one, or one within these numbers
abbrev IsUnder : ℕ → ℕ → ℕ → Cell → Type 0
IsUnder p lo hi c = (c.parent ≡ p) ⊎ ((lo < c.parent) × (c.parent ≤ hi))

abbrev IsDeep : ℕ → ℕ → Cell → Type 0
IsDeep lo hi c = (lo < c.parent) × (c.parent ≤ hi)

under_bare : (p lo hi : ℕ) (xs : List Cell) → AllByRecursion (IsUnder p lo hi) (map bare xs) → AllByRecursion
    (IsUnder p lo hi) xs
under_bare p lo hi [] h = tt
under_bare p lo hi (x ∷ xs) h = (h.0, under_bare p lo hi xs h.1)

deep_bare : (lo hi : ℕ) (xs : List Cell) → AllByRecursion (IsDeep lo hi) (map bare xs) → AllByRecursion
    (IsDeep lo hi) xs
deep_bare lo hi [] h = tt
deep_bare lo hi (x ∷ xs) h = (h.0, deep_bare lo hi xs h.1)

wider : (p lo hi low high : ℕ) → low ≤ lo → hi ≤ high → (c : Cell) → IsUnder p lo hi c → IsUnder p low high c
wider p lo hi low high l m c (inl e) = inl e
wider p lo hi low high l m c (inr h) = inr (below lo low c.parent l h.0, above hi high c.parent m h.1)
  where
    below : (lo low n : ℕ) → low ≤ lo → lo < n → low < n
    below lo low n l h = omega arith

    above : (hi high n : ℕ) → hi ≤ high → n ≤ hi → n ≤ high
    above hi high n m h = omega arith

deeper : (at hi high : ℕ) → at + 1 ≤ high → hi ≤ high → (c : Cell) → IsUnder (at + 1) (at + 1) hi c → IsDeep at high c
deeper at hi high l m c (inl e) = (first at c.parent e, last at high c.parent l e)
  where
    first : (at n : ℕ) → n ≡ at + 1 → at < n
    first at n e = omega arith

    last : (at high n : ℕ) → at + 1 ≤ high → n ≡ at + 1 → n ≤ high
    last at high n l e = omega arith
deeper at hi high l m c (inr h) = (below at c.parent h.0, above hi high c.parent m h.1)
  where
    below : (at n : ℕ) → at + 1 < n → at < n
    below at n h = omega arith

    above : (hi high n : ℕ) → hi ≤ high → n ≤ hi → n ≤ high
    above hi high n m h = omega arith

up_from : (p lo hi : ℕ) (c : Cell) → IsDeep lo hi c → IsUnder p lo hi c
up_from p lo hi c h = inr h

one_longer : (at n : ℕ) → at + 1 + n ≤ at + suc n
one_longer at n = omega arith

some_longer : (at n : ℕ) → at + 1 ≤ at + suc n
some_longer at n = omega arith

no_less : (at : ℕ) → at ≤ at
no_less at = omega arith

not_less : (at n : ℕ) → at ≤ at + n
not_less at n = omega arith

sum_longer : (at m n k : ℕ) → k ≡ m + n → at + m ≤ at + k
sum_longer at m n k e = omega arith

sum_reaches : (at m n k : ℕ) → k ≡ m + n → at + m + n ≤ at + k
sum_reaches at m n k e = omega arith

-- ---- where the cells of a shape stand
pub cells_more : (p : ℕ) (r : Bool) (at : ℕ) (s : Shape) → cells_of p r at s ≡ cell_at
    (cells_of p r at s) 0 ∷ drop 1 (cells_of p r at s)
cells_more p r at Empty = refl
cells_more p r at (Leaf leaf) = refl
cells_more p r at (Union' list members) = refl
cells_more p r at (Inter' list members) = refl
cells_more p r at (Diff' box first list rest) = refl

own_parent : (p : ℕ) (r : Bool) (at : ℕ) (s : Shape) → (cell_at (cells_of p r at s) 0).parent ≡ p
own_parent p r at Empty = refl
own_parent p r at (Leaf leaf) = refl
own_parent p r at (Union' list members) = refl
own_parent p r at (Inter' list members) = refl
own_parent p r at (Diff' box first list rest) = refl

own_raises : (p : ℕ) (r : Bool) (at : ℕ) (s : Shape) → (cell_at (cells_of p r at s) 0).raises ≡ r
own_raises p r at Empty = refl
own_raises p r at (Leaf leaf) = refl
own_raises p r at (Union' list members) = refl
own_raises p r at (Inter' list members) = refl
own_raises p r at (Diff' box first list rest) = refl

under_by : (p : ℕ) (r : Bool) (at : ℕ) (s : Shape)
    → AllByRecursion (IsDeep at (at + length (cells_of p r at s))) (drop 1 (cells_of p r at s))
    → AllByRecursion (IsUnder p at (at + length (cells_of p r at s))) (cells_of p r at s)
under_by p r at s h =
    let all : List Cell = cells_of p r at s in
    subst (AllByRecursion (IsUnder p at (at + length all))) (sym (cells_more p r at s))
    (inl (own_parent p r at s), all_more (up_from p at (at + length all)) (drop 1 all) h)

both_under : (p at : ℕ) (firsts rests : List Cell) → AllByRecursion (IsUnder p at (at + length firsts)) firsts
    → AllByRecursion (IsUnder p (at + length firsts) (at + length firsts + length rests)) rests
    → AllByRecursion (IsUnder p at (at + length (firsts ++ rests))) (firsts ++ rests)
both_under p at firsts rests h k =
    let n : length (firsts ++ rests) ≡ length firsts + length rests = length-append firsts rests in
    all_append (IsUnder p at (at + length (firsts ++ rests))) firsts rests
    (all_more (wider p at (at + length firsts) at (at + length (firsts ++ rests)) (no_less at)
    (sum_longer at (length firsts) (length rests) (length (firsts ++ rests)) n)) firsts h)
    (all_more (wider p (at + length firsts) (at + length firsts + length rests) at (at + length (firsts ++ rests))
    (not_less at (length firsts)) (sum_reaches at (length firsts) (length rests) (length (firsts ++ rests)) n)) rests k)

row_deep : (at : ℕ) (row : List Cell) → AllByRecursion (IsUnder (at + 1) (at + 1) (at + 1 + length row)) row
    → AllByRecursion (IsDeep at (at + suc (length row))) row
row_deep at row h = all_more (deeper at (at + 1 + length row) (at + suc (length row)) (some_longer at (length row))
    (one_longer at (length row))) row h

mutual
  inner : (p : ℕ) (r : Bool) (at : ℕ) (s : Shape)
      → AllByRecursion (IsDeep at (at + length (cells_of p r at s))) (drop 1 (cells_of p r at s))
  inner p r at Empty = tt
  inner p r at (Leaf leaf) = tt
  inner p r at (Union' list members) = row_deep at (cells_of_row (at + 1) true (at + 1) members)
      (under_row (at + 1) true (at + 1) members)
  inner p r at (Inter' list members) = row_deep at (cells_of_row (at + 1) false (at + 1) members)
      (under_row (at + 1) false (at + 1) members)
  inner p r at (Diff' box first list rest) =
      let firsts : List Cell = cells_of (at + 1) false (at + 1) first in
      let rests : List Cell = cells_of_row (at + 1) true (at + 1 + length firsts) rest in
      row_deep at (firsts ++ rests) (both_under (at + 1) (at + 1) firsts rests
      (under_by (at + 1) false (at + 1) first (inner (at + 1) false (at + 1) first))
      (under_row (at + 1) true (at + 1 + length firsts) rest))

  under_row : (p : ℕ) (r : Bool) (at : ℕ) {m : _} (members : Row_of-Shape m)
      → AllByRecursion (IsUnder p at (at + length (cells_of_row p r at members))) (cells_of_row p r at members)
  under_row p r at end_of-Shape = tt
  under_row p r at (more_of-Shape member rest) =
      both_under p at (cells_of p r at member) (cells_of_row p r (at + length (cells_of p r at member)) rest)
      (under_by p r at member (inner p r at member)) (under_row p r (at + length (cells_of p r at member)) rest)

under : (p : ℕ) (r : Bool) (at : ℕ) (s : Shape) → AllByRecursion (IsUnder p at (at + length (cells_of p r at s)))
    (cells_of p r at s)
under p r at s = under_by p r at s (inner p r at s)

-- ---- counts over parts of a list
count-cons : (i : ℕ) (x : Cell) (xs : List Cell) → count_by (tells i) (x ∷ xs) ≡ once (tells i x) + count_by
    (tells i) xs
count-cons i x xs = sum_by-cons (λ z. once (tells i z)) x xs

pub count-append : (i : ℕ) (xs ys : List Cell) → count_by (tells i) (xs ++ ys) ≡ count_by (tells i) xs + count_by
    (tells i) ys
count-append i xs ys = sum_by-append (λ z. once (tells i z)) xs ys

zero_plus : (m n : ℕ) → m ≡ 0 → m + n ≡ n
zero_plus m n e = omega arith

plus_zero : (m n : ℕ) → n ≡ 0 → m + n ≡ m
plus_zero m n e = omega arith

none_counted : (i : ℕ) (xs : List Cell) → AllByRecursion (λ c. c.parent ≢ i + 1) xs → count_by (tells i) xs ≡ 0
none_counted i [] h = refl
none_counted i (x ∷ xs) h = count-cons i x xs ∙ zero_plus (once (tells i x)) (count_by (tells i) xs) (none_told x i h.0)
    ∙ none_counted i xs h.1

-- the counts of the operations of a part, which stands from a number on, are right within it
abbrev pub AreRight : ℕ → List Cell → Type 0
AreRight at xs = (j : ℕ) → j < length xs → (cell_at xs j).leaf ≡ 0 → (cell_at xs j).count ≡ count_by (tells (at + j)) xs

abbrev pub IsLeafBy : (ℕ → Bool) → Cell → Type 0
IsLeafBy f c = (leaf : ℕ) → c.leaf ≡ leaf + 1 → holds c ≡ f leaf

right_rest : (at : ℕ) (c : Cell) (xs : List Cell) → c.parent ≤ at → AreRight at (c ∷ xs) → AreRight (at + 1) xs
right_rest at c xs p h j l leaf =
    h (suc j) (more j (length xs) l) leaf ∙ count-cons (at + suc j) c xs
    ∙ zero_plus (once (tells (at + suc j) c)) (count_by (tells (at + suc j)) xs) (none_told c (at + suc j)
    (apart c.parent at j p))
    ∙ ap (λ (i : ℕ). count_by (tells i) xs) (next at j)
  where
    more : (j n : ℕ) → j < n → suc j < suc n
    more j n l = omega arith

    apart : (p at j : ℕ) → p ≤ at → p ≢ at + suc j + 1
    apart p at j l e = omega arith

    next : (at j : ℕ) → at + suc j ≡ at + 1 + j
    next at j = omega arith

in_front : (xs ys : List Cell) (j : ℕ) → j < length xs → cell_at (xs ++ ys) j ≡ cell_at xs j
in_front [] ys j l = absurd (omega arith)
in_front (x ∷ xs) ys zero l = refl
in_front (x ∷ xs) ys (suc j) l = in_front xs ys j (omega arith)

in_back : (xs ys : List Cell) (j : ℕ) → cell_at (xs ++ ys) (length xs + j) ≡ cell_at ys j
in_back [] ys j = ap (cell_at ys) (zero_plus 0 j refl)
in_back (x ∷ xs) ys j = ap (cell_at (x ∷ (xs ++ ys))) (one_on (length xs) j) ∙ in_back xs ys j
  where
    one_on : (n j : ℕ) → suc n + j ≡ suc (n + j)
    one_on n j = omega arith

right_front : (at : ℕ) (xs ys : List Cell) → ((j : ℕ) → j < length xs → AllByRecursion (λ c. c.parent ≢ at + j + 1) ys)
    → AreRight at (xs ++ ys) → AreRight at xs
right_front at xs ys none h j l leaf =
    ap (λ (c : Cell). c.count) (sym (in_front xs ys j l))
    ∙ h j (reach j (length xs) (length ys) (length (xs ++ ys)) (length-append xs ys) l) (ap (λ (c : Cell). c.leaf)
    (in_front xs ys j l) ∙ leaf)
    ∙ count-append (at + j) xs ys
    ∙ plus_zero (count_by (tells (at + j)) xs) (count_by (tells (at + j)) ys) (none_counted (at + j) ys (none j l))
  where
    reach : (j m n k : ℕ) → k ≡ m + n → j < m → j < k
    reach j m n k e l = omega arith

right_back : (at : ℕ) (xs ys : List Cell) → ((j : ℕ) → AllByRecursion (λ c. c.parent ≢ at + length xs + j + 1) xs)
    → AreRight at (xs ++ ys) → AreRight (at + length xs) ys
right_back at xs ys none h j l leaf =
    ap (λ (c : Cell). c.count) (sym (in_back xs ys j))
    ∙ h (length xs + j) (reach j (length xs) (length ys) (length (xs ++ ys)) (length-append xs ys) l)
    (ap (λ (c : Cell). c.leaf) (in_back xs ys j) ∙ leaf)
    ∙ ap (λ (i : ℕ). count_by (tells i) (xs ++ ys)) (grouped at (length xs) j)
    ∙ count-append (at + length xs + j) xs ys
    ∙ zero_plus (count_by (tells (at + length xs + j)) xs) (count_by (tells (at + length xs + j)) ys) (none_counted
    (at + length xs + j) xs (none j))
  where
    reach : (j m n k : ℕ) → k ≡ m + n → j < n → m + j < k
    reach j m n k e l = omega arith

    grouped : (at m j : ℕ) → at + (m + j) ≡ at + m + j
    grouped at m j = omega arith

-- ---- a list whose bare cells are those of two parts
record Parts (xs ps bs : List Cell) : Type 0 where
  pub fronts : List Cell
  pub backs : List Cell
  pub whole : xs ≡ fronts ++ backs
  pub front_is : map bare fronts ≡ ps
  pub back_is : map bare backs ≡ bs

no_empty : (x : Cell) (xs : List Cell) → [] ≡ x ∷ xs → ⊥
no_empty x xs e = let n : 0 ≡ suc (length xs) = ap length e in omega (arith, n)

is_empty : (xs : List Cell) → map bare xs ≡ [] → xs ≡ []
is_empty [] e = refl
is_empty (x ∷ xs) e = absurd (no_empty (bare x) (map bare xs) (sym e))

parts : (ps bs xs : List Cell) → map bare xs ≡ ps ++ bs → Parts xs ps bs
parts [] bs xs e = record { fronts = []; backs = xs; whole = refl; front_is = refl; back_is = e }
parts (a ∷ ps) bs [] e = absurd (no_empty a (ps ++ bs) e)
parts (a ∷ ps) bs (x ∷ xs) e =
    let p : Parts xs ps bs = parts ps bs xs (ap (drop 1) e) in
    record {
      fronts = x ∷ p.fronts;
      backs = p.backs;
      whole = ap (λ (cs : List Cell). x ∷ cs) p.whole;
      front_is = ap₂ (λ (c : Cell) (cs : List Cell). c ∷ cs) (ap (λ (cs : List Cell). cell_at cs 0) e) p.front_is;
      back_is = p.back_is;
    }

-- ---- values by counts
abbrev value_told : Bool → Bool → Bool
value_told raises b = if raises then b else not b

abbrev row_told : {m : _} → (ℕ → Bool) → Bool → Row_of-Shape m → ℕ
row_told f r end_of-Shape = 0
row_told f r (more_of-Shape member rest) = once (value_told r (shape_holds f member)) + row_told f r rest

once_or : (b : Bool) (n : ℕ) (c : Bool) → not (n == 0) ≡ c → not ((once b + n) == 0) ≡ (b || c)
once_or true n c e = some n
  where
    some : (n : ℕ) → not ((1 + n) == 0) ≡ true
    some n = grind arith
once_or false n c e = ap (λ (k : ℕ). not (k == 0)) (zero_plus 0 n refl) ∙ e

once_and : (b : Bool) (n : ℕ) (c : Bool) → (n == 0) ≡ c → ((once (not b) + n) == 0) ≡ (b && c)
once_and false n c e = none n
  where
    none : (n : ℕ) → ((1 + n) == 0) ≡ false
    none n = grind arith
once_and true n c e = ap (λ (k : ℕ). k == 0) (zero_plus 0 n refl) ∙ e

some_by : (f : ℕ → Bool) {m : _} (members : Row_of-Shape m) → not (row_told f true members == 0) ≡ some_hold f members
some_by f end_of-Shape = refl
some_by f (more_of-Shape member rest) = once_or (shape_holds f member) (row_told f true rest) (some_hold f rest)
    (some_by f rest)

all_by : (f : ℕ → Bool) {m : _} (members : Row_of-Shape m) → (row_told f false members == 0) ≡ all_hold f members
all_by f end_of-Shape = refl
all_by f (more_of-Shape member rest) = once_and (shape_holds f member) (row_told f false rest) (all_hold f rest)
    (all_by f rest)

inter_by : (f : ℕ → Bool) {m : _} (members : Row_of-Shape m)
    → (if not (has_member members) then not (row_told f false members == 0) else (row_told f false members == 0))
    ≡ (has_member members && all_hold f members)
inter_by f end_of-Shape = refl
inter_by f (more_of-Shape member rest) = all_by f (more_of-Shape member rest)

not_not : (b c : Bool) → not b ≡ c → b ≡ not c
not_not b c e = grind arith

by_any : (c : Cell) (any : Bool) (n : ℕ) → c.any ≡ any → c.count ≡ n → holds c ≡ (if any then not (n == 0) else
    (n == 0))
by_any c any n e f = ap₂ (λ (a : Bool) (n : ℕ). if a then not (n == 0) else (n == 0)) e f

-- ---- a part that begins with the cells of a shape
record Begins (f : ℕ → Bool) (q : ℕ) (r : Bool) (at i : ℕ) (s : Shape) (bs xs : List Cell) : Type 0 where
  pub head : Cell
  pub tail : List Cell
  pub backs : List Cell
  pub front_is : map bare (head ∷ tail) ≡ cells_of q r at s
  pub back_is : map bare backs ≡ bs
  pub front_right : AreRight at (head ∷ tail)
  pub back_right : AreRight (at + length (cells_of q r at s)) backs
  pub front_by : AllByRecursion (IsLeafBy f) (head ∷ tail)
  pub back_by : AllByRecursion (IsLeafBy f) backs
  pub sum : count_by (tells i) xs ≡ once (is_told head) + count_by (tells i) backs
  pub raises : head.raises ≡ r

-- an operation is told the first of a member's cells alone
one_told : (q : ℕ) (r : Bool) (at i : ℕ) (s : Shape) (y : Cell) (ys : List Cell) → q ≡ i + 1 → q ≤ at
    → map bare (y ∷ ys) ≡ cells_of q r at s → count_by (tells i) (y ∷ ys) ≡ once (is_told y)
one_told q r at i s y ys h l e =
    count-cons i y ys
    ∙ plus_zero (once (tells i y)) (count_by (tells i) ys)
    (none_counted i ys (all_more (λ c d. deep at i c.parent q h l d.0) ys
    (deep_bare at (at + length (cells_of q r at s)) ys
    (subst (AllByRecursion (IsDeep at (at + length (cells_of q r at s)))) (sym (ap (drop 1) e)) (inner q r at s)))))
    ∙ told_parent y i (ap (λ (cs : List Cell). (cell_at cs 0).parent) e ∙ own_parent q r at s ∙ h)
  where
    deep : (at i p q : ℕ) → q ≡ i + 1 → q ≤ at → at < p → p ≢ i + 1
    deep at i p q h l d e = omega arith

begins_with : (f : ℕ → Bool) (q : ℕ) (r : Bool) (at i : ℕ) (s : Shape) (bs : List Cell) (hi : ℕ)
    (xs fronts backs : List Cell)
    → q ≡ i + 1 → q ≤ at → xs ≡ fronts ++ backs → map bare fronts ≡ cells_of q r at s → map bare backs ≡ bs
    → AllByRecursion (IsUnder q (at + length (cells_of q r at s)) hi) bs → AreRight at xs → AllByRecursion
    (IsLeafBy f) xs
    → Begins f q r at i s bs xs
begins_with f q r at i s bs hi xs [] backs h l w e g bounds right by =
    absurd (no_empty (cell_at (cells_of q r at s) 0) (drop 1 (cells_of q r at s)) (e ∙ cells_more q r at s))
begins_with f q r at i s bs hi xs (y ∷ ys) backs h l w e g bounds right by =
    let n : length (y ∷ ys) ≡ length (cells_of q r at s) = sym (length-map (y ∷ ys) bare) ∙ ap length e in
    let rights : AreRight at ((y ∷ ys) ++ backs) = subst (AreRight at) w right in
    let behind : AllByRecursion (IsUnder q (at + length (cells_of q r at s)) hi) backs =
    under_bare q (at + length (cells_of q r at s)) hi backs
    (subst (AllByRecursion (IsUnder q (at + length (cells_of q r at s)) hi)) (sym g) bounds) in
    let before : AllByRecursion (IsUnder q at (at + length (cells_of q r at s))) (y ∷ ys) =
    under_bare q at (at + length (cells_of q r at s)) (y ∷ ys)
    (subst (AllByRecursion (IsUnder q at (at + length (cells_of q r at s)))) (sym e) (under q r at s)) in
    record {
      head = y;
      tail = ys;
      backs = backs;
      front_is = e;
      back_is = g;
      front_right = right_front at (y ∷ ys) backs
          (λ j k. all_more (λ c u. later q at j (length (y ∷ ys)) (length
          (cells_of q r at s)) hi l k n c u) backs behind) rights;
      back_right = subst (λ (m : ℕ). AreRight (at + m) backs) n (right_back at (y ∷ ys) backs
          (λ j. all_more (λ c u. earlier q at j (length (y ∷ ys)) (length (cells_of q r at s)) l n c u)
          (y ∷ ys) before) rights);
      front_by = front (IsLeafBy f) (y ∷ ys) backs (subst (AllByRecursion (IsLeafBy f)) w by);
      back_by = back (IsLeafBy f) (y ∷ ys) backs (subst (AllByRecursion (IsLeafBy f)) w by);
      sum = ap (count_by (tells i)) w ∙ count-append i (y ∷ ys) backs
          ∙ ap (λ (k : ℕ). k + count_by (tells i) backs) (one_told q r at i s y ys h l e);
      raises = ap (λ (cs : List Cell). (cell_at cs 0).raises) e ∙ own_raises q r at s;
    }
  where
    same_way : (q at j p : ℕ) → q ≤ at → p ≡ q → p ≢ at + j + 1
    same_way q at j p l e g = omega arith

    past : (at j n m p : ℕ) → j < n → n ≡ m → at + m < p → p ≢ at + j + 1
    past at j n m p k e u g = omega arith

    later : (q at j n m hi : ℕ) → q ≤ at → j < n → n ≡ m → (c : Cell) → IsUnder q (at + m) hi c → c.parent ≢ at + j + 1
    later q at j n m hi l k e c (inl u) = same_way q at j c.parent l u
    later q at j n m hi l k e c (inr u) = past at j n m c.parent k e u.0

    same_behind : (q at n j p : ℕ) → q ≤ at → p ≡ q → p ≢ at + n + j + 1
    same_behind q at n j p l e g = omega arith

    short : (at j n m p : ℕ) → n ≡ m → p ≤ at + m → p ≢ at + n + j + 1
    short at j n m p e u g = omega arith

    earlier : (q at j n m : ℕ) → q ≤ at → n ≡ m → (c : Cell) → IsUnder q at (at + m) c → c.parent ≢ at + n + j + 1
    earlier q at j n m l e c (inl u) = same_behind q at n j c.parent l u
    earlier q at j n m l e c (inr u) = short at j n m c.parent e u.1

begins : (f : ℕ → Bool) (q : ℕ) (r : Bool) (at i : ℕ) (s : Shape) (bs : List Cell) (hi : ℕ) (xs : List Cell)
    → q ≡ i + 1 → q ≤ at → map bare xs ≡ cells_of q r at s ++ bs
    → AllByRecursion (IsUnder q (at + length (cells_of q r at s)) hi) bs → AreRight at xs → AllByRecursion
    (IsLeafBy f) xs
    → Begins f q r at i s bs xs
begins f q r at i s bs hi xs h l e bounds right by =
    let p : Parts xs (cells_of q r at s) bs = parts (cells_of q r at s) bs xs e in
    begins_with f q r at i s bs hi xs p.fronts p.backs h l p.whole p.front_is p.back_is bounds right by

-- the first cell's count is what is told to it
own_count : (p at : ℕ) (c : Cell) (xs : List Cell) → c.leaf ≡ 0 → c.parent ≡ p → p ≤ at → AreRight at (c ∷ xs)
    → c.count ≡ count_by (tells at) xs
own_count p at c xs leaf e l right =
    right 0 (some (length xs)) leaf ∙ ap (λ (i : ℕ). count_by (tells i) (c ∷ xs)) (nothing_more at) ∙ count-cons at c xs
    ∙ zero_plus (once (tells at c)) (count_by (tells at) xs) (none_told c at (not_own c.parent p at e l))
  where
    some : (n : ℕ) → 0 < suc n
    some n = omega arith

    nothing_more : (at : ℕ) → at + 0 ≡ at
    nothing_more at = omega arith

    not_own : (n p at : ℕ) → n ≡ p → p ≤ at → n ≢ at + 1
    not_own n p at e l g = omega arith

told_by : (r : Bool) (c : Cell) (b : Bool) → c.raises ≡ r → holds c ≡ b → is_told c ≡ value_told r b
told_by r c b e h = ap₂ (λ (r h : Bool). if r then h else not h) e h

first_any : (a c : Cell) (xs ys : List Cell) → map bare (c ∷ xs) ≡ a ∷ ys → c.any ≡ a.any
first_any a c xs ys e = ap (λ (cs : List Cell). (cell_at cs 0).any) e

first_leaf : (a c : Cell) (xs ys : List Cell) → map bare (c ∷ xs) ≡ a ∷ ys → c.leaf ≡ a.leaf
first_leaf a c xs ys e = ap (λ (cs : List Cell). (cell_at cs 0).leaf) e

first_parent : (a c : Cell) (xs ys : List Cell) → map bare (c ∷ xs) ≡ a ∷ ys → c.parent ≡ a.parent
first_parent a c xs ys e = ap (λ (cs : List Cell). (cell_at cs 0).parent) e

others_are : (a c : Cell) (xs ys : List Cell) → map bare (c ∷ xs) ≡ a ∷ ys → map bare xs ≡ ys
others_are a c xs ys e = ap (drop 1) e

parent_before : (a c : Cell) (xs ys : List Cell) (p at : ℕ) → map bare (c ∷ xs) ≡ a ∷ ys → a.parent ≡ p → p ≤ at
    → c.parent ≤ at
parent_before a c xs ys p at e h l = subst (λ (n : ℕ). n ≤ at) (sym (first_parent a c xs ys e ∙ h)) l

itself : (n : ℕ) → n ≤ n
itself n = omega arith

on_from : (q at n : ℕ) → q ≤ at → q ≤ at + n
on_from q at n l = omega arith

mutual
  pub holds_first : (f : ℕ → Bool) (p : ℕ) (r : Bool) (at : ℕ) (s : Shape) (c : Cell) (xs : List Cell)
      → map bare (c ∷ xs) ≡ cells_of p r at s → p ≤ at → AreRight at (c ∷ xs) → AllByRecursion (IsLeafBy f) (c ∷ xs)
      → holds c ≡ shape_holds f s
  holds_first f p r at Empty c xs e l right by =
      by_any c true 0 (first_any (blank p r true 0) c xs [] e)
      (own_count p at c xs (first_leaf (blank p r true 0) c xs [] e) (first_parent (blank p r true 0) c xs [] e) l right
      ∙ ap (count_by (tells at)) (is_empty xs (others_are (blank p r true 0) c xs [] e)))
  holds_first f p r at (Leaf leaf) c xs e l right by = by.0 leaf (first_leaf (blank p r true (leaf + 1)) c xs [] e)
  holds_first f p r at (Union' list members) c xs e l right by =
      let row : List Cell = cells_of_row (at + 1) true (at + 1) members in
      let a : Cell = blank p r true 0 in
      by_any c true (row_told f true members) (first_any a c xs row e)
      (own_count p at c xs (first_leaf a c xs row e) (first_parent a c xs row e) l right
      ∙ told_row f (at + 1) true (at + 1) at members xs refl (itself (at + 1)) (others_are a c xs row e)
      (right_rest at c xs (parent_before a c xs row p at e refl l) right) by.1)
      ∙ some_by f members
  holds_first f p r at (Inter' list members) c xs e l right by =
      let row : List Cell = cells_of_row (at + 1) false (at + 1) members in
      let a : Cell = blank p r (not (has_member members)) 0 in
      by_any c (not (has_member members)) (row_told f false members) (first_any a c xs row e)
      (own_count p at c xs (first_leaf a c xs row e) (first_parent a c xs row e) l right
      ∙ told_row f (at + 1) false (at + 1) at members xs refl (itself (at + 1)) (others_are a c xs row e)
      (right_rest at c xs (parent_before a c xs row p at e refl l) right) by.1)
      ∙ inter_by f members
  holds_first f p r at (Diff' box first list rest) c xs e l right by =
      let firsts : List Cell = cells_of (at + 1) false (at + 1) first in
      let rests : List Cell = cells_of_row (at + 1) true (at + 1 + length firsts) rest in
      let a : Cell = blank p r false 0 in
      let b : Begins f (at + 1) false (at + 1) at first rests xs =
      begins f (at + 1) false (at + 1) at first rests (at + 1 + length firsts + length rests) xs refl (itself (at + 1))
      (others_are a c xs (firsts ++ rests) e) (under_row (at + 1) true (at + 1 + length firsts) rest)
      (right_rest at c xs (parent_before a c xs (firsts ++ rests) p at e refl l) right) by.1 in
      by_any c false (once (not (shape_holds f first)) + row_told f true rest) (first_any a c xs (firsts ++ rests) e)
      (own_count p at c xs (first_leaf a c xs (firsts ++ rests) e) (first_parent a c xs (firsts ++ rests) e) l right
      ∙ b.sum
      ∙ ap₂ (λ (m n : ℕ). m + n)
      (ap once (told_by false b.head (shape_holds f first) b.raises
      (holds_first f (at + 1) false (at + 1) first b.head b.tail b.front_is (itself
      (at + 1)) b.front_right b.front_by)))
      (told_row f (at + 1) true (at + 1 + length firsts) at rest b.backs refl (on_from (at + 1) (at + 1) (length firsts)
      (itself (at + 1))) b.back_is b.back_right b.back_by))
      ∙ once_and (shape_holds f first) (row_told f true rest) (not (some_hold f rest))
      (not_not (row_told f true rest == 0) (some_hold f rest) (some_by f rest))

  told_row : (f : ℕ → Bool) (q : ℕ) (r : Bool) (at i : ℕ) {m : _} (members : Row_of-Shape m) (xs : List Cell)
      → q ≡ i + 1
      → q ≤ at → map bare xs ≡ cells_of_row q r at members → AreRight at xs → AllByRecursion (IsLeafBy f) xs
      → count_by (tells i) xs ≡ row_told f r members
  told_row f q r at i end_of-Shape xs h l e right by = ap (count_by (tells i)) (is_empty xs e)
  told_row f q r at i (more_of-Shape member rest) xs h l e right by =
      let firsts : List Cell = cells_of q r at member in
      let rests : List Cell = cells_of_row q r (at + length firsts) rest in
      let b : Begins f q r at i member rests xs =
      begins f q r at i member rests (at + length firsts + length rests) xs h l e (under_row q r
      (at + length firsts) rest) right by in
      b.sum
      ∙ ap₂ (λ (m n : ℕ). m + n)
      (ap once (told_by r b.head (shape_holds f member) b.raises
      (holds_first f q r at member b.head b.tail b.front_is l b.front_right b.front_by)))
      (told_row f q r (at + length firsts) i rest b.backs h (on_from q at
      (length firsts) l) b.back_is b.back_right b.back_by)

-- the value of a whole shape
pub holds_whole : (f : ℕ → Bool) (s : Shape) (xs : List Cell) → map bare xs ≡ cells_of 0 true 0 s
    → ((i : ℕ) → i < length xs → (cell_at xs i).leaf ≡ 0 → (cell_at xs i).count ≡ told xs i)
    → AllByRecursion (IsLeafBy f) xs → holds (cell_at xs 0) ≡ shape_holds f s
holds_whole f s [] e counted by = absurd (no_empty (cell_at (cells_of 0 true 0 s) 0) (drop 1 (cells_of 0 true 0 s))
    (e ∙ cells_more 0 true 0 s))
holds_whole f s (c ∷ xs) e counted by =
    holds_first f 0 true 0 s c xs e (itself 0)
    (λ j l leaf. counted j l leaf ∙ ap (λ (i : ℕ). count_by (tells i) (c ∷ xs)) (sym (zero_plus 0 j refl))) by
