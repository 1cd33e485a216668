-- Rows by their height.
use Rattle.std.proofs.Common.{Less, Equal, Greater, ◌≡◌, ℕ, zero, suc, ◌<◌, ◌≤◌, Bool, true, false, cond, List, [], ◌∷◌, ◌++◌, length, get_or, map, refl, sym, ap, ◌∙◌, arith, int_lt, ℤ, pos, ◌<ℤ◌}
use lib.Signed.{◌≤ℤ◌}
use Rattle.std.specs.Prelude.{All, if◌then◌else◌}
use Rattle.std.specs.Ordering.{int_eq, int_cmp, ordering_index}
use Rattle.std.specs.List.{HoldsAt}
use Rattle.std.specs.List.Sorted.{IsNonDecreasingBy, IsPartitionPoint}
use Rattle.std.proofs.lemmas.Cmp.{int_ranked}
use Rattle.std.proofs.lemmas.Int.{ints}
use Rattle.std.proofs.lemmas.Bool.Decides.{Decides-int_eq}
use Rattle.std.proofs.lemmas.List.Elements.{All-nil, All-head, All-tail, All-push}
use Rattle.scad_geom.proofs.Rising.{by_order, order}
use Rattle.plan_infill.specs.declared.run.Run.{Run}
use Rattle.plan_support.specs.Rows.{Row, runs_at, GoUpwards, row_list, no_row}

pub same_height : (x y : ℤ) → x ≡ y → int_eq x y ≡ true
same_height x y e = (Decides-int_eq x y).1 e

pub other_height : (x y : ℤ) → (x ≡ y → ⊥) → int_eq x y ≡ false
other_height x y n = by_test (int_eq x y) refl
  where
    by_test : (t : Bool) → int_eq x y ≡ t → t ≡ false
    by_test true e = absurd (n ((Decides-int_eq x y).0 e))
    by_test false e = refl

-- above all rows there is none
pub none_above : (y : ℤ) (rows more : List Row) → All (λ r. r.y <ℤ y) rows
    → runs_at y (rows ++ more) ≡ runs_at y more
none_above y [] more h = refl
none_above y (r ∷ rs) more h =
    let l = All-head (λ (s : Row). s.y <ℤ y) r rs h in
    let n = other_height r.y y (λ e. omega (arith, ints, e, l)) in
    ap (λ (t : Bool). if t then r.runs else runs_at y (rs ++ more)) n
    ∙ none_above y rs more (All-tail (λ (s : Row). s.y <ℤ y) r rs h)

-- one more row doesn't change the others
pub others_stay : (y : ℤ) (rows : List Row) (r : Row) → (r.y ≡ y → ⊥)
    → runs_at y (rows ++ r ∷ []) ≡ runs_at y rows
others_stay y [] r n = ap (λ (t : Bool). if t then r.runs else []) (other_height r.y y n)
others_stay y (s ∷ ss) r n = ap (λ (rs : List Run). if int_eq s.y y then s.runs else rs) (others_stay y ss r n)

pub last_row : (y : ℤ) (rows : List Row) (rs : List Run) → All (λ r. r.y <ℤ y) rows
    → runs_at y (rows ++ record { y = y; runs = rs } ∷ []) ≡ rs
last_row y rows rs h =
    none_above y rows (record { y = y; runs = rs } ∷ []) h
    ∙ ap (λ (t : Bool). if t then rs else []) (same_height y y refl)

-- each row of rows upwards is the one at its height
pub own_row : (rows : List Row) (k : ℕ) (d : Row) → GoUpwards rows → k < length rows
    → runs_at (get_or rows k d).y rows ≡ (get_or rows k d).runs
own_row [] k d u l = absurd (omega (arith, l))
own_row (r ∷ rs) zero d u l = ap (λ (t : Bool). if t then r.runs else runs_at r.y rs) (same_height r.y r.y refl)
own_row (r ∷ rs) (suc k) d u l =
    let j : k < length rs = omega (arith, l) in
    let b = u.0 k d j in
    ap (λ (t : Bool). if t then r.runs else runs_at (get_or rs k d).y rs)
    (other_height r.y (get_or rs k d).y (λ e. omega (arith, ints, e, b)))
    ∙ own_row rs k d u.1 j

pub upwards_push : (rows : List Row) (r : Row) → GoUpwards rows → All (λ s. s.y <ℤ r.y) rows
    → GoUpwards (rows ++ r ∷ [])
upwards_push [] r u b = (All-nil (λ (s : Row). r.y <ℤ s.y), tt)
upwards_push (k ∷ ks) r u b = (
  All-push (λ (s : Row). k.y <ℤ s.y) ks r u.0 (All-head (λ (s : Row). s.y <ℤ r.y) k ks b),
  upwards_push ks r u.1 (All-tail (λ (s : Row). s.y <ℤ r.y) k ks b),
)

-- ---- as they are kept
pub row_push : (ys : List ℤ) (lists : List (List Run)) (y : ℤ) (rs : List Run) → length ys ≡ length lists
    → row_list (ys ++ y ∷ []) (lists ++ rs ∷ []) ≡ row_list ys lists ++ record { y = y; runs = rs } ∷ []
row_push [] [] y rs e = refl
row_push [] (l ∷ ls) y rs e = absurd (omega (arith, e))
row_push (z ∷ zs) [] y rs e = absurd (omega (arith, e))
row_push (z ∷ zs) (l ∷ ls) y rs e =
    ap (λ (rows : List Row). record { y = z; runs = l } ∷ rows) (row_push zs ls y rs (omega (arith, e)))

pub row_count : (ys : List ℤ) (lists : List (List Run)) → length ys ≡ length lists
    → length (row_list ys lists) ≡ length ys
row_count [] lists e = refl
row_count (z ∷ zs) [] e = absurd (omega (arith, e))
row_count (z ∷ zs) (l ∷ ls) e = ap suc (row_count zs ls (omega (arith, e)))

pub row_get : (ys : List ℤ) (lists : List (List Run)) (i : ℕ) (d : ℤ) → length ys ≡ length lists → i < length ys
    → get_or (row_list ys lists) i no_row ≡ record { y = get_or ys i d; runs = get_or lists i [] }
row_get [] lists i d e l = absurd (omega (arith, l))
row_get (z ∷ zs) [] i d e l = absurd (omega (arith, e))
row_get (z ∷ zs) (x ∷ xs) zero d e l = refl
row_get (z ∷ zs) (x ∷ xs) (suc i) d e l = row_get zs xs i d (omega (arith, e)) (omega (arith, l))

-- ---- rows searched by their height
pub heights_listed : (ys : List ℤ) (lists : List (List Run)) → length ys ≡ length lists
    → map (λ (r : Row). r.y) (row_list ys lists) ≡ ys
heights_listed [] lists e = refl
heights_listed (y ∷ ys) [] e = absurd (omega (arith, e))
heights_listed (y ∷ ys) (l ∷ ls) e = ap (λ (zs : List ℤ). y ∷ zs) (heights_listed ys ls (omega (arith, e)))

rank_by : (a b y : ℤ) → a ≤ℤ b → ordering_index (int_cmp a y) ≤ ordering_index (int_cmp b y)
rank_by a b y h = by_tests (int_lt a y) (int_lt y a) (int_lt b y) (int_lt y b) refl refl refl refl
  where
    by_tests : (p q r s : Bool) → int_lt a y ≡ p → int_lt y a ≡ q → int_lt b y ≡ r → int_lt y b ≡ s
        → ordering_index (cond p Less (cond q Greater Equal)) ≤ ordering_index (cond r Less (cond s Greater Equal))
    by_tests true q r s d e f g = omega arith
    by_tests false true true s d e f g = absurd (omega (arith, ints, e, f, h))
    by_tests false true false true d e f g = omega arith
    by_tests false true false false d e f g = absurd (omega (arith, ints, e, g, h))
    by_tests false false true s d e f g = absurd (omega (arith, ints, d, f, h))
    by_tests false false false true d e f g = omega arith
    by_tests false false false false d e f g = omega arith

heights_up : (rows : List Row) (i k : ℕ) (d : Row) → GoUpwards rows → i ≤ k → k < length rows
    → (get_or rows i d).y ≤ℤ (get_or rows k d).y
heights_up [] i k d a o l = absurd (omega (arith, l))
heights_up (r ∷ rs) zero zero d a o l = omega (arith, ints)
heights_up (r ∷ rs) zero (suc k) d a o l = let b = a.0 k d (omega (arith, l)) in omega (arith, ints, b)
heights_up (r ∷ rs) (suc i) zero d a o l = absurd (omega (arith, o))
heights_up (r ∷ rs) (suc i) (suc k) d a o l = heights_up rs i k d a.1 (omega (arith, o)) (omega (arith, l))

-- the heights rank in their order beside a place
module _ (ys : List ℤ) (lists : List (List Run)) (rows : List Row) (y : ℤ) (as_many : length ys ≡ length lists)
    (is : row_list ys lists ≡ rows) (up : GoUpwards rows) where
  row_at : (i : ℕ) (d : ℤ) → i < length ys → get_or rows i no_row
      ≡ record { y = get_or ys i d; runs = get_or lists i [] }
  row_at i d l = sym (ap (λ (rs : List Row). get_or rs i no_row) is) ∙ row_get ys lists i d as_many l

  pub searchable : IsNonDecreasingBy (λ (z : ℤ). ordering_index (int_cmp z y)) ys
  searchable i j d o l =
      let n = row_count ys lists as_many in
      let m = ap length is in
      let u = heights_up rows i j no_row up o (omega (arith, l, n, m)) in
      let a = ap (λ (r : Row). r.y) (row_at i d (omega (arith, l, o))) in
      let b = ap (λ (r : Row). r.y) (row_at j d l) in
      rank_by (get_or ys i d) (get_or ys j d) y (omega (arith, ints, u, a, b))

  pub found_row : (i : ℕ) → i < length ys → HoldsAt (λ (z : ℤ). int_cmp z y ≡ Equal) ys i → get_or lists i []
      ≡ runs_at y rows
  found_row i l h =
      let n = row_count ys lists as_many in
      let m = ap length is in
      let r = row_at i y l in
      let e : get_or ys i y ≡ y = int_ranked (get_or ys i y) y Equal (sym (h y)) in
      let own = own_row rows i no_row up (omega (arith, l, n, m)) in
      sym (ap (λ (q : Row). q.runs) r) ∙ sym own ∙ ap (λ (z : ℤ). runs_at z rows) (ap (λ (q : Row). q.y) r ∙ e)

missed : (y : ℤ) (ys : List ℤ) (lists : List (List Run)) → ((k : ℕ) (d : ℤ) → k < length ys → get_or ys k d ≡ y → ⊥)
    → runs_at y (row_list ys lists) ≡ []
missed y [] lists n = refl
missed y (z ∷ zs) [] n = refl
missed y (z ∷ zs) (l ∷ ls) n =
    ap (λ (t : Bool). if t then l else runs_at y (row_list zs ls)) (other_height z y (n 0 z (omega arith)))
    ∙ missed y zs ls (λ k d m. n (suc k) d (omega (arith, m)))

pub missed_row : (ys : List ℤ) (lists : List (List Run)) (rows : List Row) (y : ℤ) (i : ℕ) → row_list ys lists ≡ rows
    → IsPartitionPoint (λ (z : ℤ). int_cmp z y ≡ Less) (λ (z : ℤ). int_cmp z y ≡ Greater) ys i → runs_at y rows ≡ []
missed_row ys lists rows y i is p =
    sym (ap (runs_at y) is) ∙ missed y ys lists (λ k d l e. by_order (order (pos i) (pos k))
    (λ o. let g = int_ranked (get_or ys k d) y Greater (sym (p.1 k d (omega (arith, ints, o)) l)) in
    omega (arith, ints, e, g))
    (λ o. let g = int_ranked (get_or ys k d) y Less (sym (p.0 k d (omega arith) (omega (arith, ints, o)))) in
    omega (arith, ints, e, g)))
