-- The stretches of lines are as many as those of layers, and one for each line and layer.
use Rattle.std.proofs.Common.{◌≡◌, ℕ, zero, suc, ◌+◌, ◌<◌, ◌≤◌, min, Bool, true, false, List, [], ◌∷◌, ◌++◌, length, get_or, refl, sym, ap, ap₂, subst, ◌∙◌, arith, ℤ, pos, ◌+ℤ◌, ◌<ℤ◌}
use lib.Signed.{◌≤ℤ◌}
use Rattle.std.specs.Prelude.{All, ◌||◌, sum_by}
use Rattle.std.proofs.lemmas.Int.{ints}
use Rattle.std.proofs.lemmas.Bool.{both_ways}
use Rattle.std.proofs.lemmas.List.Sums.{sum_by-append}
use Rattle.std.proofs.lemmas.List.Elements.{All-from_get_or}
use Rattle.scad_geom.proofs.Rising.{by_order, order}
use Rattle.plan_infill.specs.declared.run.Run.{Run}
use Rattle.plan_support.specs.declared.line.Line.{Line}
use Rattle.plan_support.specs.declared.line.Want.{Want}
use Rattle.plan_support.specs.declared.line.Want.TheVariants.{Count, Stretches}
use Rattle.plan_support.specs.Rows.{Row, AreApart, AreRows, AreRowsOf}
use Rattle.plan_support.specs.Spans.{row_of}
use Rattle.plan_support.specs.On.{has_place, is_on}
use Rattle.plan_support.specs.Lines.{AreHeights, AreStretchesFrom, greatest_count, IsLine, AreLines, IsCount, AreRowsOfLines}
use Rattle.plan_support.specs.Covers.{IsCovered, AreCovers, run_count, stretch_limit, AreTooMany}
use Rattle.plan_support.proofs.Canonical.{has}
use Rattle.plan_support.proofs.Without.{has_not_over, none_under}
use Rattle.plan_support.proofs.RowGathering.{rows_at, rows_kept, are_rows, are_rows_apart}

-- ---- layers of rows from lines
abbrev empties : ℕ → List (List Row)
empties zero = []
empties (suc n) = [] ∷ empties n

abbrev zip_rows : ℤ → List (List Run) → List (List Row) → List (List Row)
zip_rows y [] cs = []
zip_rows y (r ∷ rs) [] = []
zip_rows y (r ∷ rs) (c ∷ cs) = (row_of y r ++ c) ∷ zip_rows y rs cs

abbrev covers_of : ℕ → List ℤ → List (List (List Run)) → List (List Row)
covers_of count [] alls = empties count
covers_of count (y ∷ ys) [] = empties count
covers_of count (y ∷ ys) (all ∷ alls) = zip_rows y all (covers_of count ys alls)

length_empties : (n : ℕ) → length (empties n) ≡ n
length_empties zero = refl
length_empties (suc n) = ap suc (length_empties n)

length_zip : (y : ℤ) (all : List (List Run)) (cs : List (List Row)) → length all ≡ length cs
    → length (zip_rows y all cs) ≡ length cs
length_zip y [] [] e = refl
length_zip y [] (c ∷ cs) e = absurd (omega (arith, e))
length_zip y (r ∷ rs) [] e = absurd (omega (arith, e))
length_zip y (r ∷ rs) (c ∷ cs) e = ap suc (length_zip y rs cs (omega (arith, e)))

get_empties : (count n : ℕ) → get_or (empties count) n [] ≡ []
get_empties zero n = refl
get_empties (suc count) zero = refl
get_empties (suc count) (suc n) = get_empties count n

get_zip : (y : ℤ) (all : List (List Run)) (cs : List (List Row)) (n : ℕ) → length all ≡ length cs → n < length cs
    → get_or (zip_rows y all cs) n [] ≡ row_of y (get_or all n []) ++ get_or cs n []
get_zip y [] [] n e l = absurd (omega (arith, l))
get_zip y [] (c ∷ cs) n e l = absurd (omega (arith, e))
get_zip y (r ∷ rs) [] n e l = absurd (omega (arith, e))
get_zip y (r ∷ rs) (c ∷ cs) zero e l = refl
get_zip y (r ∷ rs) (c ∷ cs) (suc n) e l = get_zip y rs cs n (omega (arith, e)) (omega (arith, l))

count_empties : (n : ℕ) → run_count (empties n) ≡ 0
count_empties zero = refl
count_empties (suc n) = count_empties n

sum_cons : {X : Type 0} (f : X → ℕ) (x : X) (xs : List X) → sum_by f (x ∷ xs) ≡ f x + sum_by f xs
sum_cons f x xs = let s : sum_by f (x ∷ xs) ≡ (0 + f x) + sum_by f xs = sum_by-append f (x ∷ []) xs in omega (arith, s)

abbrev rows_count_of : Row → ℕ
rows_count_of r = length r.runs

abbrev rows_count : List Row → ℕ
rows_count rows = sum_by rows_count_of rows

abbrev line_count : List (List Run) → ℕ
line_count all = sum_by length all

count_row : (y : ℤ) (r : List Run) (c : List Row) → rows_count (row_of y r ++ c) ≡ length r + rows_count c
count_row y [] c = omega arith
count_row y (q ∷ qs) c = sum_cons rows_count_of (record { y = y; runs = q ∷ qs }) c

count_zip : (y : ℤ) (all : List (List Run)) (cs : List (List Row)) → length all ≡ length cs
    → run_count (zip_rows y all cs) ≡ sum_by length all + run_count cs
count_zip y [] [] e = refl
count_zip y [] (c ∷ cs) e = absurd (omega (arith, e))
count_zip y (r ∷ rs) [] e = absurd (omega (arith, e))
count_zip y (r ∷ rs) (c ∷ cs) e =
    sums (run_count ((row_of y r ++ c) ∷ zip_rows y rs cs)) (rows_count (row_of y r ++ c))
    (run_count (zip_rows y rs cs))
    (sum_by length (r ∷ rs)) (length r) (sum_by length rs) (run_count (c ∷ cs)) (rows_count c) (run_count cs)
    (sum_cons rows_count (row_of y r ++ c) (zip_rows y rs cs)) (count_row y r c) (count_zip y rs cs (omega (arith, e)))
    (sum_cons length r rs) (sum_cons rows_count c cs)
  where
    sums : (t a b u r v w c d : ℕ) → t ≡ a + b → a ≡ r + c → b ≡ v + d → u ≡ r + v → w ≡ c + d → t ≡ u + w
    sums t a b u r v w c d p q s x y = omega (arith, p, q, s, x, y)

module _ (layers : List (List Row)) (want : Want) where
  long : (y : ℤ) (all : List (List Run)) (line : Line) → IsLine layers y want all line → length all ≡ length layers
  long y all line i = let m = i.are.as_many in omega (arith, m)

  length_covers : (ys : List ℤ) (alls : List (List (List Run))) (lines : List Line) → AreLines layers want ys alls lines
      → length (covers_of (length layers) ys alls) ≡ length layers
  length_covers [] alls lines h = length_empties (length layers)
  length_covers (y ∷ ys) [] lines h = length_empties (length layers)
  length_covers (y ∷ ys) (a ∷ us) [] h = absurd h
  length_covers (y ∷ ys) (a ∷ us) (l ∷ ls) h =
      let e = length_covers ys us ls h.1 in
      length_zip y a (covers_of (length layers) ys us) (long y a l h.0 ∙ sym e) ∙ e

  get_covers : (ys : List ℤ) (alls : List (List (List Run))) (lines : List Line) (n : ℕ) → n < length layers
      → AreLines layers want ys alls lines → get_or (covers_of (length layers) ys alls) n [] ≡ rows_at n ys alls
  get_covers [] alls lines n l h = get_empties (length layers) n
  get_covers (y ∷ ys) [] lines n l h = get_empties (length layers) n
  get_covers (y ∷ ys) (a ∷ us) [] n l h = absurd h
  get_covers (y ∷ ys) (a ∷ us) (m ∷ ms) n l h =
      let e = length_covers ys us ms h.1 in
      get_zip y a (covers_of (length layers) ys us) n (long y a m h.0 ∙ sym e) (omega (arith, l, e))
      ∙ ap (λ (rows : List Row). row_of y (get_or a n []) ++ rows) (get_covers ys us ms n l h.1)

  count_covers : (ys : List ℤ) (alls : List (List (List Run))) (lines : List Line) → AreLines layers want ys alls lines
      → run_count (covers_of (length layers) ys alls) ≡ sum_by (λ (all : List (List Run)). sum_by length all) alls
  count_covers [] [] lines h = count_empties (length layers)
  count_covers [] (a ∷ us) lines h = absurd h
  count_covers (y ∷ ys) [] lines h = absurd h
  count_covers (y ∷ ys) (a ∷ us) [] h = absurd h
  count_covers (y ∷ ys) (a ∷ us) (l ∷ ls) h =
      let e = length_covers ys us ls h.1 in
      count_zip y a (covers_of (length layers) ys us) (long y a l h.0 ∙ sym e)
      ∙ ap (λ (n : ℕ). sum_by length a + n) (count_covers ys us ls h.1)
      ∙ sym (sum_cons line_count a us)

  -- the lines' own numbers tell the same
  counts : (ys : List ℤ) (alls : List (List (List Run))) (lines : List Line) → AreLines layers want ys alls lines
      → min (sum_by (λ (l : Line). l.count) lines) greatest_count
      ≡ min (sum_by (λ (all : List (List Run)). sum_by length all) alls) greatest_count
  counts [] [] [] h = refl
  counts [] [] (l ∷ ls) h = absurd h
  counts [] (a ∷ us) ls h = absurd h
  counts (y ∷ ys) [] ls h = absurd h
  counts (y ∷ ys) (a ∷ us) [] h = absurd h
  counts (y ∷ ys) (a ∷ us) (l ∷ ls) h =
      ap (λ (n : ℕ). min n greatest_count) (sum_cons (λ (m : Line). m.count) l ls)
      ∙ added l.count (sum_by length a) (sum_by (λ (m : Line). m.count) ls)
      (sum_by (λ (all : List (List Run)). sum_by length all) us)
      h.0.count (counts ys us ls h.1)
      ∙ ap (λ (n : ℕ). min n greatest_count) (sym (sum_cons line_count a us))
    where
      added : (c s p t : ℕ) → c ≡ min s greatest_count → min p greatest_count ≡ min t greatest_count
          → min (c + p) greatest_count ≡ min (s + t) greatest_count
      added c s p t e f = omega (arith, e, f)

pub is_count : (layers : List (List Row)) (heights : List ℤ) (lines : List Line) (alls : List (List (List Run)))
    (counted : ℕ)
    → AreLines layers Count heights alls lines → counted ≡ min (sum_by (λ (l : Line). l.count) lines) greatest_count
    → IsCount layers heights counted
is_count layers heights lines alls counted h e =
    record { lines = lines; alls = alls; are = h; counts = e ∙ counts layers Count heights alls lines h }

-- ---- too many
pub too_many : (layers : List (List Row)) (heights : List ℤ) (counted : ℕ) → AreHeights layers heights
    → IsCount layers heights counted → stretch_limit < counted → AreTooMany layers counted
too_many layers heights counted hs c o =
    let n = count_covers layers Count heights c.alls c.lines c.are in
    let e = c.counts in
    record {
      covers = covers_of (length layers) heights c.alls;
      are_covers = record {
        as_many = length_covers layers Count heights c.alls c.lines c.are;
        each = λ k l. subst (λ (rows : List Row). AreRowsOf (IsCovered layers k) 0 rows)
            (sym (get_covers layers Count heights c.alls c.lines k l c.are))
            (are_rows layers Count heights c.alls c.lines hs c.are k l);
      };
      over = omega (arith, n, e, o);
      counts = e ∙ ap (λ (m : ℕ). min m greatest_count) (sym n);
    }

-- ---- runs that stand apart are told by their places
starts_least : (r : Run) (rs : List Run) (x : ℤ) → AreApart (r ∷ rs) → is_on (r ∷ rs) x ≡ true → r.from ≤ℤ x
starts_least r rs x a o = by_order (order r.from x) (λ k. k) (λ k. absurd (both_ways _
    (none_under (r ∷ rs) x (λ j d l. all_over j d l k)) o))
  where
    all_over : (j : ℕ) (d : Run) → j < length (r ∷ rs) → x <ℤ r.from → x <ℤ (get_or (r ∷ rs) j d).from
    all_over zero d l k = k
    all_over (suc j) d l k = let g = a.1 j d (omega (arith, l)) in let p = a.0 in omega (arith, ints, k, p, g)

off_others : (r : Run) (rs : List Run) (x : ℤ) → AreApart (r ∷ rs) → x ≤ℤ (r.to +ℤ pos 1) → is_on rs x ≡ false
off_others r rs x a k = none_under rs x (λ j d l. let g = a.1 j d l in omega (arith, ints, g, k))

ends_no_sooner : (r s : Run) (rs ss : List Run) → AreApart (r ∷ rs) → AreApart (s ∷ ss) → r.from ≡ s.from
    → ((x : ℤ) → is_on (r ∷ rs) x ≡ is_on (s ∷ ss) x) → s.to ≤ℤ r.to
ends_no_sooner r s rs ss a b e same = by_order (order s.to r.to) (λ k. k) (λ k.
    let p = a.0 in
    absurd (both_ways _
    (ap (λ (t : Bool). t || is_on rs (r.to +ℤ pos 1)) (has_not_over r (r.to +ℤ pos 1) (omega (arith, ints)))
    ∙ off_others r rs (r.to +ℤ pos 1) a (omega (arith, ints)))
    (same (r.to +ℤ pos 1)
    ∙ ap (λ (t : Bool). t || is_on ss (r.to +ℤ pos 1))
    (has s (r.to +ℤ pos 1) (omega (arith, ints, e, p)) (omega (arith, ints, k))))))

on_start : (r : Run) (rs : List Run) → AreApart (r ∷ rs) → is_on (r ∷ rs) r.from ≡ true
on_start r rs a = ap (λ (t : Bool). t || is_on rs r.from) (has r r.from (omega (arith, ints)) a.0)

same_runs : (rs ss : List Run) → AreApart rs → AreApart ss → ((x : ℤ) → is_on rs x ≡ is_on ss x) → rs ≡ ss
same_runs [] [] a b same = refl
same_runs [] (s ∷ ss) a b same = absurd (both_ways _ (sym (same s.from)) (on_start s ss b))
same_runs (r ∷ rs) [] a b same = absurd (both_ways _ (same r.from) (on_start r rs a))
same_runs (r ∷ rs) (s ∷ ss) a b same =
    let low = starts_least s ss r.from b (sym (same r.from) ∙ on_start r rs a) in
    let high = starts_least r rs s.from a (same s.from ∙ on_start s ss b) in
    let start : r.from ≡ s.from = omega (arith, ints, low, high) in
    let first = ends_no_sooner r s rs ss a b start same in
    let second = ends_no_sooner s r ss rs b a (sym start) (λ x. sym (same x)) in
    let end : r.to ≡ s.to = omega (arith, ints, first, second) in
    let one : r ≡ s = λ j. record { from = start j; to = end j } in
    ap₂ (λ (q : Run) (qs : List Run). q ∷ qs) one (same_runs rs ss a.2 b.2 (λ x. others x one end))
  where
    cut : (p : Bool) (t u : Bool) → p ≡ false → (p || t) ≡ (p || u) → t ≡ u
    cut true t u e f = absurd (both_ways _ e refl)
    cut false t u e f = f

    others : (x : ℤ) → r ≡ s → r.to ≡ s.to → is_on rs x ≡ is_on ss x
    others x one end = by_order (order x r.to)
        (λ k. off_others r rs x a (omega (arith, ints, k)) ∙ sym (off_others s ss x b (omega (arith, ints, k, end))))
        (λ k. cut (has_place r x) (is_on rs x) (is_on ss x) (has_not_over r x k)
        (same x ∙ ap (λ (q : Run). has_place q x || is_on ss x) (sym one)))

same_lists : (A : Type 0) (d : A) (xs ys : List A) → length xs ≡ length ys
    → ((n : ℕ) → n < length xs → get_or xs n d ≡ get_or ys n d) → xs ≡ ys
same_lists A d [] [] e h = refl
same_lists A d [] (y ∷ ys) e h = absurd (omega (arith, e))
same_lists A d (x ∷ xs) [] e h = absurd (omega (arith, e))
same_lists A d (x ∷ xs) (y ∷ ys) e h =
    ap₂ (λ (z : A) (zs : List A). z ∷ zs) (h 0 (omega arith))
    (same_lists A d xs ys (omega (arith, e)) (λ n l. h (suc n) (omega (arith, l))))

same_stretches : (layers : List (List Row)) (y : ℤ) (all more : List (List Run)) → AreStretchesFrom layers 0 y all
    → AreStretchesFrom layers 0 y more → all ≡ more
same_stretches layers y all more a b =
    let m = a.as_many in
    let n = b.as_many in
    same_lists (List Run) [] all more (omega (arith, m, n))
    (λ k l. same_runs (get_or all k []) (get_or more k []) (a.each k l).apart (b.each k (omega (arith, l, m, n))).apart
    (λ x. (a.each k l).on x ∙ sym ((b.each k (omega (arith, l, m, n))).on x)))

same_lines : (layers : List (List Row)) (v w : Want) (ys : List ℤ) (us bs : List (List (List Run))) (ls ms : List Line)
    → AreLines layers v ys us ls → AreLines layers w ys bs ms → us ≡ bs
same_lines layers v w [] [] [] ls ms h k = refl
same_lines layers v w [] [] (b ∷ bs) ls ms h k = absurd k
same_lines layers v w [] (a ∷ us) bs ls ms h k = absurd h
same_lines layers v w (y ∷ ys) [] bs ls ms h k = absurd h
same_lines layers v w (y ∷ ys) (a ∷ us) [] ls ms h k = absurd k
same_lines layers v w (y ∷ ys) (a ∷ us) (b ∷ bs) [] ms h k = absurd h
same_lines layers v w (y ∷ ys) (a ∷ us) (b ∷ bs) (l ∷ ls) [] h k = absurd k
same_lines layers v w (y ∷ ys) (a ∷ us) (b ∷ bs) (l ∷ ls) (m ∷ ms) h k =
    ap₂ (λ (p : List (List Run)) (q : List (List (List Run))). p ∷ q) (same_stretches layers y a b h.0.are k.0.are)
    (same_lines layers v w ys us bs ls ms h.1 k.1)

-- ---- few enough
module _ (layers covers : List (List Row)) (heights : List ℤ) (alls : List (List (List Run))) (lines : List Line)
    (hs : AreHeights layers heights) (are : AreLines layers Stretches heights alls lines)
    (rows : AreRowsOfLines heights lines (length layers) covers) where
  row_is : (n : ℕ) → n < length layers → get_or covers n [] ≡ rows_at n heights alls
  row_is n l = rows.each n l ∙ rows_kept layers n heights alls lines are

  pub are_covers : AreCovers layers covers
  are_covers = record {
    as_many = rows.as_many;
    each = λ n l. subst (λ (r : List Row). AreRowsOf (IsCovered layers n) 0 r) (sym (row_is n l))
        (are_rows layers Stretches heights alls lines hs are n l);
  }

  pub all_apart : All AreRows covers
  all_apart = All-from_get_or AreRows covers [] (λ n l. let m = rows.as_many in
      subst AreRows (sym (row_is n (omega (arith, l, m))))
      (are_rows_apart layers Stretches heights alls lines hs are n (omega (arith, l, m))))

  pub few_enough : (counted : ℕ) → IsCount layers heights counted → counted ≤ stretch_limit
      → run_count covers ≤ stretch_limit
  few_enough counted c o =
      let m = rows.as_many in
      let w = length_covers layers Stretches heights alls lines are in
      let same : covers ≡ covers_of (length layers) heights alls =
      same_lists (List Row) [] covers (covers_of (length layers) heights alls)
      (omega (arith, m, w))
      (λ n l. row_is n (omega (arith, l, m))
      ∙ sym (get_covers layers Stretches heights alls lines n (omega (arith, l, m)) are)) in
      let n = ap run_count same ∙ count_covers layers Stretches heights alls lines are in
      let e = c.counts in
      let f : sum_by (λ (all : List (List Run)). sum_by length all) c.alls
      ≡ sum_by (λ (all : List (List Run)). sum_by length all) alls =
      ap (sum_by (λ (all : List (List Run)). sum_by length all))
      (same_lines layers Count Stretches heights c.alls alls c.lines lines c.are are) in
      omega (arith, n, e, f, o)
