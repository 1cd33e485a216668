-- The work on one line, from the top layer down, and on all lines.
use Rattle.std.proofs.Common.{◌≡◌, ℕ, zero, suc, ◌+◌, ◌<◌, min, Bool, true, false, List, [], ◌∷◌, ◌++◌, length, get_or, drop, refl, sym, ap, subst, ◌∙◌, arith, ℤ, add-zero}
use Rattle.std.specs.Prelude.{◌||◌, sum_by, All, if◌then◌else◌}
use Rattle.std.specs.Ordering.{int_eq}
use Rattle.std.proofs.lemmas.List.Elements.{All-head, All-tail}
use Rattle.std.proofs.Math.Seq.{drop-cons, drop-length}
use Rattle.std.proofs.lemmas.List.Sums.{sum_by-append}
use Rattle.plan_infill.specs.declared.run.Run.{Run}
use Rattle.plan_support.specs.declared.line.Line.{Line}
use Rattle.plan_support.specs.declared.line.Want.{Want}
use Rattle.plan_support.specs.Rows.{Row, runs_at, AreApart}
use Rattle.plan_support.specs.On.{is_on, is_on_some}
use Rattle.plan_support.specs.Lines.{AreStretchesBelow, AreStretchesFrom, wanted_of, kept_of, greatest_count, IsLine, HasLine, AreLines, HasLines}

-- what is known of the layers from the layer n on
pub record AboveFrom (layers : List (List Row)) (y : ℤ) (want : Want) (n : ℕ) (above : List Run) (total : ℕ)
    (lists : List (List Run)) : Type 0 where
  pub all : List (List Run)
  pub are : AreStretchesFrom layers n y all
  pub apart : AreApart above
  pub on : (x : ℤ) → is_on above x ≡ is_on_some (drop n layers) x y
  pub counts : total ≡ min (sum_by length all) greatest_count
  pub keeps : lists ≡ kept_of want all

pub above_start : (layers : List (List Row)) (y : ℤ) (want : Want) → AboveFrom layers y want (length layers) [] 0 []
above_start layers y want = record {
  all = [];
  are = record { as_many = omega arith; each = λ k l. absurd (omega (arith, l)) };
  apart = tt;
  on = λ x. sym (ap (λ (ls : List (List Row)). is_on_some ls x y) (drop-length layers));
  counts = refl;
  keeps = refl;
}

or_turned : (a b : Bool) → (a || b) ≡ (b || a)
or_turned true true = refl
or_turned true false = refl
or_turned false true = refl
or_turned false false = refl

-- one layer more
module _ (layers : List (List Row)) (y : ℤ) (want : Want) (n : ℕ) (above : List Run) (count : ℕ)
    (kept : List (List Run))
    (a : AboveFrom layers y want (n + 1) above count kept) (l : n < length layers) where
  each_from : (k : ℕ) → k < length (above ∷ a.all) → AreStretchesBelow layers (n + k) y (get_or (above ∷ a.all) k [])
  each_from zero m = subst (λ (j : ℕ). AreStretchesBelow layers j y above) (sym (add-zero n))
      (record { apart = a.apart; on = a.on })
  each_from (suc k) m =
      let e : (n + 1) + k ≡ n + suc k = omega arith in
      subst (λ (j : ℕ). AreStretchesBelow layers j y (get_or a.all k [])) e (a.are.each k (omega (arith, m)))

  counted : (total : ℕ) → total ≡ min (count + length above) greatest_count
      → total ≡ min (sum_by length (above ∷ a.all)) greatest_count
  counted total e =
      let c = a.counts in
      let s : sum_by length (above ∷ a.all) ≡ (0 + length above) + sum_by length a.all =
      sum_by-append length (above ∷ []) a.all in
      omega (arith, c, e, s)

  pub above_more : (more : List Run) (total : ℕ) (lists : List (List Run)) → AreApart more
      → ((x : ℤ) → is_on more x ≡ (is_on above x || is_on (runs_at y (get_or layers n [])) x))
      → total ≡ min (count + length above) greatest_count → lists ≡ kept ++ wanted_of want above
      → AboveFrom layers y want n more total lists
  above_more more total lists p o c k =
      let next : n + 1 ≡ suc n = omega arith in
      record {
        all = above ∷ a.all;
        are = record { as_many = (let m = a.are.as_many in omega (arith, m)); each = each_from };
        apart = p;
        on = λ x. o x
            ∙ ap (λ (t : Bool). t || is_on (runs_at y (get_or layers n [])) x) (a.on x)
            ∙ ap (λ (j : ℕ). is_on_some (drop j layers) x y || is_on (runs_at y (get_or layers n [])) x) next
            ∙ or_turned (is_on_some (drop (suc n) layers) x y) (is_on (runs_at y (get_or layers n [])) x)
            ∙ sym (ap (λ (ls : List (List Row)). is_on_some ls x y) (drop-cons layers n [] l));
        counts = counted total c;
        keeps = k ∙ ap (λ (ls : List (List Run)). ls ++ wanted_of want above) a.keeps;
      }

-- when all layers are passed
pub line_of : (layers : List (List Row)) (y : ℤ) (want : Want) (above : List Run) (line : Line)
    → AboveFrom layers y want 0 above line.count line.covers → HasLine layers y want line
line_of layers y want above line a =
    record { all = a.all; is = record { are = a.are; count = a.counts; kept = a.keeps } }

-- ---- one line after another
lines_push : (layers : List (List Row)) (want : Want) (ys : List ℤ) (alls : List (List (List Run))) (ls : List Line)
    (y : ℤ) (all : List (List Run)) (l : Line) → AreLines layers want ys alls ls → IsLine layers y want all l
    → AreLines layers want (ys ++ y ∷ []) (alls ++ all ∷ []) (ls ++ l ∷ [])
lines_push layers want [] [] [] y all l h k = (k, tt)
lines_push layers want [] [] (m ∷ ms) y all l h k = absurd h
lines_push layers want [] (a ∷ us) ls y all l h k = absurd h
lines_push layers want (z ∷ zs) [] ls y all l h k = absurd h
lines_push layers want (z ∷ zs) (a ∷ us) [] y all l h k = absurd h
lines_push layers want (z ∷ zs) (a ∷ us) (m ∷ ms) y all l h k = (h.0, lines_push layers want zs us ms y all l h.1 k)

pub lines_start : (layers : List (List Row)) (want : Want) → HasLines layers [] want []
lines_start layers want = record { alls = []; are = tt }

pub lines_more : (layers : List (List Row)) (want : Want) (ys : List ℤ) (ls : List Line) (y : ℤ) (l : Line)
    → HasLines layers ys want ls → HasLine layers y want l → HasLines layers (ys ++ y ∷ []) want (ls ++ l ∷ [])
lines_more layers want ys ls y l h k =
    record { alls = h.alls ++ k.all ∷ []; are = lines_push layers want ys h.alls ls y k.all l h.are k.is }

-- ---- the runs at a height stand apart
pub runs_apart : (y : ℤ) (rows : List Row) → All (λ (r : Row). AreApart r.runs) rows → AreApart (runs_at y rows)
runs_apart y [] a = tt
runs_apart y (r ∷ rs) a = by_test (int_eq r.y y) (All-head (λ (q : Row). AreApart q.runs) r rs a)
    (runs_apart y rs (All-tail (λ (q : Row). AreApart q.runs) r rs a))
  where
    by_test : (t : Bool) → AreApart r.runs → AreApart (runs_at y rs) → AreApart (if t then r.runs else runs_at y rs)
    by_test true p q = p
    by_test false p q = q
