-- What holes leave of a run, found one hole after another.
use Rattle.std.proofs.Common.{◌≡◌, ◌⊎◌, inl, inr, ℕ, zero, suc, ◌+◌, ◌<◌, ◌≤◌, Bool, true, false, cond, not, List, [], ◌∷◌, ◌++◌, length, get_or, take, refl, sym, ap, subst, ◌∙◌, arith, ℤ, pos, ◌+ℤ◌, ◌-ℤ◌, ◌<ℤ◌}
use lib.Signed.{◌≤ℤ◌}
use Rattle.std.specs.Prelude.{All, int_le, int_lt, ◌||◌, ◌&&◌}
use Rattle.std.specs.Int.{int_max}
use Rattle.std.proofs.lemmas.Int.{ints}
use Rattle.std.proofs.lemmas.List.{append-nil, take_more, take_all}
use Rattle.std.proofs.lemmas.List.Folds.{list_any-append, list_any_more}
use Rattle.std.proofs.lemmas.List.Elements.{All-nil, All-weaker, All-push, All-more, Contains-get_or}
use Rattle.plan_infill.specs.declared.run.Run.{Run}
use Rattle.plan_support.specs.Rows.{AreApart}
use Rattle.plan_support.specs.On.{has_place, is_on}
use Rattle.plan_support.specs.Near.{HasPlaces}
use Rattle.plan_support.specs.Free.{some_run, at_least, IsEnd, AddsFree, AreLeft}
use Rattle.plan_support.proofs.Canonical.{is_some}
use Rattle.plan_support.proofs.RunUnion.{apart_push, one_of_two}
use Rattle.plan_support.proofs.Without.{is_free_from, one_hole, the_rest}

or_false : (b : Bool) → (b || false) ≡ b
or_false true = refl
or_false false = refl

or_or : (a b c : Bool) → ((a || b) || c) ≡ (a || (b || c))
or_or true b c = refl
or_or false b c = refl

-- ---- one more run between two places, where there are some
on_some : (from to x : ℤ) → is_on (some_run from to) x ≡ (int_le from x && int_le x to)
on_some from to x = by_test (int_le from to) refl
  where
    one : Run
    one = record { from = from; to = to }

    none : (p q : Bool) → int_le from x ≡ p → int_le x to ≡ q → int_le from to ≡ false → false ≡ (p && q)
    none false q a b e = refl
    none true false a b e = refl
    none true true a b e = absurd (omega (arith, ints, a, b, e))

    by_test : (t : Bool) → int_le from to ≡ t → is_on (cond t (record { from = from; to = to } ∷ []) []) x
        ≡ (int_le from x && int_le x to)
    by_test true e = or_false (int_le from x && int_le x to)
    by_test false e = none (int_le from x) (int_le x to) refl refl e

on_more : (out : List Run) (from to x : ℤ) → is_on (out ++ some_run from to) x
    ≡ (is_on out x || (int_le from x && int_le x to))
on_more out from to x = list_any-append (λ (r : Run). has_place r x) out (some_run from to)
    ∙ ap (λ (t : Bool). is_on out x || t) (on_some from to x)

apart_more : (out : List Run) (from to : ℤ) → AreApart out → All (λ (r : Run). (r.to +ℤ pos 1) <ℤ from) out
    → AreApart (out ++ some_run from to)
apart_more out from to a b = by_test (int_le from to) refl
  where
    by_test : (t : Bool) → int_le from to ≡ t → AreApart (out ++ cond t (record { from = from; to = to } ∷ []) [])
    by_test true e = apart_push out (record { from = from; to = to })
        (record { apart = a; behind = b; place = omega (arith, ints, e) })
    by_test false e = subst AreApart (sym (append-nil out)) a

all_more : (P : Run → Type 0) (out : List Run) (from to : ℤ) → All P out
    → (from ≤ℤ to → P (record { from = from; to = to }))
    → All P (out ++ some_run from to)
all_more P out from to a h = by_test (int_le from to) refl
  where
    by_test : (t : Bool) → int_le from to ≡ t → All P (out ++ cond t (record { from = from; to = to } ∷ []) [])
    by_test true e = All-push P out (record { from = from; to = to }) a (h (omega (arith, ints, e)))
    by_test false e = subst (All P) (sym (append-nil out)) a

-- ---- before a place of a run all is freed, behind so many holes
pub record FreedUpTo (old : List Run) (run : Run) (hs : List Run) (i : ℕ) (from : ℤ) (out : List Run) : Type 0 where
  pub count : i ≤ length hs
  pub low : run.from ≤ℤ from
  pub high : from ≤ℤ run.to
  pub passed : All (λ (h : Run). h.to <ℤ from) (take i hs)
  pub apart : AreApart out
  pub behind : All (λ (r : Run). (r.to +ℤ pos 1) <ℤ from) out
  pub on : (x : ℤ) → is_on out x ≡ (is_on old x || is_free_from hs run.from from x)

none_yet : (low x : ℤ) (b : Bool) → ((int_le low x && int_lt x low) && b) ≡ false
none_yet low x b = by_tests (int_le low x) (int_lt x low) refl refl
  where
    by_tests : (p q : Bool) → int_le low x ≡ p → int_lt x low ≡ q → ((p && q) && b) ≡ false
    by_tests false q e f = refl
    by_tests true false e f = refl
    by_tests true true e f = absurd (omega (arith, ints, e, f))

pub freed_start : (old : List Run) (run : Run) (hs : List Run) (i : ℕ) → AreApart old
    → All (λ (r : Run). (r.to +ℤ pos 1) <ℤ run.from) old → run.from ≤ℤ run.to → i ≤ length hs
    → All (λ (h : Run). h.to <ℤ run.from) (take i hs) → FreedUpTo old run hs i run.from old
freed_start old run hs i a b p n t = record {
  count = n;
  low = omega (arith, ints);
  high = p;
  passed = t;
  apart = a;
  behind = b;
  on = λ x. sym (ap (λ (s : Bool). is_on old x || s) (none_yet run.from x (not (is_on hs x))) ∙ or_false (is_on old x));
}

module _ (old : List Run) (run : Run) (hs : List Run) (i : ℕ) (from : ℤ) (out : List Run) (d : Run)
    (apart : AreApart hs)
    (f : FreedUpTo old run hs i from out) where
  on_next : (to x : ℤ) (more : Bool) → (is_free_from hs run.from from x || (int_le from x && int_le x to)) ≡ more
      → is_on (out ++ some_run from to) x ≡ (is_on old x || more)
  on_next to x more e = on_more out from to x
      ∙ ap (λ (t : Bool). t || (int_le from x && int_le x to)) (f.on x)
      ∙ or_or (is_on old x) (is_free_from hs run.from from x) (int_le from x && int_le x to)
      ∙ ap (λ (t : Bool). is_on old x || t) e

  pub freed_more : (next : ℤ) → i < length hs → (get_or hs i d).to <ℤ run.to → next
      ≡ int_max from ((get_or hs i d).to +ℤ pos 1)
      → FreedUpTo old run hs (i + 1) next (out ++ some_run from ((get_or hs i d).from -ℤ pos 1))
  freed_more next l ends n =
      let hole = get_or hs i d in
      let place = is_some hs hole apart (Contains-get_or hs i d l) in
      let low = f.low in
      let high = f.high in
      elim (one_of_two from (hole.to +ℤ pos 1) next n) [
        | inl m ↦ let e = m.0 in let k = m.1 in
            by_next next l (omega (arith, ints, e)) (omega (arith, ints, e, k)) (omega (arith, ints, e, high))
            (inl (e, omega (arith, ints, k))) (λ o. absurd (omega (arith, ints, o, k, place)))
        | inr m ↦ let e = m.0 in let k = m.1 in
            by_next next l (omega (arith, ints, e, k)) (omega (arith, ints, e)) (omega (arith, ints, e, ends))
            (inr (e, omega (arith, ints, e, k))) (λ o. omega (arith, ints, e, place))
      ]
    where
      by_next : (next : ℤ) → i < length hs → from ≤ℤ next → (get_or hs i d).to <ℤ next → next ≤ℤ run.to
          → ((next ≡ from) × ((get_or hs i d).to <ℤ from)) ⊎ ((next ≡ (get_or hs i d).to +ℤ pos 1) × (from ≤ℤ next))
          → (from ≤ℤ ((get_or hs i d).from -ℤ pos 1) → (((get_or hs i d).from -ℤ pos 1) +ℤ pos 1) <ℤ next)
          → FreedUpTo old run hs (i + 1) next (out ++ some_run from ((get_or hs i d).from -ℤ pos 1))
      by_next next l onward past within cases gap =
          let low = f.low in
          record {
            count = omega (arith, l);
            low = omega (arith, ints, low, onward);
            high = within;
            passed = All-more (λ (h : Run). h.to <ℤ next) hs i d l
                (All-weaker (λ (h : Run). h.to <ℤ from) (λ (h : Run). h.to <ℤ next)
                (λ h k. omega (arith, ints, k, onward))
                (take i hs) f.passed) past;
            apart = apart_more out from ((get_or hs i d).from -ℤ pos 1) f.apart f.behind;
            behind = all_more (λ (r : Run). (r.to +ℤ pos 1) <ℤ next) out from ((get_or hs i d).from -ℤ pos 1)
                (All-weaker (λ (r : Run). (r.to +ℤ pos 1) <ℤ from) (λ (r : Run). (r.to +ℤ pos 1) <ℤ next)
                (λ r k. omega (arith, ints, k, onward)) out f.behind) gap;
            on = λ x. on_next ((get_or hs i d).from -ℤ pos 1) x (is_free_from hs run.from next x)
                (one_hole hs i d apart run.from from low f.passed next x l cases);
          }

  pub freed_all : (end : ℤ) → HasPlaces run → IsEnd run hs i end → (i < length hs → run.to ≤ℤ (get_or hs i d).to)
      → AddsFree old run hs (out ++ some_run from end) i
  freed_all end places is last =
      let low = f.low in
      let high = f.high in
      let most = is.most in
      record {
        apart = apart_more out from end f.apart f.behind;
        behind = all_more (λ (r : Run). r.to ≤ℤ run.to) out from end
            (All-weaker (λ (r : Run). (r.to +ℤ pos 1) <ℤ from) (λ (r : Run). r.to ≤ℤ run.to)
            (λ r k. omega (arith, ints, k, high)) out f.behind) (λ o. most);
        count = f.count;
        places = places;
        ends = All-weaker (λ (h : Run). h.to <ℤ from) (λ (h : Run). h.to <ℤ run.to)
            (λ h k. omega (arith, ints, k, high))
            (take i hs) f.passed;
        on = λ x. on_next end x (has_place run x && not (is_on hs x))
            (the_rest hs i d apart run.from from low f.passed run end x refl high is last);
      }

-- ---- one run after another
pub record WithoutUpTo (runs hs : List Run) (i next : ℕ) (out : List Run) : Type 0 where
  pub places : All HasPlaces (take i runs)
  pub count : next ≤ length hs
  pub passed : (k : ℕ) (d : Run) → i ≤ k → k < length runs
      → All (λ (h : Run). h.to <ℤ (get_or runs k d).from) (take next hs)
  pub apart : AreApart out
  pub behind : (k : ℕ) (d : Run) → i ≤ k → k < length runs
      → All (λ (r : Run). (r.to +ℤ pos 1) <ℤ (get_or runs k d).from) out
  pub on : (x : ℤ) → is_on out x ≡ (is_on (take i runs) x && not (is_on hs x))

pub without_start : (runs hs : List Run) → WithoutUpTo runs hs 0 0 []
without_start runs hs = record {
  places = All-nil HasPlaces;
  count = omega arith;
  passed = λ k d a l. All-nil (λ (h : Run). h.to <ℤ (get_or runs k d).from);
  apart = tt;
  behind = λ k d a l. All-nil (λ (r : Run). (r.to +ℤ pos 1) <ℤ (get_or runs k d).from);
  on = λ x. refl;
}

-- runs that stand apart, by their places in the list
pub apart_at : (rs : List Run) (i k : ℕ) (d e : Run) → AreApart rs → i < k → k < length rs
    → ((get_or rs i e).to +ℤ pos 1) <ℤ (get_or rs k d).from
apart_at [] i k d e a o l = absurd (omega (arith, l))
apart_at (r ∷ rs) zero zero d e a o l = absurd (omega (arith, o))
apart_at (r ∷ rs) zero (suc k) d e a o l = a.1 k d (omega (arith, l))
apart_at (r ∷ rs) (suc i) zero d e a o l = absurd (omega (arith, o))
apart_at (r ∷ rs) (suc i) (suc k) d e a o l = apart_at rs i k d e a.2 (omega (arith, o)) (omega (arith, l))

or_and : (a b n : Bool) → ((a && n) || (b && n)) ≡ ((a || b) && n)
or_and true b true = refl
or_and true true false = refl
or_and true false false = refl
or_and false b n = refl

pub without_more : (runs hs : List Run) (i next more : ℕ) (out new : List Run) (d : Run) → AreApart runs
    → i < length runs
    → WithoutUpTo runs hs i next out → AddsFree out (get_or runs i d) hs new more → WithoutUpTo runs hs (i + 1) more new
without_more runs hs i next more out new d apart l w f = record {
  places = All-more HasPlaces runs i d l w.places f.places;
  count = f.count;
  passed =
      λ k e o m. All-weaker (λ (h : Run). h.to <ℤ (get_or runs i d).to) (λ (h : Run). h.to <ℤ (get_or runs k e).from)
      (λ h q. let g = apart_at runs i k e d apart (omega (arith, o)) m in omega (arith, ints, q, g)) (take more hs)
      f.ends;
  apart = f.apart;
  behind =
      λ k e o m. All-weaker (λ (r : Run). r.to ≤ℤ (get_or runs i d).to)
      (λ (r : Run). (r.to +ℤ pos 1) <ℤ (get_or runs k e).from)
      (λ r q. let g = apart_at runs i k e d apart (omega (arith, o)) m in omega (arith, ints, q, g)) new f.behind;
  on = λ x. f.on x
      ∙ ap (λ (t : Bool). t || (has_place (get_or runs i d) x && not (is_on hs x))) (w.on x)
      ∙ or_and (is_on (take i runs) x) (has_place (get_or runs i d) x) (not (is_on hs x))
      ∙ ap (λ (t : Bool). t && not (is_on hs x)) (sym (list_any_more (λ (r : Run). has_place r x) runs i d l));
}

-- ---- those that are long
pub at_least_append : (least : ℕ) (xs ys : List Run) → at_least least (xs ++ ys)
    ≡ at_least least xs ++ at_least least ys
at_least_append least [] ys = refl
at_least_append least (x ∷ xs) ys = by_test (int_le (pos least) (x.to -ℤ x.from)) (at_least_append least xs ys)
  where
    by_test : (t : Bool) → at_least least (xs ++ ys) ≡ at_least least xs ++ at_least least ys
        → cond t (x ∷ at_least least (xs ++ ys)) (at_least least (xs ++ ys))
        ≡ cond t (x ∷ at_least least xs) (at_least least xs) ++ at_least least ys
    by_test true e = ap (λ (rs : List Run). x ∷ rs) e
    by_test false e = e

pub at_least_more : (least : ℕ) (runs out new : List Run) (i : ℕ) (d : Run) → i < length runs
    → out ≡ at_least least (take i runs) → new ≡ out ++ at_least least (get_or runs i d ∷ [])
    → new ≡ at_least least (take (i + 1) runs)
at_least_more least runs out new i d l e f =
    f ∙ ap (λ (rs : List Run). rs ++ at_least least (get_or runs i d ∷ [])) e
    ∙ sym (at_least_append least (take i runs) (get_or runs i d ∷ []))
    ∙ ap (at_least least) (sym (take_more runs i d l))

pub place_at : (runs : List Run) (i : ℕ) (d : Run) → AreApart runs → i < length runs
    → (get_or runs i d).from ≤ℤ (get_or runs i d).to
place_at runs i d a l = is_some runs (get_or runs i d) a (Contains-get_or runs i d l)

pub are_left : (runs hs : List Run) (i next : ℕ) (out : List Run) → length runs ≤ i → WithoutUpTo runs hs i next out
    → AreLeft runs hs out
are_left runs hs i next out l w = record {
  apart = w.apart;
  places = subst (All HasPlaces) (take_all i runs l) w.places;
  on = λ x. w.on x ∙ ap (λ (rs : List Run). is_on rs x && not (is_on hs x)) (take_all i runs l);
}
