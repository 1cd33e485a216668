-- The steps of loops over stays, by what is still to come.
use Rattle.std.proofs.Common.{◌≡◌, ℕ, ◌+◌, ◌<◌, ◌≤◌, Bool, true, false, ◌&&◌, List, [], ◌∷◌, ◌++◌, length, get_or, drop, refl, sym, ap, ap₂, ◌∙◌, arith, append_assoc}
use Rattle.std.specs.Prelude.{if◌then◌else◌, count_by}
use Rattle.std.specs.List.{AllByRecursion}
use Rattle.std.proofs.lemmas.List.{append-nil, at_drop_more}
use Rattle.std.proofs.lemmas.Bool.{true≢false}
use Rattle.scad_geom.specs.declared.point.Edge.{Edge}
use Rattle.scad_geom.specs.declared.level.Level.{Level}
use Rattle.scad_geom.proofs.Balance.{once}
use Rattle.slice_events.specs.declared.stay.Stay.{Stay}
use Rattle.slice_events.specs.declared.comparison.Found.{Found}
use Rattle.slice_events.specs.Limits.{crossing_limit}
use Rattle.slice_events.specs.Boxes.{boxes_meet}
use Rattle.slice_events.specs.Collection.{levels_in}
use Rattle.slice_events.specs.Stays.{at_home, edge_at, are_at_home}
use Rattle.slice_events.specs.Pairs.{pairs}
use Rattle.slice_events.specs.Yields.{Yield, nothing, and_then, yield_of, yield_at, yield_with, yield_among, HasRoom, HasYielded, IsLeft}
use Rattle.slice_events.proofs.Pairs.{count-cons}

pub left_first : (b : Found) (y : Yield) → IsLeft b b y y
left_first b y = record { tests = refl; count = refl; levels = λ few. refl }

pub left_more : (b n m : Found) (y r w : Yield) → IsLeft b n (and_then y r) w → HasYielded n m y → IsLeft b m r w
left_more b n m y r w l h =
    let lt = l.tests in
    let lc = l.count in
    let ht = h.tests in
    let hc = h.count in
    record {
      tests = omega arith;
      count = omega arith;
      levels = λ few.
          let k : n.count ≤ crossing_limit = omega arith in
          ap (λ (xs : List Level). xs ++ r.levels) (h.levels few)
          ∙ append_assoc (levels_in n.heights.items) y.levels r.levels ∙ l.levels k;
    }

pub left_none : (b n : Found) (w : Yield) → IsLeft b n nothing w → HasYielded b n w
left_none b n w l =
    let lt = l.tests in
    let lc = l.count in
    record {
      tests = omega arith;
      count = omega arith;
      levels = λ few. sym (append-nil (levels_in n.heights.items))
          ∙ l.levels few;
    }

pub left_room : (b n : Found) (y r w : Yield) → HasRoom b w → IsLeft b n (and_then y r) w → HasRoom n y
left_room b n y r w h l =
    let lt = l.tests in
    let lc = l.count in
    let ht = h.tests in
    let hc = h.count in
    record { tests = omega arith; count = omega arith }

-- nothing is added
pub yields_none : (b : Found) → HasYielded b b nothing
yields_none b = record {
  tests = omega arith;
  count = omega arith;
  levels
      = λ few. sym (append-nil (levels_in b.heights.items));
}

-- ---- what is still to come, a step on
pub with_more : (es : List Edge) (s : Stay) (ts : List Stay) (i : ℕ) (t : Stay) → i < length ts
    → yield_with es s (drop i ts) ≡ and_then (yield_at es s (get_or ts i t)) (yield_with es s (drop (i + 1) ts))
with_more es s ts i t l = at_drop_more (yield_with es s) ts i t l

pub among_more : (es : List Edge) (ss : List Stay) (i : ℕ) (s : Stay) → i < length ss
    → yield_among es (drop i ss) ≡ and_then (yield_with es (get_or ss i s) (drop (i + 1) ss)) (yield_among es (drop (i + 1) ss))
among_more es ss i s l = at_drop_more (yield_among es) ss i s l

none_and : (y : Yield) → and_then nothing y ≡ y
none_and y = λ i. record { tests = zero_plus y.tests i; count = zero_plus y.count i; levels = y.levels }
  where
    zero_plus : (n : ℕ) → 0 + n ≡ n
    zero_plus n = omega arith

at_none : (es : List Edge) (s t : Stay) → at_home boxes_meet es s t ≡ false → yield_at es s t ≡ nothing
at_none es s t h = rw h refl

-- nothing comes where none is at home
pub with_none : (es : List Edge) (s : Stay) (ts : List Stay)
    → AllByRecursion (λ t. at_home boxes_meet es s t ≡ false) ts → yield_with es s ts ≡ nothing
with_none es s [] h = refl
with_none es s (t ∷ ts) h = ap₂ and_then (at_none es s t h.0) (with_none es s ts h.1) ∙ none_and nothing

-- ---- sums over all pairs
module _ (w : Yield → ℕ) (additive : (y z : Yield) → w (and_then y z) ≡ w y + w z) (none : w nothing ≡ 0) (es : List Edge) (r : Edge → Edge → Bool)
    (near : (e f : Edge) → r e f ≡ true → boxes_meet e f ≡ true) (one : (e f : Edge) → boxes_meet e f ≡ true → w (yield_of e f) ≡ once (r e f)) where
  by_test : (y : Yield) (h b c : Bool) → (c ≡ true → b ≡ true) → (b ≡ true → w y ≡ once c)
      → w (if (h && b) then y else nothing) ≡ once (h && c)
  by_test y true true c k e = e refl
  by_test y true false true k e = absurd (true≢false (sym (k refl)))
  by_test y true false false k e = none
  by_test y false b c k e = none

  each : (s t : Stay) → w (yield_at es s t) ≡ once (at_home r es s t)
  each s t =
      let e = edge_at es s.line in
      let f = edge_at es t.line in
      by_test (yield_of e f) (are_at_home s t) (boxes_meet e f) (r e f) (near e f) (one e f)

  with_total : (s : Stay) (ts : List Stay) → w (yield_with es s ts) ≡ count_by (at_home r es s) ts
  with_total s [] = none
  with_total s (t ∷ ts) =
      additive (yield_at es s t) (yield_with es s ts)
      ∙ ap₂ (λ (m n : ℕ). m + n) (each s t) (with_total s ts)
      ∙ sym (count-cons (at_home r es s) t ts)

  pub among_total : (ss : List Stay) → w (yield_among es ss) ≡ pairs (at_home r es) ss
  among_total [] = none
  among_total (s ∷ ss) = additive (yield_with es s ss) (yield_among es ss)
      ∙ ap₂ (λ (m n : ℕ). m + n) (with_total s ss) (among_total ss)
