-- Each pair of edges in a relation is at home in one bucket, so pairs of stays at home are pairs of edges.
use Rattle.std.proofs.Common.{◌≡◌, ℕ, zero, suc, ◌+◌, ◌-◌, ◌*◌, ◌/◌, ◌<◌, ◌≤◌, ◌==◌, Bool, true, false, ◌&&◌, ◌||◌, List, [], ◌∷◌, drop, refl, sym, ap, ap₂, ◌∙◌, arith, subst}
use lib.IntN.{ℤ, pos, ◌+ℤ◌}
use lib.Signed.{◌≤ℤ◌}
use Rattle.std.specs.Prelude.{count_by, unsigned_abs, int_le}
use Rattle.std.specs.List.{AllByRecursion}
use Rattle.std.proofs.Math.Nat.{div-mul-le_self}
use Rattle.std.proofs.lemmas.Nat.{le-div}
use Rattle.std.proofs.lemmas.Int.{ints}
use Rattle.std.proofs.lemmas.Bool.{and_parts, eq-eqb, eqb-true, true≢false}
use Rattle.scad_base.proofs.Tests.{int_le-true}
use Rattle.scad_geom.specs.Limits.{coordinate_limit}
use Rattle.scad_geom.specs.Within.{IsEdgeWithin}
use Rattle.scad_geom.specs.declared.point.Edge.{Edge}
use Rattle.scad_geom.specs.Line.{low, high, rise}
use Rattle.scad_geom.proofs.Balance.{once}
use Rattle.scad_geom.proofs.Bounds.{low_within, high_within, rise_at_least}
use Rattle.slice_events.specs.declared.stay.Stay.{Stay}
use Rattle.slice_events.specs.Boxes.{left_end, right_end, boxes_meet}
use Rattle.slice_events.specs.Stays.{bucket_of, later_stays, stays_from, stays_of, all_stays, edge_at, at_home}
use Rattle.slice_events.specs.Pairs.{pairs}
use Rattle.slice_events.proofs.Pairs.{count-cons, across, across-cons, across-none, across-append, pairs-append}

-- ---- a run of buckets
abbrev in_run : ℕ → ℕ → ℕ → Bool
in_run b zero x = false
in_run b (suc k) x = (x == b) || in_run (suc b) k x

differs : (x b : ℕ) → x < b → (x == b) ≡ false
differs x b l = grind arith

differs_above : (x b : ℕ) → b < x → (x == b) ≡ false
differs_above x b l = grind arith

neither : (p q : Bool) → p ≡ false → q ≡ false → (p || q) ≡ false
neither p q h k = grind arith

below_run : (k b x : ℕ) → x < b → in_run b k x ≡ false
below_run zero b x l = refl
below_run (suc k) b x l = neither (x == b) (in_run (suc b) k x) (differs x b l) (below_run k (suc b) x (omega arith))

or_first : (p q : Bool) → p ≡ true → (p || q) ≡ true
or_first p q h = grind arith

or_second : (p q : Bool) → q ≡ true → (p || q) ≡ true
or_second p q h = grind arith

above_first : (x b : ℕ) → b ≤ x → (x == b) ≡ false → b < x
above_first x b l e = grind arith

within_run : (k b x : ℕ) → b ≤ x → x < b + k → in_run b k x ≡ true
within_run zero b x l m = absurd (omega arith)
within_run (suc k) b x l m = by_test (x == b) refl (λ o. within_run k (suc b) x o (omega arith))
  where
    by_test : (t : Bool) → (x == b) ≡ t → (b < x → in_run (suc b) k x ≡ true) → in_run b (suc k) x ≡ true
    by_test true e further = or_first (x == b) (in_run (suc b) k x) e
    by_test false e further = or_second (x == b) (in_run (suc b) k x) (further (above_first x b l e))

pub eqb-turned : (a b : ℕ) → (a == b) ≡ (b == a)
eqb-turned a b = by_test (a == b) refl (b == a) refl
  where
    by_test : (t : Bool) → (a == b) ≡ t → (u : Bool) → (b == a) ≡ u → (a == b) ≡ (b == a)
    by_test true e u f = e ∙ sym (eq-eqb b a (sym (eqb-true a b e)))
    by_test false e true f = absurd (true≢false (sym (eq-eqb a b (sym (eqb-true b a f))) ∙ e))
    by_test false e false f = e ∙ sym f

zero_plus : (n : ℕ) → 0 + n ≡ n
zero_plus n = omega arith

plus_zero : (n : ℕ) → n + 0 ≡ n
plus_zero n = omega arith

-- one of a run's buckets, counted on its own
counted_once : (p q u c : Bool) → (p ≡ true → q ≡ false)
    → once ((p && (u || false)) && c) + once ((q && u) && c) ≡ once (((p || q) && u) && c)
counted_once true true u c h = absurd (true≢false (h refl))
counted_once true false true true h = refl
counted_once true false true false h = refl
counted_once true false false true h = refl
counted_once true false false false h = refl
counted_once false q u c h = zero_plus (once ((q && u) && c))

run_apart : (k b x : ℕ) → (x == b) ≡ true → in_run (suc b) k x ≡ false
run_apart k b x e = below_run k (suc b) x (subst (λ (n : ℕ). x < suc n) (eqb-true x b e) (omega arith))

-- ---- the pairs of two edges' stays
module _ (r : Edge → Edge → Bool) (es : List Edge) where
  -- a stay, and the later ones of an edge: at home where it starts, in their run
  with_later : (s : Stay) (k b j : ℕ) (left : ℤ)
      → count_by (at_home r es s) (later_stays j left b k)
      ≡ once ((in_run b k s.bucket && s.starts) && r (edge_at es s.line) (edge_at es j))
  with_later s zero b j left = refl
  with_later s (suc k) b j left =
      count-cons (at_home r es s) (record { bucket = b; left = left; line = j; starts = false })
      (later_stays j left (suc b) k)
      ∙ ap (λ (n : ℕ). once (((s.bucket == b) && (s.starts || false)) && r (edge_at es s.line) (edge_at es j)) + n)
      (with_later s k (suc b) j left)
      ∙ counted_once (s.bucket == b) (in_run (suc b) k s.bucket) s.starts (r (edge_at es s.line) (edge_at es j))
      (run_apart k b s.bucket)

  no_start : (p c : Bool) → once ((p && false) && c) ≡ 0
  no_start true c = refl
  no_start false c = refl

  any_start : (p u c : Bool) → once ((p && (u || true)) && c) ≡ once (p && c)
  any_start true true c = refl
  any_start true false c = refl
  any_start false u c = refl

  -- all but the first stay of an edge, with all of another: at home where the other starts
  later_rows : (k b i j first more : ℕ) (p q : ℤ)
      → across (at_home r es) (later_stays i p b k) (stays_from j q first more)
      ≡ once (in_run b k first && r (edge_at es i) (edge_at es j))
  later_rows zero b i j first more p q = refl
  later_rows (suc k) b i j first more p q =
      let s : Stay = record { bucket = b; left = p; line = i; starts = false } in
      let c : Bool = r (edge_at es i) (edge_at es j) in
      across-cons (at_home r es) s (later_stays i p (suc b) k) (stays_from j q first more)
      ∙ ap₂ (λ (m n : ℕ). m + n)
      (count-cons (at_home r es s) (record { bucket = first; left = q; line = j; starts = true })
      (later_stays j q (suc first) more)
      ∙ ap₂ (λ (m n : ℕ). m + n) (any_start (b == first) false c)
      (with_later s more (suc first) j q ∙ no_start (in_run (suc first) more b) c)
      ∙ plus_zero (once ((b == first) && c)) ∙ ap (λ (t : Bool). once (t && c)) (eqb-turned b first))
      (later_rows k (suc b) i j first more p q)
      ∙ step (first == b) (in_run (suc b) k first) c (run_apart k b first)
    where
      step : (p q c : Bool) → (p ≡ true → q ≡ false) → once (p && c) + once (q && c) ≡ once ((p || q) && c)
      step true true c h = absurd (true≢false (h refl))
      step true false true h = refl
      step true false false h = refl
      step false q c h = zero_plus (once (q && c))

  -- all stays of an edge with all of another
  rows : (i j first more other rest : ℕ) (p q : ℤ)
      → across (at_home r es) (stays_from i p first more) (stays_from j q other rest)
      ≡ (once ((first == other) && r (edge_at es i) (edge_at es j))
      + once (in_run (suc other) rest first && r (edge_at es i) (edge_at es j)))
      + once (in_run (suc first) more other && r (edge_at es i) (edge_at es j))
  rows i j first more other rest p q =
      let s : Stay = record { bucket = first; left = p; line = i; starts = true } in
      let c : Bool = r (edge_at es i) (edge_at es j) in
      across-cons (at_home r es) s (later_stays i p (suc first) more) (stays_from j q other rest)
      ∙ ap₂ (λ (m n : ℕ). m + n)
      (count-cons (at_home r es s) (record { bucket = other; left = q; line = j; starts = true })
      (later_stays j q (suc other) rest)
      ∙ ap₂ (λ (m n : ℕ). m + n) (any_start (first == other) true c)
      (with_later s rest (suc other) j q ∙ ap (λ (t : Bool). once (t && c))
      (and_true (in_run (suc other) rest first))))
      (later_rows more (suc first) i j other rest p q)
    where
      and_true : (t : Bool) → (t && true) ≡ t
      and_true true = refl
      and_true false = refl

  -- the buckets of two edges overlap where the edges are related: one pair of stays is at home
  one_home : (i j first more other rest : ℕ) (p q : ℤ)
      → (r (edge_at es i) (edge_at es j) ≡ true → (first ≤ other + rest) × (other ≤ first + more))
      → across (at_home r es) (stays_from i p first more) (stays_from j q other rest)
      ≡ once (r (edge_at es i) (edge_at es j))
  one_home i j first more other rest p q over = rows i j first more other rest p q
      ∙ by_test (r (edge_at es i) (edge_at es j)) over
    where
      none : (a b c : Bool) → (once (a && false) + once (b && false)) + once (c && false) ≡ 0
      none true true true = refl
      none true true false = refl
      none true false true = refl
      none true false false = refl
      none false true true = refl
      none false true false = refl
      none false false true = refl
      none false false false = refl

      one : (a b c d e f : Bool) → a ≡ d → b ≡ e → c ≡ f
          → (once (d && true) + once (e && true)) + once (f && true) ≡ 1
          → (once (a && true) + once (b && true)) + once (c && true) ≡ 1
      one a b c d e f h k l m = rw (h, k, l) m

      order : {A : Type 0} (i j : ℕ) → (i < j → A) → (j < i → A) → (i ≡ j → A) → A
      order zero zero x y z = z refl
      order zero (suc j) x y z = x (omega arith)
      order (suc i) zero x y z = y (omega arith)
      order (suc i) (suc j) x y z = order i j (λ o. x (omega arith)) (λ o. y (omega arith)) (λ o. z (ap suc o))

      by_test : (t : Bool) → (t ≡ true → (first ≤ other + rest) × (other ≤ first + more))
          → (once ((first == other) && t) + once (in_run (suc other) rest first && t))
          + once (in_run (suc first) more other && t) ≡ once t
      by_test false over = none (first == other) (in_run (suc other) rest first) (in_run (suc first) more other)
      by_test true over =
          let o = over refl in
          let o0 : first ≤ other + rest = o.0 in
          let o1 : other ≤ first + more = o.1 in
          order first other
          (λ l. one _ _ _ false false true (differs first other l) (below_run rest (suc other) first (omega arith))
          (within_run more (suc first) other l (omega arith)) refl)
          (λ l. one _ _ _ false true false (differs_above first other l)
          (within_run rest (suc other) first l (omega arith)) (below_run more (suc first) other (omega arith)) refl)
          (λ e. one _ _ _ true false false (eq-eqb first other e) (below_run rest (suc other) first (omega arith))
          (below_run more (suc first) other (omega arith)) refl)

  -- no two stays of one edge share a bucket
  alone : (s : Stay) (k b j : ℕ) (left : ℤ) → s.bucket < b
      → count_by (at_home r es s) (later_stays j left b k) ≡ 0
  alone s k b j left l = with_later s k b j left
      ∙ ap (λ (t : Bool). once ((t && s.starts) && r (edge_at es s.line) (edge_at es j))) (below_run k b s.bucket l)

  both_none : (m n : ℕ) → m ≡ 0 → n ≡ 0 → m + n ≡ 0
  both_none m n h k = omega arith

  later_alone : (k b i : ℕ) (p : ℤ) → pairs (at_home r es) (later_stays i p b k) ≡ 0
  later_alone zero b i p = refl
  later_alone (suc k) b i p = both_none _ _ (alone (record { bucket = b; left = p; line = i; starts = false }) k (suc b)
      i p (omega arith)) (later_alone k (suc b) i p)

  edge_alone : (i first more : ℕ) (p : ℤ) → pairs (at_home r es) (stays_from i p first more) ≡ 0
  edge_alone i first more p = both_none _ _ (alone (record { bucket = first; left = p; line = i; starts = true }) more
      (suc first) i p (omega arith)) (later_alone more (suc first) i p)

-- ---- the buckets of edges
abs_in_order : (y z : ℤ) → unsigned_abs y ≤ coordinate_limit → unsigned_abs z ≤ coordinate_limit
    → y ≤ℤ z → unsigned_abs (y +ℤ pos coordinate_limit) ≤ unsigned_abs (z +ℤ pos coordinate_limit)
abs_in_order y z h k l = omega (arith, ints)

quotients : (t m n : ℕ) → 0 < t → m ≤ n → m / t ≤ n / t
quotients t m n p l = let d : (m / t) * t ≤ m = div-mul-le_self m t in le-div (m / t) n t p (omega arith)

bucket_in_order : (t : ℕ) (y z : ℤ) → 0 < t → unsigned_abs y ≤ coordinate_limit
    → unsigned_abs z ≤ coordinate_limit → y ≤ℤ z → bucket_of t y ≤ bucket_of t z
unfolding bucket_of
bucket_in_order t y z p h k l = quotients t (unsigned_abs (y +ℤ pos coordinate_limit))
    (unsigned_abs (z +ℤ pos coordinate_limit)) p (abs_in_order y z h k l)

record Overlap (e f : Edge) : Type 0 where
  first : (low e).y ≤ℤ (high f).y
  second : (low f).y ≤ℤ (high e).y

overlap : (e f : Edge) → boxes_meet e f ≡ true → Overlap e f
unfolding boxes_meet
overlap e f h =
    let a = and_parts (int_le (left_end e) (right_end f) && int_le (left_end f) (right_end e)) (int_le (low e).y (high f).y && int_le (low f).y (high e).y) h in
    let b = and_parts (int_le (low e).y (high f).y) (int_le (low f).y (high e).y) a.1 in
    record { first = int_le-true (low e).y (high f).y b.0; second = int_le-true (low f).y (high e).y b.1 }

rises : (e : Edge) → (low e).y ≤ℤ (high e).y
unfolding rise
rises e = let h = rise_at_least e in omega (arith, ints)

reach : (a b c : ℕ) → a ≤ b → c ≤ b → a ≤ c + (b - c)
reach a b c h k = omega arith

module _ (tall : ℕ) (positive : 0 < tall) where
  buckets_overlap : (e f : Edge) → IsEdgeWithin coordinate_limit e → IsEdgeWithin coordinate_limit f
      → boxes_meet e f ≡ true
      → bucket_of tall (low e).y ≤ bucket_of tall (low f).y + (bucket_of tall (high f).y - bucket_of tall (low f).y)
  buckets_overlap e f we wf h =
      let o = overlap e f h in
      reach (bucket_of tall (low e).y) (bucket_of tall (high f).y) (bucket_of tall (low f).y)
      (bucket_in_order tall (low e).y (high f).y positive (low_within coordinate_limit e we).y
      (high_within coordinate_limit f wf).y o.first)
      (bucket_in_order tall (low f).y (high f).y positive (low_within coordinate_limit f wf).y
      (high_within coordinate_limit f wf).y (rises f))

module _ (tall : ℕ) (positive : 0 < tall) (r : Edge → Edge → Bool) (near : (e f : Edge) → r e f ≡ true → boxes_meet e f ≡ true) (turned : (e f : Edge) → boxes_meet e f ≡ boxes_meet f e) (es : List Edge) where
  first_at : (es fs : List Edge) (e : Edge) (i : ℕ) → drop i es ≡ e ∷ fs
      → (edge_at es i ≡ e) × (drop (suc i) es ≡ fs)
  first_at [] fs e zero h = absurd (cc h)
  first_at [] fs e (suc i) h = absurd (cc h)
  first_at (x ∷ es) fs e zero h = (cc h, cc h)
  first_at (x ∷ es) fs e (suc i) h = first_at es fs e i h

  module _ (e : Edge) (i : ℕ) (at : edge_at es i ≡ e) (within : IsEdgeWithin coordinate_limit e) where
    one_pair : (f : Edge) (j : ℕ) → edge_at es j ≡ f → IsEdgeWithin coordinate_limit f
        → across (at_home r es) (stays_of tall i e) (stays_of tall j f) ≡ once (r e f)
    one_pair f j there wf =
        one_home r es i j (bucket_of tall (low e).y) (bucket_of tall (high e).y - bucket_of tall (low e).y)
        (bucket_of tall (low f).y) (bucket_of tall (high f).y - bucket_of tall (low f).y) (left_end e) (left_end f)
        (λ h. let m : boxes_meet e f ≡ true = near e f (sym (ap₂ r at there) ∙ h) in (
          buckets_overlap tall positive e f within wf m,
          buckets_overlap tall positive f e wf within (sym (turned e f) ∙ m),
        ))
        ∙ ap once (ap₂ r at there)

    one_row : (fs : List Edge) (j : ℕ) → drop j es ≡ fs → AllByRecursion (IsEdgeWithin coordinate_limit) fs
        → across (at_home r es) (stays_of tall i e) (all_stays tall j fs) ≡ count_by (r e) fs
    one_row [] j h w = across-none (at_home r es) (stays_of tall i e)
    one_row (f ∷ fs) j h w =
        let a = first_at es fs f j h in
        across-append (at_home r es) (stays_of tall i e) (stays_of tall j f) (all_stays tall (suc j) fs)
        ∙ ap₂ (λ (m n : ℕ). m + n) (one_pair f j a.0 w.0) (one_row fs (suc j) a.1 w.1)
        ∙ sym (count-cons (r e) f fs)

  whole : (m n k : ℕ) (a b : ℕ) → m ≡ 0 → n ≡ a → k ≡ b → m + (n + k) ≡ a + b
  whole m n k a b h i j = omega arith

  -- pairs of stays at home are pairs of edges
  pub pairs_at_home : (fs : List Edge) (i : ℕ) → drop i es ≡ fs
      → AllByRecursion (IsEdgeWithin coordinate_limit) fs
      → pairs (at_home r es) (all_stays tall i fs) ≡ pairs r fs
  pairs_at_home [] i h w = refl
  pairs_at_home (e ∷ fs) i h w =
      let a = first_at es fs e i h in
      pairs-append (at_home r es) (stays_of tall i e) (all_stays tall (suc i) fs)
      ∙ whole _ _ _ _ _
      (edge_alone r es i (bucket_of tall (low e).y) (bucket_of tall (high e).y - bucket_of tall (low e).y) (left_end e))
      (one_row e i a.0 w.0 fs (suc i) a.1 w.1)
      (pairs_at_home fs (suc i) a.1 w.1)
