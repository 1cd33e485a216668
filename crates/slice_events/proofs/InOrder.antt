-- Stays in order: none that comes after one of another bucket, or past an edge's right end, meets that edge's box.
use Rattle.std.proofs.Common.{◌≡◌, ℕ, zero, suc, ◌<◌, ◌≤◌, ◌==◌, ◌≢◌, ◌⊎◌, inl, inr, Bool, true, false, not, subst, cond, ◌&&◌, ◌||◌, List, [], ◌∷◌, length, get_or, drop, refl, sym, ◌∙◌, arith}
use lib.IntN.{ℤ}
use lib.Signed.{◌<ℤ◌, ◌≤ℤ◌}
use Rattle.std.specs.Prelude.{int_le, int_lt, nat_lt}
use Rattle.std.specs.Ordering.{int_cmp, ordering_then, is_lt}
use Rattle.std.specs.declared.cmp.Ordering.TheVariants.{Less, Equal, Greater}
use Rattle.std.specs.Cmp.{IsTotalOrder, IsStrictWeakOrder}
use Rattle.std.specs.List.{AllByRecursion}
use Rattle.std.specs.List.Sorted.{IsSortedBy}
use Rattle.std.proofs.lemmas.Cmp.{nat_cmp_total, int_cmp_total, then_total, on_total}
use Rattle.std.proofs.lemmas.List.Sorted.{ranks_by, sorted_far}
use Rattle.std.proofs.lemmas.Int.{ints}
use Rattle.std.proofs.lemmas.Bool.{eq-eqb, eqb-true, ltb-false, true≢false}
use Rattle.scad_base.proofs.Tests.{is_lt-int_cmp, int_lt-false, int_lt-true}
use Rattle.scad_geom.specs.declared.point.Edge.{Edge}
use Rattle.slice_events.specs.declared.stay.Stay.{Stay}
use Rattle.slice_events.specs.Boxes.{left_end, right_end, boxes_meet}
use Rattle.slice_events.specs.Stays.{stay_cmp, comes_before, AreInOrder, edge_at, at_home, lies_past, IsStayOf}

stay_total : IsTotalOrder stay_cmp
stay_total = then_total (on_total (λ (s : Stay). s.bucket) nat_cmp_total)
    (on_total (λ (s : Stay). s.left) int_cmp_total)

pub stay_order : IsStrictWeakOrder comes_before
stay_order = ranks_by stay_total (λ (s : Stay). s)

all_by : (P : Stay → Type 0) (ss : List Stay) → ((k : ℕ) (d : Stay) → k < length ss → P (get_or ss k d))
    → AllByRecursion P ss
all_by P [] h = tt
all_by P (s ∷ ss) h = (h zero s (omega arith), all_by P ss (λ k d l. h (suc k) d (omega arith)))

in_order_from : (ss : List Stay) → ((i j : ℕ) (d : Stay) → i ≤ j → j < length ss
    → comes_before (get_or ss j d) (get_or ss i d) ≡ false) → AreInOrder ss
in_order_from [] h = tt
in_order_from (s ∷ ss) h = (
  all_by (λ t. comes_before t s ≡ false) ss
      (λ k d l. h zero (suc k) d (omega arith) (omega arith)),
  in_order_from ss (λ i j d a b. h (suc i) (suc j) d (omega arith) (omega arith)),
)

pub in_order : (ss : List Stay) → IsSortedBy comes_before ss → AreInOrder ss
in_order ss h = in_order_from ss (sorted_far comes_before stay_order ss h)

pub in_order-drop : (ss : List Stay) (i : ℕ) → AreInOrder ss → AreInOrder (drop i ss)
in_order-drop [] zero h = h
in_order-drop [] (suc i) h = h
in_order-drop (s ∷ ss) zero h = h
in_order-drop (s ∷ ss) (suc i) h = in_order-drop ss i h.1

-- ---- what comes after a stay
pub record After (s t : Stay) : Type 0 where
  pub bucket : s.bucket ≤ t.bucket
  pub left : s.bucket ≡ t.bucket → s.left ≤ℤ t.left

after : (s t : Stay) → comes_before t s ≡ false → After s t
after s t h = by_test (nat_lt t.bucket s.bucket) refl (t.bucket == s.bucket) refl h
  where
    by_test : (a : Bool) → nat_lt t.bucket s.bucket ≡ a → (b : Bool) → (t.bucket == s.bucket) ≡ b
        → is_lt (ordering_then (cond a Less (cond b Equal Greater)) (int_cmp t.left s.left)) ≡ false → After s t
    by_test true e b f h = absurd (true≢false h)
    by_test false e true f h = record {
      bucket = ltb-false t.bucket s.bucket e;
      left
          = λ q. int_lt-false t.left s.left (sym (is_lt-int_cmp t.left s.left) ∙ h);
    }
    by_test false e false f h = record {
      bucket = ltb-false t.bucket s.bucket e;
      left
          = λ q. absurd (true≢false (sym (eq-eqb t.bucket s.bucket (sym q)) ∙ f));
    }

after_itself : (s : Stay) → After s s
after_itself s = record { bucket = omega arith; left = λ q. omega (arith, ints) }

apart_boxes : (e f : Edge) → right_end e <ℤ left_end f → boxes_meet e f ≡ false
unfolding boxes_meet
apart_boxes e f h = let p : int_le (left_end f) (right_end e) ≡ false = not_at_most _ _ h in neither _ _ _ p
  where
    not_at_most : (a b : ℤ) → b <ℤ a → int_le a b ≡ false
    not_at_most a b h = sym (omega (arith, ints))

    neither : (a b c : Bool) → b ≡ false → ((a && b) && c) ≡ false
    neither true b c h = rw h refl
    neither false b c h = refl

other_bucket : (r : Edge → Edge → Bool) (es : List Edge) (s t : Stay) → (s.bucket == t.bucket) ≡ false
    → at_home r es s t ≡ false
other_bucket r es s t h = rw h refl

unrelated : (r : Edge → Edge → Bool) (es : List Edge) (s t : Stay)
    → r (edge_at es s.line) (edge_at es t.line) ≡ false → at_home r es s t ≡ false
unrelated r es s t h = none (s.bucket == t.bucket) (s.starts || t.starts) _ h
  where
    none : (a b c : Bool) → c ≡ false → ((a && b) && c) ≡ false
    none true true c h = h
    none true false c h = refl
    none false b c h = refl

-- past this stay none meets the first
abbrev pub IsPast : List Edge → Stay → Stay → Type 0
IsPast es s t = (s.bucket ≢ t.bucket) ⊎ (right_end (edge_at es s.line) <ℤ t.left)

pub past_by : (es : List Edge) (s t : Stay) (right : ℤ) → lies_past right s t ≡ true
    → right ≡ right_end (edge_at es s.line) → IsPast es s t
past_by es s t right h e = by_test (s.bucket == t.bucket) refl h
  where
    differ : (m n : ℕ) → (m == n) ≡ false → m ≢ n
    differ m n k q = true≢false (sym (eq-eqb m n q) ∙ k)

    by_test : (b : Bool) → (s.bucket == t.bucket) ≡ b → (not b || int_lt right t.left) ≡ true → IsPast es s t
    by_test false q k = inl (differ s.bucket t.bucket q)
    by_test true q k = inr (subst (λ (z : ℤ). z <ℤ t.left) e (int_lt-true right t.left k))

none_meets : (es : List Edge) (s t u : Stay) → IsPast es s t → After s t → After t u → IsStayOf es u
    → at_home boxes_meet es s u ≡ false
none_meets es s t u past a b o = by_test (s.bucket == u.bucket) refl past
  where
    differ : (m n : ℕ) → m < n → (m == n) ≡ false
    differ m n l = grind arith

    by_test : (c : Bool) → (s.bucket == u.bucket) ≡ c → IsPast es s t → at_home boxes_meet es s u ≡ false
    by_test false e p = other_bucket boxes_meet es s u e
    by_test true e (inl p) = let q = eqb-true s.bucket u.bucket e in let x = a.bucket in let y = b.bucket in absurd (p (omega arith))
    by_test true e (inr p) =
        let q = eqb-true s.bucket u.bucket e in
        let x = a.bucket in
        let y = b.bucket in
        let z = b.left (omega arith) in
        let w = o.1 in
        unrelated boxes_meet es s u (apart_boxes (edge_at es s.line) (edge_at es u.line) (omega (arith, ints)))

pub none_past : (es : List Edge) (s t : Stay) (us : List Stay) → IsPast es s t → comes_before t s ≡ false
    → IsStayOf es t → AllByRecursion (λ u. comes_before u t ≡ false) us → AllByRecursion (IsStayOf es) us
    → AllByRecursion (λ u. at_home boxes_meet es s u ≡ false) (t ∷ us)
none_past es s t us past a ot h o = (none_meets es s t t past (after s t a) (after_itself t) ot, rest us h o)
  where
    rest : (us : List Stay) → AllByRecursion (λ u. comes_before u t ≡ false) us → AllByRecursion (IsStayOf es) us
        → AllByRecursion (λ u. at_home boxes_meet es s u ≡ false) us
    rest [] h o = tt
    rest (u ∷ us) h o = (none_meets es s t u past (after s t a) (after t u h.0) o.0, rest us h.1 o.1)
