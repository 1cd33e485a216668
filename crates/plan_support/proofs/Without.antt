-- Places on runs that lie on none of the holes.
use Rattle.std.proofs.Common.{◌≡◌, ◌⊎◌, inl, inr, ℕ, zero, suc, ◌<◌, Bool, true, false, not, List, [], ◌∷◌, length, get_or, take, refl, sym, ap, ◌∙◌, arith, ℤ, pos, ◌+ℤ◌, ◌-ℤ◌, ◌<ℤ◌}
use lib.Signed.{◌≤ℤ◌}
use Rattle.std.specs.Prelude.{All, int_le, int_lt, ◌||◌, ◌&&◌}
use Rattle.std.proofs.lemmas.Int.{ints}
use Rattle.std.proofs.lemmas.List.Elements.{All-head, All-tail, All-weaker, Contains-get_or}
use Rattle.scad_geom.proofs.Rising.{by_order, order}
use Rattle.plan_infill.specs.declared.run.Run.{Run}
use Rattle.plan_support.specs.Rows.{AreApart}
use Rattle.plan_support.specs.On.{has_place, is_on}
use Rattle.plan_support.specs.Free.{IsEnd}
use Rattle.plan_support.proofs.Canonical.{place_on, is_some}

-- ---- one test
pub has_not_under : (r : Run) (x : ℤ) → x <ℤ r.from → has_place r x ≡ false
has_not_under r x h = let p : int_le r.from x ≡ false = sym (omega (arith, ints, h)) in rw p refl

pub has_not_over : (r : Run) (x : ℤ) → r.to <ℤ x → has_place r x ≡ false
has_not_over r x h = by_test (int_le r.from x)
  where
    by_test : (t : Bool) → (t && int_le x r.to) ≡ false
    by_test false = refl
    by_test true = sym (omega (arith, ints, h))

-- ---- holes that stand apart
-- below all of them there is none
pub none_under : (hs : List Run) (x : ℤ) → All (λ (h : Run). x <ℤ h.from) hs → is_on hs x ≡ false
none_under [] x a = refl
none_under (h ∷ hs) x a =
    ap (λ (t : Bool). t || is_on hs x) (has_not_under h x (All-head (λ (g : Run). x <ℤ g.from) h hs a))
    ∙ none_under hs x (All-tail (λ (g : Run). x <ℤ g.from) h hs a)

-- between the holes before a place and the next hole, or behind all, there is none
pub none_between : (hs : List Run) (i : ℕ) (x : ℤ) → AreApart hs → All (λ (h : Run). h.to <ℤ x) (take i hs)
    → (d : Run) → (i < length hs → x <ℤ (get_or hs i d).from) → is_on hs x ≡ false
none_between [] i x a b d n = refl
none_between (h ∷ hs) zero x a b d n =
    let f = n (omega arith) in
    let p = a.0 in
    none_under (h ∷ hs) x (λ k d l. all_over k d l f p)
  where
    all_over : (k : ℕ) (d : Run) → k < length (h ∷ hs) → x <ℤ h.from → h.from ≤ℤ h.to → x <ℤ (get_or (h ∷ hs) k d).from
    all_over zero d l f p = f
    all_over (suc k) d l f p = let g = a.1 k d (omega (arith, l)) in omega (arith, ints, f, p, g)
none_between (h ∷ hs) (suc i) x a b d n =
    ap (λ (t : Bool). t || is_on hs x) (has_not_over h x (All-head (λ (g : Run). g.to <ℤ x) h (take i hs) b))
    ∙ none_between hs i x a.2 (All-tail (λ (g : Run). g.to <ℤ x) h (take i hs) b) d (λ l. n (omega (arith, l)))

pub some_there : (hs : List Run) (i : ℕ) (d : Run) (x : ℤ) → i < length hs → (get_or hs i d).from ≤ℤ x
    → x ≤ℤ (get_or hs i d).to → is_on hs x ≡ true
some_there hs i d x l a b = place_on hs (get_or hs i d) x (Contains-get_or hs i d l) a b

or_false : (b : Bool) → (b || false) ≡ b
or_false true = refl
or_false false = refl

-- the places from one on and before another that lie on no hole
abbrev pub is_free_from : List Run → ℤ → ℤ → ℤ → Bool
is_free_from hs low until x = (int_le low x && int_lt x until) && not (is_on hs x)

module _ (hs : List Run) (i : ℕ) (d : Run) (a : AreApart hs) (low from : ℤ) (o : low ≤ℤ from)
    (b : All (λ (h : Run). h.to <ℤ from) (take i hs)) where
  behind_them : (x : ℤ) → from ≤ℤ x → All (λ (h : Run). h.to <ℤ x) (take i hs)
  behind_them x k = All-weaker (λ (h : Run). h.to <ℤ from) (λ (h : Run). h.to <ℤ x) (λ h l. omega (arith, ints, k, l))
      (take i hs) b

  -- one hole more is passed
  pub one_hole : (next x : ℤ) → i < length hs
      → ((next ≡ from) × ((get_or hs i d).to <ℤ from)) ⊎ ((next ≡ (get_or hs i d).to +ℤ pos 1) × (from ≤ℤ next))
      → (is_free_from hs low from x || (int_le from x && int_le x ((get_or hs i d).from -ℤ pos 1)))
      ≡ is_free_from hs low next x
  one_hole next x l n = by_order (order from x) from_on before
    where
      before : x <ℤ from
          → (is_free_from hs low from x || (int_le from x && int_le x ((get_or hs i d).from -ℤ pos 1)))
          ≡ is_free_from hs low next x
      before k =
          let p : int_lt x from ≡ true = sym (omega (arith, ints, k)) in
          let q : int_le from x ≡ false = sym (omega (arith, ints, k)) in
          let r : int_lt x next ≡ true = elim n [
            | inl m ↦ let e = m.0 in sym (omega (arith, ints, k, e))
            | inr m ↦ let f = m.1 in sym (omega (arith, ints, k, f))
          ] in
          rw (p, q, r) (or_false _)

      from_on : from ≤ℤ x
          → (is_free_from hs low from x || (int_le from x && int_le x ((get_or hs i d).from -ℤ pos 1)))
          ≡ is_free_from hs low next x
      from_on k =
          let h = get_or hs i d in
          let s = is_some hs h a (Contains-get_or hs i d l) in
          let p : int_lt x from ≡ false = sym (omega (arith, ints, k)) in
          let q : int_le from x ≡ true = sym (omega (arith, ints, k)) in
          let low_on : int_le low x ≡ true = sym (omega (arith, ints, k, o)) in
          by_order (order x h.to)
          (λ t.
          let r : int_lt x next ≡ true = elim n [
            | inl m ↦ let e = m.1 in absurd (omega (arith, ints, k, t, e))
            | inr m ↦ let e = m.0 in sym (omega (arith, ints, t, e))
          ] in
          by_order (order h.from x)
          (λ u.
          let v : int_le x (h.from -ℤ pos 1) ≡ false = sym (omega (arith, ints, u)) in
          let w : is_on hs x ≡ true = some_there hs i d x l u t in
          rw (p, q, low_on, r, v, w) refl)
          (λ u.
          let v : int_le x (h.from -ℤ pos 1) ≡ true = sym (omega (arith, ints, u)) in
          let w : is_on hs x ≡ false = none_between hs i x a (behind_them x k) d (λ _. u) in
          rw (p, q, low_on, r, v, w) refl))
          (λ t.
          let r : int_lt x next ≡ false = elim n [
            | inl m ↦ let e = m.0 in sym (omega (arith, ints, k, e))
            | inr m ↦ let e = m.0 in sym (omega (arith, ints, t, e))
          ] in
          let v : int_le x (h.from -ℤ pos 1) ≡ false = sym (omega (arith, ints, s, t)) in
          rw (p, q, low_on, r, v) refl)

  -- and the rest of the run
  pub the_rest : (run : Run) (end x : ℤ) → low ≡ run.from → from ≤ℤ run.to → IsEnd run hs i end
      → (i < length hs → run.to ≤ℤ (get_or hs i d).to)
      → (is_free_from hs low from x || (int_le from x && int_le x end)) ≡ (has_place run x && not (is_on hs x))
  the_rest run end x e f n t = by_order (order from x) from_on before
    where
      before : x <ℤ from
          → (is_free_from hs low from x || (int_le from x && int_le x end)) ≡ (has_place run x && not (is_on hs x))
      before k =
          let p : int_lt x from ≡ true = sym (omega (arith, ints, k)) in
          let q : int_le from x ≡ false = sym (omega (arith, ints, k)) in
          let r : int_le x run.to ≡ true = sym (omega (arith, ints, k, f)) in
          rw (e, p, q, r) (or_false _)

      from_on : from ≤ℤ x
          → (is_free_from hs low from x || (int_le from x && int_le x end)) ≡ (has_place run x && not (is_on hs x))
      from_on k =
          let p : int_lt x from ≡ false = sym (omega (arith, ints, k)) in
          let q : int_le from x ≡ true = sym (omega (arith, ints, k)) in
          let low_on : int_le low x ≡ true = sym (omega (arith, ints, k, o)) in
          let run_on : int_le run.from x ≡ true = sym (omega (arith, ints, k, o, e)) in
          let most = n.most in
          by_order (order x end)
          (λ u.
          let v : int_le x end ≡ true = sym (omega (arith, ints, u)) in
          let r : int_le x run.to ≡ true = sym (omega (arith, ints, u, most)) in
          let w : is_on hs x ≡ false = none_between hs i x a (behind_them x k) d
          (λ l. let z = n.before d l in omega (arith, ints, u, z)) in
          rw (p, q, low_on, run_on, v, r, w) refl)
          (λ u. by_order (order x run.to)
          (λ s.
          let v : int_le x end ≡ false = sym (omega (arith, ints, u)) in
          let r : int_le x run.to ≡ true = sym (omega (arith, ints, s)) in
          let z = n.reaches d (omega (arith, ints, u, s)) in
          let g = z.1 in
          let j = t z.0 in
          let w : is_on hs x ≡ true = some_there hs i d x z.0 (omega (arith, ints, g, u)) (omega (arith, ints, s, j)) in
          rw (p, q, low_on, run_on, v, r, w) refl)
          (λ s.
          let v : int_le x end ≡ false = sym (omega (arith, ints, u)) in
          let r : int_le x run.to ≡ false = sym (omega (arith, ints, s)) in
          rw (p, q, low_on, run_on, v, r) refl))
