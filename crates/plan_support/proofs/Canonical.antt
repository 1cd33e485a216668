-- Runs that stand apart are the maximal stretches of their places.
use Rattle.std.proofs.Common.{◌≡◌, ◌⊎◌, inl, inr, Bool, true, false, List, [], ◌∷◌, get_or, refl, sym, ap, subst, ◌∙◌, arith, ℤ, pos, ◌+ℤ◌, ◌-ℤ◌, ◌<ℤ◌}
use lib.Signed.{◌≤ℤ◌}
use Rattle.std.specs.Prelude.{Contains, int_le, ◌||◌}
use Rattle.std.proofs.lemmas.Int.{ints}
use Rattle.std.proofs.lemmas.Bool.{both_ways, and_parts}
use Rattle.std.proofs.lemmas.List.Elements.{All-weaker, All-contains, Contains-get_or}
use Rattle.scad_geom.proofs.Rising.{by_order, order}
use Rattle.plan_infill.specs.declared.run.Run.{Run}
use Rattle.plan_infill.specs.Runs.{GoUp}
use Rattle.plan_infill.proofs.Elements.{nothing_in, first_or_other, first_in, other_in}
use Rattle.plan_support.specs.Stretches.{IsStretch, AreStretches}
use Rattle.plan_support.specs.Rows.{AreApart}
use Rattle.plan_support.specs.On.{has_place, is_on}

-- ---- places on runs
pub has : (r : Run) (x : ℤ) → r.from ≤ℤ x → x ≤ℤ r.to → has_place r x ≡ true
has r x a b =
    let p : int_le r.from x ≡ true = sym (omega (arith, ints, a)) in
    let q : int_le x r.to ≡ true = sym (omega (arith, ints, b)) in
    rw (p, q) refl

pub record HasRun (rs : List Run) (x : ℤ) : Type 0 where
  pub run : Run
  pub there : Contains rs run
  pub from : run.from ≤ℤ x
  pub to : x ≤ℤ run.to

pub run_there : (rs : List Run) (x : ℤ) → is_on rs x ≡ true → HasRun rs x
run_there [] x h = absurd (both_ways _ refl h)
run_there (r ∷ rs) x h = by_test (has_place r x) refl h (λ k. run_there rs x k)
  where
    by_test : (t : Bool) → has_place r x ≡ t → (t || is_on rs x) ≡ true → (is_on rs x ≡ true → HasRun rs x)
        → HasRun (r ∷ rs) x
    by_test true e k others =
        let b = and_parts (int_le r.from x) (int_le x r.to) e in
        let f = b.0 in
        let g = b.1 in
        record { run = r; there = first_in r rs; from = omega (arith, ints, f); to = omega (arith, ints, g) }
    by_test false e k others =
        let o = others k in
        record { run = o.run; there = other_in r rs o.run o.there; from = o.from; to = o.to }

pub place_on : (rs : List Run) (r : Run) (x : ℤ) → Contains rs r → r.from ≤ℤ x → x ≤ℤ r.to → is_on rs x ≡ true
place_on [] r x c a b = absurd (nothing_in r c)
place_on (s ∷ ss) r x c a b =
    elim (first_or_other s ss r c) [
      | inl e ↦ ap (λ (t : Bool). t || is_on ss x)
          (ap (λ (q : Run). has_place q x) e ∙ has r x a b)
      | inr o ↦ or_second (has_place s x) (is_on ss x) (place_on ss r x o a b)
    ]
  where
    or_second : (p q : Bool) → q ≡ true → (p || q) ≡ true
    or_second true q e = refl
    or_second false q e = e

-- ---- runs that stand apart
pub is_some : (rs : List Run) (r : Run) → AreApart rs → Contains rs r → r.from ≤ℤ r.to
is_some [] r a c = absurd (nothing_in r c)
is_some (s ∷ ss) r a c =
    elim (first_or_other s ss r c) [
      | inl e ↦ subst (λ (q : Run). q.from ≤ℤ q.to) e a.0
      | inr o ↦ is_some ss r a.2 o
    ]

abbrev Apart : Run → Run → Type 0
Apart r s = (r ≡ s) ⊎ (((r.to +ℤ pos 1) <ℤ s.from) ⊎ ((s.to +ℤ pos 1) <ℤ r.from))

one_or_apart : (rs : List Run) (r s : Run) → AreApart rs → Contains rs r → Contains rs s → Apart r s
one_or_apart [] r s a c d = absurd (nothing_in r c)
one_or_apart (q ∷ qs) r s a c d =
    elim (first_or_other q qs r c) [
      | inl e ↦ elim (first_or_other q qs s d) [
        | inl f ↦ inl (sym e ∙ f)
        | inr o ↦ inr (inl (subst (λ (x : Run). (x.to +ℤ pos 1) <ℤ s.from) e
            (All-contains (λ (x : Run). (q.to +ℤ pos 1) <ℤ x.from) qs s a.1 o)))
      ]
      | inr o ↦ elim (first_or_other q qs s d) [
        | inl f ↦ inr (inr (subst (λ (x : Run). (x.to +ℤ pos 1) <ℤ r.from) f
            (All-contains (λ (x : Run). (q.to +ℤ pos 1) <ℤ x.from) qs r a.1 o)))
        | inr p ↦ one_or_apart qs r s a.2 o p
      ]
    ]

is_false : (b : Bool) → (b ≡ true → ⊥) → b ≡ false
is_false true n = absurd (n refl)
is_false false n = refl

none_before : (rs : List Run) (r : Run) → AreApart rs → Contains rs r → is_on rs (r.from -ℤ pos 1) ≡ false
none_before rs r a c = is_false (is_on rs (r.from -ℤ pos 1)) (λ h. by_run (run_there rs (r.from -ℤ pos 1) h))
  where
    by_run : HasRun rs (r.from -ℤ pos 1) → ⊥
    by_run o =
        let f = o.from in
        let t = o.to in
        let p = is_some rs r a c in
        elim (one_or_apart rs r o.run a c o.there) [
          | inl e ↦ let g : r.from ≡ o.run.from = ap (λ (q : Run). q.from) e in absurd (omega (arith, ints, f, g))
          | inr (inl k) ↦ absurd (omega (arith, ints, f, k, p))
          | inr (inr k) ↦ absurd (omega (arith, ints, t, k))
        ]

none_after : (rs : List Run) (r : Run) → AreApart rs → Contains rs r → is_on rs (r.to +ℤ pos 1) ≡ false
none_after rs r a c = is_false (is_on rs (r.to +ℤ pos 1)) (λ h. by_run (run_there rs (r.to +ℤ pos 1) h))
  where
    by_run : HasRun rs (r.to +ℤ pos 1) → ⊥
    by_run o =
        let f = o.from in
        let t = o.to in
        let p = is_some rs r a c in
        elim (one_or_apart rs r o.run a c o.there) [
          | inl e ↦ let g : r.to ≡ o.run.to = ap (λ (q : Run). q.to) e in absurd (omega (arith, ints, t, g))
          | inr (inl k) ↦ absurd (omega (arith, ints, f, k))
          | inr (inr k) ↦ absurd (omega (arith, ints, t, k, p))
        ]

pub go_up : (rs : List Run) → AreApart rs → GoUp rs
go_up [] a = tt
go_up (r ∷ rs) a = (
  All-weaker (λ (s : Run). (r.to +ℤ pos 1) <ℤ s.from) (λ (s : Run). r.to <ℤ s.from)
      (λ s k. omega (arith, ints, k)) rs a.1,
  go_up rs a.2,
)

-- ---- the stretches of what holds at their places alone
module _ (Holds : ℤ → Type 0) (rs : List Run) (a : AreApart rs) (on_if : (x : ℤ) → Holds x → is_on rs x ≡ true)
    (if_on : (x : ℤ) → is_on rs x ≡ true → Holds x) where
  stretch : (r : Run) → Contains rs r → IsStretch Holds 0 r
  stretch r c =
      let p = is_some rs r a c in
      record {
        long = omega (arith, ints, p);
        holds = λ x f t. if_on x (place_on rs r x c f t);
        before = λ h. both_ways _ (none_before rs r a c) (on_if (r.from -ℤ pos 1) h);
        after = λ h. both_ways _ (none_after rs r a c) (on_if (r.to +ℤ pos 1) h);
      }

  is_there : (r : Run) → IsStretch Holds 0 r → Contains rs r
  is_there r s =
      let l = s.long in
      let o = run_there rs r.from (on_if r.from (s.holds r.from (omega (arith, ints)) (omega (arith, ints, l)))) in
      let q = o.run in
      let f = o.from in
      let t = o.to in
      let start : q.from ≡ r.from = by_order (order r.from q.from)
      (λ k. omega (arith, ints, f, k))
      (λ k. absurd (s.before (if_on (r.from -ℤ pos 1)
      (place_on rs q (r.from -ℤ pos 1) o.there (omega (arith, ints, k)) (omega (arith, ints, t)))))) in
      let end : q.to ≡ r.to = by_order (order q.to r.to)
      (λ k. by_order (order r.to q.to)
      (λ m. omega (arith, ints, k, m))
      (λ m. absurd (both_ways _ (none_after rs q a o.there)
      (on_if (q.to +ℤ pos 1) (s.holds (q.to +ℤ pos 1) (omega (arith, ints, t)) (omega (arith, ints, m)))))))
      (λ k. absurd (s.after (if_on (r.to +ℤ pos 1)
      (place_on rs q (r.to +ℤ pos 1) o.there (omega (arith, ints, f, l)) (omega (arith, ints, k)))))) in
      let same : q ≡ r = λ j. record { from = start j; to = end j } in
      subst (λ (z : Run). Contains rs z) same o.there

  pub are_stretches : AreStretches Holds 0 rs
  are_stretches = record {
    upwards = go_up rs a;
    each = λ k d n. stretch (get_or rs k d) (Contains-get_or rs k d n);
    all = is_there;
  }
