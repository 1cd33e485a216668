-- Runs united one after another.
use Rattle.std.proofs.Common.{◌≡◌, ◌⊎◌, inl, inr, ℕ, ◌+◌, ◌<◌, ◌≤◌, Bool, true, false, cond, List, [], ◌∷◌, ◌++◌, length, get_or, take, refl, sym, ap, subst, ◌∙◌, arith, ℤ, pos, ◌+ℤ◌, ◌<ℤ◌}
use lib.Signed.{◌≤ℤ◌}
use Rattle.std.specs.Prelude.{All, Contains, int_le, int_lt, ◌||◌, ◌&&◌}
use Rattle.std.specs.Int.{int_max}
use Rattle.std.proofs.lemmas.Int.{ints}
use Rattle.std.proofs.lemmas.List.Folds.{list_any-append, list_any_more}
use Rattle.std.proofs.lemmas.List.Elements.{All-nil, All-head, All-tail, All-push, All-weaker, All-cons, All-contains, Contains-push, Contains-append_left, Contains-get_or}
use Rattle.scad_geom.proofs.Rising.{order}
use Rattle.plan_infill.specs.declared.run.Run.{Run}
use Rattle.plan_support.specs.Rows.{AreApart}
use Rattle.plan_support.specs.On.{has_place, is_on}
use Rattle.plan_support.specs.Unite.{StartInOrder, TakeIn}
use Rattle.plan_infill.proofs.Extents.{greater}
use Rattle.plan_support.proofs.Starts.{no_sooner}

-- ---- the last of runs that stand apart
pub record IsLast (front : List Run) (last : Run) : Type 0 where
  pub apart : AreApart front
  pub behind : All (λ (r : Run). (r.to +ℤ pos 1) <ℤ last.from) front
  pub place : last.from ≤ℤ last.to

pub last_of : (front : List Run) (last : Run) → AreApart (front ++ last ∷ []) → IsLast front last
last_of [] last h = record { apart = tt; behind = All-nil (λ (r : Run). (r.to +ℤ pos 1) <ℤ last.from); place = h.0 }
last_of (r ∷ rs) last h =
    let k = last_of rs last h.2 in
    let b : (r.to +ℤ pos 1) <ℤ last.from = last_one rs h.1 in
    record {
      apart = (h.0, all_but rs h.1, k.apart);
      behind = All-cons (λ (s : Run). (s.to +ℤ pos 1) <ℤ last.from) r rs b k.behind;
      place = k.place;
    }
  where
    last_one : (ss : List Run) → All (λ (s : Run). (r.to +ℤ pos 1) <ℤ s.from) (ss ++ last ∷ [])
        → (r.to +ℤ pos 1) <ℤ last.from
    last_one [] a = All-head (λ (s : Run). (r.to +ℤ pos 1) <ℤ s.from) last [] a
    last_one (s ∷ ss) a = last_one ss (All-tail (λ (s : Run). (r.to +ℤ pos 1) <ℤ s.from) s (ss ++ last ∷ []) a)

    all_but : (ss : List Run) → All (λ (s : Run). (r.to +ℤ pos 1) <ℤ s.from) (ss ++ last ∷ [])
        → All (λ (s : Run). (r.to +ℤ pos 1) <ℤ s.from) ss
    all_but [] a = All-nil (λ (s : Run). (r.to +ℤ pos 1) <ℤ s.from)
    all_but (s ∷ ss) a = All-cons (λ (s : Run). (r.to +ℤ pos 1) <ℤ s.from) s ss
        (All-head (λ (s : Run). (r.to +ℤ pos 1) <ℤ s.from) s (ss ++ last ∷ []) a)
        (all_but ss (All-tail (λ (s : Run). (r.to +ℤ pos 1) <ℤ s.from) s (ss ++ last ∷ []) a))

pub apart_push : (front : List Run) (r : Run) → IsLast front r → AreApart (front ++ r ∷ [])
apart_push [] r k = (k.place, All-nil (λ (s : Run). (r.to +ℤ pos 1) <ℤ s.from), tt)
apart_push (q ∷ qs) r k =
    let a = k.apart in (
      a.0,
      All-push (λ (s : Run). (q.to +ℤ pos 1) <ℤ s.from) qs r a.1
          (All-head (λ (s : Run). (s.to +ℤ pos 1) <ℤ r.from) q qs k.behind),
      apart_push qs r (record {
        apart = a.2;
        behind = All-tail (λ (s : Run). (s.to +ℤ pos 1) <ℤ r.from) q qs k.behind;
        place = k.place;
      }),
    )

-- ---- one more run that starts no sooner
module _ (last run : Run) (starts : last.from ≤ℤ run.from) (place : run.from ≤ℤ run.to) (held : last.from ≤ℤ last.to)
  where
    -- where it reaches the last one, the places of both are those of one
    pub joined : (to x : ℤ) → ((to ≡ last.to) × (run.to ≤ℤ last.to)) ⊎ ((to ≡ run.to) × (last.to ≤ℤ run.to))
        → run.from ≤ℤ (last.to +ℤ pos 1)
        → has_place (record { from = last.from; to = to }) x ≡ (has_place last x || has_place run x)
    joined to x m reach = by_tests (int_le last.from x) (int_le x last.to) (int_le run.from x) (int_le x run.to)
        (int_le x to) refl refl refl refl refl m
      where
        by_tests : (p q r s t : Bool) → int_le last.from x ≡ p → int_le x last.to ≡ q → int_le run.from x ≡ r
            → int_le x run.to ≡ s → int_le x to ≡ t
            → ((to ≡ last.to) × (run.to ≤ℤ last.to)) ⊎ ((to ≡ run.to) × (last.to ≤ℤ run.to))
            → (p && t) ≡ ((p && q) || (r && s))
        by_tests false q false s t a b c d e m = refl
        by_tests false q true s t a b c d e m = absurd (omega (arith, ints, a, c, starts))
        by_tests true true r s true a b c d e m = refl
        by_tests true true r s false a b c d e (inl m) = let f = m.0 in absurd (omega (arith, ints, b, e, f))
        by_tests true true r s false a b c d e (inr m) = let f = m.0 in let g = m.1 in
            absurd (omega (arith, ints, b, e, f, g))
        by_tests true false true true true a b c d e m = refl
        by_tests true false false s true a b c d e m = absurd (omega (arith, ints, b, c, reach))
        by_tests true false true false true a b c d e (inl m) = let f = m.0 in absurd (omega (arith, ints, b, e, f))
        by_tests true false true false true a b c d e (inr m) = let f = m.0 in absurd (omega (arith, ints, d, e, f))
        by_tests true false false s false a b c d e m = refl
        by_tests true false true false false a b c d e m = refl
        by_tests true false true true false a b c d e (inl m) = let f = m.0 in let g = m.1 in
            absurd (omega (arith, ints, d, e, f, g))
        by_tests true false true true false a b c d e (inr m) = let f = m.0 in absurd (omega (arith, ints, d, e, f))

regroup : (f l r : Bool) → (f || ((l || r) || false)) ≡ ((f || (l || false)) || r)
regroup true l r = refl
regroup false true r = refl
regroup false false true = refl
regroup false false false = refl

pub on_joined : (front : List Run) (last run one : Run) (x : ℤ) → has_place one x
    ≡ (has_place last x || has_place run x)
    → is_on (front ++ one ∷ []) x ≡ (is_on (front ++ last ∷ []) x || has_place run x)
on_joined front last run one x e =
    list_any-append (λ (r : Run). has_place r x) front (one ∷ [])
    ∙ ap (λ (t : Bool). is_on front x || (t || false)) e
    ∙ regroup (is_on front x) (has_place last x) (has_place run x)
    ∙ ap (λ (t : Bool). t || has_place run x) (sym (list_any-append (λ (r : Run). has_place r x) front (last ∷ [])))

or_false : (b : Bool) → (b || false) ≡ b
or_false true = refl
or_false false = refl

pub on_push : (rs : List Run) (run : Run) (x : ℤ) → is_on (rs ++ run ∷ []) x ≡ (is_on rs x || has_place run x)
on_push rs run x = list_any-append (λ (r : Run). has_place r x) rs (run ∷ [])
    ∙ ap (λ (t : Bool). is_on rs x || t) (or_false (has_place run x))

-- ---- one more run is taken in
abbrev StartsBy : Run → Run → Type 0
StartsBy run r = r.from ≤ℤ run.from

pub taken_first : (old new : List Run) (run : Run) → old ≡ [] → new ≡ run ∷ [] → run.from ≤ℤ run.to → TakeIn old run new
taken_first old new run e f p =
    subst (λ (os : List Run). TakeIn os run new) (sym e) (subst (TakeIn [] run) (sym f) (record {
      apart = (p, All-nil (λ (s : Run). (run.to +ℤ pos 1) <ℤ s.from), tt);
      behind = All-push (StartsBy run) [] run (All-nil (StartsBy run)) (omega (arith, ints));
      on = λ x. or_false (has_place run x);
    }))

pub one_of_two : (x y m : ℤ) → m ≡ int_max x y → ((m ≡ x) × (y ≤ℤ x)) ⊎ ((m ≡ y) × (x ≤ℤ y))
one_of_two x y m e = by_test (int_lt y x) refl e
  where
    by_test : (t : Bool) → int_lt y x ≡ t → m ≡ cond t x y → ((m ≡ x) × (y ≤ℤ x)) ⊎ ((m ≡ y) × (x ≤ℤ y))
    by_test true q k = inl (k, omega (arith, ints, q))
    by_test false q k = inr (k, omega (arith, ints, q))

module _ (old new front : List Run) (last run : Run) (is : old ≡ front ++ last ∷ []) (apart : AreApart old)
    (place : run.from ≤ℤ run.to) (behind : All (StartsBy run) old) where
  parted : IsLast front last
  parted = last_of front last (subst AreApart is apart)

  last_starts : last.from ≤ℤ run.from
  last_starts =
      All-contains (StartsBy run) old last behind
      (subst (λ (os : List Run). Contains os last) (sym is) (Contains-push front last))

  front_starts : All (StartsBy run) front
  front_starts = λ k d l. All-contains (StartsBy run) old (get_or front k d) behind
      (subst (λ (os : List Run). Contains os (get_or front k d)) (sym is)
      (Contains-append_left front (last ∷ []) (get_or front k d) (Contains-get_or front k d l)))

  pub taken_joined : (one : Run) → one.from ≡ last.from → one.to ≡ int_max last.to run.to
      → run.from ≤ℤ (last.to +ℤ pos 1)
      → new ≡ front ++ one ∷ [] → TakeIn old run new
  taken_joined one f t reach n =
      let p = parted.place in
      let s = last_starts in
      let m = one_of_two last.to run.to one.to t in
      let g = (greater last.to run.to one.to t).first in
      subst (λ (os : List Run). TakeIn os run new) (sym is) (subst (TakeIn (front ++ last ∷ []) run) (sym n) (record {
        apart = apart_push front one (record {
          apart = parted.apart;
          behind = subst (λ (z : ℤ). All (λ (r : Run). (r.to +ℤ pos 1) <ℤ z) front) (sym f) parted.behind;
          place = omega (arith, ints, p, f, g);
        });
        behind = All-push (StartsBy run) front one front_starts (omega (arith, ints, f, s));
        on = λ x. on_joined front last run one x
            (ap (λ (z : ℤ). int_le z x && int_le x one.to) f ∙ joined last run s place p one.to x m reach);
      }))

  pub taken_pushed : (last.to +ℤ pos 1) <ℤ run.from → new ≡ (front ++ last ∷ []) ++ run ∷ [] → TakeIn old run new
  taken_pushed far n =
      let p = parted.place in
      let s = last_starts in
      subst (λ (os : List Run). TakeIn os run new) (sym is) (subst (TakeIn (front ++ last ∷ []) run) (sym n) (record {
        apart = apart_push (front ++ last ∷ []) run (record {
          apart = subst AreApart is apart;
          behind = All-push (λ (r : Run). (r.to +ℤ pos 1) <ℤ run.from) front last
              (All-weaker (λ (r : Run). (r.to +ℤ pos 1) <ℤ last.from) (λ (r : Run). (r.to +ℤ pos 1) <ℤ run.from)
              (λ r k. omega (arith, ints, k, s)) front parted.behind) far;
          place = place;
        });
        behind =
            All-push (StartsBy run) (front ++ last ∷ []) run (subst (All (StartsBy run)) is behind)
            (omega (arith, ints));
        on = λ x. on_push (front ++ last ∷ []) run x;
      }))

-- ---- one run after another
pub record UnitedUpTo (runs : List Run) (i : ℕ) (out : List Run) : Type 0 where
  pub apart : AreApart out
  pub behind : (k : ℕ) (d : Run) → i ≤ k → k < length runs → All (λ (r : Run). r.from ≤ℤ (get_or runs k d).from) out
  pub on : (x : ℤ) → is_on out x ≡ is_on (take i runs) x

pub united_start : (runs : List Run) → UnitedUpTo runs 0 []
united_start runs = record {
  apart = tt;
  behind = λ k d a l. All-nil (λ (r : Run). r.from ≤ℤ (get_or runs k d).from);
  on = λ x. refl;
}

pub united_more : (runs : List Run) (i : ℕ) (out new : List Run) (d : Run) → StartInOrder runs → i < length runs
    → UnitedUpTo runs i out → TakeIn out (get_or runs i d) new → UnitedUpTo runs (i + 1) new
united_more runs i out new d order l u t = record {
  apart = t.apart;
  behind =
      λ k e a m. All-weaker (λ (r : Run). r.from ≤ℤ (get_or runs i d).from)
      (λ (r : Run). r.from ≤ℤ (get_or runs k e).from)
      (λ r h. let s = no_sooner runs i k e d order (omega (arith, a)) m in omega (arith, ints, h, s)) new t.behind;
  on = λ x. t.on x
      ∙ ap (λ (b : Bool). b || has_place (get_or runs i d) x) (u.on x)
      ∙ sym (list_any_more (λ (r : Run). has_place r x) runs i d l);
}
