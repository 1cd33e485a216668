-- Where something is decided and doesn't hold far out, its stretches are there, and all of them cover exactly the places
-- where it holds.
use Rattle.std.proofs.Common.{◌≡◌, ℕ, ◌+◌, ◌<◌, ◌≤◌, Bool, true, false, List, arith, ℤ, pos, ◌+ℤ◌, ◌-ℤ◌}
use Rattle.std.specs.Prelude.{unsigned_abs}
use Rattle.std.proofs.lemmas.Int.{ints}
use Rattle.std.proofs.lemmas.Bool.{both_ways}
use Rattle.std.proofs.lemmas.List.Elements.{All-weaker, All-contains}
use Rattle.scad_geom.proofs.Rising.{by_order, order}
use Rattle.plan_infill.specs.declared.run.Run.{Run}
use Rattle.plan_infill.specs.Sweep as tested
use Rattle.plan_infill.proofs.StretchSearch.{stretches_of}
use Rattle.plan_support.specs.On.{is_on}
use Rattle.plan_support.specs.Stretches.{IsStretch, AreStretches}
use Rattle.plan_support.proofs.Canonical.{run_there, place_on}
use Rattle.plan_support.proofs.Wholly.{HasStart, HasEnd, start_of, end_of}
use Rattle.plan_infill.proofs.Deciding.{IsDecided, holds, held, holding, failing}

-- what a stretch covers holds
pub if_on : (Holds : ℤ → Type 0) (least : ℕ) (rs : List Run) → AreStretches Holds least rs → (x : ℤ)
    → is_on rs x ≡ true → Holds x
if_on Holds least rs are x o =
    let r = run_there rs x o in
    (All-contains (IsStretch Holds least) rs r.run are.each r.there).holds x r.from r.to

pub record HasStretches (Holds : ℤ → Type 0) (least : ℕ) : Type 0 where
  pub runs : List Run
  pub are_stretches : AreStretches Holds least runs

module _ (Holds : ℤ → Type 0) (decided : (x : ℤ) → IsDecided (Holds x)) (n : ℕ)
    (near : (x : ℤ) → Holds x → unsigned_abs x ≤ n) where
  abbrev test : ℤ → Bool
  test x = holds (decided x)

  far : (x : ℤ) → n < unsigned_abs x → test x ≡ false
  far x o = failing (decided x) (λ h. let k = near x h in omega (arith, o, k))

  not_tested : (x : ℤ) → test x ≡ false → Holds x → ⊥
  not_tested x e h = both_ways (test x) e (holding (decided x) h)

  -- what holds is covered
  pub on_if : (rs : List Run) → AreStretches Holds 0 rs → (x : ℤ) → Holds x → is_on rs x ≡ true
  on_if rs are x h =
      let s : HasStart test x = start_of test (unsigned_abs x + n + 1) x (λ z o. far z (omega (arith, ints, o)))
      (holding (decided x) h) in
      let e : HasEnd test x = end_of test (unsigned_abs x + n + 1) x (λ z o. far z (omega (arith, ints, o)))
      (holding (decided x) h) in
      let low = s.low in
      let high = e.high in
      let r : Run = record { from = s.from; to = e.to } in
      let stretch : IsStretch Holds 0 r = record {
        long = omega (arith, ints, low, high);
        holds = λ z a b. held (decided z)
            (by_order (order z x) (λ o. s.holds z a o) (λ o. e.holds z (omega (arith, ints, o)) b));
        before = λ k. not_tested (s.from -ℤ pos 1) s.before k;
        after = λ k. not_tested (e.to +ℤ pos 1) e.after k;
      } in
      place_on rs r x (are.all r stretch) low high

  -- and there are all stretches of it
  stretch_of : (least : ℕ) (r : Run) → tested.IsStretch test least r → IsStretch Holds least r
  stretch_of least r s = record {
    long = s.long;
    holds = λ z a b. held (decided z) (s.holds z a b);
    before = λ k. not_tested (r.from -ℤ pos 1) s.before k;
    after = λ k. not_tested (r.to +ℤ pos 1) s.after k;
  }

  of_stretch : (least : ℕ) (r : Run) → IsStretch Holds least r → tested.IsStretch test least r
  of_stretch least r s = record {
    long = s.long;
    holds = λ z a b. holding (decided z) (s.holds z a b);
    before = failing (decided (r.from -ℤ pos 1)) s.before;
    after = failing (decided (r.to +ℤ pos 1)) s.after;
  }

  pub some_stretches : (least : ℕ) → HasStretches Holds least
  some_stretches least =
      let s = stretches_of test least (pos 0 -ℤ pos n) (λ z o. far z (omega (arith, ints, o))) ((n + n) + 2)
      (λ z o. far z (omega (arith, ints, o))) in
      record {
        runs = s.runs;
        are_stretches = record {
          upwards = s.are_stretches.upwards;
          each = All-weaker (tested.IsStretch test least) (IsStretch Holds least) (stretch_of least) s.runs
              s.are_stretches.each;
          all = λ r k. s.are_stretches.all r (of_stretch least r k);
        };
      }
