-- A test on whole numbers that holds in a range alone has its maximal stretches: they are found place by place.
use Rattle.std.proofs.Common.{◌≡◌, ℕ, zero, suc, false, Bool, List, [], ◌++◌, Option, None, ap, subst, arith, ℤ, pos}
use Rattle.std.proofs.Common.{◌+ℤ◌, ◌-ℤ◌, ◌<ℤ◌}
use lib.Signed.{◌≤ℤ◌}
use Rattle.std.proofs.lemmas.Int.{ints}
use Rattle.plan_infill.specs.declared.run.Run.{Run}
use Rattle.plan_infill.specs.Sweep.{AreStretches, AreStretchesBefore, IsOpen, IsOneValue, opened, closed}
use Rattle.plan_infill.proofs.Stretches.{none_before, none_open, goes_on, all_ended}

module _ (test : ℤ → Bool) (least : ℕ) where
  pub record HasStretches : Type 0 where
    pub runs : List Run
    pub are_stretches : AreStretches test least runs

  -- those that have ended before a place, and what goes on there
  record AreSeen (place : ℤ) : Type 0 where
    since : Option ℤ
    runs : List Run
    open_there : IsOpen test place since
    before : AreStretchesBefore test least place runs

  one_place_on : (place : ℤ) → AreSeen place → AreSeen (place +ℤ pos 1)
  one_place_on place s =
      let v : IsOneValue test (test place) place (place +ℤ pos 1) =
      λ z f g. (let e : z ≡ place = omega (arith, ints, f, g) in ap test e) in
      let r = goes_on test least (test place) place (place +ℤ pos 1) s.since s.runs (omega (arith, ints)) v s.open_there
      s.before in
      record {
        since = opened (test place) s.since place;
        runs = s.runs ++ closed (test place) s.since place least;
        open_there = r.1;
        before = r.0;
      }

  module _ (low : ℤ) (none_under : (z : ℤ) → z <ℤ low → test z ≡ false) where
    seen : (n : ℕ) → AreSeen (low +ℤ pos n)
    seen zero =
        let none : (z : ℤ) → z <ℤ (low +ℤ pos 0) → test z ≡ false = λ z h. none_under z (omega (arith, ints, h)) in
        record {
          since = None;
          runs = [];
          open_there = none_open test least (low +ℤ pos 0) none;
          before = none_before test least (low +ℤ pos 0) none;
        }
    seen (suc n) =
        let e : (low +ℤ pos n) +ℤ pos 1 ≡ low +ℤ pos (suc n) = omega (arith, ints) in
        subst AreSeen e (one_place_on (low +ℤ pos n) (seen n))

    pub stretches_of : (n : ℕ) → ((z : ℤ) → ((low +ℤ pos n) -ℤ pos 1) ≤ℤ z → test z ≡ false)
        → HasStretches
    stretches_of n none_over =
        let s = seen n in
        record { runs = s.runs; are_stretches = all_ended test least (low +ℤ pos n) s.runs none_over s.before }
