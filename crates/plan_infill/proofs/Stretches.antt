-- The stretches of a test along a line, from place to place.
use Rattle.std.proofs.Common.{◌≡◌, ℕ, Bool, true, false, List, [], ◌∷◌, ◌++◌, Option, None, Some, refl, sym, subst, arith, ℤ, pos, ◌+ℤ◌, ◌-ℤ◌, ◌<ℤ◌}
use lib.Signed.{◌≤ℤ◌}
use Rattle.std.specs.Prelude.{int_le, if◌then◌else◌, All, Contains}
use Rattle.std.proofs.lemmas.Int.{ints}
use Rattle.std.proofs.lemmas.List.Elements.{All-nil, All-head, All-tail, All-push, All-weaker, Contains-append_left, Contains-push}
use Rattle.std.proofs.lemmas.List.{append-nil}
use Rattle.scad_geom.specs.Limits.{coordinate_limit}
use Rattle.scad_geom.proofs.Rising.{by_order, order}
use Rattle.plan_infill.specs.declared.run.Run.{Run}
use Rattle.plan_infill.specs.Runs.{GoUp}
use Rattle.plan_infill.specs.Sweep.{IsStretch, AreStretches, AreStretchesBefore, IsOpen, IsOneValue, HoldsWithin, IsOpenWithin, opened, closed}
use Rattle.std.proofs.lemmas.Bool.{both_ways}

module _ (test : ℤ → Bool) (least : ℕ) where
  -- the ends of a stretch
  in_order : (r : Run) → IsStretch test least r → r.from ≤ℤ r.to
  in_order r s = let l = s.long in omega (arith, ints, l)

  -- where nothing holds before a place no stretch has ended
  pub none_before : (place : ℤ) → ((z : ℤ) → z <ℤ place → test z ≡ false)
      → AreStretchesBefore test least place []
  none_before place h = record {
    upwards = tt;
    each = All-nil (IsStretch test least);
    ended = All-nil (λ r. (r.to +ℤ pos 1) <ℤ place);
    all = λ r s e. absurd (both_ways _ (h r.to (omega (arith, ints, e)))
        (s.holds r.to (in_order r s) (omega (arith, ints))));
  }

  pub none_open : (place : ℤ) → ((z : ℤ) → z <ℤ place → test z ≡ false) → IsOpen test place None
  none_open place h = h (place -ℤ pos 1) (omega (arith, ints))

  later : (place until : ℤ) (rs : List Run) → place <ℤ until → All (λ r. (r.to +ℤ pos 1) <ℤ place) rs
      → All (λ r. (r.to +ℤ pos 1) <ℤ until) rs
  later place until rs h e = All-weaker (λ r. (r.to +ℤ pos 1) <ℤ place) (λ r. (r.to +ℤ pos 1) <ℤ until)
      (λ r k. omega (arith, ints, h, k)) rs e

  -- where it holds up to the next place no more has ended
  deep_before : (place until : ℤ) (rs : List Run) → place <ℤ until → IsOneValue test true place until
      → AreStretchesBefore test least place rs → AreStretchesBefore test least until rs
  deep_before place until rs h v b = record {
    upwards = b.upwards;
    each = b.each;
    ended = later place until rs h b.ended;
    all = λ r s e. by_order (order place (r.to +ℤ pos 1))
        (λ o. absurd (both_ways _ s.after (v (r.to +ℤ pos 1) o e)))
        (λ o. b.all r s o);
  }

  deep_open : (place until : ℤ) (since : Option ℤ) → place <ℤ until → IsOneValue test true place until
      → IsOpen test place since → IsOpen test until (opened true since place)
  deep_open place until None h v o = (h, v, o)
  deep_open place until (Some from) h v o =
      let a = o.0 in (
        omega (arith, ints, a, h),
        (λ z p q. by_order (order place z) (λ k. v z k q) (λ k. o.1 z p k)),
        o.2,
      )

  -- where it doesn't hold, and none was open, no more has ended
  still_before : (place until : ℤ) (rs : List Run) → place <ℤ until → IsOneValue test false place until
      → test (place -ℤ pos 1) ≡ false → AreStretchesBefore test least place rs
      → AreStretchesBefore test least until rs
  still_before place until rs h v n b = record {
    upwards = b.upwards;
    each = b.each;
    ended = later place until rs h b.ended;
    all = λ r s e. by_order (order place (r.to +ℤ pos 1))
        (λ o. by_order (order place r.to)
        (λ k. absurd (both_ways _ (v r.to k (omega (arith, ints, e)))
        (s.holds r.to (in_order r s) (omega (arith, ints)))))
        (λ k. absurd (both_ways _ n (s.holds (place -ℤ pos 1) (let i = in_order r s in omega (arith, ints, i, o, k)) (omega (arith, ints, o, k))))))
        (λ o. b.all r s o);
  }

  -- where it doesn't hold, the stretch that was open has ended
  module _ (place until from : ℤ) (rs : List Run) (h : place <ℤ until) (v : IsOneValue test false place until) (o : IsOpen test place (Some from)) (b : AreStretchesBefore test least place rs) where
    abbrev ended_run : Run
    ended_run = record { from = from; to = place -ℤ pos 1 }

    -- the runs before it end before its start
    ends_before : (r : Run) → IsStretch test least r → (r.to +ℤ pos 1) <ℤ place → r.to <ℤ from
    ends_before r s e = by_order (order from r.to)
        (λ k. absurd (both_ways _ s.after (o.1 (r.to +ℤ pos 1) (omega (arith, ints, k)) e)))
        (λ k. k)

    -- a stretch that has ended since is this one
    is_this : (r : Run) → IsStretch test least r → place ≤ℤ (r.to +ℤ pos 1) → (r.to +ℤ pos 1) <ℤ until
        → r ≡ ended_run
    is_this r s p e =
        let i = in_order r s in
        let to : r.to ≡ place -ℤ pos 1 = by_order (order place r.to)
        (λ k. absurd (both_ways _ (v r.to k (omega (arith, ints, e))) (s.holds r.to i (omega (arith, ints)))))
        (λ k. omega (arith, ints, p, k)) in
        let a = o.0 in
        let start : r.from ≡ from = by_order (order r.from from)
        (λ k. by_order (order from r.from)
        (λ m. omega (arith, ints, k, m))
        (λ m. absurd (both_ways _ o.2 (s.holds (from -ℤ pos 1) (omega (arith, ints, m))
        (omega (arith, ints, to, a))))))
        (λ k. absurd (both_ways _ s.before
        (o.1 (r.from -ℤ pos 1) (omega (arith, ints, k)) (omega (arith, ints, i, to))))) in
        λ j. record { from = start j; to = to j }

    this_one : pos least ≤ℤ ((place -ℤ pos 1) -ℤ from) → IsStretch test least ended_run
    this_one l = record {
      long = l;
      holds = λ z p q. o.1 z p (omega (arith, ints, q));
      before = o.2;
      after = (let e : (place -ℤ pos 1) +ℤ pos 1 ≡ place = omega (arith, ints) in subst (λ (z : ℤ). test z ≡ false) (sym e) (v place (omega (arith, ints)) h));
    }

    up_to_last : (rs : List Run) → GoUp rs → All (λ r. r.to <ℤ from) rs → GoUp (rs ++ (ended_run ∷ []))
    up_to_last [] u e = (All-nil (λ s. ended_run.to <ℤ s.from), tt)
    up_to_last (r ∷ rs) u e = (
      All-push (λ s. r.to <ℤ s.from) rs ended_run u.0
          (All-head (λ r. r.to <ℤ from) r rs e),
      up_to_last rs u.1 (All-tail (λ r. r.to <ℤ from) r rs e),
    )

    all_before : All (λ r. r.to <ℤ from) rs
    all_before = All-weaker (λ r. IsStretch test least r × ((r.to +ℤ pos 1) <ℤ place)) (λ r. r.to <ℤ from)
        (λ r k. ends_before r k.0 k.1) rs (both_all rs b.each b.ended)
      where
        both_all : (xs : List Run) → All (IsStretch test least) xs → All (λ r. (r.to +ℤ pos 1) <ℤ place) xs
            → All (λ r. IsStretch test least r × ((r.to +ℤ pos 1) <ℤ place)) xs
        both_all xs p q k d l = (p k d l, q k d l)

    ended_before : (t : Bool) → int_le (pos least) ((place -ℤ pos 1) -ℤ from) ≡ t
        → AreStretchesBefore test least until (rs ++ (if t then ended_run ∷ [] else []))
    ended_before true q =
        let l : pos least ≤ℤ ((place -ℤ pos 1) -ℤ from) = omega (arith, ints, q) in
        record {
          upwards = up_to_last rs b.upwards all_before;
          each = All-push (IsStretch test least) rs ended_run b.each (this_one l);
          ended = All-push (λ r. (r.to +ℤ pos 1) <ℤ until) rs ended_run (later place until rs h b.ended)
              (omega (arith, ints, h));
          all = λ r s e. by_order (order place (r.to +ℤ pos 1))
              (λ k. subst (Contains (rs ++ (ended_run ∷ []))) (sym (is_this r s k e)) (Contains-push rs ended_run))
              (λ k. Contains-append_left rs (ended_run ∷ []) r (b.all r s k));
        }
    ended_before false q = subst (AreStretchesBefore test least until) (sym (append-nil rs)) (record {
      upwards = b.upwards;
      each = b.each;
      ended = later place until rs h b.ended;
      all = λ r s e. by_order (order place (r.to +ℤ pos 1))
          (λ k. absurd (short q (subst (λ (x : Run). pos least ≤ℤ (x.to -ℤ x.from)) (is_this r s k e) s.long)))
          (λ k. b.all r s k);
    })
      where
        short : int_le (pos least) ((place -ℤ pos 1) -ℤ from) ≡ false
            → pos least ≤ℤ ((place -ℤ pos 1) -ℤ from) → ⊥
        short q l = omega (arith, ints, q, l)

  -- ---- one place on
  pub goes_on : (value : Bool) (place until : ℤ) (since : Option ℤ) (rs : List Run) → place <ℤ until
      → IsOneValue test value place until → IsOpen test place since → AreStretchesBefore test least place rs
      → AreStretchesBefore test least until (rs ++ closed value since place least)
      × IsOpen test until (opened value since place)
  goes_on true place until since rs h v o b = (
    subst (AreStretchesBefore test least until) (sym (append-nil rs))
        (deep_before place until rs h v b),
    deep_open place until since h v o,
  )
  goes_on false place until None rs h v o b = (
    subst (AreStretchesBefore test least until) (sym (append-nil rs))
        (still_before place until rs h v o b),
    v (until -ℤ pos 1) (omega (arith, ints, h)) (omega (arith, ints)),
  )
  goes_on false place until (Some from) rs h v o b = (
    ended_before place until from rs h v o b (int_le (pos least) ((place -ℤ pos 1) -ℤ from)) refl,
    v (until -ℤ pos 1) (omega (arith, ints, h)) (omega (arith, ints)),
  )

  -- where nothing holds from the last place on all have ended
  pub all_ended : (place : ℤ) (rs : List Run) → ((z : ℤ) → (place -ℤ pos 1) ≤ℤ z → test z ≡ false)
      → AreStretchesBefore test least place rs → AreStretches test least rs
  all_ended place rs h b = record {
    upwards = b.upwards;
    each = b.each;
    all = λ r s. by_order (order (place -ℤ pos 1) r.to)
        (λ k. absurd (both_ways _ (h r.to k) (s.holds r.to (in_order r s) (omega (arith, ints)))))
        (λ k. b.all r s (omega (arith, ints, k)));
  }

  pub open_within : (place : ℤ) (since : Option ℤ) → HoldsWithin test → IsOpen test place since
      → IsOpenWithin coordinate_limit since place
  open_within place None w o = tt
  open_within place (Some from) w o =
      let a = o.0 in (
        w from (o.1 from (omega (arith, ints)) a),
        w (place -ℤ pos 1) (o.1 (place -ℤ pos 1) (omega (arith, ints, a)) (omega (arith, ints))),
      )
