-- Every event keeps a board sound, and its failed and finished layers true to the verdicts; so all orders of events end
-- alike.
use Rattle.std.proofs.Common.{◌≡◌, ℕ, Bool, true, false, if◌then◌else◌, nat_lt, List, [], ◌∷◌, length, get_or, set, sym, refl, ap, ◌∙◌, subst, arith, All, Contains, Option, Some, None, IfSome, option_to_list, get_or-set_same, get_or-set_other, length-set}
use Rattle.std.specs.List.{position_or_len}
use Rattle.std.proofs.lemmas.List.Sums.{position_or_len_is}
use Rattle.std.proofs.lemmas.List.{get_or_default}
use Rattle.std.proofs.lemmas.List.Elements.{All-set, All-push, All-append, All-nil, All-cons, All-contains}
use native.Mathlib.Decide.{ℕ_discrete}
use mathlib.Core.Logic.{dite}
use mathlib.Core.Option.{some}
use lib.ListN.{get_elem?}
use Rattle.layer_board.specs.declared.view.View.{View}
use Rattle.layer_board.specs.Numbers.{lowest}
use Rattle.layer_board.specs.Pass.{opened, spent, gives, given, draws, ends, claims, skips, is_above, looks, fails, finishes, joins}
use Rattle.layer_board.specs.Events.{BoardState, opening, Event, Split, Claim, Look, Fail, Finish, Join, pass_at, IsLive, Allowed, put, after, Runs}
use Rattle.layer_board.specs.Sound.{IsSound}
use Rattle.layer_board.specs.Calls.{Closed}
use Rattle.layer_board.specs.Orders.{verdict, IsJudged, AreJudged, IsLast, OrdersAgree, StaysSound}
use Rattle.layer_board.proofs.Lists.{at_live, All-at, lowest_le}
use Rattle.layer_board.proofs.Counts.{lowest_among}
use Rattle.layer_board.proofs.Events.{claimed, looked, failed, finished}
use Rattle.layer_board.proofs.Splitting.{split_sound, opens}
use Rattle.layer_board.proofs.Joining.{joined}
use Rattle.layer_board.proofs.Ending.{closes}

live_there : (s : BoardState) (i : ℕ) → IsLive (pass_at s i) → get_elem? s.passes i ≡ some (pass_at s i)
live_there s i live = at_live (λ (u : View). length u.members) spent refl s.passes i live

pending_there : (s : BoardState) (i n : ℕ) → (pass_at s i).pending ≡ Some n → get_elem? s.passes i ≡ some (pass_at s i)
pending_there s i n p =
    let one : length (option_to_list (pass_at s i).pending) ≡ 1 = ap (λ o. length (option_to_list o)) p in
    at_live (λ (u : View). length (option_to_list u.pending)) spent refl s.passes i (omega arith)

first_lives : (v : View) → Contains v.members 0 → IsLive v
first_lives v t = let l = t.1 in omega arith

after_sound : (c : ℕ) (e : Event) (s : BoardState) → Allowed e s → IsSound c s → IsSound c (after e s)
after_sound c (Split i) s a k = let live = first_lives (pass_at s i) a.0 in split_sound c s.next s.least s.passes i (pass_at s i) (live_there s i live) a.0 k live
after_sound c (Claim i) s a k = claimed c s.next s.least s.passes i (pass_at s i) (live_there s i a.0) a.0 a.1 a.2 k
after_sound c (Look i) s a k = looked c s.next s.least s.passes i (pass_at s i) a.0 (pending_there s i a.0 a.1) a.1 k
after_sound c (Fail i) s a k = failed c s.next s.least s.passes i (pass_at s i) a.0 (pending_there s i a.0 a.1) a.1 k
after_sound c (Finish i) s a k = finished c s.next s.least s.passes i (pass_at s i) a.0 (pending_there s i a.0 a.1) a.1
    k
after_sound c (Join i j) s a k = joined c s.next s.least s.passes i j (pass_at s i) (pass_at s j) a.0
    (live_there s i a.1) (live_there s j a.2) a.1 a.2 a.3 a.4 k

pub runs_sound : (c : ℕ) (es : List Event) (s t : BoardState) → Runs es s t → IsSound c s → IsSound c t
runs_sound c [] s t e k = subst (IsSound c) (sym e) k
runs_sound c (e ∷ es) s t r k = runs_sound c es (after e s) t r.1 (after_sound c e s r.0 k)

pub stays_sound : StaysSound
stays_sound count events end r = runs_sound count events (opening count) end r (opens count)

module _ (verdicts : List Bool) where
  -- the pass failed and finished layers by their verdicts alone
  record Fair (v : View) : Type 0 where
    failed : All (λ n. verdict verdicts n ≡ true) v.failed
    finished : All (λ n. verdict verdicts n ≡ false) v.finished

  spent_fair : Fair spent
  spent_fair = record {
    failed = All-nil (λ n. verdict verdicts n ≡ true);
    finished = All-nil (λ n. verdict verdicts n
        ≡ false);
  }

  by_pending : (P : ℕ → Type 0) (o : Option ℕ) → IfSome o P → All P (option_to_list o)
  by_pending P None h = All-nil P
  by_pending P (Some n) h = All-cons P n [] h (All-nil P)

  fair_at : (s : BoardState) (i : ℕ) → get_elem? s.passes i ≡ some (pass_at s i) → All Fair s.passes
      → Fair (pass_at s i)
  fair_at s i e f = All-at Fair s.passes i (pass_at s i) e f

  fair_choice : (b : Bool) (v w : View) → Fair v → Fair w → Fair (if b then v else w)
  fair_choice true v w f g = f
  fair_choice false v w f g = g

  after_fair : (e : Event) (s : BoardState) → Allowed e s → IsJudged verdicts e s → All Fair s.passes
      → All Fair (after e s).passes
  after_fair (Split i) s a j f =
      let v = fair_at s i (live_there s i (first_lives (pass_at s i) a.0)) f in
      All-push Fair (put i (gives (pass_at s i)) s.passes) (given (pass_at s i))
      (All-set Fair s.passes i (gives (pass_at s i)) (record { failed = v.failed; finished = v.finished }) f)
      (record {
        failed = All-nil (λ n. verdict verdicts n ≡ true);
        finished = All-nil (λ n. verdict verdicts n ≡ false);
      })
  after_fair (Claim i) s a j f =
      let v = fair_at s i (live_there s i a.0) f in
      All-set Fair s.passes i (claims s.next (pass_at s i)) (fair_choice (nat_lt s.next (pass_at s i).count)
      (draws s.next (pass_at s i)) (ends (pass_at s i))
      (record { failed = v.failed; finished = v.finished }) (record { failed = v.failed; finished = v.finished })) f
  after_fair (Look i) s a j f =
      let v = fair_at s i (pending_there s i a.0 a.1) f in
      All-set Fair s.passes i (looks s.least (pass_at s i)) (fair_choice (is_above s.least (pass_at s i).pending)
      (skips (pass_at s i)) (pass_at s i)
      (record { failed = v.failed; finished = v.finished }) v) f
  after_fair (Fail i) s a j f =
      let v = fair_at s i (pending_there s i a.0 a.1) f in
      All-set Fair s.passes i (fails (pass_at s i)) (record {
        failed = All-append (λ n. verdict verdicts n ≡ true) (pass_at s i).failed (option_to_list (pass_at s i).pending)
            v.failed (by_pending (λ n. verdict verdicts n ≡ true) (pass_at s i).pending j);
        finished = v.finished;
      }) f
  after_fair (Finish i) s a j f =
      let v = fair_at s i (pending_there s i a.0 a.1) f in
      All-set Fair s.passes i (finishes (pass_at s i)) (record {
        failed = v.failed;
        finished = All-append (λ n. verdict verdicts n ≡ false) (pass_at s i).finished
            (option_to_list (pass_at s i).pending) v.finished (by_pending (λ n. verdict verdicts n ≡ false)
            (pass_at s i).pending j);
      }) f
  after_fair (Join i j) s a g f =
      let v = fair_at s i (live_there s i a.1) f in
      let w = fair_at s j (live_there s j a.2) f in
      All-set Fair (put i (joins (pass_at s i) (pass_at s j)) s.passes) j spent spent_fair
      (All-set Fair s.passes i (joins (pass_at s i) (pass_at s j)) (record {
        failed = All-append (λ n. verdict verdicts n ≡ true) (pass_at s i).failed (pass_at s j).failed v.failed
            w.failed;
        finished = All-append (λ n. verdict verdicts n ≡ false) (pass_at s i).finished (pass_at s j).finished v.finished
            w.finished;
      }) f)

  runs_fair : (es : List Event) (s t : BoardState) → Runs es s t → AreJudged verdicts es s → All Fair s.passes
      → All Fair t.passes
  runs_fair [] s t e j f = subst (λ u. All Fair u.passes) (sym e) f
  runs_fair (e ∷ es) s t r j f = runs_fair es (after e s) t r.1 j.1 (after_fair e s r.0 j.0 f)

  -- what a board is closed with, where its layers failed and finished by their verdicts
  pub least_is_first : (l : ℕ) (v : View) → Closed (length verdicts) l v → All (λ n. verdict verdicts n ≡ true) v.failed
      → All (λ n. verdict verdicts n ≡ false) v.finished
      → l ≡ position_or_len (λ failed. failed) verdicts
  least_is_first l v k f g =
      let e = k.is_lowest in
      let small = lowest_le (length verdicts) v.failed in
      sym (position_or_len_is (λ (failed : Bool). failed) verdicts l false (omega arith)
      (λ m h. All-contains (λ n. verdict verdicts n ≡ false) v.finished m g (k.finished m h))
      (λ h. subst (λ m. verdict verdicts m ≡ true) (sym e)
      (All-contains (λ n. verdict verdicts n ≡ true) v.failed (lowest (length verdicts) v.failed) f
      (lowest_among (length verdicts) v.failed (omega arith)))))

others : (s : BoardState) (i : ℕ) → IsLast s i → All (λ u. u ≡ spent) (set s.passes i spent)
others s i t k d h = dite (ℕ_discrete k i)
    (λ e. ap (λ m. get_or (set s.passes i spent) m d) e ∙ get_or-set_same s.passes i spent d
    (omega (arith, length-set s.passes i spent)))
    (λ ne. get_or-set_other s.passes i k spent d ne ∙ get_or_default s.passes k d spent
    (omega (arith, length-set s.passes i spent)) ∙ t.others k ne)

pub orders_agree : OrdersAgree
orders_agree verdicts events end last r j t =
    let k = runs_sound (length verdicts) events (opening (length verdicts)) end r (opens (length verdicts)) in
    let f = runs_fair verdicts events (opening (length verdicts)) end r j
    (All-cons (Fair verdicts) (opened (length verdicts)) []
    (record {
      failed = All-nil (λ n. verdict verdicts n ≡ true);
      finished = All-nil (λ n. verdict verdicts n
          ≡ false);
    }) (All-nil (Fair verdicts))) in
    let there = live_there end last t.live in
    let v = fair_at verdicts end last there f in
    least_is_first verdicts end.least (pass_at end last)
    (closes (length verdicts) end.next end.least end.passes last (pass_at end last) there t.ended k (others end last t))
    v.failed v.finished
