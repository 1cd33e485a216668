-- Join keeps a board sound.
use Rattle.std.proofs.Common.{◌≡◌, ℕ, ◌+◌, ◌<◌, ◌≤◌, ◌≢◌, inr, ⊎_elim, min, Bool, true, false, ◌||◌, if◌then◌else◌, List, ◌++◌, length, set, sym, refl, ap, ◌∙◌, subst, arith, All, Contains, sum_by, flat_map, None, option_to_list, length-append}
use Rattle.std.proofs.lemmas.List.Sums.{sum_by-append}
use Rattle.std.proofs.lemmas.List.{set-set, set_comm}
use Rattle.std.proofs.lemmas.List.Elements.{All-set, All-append, Contains-append_cases}
use mathlib.Core.Option.{some}
use lib.ListN.{get_elem?}
use Rattle.atomic_table.proofs.Lists.{set_here, set_else}
use Rattle.layer_board.specs.declared.view.View.{View}
use Rattle.layer_board.specs.Numbers.{below, lowest}
use Rattle.layer_board.specs.Pass.{spent, joins}
use Rattle.layer_board.specs.Events.{IsLive}
use Rattle.layer_board.specs.Sound.{IsSoundPass, IsSound, given_of}
use Rattle.layer_board.proofs.Lists.{at_there, All-at, sum_out, flat_sum, part_le_sum, lowest_both, lowest_out}
use Rattle.layer_board.proofs.Steps.{board, ended_of, sum_changed, members_sum, drawn_sum}
use Rattle.layer_board.proofs.Events.{counted, sound_at, spent_sound}

module _ (c n l : ℕ) (vs : List View) (i j : ℕ) (v w : View) (apart : j ≢ i) (at_i : get_elem? vs i ≡ some v) (at_j : get_elem? vs j ≡ some w) where
  -- the second pass still stands in its place while the first has changed
  second : (u : View) → get_elem? (set vs i u) j ≡ some w
  second u = set_else vs i j u apart ∙ at_j

  within : i < length vs
  within = (at_there vs i v at_i).0

  pub sum_joined : (f : View → ℕ) → f spent ≡ 0 → sum_by f (set (set vs i (joins v w)) j spent) + f v + f w
      ≡ sum_by f vs + f (joins v w)
  sum_joined f z =
      let p = sum_changed f z vs i v (joins v w) at_i in
      let q = sum_changed f z (set vs i (joins v w)) j w spent (second (joins v w)) in omega arith

  -- two passes have no more than all
  pub two_parts : (f : View → ℕ) → f spent ≡ 0 → f v + f w ≤ sum_by f vs
  two_parts f z =
      let p = sum_out f spent z vs i v at_i in
      let q = part_le_sum f (set vs i spent) j w (second spent) in omega arith

  same_rest : set (set (set vs i (joins v w)) j spent) i spent ≡ set (set vs i spent) j spent
  same_rest = set_comm (set vs i (joins v w)) j i spent spent apart ∙ ap (λ us. set us j spent)
      (set-set vs i (joins v w) spent)

  pub lowest_joined : lowest c (flat_map (λ u. u.failed) (set (set vs i (joins v w)) j spent))
      ≡ lowest c (flat_map (λ u. u.failed) vs)
  lowest_joined =
      let failed : View → List ℕ = λ u. u.failed in
      let rest : ℕ = lowest c (flat_map (λ u. u.failed) (set (set vs i spent) j spent)) in
      let a : lowest c (flat_map (λ u. u.failed) vs) ≡ min (lowest c v.failed)
      (lowest c (flat_map (λ u. u.failed) (set vs i spent))) = lowest_out c (λ (u : View). u.failed) spent refl
      vs i v at_i in
      let b : lowest c (flat_map (λ u. u.failed) (set vs i spent)) ≡ min (lowest c w.failed) rest =
      lowest_out c (λ (u : View). u.failed) spent refl (set vs i spent) j w (second spent) in
      let here : get_elem? (set (set vs i (joins v w)) j spent) i ≡ some (joins v w) = set_else (set vs i (joins v w)) j
      i spent (λ e. apart (sym e)) ∙ set_here vs i (joins v w) within in
      let d : lowest c (flat_map (λ u. u.failed) (set (set vs i (joins v w)) j spent))
      ≡ min (lowest c (v.failed ++ w.failed)) rest =
      lowest_out c (λ (u : View). u.failed) spent refl (set (set vs i (joins v w)) j spent) i (joins v w) here
      ∙ ap (λ us. min (lowest c (v.failed ++ w.failed)) (lowest c (flat_map (λ u. u.failed) us))) same_rest in
      let e = lowest_both c v.failed w.failed in omega arith

  either_ended : (a b : Bool) → (P : Type 0) → (a ≡ true → P) → (b ≡ true → P) → a || b ≡ true → P
  either_ended true b P f g t = f refl
  either_ended false b P f g t = g t

  ended_joined : (a b : Bool) (x y : ℕ) → (if a then x else 0) + (if b then y else 0) ≤ (if a || b then x + y else 0)
  ended_joined true true x y = omega arith
  ended_joined true false x y = omega arith
  ended_joined false true x y = omega arith
  ended_joined false false x y = omega arith

  counts_both : IsSound c (board n l vs) → Contains (v.members ++ w.members) 0 → v.given + w.given ≡ given_of vs
  counts_both k t =
      let p = two_parts (λ u. u.given) refl in
      ⊎_elim
      (λ a. let q = All-at (λ u. Contains u.members 0 → u.given ≡ given_of vs) vs i v at_i k.counts a in omega arith)
      (λ b. let q = All-at (λ u. Contains u.members 0 → u.given ≡ given_of vs) vs j w at_j k.counts b in omega arith)
      (Contains-append_cases v.members w.members 0 t)

  without_pending : (u : View) → u.pending ≡ None → IsSoundPass c n l u → (h : ℕ → ℕ) → sum_by h u.drawn
      ≡ sum_by h u.finished + sum_by h u.failed + sum_by h u.skipped
  without_pending u free s h =
      let p : sum_by h u.drawn ≡ sum_by h (u.finished ++ (u.failed ++ u.skipped)) = s.parts h ∙ ap
      (λ o. sum_by h (option_to_list o ++ (u.finished ++ (u.failed ++ u.skipped)))) free in
      omega (arith, sum_by-append h u.finished (u.failed ++ u.skipped), sum_by-append h u.failed u.skipped)

  pass_joined : IsLive v → v.pending ≡ None → w.pending ≡ None → IsSoundPass c n l v → IsSoundPass c n l w
      → IsSoundPass c n l (joins v w)
  pass_joined live free_v free_w sv sw = record {
    live = inr (omega (arith, length-append v.members w.members), counted c n l v live sv);
    parts = λ h.
        let p = without_pending v free_v sv h in
        let q = without_pending w free_w sw h in
        omega (
          arith,
          sum_by-append h v.drawn w.drawn,
          sum_by-append h (v.finished ++ w.finished) ((v.failed ++ w.failed) ++ (v.skipped ++ w.skipped)),
          sum_by-append h (v.failed ++ w.failed) (v.skipped ++ w.skipped),
          sum_by-append h v.finished w.finished,
          sum_by-append h v.failed w.failed,
          sum_by-append h v.skipped w.skipped,
        );
    skipped = All-append (λ m. l < m) v.skipped w.skipped sv.skipped sw.skipped;
    ended = either_ended v.ended w.ended _ (λ e. ((sv.ended e).0, refl)) (λ e. ((sw.ended e).0, refl));
  }

  pub joined : IsLive v → IsLive w → v.pending ≡ None → w.pending ≡ None → IsSound c (board n l vs)
      → IsSound c (board n l (set (set vs i (joins v w)) j spent))
  joined live_v live_w free_v free_w k =
      let sv = sound_at c n l vs i v at_i k in
      let sw = sound_at c n l vs j w at_j k in
      let same_given : given_of (set (set vs i (joins v w)) j spent) ≡ given_of vs = let p = sum_joined (λ u. u.given) refl in omega arith in
      record {
        members = λ h.
            let p = sum_joined (λ u. sum_by h u.members) refl in
            let q = sum_by-append h v.members w.members in
            let r = members_sum c (board n l vs) k h in
            flat_sum h (λ (u : View). u.members) (set (set vs i (joins v w)) j spent)
            ∙ (let goal : sum_by (λ u. sum_by h u.members) (set (set vs i (joins v w)) j spent) ≡ sum_by h (below (given_of vs)) = omega arith in goal)
            ∙ ap (λ g. sum_by h (below g)) (sym same_given);
        counts = subst (λ g. All (λ u. Contains u.members 0 → u.given ≡ g) (set (set vs i (joins v w)) j spent))
            (sym same_given)
            (All-set (λ u. Contains u.members 0 → u.given ≡ given_of vs) (set vs i (joins v w)) j spent (λ t. let none = t.1 in absurd (omega arith))
            (All-set (λ u. Contains u.members 0 → u.given ≡ given_of vs) vs i (joins v w) (counts_both k) k.counts));
        drawn = λ h.
            let p = sum_joined (λ u. sum_by h u.drawn) refl in
            let q = sum_by-append h v.drawn w.drawn in
            let r = drawn_sum c (board n l vs) k h in
            flat_sum h (λ (u : View). u.drawn) (set (set vs i (joins v w)) j spent)
            ∙ (let goal : sum_by (λ u. sum_by h u.drawn) (set (set vs i (joins v w)) j spent) ≡ sum_by h (below (min n c)) = omega arith in goal);
        least = k.least ∙ sym lowest_joined;
        most =
            let p = sum_joined ended_of refl in
            let q = k.most in
            let r = ended_joined v.ended w.ended (length v.members) (length w.members) in
            let s : ended_of (joins v w) ≡ (if v.ended || w.ended then length v.members + length w.members else 0) =
            ap (λ x. if v.ended || w.ended then x else 0) (length-append v.members w.members) in
            omega arith;
        passes = All-set (IsSoundPass c n l) (set vs i (joins v w)) j spent (spent_sound c n l)
            (All-set (IsSoundPass c n l) vs i (joins v w) (pass_joined live_v free_v free_w sv sw) k.passes);
      }
