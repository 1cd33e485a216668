-- What a board ends with, where one pass is left and was told that all layers are drawn.
use Rattle.std.proofs.Common.{◌≡◌, ℕ, ◌<◌, ◌≤◌, ⊎_elim, min, true, List, [], ◌++◌, length, get_or, set, sym, refl, ap, ◌∙◌, arith, All, Contains, sum_by, option_to_list}
use Rattle.std.proofs.lemmas.List.Sums.{sum_by-append}
use Rattle.std.proofs.lemmas.List.Elements.{All-set, All-weaker, All-contains}
use Rattle.std.proofs.lemmas.Bool.{cases_lt}
use mathlib.Core.Option.{some}
use lib.ListN.{get_elem?}
use Rattle.layer_board.specs.declared.view.View.{View}
use Rattle.layer_board.specs.Numbers.{below, lowest, Rearranged}
use Rattle.layer_board.specs.Pass.{spent}
use Rattle.layer_board.specs.Sound.{IsSoundPass, IsSound, given_of}
use Rattle.layer_board.specs.Calls.{Closed}
use Rattle.layer_board.proofs.Lists.{sum_out, sum_none, none_of_sum, lowest_le, lowest_out, lowest_none}
use Rattle.layer_board.proofs.Counts.{is, contains_counted, counts_below, lowest_at, same_below, length_is_sum, length-below}
use Rattle.layer_board.proofs.Steps.{board, members_sum, drawn_sum}
use Rattle.layer_board.proofs.Events.{sound_at, spent_sound}

module _ (c n l : ℕ) (vs : List View) (i : ℕ) (v : View) (e : get_elem? vs i ≡ some v) (ended : v.ended ≡ true) (k : IsSound c (board n l vs)) where
  sound_v : IsSoundPass c n l v
  sound_v = sound_at c n l vs i v e k

  -- where as many members as there are numbers are in one pass, all others are spent
  pub others_spent : given_of vs ≤ length v.members → All (λ u. u ≡ spent) (set vs i spent)
  others_spent most =
      let a = sum_out (λ (u : View). sum_by (λ _. 1) u.members) spent refl vs i v e in
      let b = members_sum c (board n l vs) k (λ _. 1) in
      let d = length-below (given_of vs) in
      let f = length_is_sum v.members in
      let z = none_of_sum (λ (u : View). sum_by (λ _. 1) u.members) (set vs i spent) (omega arith) in
      let each = All-set (IsSoundPass c n l) vs i spent (spent_sound c n l) k.passes in
      λ q d h. ⊎_elim (λ same. same)
      (λ t. let some_member = t.0 in
      let x = z q d h in
      let y = length_is_sum (get_or (set vs i spent) q d).members in absurd (omega arith))
      (each q d h).live

  module _ (alone : All (λ u. u ≡ spent) (set vs i spent)) where
    -- what all passes have is what this one has
    pub alone_sum : (f : View → ℕ) → f spent ≡ 0 → sum_by f vs ≡ f v
    alone_sum f z =
        let p = sum_out f spent z vs i v e in
        let q = sum_none f (set vs i spent) (All-weaker (λ u. u ≡ spent) (λ u. f u ≡ 0) (λ u h. ap f h ∙ z)
        (set vs i spent) alone) in omega arith

    alone_least : l ≡ lowest c v.failed
    alone_least =
        let p = lowest_out c (λ (u : View). u.failed) spent refl vs i v e in
        let q = lowest_none c (λ (u : View). u.failed) (set vs i spent)
        (All-weaker (λ u. u ≡ spent) (λ u. u.failed ≡ []) (λ u h. ap (λ (x : View). x.failed) h)
        (set vs i spent) alone) in
        let r = k.least in
        let s = lowest_le c v.failed in omega arith

    alone_drawn : Rearranged v.drawn (below c)
    alone_drawn h =
        let t = sound_v.ended ended in
        let past = t.0 in
        sym (alone_sum (λ u. sum_by h u.drawn) refl) ∙ drawn_sum c (board n l vs) k h ∙ same_below h (min n c) c
        (omega arith)

    alone_parts : Rearranged v.drawn (v.finished ++ (v.failed ++ v.skipped))
    alone_parts h = sound_v.parts h ∙ ap (λ o. sum_by h (option_to_list o ++ (v.finished ++ (v.failed ++ v.skipped))))
        (sound_v.ended ended).1

    alone_finished : (m : ℕ) → m < l → Contains v.finished m
    alone_finished m small =
        let a = alone_drawn (is m) in
        let b = alone_least in
        let d = lowest_le c v.failed in
        let f = counts_below m c (omega arith) in
        let g = alone_parts (is m) in
        contains_counted m v.finished
        (⊎_elim (λ h. h)
        (λ none. ⊎_elim
        (λ h. let t = lowest_at c m v.failed (contains_counted m v.failed h) in absurd (omega arith))
        (λ none'. let t = All-contains (λ x. l < x) v.skipped m sound_v.skipped
        (contains_counted m v.skipped (omega (
          arith,
          sum_by-append (is m) v.finished (v.failed ++ v.skipped),
          sum_by-append (is m) v.failed v.skipped,
        ))) in absurd (omega arith))
        (cases_lt 0 (sum_by (is m) v.failed)))
        (cases_lt 0 (sum_by (is m) v.finished)))

    pub closes : Closed c l v
    closes = record { drawn = alone_drawn; parts = alone_parts; is_lowest = alone_least; finished = alone_finished }
