-- Split keeps a board sound, and a board opens sound.
use Rattle.std.proofs.Common.{◌≡◌, ℕ, ◌+◌, ◌<◌, inr, ⊎_elim, min, List, [], ◌∷◌, ◌++◌, set, sym, refl, ap, ◌∙◌, subst, arith, All, Contains, sum_by}
use Rattle.std.proofs.lemmas.List.Sums.{sum_by_push, sum_by-cons}
use Rattle.std.proofs.lemmas.List.{set-set}
use Rattle.std.proofs.lemmas.Bool.{false≢true, cases_lt}
use Rattle.std.proofs.lemmas.List.Elements.{All-set, All-push, All-weaker, All-cons, All-nil}
use mathlib.Core.Option.{some}
use lib.ListN.{get_elem?}
use Rattle.layer_board.specs.declared.view.View.{View}
use Rattle.layer_board.specs.Numbers.{below, lowest}
use Rattle.layer_board.specs.Pass.{opened, spent, gives, given}
use Rattle.layer_board.specs.Events.{IsLive, opening}
use Rattle.layer_board.specs.Sound.{IsSoundPass, IsSound, given_of}
use Rattle.layer_board.proofs.Lists.{All-at, sum_out, flat_sum, part_le_sum, none_of_sum, flat_push}
use Rattle.layer_board.proofs.Counts.{is, is_other, counts_contained, counts_once, counts_past, below_more}
use Rattle.layer_board.proofs.Steps.{board, ended_of, sum_changed, lowest_changed, members_sum, drawn_sum}
use Rattle.layer_board.proofs.Events.{counted, sound_at}

-- how often 0 is a member of the pass
abbrev first_of : View → ℕ
first_of v = sum_by (is 0) v.members

-- no pass but that at the place has member 0
pub only_first : (c n l : ℕ) (vs : List View) (i : ℕ) (v : View) → get_elem? vs i ≡ some v → Contains v.members 0
    → IsSound c (board n l vs)
    → All (λ u. ¬ Contains u.members 0) (set vs i spent)
only_first c n l vs i v e t k =
    let a = sum_out first_of spent refl vs i v e in
    let b = members_sum c (board n l vs) k (is 0) in
    let d = counts_once 0 (given_of vs) in
    let g : 0 < first_of v = counts_contained 0 v.members t in
    let z = none_of_sum first_of (set vs i spent) (omega arith) in
    All-weaker (λ u. first_of u ≡ 0) (λ u. ¬ Contains u.members 0) (λ u h x. let p = counts_contained 0 u.members x in omega arith) (set vs i spent) z

module _ (c n l : ℕ) (vs : List View) (i : ℕ) (v : View) (e : get_elem? vs i ≡ some v) (first : Contains v.members 0) (k : IsSound c (board n l vs)) where
  sum_split : (f : View → ℕ) → f spent ≡ 0 → sum_by f (set vs i (gives v) ++ given v ∷ []) + f v ≡ sum_by f vs + f
      (gives v) + f (given v)
  sum_split f z = let p = sum_changed f z vs i v (gives v) e in omega (arith, sum_by_push f (set vs i (gives v)) (given v))

  pub more_given : given_of (set vs i (gives v) ++ given v ∷ []) ≡ given_of vs + 1
  more_given = let p = sum_split (λ u. u.given) refl in omega arith

  pub counts_all : v.given ≡ given_of vs
  counts_all = All-at (λ u. Contains u.members 0 → u.given ≡ given_of vs) vs i v e k.counts first

  some_given : 0 < given_of vs
  some_given =
      let a = part_le_sum first_of vs i v e in
      let b = members_sum c (board n l vs) k (is 0) in
      let g : 0 < first_of v = counts_contained 0 v.members first in
      ⊎_elim (λ h. h) (λ h. let z = counts_past 0 (given_of vs) h in absurd (omega arith)) (cases_lt 0 (given_of vs))

  counts_new : All (λ u. Contains u.members 0 → u.given ≡ given_of vs + 1) (set vs i (gives v))
  counts_new = subst (λ us. All (λ u. Contains u.members 0 → u.given ≡ given_of vs + 1) us)
      (set-set vs i spent (gives v))
      (All-set (λ u. Contains u.members 0 → u.given ≡ given_of vs + 1) (set vs i spent) i (gives v)
      (λ t. ap (λ g. g + 1) counts_all)
      (All-weaker (λ u. ¬ Contains u.members 0) (λ u. Contains u.members 0 → u.given ≡ given_of vs + 1)
      (λ u h t. absurd (h t)) (set vs i spent) (only_first c n l vs i v e first k)))

  not_first : ¬ Contains (v.given ∷ []) 0
  not_first t =
      let p = counts_contained 0 (v.given ∷ []) t in
      let q = sum_by-cons (is 0) v.given [] in
      let nothing : sum_by (is 0) [] ≡ 0 = refl in
      let a = counts_all in
      let g = some_given in
      let z = is_other 0 v.given (λ x. omega arith) in omega arith

  sound_v : IsSoundPass c n l v
  sound_v = sound_at c n l vs i v e k

  pub split_sound : IsLive v → IsSound c (board n l (set vs i (gives v) ++ given v ∷ []))
  split_sound live = record {
    members = λ h.
        let p = sum_split (λ u. sum_by h u.members) refl in
        let q = sum_by-cons h v.given [] in let nothing : sum_by h [] ≡ 0 = refl in
        let r = members_sum c (board n l vs) k h in
        let s = below_more h (given_of vs) in
        let t : h v.given ≡ h (given_of vs) = ap h counts_all in
        flat_sum h (λ (u : View). u.members) (set vs i (gives v) ++ given v ∷ [])
        ∙ (let goal : sum_by (λ u. sum_by h u.members) (set vs i (gives v) ++ given v ∷ []) ≡ sum_by h (below (given_of vs + 1)) = omega arith in goal)
        ∙ ap (λ g. sum_by h (below g)) (sym more_given);
    counts = subst (λ g. All (λ u. Contains u.members 0 → u.given ≡ g) (set vs i (gives v) ++ given v ∷ []))
        (sym more_given)
        (All-push (λ u. Contains u.members 0 → u.given ≡ given_of vs + 1) (set vs i (gives v)) (given v) counts_new
        (λ t. absurd (not_first t)));
    drawn = λ h.
        let p = sum_split (λ u. sum_by h u.drawn) refl in
        let r = drawn_sum c (board n l vs) k h in
        flat_sum h (λ (u : View). u.drawn) (set vs i (gives v) ++ given v ∷ [])
        ∙ (let goal : sum_by (λ u. sum_by h u.drawn) (set vs i (gives v) ++ given v ∷ []) ≡ sum_by h (below (min n c)) = omega arith in goal);
    least =
        let t = lowest_changed c vs i v (gives v) e in
        k.least ∙ t.1 ∙ sym t.2 ∙ ap (lowest c) (sym (flat_push (λ (u : View). u.failed) (set vs i (gives v)) (given v)
        refl));
    most = let p = sum_split ended_of refl in let q = k.most in omega arith;
    passes = All-push (IsSoundPass c n l) (set vs i (gives v)) (given v)
        (All-set (IsSoundPass c n l) vs i (gives v) (record {
          live = inr (live, counted c n l v live sound_v);
          parts =
              sound_v.parts;
          skipped = sound_v.skipped;
          ended = sound_v.ended;
        }) k.passes)
        (record {
          live = inr (omega arith, counted c n l v live sound_v);
          parts = λ h. refl;
          skipped =
              All-nil (λ m. l < m);
          ended = λ t. absurd (false≢true t);
        });
  }

-- a board opens sound
pub opens : (c : ℕ) → IsSound c (opening c)
opens c = record {
  members = λ h. refl;
  counts = All-cons (λ u. Contains u.members 0 → u.given ≡ 1) (opened c) [] (λ t. refl)
      (All-nil (λ u. Contains u.members 0 → u.given ≡ 1));
  drawn = λ h. ap (λ m. sum_by h (below m)) (let goal : 0 ≡ min 0 c = omega arith in goal);
  least = refl;
  most = omega arith;
  passes = All-cons (IsSoundPass c 0 c) (opened c) [] (record {
    live = inr (omega arith, refl);
    parts = λ h. refl;
    skipped = All-nil (λ m. c < m);
    ended = λ t. absurd (false≢true t);
  }) (All-nil (IsSoundPass c 0 c));
}
