-- A sound board stays sound where one pass that keeps its members makes a step: Claim, Look, Fail and Finish.
use Rattle.std.proofs.Common.{◌≡◌, ℕ, ◌+◌, ◌<◌, ◌≤◌, ◌⊎◌, ⊎_elim, min, if◌then◌else◌, List, length, set, sym, refl, ap, ◌∙◌, subst, arith, All, Contains, sum_by, flat_map}
use Rattle.std.proofs.lemmas.List.{set-set}
use Rattle.std.proofs.lemmas.List.Elements.{All-set, All-weaker}
use mathlib.Core.Option.{some}
use lib.ListN.{get_elem?}
use Rattle.atomic_table.proofs.Lists.{set_here}
use Rattle.layer_board.specs.declared.view.View.{View}
use Rattle.layer_board.specs.Numbers.{below, lowest}
use Rattle.layer_board.specs.Pass.{spent}
use Rattle.layer_board.specs.Events.{BoardState}
use Rattle.layer_board.specs.Sound.{IsSoundPass, IsSound, given_of}
use Rattle.layer_board.proofs.Lists.{at_there, All-at, sum_out, flat_sum, lowest_out, part_le_sum}

abbrev pub board : ℕ → ℕ → List View → BoardState
board next least passes = record { next = next; least = least; passes = passes }

abbrev pub ended_of : View → ℕ
ended_of v = if v.ended then length v.members else 0

-- what a pass may be still holds where next rises and least falls
pub stays : (c n l n' l' : ℕ) → n ≤ n' → l' ≤ l → (v : View) → IsSoundPass c n l v → IsSoundPass c n' l' v
stays c n l n' l' up down v s = record {
  live = s.live;
  parts = s.parts;
  skipped = All-weaker (λ k. l < k) (λ k. l' < k) (λ k h. omega arith) v.skipped s.skipped;
  ended = λ e. let t = s.ended e in let more = t.0 in (omega arith, t.1);
}

-- the sum over all passes, with one of them changed
pub sum_changed : (f : View → ℕ) → f spent ≡ 0 → (vs : List View) (i : ℕ) (v w : View) → get_elem? vs i ≡ some v
    → sum_by f (set vs i w) + f v ≡ sum_by f vs + f w
sum_changed f z vs i v w e =
    let t = at_there vs i v e in
    let p = sum_out f spent z vs i v e in
    let q = sum_out f spent z (set vs i w) i w (set_here vs i w t.0) in
    let r : sum_by f (set (set vs i w) i spent) ≡ sum_by f (set vs i spent) = ap (sum_by f) (set-set vs i w spent) in
    omega arith

-- the least number of all passes, with one of them changed
pub lowest_changed : (c : ℕ) (vs : List View) (i : ℕ) (v w : View) → get_elem? vs i ≡ some v
    → (rest : ℕ) × (lowest c (flat_map (λ u. u.failed) vs) ≡ min (lowest c v.failed) rest)
    × (lowest c (flat_map (λ u. u.failed) (set vs i w)) ≡ min (lowest c w.failed) rest)
lowest_changed c vs i v w e =
    let t = at_there vs i v e in (
      lowest c (flat_map (λ u. u.failed) (set vs i spent)),
      lowest_out c (λ (u : View). u.failed) spent refl vs i v e,
      lowest_out c (λ (u : View). u.failed) spent refl (set vs i w) i w (set_here vs i w t.0)
          ∙ ap (λ us. min (lowest c w.failed) (lowest c (flat_map (λ u. u.failed) us))) (set-set vs i w spent),
    )

-- the members, the numbers given and the layers drawn, as sums
pub members_sum : (c : ℕ) (s : BoardState) → IsSound c s → (h : ℕ → ℕ) → sum_by (λ v. sum_by h v.members) s.passes
    ≡ sum_by h (below (given_of s.passes))
members_sum c s k h = sym (flat_sum h (λ (v : View). v.members) s.passes) ∙ k.members h

pub drawn_sum : (c : ℕ) (s : BoardState) → IsSound c s → (h : ℕ → ℕ) → sum_by (λ v. sum_by h v.drawn) s.passes
    ≡ sum_by h (below (min s.next c))
drawn_sum c s k h = sym (flat_sum h (λ (v : View). v.drawn) s.passes) ∙ k.drawn h

-- what a step of one pass keeps
pub record Moves (c n l n' l' : ℕ) (v w : View) : Type 0 where
  pub up : n ≤ n'
  pub down : l' ≤ l
  pub members : w.members ≡ v.members
  pub given : w.given ≡ v.given
  pub drawn : (h : ℕ → ℕ) → sum_by h w.drawn + sum_by h (below (min n c)) ≡ sum_by h v.drawn + sum_by h
      (below (min n' c))
  pub most : n' + ended_of v ≤ n + ended_of w ⊎ (n' + ended_of v ≤ c + ended_of w)
  pub pass : IsSoundPass c n' l' w

pub moved : (c n l n' l' : ℕ) (vs : List View) (i : ℕ) (v w : View) → get_elem? vs i ≡ some v → Moves c n l n' l' v w
    → l' ≡ lowest c (flat_map (λ u. u.failed) (set vs i w))
    → IsSound c (board n l vs) → IsSound c (board n' l' (set vs i w))
moved c n l n' l' vs i v w e m least k =
    let same_given : given_of (set vs i w) ≡ given_of vs = let p = sum_changed (λ u. u.given) refl vs i v w e in let g = m.given in omega arith in
    let passes = k.passes in
    let counts = k.counts in
    record {
      members = λ h.
          let p = sum_changed (λ u. sum_by h u.members) refl vs i v w e in
          let q : sum_by h w.members ≡ sum_by h v.members = ap (sum_by h) m.members in
          let r = members_sum c (board n l vs) k h in
          flat_sum h (λ (u : View). u.members) (set vs i w) ∙ (let goal : sum_by (λ u. sum_by h u.members) (set vs i w) ≡ sum_by h (below (given_of vs)) = omega arith in goal) ∙ ap (λ g. sum_by h (below g)) (sym same_given);
      counts = subst (λ g. All (λ u. Contains u.members 0 → u.given ≡ g) (set vs i w)) (sym same_given)
          (All-set (λ u. Contains u.members 0 → u.given ≡ given_of vs) vs i w
          (λ t. m.given ∙ All-at (λ u. Contains u.members 0 → u.given ≡ given_of vs) vs i v e counts
          (subst (λ ms. Contains ms 0) m.members t)) counts);
      drawn = λ h.
          let p = sum_changed (λ u. sum_by h u.drawn) refl vs i v w e in
          let q = m.drawn h in
          let r = drawn_sum c (board n l vs) k h in
          flat_sum h (λ (u : View). u.drawn) (set vs i w) ∙ (let goal : sum_by (λ u. sum_by h u.drawn) (set vs i w) ≡ sum_by h (below (min n' c)) = omega arith in goal);
      least = least;
      most =
          let p = sum_changed ended_of refl vs i v w e in
          let q = k.most in
          let r = part_le_sum ended_of vs i v e in
          ⊎_elim (λ h. omega arith) (λ h. omega arith) m.most;
      passes = All-set (IsSoundPass c n' l') vs i w m.pass (All-weaker (IsSoundPass c n l) (IsSoundPass c n' l')
          (stays c n l n' l' m.up m.down) vs passes);
    }
