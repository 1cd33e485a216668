-- Each step of the table is an event of the board, and so keeps the rule.
use Rattle.std.proofs.Common.{◌≡◌, ℕ, ◌+◌, ◌%◌, ◌^◌, ◌<◌, ◌≤◌, ⊎_elim, min, Bool, true, false, nat_lt, if◌then◌else◌, List, [], ◌∷◌, length, get_or, set, sym, refl, ap, ◌∙◌, subst, subst₂, arith, All, Contains, sum_by, Some, None, option_to_list, length-set, get_or-set_same, get_or-set_other, mod-eq_of_lt, slice_index, slice_set}
use Rattle.std.proofs.lemmas.List.Sums.{sum_by-cons}
use Rattle.std.proofs.lemmas.List.Elements.{Contains-get_or}
use Rattle.std.proofs.lemmas.Bool.{cases_lt}
use mathlib.Core.Option.{some, none}
use lib.ListN.{get_elem?}
use Rattle.atomic_table.specs.Table.{State, Me, step, keeps, stepped, Allows, Splits, Joins, Final, Seen}
use Rattle.atomic_table.proofs.Lists.{set_again, set_else, set_here}
use Rattle.layer_board.specs.declared.view.View.{View}
use Rattle.layer_board.specs.declared.view.Size.{Size}
use Rattle.layer_board.specs.Limits.{worker_limit}
use Rattle.layer_board.specs.Numbers.{lowest}
use Rattle.layer_board.specs.Pass.{opened, spent, gives, given, draws, ends, claims, skips, is_above, looks, fails, finishes, joins}
use Rattle.layer_board.specs.Events.{BoardState, IsLive}
use Rattle.layer_board.specs.Sound.{IsSound, given_of}
use Rattle.layer_board.specs.Rule.{board_of, IsBoard, Claimed, Looked, Failed, Finished, Counted}
use Rattle.layer_board.specs.Calls.{Closed}
use Rattle.layer_board.proofs.Ending.{closes, others_spent}
use Rattle.layer_board.proofs.Lists.{at_there, part_le_sum, lowest_le}
use Rattle.layer_board.proofs.Counts.{is, counts_contained, counts_past, length_is_sum, length-below}
use Rattle.layer_board.proofs.Steps.{board, ended_of, sum_changed, lowest_changed, members_sum, drawn_sum}
use Rattle.layer_board.proofs.Events.{counted, sound_at, claimed, looked, failed, finished}
use Rattle.layer_board.proofs.Splitting.{split_sound, more_given, counts_all, opens}
use Rattle.layer_board.proofs.Joining.{joined, sum_joined}

sum_mono : (f g : View → ℕ) → ((v : View) → f v ≤ g v) → (vs : List View) → sum_by f vs ≤ sum_by g vs
sum_mono f g le [] = omega arith
sum_mono f g le (x ∷ xs) = let ih = sum_mono f g le xs in let p = le x in omega (arith, sum_by-cons f x xs, sum_by-cons g x xs)

ended_few : (v : View) → ended_of v ≤ sum_by (λ _. 1) v.members
ended_few v = let p = length_is_sum v.members in
    elim v.ended as (λ b. (if b then length v.members else 0) ≤ sum_by (λ _. 1) v.members)
    [ true ↦ omega arith | false ↦ omega arith ]

-- a board has given at least as many numbers as it has members
members_given : (c : ℕ) (s : BoardState) → IsSound c s → sum_by (λ v. sum_by (λ _. 1) v.members) s.passes
    ≡ given_of s.passes
members_given c s k = members_sum c s k (λ _. 1) ∙ length-below (given_of s.passes)

-- next lies within the limit of workers of the number of layers
pub next_within : (size : Size) (s : State (Unit {0}) View) → IsBoard size s → slice_index s.words 0 ≤ size.count + worker_limit
next_within size s b =
    let p = members_given size.count (board_of s) b.sound in
    let q = sum_mono ended_of (λ v. sum_by (λ _. 1) v.members) ended_few s.views in
    let r = b.sound.most in
    let t = b.given in
    let u = b.workers in omega arith

pub members_few : (size : Size) (s : State (Unit {0}) View) (i : ℕ) (v : View) → get_elem? s.views i ≡ some v
    → IsBoard size s → length v.members ≤ worker_limit
members_few size s i v e b =
    let p = members_given size.count (board_of s) b.sound in
    let q = part_le_sum (λ (u : View). sum_by (λ _. 1) u.members) s.views i v e in
    let r = length_is_sum v.members in
    let t = b.given in
    let u = b.workers in omega arith

-- a layer that is drawn next lies above all that were drawn
pub draws_ascend : (c n l : ℕ) (vs : List View) (i : ℕ) (v : View) → get_elem? vs i ≡ some v → IsSound c (board n l vs)
    → All (λ d. d < n) v.drawn
draws_ascend c n l vs i v e k q d h =
    let x : ℕ = get_or v.drawn q d in
    let a = counts_contained x v.drawn (Contains-get_or v.drawn q d h) in
    let b = part_le_sum (λ (u : View). sum_by (is x) u.drawn) vs i v e in
    let t = drawn_sum c (board n l vs) k (is x) in
    ⊎_elim (λ small. small) (λ big. let z = counts_past x (min n c) (omega arith) in absurd (omega arith)) (cases_lt x n)

-- a pass has drawn no more layers than there are
pub draws_few : (c n l : ℕ) (vs : List View) (i : ℕ) (v : View) → get_elem? vs i ≡ some v → IsSound c (board n l vs)
    → length v.drawn ≤ c
draws_few c n l vs i v e k =
    let a = length_is_sum v.drawn in
    let b = part_le_sum (λ (u : View). sum_by (λ _. 1) u.drawn) vs i v e in
    let t = drawn_sum c (board n l vs) k (λ _. 1) in
    let d = length-below (min n c) in omega arith

-- a step of one pass that changes a word and keeps the numbers given
board_after : (size : Size) (s : State (Unit {0}) View) (word m n' l' id : ℕ) (c : List (ℕ × Unit {0})) (v w : View)
    → get_elem? s.views id ≡ some v → w.given ≡ v.given
    → slice_index (slice_set s.words word m) 0 ≡ n' → slice_index (slice_set s.words word m) 1 ≡ l'
    → IsBoard size s → IsSound size.count (board n' l' (slice_set s.views id w))
    → IsBoard size (stepped s word m id c w keeps)
board_after size s word m n' l' id c v w e g p q b k = record {
  words = length-set s.words word m ∙ b.words;
  layers = b.layers;
  workers = b.workers;
  given = let x = sum_changed (λ u. u.given) refl s.views id v w e in let y = b.given in omega arith;
  sound = subst₂ (λ n l. IsSound size.count (board n l (slice_set s.views id w))) (sym p) (sym q) k;
}

next_set : (s : State (Unit {0}) View) (m : ℕ) → length s.words ≡ 2 → (slice_index (slice_set s.words 0 m) 0 ≡ m)
    × (slice_index (slice_set s.words 0 m) 1 ≡ slice_index s.words 1)
next_set s m e = (get_or-set_same s.words 0 m 0 (omega arith), get_or-set_other s.words 0 1 m 0 (omega arith))

least_set : (s : State (Unit {0}) View) (m : ℕ) → length s.words ≡ 2
    → (slice_index (slice_set s.words 1 m) 0 ≡ slice_index s.words 0) × (slice_index (slice_set s.words 1 m) 1 ≡ m)
least_set s m e = (get_or-set_other s.words 1 0 m 0 (omega arith), get_or-set_same s.words 1 m 0 (omega arith))

given_by : (b : Bool) (v x y : View) → x.given ≡ v.given → y.given ≡ v.given → (if b then x else y).given ≡ v.given
given_by true v x y p q = p
given_by false v x y p q = q

claims_given : (n : ℕ) (v : View) → (claims n v).given ≡ v.given
claims_given n v = given_by (nat_lt n v.count) v (draws n v) (ends v) refl refl

looks_given : (l : ℕ) (v : View) → (looks l v).given ≡ v.given
looks_given l v = given_by (is_above l v.pending) v (skips v) v refl refl

module _ (size : Size) (slots id : ℕ) (me : Me (Unit {0}) View) where
  pub claims_step : 0 < length me.0.members → me.0.pending ≡ None → me.0.ended ≡ false → Allows (IsBoard size) slots id
      me 0 (λ n. (n + 1) % 2 ^ 64) (Claimed (step slots 0 1 0 none) me)
  claims_step live free going s b homes e fits =
      let v : View = me.0 in
      let n : ℕ = slice_index s.words 0 in
      let l : ℕ = slice_index s.words 1 in
      let k : IsSound size.count (board n l s.views) = b.sound in
      let near = next_within size s b in
      let small = b.layers in
      let plus : (n + 1) % 2 ^ 64 ≡ n + 1 = mod-eq_of_lt (let goal : n + 1 < 2 ^ 64 = omega arith in goal) in
      let t = next_set s ((n + 1) % 2 ^ 64) b.words in
      let k' = claimed size.count n l s.views id v e live free going k in (
        claims n v,
        keeps,
        tt,
        board_after size s 0 ((n + 1) % 2 ^ 64) (n + 1) l id me.1 v (claims n v) e (claims_given n v) (t.0 ∙ plus) t.1 b
            k',
        record {
          event = refl;
          ascends = draws_ascend size.count n l s.views id v e k;
          few = let a = draws_few size.count (n + 1) l (set s.views id (claims n v)) id (claims n v) (set_here s.views id (claims n v) (at_there s.views id v e).0) k' in
              let same = counted size.count n l v live (sound_at size.count n l s.views id v e k) in omega arith;
        },
      )

  pub looks_step : (m : ℕ) → me.0.pending ≡ Some m → 0 < length me.0.members → Allows (IsBoard size) slots id me 1
      (λ n. n) (Looked (step slots 1 0 0 none) me)
  looks_step m p live s b homes e fits =
      let v : View = me.0 in
      let n : ℕ = slice_index s.words 0 in
      let l : ℕ = slice_index s.words 1 in
      let k : IsSound size.count (board n l s.views) = b.sound in
      let t = least_set s l b.words in
      let u = lowest_changed size.count s.views id v v e in
      let same = counted size.count n l v live (sound_at size.count n l s.views id v e k) in (
        looks l v,
        keeps,
        tt,
        board_after size s 1 l n l id me.1 v (looks l v) e (looks_given l v) t.0 t.1 b (looked size.count n l s.views id
            v m e p k),
        record {
          event = refl;
          failed = let a = k.least in let c = u.1 in let d : lowest v.count v.failed ≡ lowest size.count v.failed = ap (λ x. lowest x v.failed) same in omega arith;
        },
      )

  pub fails_step : (m : ℕ) → me.0.pending ≡ Some m → Allows (IsBoard size) slots id me 1 (λ n. min n m)
      (Failed (step slots 1 m 0 none) me)
  fails_step m p s b homes e fits =
      let v : View = me.0 in
      let n : ℕ = slice_index s.words 0 in
      let l : ℕ = slice_index s.words 1 in
      let k : IsSound size.count (board n l s.views) = b.sound in
      let t = least_set s (min l m) b.words in
      let same : lowest l (option_to_list v.pending) ≡ min m l = ap (λ o. lowest l (option_to_list o)) p in (
        fails v,
        keeps,
        tt,
        board_after size s 1 (min l m) n (lowest l (option_to_list v.pending)) id me.1 v (fails v) e refl t.0 (t.1 ∙ (let goal : min l m ≡ lowest l (option_to_list v.pending) = omega arith in goal)) b (failed size.count n l s.views id v m e p k),
        refl,
      )

  pub finishes_step : (m : ℕ) → me.0.pending ≡ Some m → Allows (IsBoard size) slots id me 0 (λ n. n)
      (Finished (step slots 0 0 0 none) me)
  finishes_step m p s b homes e fits =
      let v : View = me.0 in
      let n : ℕ = slice_index s.words 0 in
      let l : ℕ = slice_index s.words 1 in
      let k : IsSound size.count (board n l s.views) = b.sound in
      let t = next_set s n b.words in (
        finishes v,
        keeps,
        tt,
        board_after size s 0 n n l id me.1 v (finishes v) e refl t.0 t.1 b (finished size.count n l s.views id v m e p
            k),
        refl,
      )

  pub counts_step : Allows (IsBoard size) slots id me 0 (λ n. n) (Counted (step slots 0 0 0 none) me)
  counts_step s b homes e fits =
      let v : View = me.0 in
      let n : ℕ = slice_index s.words 0 in
      let l : ℕ = slice_index s.words 1 in
      let k : IsSound size.count (board n l s.views) = b.sound in
      let t = next_set s n b.words in (
        v,
        keeps,
        tt,
        board_after size s 0 n n l id me.1 v v e refl t.0 t.1 b (subst (λ us. IsSound size.count (board n l us))
            (sym (set_again s.views id v e)) k),
        record { event = refl; few = members_few size s id v e b },
      )

pub splits_step : (size : Size) (id : ℕ) (v : View) → Contains v.members 0 → v.given < size.workers
    → Splits (IsBoard size) id v (gives v) (given v)
splits_step size id v first room s b e =
    let n : ℕ = slice_index s.words 0 in
    let l : ℕ = slice_index s.words 1 in
    let k : IsSound size.count (board n l s.views) = b.sound in
    let live : 0 < length v.members = let x = first.1 in omega arith in
    let g = more_given size.count n l s.views id v e first k in
    let h = counts_all size.count n l s.views id v e first k in
    record {
      words = b.words;
      layers = b.layers;
      workers = b.workers;
      given = omega arith;
      sound =
          split_sound size.count n l s.views id v e first k live;
    }

pub joins_step : (size : Size) (id other : ℕ) (v w : View) → IsLive v → IsLive w → v.pending ≡ None → w.pending ≡ None
    → Joins (IsBoard size) id v other w (joins v w) spent
joins_step size id other v w live_v live_w free_v free_w s b e apart f =
    let n : ℕ = slice_index s.words 0 in
    let l : ℕ = slice_index s.words 1 in
    let k : IsSound size.count (board n l s.views) = b.sound in
    let there : get_elem? s.views other ≡ some w = sym (set_else s.views id other (joins v w) apart) ∙ f in
    let g = sum_joined size.count n l s.views id other v w apart e there (λ u. u.given) refl in
    let h = b.given in
    record {
      words = b.words;
      layers = b.layers;
      workers = b.workers;
      given = omega arith;
      sound = joined size.count n l
          s.views id other v w apart e there live_v live_w free_v free_w k;
    }

pub opens_board : (size : Size) → 0 < size.workers → size.workers ≤ worker_limit → size.count < 4294967296
    → IsBoard size (record { words = 0 ∷ size.count ∷ []; homes = []; views = opened size.count ∷ [] })
opens_board size some_worker few layers = record {
  words = refl;
  layers = layers;
  workers = few;
  given =
      omega arith;
  sound = opens size.count;
}

-- what the words of a table that is closed say
pub closes_table : (size : Size) (id : ℕ) (v : View) (words : List ℕ) (slots : List (Unit {0})) (least : ℕ)
    → Final (Seen (IsBoard size) id v) words slots → get_elem? words 1 ≡ some least
    → v.ended ≡ true → length v.members ≡ size.workers → Closed size.count least v × (least ≤ size.count)
    × (size.count < 4294967296)
closes_table size id v words slots least f e ended all =
    let s : State (Unit {0}) View = f.0 in
    let b : IsBoard size s = f.1.0 in
    let there : get_elem? s.views id ≡ some v = f.1.1 in
    let n : ℕ = slice_index s.words 0 in
    let l : ℕ = slice_index s.words 1 in
    let k : IsSound size.count (board n l s.views) = b.sound in
    let same : l ≡ least = ap (λ ws. slice_index ws 1) f.2 ∙ (at_there words 1 least e).1 0 in
    let given = b.given in
    let closed = subst (λ x. Closed size.count x v) same (closes size.count n l s.views id v there ended k
    (others_spent size.count n l s.views id v there ended k (omega arith))) in
    let small = lowest_le size.count v.failed in
    let is = closed.is_lowest in
    (closed, omega arith, b.layers)
