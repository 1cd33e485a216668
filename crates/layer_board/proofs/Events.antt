-- Claim, Look, Fail and Finish keep a board sound.
use Rattle.std.proofs.Common.{◌≡◌, ℕ, ◌+◌, ◌<◌, ◌≤◌, inl, inr, ⊎_elim, min, false, true≢false, if◌then◌else◌, lt-ltb, le-ltb, List, [], ◌∷◌, ◌++◌, length, set, sym, refl, ap, ◌∙◌, subst, arith, All, sum_by, flat_map, Some, None, option_to_list}
use Rattle.std.proofs.lemmas.List.Sums.{sum_by-append, sum_by_push, sum_by-cons}
use Rattle.std.proofs.lemmas.List.Elements.{All-append, All-cons, All-nil}
use Rattle.std.proofs.lemmas.Bool.{cases_lt, false≢true}
use mathlib.Core.Option.{some}
use lib.ListN.{get_elem?}
use Rattle.atomic_table.proofs.Lists.{set_again}
use Rattle.layer_board.specs.declared.view.View.{View}
use Rattle.layer_board.specs.Numbers.{below, lowest}
use Rattle.layer_board.specs.Pass.{spent, draws, ends, claims, skips, is_above, looks, fails, finishes}
use Rattle.layer_board.specs.Events.{IsLive}
use Rattle.layer_board.specs.Sound.{IsSoundPass, IsSound}
use Rattle.layer_board.proofs.Lists.{All-at, lowest_le, lowest_both}
use Rattle.layer_board.proofs.Counts.{below_more, same_below}
use Rattle.layer_board.proofs.Steps.{board, ended_of, lowest_changed, Moves, moved, stays}

pub spent_sound : (c n l : ℕ) → IsSoundPass c n l spent
spent_sound c n l = record {
  live = inl refl;
  parts = λ h. refl;
  skipped = All-nil (λ m. l < m);
  ended =
      λ t. absurd (false≢true t);
}

-- a pass with members has the board's number of layers
pub counted : (c n l : ℕ) (v : View) → IsLive v → IsSoundPass c n l v → v.count ≡ c
counted c n l v live s = ⊎_elim
    (λ e. let p : length v.members ≡ 0 = ap (λ (u : View). length u.members) e in absurd (omega arith))
    (λ t. t.1) s.live

pub sound_at : (c n l : ℕ) (vs : List View) (i : ℕ) (v : View) → get_elem? vs i ≡ some v → IsSound c (board n l vs)
    → IsSoundPass c n l v
sound_at c n l vs i v e k = All-at (IsSoundPass c n l) vs i v e k.passes

-- a step that fails no layer leaves the least number
same_least : (c n l : ℕ) (vs : List View) (i : ℕ) (v w : View) → get_elem? vs i ≡ some v → w.failed ≡ v.failed
    → IsSound c (board n l vs)
    → l ≡ lowest c (flat_map (λ u. u.failed) (set vs i w))
same_least c n l vs i v w e f k =
    let t = lowest_changed c vs i v w e in
    k.least ∙ t.1 ∙ ap (λ xs. min (lowest c xs) t.0) (sym f) ∙ sym t.2

pub claims_layer : (n : ℕ) (v : View) → n < v.count → claims n v ≡ draws n v
claims_layer n v h = ap (λ b. if b then draws n v else ends v) (lt-ltb n v.count h)

pub claims_end : (n : ℕ) (v : View) → v.count ≤ n → claims n v ≡ ends v
claims_end n v h = ap (λ b. if b then draws n v else ends v) (le-ltb n v.count h)

draws_moves : (c n l : ℕ) (v : View) → n < c → v.count ≡ c → IsLive v → v.pending ≡ None → v.ended ≡ false
    → IsSoundPass c n l v → Moves c n l (n + 1) l v (draws n v)
draws_moves c n l v small e live free going s = record {
  up = omega arith;
  down = omega arith;
  members = refl;
  given = refl;
  drawn = λ h.
      let a : sum_by h (below (min n c)) ≡ sum_by h (below n) = same_below h (min n c) n (omega arith) in
      let b : sum_by h (below (min (n + 1) c)) ≡ sum_by h (below (n + 1)) = same_below h (min (n + 1) c) (n + 1)
      (omega arith) in
      omega (arith, below_more h n, sum_by_push h v.drawn n);
  most = inr (omega arith);
  pass = record {
    live = inr (live, e);
    parts = λ h.
        let rest : List ℕ = v.finished ++ (v.failed ++ v.skipped) in
        let p : sum_by h v.drawn ≡ sum_by h rest = s.parts h ∙ ap (λ o. sum_by h (option_to_list o ++ rest)) free in
        omega (arith, sum_by_push h v.drawn n, sum_by-cons h n (v.finished ++ (v.failed ++ v.skipped)));
    skipped = s.skipped;
    ended = λ t. absurd (true≢false (sym t ∙ going));
  };
}

ends_moves : (c n l : ℕ) (v : View) → c ≤ n → v.count ≡ c → IsLive v → v.pending ≡ None → v.ended ≡ false
    → IsSoundPass c n l v → Moves c n l (n + 1) l v (ends v)
ends_moves c n l v big e live free going s = record {
  up = omega arith;
  down = omega arith;
  members = refl;
  given = refl;
  drawn = λ h. ap (λ x. sum_by h v.drawn + x) (same_below h (min n c) (min (n + 1) c) (omega arith));
  most = inl (let p : ended_of v ≡ 0 = ap (λ b. if b then length v.members else 0) going in omega arith);
  pass = record {
    live = inr (live, e);
    parts = s.parts;
    skipped = s.skipped;
    ended = λ t. (omega arith, free);
  };
}

pub claimed : (c n l : ℕ) (vs : List View) (i : ℕ) (v : View) → get_elem? vs i ≡ some v → IsLive v → v.pending ≡ None
    → v.ended ≡ false
    → IsSound c (board n l vs) → IsSound c (board (n + 1) l (set vs i (claims n v)))
claimed c n l vs i v e live free going k =
    let s = sound_at c n l vs i v e k in
    let same = counted c n l v live s in
    ⊎_elim
    (λ small. subst (λ w. IsSound c (board (n + 1) l (set vs i w)))
    (sym (claims_layer n v (subst (λ m. n < m) (sym same) small)))
    (moved c n l (n + 1) l vs i v (draws n v) e (draws_moves c n l v small same live free going s)
    (same_least c n l vs i v (draws n v) e refl k) k))
    (λ big. subst (λ w. IsSound c (board (n + 1) l (set vs i w)))
    (sym (claims_end n v (subst (λ m. m ≤ n) (sym same) big)))
    (moved c n l (n + 1) l vs i v (ends v) e (ends_moves c n l v big same live free going s)
    (same_least c n l vs i v (ends v) e refl k) k))
    (cases_lt n c)

-- a pass that has something pending isn't spent
pub pending_lives : (c n l : ℕ) (v : View) (m : ℕ) → v.pending ≡ Some m → IsSoundPass c n l v → IsLive v × (v.count ≡ c)
pending_lives c n l v m p s = ⊎_elim
    (λ e. let q : Some m ≡ None = sym p ∙ ap (λ (u : View). u.pending) e in cc)
    (λ t. t) s.live

skips_moves : (c n l : ℕ) (v : View) (m : ℕ) → v.pending ≡ Some m → l < m → IsSoundPass c n l v
    → Moves c n l n l v (skips v)
skips_moves c n l v m p above s = record {
  up = omega arith;
  down = omega arith;
  members = refl;
  given = refl;
  drawn = λ h. refl;
  most = inl (omega arith);
  pass = record {
    live = inr (pending_lives c n l v m p s);
    parts = λ h. let q = s.parts h in omega (
      arith,
      sum_by-append h (option_to_list v.pending) (v.finished ++ (v.failed ++ v.skipped)),
      sum_by-append h v.finished (v.failed ++ v.skipped),
      sum_by-append h v.failed v.skipped,
      sum_by-append h v.finished (v.failed ++ (v.skipped ++ option_to_list v.pending)),
      sum_by-append h v.failed (v.skipped ++ option_to_list v.pending),
      sum_by-append h v.skipped (option_to_list v.pending),
    );
    skipped = All-append (λ k. l < k) v.skipped (option_to_list v.pending) s.skipped
        (subst (λ o. All (λ k. l < k) (option_to_list o)) (sym p) (All-cons (λ k. l < k) m [] above
        (All-nil (λ k. l < k))));
    ended = λ t. ((s.ended t).0, refl);
  };
}

finishes_moves : (c n l : ℕ) (v : View) (m : ℕ) → v.pending ≡ Some m → IsSoundPass c n l v
    → Moves c n l n l v (finishes v)
finishes_moves c n l v m p s = record {
  up = omega arith;
  down = omega arith;
  members = refl;
  given = refl;
  drawn = λ h. refl;
  most = inl (omega arith);
  pass = record {
    live = inr (pending_lives c n l v m p s);
    parts = λ h. let q = s.parts h in omega (
      arith,
      sum_by-append h (option_to_list v.pending) (v.finished ++ (v.failed ++ v.skipped)),
      sum_by-append h v.finished (v.failed ++ v.skipped),
      sum_by-append h (v.finished ++ option_to_list v.pending) (v.failed ++ v.skipped),
      sum_by-append h v.finished (option_to_list v.pending),
    );
    skipped = s.skipped;
    ended = λ t. ((s.ended t).0, refl);
  };
}

fails_moves : (c n l l' : ℕ) (v : View) (m : ℕ) → v.pending ≡ Some m → l' ≤ l → IsSoundPass c n l v
    → IsSoundPass c n l' v → Moves c n l n l' v (fails v)
fails_moves c n l l' v m p down s s' = record {
  up = omega arith;
  down = down;
  members = refl;
  given = refl;
  drawn = λ h. refl;
  most = inl (omega arith);
  pass = record {
    live = inr (pending_lives c n l v m p s);
    parts = λ h. let q = s.parts h in omega (
      arith,
      sum_by-append h (option_to_list v.pending) (v.finished ++ (v.failed ++ v.skipped)),
      sum_by-append h v.finished (v.failed ++ v.skipped),
      sum_by-append h v.failed v.skipped,
      sum_by-append h v.finished ((v.failed ++ option_to_list v.pending) ++ v.skipped),
      sum_by-append h (v.failed ++ option_to_list v.pending) v.skipped,
      sum_by-append h v.failed (option_to_list v.pending),
    );
    skipped = s'.skipped;
    ended = λ t. ((s.ended t).0, refl);
  };
}

-- the least of a number below c and of further ones
lowest_from : (c l : ℕ) (xs : List ℕ) → l ≤ c → lowest l xs ≡ min l (lowest c xs)
lowest_from c l [] h = omega arith
lowest_from c l (x ∷ xs) h = let ih = lowest_from c l xs h in omega arith

looks_skip : (l m : ℕ) (v : View) → v.pending ≡ Some m → l < m → looks l v ≡ skips v
looks_skip l m v p above = ap (λ b. if b then skips v else v) (ap (is_above l) p ∙ lt-ltb l m above)

looks_stay : (l m : ℕ) (v : View) → v.pending ≡ Some m → m ≤ l → looks l v ≡ v
looks_stay l m v p most = ap (λ b. if b then skips v else v) (ap (is_above l) p ∙ le-ltb l m most)

pub looked : (c n l : ℕ) (vs : List View) (i : ℕ) (v : View) (m : ℕ) → get_elem? vs i ≡ some v → v.pending ≡ Some m
    → IsSound c (board n l vs) → IsSound c (board n l (set vs i (looks l v)))
looked c n l vs i v m e p k =
    let s = sound_at c n l vs i v e k in
    ⊎_elim
    (λ above. subst (λ w. IsSound c (board n l (set vs i w))) (sym (looks_skip l m v p above))
    (moved c n l n l vs i v (skips v) e (skips_moves c n l v m p above s) (same_least c n l vs i v (skips v) e refl k)
    k))
    (λ most. subst (λ us. IsSound c (board n l us)) (sym (ap (set vs i) (looks_stay l m v p most) ∙ set_again vs i v e))
    k)
    (cases_lt l m)

pub finished : (c n l : ℕ) (vs : List View) (i : ℕ) (v : View) (m : ℕ) → get_elem? vs i ≡ some v → v.pending ≡ Some m
    → IsSound c (board n l vs) → IsSound c (board n l (set vs i (finishes v)))
finished c n l vs i v m e p k =
    moved c n l n l vs i v (finishes v) e (finishes_moves c n l v m p (sound_at c n l vs i v e k))
    (same_least c n l vs i v (finishes v) e refl k) k

-- Fail lowers the least number as the pass's failed layers grow
fewer_least : (c n l : ℕ) (vs : List View) (i : ℕ) (v : View) → get_elem? vs i ≡ some v → IsSound c (board n l vs)
    → lowest l (option_to_list v.pending) ≡ lowest c (flat_map (λ u. u.failed) (set vs i (fails v)))
fewer_least c n l vs i v e k =
    let t = lowest_changed c vs i v (fails v) e in
    let rest : ℕ = t.0 in
    let was : lowest c (flat_map (λ u. u.failed) vs) ≡ min (lowest c v.failed) rest = t.1 in
    let is_now : lowest c (flat_map (λ u. u.failed) (set vs i (fails v)))
    ≡ min (lowest c (v.failed ++ option_to_list v.pending)) rest = t.2 in
    let small = lowest_le c (flat_map (λ (u : View). u.failed) vs) in
    let same = k.least in
    let within : l ≤ c = omega arith in
    let p = lowest_from c l (option_to_list v.pending) within in
    let q = lowest_both c v.failed (option_to_list v.pending) in
    omega arith

pub failed : (c n l : ℕ) (vs : List View) (i : ℕ) (v : View) (m : ℕ) → get_elem? vs i ≡ some v → v.pending ≡ Some m
    → IsSound c (board n l vs) → IsSound c (board n (lowest l (option_to_list v.pending)) (set vs i (fails v)))
failed c n l vs i v m e p k =
    let l' : ℕ = lowest l (option_to_list v.pending) in
    let s = sound_at c n l vs i v e k in
    let down : l' ≤ l = lowest_le l (option_to_list v.pending) in
    moved c n l n l' vs i v (fails v) e (fails_moves c n l l' v m p down s (stays c n l n l' (omega arith) down v s))
    (fewer_least c n l vs i v e k) k
