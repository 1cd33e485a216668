-- Lifting the height leaves exactly the edges that meet it.
use Rattle.std.proofs.Common.{◌≡◌, ℕ, zero, suc, ◌+◌, ◌<◌, ◌≤◌, Bool, true, false, List, [], ◌∷◌, ◌++◌, length, filter, refl, sym, ap, ◌∙◌, arith, subst, true≢false, append_assoc, IsPermutation, All}
use lib.IntN.{pos}
use lib.Signed.{◌<ℤ◌}
use Rattle.std.specs.List.{AllByRecursion}
use Rattle.std.proofs.lemmas.Int.{ints}
use Rattle.std.proofs.lemmas.List.Elements.{recursion_from_All, All-from_recursion}
use Rattle.std.proofs.lemmas.List.Sorted.{All-permutation, IsPermutation-append_left}
use Rattle.scad_geom.specs.declared.level.Level.{Level}
use Rattle.scad_geom.specs.declared.level.LeafEdge.{LeafEdge}
use Rattle.scad_geom.specs.Level.{IsLower, IsAtMost}
use Rattle.slice_bundles.specs.declared.start.Start.{Start}
use Rattle.slice_bundles.specs.Bundles.{edge_at, reaches, reaching}
use Rattle.slice_bundles.specs.Touching.{touches, touching}
use Rattle.slice_bundles.specs.Starts.{AreRising, IsStartOf, numbers_of, begun_at, pending_at}
use Rattle.slice_bundles.specs.Times.{times}
use Rattle.slice_bundles.specs.CoverHeight.{CoverHeight}
use Rattle.slice_bundles.proofs.Times.{times-append, times_permuted, times_kept, times_lost, standing, from_times}
use Rattle.slice_bundles.proofs.Choice.{touching_is, reaching_is, stand_from_first, filtered, all_where, once_where, none_where}
use Rattle.slice_bundles.proofs.Beginning.{parted, begun_too, pending_too, all_begun, all_pending, of_numbers}
use Rattle.slice_bundles.proofs.Touching.{begins, touch_parts, touch_both, begins_later, goes_on_before, reaches_touches}

-- ---- the edges that meet a height
-- the edges that reach two heights are among those that meet the lower one
pub reaching_among : (es : List LeafEdge) (l u : Level) → pos 0 <ℤ l.d → pos 0 <ℤ u.d → IsLower l u
    → filter (λ k. reaches (edge_at es k) l u) (touching 0 es l) ≡ reaching 0 es l u
reaching_among es l u dl du o =
    ap (filter (λ k. reaches (edge_at es k) l u)) (touching_is l 0 es)
    ∙ filtered (λ e. reaches e l u) (λ e. touches e l) (λ e h. reaches_touches e l u dl du o h) es 0 es
    (stand_from_first es)
    ∙ sym (reaching_is l u 0 es)

-- the edges that meet a height are in the list
pub touching_there : (es : List LeafEdge) (at : Level)
    → AllByRecursion (λ k. (k < length es) × (touches (edge_at es k) at ≡ true)) (touching 0 es at)
touching_there es at =
    subst (AllByRecursion (λ k. (k < length es) × (touches (edge_at es k) at ≡ true))) (sym (touching_is at 0 es))
    (all_where (λ e. touches e at) es 0 es (stand_from_first es))

weaker : (P Q : ℕ → Type 0) → ((k : ℕ) → P k → Q k) → (ks : List ℕ) → AllByRecursion P ks
    → AllByRecursion Q ks
weaker P Q f [] h = tt
weaker P Q f (k ∷ ks) h = (f k h.0, weaker P Q f ks h.1)

both : (P : ℕ → Type 0) (xs ys : List ℕ) → AllByRecursion P xs → AllByRecursion P ys
    → AllByRecursion P (xs ++ ys)
both P [] ys a b = b
both P (x ∷ xs) ys a b = (a.0, both P xs ys a.1 b)

pub all_there : (es : List LeafEdge) (at : Level) → All (λ k. k < length es) (touching 0 es at)
all_there es at =
    All-from_recursion (λ k. k < length es) (touching 0 es at)
    (weaker (λ k. (k < length es) × (touches (edge_at es k) at ≡ true))
    (λ k. k < length es) (λ k h. h.0) (touching 0 es at) (touching_there es at))

-- so are those that were live and those that have begun
pub all_more : (es : List LeafEdge) (at : Level) (ss : List Start) (live more : List ℕ)
    → AllByRecursion (λ k. k < length es) live
    → AllByRecursion (IsStartOf es) ss → more ≡ live ++ numbers_of (begun_at at ss)
    → All (λ k. k < length es) more
all_more es at ss live more l s e =
    All-from_recursion (λ k. k < length es) more (subst (AllByRecursion (λ k. k < length es)) (sym e)
    (both (λ k. k < length es) live (numbers_of (begun_at at ss)) l
    (numbers_there (begun_at at ss) (begun_too at (IsStartOf es) ss s))))
  where
    numbers_there : (ss : List Start) → AllByRecursion (IsStartOf es) ss
        → AllByRecursion (λ k. k < length es) (numbers_of ss)
    numbers_there [] h = tt
    numbers_there (s ∷ ss) h = (h.0.there, numbers_there ss h.1)

-- ---- the order of the numbers doesn't matter
all_permuted : (P : ℕ → Type 0) (xs ys : List ℕ) → IsPermutation xs ys → AllByRecursion P xs → AllByRecursion P ys
all_permuted P xs ys m h = recursion_from_All P ys (All-permutation P xs ys m (All-from_recursion P xs h))

pub cover_permuted : (es : List LeafEdge) (at : Level) (live news : List ℕ) (ss : List Start) → IsPermutation live news
    → CoverHeight es at live ss → CoverHeight es at news ss
cover_permuted es at live news ss m h = record {
  begun = all_permuted (λ k. begins (edge_at es k) at ≡ true) live news m h.begun;
  once = λ k. subst (λ (n : ℕ). n ≤ 1) (same k) (h.once k);
  all = λ k t e. sym (same k) ∙ h.all k t e;
}
  where
    same : (k : ℕ) → times k (live ++ numbers_of ss) ≡ times k (news ++ numbers_of ss)
    same k = sym (times_permuted k (live ++ numbers_of ss) (news ++ numbers_of ss)
        (IsPermutation-append_left (numbers_of ss) live news m))

-- ---- a step
module _ (es : List LeafEdge) (at : Level) (d : pos 0 <ℤ at.d) (ss : List Start) (live more kept : List ℕ)
    (there : AllByRecursion (λ k. k < length es) live) (starts : AllByRecursion (IsStartOf es) ss)
    (rising : AreRising ss)
    (later : (h : Level) → pos 0 <ℤ h.d → IsAtMost at h → CoverHeight es h live ss)
    (more-is : more ≡ live ++ numbers_of (begun_at at ss))
    (kept-is : kept ≡ filter (λ k. touches (edge_at es k) at) more) where
  abbrev IsBegun : ℕ → Type 0
  IsBegun k = (k < length es) × (begins (edge_at es k) at ≡ true)

  at_itself : IsAtMost at at
  at_itself = omega (arith, ints)

  each_begun : AllByRecursion IsBegun more
  each_begun = subst (AllByRecursion IsBegun) (sym more-is) (both IsBegun live (numbers_of (begun_at at ss))
      (joined live there (later at d at_itself).begun)
      (of_numbers es at true (begun_at at ss) (begun_too at (IsStartOf es) ss starts) (all_begun at ss)))
    where
      joined : (ks : List ℕ) → AllByRecursion (λ k. k < length es) ks
          → AllByRecursion (λ k. begins (edge_at es k) at ≡ true) ks → AllByRecursion IsBegun ks
      joined [] a b = tt
      joined (k ∷ ks) a b = ((a.0, b.0), joined ks a.1 b.1)

  each_waits : AllByRecursion (λ k. (k < length es) × (begins (edge_at es k) at ≡ false))
      (numbers_of (pending_at at ss))
  each_waits = of_numbers es at false (pending_at at ss) (pending_too at (IsStartOf es) ss starts)
      (all_pending at d ss rising)

  -- all numbers stand in both parts
  counted : (n : ℕ) → times n (live ++ numbers_of ss) ≡ times n more + times n (numbers_of (pending_at at ss))
  counted n =
      ap (λ (ks : List ℕ). times n (live ++ ks)) (parted at ss)
      ∙ ap (times n) (sym (append_assoc live (numbers_of (begun_at at ss)) (numbers_of (pending_at at ss)))
      ∙ ap (λ (ks : List ℕ). ks ++ numbers_of (pending_at at ss)) (sym more-is))
      ∙ times-append n more (numbers_of (pending_at at ss))

  kept_by : (n : ℕ) → touches (edge_at es n) at ≡ true → times n kept ≡ times n more
  kept_by n t = ap (times n) kept-is ∙ times_kept (λ k. touches (edge_at es k) at) n t more

  lost_by : (n : ℕ) → touches (edge_at es n) at ≡ false → times n kept ≡ 0
  lost_by n t = ap (times n) kept-is ∙ times_lost (λ k. touches (edge_at es k) at) n t more

  some : (m n : ℕ) → n ≡ suc m → 1 ≤ n
  some m n e = omega arith

  -- one that waits doesn't meet the height
  waits_not : (n : ℕ) → touches (edge_at es n) at ≡ true → times n (numbers_of (pending_at at ss)) ≡ 0
  waits_not n t = by_count (times n (numbers_of (pending_at at ss))) refl
    where
      by_count : (m : ℕ) → times n (numbers_of (pending_at at ss)) ≡ m → m ≡ 0
      by_count zero e = refl
      by_count (suc m) e =
          let s = standing (λ k. (k < length es) × (begins (edge_at es k) at ≡ false)) n (numbers_of (pending_at at ss))
          each_waits (some m (times n (numbers_of (pending_at at ss))) e) in
          absurd (true≢false (sym (touch_parts (edge_at es n) at t).0 ∙ s.1))

  same_times : (n : ℕ) → times n (touching 0 es at) ≡ times n kept
  same_times n = by_test (touches (edge_at es n) at) refl (times n more) refl
    where
      outside : (m : ℕ) → times n more ≡ suc m → n < length es
      outside m e = (standing IsBegun n more each_begun (some m (times n more) e)).0

      alone : (a b c : ℕ) → a ≡ b + c → c ≡ 0 → a ≡ 1 → b ≡ 1
      alone a b c p q r = omega arith

      by_test : (t : Bool) → touches (edge_at es n) at ≡ t → (m : ℕ) → times n more ≡ m
          → times n (touching 0 es at) ≡ times n kept
      by_test false t m e =
          ap (times n) (touching_is at 0 es)
          ∙ none_where (λ e. touches e at) es n (λ h s. true≢false (sym s ∙ t)) ∙ sym (lost_by n t)
      by_test true t zero e =
          ap (times n) (touching_is at 0 es) ∙ none_where (λ e. touches e at) es n
          (λ h s. not_none (alone (times n (live ++ numbers_of ss)) (times n more)
          (times n (numbers_of (pending_at at ss))) (counted n)
          (waits_not n t) ((later at d at_itself).all n h t)))
          ∙ sym (kept_by n t ∙ e)
        where
          not_none : times n more ≡ 1 → ⊥
          not_none q = omega (arith, e, q)
      by_test true t (suc m) e =
          let h : n < length es = outside m e in
          ap (times n) (touching_is at 0 es) ∙ once_where (λ e. touches e at) es n h t
          ∙ sym (kept_by n t ∙ alone (times n (live ++ numbers_of ss)) (times n more)
          (times n (numbers_of (pending_at at ss))) (counted n)
          (waits_not n t) ((later at d at_itself).all n h t))

  pub live_touches : IsPermutation (touching 0 es at) kept
  live_touches = from_times (touching 0 es at) kept same_times

  pub stands : (h : Level) → pos 0 <ℤ h.d → IsAtMost at h → CoverHeight es h kept (pending_at at ss)
  stands h dh o = record {
    begun = weaker (λ k. (k < length es) × (touches (edge_at es k) at ≡ true)) (λ k. begins (edge_at es k) h ≡ true)
        (λ k t. begins_later (edge_at es k) at h d dh o (touch_parts (edge_at es k) at t.1).0) kept
        (all_permuted (λ k. (k < length es) × (touches (edge_at es k) at ≡ true)) (touching 0 es at) kept live_touches
        (touching_there es at));
    once = λ n. at_most n (touches (edge_at es n) at) refl;
    all = λ n k t. whole n k t (times n more) refl;
  }
    where
      both_times : (n : ℕ) → times n (kept ++ numbers_of (pending_at at ss)) ≡ times n kept
          + times n (numbers_of (pending_at at ss))
      both_times n = times-append n kept (numbers_of (pending_at at ss))

      less : (a b c e f : ℕ) → a ≡ b + c → e ≡ f + c → a ≤ 1 → f ≡ b → e ≤ 1
      less a b c e f p q r s = omega arith

      less_none : (a b c e f : ℕ) → a ≡ b + c → e ≡ f + c → a ≤ 1 → f ≡ 0 → e ≤ 1
      less_none a b c e f p q r s = omega arith

      at_most : (n : ℕ) (t : Bool) → touches (edge_at es n) at ≡ t → times n (kept ++ numbers_of (pending_at at ss)) ≤ 1
      at_most n true t = less (times n (live ++ numbers_of ss)) (times n more) (times n (numbers_of (pending_at at ss)))
          _ (times n kept)
          (counted n) (both_times n) ((later at d at_itself).once n) (kept_by n t)
      at_most n false t = less_none (times n (live ++ numbers_of ss)) (times n more)
          (times n (numbers_of (pending_at at ss))) _ (times n kept)
          (counted n) (both_times n) ((later at d at_itself).once n) (lost_by n t)

      equal : (a b c e f : ℕ) → a ≡ b + c → e ≡ f + c → a ≡ 1 → f ≡ b → e ≡ 1
      equal a b c e f p q r s = omega arith

      none_of : (a b c e f : ℕ) → a ≡ b + c → e ≡ f + c → a ≡ 1 → b ≡ 0 → f ≤ b → e ≡ 1
      none_of a b c e f p q r s t = omega arith

      no_more : (n : ℕ) (t : Bool) → touches (edge_at es n) at ≡ t → times n kept ≤ times n more
      no_more n true t = let e = kept_by n t in omega arith
      no_more n false t = let e = lost_by n t in omega arith

      whole : (n : ℕ) → n < length es → touches (edge_at es n) h ≡ true → (m : ℕ) → times n more ≡ m
          → times n (kept ++ numbers_of (pending_at at ss)) ≡ 1
      whole n k t zero e = none_of (times n (live ++ numbers_of ss)) (times n more)
          (times n (numbers_of (pending_at at ss))) _ (times n kept)
          (counted n) (both_times n) ((later h dh o).all n k t) e (no_more n (touches (edge_at es n) at) refl)
      whole n k t (suc m) e =
          let b = standing IsBegun n more each_begun (some m (times n more) e) in
          let here : touches (edge_at es n) at ≡ true = touch_both (edge_at es n) at b.1
          (goes_on_before (edge_at es n) at h d dh o (touch_parts (edge_at es n) h t).1) in
          equal (times n (live ++ numbers_of ss)) (times n more) (times n (numbers_of (pending_at at ss))) _
          (times n kept)
          (counted n) (both_times n) ((later h dh o).all n k t) (kept_by n here)
