-- From one height to the next.
use Rattle.std.proofs.Common.{◌≡◌, ℕ, zero, suc, ◌+◌, ◌<◌, ◌≤◌, Bool, true, false, List, [], ◌∷◌, ◌++◌, length, refl, sym, ap, ◌∙◌, arith, subst, true≢false, IsPermutation, All}
use lib.IntN.{ℤ, pos, ◌*ℤ◌}
use lib.Signed.{◌<ℤ◌}
use Rattle.std.specs.Prelude.{int_lt, int_le, nat_lt, ◌&&◌}
use Rattle.std.specs.List.{AllByRecursion, concat}
use Rattle.std.proofs.lemmas.Bool.{and_parts}
use Rattle.std.proofs.lemmas.Int.{ints}
use Rattle.scad_base.proofs.Lists.{AllByRecursion-append}
use Rattle.scad_geom.specs.declared.point.Edge.{Edge}
use Rattle.scad_geom.specs.declared.level.Level.{Level}
use Rattle.scad_geom.specs.declared.level.LeafEdge.{LeafEdge}
use Rattle.scad_geom.specs.Line.{low, high, rise}
use Rattle.scad_geom.specs.Level.{level_of, IsAtMost}
use Rattle.scad_geom.specs.EdgeOrder.{IsBefore, AreAligned}
use Rattle.scad_geom.specs.Heights.{AreNeighbours}
use Rattle.scad_geom.proofs.Heights.{at_most_chain, lower_weak, lower_chain}
use Rattle.scad_geom.proofs.Order.{aligned_all, before_between}
use Rattle.slice_bundles.specs.declared.start.Start.{Start}
use Rattle.slice_bundles.specs.Times.{times}
use Rattle.slice_bundles.specs.Bundles.{no_edge, edge_at, reaches, reaching, IsBundle, Precedes, AreRanked, AreBundles}
use Rattle.slice_bundles.specs.Starts.{AreRising, IsStartOf, numbers_of, all_numbers, begun_at, pending_at}
use Rattle.slice_bundles.specs.Touching.{touches}
use Rattle.slice_bundles.proofs.CoverHeight.{none_live}
use Rattle.std.proofs.lemmas.List.Elements.{All-from_recursion}
use Rattle.slice_bundles.proofs.Live.{reaches_is}
use Rattle.slice_bundles.proofs.Bundling.{before_chain}
use Rattle.slice_bundles.proofs.Beginning.{parted, begun_too, pending_too, all_begun, all_pending, of_numbers}
use Rattle.slice_bundles.proofs.Choice.{reaching_is, once_where, none_where}
use Rattle.slice_bundles.proofs.Times.{times-append, standing, from_times}
use Rattle.slice_sweep.specs.declared.strand.Strand.{Strand}
use Rattle.slice_sweep.specs.Chains.{Chain}
use Rattle.slice_sweep.specs.Strands.{bundles_of, numbers_in, head, LiesNotRight, IsReaching, IsHeld, AreHeld, AreApart, AreWaiting}
use Rattle.slice_sweep.specs.Mending.{ComesBefore, AreOrdered, KeepTimes}
use Rattle.slice_sweep.specs.Front.{AreAll}
use Rattle.slice_sweep.proofs.Lists.{chain_map, weaker}
use Rattle.slice_sweep.proofs.Mending.{edge_rises}

-- ---- the bundles between two heights
precede : (es : List LeafEdge) (l : Level) (b c : List ℕ) → IsBundle es l b → IsBundle es l c
    → IsBefore l (head es b) (head es c) → Precedes es l b c
precede es l [] c p q h = absurd p
precede es l (k ∷ ks) [] p q h = absurd q
precede es l (k ∷ ks) (j ∷ js) p q h = h

rises_first : (es : List LeafEdge) (l : Level) (s : Strand) → IsHeld es l s → pos 0 <ℤ rise (head es s.bundle)
rises_first es l s h = by_bundle s.bundle h.bundle h.reach
  where
    by_bundle : (b : List ℕ) → IsBundle es l b → AllByRecursion (IsReaching es l l) b → pos 0 <ℤ rise (head es b)
    by_bundle [] p r = absurd p
    by_bundle (k ∷ ks) p r = edge_rises es l l k r.0

all_after : (es : List LeafEdge) (l : Level) (s : Strand) (ss : List Strand) → IsHeld es l s
    → AllByRecursion (IsHeld es l) ss → Chain (ComesBefore es l) (s ∷ ss)
    → AllByRecursion (Precedes es l s.bundle) (bundles_of ss)
all_after es l s [] h a c = tt
all_after es l s (t ∷ ss) h a c = (
  precede es l s.bundle t.bundle h.bundle a.0.bundle c.0,
  all_after es l s ss h a.1 (skip ss a.1 c.1),
)
  where
    skip : (rs : List Strand) → AllByRecursion (IsHeld es l) rs → Chain (ComesBefore es l) (t ∷ rs)
        → Chain (ComesBefore es l) (s ∷ rs)
    skip [] a d = tt
    skip (r ∷ rs) b d = (
      before_chain l (head es s.bundle) (head es t.bundle) (head es r.bundle) (rises_first es l s h)
          (rises_first es l t a.0) (rises_first es l r b.0) c.0 d.0,
      d.1,
    )

ranked_all : (es : List LeafEdge) (l : Level) (L : List Strand) → AllByRecursion (IsHeld es l) L
    → Chain (ComesBefore es l) L → AreRanked es l (bundles_of L)
ranked_all es l [] h c = tt
ranked_all es l (s ∷ []) h c = (h.0.bundle, tt, tt)
ranked_all es l (s ∷ (t ∷ ss)) h c =
    (h.0.bundle, all_after es l s (t ∷ ss) h.0 h.1 c, ranked_all es l (t ∷ ss) h.1 c.1)

all_reaching : (es : List LeafEdge) (l u : Level) (L : List Strand)
    → AllByRecursion (λ (s : Strand). AllByRecursion (IsReaching es l u) s.bundle) L
    → AllByRecursion (IsReaching es l u) (numbers_in L)
all_reaching es l u [] h = tt
all_reaching es l u (s ∷ ss) h =
    AllByRecursion-append (IsReaching es l u) s.bundle (numbers_in ss) h.0 (all_reaching es l u ss h.1)

all_held : (es : List LeafEdge) (l : Level) (L : List Strand) → AllByRecursion (IsHeld es l) L
    → AllByRecursion (IsReaching es l l) (numbers_in L)
all_held es l L h = all_reaching es l l L
    (weaker (IsHeld es l) (λ (s : Strand). AllByRecursion (IsReaching es l l) s.bundle) (λ s p. p.reach) L h)

-- ---- at the upper height
abbrev IsHeldTo : List LeafEdge → Level → Level → Strand → Type 0
IsHeldTo es l u s = IsHeld es l s × AllByRecursion (IsReaching es l u) s.bundle

held_to : (es : List LeafEdge) (l u : Level) (L : List Strand) → AllByRecursion (IsHeld es l) L
    → AllByRecursion (λ (s : Strand). AllByRecursion (IsReaching es l u) s.bundle) L
    → AllByRecursion (IsHeldTo es l u) L
held_to es l u [] h r = tt
held_to es l u (s ∷ ss) h r = ((h.0, r.0), held_to es l u ss h.1 r.1)

module _ (es : List LeafEdge) (l u : Level) (n : AreNeighbours es l u) where
  one : pos 0 <ℤ pos 1
  one = omega (arith, ints)

  upper_itself : IsAtMost u u
  upper_itself = omega (arith, ints)

  from_test : (y : ℤ) → int_le (y *ℤ l.d) l.n ≡ true → IsAtMost (level_of y) l
  from_test y q = omega (arith, ints)

  to_test : (y : ℤ) → IsAtMost (level_of y) u → int_le (y *ℤ u.d) u.n ≡ true
  to_test y q = sym (omega (arith, ints))

  three_true : (a b c : Bool) → a ≡ true → b ≡ true → c ≡ true → (a && (b && c)) ≡ true
  three_true a b c p q r = rw (p, q, r) refl

  reaches_upper : (e : Edge) → reaches e l u ≡ true → reaches e u u ≡ true
  unfolding reaches
  reaches_upper e h =
      let p = and_parts (int_lt (pos 0) (rise e)) (int_le ((low e).y *ℤ l.d) l.n && int_le u.n ((high e).y *ℤ u.d)) h in
      let q = and_parts (int_le ((low e).y *ℤ l.d) l.n) (int_le u.n ((high e).y *ℤ u.d)) p.1 in
      let to = at_most_chain (level_of (low e).y) l u one n.lower_divisor n.upper_divisor (from_test (low e).y q.0)
      (lower_weak l u n.in_order) in
      three_true (int_lt (pos 0) (rise e)) (int_le ((low e).y *ℤ u.d) u.n) (int_le u.n ((high e).y *ℤ u.d)) p.0
      (to_test (low e).y to) q.1

  reach_upper : (k : ℕ) → IsReaching es l u k → IsReaching es u u k
  reach_upper k r = record { there = r.there; reaches = reaches_upper (edge_at es k) r.reaches }

  bundle_upper : (b : List ℕ) → IsBundle es l b → IsBundle es u b
  bundle_upper [] h = h
  bundle_upper (k ∷ ks) h = (
    h.0,
    weaker (λ j. AreAligned l (edge_at es k) (edge_at es j))
        (λ j. AreAligned u (edge_at es k) (edge_at es j))
        (λ j a. (aligned_all l n.lower_divisor (edge_at es k) (edge_at es j) a u.n u.d, a.1)) ks h.1,
  )

  held_upper : (s : Strand) → IsHeldTo es l u s → IsHeld es u s
  held_upper s h = record {
    bundle = bundle_upper s.bundle h.0.bundle;
    reach = weaker (IsReaching es l u) (IsReaching es u u) reach_upper s.bundle h.1;
    ends = λ g d o b. h.0.ends g d
        (at_most_chain l u g n.lower_divisor n.upper_divisor d (lower_weak l u n.in_order) o) b;
  }

  order_upper : (b c : List ℕ) → IsBundle es l b → IsBundle es l c → AllByRecursion (IsReaching es l u) b
      → AllByRecursion (IsReaching es l u) c → IsBefore l (head es b) (head es c)
      → LiesNotRight es u (record { bundle = b; wake = pos 0 }) (record { bundle = c; wake = pos 0 })
  order_upper [] c p q r t h = absurd p
  order_upper (k ∷ ks) [] p q r t h = absurd q
  order_upper (k ∷ ks) (j ∷ js) p q r t h =
      before_between es l u n k j no_edge r.0.there t.0.there (reaches_is (edge_at es k) l u r.0.reaches)
      (reaches_is (edge_at es j) l u t.0.reaches) h u n.upper_divisor (lower_weak l u n.in_order) upper_itself

  pub lifted : (L : List Strand) → AreOrdered es l u L → AreWaiting es u L
  lifted L h =
      let both = held_to es l u L h.held h.mended.reach in
      let pairs = both_chains L h.ordered h.mended.ranked in
      record {
        held = weaker (IsHeldTo es l u) (IsHeld es u) held_upper L both;
        ordered = chain_map (IsHeldTo es l u) (λ s t. AreHeld es l s t × ComesBefore es l s t) (AreHeld es u)
            (λ s t a b p. record {
              order = order_upper s.bundle t.bundle a.0.bundle b.0.bundle a.1 b.1 p.1;
              left = λ g d o q. p.0.left g d (lower_chain l u g n.lower_divisor n.upper_divisor d n.in_order o) q;
            }) L both pairs;
        apart = chain_map (IsHeldTo es l u) (λ s t. AreHeld es l s t × ComesBefore es l s t) (AreApart es u)
            (λ s t a b p q. p.0.left u n.upper_divisor n.in_order q) L both pairs;
      }
    where
      both_chains : (ss : List Strand) → Chain (AreHeld es l) ss → Chain (ComesBefore es l) ss
          → Chain (λ s t. AreHeld es l s t × ComesBefore es l s t) ss
      both_chains [] a b = tt
      both_chains (s ∷ []) a b = tt
      both_chains (s ∷ (t ∷ ss)) a b = ((a.0, b.0), both_chains (t ∷ ss) a.1 b.1)

  -- ---- which edges there are
  module _ (P : List Start) (L0 L1 L2 L3 : List Strand) (starts : AllByRecursion (IsStartOf es) P)
      (rising : AreRising P)
      (waiting : AllByRecursion (IsHeld es l) L0)
      (later : (h : Level) → pos 0 <ℤ h.d → IsAtMost l h → AreAll es h (numbers_in L0) P)
      (begun-is : (k : ℕ) → reaches (edge_at es k) l l ≡ true
      → times k (numbers_in L1) ≡ times k (numbers_in L0) + times k (numbers_of (begun_at l P)))
      (kept : KeepTimes es l u L1 L2) (same : bundles_of L3 ≡ bundles_of L2) (ordered : AreOrdered es l u L3) where
    abbrev begins : Edge → Bool
    begins e = int_le ((low e).y *ℤ l.d) l.n

    itself : IsAtMost l l
    itself = omega (arith, ints)

    at_lower : AreAll es l (numbers_in L0) P
    at_lower = later l n.lower_divisor itself

    abbrev started : ℕ → ℕ
    started k = times k (numbers_of (begun_at l P))

    abbrev waits : ℕ → ℕ
    waits k = times k (numbers_of (pending_at l P))

    total : (k : ℕ) → times k (numbers_in L0 ++ numbers_of P) ≡ times k (numbers_in L0) + (started k + waits k)
    total k =
        times-append k (numbers_in L0) (numbers_of P)
        ∙ ap (λ (m : ℕ). times k (numbers_in L0) + m) (ap (times k) (parted l P)
        ∙ times-append k (numbers_of (begun_at l P)) (numbers_of (pending_at l P)))

    reach_all : AllByRecursion (IsReaching es l u) (numbers_in L3)
    reach_all = all_reaching es l u L3 ordered.mended.reach

    none : (Q : ℕ → Type 0) (ks : List ℕ) → AllByRecursion Q ks → (k : ℕ) → (Q k → ⊥) → times k ks ≡ 0
    none Q ks a k q = by_count (times k ks) refl
      where
        by_count : (m : ℕ) → times k ks ≡ m → m ≡ 0
        by_count zero e = refl
        by_count (suc m) e = absurd (q (standing Q k ks a (some (times k ks) m e)))
          where
            some : (a b : ℕ) → a ≡ suc b → 1 ≤ a
            some a b e = omega arith

    parts_of : (e : Edge) (a b : Level) → reaches e a b ≡ true
        → (int_lt (pos 0) (rise e) ≡ true) × (int_le ((low e).y *ℤ a.d) a.n ≡ true)
        × (int_le b.n ((high e).y *ℤ b.d) ≡ true)
    unfolding reaches
    parts_of e a b h =
        let begun = int_le ((low e).y *ℤ a.d) a.n in
        let on = int_le b.n ((high e).y *ℤ b.d) in
        let p = and_parts (int_lt (pos 0) (rise e)) (begun && on) h in
        let q = and_parts begun on p.1 in
        (p.0, q.0, q.1)

    whole_of : (e : Edge) (a b : Level) → int_lt (pos 0) (rise e) ≡ true → int_le ((low e).y *ℤ a.d) a.n ≡ true
        → int_le b.n ((high e).y *ℤ b.d) ≡ true → reaches e a b ≡ true
    unfolding reaches
    whole_of e a b p q r = rw (p, q, r) refl

    above : (e : Edge) (a b : Level) → pos 0 <ℤ a.d → pos 0 <ℤ b.d → IsAtMost a b
        → int_le b.n ((high e).y *ℤ b.d) ≡ true → int_le a.n ((high e).y *ℤ a.d) ≡ true
    above e a b da db o q =
        let from : IsAtMost b (level_of (high e).y) = omega (arith, ints) in
        let to = at_most_chain a b (level_of (high e).y) da db one o from in
        sym (omega (arith, ints))

    lower_only : (e : Edge) → reaches e l u ≡ true → reaches e l l ≡ true
    lower_only e h =
        let p = parts_of e l u h in
        whole_of e l l p.0 p.1 (above e l u n.lower_divisor n.upper_divisor (lower_weak l u n.in_order) p.2)

    -- those that wait haven't begun
    no_wait : (k : ℕ) → begins (edge_at es k) ≡ true → waits k ≡ 0
    no_wait k b =
        none (λ j. (j < length es) × (int_le ((low (edge_at es j)).y *ℤ l.d) l.n ≡ false)) (numbers_of (pending_at l P))
        (of_numbers es l false (pending_at l P) (pending_too l (IsStartOf es) P starts)
        (all_pending l n.lower_divisor P rising)) k (λ q. true≢false (sym b ∙ q.1))

    no_start : (k : ℕ) → begins (edge_at es k) ≡ false → started k ≡ 0
    no_start k b =
        none (λ j. (j < length es) × (int_le ((low (edge_at es j)).y *ℤ l.d) l.n ≡ true)) (numbers_of (begun_at l P))
        (of_numbers es l true (begun_at l P) (begun_too l (IsStartOf es) P starts) (all_begun l P)) k
        (λ q. true≢false (sym q.1 ∙ b))

    no_old : (k : ℕ) → begins (edge_at es k) ≡ false → times k (numbers_in L0) ≡ 0
    no_old k b =
        none (IsReaching es l l) (numbers_in L0) (all_held es l L0 waiting) k
        (λ q. true≢false (sym (parts_of (edge_at es k) l l q.reaches).1 ∙ b))

    no_new : (k : ℕ) → reaches (edge_at es k) l u ≡ false → times k (numbers_in L3) ≡ 0
    no_new k b = none (IsReaching es l u) (numbers_in L3) reach_all k (λ q. true≢false (sym q.reaches ∙ b))

    -- an edge that reaches both heights stands there as often as before
    new_is : (k : ℕ) → reaches (edge_at es k) l u ≡ true
        → times k (numbers_in L3) ≡ times k (numbers_in L0) + started k
    new_is k h =
        ap (λ (bs : List (List ℕ)). times k (concat bs)) same ∙ kept k h
        ∙ begun-is k (lower_only (edge_at es k) h)

    sum_is : (a b c d e : ℕ) → a ≡ b + (c + d) → e ≡ b + c → e + d ≡ a
    sum_is a b c d e p q = omega arith

    two : (k : ℕ) → times k (numbers_in L3 ++ numbers_of (pending_at l P)) ≡ times k (numbers_in L3) + waits k
    two k = times-append k (numbers_in L3) (numbers_of (pending_at l P))

    pub once : (k : ℕ) → times k (numbers_in L3 ++ numbers_of (pending_at l P)) ≤ 1
    once k = by_test (reaches (edge_at es k) l u) refl
      where
        fit : (a b c : ℕ) → a ≡ b → b ≡ c → c ≤ 1 → a ≤ 1
        fit a b c p q r = omega arith

        few : (a b c d e f : ℕ) → a ≡ b + c → b ≡ 0 → d ≡ e + (f + c) → d ≤ 1 → a ≤ 1
        few a b c d e f p q r s = omega arith

        by_test : (t : Bool) → reaches (edge_at es k) l u ≡ t
            → times k (numbers_in L3 ++ numbers_of (pending_at l P)) ≤ 1
        by_test true h = fit (times k (numbers_in L3 ++ numbers_of (pending_at l P)))
            (times k (numbers_in L3) + waits k) (times k (numbers_in L0 ++ numbers_of P)) (two k)
            (sum_is (times k (numbers_in L0 ++ numbers_of P)) (times k (numbers_in L0)) (started k) (waits k)
            (times k (numbers_in L3)) (total k) (new_is k h)) (at_lower.once k)
        by_test false h = few (times k (numbers_in L3 ++ numbers_of (pending_at l P))) (times k (numbers_in L3))
            (waits k) (times k (numbers_in L0 ++ numbers_of P)) (times k (numbers_in L0)) (started k) (two k) (no_new k h)
            (total k) (at_lower.once k)

    pub all_later : (h : Level) → pos 0 <ℤ h.d → IsAtMost u h → (k : ℕ) → k < length es
        → reaches (edge_at es k) h h ≡ true → times k (numbers_in L3 ++ numbers_of (pending_at l P)) ≡ 1
    all_later h d o k there r = by_test (begins (edge_at es k)) refl
      where
        e : Edge
        e = edge_at es k

        after : IsAtMost l h
        after = at_most_chain l u h n.lower_divisor n.upper_divisor d (lower_weak l u n.in_order) o

        alone : (a b c d e f : ℕ) → a ≡ b + c → b ≡ 0 → d ≡ e + (f + c) → e ≡ 0 → f ≡ 0 → d ≡ 1 → a ≡ 1
        alone a b c d e f p q r s t v = omega arith

        by_test : (t : Bool) → begins (edge_at es k) ≡ t
            → times k (numbers_in L3 ++ numbers_of (pending_at l P)) ≡ 1
        by_test true b =
            let p = parts_of (edge_at es k) h h r in
            let both : reaches (edge_at es k) l u ≡ true =
            whole_of (edge_at es k) l u p.0 b (above (edge_at es k) u h n.upper_divisor d o p.2) in
            two k ∙ sum_is (times k (numbers_in L0 ++ numbers_of P)) (times k (numbers_in L0)) (started k) (waits k)
            (times k (numbers_in L3)) (total k) (new_is k both)
            ∙ at_lower.all k there (lower_only (edge_at es k) both)
        by_test false b =
            alone (times k (numbers_in L3 ++ numbers_of (pending_at l P))) (times k (numbers_in L3)) (waits k)
            (times k (numbers_in L0 ++ numbers_of P)) (times k (numbers_in L0)) (started k) (two k)
            (none (IsReaching es l u) (numbers_in L3) reach_all k
            (λ q. true≢false (sym (parts_of (edge_at es k) l u q.reaches).1 ∙ b)))
            (total k) (no_old k b) (no_start k b) ((later h d after).all k there r)

    times_same : (k : ℕ) → times k (reaching 0 es l u) ≡ times k (numbers_in L3)
    times_same k = by_test (reaches (edge_at es k) l u) refl (nat_lt k (length es)) refl
      where
        exact : (a b c d e : ℕ) → a ≡ b + (c + d) → e ≡ b + c → d ≡ 0 → a ≡ 1 → e ≡ 1
        exact a b c d e p q r s = omega arith

        inside : nat_lt k (length es) ≡ true → k < length es
        inside q = grind arith

        outside : nat_lt k (length es) ≡ false → k < length es → ⊥
        outside q o = grind arith

        by_test : (t : Bool) → reaches (edge_at es k) l u ≡ t → (v : Bool) → nat_lt k (length es) ≡ v
            → times k (reaching 0 es l u) ≡ times k (numbers_in L3)
        by_test false h v q =
            ap (times k) (reaching_is l u 0 es)
            ∙ none_where (λ e. reaches e l u) es k (λ o r. true≢false (sym r ∙ h)) ∙ sym (no_new k h)
        by_test true h false q =
            ap (times k) (reaching_is l u 0 es)
            ∙ none_where (λ e. reaches e l u) es k (λ o r. outside q o)
            ∙ sym (none (IsReaching es l u) (numbers_in L3) reach_all k (λ r. outside q r.there))
        by_test true h true q =
            ap (times k) (reaching_is l u 0 es) ∙ once_where (λ e. reaches e l u) es k (inside q) h
            ∙ sym (exact (times k (numbers_in L0 ++ numbers_of P)) (times k (numbers_in L0)) (started k) (waits k)
            (times k (numbers_in L3)) (total k) (new_is k h) (no_wait k (parts_of (edge_at es k) l u h).1)
            (at_lower.all k (inside q) (lower_only (edge_at es k) h)))

    pub bundles_are : AreBundles es l u (bundles_of L3)
    bundles_are = record {
      members = from_times (reaching 0 es l u) (numbers_in L3) times_same;
      ranked = ranked_all es l L3 ordered.held ordered.mended.ranked;
    }

-- ---- before the first edge starts
touches_of : (e : Edge) (h : Level) → reaches e h h ≡ true → touches e h ≡ true
unfolding reaches touches
touches_of e h r =
    (and_parts (int_lt (pos 0) (rise e)) (int_le ((low e).y *ℤ h.d) h.n && int_le h.n ((high e).y *ℤ h.d)) r).1

pub none_yet : (es : List LeafEdge) (h : Level) (starts : List Start)
    → IsPermutation (all_numbers es) (numbers_of starts) → AreAll es h [] starts
none_yet es h starts m =
    let c = none_live es h starts m in
    record { once = c.once; all = λ k o r. c.all k o (touches_of (edge_at es k) h r) }

pub none_waiting : (es : List LeafEdge) (at : Level) → AreWaiting es at []
none_waiting es at = record { held = tt; ordered = tt; apart = tt }

-- ---- as the code lifts it
-- P are the starts that were pending, Q those that are, B the numbers of the edges that begin
pub made_by : (es : List LeafEdge) (l u : Level) (n : AreNeighbours es l u) (P Q : List Start) (B : List ℕ)
    (L0 L1 L2 L3 : List Strand) → AllByRecursion (IsStartOf es) P → AreRising P → AreWaiting es l L0
    → ((h : Level) → pos 0 <ℤ h.d → IsAtMost l h → AreAll es h (numbers_in L0) P)
    → B ≡ numbers_of (begun_at l P) → Q ≡ pending_at l P
    → ((k : ℕ) → reaches (edge_at es k) l l ≡ true
    → times k (numbers_in L1) ≡ times k (numbers_in L0) + times k B)
    → KeepTimes es l u L1 L2 → bundles_of L3 ≡ bundles_of L2 → AreOrdered es l u L3
    → AreBundles es l u (bundles_of L3) × AreWaiting es u L3
    × ((h : Level) → pos 0 <ℤ h.d → IsAtMost u h → AreAll es h (numbers_in L3) Q)
made_by es l u n P Q B L0 L1 L2 L3 s r w later b p t k e o =
    let t' : (k : ℕ) → reaches (edge_at es k) l l ≡ true
    → times k (numbers_in L1) ≡ times k (numbers_in L0) + times k (numbers_of (begun_at l P)) =
    subst (λ (ks : List ℕ). (k : ℕ) → reaches (edge_at es k) l l ≡ true
    → times k (numbers_in L1) ≡ times k (numbers_in L0) + times k ks) b t in (
      bundles_are es l u n P L0 L1 L2 L3 s r w.held later t' k e o,
      lifted es l u n L3 o,
      λ h d q. subst (AreAll es h (numbers_in L3)) (sym p) (record {
        once = once es l u n P L0 L1 L2 L3 s r w.held later t' k e o;
        all = all_later es l u n P L0 L1 L2 L3 s r w.held later t' k e o h d q;
      }),
    )

pub begun_there : (es : List LeafEdge) (at : Level) (P : List Start) → AllByRecursion (IsStartOf es) P
    → All (λ k. k < length es) (numbers_of (begun_at at P))
begun_there es at P s =
    let ks : List ℕ = numbers_of (begun_at at P) in
    All-from_recursion (λ k. k < length es) ks
    (weaker (λ k. (k < length es) × (int_le ((low (edge_at es k)).y *ℤ at.d) at.n ≡ true)) (λ k. k < length es)
    (λ k h. h.0) ks
    (of_numbers es at true (begun_at at P) (begun_too at (IsStartOf es) P s) (all_begun at P)))
