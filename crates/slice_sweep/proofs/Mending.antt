-- One place after another is mended.
use Rattle.std.proofs.Common.{◌≡◌, ℕ, ◌+◌, ◌<◌, inl, inr, Bool, true, List, [], ◌∷◌, ◌++◌, map, length, filter, refl, sym, ap, ap₂, ◌∙◌, arith, subst, append_assoc, IsPermutation}
use lib.IntN.{pos, ◌*ℤ◌}
use lib.Signed.{◌<ℤ◌}
use Rattle.std.specs.Prelude.{int_lt, int_le, ◌&&◌}
use Rattle.std.specs.List.{AllByRecursion, concat}
use Rattle.std.proofs.lemmas.Bool.{and_parts}
use Rattle.std.proofs.lemmas.Int.{ints, by_lt_z}
use Rattle.std.proofs.lemmas.List.{append-nil, length-append, get_or_at, get_or-append-add, length_push}
use Rattle.std.proofs.lemmas.List.Elements.{All-from_recursion, recursion_from_All, All-filter, filter_passes}
use Rattle.std.proofs.lemmas.List.Sorted.{All-permutation}
use Rattle.scad_base.proofs.Lists.{AllByRecursion-append}
use Rattle.scad_geom.specs.Limits.{coordinate_limit}
use Rattle.scad_geom.specs.declared.point.Edge.{Edge}
use Rattle.scad_geom.specs.declared.level.Level.{Level}
use Rattle.scad_geom.specs.declared.level.LeafEdge.{LeafEdge}
use Rattle.scad_geom.specs.Line.{low, high, rise, x_at}
use Rattle.scad_geom.specs.Level.{IsLower, IsLevelWithin}
use Rattle.scad_geom.specs.EdgeOrder.{IsBefore, AreAligned}
use Rattle.scad_geom.proofs.Heights.{lower_same, same_lower, same_chain, lower_chain}
use Rattle.scad_geom.proofs.Order.{front, back, aligned_all}
use Rattle.slice_bundles.specs.Times.{times}
use Rattle.slice_bundles.specs.Bundles.{edge_at, reaches, IsBundle, AreRanked}
use Rattle.slice_bundles.specs.KeptOrder.{IsLeftAt, IsNotRightAt, IsSamePlaceAt, AllStand}
use Rattle.slice_bundles.specs.Touching.{touches}
use Rattle.slice_bundles.proofs.Live.{reaches_is}
use Rattle.slice_bundles.proofs.Touching.{reaches_touches}
use Rattle.slice_bundles.proofs.Times.{times_permuted, times_kept}
use Rattle.slice_sweep.specs.declared.strand.Strand.{Strand}
use Rattle.slice_sweep.specs.Keys.{stale}
use Rattle.slice_sweep.specs.Chains.{Chain, Joins}
use Rattle.slice_sweep.specs.Strands.{bundles_of, numbers_in, head, LiesLeft, LiesNotRight, IsTogether, IsReaching, IsHeld, AreHeld, AreApart, weakened, fresh, no_strand, strand_at}
use Rattle.slice_sweep.specs.Mending.{ComesBefore, AreMended, AreMendedTo, KeepTimes}
use Rattle.slice_sweep.specs.Changes.{all_at}
use Rattle.slice_sweep.specs.Places.{MeetsWith, group_of, IsPlace, LiesBefore, place_of}
use Rattle.slice_sweep.proofs.Keys.{never_below}
use Rattle.slice_sweep.proofs.Lists.{chain_append, chain_front, chain_back, chain_joins, chain_tail, joins_nil, joins_more, joins_first, joins_swap, joins_all, joins_map, chain_map, weaker}
use Rattle.slice_sweep.proofs.Weakening.{bundles_fresh, length_weakened, length_fresh, chain_weakened, all_weakened, joins_weakened, held_put, ordered_put, times_strands, times_put}

-- where an edge passes a height, as a number over its rise
place : Level → Edge → Level
place at e = record { n = x_at e at.n at.d; d = rise e }

module _ (at : Level) (e f g : Edge) (de : pos 0 <ℤ rise e) (df : pos 0 <ℤ rise f) (dg : pos 0 <ℤ rise g) where
  pub left_same : IsLeftAt at e f → IsSamePlaceAt at f g → IsLeftAt at e g
  unfolding place
  left_same h k = lower_same (place at e) (place at f) (place at g) de df dg h k

  pub same_left : IsSamePlaceAt at e f → IsLeftAt at f g → IsLeftAt at e g
  unfolding place
  same_left h k = same_lower (place at e) (place at f) (place at g) de df dg h k

  pub same_same : IsSamePlaceAt at e f → IsSamePlaceAt at f g → IsSamePlaceAt at e g
  unfolding place
  same_same h k = same_chain (place at e) (place at f) (place at g) de df dg h k

  left_left : IsLeftAt at e f → IsLeftAt at f g → IsLeftAt at e g
  unfolding place
  left_left h k = lower_chain (place at e) (place at f) (place at g) de df dg h k

weak : (at : Level) (e f : Edge) → IsLeftAt at e f → IsNotRightAt at e f
weak at e f h = omega (arith, ints)

pub turned : (at : Level) (e f : Edge) → IsSamePlaceAt at e f → IsSamePlaceAt at f e
turned at e f h = sym h

strict : (at : Level) (e f : Edge) → IsNotRightAt at e f → (IsSamePlaceAt at e f → ⊥) → IsLeftAt at e f
strict at e f h n = by_lt_z (x_at e at.n at.d *ℤ rise f) (x_at f at.n at.d *ℤ rise e) (λ k. k)
    (λ k. absurd (n (omega (arith, ints))))

pub strict_heads : (es : List LeafEdge) (l : Level) (s t : Strand) → LiesNotRight es l s t
    → (IsTogether es l s t → ⊥) → LiesLeft es l s t
strict_heads es l s t h n = strict l (head es s.bundle) (head es t.bundle) h n

before_weak : (at : Level) (e f : Edge) → IsBefore at e f → IsNotRightAt at e f
before_weak at e f (inl h) = omega (arith, ints)
before_weak at e f (inr h) = let h0 = h.0 in omega (arith, ints)

pub edge_rises : (es : List LeafEdge) (l u : Level) (k : ℕ) → IsReaching es l u k → pos 0 <ℤ rise (edge_at es k)
edge_rises es l u k r = (reaches_is (edge_at es k) l u r.reaches).rises

pub head_rises : (es : List LeafEdge) (at l u : Level) (b : List ℕ) → IsBundle es at b
    → AllByRecursion (IsReaching es l u) b → pos 0 <ℤ rise (head es b)
head_rises es at l u [] b r = absurd b
head_rises es at l u (k ∷ ks) b r = edge_rises es l u k r.0

-- ---- a strand that stays as it is
pub as_it_is : (es : List LeafEdge) (l u : Level) (p : ℕ) (L : List Strand) → AreMendedTo es l u p L → p < length L
    → AllByRecursion (IsReaching es l u) (strand_at L p).bundle
    → (p + 1 < length L → LiesLeft es l (strand_at L p) (strand_at L (p + 1)))
    → AreMendedTo es l u (p + 1) L
as_it_is es l u p L m o r a = by_rest m.done m.rest m.is m.size m.mended m.beside m.apart
  where
    by_rest : (done rest : List Strand) → L ≡ done ++ rest → length done ≡ p → AreMended es l u done
        → Joins (LiesLeft es l) done rest → Chain (AreApart es l) rest → AreMendedTo es l u (p + 1) L
    by_rest done [] is size n j c = absurd (omega (arith, ap length is, length-append done [], size, o))
    by_rest done (s ∷ rest) is size n j c =
        let here : strand_at L p ≡ s = ap (λ (xs : List Strand). strand_at xs p) is
        ∙ get_or_at done s rest no_strand p size in
        let reach : AllByRecursion (IsReaching es l u) s.bundle =
        subst (λ (t : Strand). AllByRecursion (IsReaching es l u) t.bundle) here r in
        let beside : Joins (LiesLeft es l) (s ∷ []) rest = next rest is in
        record {
          done = done ++ (s ∷ []);
          rest = rest;
          is = is ∙ sym (append_assoc done (s ∷ []) rest);
          size = length_push done s ∙ ap (λ (n : ℕ). n + 1) size;
          held = m.held;
          ordered = m.ordered;
          mended = record {
            reach = AllByRecursion-append (λ (t : Strand). AllByRecursion (IsReaching es l u) t.bundle) done (s ∷ [])
                n.reach (reach, tt);
            ranked = chain_append (ComesBefore es l) done (s ∷ []) n.ranked tt
                (joins_map (λ (t : Strand). Unit {0}) (LiesLeft es l) (ComesBefore es l) (λ x y a b k. inl k) done
                (s ∷ []) (any done) (tt, tt) (joins_first (LiesLeft es l) done s rest [] j));
          };
          beside = joins_more (LiesLeft es l) done s [] rest beside;
          apart = chain_tail (AreApart es l) s rest c;
        }
      where
        any : (xs : List Strand) → AllByRecursion (λ (t : Strand). Unit {0}) xs
        any [] = tt
        any (x ∷ xs) = (tt, any xs)

        next : (rest : List Strand) → L ≡ done ++ (s ∷ rest) → Joins (LiesLeft es l) (s ∷ []) rest
        next [] e = tt
        next (t ∷ rest) e =
            let more : p + 1 < length L = omega (arith, ap length e, length-append done (s ∷ (t ∷ rest)), size) in
            let here : strand_at L p ≡ s = ap (λ (xs : List Strand). strand_at xs p) e
            ∙ get_or_at done s (t ∷ rest) no_strand p size in
            let there : strand_at L (p + 1) ≡ t = ap (λ (xs : List Strand). strand_at xs (p + 1)) e
            ∙ ap (λ (n : ℕ). strand_at (done ++ (s ∷ (t ∷ rest))) (n + 1)) (sym size)
            ∙ get_or-append-add done (s ∷ (t ∷ rest)) 1 no_strand in
            subst (λ (x : Strand). LiesLeft es l x t) here
            (subst (λ (x : Strand). LiesLeft es l (strand_at L p) x) there (a more))

-- ---- strands at one place, and the bundles in their place
-- an edge of a number at the same place as another edge
record IsAt (es : List LeafEdge) (l : Level) (x : Edge) (k : ℕ) : Type 0 where
  rises : pos 0 <ℤ rise (edge_at es k)
  same : IsSamePlaceAt l x (edge_at es k)

-- so is the first of a bundle
record IsHeadAt (es : List LeafEdge) (l : Level) (x : Edge) (s : Strand) : Type 0 where
  rises : pos 0 <ℤ rise (head es s.bundle)
  same : IsSamePlaceAt l x (head es s.bundle)

module _ (es : List LeafEdge) (l u : Level) (w : IsLevelWithin coordinate_limit l) (dl : pos 0 <ℤ l.d) where
  bundle_at : (x : Edge) → pos 0 <ℤ rise x → (b : List ℕ) → IsBundle es l b → AllByRecursion (IsReaching es l l) b
      → IsSamePlaceAt l x (head es b) → AllByRecursion (IsAt es l x) b
  bundle_at x dx [] b r e = tt
  bundle_at x dx (k ∷ ks) b r e = (
    record { rises = edge_rises es l l k r.0; same = e },
    others ks b.1 r.1,
  )
    where
      others : (js : List ℕ) → AllByRecursion (λ j. AreAligned l (edge_at es k) (edge_at es j)) js
          → AllByRecursion (IsReaching es l l) js → AllByRecursion (IsAt es l x) js
      others [] a q = tt
      others (j ∷ js) a q = (
        record {
          rises = edge_rises es l l j q.0;
          same = same_same l x (edge_at es k) (edge_at es j) dx (edge_rises es l l k r.0) (edge_rises es l l j q.0) e
              (aligned_all l dl (edge_at es k) (edge_at es j) a.0 l.n l.d);
        },
        others js a.1 q.1,
      )

  -- the strands of a group, and their edges, lie at one place
  heads_at : (x : Edge) → pos 0 <ℤ rise x → (s : Strand) (ss : List Strand) → AllByRecursion (IsHeld es l) (s ∷ ss)
      → Chain (IsTogether es l) (s ∷ ss) → IsSamePlaceAt l x (head es s.bundle)
      → AllByRecursion (IsHeadAt es l x) (s ∷ ss)
  heads_at x dx s [] h c e = (
    record { rises = head_rises es l l l s.bundle h.0.bundle h.0.reach; same = e },
    tt,
  )
  heads_at x dx s (t ∷ ss) h c e =
      let ds = head_rises es l l l s.bundle h.0.bundle h.0.reach in
      let dt = head_rises es l l l t.bundle h.1.0.bundle h.1.0.reach in (
        record { rises = ds; same = e },
        heads_at x dx t ss h.1 c.1 (same_same l x (head es s.bundle) (head es t.bundle) dx ds dt e c.0),
      )

  members_at : (x : Edge) → pos 0 <ℤ rise x → (ss : List Strand) → AllByRecursion (IsHeld es l) ss
      → AllByRecursion (IsHeadAt es l x) ss → AllByRecursion (IsAt es l x) (numbers_in ss)
  members_at x dx [] h a = tt
  members_at x dx (s ∷ ss) h a =
      AllByRecursion-append (IsAt es l x) s.bundle (numbers_in ss)
      (bundle_at x dx s.bundle h.0.bundle h.0.reach a.0.same) (members_at x dx ss h.1 a.1)

  pub members_there : (ss : List Strand) → AllByRecursion (IsHeld es l) ss
      → AllByRecursion (λ k. k < length es) (numbers_in ss)
  members_there [] h = tt
  members_there (s ∷ ss) h =
      AllByRecursion-append (λ k. k < length es) s.bundle (numbers_in ss)
      (weaker (IsReaching es l l) (λ k. k < length es) (λ k r. r.there) s.bundle h.0.reach) (members_there ss h.1)

  pub stand_together : (g : Strand) (G : List Strand) → AllByRecursion (IsHeld es l) (g ∷ G)
      → Chain (IsTogether es l) (g ∷ G)
      → AllStand (IsSamePlaceAt l) es (numbers_in (g ∷ G)) (numbers_in (g ∷ G))
  stand_together g G h c = weaker (IsAt es l x) (λ k. AllByRecursion (λ j. Same k j) ks)
      (λ k a. weaker (IsAt es l x) (λ j. Same k j)
      (λ j b. same_same l (edge_at es k) x (edge_at es j) a.rises dx b.rises (turned l x (edge_at es k) a.same) b.same) ks all) ks all
    where
      x : Edge
      x = head es g.bundle

      ks : List ℕ
      ks = numbers_in (g ∷ G)

      Same : ℕ → ℕ → Type 0
      Same k j = IsSamePlaceAt l (edge_at es k) (edge_at es j)

      dx : pos 0 <ℤ rise x
      dx = head_rises es l l l g.bundle h.0.bundle h.0.reach

      all : AllByRecursion (IsAt es l x) ks
      all = members_at x dx (g ∷ G) h (heads_at x dx g G h c refl)

  -- ---- the bundles in their place
  both_true : (s t : Bool) → s ≡ true → t ≡ true → (s && t) ≡ true
  both_true s t p q = rw (p, q) refl

  lower_only : pos 0 <ℤ u.d → IsLower l u → (e : Edge) → reaches e l u ≡ true → reaches e l l ≡ true
  unfolding reaches touches
  lower_only du o e q =
      let t = reaches_touches e l u dl du o q in
      let p = and_parts (int_lt (pos 0) (rise e)) (int_le ((low e).y *ℤ l.d) l.n && int_le u.n ((high e).y *ℤ u.d)) q in
      both_true (int_lt (pos 0) (rise e)) (int_le ((low e).y *ℤ l.d) l.n && int_le l.n ((high e).y *ℤ l.d)) p.0 t

  reach_of : (bs : List (List ℕ)) → AllByRecursion (IsReaching es l u) (concat bs)
      → AllByRecursion (λ (t : Strand). AllByRecursion (IsReaching es l u) t.bundle) (fresh bs)
  reach_of [] r = tt
  reach_of (b ∷ bs) r =
      (front (IsReaching es l u) b (concat bs) r, reach_of bs (back (IsReaching es l u) b (concat bs) r))

  held_of : (du : pos 0 <ℤ u.d) → IsLower l u → (bs : List (List ℕ)) → AreRanked es l bs
      → AllByRecursion (IsReaching es l u) (concat bs) → AllByRecursion (IsHeld es l) (fresh bs)
  held_of du o [] a r = tt
  held_of du o (b ∷ bs) a r = (
    record {
      bundle = a.0;
      reach = weaker (IsReaching es l u) (IsReaching es l l)
          (λ k q. record { there = q.there; reaches = lower_only du o (edge_at es k) q.reaches }) b
          (front (IsReaching es l u) b (concat bs) r);
      ends = λ g d p q. absurd (never_below l g w d p q);
    },
    held_of du o bs a.2 (back (IsReaching es l u) b (concat bs) r),
  )

  ranked_of : (bs : List (List ℕ)) → AreRanked es l bs → Chain (ComesBefore es l) (fresh bs)
  ranked_of [] a = tt
  ranked_of (b ∷ []) a = tt
  ranked_of ([] ∷ (c ∷ bs)) a = absurd a.0
  ranked_of ((k ∷ ks) ∷ ([] ∷ bs)) a = absurd a.2.0
  ranked_of ((k ∷ ks) ∷ ((j ∷ js) ∷ bs)) a = (a.1.0, ranked_of ((j ∷ js) ∷ bs) a.2)

  fresh_at : (x : Edge) (bs : List (List ℕ)) → AreRanked es l bs → AllByRecursion (IsAt es l x) (concat bs)
      → AllByRecursion (IsHeadAt es l x) (fresh bs)
  fresh_at x [] a h = tt
  fresh_at x ([] ∷ bs) a h = absurd a.0
  fresh_at x ((k ∷ ks) ∷ bs) a h = (
    record { rises = h.0.rises; same = h.0.same },
    fresh_at x bs a.2 (back (IsAt es l x) (k ∷ ks) (concat bs) h),
  )

  -- ---- a group replaced
  module _ (du : pos 0 <ℤ u.d) (lu : IsLower l u) (D O : List Strand) (g : Strand) (G : List Strand)
      (held : AllByRecursion (IsHeld es l) (D ++ ((g ∷ G) ++ O)))
      (ordered : Chain (AreHeld es l) (D ++ ((g ∷ G) ++ O)))
      (mended : AreMended es l u D) (beside : Joins (LiesLeft es l) D ((g ∷ G) ++ O))
      (apart : Chain (AreApart es l) ((g ∷ G) ++ O))
      (together : Chain (IsTogether es l) (g ∷ G))
      (parted : Joins (λ s t. IsTogether es l s t → ⊥) (g ∷ G) O)
      (bs : List (List ℕ)) (ranks : AreRanked es l bs)
      (same : IsPermutation (filter (λ k. reaches (edge_at es k) l u) (numbers_in (g ∷ G))) (concat bs)) where
    abbrev N : List Strand
    N = fresh bs

    abbrev x : Edge
    x = head es g.bundle

    held_D : AllByRecursion (IsHeld es l) D
    held_D = front (IsHeld es l) D ((g ∷ G) ++ O) held

    held_rest : AllByRecursion (IsHeld es l) ((g ∷ G) ++ O)
    held_rest = back (IsHeld es l) D ((g ∷ G) ++ O) held

    held_G : AllByRecursion (IsHeld es l) (g ∷ G)
    held_G = front (IsHeld es l) (g ∷ G) O held_rest

    held_O : AllByRecursion (IsHeld es l) O
    held_O = back (IsHeld es l) (g ∷ G) O held_rest

    dx : pos 0 <ℤ rise x
    dx = head_rises es l l l g.bundle held_G.0.bundle held_G.0.reach

    all_G : AllByRecursion (IsHeadAt es l x) (g ∷ G)
    all_G = heads_at x dx g G held_G together refl

    abbrev kept : List ℕ
    kept = filter (λ k. reaches (edge_at es k) l u) (numbers_in (g ∷ G))

    at_N : AllByRecursion (IsAt es l x) (concat bs)
    at_N = recursion_from_All (IsAt es l x) (concat bs) (All-permutation (IsAt es l x) kept (concat bs) same
        (All-filter (λ k. reaches (edge_at es k) l u) (IsAt es l x) (numbers_in (g ∷ G))
        (All-from_recursion (IsAt es l x) (numbers_in (g ∷ G)) (members_at x dx (g ∷ G) held_G all_G))))

    reach_N : AllByRecursion (IsReaching es l u) (concat bs)
    reach_N = recursion_from_All (IsReaching es l u) (concat bs)
        (All-permutation (IsReaching es l u) kept (concat bs) same
        (λ k d o. record {
          there = All-filter (λ k. reaches (edge_at es k) l u) (λ k. k < length es) (numbers_in (g ∷ G))
              (All-from_recursion (λ k. k < length es) (numbers_in (g ∷ G)) (members_there (g ∷ G) held_G)) k d o;
          reaches = filter_passes (λ k. reaches (edge_at es k) l u) (numbers_in (g ∷ G)) k d o;
        }))

    heads_N : AllByRecursion (IsHeadAt es l x) N
    heads_N = fresh_at x bs ranks at_N

    held_N : AllByRecursion (IsHeld es l) N
    held_N = held_of du lu bs ranks reach_N

    ranked_N : Chain (ComesBefore es l) N
    ranked_N = ranked_of bs ranks

    -- those before lie to the left of the place, and those behind to its right
    abbrev Rises : Strand → Type 0
    Rises s = pos 0 <ℤ rise (head es s.bundle)

    rises_held : (ss : List Strand) → AllByRecursion (IsHeld es l) ss → AllByRecursion Rises ss
    rises_held ss h = weaker (IsHeld es l) Rises (λ s q. head_rises es l l l s.bundle q.bundle q.reach) ss h

    D_before : (t : Strand) (ts : List Strand) → IsHeadAt es l x t → Joins (LiesLeft es l) D (t ∷ ts)
    D_before t ts h = joins_swap Rises (LiesLeft es l) (LiesLeft es l) g t
        (λ s r k. left_same l (head es s.bundle) x (head es t.bundle) r dx h.rises k h.same) D (G ++ O) ts
        (rises_held D held_D) beside

    O_behind : (o : Strand) (os : List Strand) → O ≡ o ∷ os → Rises o × IsLeftAt l x (head es o.bundle)
    O_behind o os e =
        let order : Joins (LiesNotRight es l) (g ∷ G) (o ∷ os) =
        subst (Joins (LiesNotRight es l) (g ∷ G)) e (joins_map (λ (t : Strand). IsHeld es l t) (AreHeld es l)
        (LiesNotRight es l) (λ s t a b h. h.order) (g ∷ G) O held_G held_O
        (chain_joins (AreHeld es l) (g ∷ G) O (chain_back (AreHeld es l) D ((g ∷ G) ++ O) ordered))) in
        let ends : Joins (λ s t. IsTogether es l s t → ⊥) (g ∷ G) (o ∷ os) =
        subst (Joins (λ s t. IsTogether es l s t → ⊥) (g ∷ G)) e parted in
        let last = both_out g G all_G order ends in
        let first : AllByRecursion (IsHeld es l) (o ∷ os) = subst (AllByRecursion (IsHeld es l)) e held_O in
        let ro : Rises o = head_rises es l l l o.bundle first.0.bundle first.0.reach in (
          ro,
          same_left l x (head es last.0.bundle) (head es o.bundle) dx last.1.rises ro last.1.same
              (strict l (head es last.0.bundle) (head es o.bundle) last.2 last.3),
        )
      where
        both_out : (s : Strand) (ss : List Strand) → AllByRecursion (IsHeadAt es l x) (s ∷ ss)
            → Joins (LiesNotRight es l) (s ∷ ss) (o ∷ os) → Joins (λ s t. IsTogether es l s t → ⊥) (s ∷ ss) (o ∷ os)
            → (t : Strand) × IsHeadAt es l x t × LiesNotRight es l t o × (IsTogether es l t o → ⊥)
        both_out s [] a j k = (s, a.0, j, k)
        both_out s (t ∷ ss) a j k = both_out t ss a.1 j k

    N_before : (O' : List Strand) → O ≡ O' → Joins (LiesLeft es l) N O'
    N_before [] e = joins_nil (LiesLeft es l) N
    N_before (o ∷ os) e =
        let b = O_behind o os e in
        joins_all (LiesLeft es l) N o os (weaker (IsHeadAt es l x) (λ s. LiesLeft es l s o)
        (λ s h. same_left l (head es s.bundle) x (head es o.bundle) h.rises dx b.0
        (turned l x (head es s.bundle) h.same) b.1) N heads_N)

    D_then : (M : List (List ℕ)) → bs ≡ M → (O' : List Strand) → O ≡ O' → Joins (LiesLeft es l) D (fresh M ++ O')
    D_then [] m [] e = joins_nil (LiesLeft es l) D
    D_then [] m (o ∷ os) e =
        let b = O_behind o os e in
        joins_swap Rises (LiesLeft es l) (LiesLeft es l) g o
        (λ s r k. left_left l (head es s.bundle) x (head es o.bundle) r dx b.0 k b.1) D (G ++ O) os
        (rises_held D held_D) beside
    D_then (b ∷ M) m O' e =
        let h : AllByRecursion (IsHeadAt es l x) (fresh (b ∷ M)) =
        subst (λ (cs : List (List ℕ)). AllByRecursion (IsHeadAt es l x) (fresh cs)) m heads_N in
        D_before (record { bundle = b; wake = stale }) (fresh M ++ O') h.0

    left_weak : (xs ys : List Strand) → AllByRecursion Rises xs → AllByRecursion Rises ys
        → Joins (LiesLeft es l) xs ys → Joins (LiesNotRight es l) xs ys
    left_weak xs ys a b j = joins_map Rises (LiesLeft es l) (LiesNotRight es l)
        (λ s t p q k. weak l (head es s.bundle) (head es t.bundle) k) xs ys a b j

    -- a place where the bundles stand
    DN_before : (M : List (List ℕ)) → bs ≡ M → (O' : List Strand) → O ≡ O'
        → Joins (LiesLeft es l) (weakened D ++ fresh M) O'
    DN_before [] m O' e =
        subst (λ (xs : List Strand). Joins (LiesLeft es l) xs O') (sym (append-nil (weakened D)))
        (joins_weakened (LiesLeft es l) (LiesLeft es l) (λ s t h. h) D O' (D_then [] m O' e))
    DN_before (b ∷ M) m O' e =
        joins_more (LiesLeft es l) (weakened D) (record { bundle = b; wake = stale }) (fresh M) O'
        (subst (λ (cs : List (List ℕ)). Joins (LiesLeft es l) (fresh cs) O') m (N_before O' e))

    all_rise_N : AllByRecursion Rises N
    all_rise_N = rises_held N held_N

    all_rise_O : AllByRecursion Rises O
    all_rise_O = rises_held O held_O

    D_beside : Joins (LiesLeft es l) D (N ++ O)
    D_beside = D_then bs refl O refl

    D_ranks : (M : List (List ℕ)) → bs ≡ M → Joins (ComesBefore es l) (weakened D) (fresh M)
    D_ranks [] m = joins_nil (ComesBefore es l) (weakened D)
    D_ranks (b ∷ M) m =
        joins_weakened (LiesLeft es l) (ComesBefore es l) (λ s t h. inl h) D (fresh (b ∷ M))
        (joins_first (LiesLeft es l) D (record { bundle = b; wake = stale }) (fresh M ++ O) (fresh M)
        (D_then (b ∷ M) m O refl))

    pub regrouped : (n : ℕ) → length D ≡ n → AreMendedTo es l u (n + length bs) (weakened D ++ (N ++ O))
    regrouped n size = record {
      done = weakened D ++ N;
      rest = O;
      is = sym (append_assoc (weakened D) N O);
      size = length-append (weakened D) N
          ∙ ap₂ (λ (a b : ℕ). a + b) (length_weakened D ∙ size) (length_fresh bs);
      held = held_put es l w D bs O held_D held_N held_O;
      ordered = ordered_put es l w D bs O (chain_front (AreHeld es l) D ((g ∷ G) ++ O) ordered)
          (chain_map (λ (t : Strand). Rises t) (ComesBefore es l) (LiesNotRight es l)
          (λ s t p q k. before_weak l (head es s.bundle) (head es t.bundle) k) N all_rise_N ranked_N)
          (chain_back (AreHeld es l) (g ∷ G) O (chain_back (AreHeld es l) D ((g ∷ G) ++ O) ordered))
          (left_weak D (N ++ O) (rises_held D held_D)
          (AllByRecursion-append Rises N O all_rise_N all_rise_O) D_beside)
          (left_weak N O all_rise_N all_rise_O (N_before O refl));
      mended = record {
        reach = AllByRecursion-append (λ (t : Strand). AllByRecursion (IsReaching es l u) t.bundle) (weakened D) N
            (all_weakened (λ (t : Strand). AllByRecursion (IsReaching es l u) t.bundle) (λ s h. h) D mended.reach)
            (reach_of bs reach_N);
        ranked = chain_append (ComesBefore es l) (weakened D) N
            (chain_weakened (ComesBefore es l) (λ s t h. h) D mended.ranked) ranked_N (D_ranks bs refl);
      };
      beside = DN_before bs refl O refl;
      apart = chain_back (AreApart es l) (g ∷ G) O apart;
    }

    pub regrouped_times : KeepTimes es l u (D ++ ((g ∷ G) ++ O)) (weakened D ++ (N ++ O))
    regrouped_times k r =
        sums (times k (numbers_in (weakened D ++ (N ++ O)))) (times k (numbers_in D)) (times k (concat bs))
        (times k (numbers_in O)) (times k (numbers_in (D ++ ((g ∷ G) ++ O)))) (times k (numbers_in ((g ∷ G) ++ O)))
        (times k (numbers_in (g ∷ G))) (times_put k D bs O) (times_strands k D ((g ∷ G) ++ O))
        (times_strands k (g ∷ G) O)
        (times_permuted k kept (concat bs) same
        ∙ times_kept (λ k. reaches (edge_at es k) l u) k r (numbers_in (g ∷ G)))
      where
        sums : (a b c d e f h : ℕ) → a ≡ b + (c + d) → e ≡ b + f → f ≡ h + d → c ≡ h → a ≡ e
        sums a b c d e f h p q s t = omega arith

    -- ---- as a place
    heads_meet : (ss : List Strand) → AllByRecursion (IsHeadAt es l x) ss
        → AllByRecursion (MeetsWith es l x) (bundles_of ss)
    heads_meet [] h = tt
    heads_meet (s ∷ ss) h = ((h.0.rises, h.0.same), heads_meet ss h.1)

    pub group_is_place : (all_at (group_of es l (record { waiting = bundles_of (g ∷ G); leaving = bs })) ≡ [] → ⊥)
        → IsPlace es l (record { waiting = bundles_of (g ∷ G); leaving = bs })
    group_is_place some = record {
      rises = dx;
      waiting = heads_meet (g ∷ G) all_G;
      leaving = subst (AllByRecursion (MeetsWith es l x)) (bundles_fresh bs) (heads_meet N heads_N);
      some = some;
    }

    pub group_before : Joins (LiesBefore es l) (record { waiting = bundles_of (g ∷ G); leaving = bs } ∷ []) (map place_of O)
    group_before = by_rest O refl
      where
        by_rest : (O' : List Strand) → O ≡ O'
            → Joins (LiesBefore es l) (record { waiting = bundles_of (g ∷ G); leaving = bs } ∷ []) (map place_of O')
        by_rest [] e = tt
        by_rest (o ∷ os) e = (O_behind o os e).1
