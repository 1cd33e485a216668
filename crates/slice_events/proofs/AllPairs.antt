-- What is found among the stays of all edges is what is found among all pairs of edges.
use Rattle.std.proofs.Common.{◌≡◌, ℕ, zero, suc, ◌+◌, ◌*◌, ◌<◌, ◌≤◌, ◌^◌, ◌⊎◌, inl, inr, Bool, true, false, not, ◌&&◌, ◌||◌, List, [], ◌∷◌, ◌++◌, length, refl, sym, ap, ap₂, ◌∙◌, arith, subst}
use lib.IntN.{ℤ, pos, ◌*ℤ◌}
use lib.Signed.{◌<ℤ◌}
use Rattle.std.specs.Prelude.{if◌then◌else◌, count_by}
use Rattle.std.specs.List.{AllByRecursion}
use Rattle.std.specs.List.Sorted.{IsPermutation}
use Rattle.std.specs.Ordering.{int_eq}
use Rattle.std.specs.Cmp.{signed_Decides}
use Rattle.std.proofs.Math.Bool.{and_comm}
use Rattle.std.proofs.lemmas.Int.{ints, by_lt_z}
use Rattle.std.proofs.lemmas.Bool.{and_parts, true≢false}
use Rattle.scad_base.proofs.Lists.{AllByRecursion-append}
use Rattle.scad_geom.specs.Limits.{coordinate_limit}
use Rattle.scad_geom.specs.Within.{IsEdgeWithin}
use Rattle.scad_geom.specs.declared.point.Pt.{Pt}
use Rattle.scad_geom.specs.declared.point.Edge.{Edge}
use Rattle.scad_geom.specs.declared.level.Level.{Level}
use Rattle.scad_geom.specs.declared.level.LeafEdge.{LeafEdge}
use Rattle.scad_geom.specs.Point.{whole, is_same_point}
use Rattle.scad_geom.specs.Line.{low, high, lean}
use Rattle.scad_geom.specs.Meeting.{meets, meeting}
use Rattle.scad_geom.specs.Heights.{meetings, heights}
use Rattle.scad_geom.proofs.Balance.{once}
use Rattle.scad_geom.proofs.Heights.{lean_turned, meets_turned, meeting_is, meeting_turned}
use Rattle.slice_events.specs.declared.stay.Stay.{Stay}
use Rattle.slice_events.specs.declared.comparison.Found.{Found}
use Rattle.slice_events.specs.Levels.{share_end, crosses, crossings, HasHeight}
use Rattle.slice_events.specs.Lines.{edges_of_leaves}
use Rattle.slice_events.specs.Boxes.{boxes_meet, comparisons}
use Rattle.slice_events.specs.KeptHeights.{is_beside, is_rising, are_ends_beside, is_kept}
use Rattle.slice_events.specs.Collection.{end_levels}
use Rattle.slice_events.specs.Stays.{at_home, edge_at, all_stays}
use Rattle.slice_events.specs.Pairs.{pairs}
use Rattle.slice_events.specs.Yields.{Yield, yield_of, yield_among, HasRoom, HasYielded}
use Rattle.slice_events.specs.AllPairs.{IsEmpty, AreOtherHeights, IsFoundOf}
use Rattle.slice_events.proofs.Pairs.{count-cons, count-append, pairs-few, pairs-rearranged}
use Rattle.slice_events.proofs.Meets.{boxes-turned, boxes_of_crossing, straddling, zero_not}
use Rattle.slice_events.proofs.AtEnds.{AtEnd, kept_or_end}
use Rattle.slice_events.proofs.Yields.{among_total}
use Rattle.slice_events.proofs.Homes.{pairs_at_home, eqb-turned}

-- ---- the relations are symmetric
int_eq-turned : (a b : ℤ) → int_eq a b ≡ int_eq b a
int_eq-turned a b = by_test (int_eq a b) refl (int_eq b a) refl
  where
    by_test : (t : Bool) → int_eq a b ≡ t → (u : Bool) → int_eq b a ≡ u → int_eq a b ≡ int_eq b a
    by_test true e u f = e ∙ sym ((signed_Decides b a).1 (sym ((signed_Decides a b).0 e)))
    by_test false e true f = absurd (true≢false (sym ((signed_Decides a b).1 (sym ((signed_Decides b a).0 f))) ∙ e))
    by_test false e false f = e ∙ sym f

same_point-turned : (p q : Pt) → is_same_point (whole p) (whole q) ≡ is_same_point (whole q) (whole p)
same_point-turned p q = ap₂ (λ (a b : Bool). a && b) (int_eq-turned (p.y *ℤ pos 1) (q.y *ℤ pos 1))
    (int_eq-turned (p.x *ℤ pos 1) (q.x *ℤ pos 1))

share_end-turned : (e f : Edge) → share_end e f ≡ share_end f e
share_end-turned e f =
    ap₂ (λ (a b : Bool). a || b)
    (ap₂ (λ (a b : Bool). a || b) (same_point-turned e.a f.a) (same_point-turned e.a f.b))
    (ap₂ (λ (a b : Bool). a || b) (same_point-turned e.b f.a) (same_point-turned e.b f.b))
    ∙ middle (is_same_point (whole f.a) (whole e.a)) (is_same_point (whole f.b) (whole e.a))
    (is_same_point (whole f.a) (whole e.b)) (is_same_point (whole f.b) (whole e.b))
  where
    middle : (a b c d : Bool) → ((a || b) || (c || d)) ≡ ((a || c) || (b || d))
    middle true b c d = refl
    middle false true true d = refl
    middle false true false d = refl
    middle false false true d = refl
    middle false false false d = refl

crosses-turned : (e f : Edge) → crosses e f ≡ crosses f e
crosses-turned e f = ap₂ (λ (a b : Bool). a && b) (sym (meets_turned e f)) (ap not (share_end-turned e f))

kept-turned : (e f : Edge) → is_kept e f ≡ is_kept f e
unfolding is_kept are_ends_beside
kept-turned e f =
    ap₂ (λ (a b : Bool). a && b) (crosses-turned e f)
    (ap₂ (λ (a b : Bool). a && b) (and_comm (is_rising e) (is_rising f))
    (and_comm (is_beside e (low f) && is_beside e (high f)) (is_beside f (low e) && is_beside f (high e))))

meeting-turned : (e f : Edge) → meets e f ≡ true → meeting e f ≡ meeting f e
meeting-turned e f m =
    by_lt_z (pos 0) (lean e f) (λ p. meeting_is e f p ∙ sym (meeting_turned e f p)) (λ n.
    by_lt_z (lean e f) (pos 0) (λ o.
    let p : pos 0 <ℤ lean f e = subst (λ (z : ℤ). pos 0 <ℤ z) (sym (lean_turned e f)) (omega (arith, ints)) in
    meeting_turned f e p ∙ sym (meeting_is f e p))
    (λ o. absurd (zero_not (lean e f) (straddling e f m).slanted (omega (arith, ints)))))

kept_meets : (e f : Edge) → is_kept e f ≡ true → crosses e f ≡ true
unfolding is_kept
kept_meets e f h = (and_parts (crosses e f) ((is_rising e && is_rising f) && are_ends_beside e f) h).0

-- whether a level has a height
abbrev pub has_height : Level → Level → Bool
has_height h l = int_eq (l.n *ℤ h.d) (h.n *ℤ l.d)

abbrev pub kept_at : Level → Edge → Edge → Bool
kept_at h e f = is_kept e f && has_height h (meeting e f)

kept_at-turned : (h : Level) (e f : Edge) → kept_at h e f ≡ kept_at h f e
kept_at-turned h e f = by_test (is_kept e f) refl
  where
    none : (a b c d : Bool) → a ≡ false → b ≡ false → (a && c) ≡ (b && d)
    none a b c d h k = rw (h, k) refl

    by_test : (t : Bool) → is_kept e f ≡ t → kept_at h e f ≡ kept_at h f e
    by_test true k =
        let m = (and_parts (meets e f) (not (share_end e f)) (kept_meets e f k)).0 in
        ap₂ (λ (a b : Bool). a && b) (kept-turned e f) (ap (has_height h) (meeting-turned e f m))
    by_test false k = none (is_kept e f) (is_kept f e) _ _ k (sym (kept-turned e f) ∙ k)

kept_near : (h : Level) (e f : Edge) → kept_at h e f ≡ true → boxes_meet e f ≡ true
kept_near h e f k = boxes_of_crossing e f (kept_meets e f ((and_parts (is_kept e f) (has_height h (meeting e f)) k).0))

-- ---- from stays to edges
at_home-turned : (r : Edge → Edge → Bool) → ((e f : Edge) → r e f ≡ r f e) → (es : List Edge) (s t : Stay)
    → at_home r es s t ≡ at_home r es t s
at_home-turned r turned es s t =
    ap₂ (λ (a b : Bool). a && b)
    (ap₂ (λ (a b : Bool). a && b) (eqb-turned s.bucket t.bucket) (or_turned s.starts t.starts))
    (turned (edge_at es s.line) (edge_at es t.line))
  where
    or_turned : (a b : Bool) → (a || b) ≡ (b || a)
    or_turned true true = refl
    or_turned true false = refl
    or_turned false true = refl
    or_turned false false = refl

module _ (tall : ℕ) (positive : 0 < tall) (edges : List LeafEdge) (within : AllByRecursion (IsEdgeWithin coordinate_limit) (edges_of_leaves edges)) (stays : List Stay)
    (arranged : IsPermutation (all_stays tall 0 (edges_of_leaves edges)) stays) where
  abbrev pub es : List Edge
  es = edges_of_leaves edges

  in_pairs : (r : Edge → Edge → Bool) → ((e f : Edge) → r e f ≡ true → boxes_meet e f ≡ true)
      → ((e f : Edge) → r e f ≡ r f e) → pairs (at_home r es) stays ≡ pairs r es
  in_pairs r near turned =
      sym (pairs-rearranged (at_home r es) (at_home-turned r turned es) (all_stays tall 0 es) stays arranged)
      ∙ pairs_at_home tall positive r near boxes-turned es es 0 refl within

  pub tests_are : (yield_among es stays).tests ≡ pairs boxes_meet es
  tests_are =
      among_total (λ (y : Yield). y.tests) (λ y z. refl) refl es boxes_meet (λ e f h. h) (λ e f h. sym (ap once h))
      stays
      ∙ in_pairs boxes_meet (λ e f h. h) boxes-turned

  pub count_is : (yield_among es stays).count ≡ pairs crosses es
  count_is =
      among_total (λ (y : Yield). y.count) (λ y z. refl) refl es crosses boxes_of_crossing (λ e f h. refl) stays
      ∙ in_pairs crosses boxes_of_crossing crosses-turned

  abbrev at_height : Level → Yield → ℕ
  at_height h y = count_by (has_height h) y.levels

  one_kept : (h : Level) (e f : Edge) → at_height h (yield_of e f) ≡ once (kept_at h e f)
  one_kept h e f = by_test (is_kept e f)
    where
      plus_none : (n : ℕ) → n + 0 ≡ n
      plus_none n = omega arith

      by_test : (t : Bool) → count_by (has_height h) (if t then meeting e f ∷ [] else [])
          ≡ once (t && has_height h (meeting e f))
      by_test true = count-cons (has_height h) (meeting e f) [] ∙ plus_none (once (has_height h (meeting e f)))
      by_test false = refl

  pub levels_are : (h : Level) → count_by (has_height h) (yield_among es stays).levels ≡ pairs (kept_at h) es
  levels_are h =
      among_total (at_height h) (λ y z. count-append (has_height h) y.levels z.levels) refl es (kept_at h)
      (kept_near h) (λ e f b. one_kept h e f) stays
      ∙ in_pairs (kept_at h) (kept_near h) (kept_at-turned h)

-- ---- pairs of leaves' edges
count_of_leaves : (p : Edge → Bool) (es : List LeafEdge)
    → count_by p (edges_of_leaves es) ≡ count_by (λ e. p e.edge) es
count_of_leaves p [] = refl
count_of_leaves p (e ∷ es) =
    count-cons p e.edge (edges_of_leaves es)
    ∙ ap (λ (n : ℕ). once (p e.edge) + n) (count_of_leaves p es)
    ∙ sym (count-cons (λ (f : LeafEdge). p f.edge) e es)

pub comparisons_are : (es : List LeafEdge) → pairs boxes_meet (edges_of_leaves es) ≡ comparisons es
comparisons_are [] = refl
comparisons_are (e ∷ es) = ap₂ (λ (m n : ℕ). m + n) (count_of_leaves (boxes_meet e.edge) es) (comparisons_are es)

pub crossings_are : (es : List LeafEdge) → pairs crosses (edges_of_leaves es) ≡ crossings es
crossings_are [] = refl
crossings_are (e ∷ es) = ap₂ (λ (m n : ℕ). m + n) (count_of_leaves (crosses e.edge) es) (crossings_are es)

-- ---- the heights of a list
pub has_append : (xs ys : List Level) (h : Level) → HasHeight xs h ⊎ HasHeight ys h → HasHeight (xs ++ ys) h
has_append [] ys h (inl k) = absurd k
has_append [] ys h (inr k) = k
has_append (x ∷ xs) ys h (inl (inl k)) = inl k
has_append (x ∷ xs) ys h (inl (inr k)) = inr (has_append xs ys h (inl k))
has_append (x ∷ xs) ys h (inr k) = inr (has_append xs ys h (inr k))

first_counts : (b : Bool) (n : ℕ) → b ≡ true → 0 < once b + n
first_counts b n h = rw h (omega arith)

more_count : (m n : ℕ) → 0 < n → 0 < m + n
more_count m n h = omega arith

fewer_count : (b : Bool) (n : ℕ) → b ≡ false → 0 < once b + n → 0 < n
fewer_count b n h k = let l : 0 < once false + n = rw h at k in omega arith

has_then_counts : (ls : List Level) (h : Level) → HasHeight ls h → 0 < count_by (has_height h) ls
has_then_counts [] h k = absurd k
has_then_counts (l ∷ ls) h (inl k) = subst (λ (n : ℕ). 0 < n) (sym (count-cons (has_height h) l ls))
    (first_counts (has_height h l) (count_by (has_height h) ls) ((signed_Decides (l.n *ℤ h.d) (h.n *ℤ l.d)).1 k))
has_then_counts (l ∷ ls) h (inr k) = subst (λ (n : ℕ). 0 < n) (sym (count-cons (has_height h) l ls))
    (more_count (once (has_height h l)) (count_by (has_height h) ls) (has_then_counts ls h k))

counts_then_has : (ls : List Level) (h : Level) → 0 < count_by (has_height h) ls → HasHeight ls h
counts_then_has [] h k = absurd (omega arith)
counts_then_has (l ∷ ls) h k = by_test (has_height h l) refl
    (subst (λ (n : ℕ). 0 < n) (count-cons (has_height h) l ls) k) (counts_then_has ls h)
  where
    by_test : (t : Bool) → has_height h l ≡ t → 0 < once (has_height h l) + count_by (has_height h) ls
        → (0 < count_by (has_height h) ls → HasHeight ls h) → HasHeight (l ∷ ls) h
    by_test true e k r = inl ((signed_Decides (l.n *ℤ h.d) (h.n *ℤ l.d)).0 e)
    by_test false e k r = inr (r (fewer_count (has_height h l) (count_by (has_height h) ls) e k))

pub all_itself : (ls : List Level) → AllByRecursion (HasHeight ls) ls
all_itself [] = tt
all_itself (l ∷ ls) = (inl refl, later ls (all_itself ls))
  where
    later : (xs : List Level) → AllByRecursion (HasHeight ls) xs → AllByRecursion (HasHeight (l ∷ ls)) xs
    later [] h = tt
    later (x ∷ xs) h = (inr h.0, later xs h.1)

pub all_as : (P Q : Level → Type 0) → ((l : Level) → P l → Q l) → (ls : List Level) → AllByRecursion P ls
    → AllByRecursion Q ls
all_as P Q f [] h = tt
all_as P Q f (l ∷ ls) h = (f l h.0, all_as P Q f ls h.1)

-- ---- a kept height is that of a meeting
kept_with : (h : Level) (e : Edge) (fs : List LeafEdge) → 0 < count_by (kept_at h e) (edges_of_leaves fs)
    → HasHeight (meetings e fs) h
kept_with h e [] k = absurd (omega arith)
kept_with h e (f ∷ fs) k = by_test (kept_at h e f.edge) refl
    (subst (λ (n : ℕ). 0 < n) (count-cons (kept_at h e) f.edge (edges_of_leaves fs)) k) (kept_with h e fs)
  where
    met : meets e f.edge ≡ true → has_height h (meeting e f.edge) ≡ true → HasHeight (meetings e (f ∷ fs)) h
    met m s = rw m (inl ((signed_Decides ((meeting e f.edge).n *ℤ h.d) (h.n *ℤ (meeting e f.edge).d)).0 s))

    further : (t : Bool) → HasHeight (meetings e fs) h
        → HasHeight (if t then meeting e f.edge ∷ meetings e fs else meetings e fs) h
    further true r = inr r
    further false r = r

    by_test : (t : Bool) → kept_at h e f.edge ≡ t
        → 0 < once (kept_at h e f.edge) + count_by (kept_at h e) (edges_of_leaves fs)
        → (0 < count_by (kept_at h e) (edges_of_leaves fs) → HasHeight (meetings e fs) h)
        → HasHeight (meetings e (f ∷ fs)) h
    by_test true q k r =
        let a = and_parts (is_kept e f.edge) (has_height h (meeting e f.edge)) q in
        met ((and_parts (meets e f.edge) (not (share_end e f.edge)) (kept_meets e f.edge a.0)).0) a.1
    by_test false q k r = further (meets e f.edge)
        (r (fewer_count (kept_at h e f.edge) (count_by (kept_at h e) (edges_of_leaves fs)) q k))

pos_part : (m n : ℕ) → 0 < m + n → (0 < m) ⊎ (0 < n)
pos_part zero n h = inr (omega arith)
pos_part (suc m) n h = inl (omega arith)

kept_among : (h : Level) (es : List LeafEdge) → 0 < pairs (kept_at h) (edges_of_leaves es)
    → HasHeight (heights es) h
kept_among h [] k = absurd (omega arith)
kept_among h (e ∷ es) k =
    inr (inr (has_append (meetings e.edge es) (heights es) h
    (either (pos_part (count_by (kept_at h e.edge) (edges_of_leaves es)) (pairs (kept_at h) (edges_of_leaves es)) k)
    (kept_among h es))))
  where
    either : (0 < count_by (kept_at h e.edge) (edges_of_leaves es)) ⊎ (0 < pairs (kept_at h) (edges_of_leaves es))
        → (0 < pairs (kept_at h) (edges_of_leaves es) → HasHeight (heights es) h)
        → HasHeight (meetings e.edge es) h ⊎ HasHeight (heights es) h
    either (inl p) r = inl (kept_with h e.edge es p)
    either (inr p) r = inr (r p)

-- ---- and each height is that of an end or is kept
abbrev Known : List LeafEdge → Level → Type 0
Known es h = HasHeight (end_levels es) h ⊎ (0 < pairs (kept_at h) (edges_of_leaves es))

abbrev KnownWith : Edge → List LeafEdge → Level → Type 0
KnownWith e fs h = (AtEnd e h ⊎ HasHeight (end_levels fs) h) ⊎ (0 < count_by (kept_at h e) (edges_of_leaves fs))

known_with : (e : Edge) (fs : List LeafEdge) → AllByRecursion (KnownWith e fs) (meetings e fs)
known_with e [] = tt
known_with e (f ∷ fs) = by_test (meets e f.edge) refl
    (all_as (KnownWith e fs) (KnownWith e (f ∷ fs)) more (meetings e fs) (known_with e fs))
  where
    more : (h : Level) → KnownWith e fs h → KnownWith e (f ∷ fs) h
    more h (inl (inl k)) = inl (inl k)
    more h (inl (inr k)) = inl (inr (inr (inr k)))
    more h (inr k) = inr (subst (λ (n : ℕ). 0 < n) (sym (count-cons (kept_at h e) f.edge (edges_of_leaves fs)))
        (more_count (once (kept_at h e f.edge)) _ k))

    one : (is_kept e f.edge ≡ true) ⊎ (AtEnd e (meeting e f.edge) ⊎ AtEnd f.edge (meeting e f.edge))
        → KnownWith e (f ∷ fs) (meeting e f.edge)
    one (inl k) =
        let h : Level = meeting e f.edge in
        let s : kept_at h e f.edge ≡ true = ap₂ (λ (a b : Bool). a && b) k ((signed_Decides (h.n *ℤ h.d) (h.n *ℤ h.d)).1 refl) in
        inr (subst (λ (n : ℕ). 0 < n) (sym (count-cons (kept_at h e) f.edge (edges_of_leaves fs)))
        (first_counts (kept_at h e f.edge) _ s))
    one (inr (inl k)) = inl (inl k)
    one (inr (inr (inl k))) = inl (inr (inl k))
    one (inr (inr (inr k))) = inl (inr (inr (inl k)))

    by_test : (t : Bool) → meets e f.edge ≡ t → AllByRecursion (KnownWith e (f ∷ fs)) (meetings e fs)
        → AllByRecursion (KnownWith e (f ∷ fs)) (if t then meeting e f.edge ∷ meetings e fs else meetings e fs)
    by_test true m r = (one (kept_or_end e f.edge m), r)
    by_test false m r = r

known : (es : List LeafEdge) → AllByRecursion (Known es) (heights es)
known [] = tt
known (e ∷ es) = (
  inl (inl refl),
  (
    inl (inr (inl refl)),
    AllByRecursion-append (Known (e ∷ es)) (meetings e.edge es) (heights es)
        (all_as (KnownWith e.edge es) (Known (e ∷ es)) with_first (meetings e.edge es) (known_with e.edge es))
        (all_as (Known es) (Known (e ∷ es)) further (heights es) (known es)),
  ),
)
  where
    with_first : (h : Level) → KnownWith e.edge es h → Known (e ∷ es) h
    with_first h (inl (inl (inl k))) = inl (inl k)
    with_first h (inl (inl (inr k))) = inl (inr (inl k))
    with_first h (inl (inr k)) = inl (inr (inr k))
    with_first h (inr k) = inr (either k)
      where
        either : 0 < count_by (kept_at h e.edge) (edges_of_leaves es)
            → 0 < count_by (kept_at h e.edge) (edges_of_leaves es) + pairs (kept_at h) (edges_of_leaves es)
        either k = omega arith

    further : (h : Level) → Known es h → Known (e ∷ es) h
    further h (inl k) = inl (inr (inr k))
    further h (inr k) = inr (more_count (count_by (kept_at h e.edge) (edges_of_leaves es))
        (pairs (kept_at h) (edges_of_leaves es)) k)

-- heights that are counted as often as pairs of edges are kept
other_heights : (edges : List LeafEdge) (ls : List Level)
    → ((h : Level) → count_by (has_height h) ls ≡ pairs (kept_at h) (edges_of_leaves edges))
    → AreOtherHeights edges ls
other_heights edges ls counted = record {
  sound = all_as (HasHeight ls) (HasHeight (heights edges))
      (λ h k. kept_among h edges (subst (λ (n : ℕ). 0 < n) (counted h) (has_then_counts ls h k))) ls
      (all_itself ls);
  complete = all_as (Known edges) (λ h. HasHeight (end_levels edges) h ⊎ HasHeight ls h) either (heights edges)
      (known edges);
}
  where
    either : (h : Level) → Known edges h → HasHeight (end_levels edges) h ⊎ HasHeight ls h
    either h (inl k) = inl k
    either h (inr k) = inr (counts_then_has ls h (subst (λ (n : ℕ). 0 < n) (sym (counted h)) k))

-- ---- the whole
room : (m n : ℕ) → m ≤ n * 2 ^ 32 → n < 2 ^ 32 → 0 + m < 2 ^ 64
room m n h k = omega arith

module _ (tall : ℕ) (positive : 0 < tall) (edges : List LeafEdge) (within : AllByRecursion (IsEdgeWithin coordinate_limit) (edges_of_leaves edges)) (stays : List Stay)
    (arranged : IsPermutation (all_stays tall 0 (edges_of_leaves edges)) stays) where
  pub has_room : (before : Found) → IsEmpty before → length (edges_of_leaves edges) < 2 ^ 32
      → HasRoom before (yield_among (edges_of_leaves edges) stays)
  has_room before empty few = record {
    tests = fits before.tests (yield_among (edges_of_leaves edges) stays).tests
        (pairs boxes_meet (edges_of_leaves edges)) empty.tests (tests_are tall positive edges within stays arranged)
        (pairs-few boxes_meet (2 ^ 32) (edges_of_leaves edges) (omega arith));
    count = fits before.count (yield_among (edges_of_leaves edges) stays).count (pairs crosses (edges_of_leaves edges))
        empty.count (count_is tall positive edges within stays arranged)
        (pairs-few crosses (2 ^ 32) (edges_of_leaves edges) (omega arith));
  }
    where
      fits : (a m n : ℕ) → a ≡ 0 → m ≡ n → n ≤ length (edges_of_leaves edges) * 2 ^ 32 → a + m < 2 ^ 64
      fits a m n h k l = omega arith

  pub all_found : (before after : Found) → IsEmpty before
      → HasYielded before after (yield_among (edges_of_leaves edges) stays) → IsFoundOf edges after
  all_found before after empty y = record {
    tests = y.tests ∙ none before.tests _ empty.tests ∙ tests_are tall positive edges within stays arranged
        ∙ comparisons_are edges;
    count = y.count ∙ none before.count _ empty.count ∙ count_is tall positive edges within stays arranged
        ∙ crossings_are edges;
    levels = λ few. subst (AreOtherHeights edges)
        (sym (y.levels few ∙ ap (λ (ls : List Level). ls ++ (yield_among (edges_of_leaves edges) stays).levels)
        empty.levels))
        (other_heights edges (yield_among (edges_of_leaves edges) stays).levels
        (levels_are tall positive edges within stays arranged));
  }
    where
      none : (m n : ℕ) → m ≡ 0 → m + n ≡ n
      none m n h = omega arith
