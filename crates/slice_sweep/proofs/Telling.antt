-- What changes tell of the groups of a height.
use Rattle.std.proofs.Common.{◌≡◌, ℕ, suc, ◌+◌, ◌<◌, ◌≤◌, Bool, true, false, not, cond, if◌then◌else◌, List, [], ◌∷◌, ◌++◌, length, get_or, take, drop, refl, sym, ap, ◌∙◌, subst, arith}
use Rattle.std.specs.List.{AllByRecursion}
use Rattle.std.proofs.lemmas.Int.{ints}
use Rattle.std.proofs.lemmas.List.{length-append, length-take, length-take-le, map-append, drop_all, drop_more, drop-take, drop-append-le, take_more}
use Rattle.std.proofs.lemmas.List.Elements.{filter-append}
use Rattle.scad_base.proofs.Lists.{AllByRecursion-append}
use Rattle.scad_geom.specs.Limits.{coordinate_limit}
use Rattle.scad_geom.specs.declared.point.Edge.{Edge}
use Rattle.scad_geom.specs.declared.level.Level.{Level}
use Rattle.scad_geom.specs.declared.level.LeafEdge.{LeafEdge}
use Rattle.scad_geom.specs.Level.{IsLevelWithin}
use Rattle.slice_sweep.specs.declared.change.Change.{Change}
use Rattle.slice_sweep.specs.declared.strand.Strand.{Strand}
use Rattle.slice_sweep.specs.Keys.{stale, IsBelowKey}
use Rattle.slice_sweep.specs.Chains.{Chain}
use Rattle.slice_sweep.specs.Strands.{head, bundles_of, no_strand, strand_at}
use Rattle.slice_sweep.specs.Changes.{Group, all_below, all_above, all_at, Stand, IsTogetherAt, LiesLeftAt, AreGroups, Tell, has_started, older, started}
use Rattle.slice_sweep.specs.Changes.Tell.{none, stays, changes}
use Rattle.slice_sweep.specs.Places.{Place, all_waiting, all_leaving, edge_of, MeetsWith, came_from_below, group_of, groups_of, IsPlace, LiesBefore, StartsKeyless}
use Rattle.slice_sweep.proofs.Keys.{never_below}
use Rattle.slice_sweep.proofs.Lists.{weaker}
use Rattle.slice_sweep.proofs.Mending.{left_same, same_left, same_same, turned}

-- ---- changes one after another
pub tell_append : {n : ℕ} {cs : List Change} {gs : List Group} → Tell n cs gs → (m : ℕ) (ds : List Change)
    (hs : List Group) → n + length (all_above gs) ≡ m → Tell m ds hs → Tell n (cs ++ ds) (gs ++ hs)
tell_append (none n) m ds hs e t =
    let same : m ≡ n = omega (arith, e) in
    subst (λ (i : ℕ). Tell i ds hs) same t
tell_append (stays n cs b gs q) m ds hs e t =
    stays n (cs ++ ds) b (gs ++ hs) (tell_append q m ds hs (omega (arith, e)) t)
tell_append (changes c cs g gs gone come q) m ds hs e t =
    changes c (cs ++ ds) g (gs ++ hs) gone come
    (tell_append q m ds hs (omega (arith, e, come, length-append g.above (all_above gs))) t)

-- ---- strands that start
pub older_is : (es : List LeafEdge) (l : Level) (ss : List Strand)
    → older es l ss ≡ length (came_from_below es l (bundles_of ss))
older_is es l [] = refl
older_is es l (s ∷ ss) = by_test (has_started es l s.bundle) (older_is es l ss)
  where
    by_test : (t : Bool) → older es l ss ≡ length (came_from_below es l (bundles_of ss))
        → (if t then older es l ss else suc (older es l ss))
        ≡ length (cond (not t) (s.bundle ∷ came_from_below es l (bundles_of ss)) (came_from_below es l (bundles_of ss)))
    by_test true e = e
    by_test false e = ap suc e

module _ (es : List LeafEdge) (l : Level) where
  older_append : (xs ys : List Strand) → older es l (xs ++ ys) ≡ older es l xs + older es l ys
  older_append xs ys =
      let whole = older_is es l (xs ++ ys) in
      let first = older_is es l xs in
      let last = older_is es l ys in
      let parts : length (came_from_below es l (bundles_of (xs ++ ys)))
      ≡ length (came_from_below es l (bundles_of xs)) + length (came_from_below es l (bundles_of ys)) =
      ap (λ (bs : List (List ℕ)). length (came_from_below es l bs)) (map-append (λ (s : Strand). s.bundle) xs ys)
      ∙ ap length (filter-append (λ b. not (has_started es l b)) (bundles_of xs) (bundles_of ys))
      ∙ length-append (came_from_below es l (bundles_of xs)) (came_from_below es l (bundles_of ys)) in
      omega (arith, whole, first, last, parts)

  pub none_older : (L : List Strand) (from : ℕ) → 0 ≡ older es l (drop from (take from L))
  none_older L from = sym (ap (older es l) (drop_all from (take from L) (omega (arith, length-take from L))))

  -- one more strand is counted
  pub older_more : (L : List Strand) (from i count more : ℕ) (s : Strand) → from ≤ i → i < length L
      → s ≡ get_or L i s → count ≡ older es l (drop from (take i L)) → more ≡ older es l (s ∷ [])
      → count + more ≡ older es l (drop from (take (i + 1) L))
  older_more L from i count more s o there is e m =
      let size = length-take-le i L (omega (arith, there)) in
      let here : take (i + 1) L ≡ take i L ++ s ∷ [] =
      take_more L i s there ∙ ap (λ (t : Strand). take i L ++ t ∷ []) (sym is) in
      let all : older es l (drop from (take (i + 1) L))
      ≡ older es l (drop from (take i L)) + older es l (s ∷ []) = ap (λ (xs : List Strand). older es l (drop from xs)) here
      ∙ ap (older es l) (drop-append-le from (take i L) (s ∷ []) (omega (arith, size, o)))
      ∙ older_append (drop from (take i L)) (s ∷ []) in
      omega (arith, all, e, m)

pub one_of : (L : List Strand) (n : ℕ) → n < length L → drop n (take (n + 1) L) ≡ strand_at L n ∷ []
one_of L n o = drop-take n 1 L ∙ ap (take 1) (drop_more L n no_strand o)

-- what is told of a strand alone
told_alone : (t : Bool) (n : ℕ) (b : List ℕ) → Tell n (started n (if t then 0 else suc 0))
    (record { below = cond (not t) (b ∷ []) []; above = b ∷ [] } ∷ [])
told_alone true n b =
    changes (record { from = n; gone = 0; come = 1 }) [] (record { below = []; above = b ∷ [] }) [] refl refl
    (none (n + 1))
told_alone false n b = stays n [] b [] (none (n + 1))

pub alone_told : (es : List LeafEdge) (l : Level) (n : ℕ) (s : Strand) (gone : ℕ) → gone ≡ older es l (s ∷ [])
    → Tell n (started n gone) (group_of es l (record { waiting = s.bundle ∷ []; leaving = s.bundle ∷ [] }) ∷ [])
alone_told es l n s gone e =
    subst (λ (i : ℕ). Tell n (started n i)
    (group_of es l (record { waiting = s.bundle ∷ []; leaving = s.bundle ∷ [] }) ∷ [])) (sym e)
    (told_alone (has_started es l s.bundle) n s.bundle)

-- nothing is told of a strand below whose key the height lies
pub asleep_told : (es : List LeafEdge) (l : Level) → IsLevelWithin coordinate_limit l → (n : ℕ) (s : Strand)
    → StartsKeyless es l s → IsBelowKey l s.wake
    → Tell n [] (group_of es l (record { waiting = s.bundle ∷ []; leaving = s.bundle ∷ [] }) ∷ [])
asleep_told es l w n s h b = by_test (has_started es l s.bundle) h
  where
    by_test : (t : Bool) → (t ≡ true → s.wake ≡ stale)
        → Tell n [] (record { below = cond (not t) (s.bundle ∷ []) []; above = s.bundle ∷ [] } ∷ [])
    by_test true k = absurd (never_below l l w w.positive (omega (arith, ints)) (subst (IsBelowKey l) (k refl) b))
    by_test false k = stays n [] s.bundle [] (none (n + 1))

pub some_alone : (es : List LeafEdge) (l : Level) (b : List ℕ)
    → all_at (group_of es l (record { waiting = b ∷ []; leaving = b ∷ [] })) ≡ [] → ⊥
some_alone es l b e = omega (arith, ap length e, length-append (came_from_below es l (b ∷ [])) (b ∷ []))

-- ---- the groups of places
module _ (es : List LeafEdge) (l : Level) where
  pub all_left : (ps : List Place) → all_above (groups_of es l ps) ≡ all_leaving ps
  all_left [] = refl
  all_left (p ∷ ps) = ap (λ (bs : List (List ℕ)). p.leaving ++ bs) (all_left ps)

  pub all_came : (ps : List Place) → all_below (groups_of es l ps) ≡ came_from_below es l (all_waiting ps)
  all_came [] = refl
  all_came (p ∷ ps) =
      ap (λ (bs : List (List ℕ)). came_from_below es l p.waiting ++ bs) (all_came ps)
      ∙ sym (filter-append (λ b. not (has_started es l b)) p.waiting (all_waiting ps))

  pub came_too : (P : List ℕ → Type 0) (bs : List (List ℕ)) → AllByRecursion P bs
      → AllByRecursion P (came_from_below es l bs)
  came_too P [] h = tt
  came_too P (b ∷ bs) h = by_test (not (has_started es l b)) (came_too P bs h.1)
    where
      by_test : (t : Bool) → AllByRecursion P (came_from_below es l bs)
          → AllByRecursion P (cond t (b ∷ came_from_below es l bs) (came_from_below es l bs))
      by_test true r = (h.0, r)
      by_test false r = r

  all_meet : (p : Place) → IsPlace es l p
      → AllByRecursion (MeetsWith es l (edge_of es p.waiting)) (all_at (group_of es l p))
  all_meet p h = AllByRecursion-append (MeetsWith es l (edge_of es p.waiting)) (came_from_below es l p.waiting)
      p.leaving (came_too (MeetsWith es l (edge_of es p.waiting)) p.waiting h.waiting) h.leaving

  all_together : (p : Place) → IsPlace es l p
      → Stand (IsTogetherAt es l) (group_of es l p) (group_of es l p)
  all_together p h =
      let e : Edge = edge_of es p.waiting in
      let bs : List (List ℕ) = all_at (group_of es l p) in
      weaker (MeetsWith es l e) (λ b. AllByRecursion (IsTogetherAt es l b) bs)
      (λ b m. weaker (MeetsWith es l e) (IsTogetherAt es l b)
      (λ c k. same_same l (head es b) e (head es c) m.0 h.rises k.0 (turned l e (head es b) m.1) k.1) bs
      (all_meet p h)) bs (all_meet p h)

  all_apart : (p q : Place) → IsPlace es l p → IsPlace es l q → LiesBefore es l p q
      → Stand (LiesLeftAt es l) (group_of es l p) (group_of es l q)
  all_apart p q h k left =
      let e : Edge = edge_of es p.waiting in
      let f : Edge = edge_of es q.waiting in
      weaker (MeetsWith es l e) (λ b. AllByRecursion (LiesLeftAt es l b) (all_at (group_of es l q)))
      (λ b m. weaker (MeetsWith es l f) (LiesLeftAt es l b)
      (λ c n. left_same l (head es b) f (head es c) m.0 k.rises n.0
      (same_left l (head es b) e f m.0 h.rises k.rises (turned l e (head es b) m.1) left) n.1)
      (all_at (group_of es l q)) (all_meet q k)) (all_at (group_of es l p)) (all_meet p h)

  rightwards : (ps : List Place) → AllByRecursion (IsPlace es l) ps → Chain (LiesBefore es l) ps
      → Chain (Stand (LiesLeftAt es l)) (groups_of es l ps)
  rightwards [] h c = tt
  rightwards (p ∷ []) h c = tt
  rightwards (p ∷ (q ∷ ps)) h c = (all_apart p q h.0 h.1.0 c.0, rightwards (q ∷ ps) h.1 c.1)

  each_some : (ps : List Place) → AllByRecursion (IsPlace es l) ps
      → AllByRecursion (λ (g : Group). all_at g ≡ [] → ⊥) (groups_of es l ps)
  each_some [] h = tt
  each_some (p ∷ ps) h = (h.0.some, each_some ps h.1)

  each_together : (ps : List Place) → AllByRecursion (IsPlace es l) ps
      → AllByRecursion (λ (g : Group). Stand (IsTogetherAt es l) g g) (groups_of es l ps)
  each_together [] h = tt
  each_together (p ∷ ps) h = (all_together p h.0, each_together ps h.1)

  pub are_groups : (ps : List Place) → AllByRecursion (IsPlace es l) ps → Chain (LiesBefore es l) ps
      → AreGroups es l (groups_of es l ps)
  are_groups ps h c = record {
    some = each_some ps h;
    together = each_together ps h;
    rightwards = rightwards ps h c;
  }
