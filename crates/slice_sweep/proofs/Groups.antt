-- What the code finds of the strands at a place.
use Rattle.std.proofs.Common.{◌≡◌, ℕ, zero, suc, ◌+◌, ◌-◌, ◌<◌, ◌≤◌, ◌⊎◌, inl, inr, Bool, true, false, cond, List, [], ◌∷◌, ◌++◌, map, length, get_or, take, drop, filter, refl, sym, ap, ap₂, ◌∙◌, arith, subst, append_assoc, IsPermutation, All}
use lib.IntN.{pos, ◌*ℤ◌}
use lib.Signed.{◌<ℤ◌}
use Rattle.std.specs.Prelude.{int_lt, int_le, nat_lt, ◌&&◌}
use Rattle.std.specs.Ordering.{int_eq}
use Rattle.std.specs.Cmp.{signed_Decides}
use Rattle.std.specs.List.{AllByRecursion, All, concat}
use Rattle.std.proofs.lemmas.Bool.{and_parts}
use Rattle.std.proofs.lemmas.Int.{ints}
use Rattle.std.proofs.lemmas.List.{append-nil, length-append, length-drop, take-append-drop, get_or-take, get_or-drop, get_or_read, length-take-le, take_at, drop_at, drop-drop, drop-take, nil_from_length, append_cancel_right}
use Rattle.std.proofs.lemmas.List.Elements.{All-from_recursion, recursion_from_All}
use Rattle.std.proofs.lemmas.List.Sorted.{length_permutation}
use Rattle.scad_base.proofs.Lists.{AllByRecursion-append}
use Rattle.scad_geom.specs.Limits.{coordinate_limit}
use Rattle.scad_geom.specs.declared.point.Edge.{Edge}
use Rattle.scad_geom.specs.declared.level.Level.{Level}
use Rattle.scad_geom.specs.declared.level.LeafEdge.{LeafEdge}
use Rattle.scad_geom.specs.Line.{low, high, rise, x_at}
use Rattle.scad_geom.specs.Level.{level_of, IsLower, IsAtMost, IsLevelWithin}
use Rattle.scad_geom.specs.Heights.{heights, AreNeighbours}
use Rattle.scad_geom.proofs.Heights.{at_most_then_lower}
use Rattle.scad_geom.proofs.Order.{front, back, all_ends}
use Rattle.slice_bundles.specs.Bundles.{no_edge, edge_at, reaches, IsBundle, AreRanked}
use Rattle.slice_bundles.proofs.Live.{reaches_is}
use Rattle.slice_bundles.specs.KeptOrder.{IsSamePlaceAt, AllStand}
use Rattle.slice_sweep.specs.declared.strand.Strand.{Strand}
use Rattle.slice_sweep.specs.Keys.{IsBelowKey}
use Rattle.slice_sweep.specs.Chains.{Chain, Joins}
use Rattle.slice_sweep.specs.Strands.{bundles_of, head, numbers_in, LiesLeft, IsTogether, IsReaching, IsHeld, AreHeld, AreApart, AreWaiting, EndAbove, AreThere, weakened, fresh, no_strand, strand_at}
use Rattle.slice_sweep.specs.declared.change.Change.{Change}
use Rattle.slice_sweep.specs.Changes.{all_at, has_started, older}
use Rattle.slice_sweep.specs.Changes.Tell.{none, changes}
use Rattle.slice_sweep.specs.Places.{came_from_below, group_of, LiesBefore, place_of, StartsKeyless, ArePlacedTo}
use Rattle.slice_sweep.specs.Mending.{AreMended, AreOrdered, AreMendedTo, KeepTimes, IsGroup}
use Rattle.slice_sweep.proofs.Lists.{chain_from, joins_from, chain_at, weaker}
use Rattle.slice_sweep.proofs.Starting.{put_between}
use Rattle.slice_sweep.proofs.Telling.{older_is}
use Rattle.slice_sweep.proofs.Placing.{bundles_append, placed_more}
use Rattle.slice_sweep.proofs.Weakening.{bundles_weakened, bundles_fresh, length_weakened, length_fresh, all_weakened}
use Rattle.slice_sweep.proofs.Mending.{as_it_is, strict_heads, members_there, stand_together, group_is_place, group_before, regrouped, regrouped_times}

-- ---- edges that go on
reaches_up : (e : Edge) (l u : Level) → reaches e l l ≡ true → int_le u.n ((high e).y *ℤ u.d) ≡ true
    → reaches e l u ≡ true
unfolding reaches
reaches_up e l u h k =
    let p = and_parts (int_lt (pos 0) (rise e)) (int_le ((low e).y *ℤ l.d) l.n && int_le l.n ((high e).y *ℤ l.d)) h in
    let q = and_parts (int_le ((low e).y *ℤ l.d) l.n) (int_le l.n ((high e).y *ℤ l.d)) p.1 in
    all_true (int_lt (pos 0) (rise e)) (int_le ((low e).y *ℤ l.d) l.n) (int_le u.n ((high e).y *ℤ u.d)) p.0 q.0 k
  where
    all_true : (a b c : Bool) → a ≡ true → b ≡ true → c ≡ true → (a && (b && c)) ≡ true
    all_true a b c p q r = rw (p, q, r) refl

-- what is true of the heights of both ends is true of that of the upper one
of_upper : (P : Level → Type 0) (e : Edge) → P (level_of e.a.y) → P (level_of e.b.y) → P (level_of (high e).y)
unfolding high
of_upper P e a b = by_test (int_lt e.b.y e.a.y)
  where
    by_test : (t : Bool) → P (level_of (cond t e.a e.b).y)
    by_test true = a
    by_test false = b

-- an edge that ends above the lower of two neighbouring heights doesn't end below the upper one
pub ends_up : (es : List LeafEdge) (l u : Level) → AreNeighbours es l u → (k : ℕ) → k < length es
    → IsLower l (level_of (high (edge_at es k)).y) → int_le u.n ((high (edge_at es k)).y *ℤ u.d) ≡ true
ends_up es l u n k o h =
    let P : Level → Type 0 = λ g. IsAtMost g l ⊎ IsAtMost u g in
    let both = all_ends P es k no_edge (recursion_from_All P (heights es) n.between) o in
    elim (of_upper P (edge_at es k) both.0 both.1) [
      | inl c ↦ absurd (omega (arith, ints))
      | inr c ↦ sym (omega (arith, ints))
    ]

-- so does one that starts at the lower one and isn't flat
pub starts_up : (es : List LeafEdge) (l u : Level) → AreNeighbours es l u → (k : ℕ) → IsReaching es l l k
    → int_eq ((low (edge_at es k)).y *ℤ l.d) l.n ≡ true → reaches (edge_at es k) l u ≡ true
unfolding rise
starts_up es l u n k r s =
    let e : Edge = edge_at es k in
    let rises = (reaches_is e l l r.reaches).rises in
    let one : pos 0 <ℤ pos 1 = omega (arith, ints) in
    let same = (signed_Decides ((low e).y *ℤ l.d) l.n).0 s in
    let at : IsAtMost l (level_of (low e).y) = omega (arith, ints) in
    let above : IsLower (level_of (low e).y) (level_of (high e).y) = omega (arith, ints) in
    reaches_up e l u r.reaches (ends_up es l u n k r.there
    (at_most_then_lower l (level_of (low e).y) (level_of (high e).y) n.lower_divisor one one at above))

pub reach_above : (es : List LeafEdge) (l u : Level) → AreNeighbours es l u → (b : List ℕ)
    → AllByRecursion (IsReaching es l l) b → EndAbove es l b → AllByRecursion (IsReaching es l u) b
reach_above es l u n [] r e = tt
reach_above es l u n (k ∷ ks) r e = (
  record {
    there = r.0.there;
    reaches = reaches_up (edge_at es k) l u r.0.reaches (ends_up es l u n k r.0.there e.0);
  },
  reach_above es l u n ks r.1 e.1,
)

pub reach_further : (es : List LeafEdge) (l u : Level) (b : List ℕ) → AllByRecursion (IsReaching es l l) b
    → AllByRecursion (λ k. int_le u.n ((high (edge_at es k)).y *ℤ u.d) ≡ true) b
    → AllByRecursion (IsReaching es l u) b
reach_further es l u [] r e = tt
reach_further es l u (k ∷ ks) r e = (
  record { there = r.0.there; reaches = reaches_up (edge_at es k) l u r.0.reaches e.0 },
  reach_further es l u ks r.1 e.1,
)

-- ---- what is known of a strand by its index
pub there_of : (es : List LeafEdge) (l : Level) (L : List Strand) → AllByRecursion (IsHeld es l) L → AreThere es L
there_of es l L h k d o =
    let s = All-from_recursion (IsHeld es l) L h k d o in
    All-from_recursion (λ j. j < length es) (get_or L k d).bundle
    (weaker (IsReaching es l l) (λ j. j < length es) (λ j r. r.there) (get_or L k d).bundle s.reach)

pub heads_reach : (es : List LeafEdge) (l : Level) (L : List Strand) → AllByRecursion (IsHeld es l) L
    → All (λ s. reaches (head es s.bundle) l l ≡ true) L
heads_reach es l L h k d o =
    let s = All-from_recursion (IsHeld es l) L h k d o in
    head_reaches (get_or L k d).bundle s.bundle s.reach
  where
    head_reaches : (b : List ℕ) → IsBundle es l b → AllByRecursion (IsReaching es l l) b
        → reaches (head es b) l l ≡ true
    head_reaches [] h r = absurd h
    head_reaches (k ∷ ks) h r = r.0.reaches

module _ (es : List LeafEdge) (l u : Level) (n : AreNeighbours es l u) (p : ℕ) (L : List Strand)
    (m : AreMendedTo es l u p L) (o : p < length L) where
  held_here : IsHeld es l (strand_at L p)
  held_here = All-from_recursion (IsHeld es l) L m.held p no_strand o

  ordered_here : suc p < length L → AreHeld es l (strand_at L p) (strand_at L (suc p))
  ordered_here q = chain_at (AreHeld es l) L p no_strand m.ordered q

  rest_is : m.rest ≡ drop p L
  rest_is = sym (ap (drop p) m.is ∙ drop_at m.done m.rest p m.size)

  apart_here : suc p < length L → AreApart es l (strand_at L p) (strand_at L (suc p))
  apart_here q =
      let c : Chain (AreApart es l) (drop p L) = subst (Chain (AreApart es l)) rest_is m.apart in
      let more : 1 < length (drop p L) = omega (arith, length-drop p L, q) in
      let a = chain_at (AreApart es l) (drop p L) zero no_strand c more in
      let z : p + 0 ≡ p = omega arith in
      let y : p + 1 ≡ suc p = omega arith in
      subst (λ (s : Strand). AreApart es l s (strand_at L (suc p)))
      (get_or-drop p L 0 no_strand ∙ ap (λ (i : ℕ). strand_at L i) z)
      (subst (λ (s : Strand). AreApart es l (get_or (drop p L) 0 no_strand) s)
      (get_or-drop p L 1 no_strand ∙ ap (λ (i : ℕ). strand_at L i) y) a)

  -- a strand below whose key the height lies
  pub asleep : IsBelowKey l (strand_at L p).wake → AreMendedTo es l u (p + 1) L
  asleep b =
      as_it_is es l u p L m o
      (reach_above es l u n (strand_at L p).bundle held_here.reach
      (held_here.ends l n.lower_divisor (omega (arith, ints)) b))
      (λ q. let e : suc p ≡ p + 1 = omega arith in
      let q' : suc p < length L = omega arith in
      subst (λ (i : ℕ). LiesLeft es l (strand_at L p) (strand_at L i)) e (apart_here q' b))

  -- one that lies alone and goes on
  pub alone : AllByRecursion (λ k. int_le u.n ((high (edge_at es k)).y *ℤ u.d) ≡ true) (strand_at L p).bundle
      → (p + 1 < length L → IsTogether es l (strand_at L p) (strand_at L (p + 1)) → ⊥)
      → AreMendedTo es l u (p + 1) L
  alone e a =
      as_it_is es l u p L m o (reach_further es l u (strand_at L p).bundle held_here.reach e)
      (λ q. let i : suc p ≡ p + 1 = omega arith in
      let q' : suc p < length L = omega arith in
      let h = subst (λ (i : ℕ). AreHeld es l (strand_at L p) (strand_at L i)) i (ordered_here q') in
      strict_heads es l (strand_at L p) (strand_at L (p + 1)) h.order (a q))

-- as the code finds it
pub alone_by : (es : List LeafEdge) (l u : Level) (n : AreNeighbours es l u) (p : ℕ) (L X Y : List Strand) (end : ℕ)
    (m : AreMendedTo es l u p L) (o : p < length L) → X ≡ L → Y ≡ L → end ≡ p + 1
    → All (λ k. int_le u.n ((high (edge_at es k)).y *ℤ u.d) ≡ true) (strand_at Y p).bundle
    → ((i : ℕ) → i + 1 ≡ end → end < length X → IsTogether es l (strand_at X i) (strand_at X (i + 1)) → ⊥)
    → AreMendedTo es l u (p + 1) L
alone_by es l u n p L X Y end m o x y e on apart =
    let P : ℕ → Type 0 = λ k. int_le u.n ((high (edge_at es k)).y *ℤ u.d) ≡ true in
    let on' : All P (strand_at L p).bundle = subst (λ (ys : List Strand). All P (strand_at ys p).bundle) y on in
    let apart' = subst (λ (xs : List Strand). (i : ℕ) → i + 1 ≡ end → end < length xs
    → IsTogether es l (strand_at xs i) (strand_at xs (i + 1)) → ⊥) x apart in
    alone es l u n p L m o (recursion_from_All P (strand_at L p).bundle on')
    (λ q. apart' p (sym e) (subst (λ (i : ℕ). i < length L) (sym e) q))

-- ---- a group
numbers_append : (xs ys : List Strand) → numbers_in (xs ++ ys) ≡ numbers_in xs ++ numbers_in ys
numbers_append [] ys = refl
numbers_append (x ∷ xs) ys =
    ap (λ (ks : List ℕ). x.bundle ++ ks) (numbers_append xs ys)
    ∙ sym (append_assoc x.bundle (numbers_in xs) (numbers_in ys))

module _ (es : List LeafEdge) (l u : Level) (w : IsLevelWithin coordinate_limit l) (n : AreNeighbours es l u)
    (from to : ℕ) (L : List Strand) (m : AreMendedTo es l u from L) (q : IsGroup es l from to L) (numbers : List ℕ)
    (split : numbers ++ numbers_in (drop to L) ≡ numbers_in (drop from L)) where
  some : from < to
  some = q.some

  within : to ≤ length L
  within = q.within

  abbrev count : ℕ
  count = to - from

  abbrev R : List Strand
  R = drop from L

  abbrev O : List Strand
  O = drop to L

  long : count ≤ length R
  long = omega (arith, length-drop from L, some, within)

  from_count : from + count ≡ to
  from_count = omega (arith, some)

  O_is : drop count R ≡ O
  O_is = drop-drop count from L ∙ ap (λ (i : ℕ). drop i L) from_count

  size : length (take count R) ≡ count
  size = length-take-le count R long

  R_is : take count R ++ O ≡ R
  R_is = ap (λ (ys : List Strand). take count R ++ ys) (sym O_is) ∙ take-append-drop count R

  at_group : (i : ℕ) → i < count → get_or (take count R) i no_strand ≡ strand_at L (from + i)
  at_group i o = get_or-take count R i no_strand o ∙ get_or-drop from L i no_strand

  together : Chain (IsTogether es l) (take count R)
  together = chain_from (IsTogether es l) (take count R) no_strand
      (λ i o. let a : suc i < count = omega (arith, size, o) in
      let b : i < count = omega arith in
      let c : from ≤ from + i = omega arith in
      let d : from + i + 1 < to = omega (arith, from_count) in
      let e : from + i + 1 ≡ from + suc i = omega arith in
      subst (λ (s : Strand). IsTogether es l s (get_or (take count R) (suc i) no_strand)) (sym (at_group i b))
      (subst (λ (s : Strand). IsTogether es l (strand_at L (from + i)) s) (sym (at_group (suc i) a))
      (subst (λ (j : ℕ). IsTogether es l (strand_at L (from + i)) (strand_at L j)) e (q.together (from + i) c d))))

  parted : Joins (λ s t. IsTogether es l s t → ⊥) (take count R) O
  parted = joins_from (λ s t. IsTogether es l s t → ⊥) (take count R) O no_strand
      (λ i e o. let a : i < count = omega (arith, size, e) in
      let b : from + i + 1 ≡ to = omega (arith, size, e, from_count) in
      let c : to < length L = omega (arith, length-drop to L, o) in
      let z : to + 0 ≡ from + i + 1 = omega arith in
      subst (λ (s : Strand). IsTogether es l s (get_or O 0 no_strand) → ⊥) (sym (at_group i a))
      (subst (λ (s : Strand). IsTogether es l (strand_at L (from + i)) s → ⊥)
      (sym (get_or-drop to L 0 no_strand ∙ ap (λ (j : ℕ). strand_at L j) z)) (q.apart (from + i) b c)))

  numbers_are : numbers ≡ numbers_in (take count R)
  numbers_are = append_cancel_right numbers (numbers_in (take count R)) (numbers_in O)
      (split ∙ ap numbers_in (sym R_is) ∙ numbers_append (take count R) O)

  D_is : m.done ≡ take from L
  D_is = sym (ap (take from) m.is ∙ take_at m.done m.rest from m.size)

  rest_as : m.rest ≡ take count R ++ O
  rest_as = sym (ap (drop from) m.is ∙ drop_at m.done m.rest from m.size) ∙ sym R_is

  L_is : L ≡ m.done ++ (take count R ++ O)
  L_is = m.is ∙ ap (λ (ys : List Strand). m.done ++ ys) rest_as

  -- the edges of the group lie at one place
  tied : (X : List Strand) → take count R ≡ X
      → All (λ k. k < length es) (numbers_in X) × AllStand (IsSamePlaceAt l) es (numbers_in X) (numbers_in X)
  tied [] e = absurd (omega (arith, ap length e, size, some))
  tied (g ∷ G) e =
      let is : L ≡ m.done ++ ((g ∷ G) ++ O) = L_is ∙ ap (λ (xs : List Strand). m.done ++ (xs ++ O)) e in
      let held = subst (AllByRecursion (IsHeld es l)) is m.held in
      let held_G = front (IsHeld es l) (g ∷ G) O (back (IsHeld es l) m.done ((g ∷ G) ++ O) held) in (
        All-from_recursion (λ k. k < length es) (numbers_in (g ∷ G))
            (members_there es l u w n.lower_divisor (g ∷ G) held_G),
        stand_together es l u w n.lower_divisor g G held_G (subst (Chain (IsTogether es l)) e together),
      )

  pub group_there : All (λ k. k < length es) numbers
  group_there = subst (All (λ k. k < length es)) (sym numbers_are) (tied (take count R) refl).0

  pub group_together : AllStand (IsSamePlaceAt l) es numbers numbers
  group_together = subst (λ (ks : List ℕ). AllStand (IsSamePlaceAt l) es ks ks) (sym numbers_are)
      (tied (take count R) refl).1

  module _ (bs : List (List ℕ)) (ranks : AreRanked es l bs)
      (same : IsPermutation (filter (λ k. reaches (edge_at es k) l u) numbers) (concat bs)) where
    abbrev put : List Strand
    put = weakened (take from L) ++ (fresh bs ++ O)

    by_group : (X : List Strand) → take count R ≡ X → AreMendedTo es l u (from + length bs) put × KeepTimes es l u L put
    by_group [] e = absurd (omega (arith, ap length e, size, some))
    by_group (g ∷ G) e =
        let L_as : L ≡ m.done ++ ((g ∷ G) ++ O) = L_is ∙ ap (λ (xs : List Strand). m.done ++ (xs ++ O)) e in
        let rest : m.rest ≡ (g ∷ G) ++ O = rest_as ∙ ap (λ (xs : List Strand). xs ++ O) e in
        let held = subst (AllByRecursion (IsHeld es l)) L_as m.held in
        let ordered = subst (Chain (AreHeld es l)) L_as m.ordered in
        let beside = subst (Joins (LiesLeft es l) m.done) rest m.beside in
        let apart = subst (Chain (AreApart es l)) rest m.apart in
        let tied = subst (Chain (IsTogether es l)) e together in
        let cut = subst (λ (xs : List Strand). Joins (λ s t. IsTogether es l s t → ⊥) xs O) e parted in
        let perm = subst (λ (ks : List ℕ). IsPermutation (filter (λ k. reaches (edge_at es k) l u) ks) (concat bs))
        (numbers_are ∙ ap numbers_in e) same in
        let placed : weakened m.done ++ (fresh bs ++ O) ≡ put =
        ap (λ (xs : List Strand). weakened xs ++ (fresh bs ++ O)) D_is in (
          subst (AreMendedTo es l u (from + length bs)) placed
              (regrouped es l u w n.lower_divisor n.upper_divisor n.in_order m.done O g G held ordered m.mended beside
              apart tied cut bs ranks perm from m.size),
          subst (λ (xs : List Strand). KeepTimes es l u xs put) (sym L_as)
              (subst (KeepTimes es l u (m.done ++ ((g ∷ G) ++ O))) placed
              (regrouped_times es l u w n.lower_divisor n.upper_divisor n.in_order m.done O g G held ordered m.mended
              beside apart tied cut bs ranks perm)),
        )

    pub put_group : AreMendedTo es l u (from + length bs) put × KeepTimes es l u L put
    put_group = by_group (take count R) refl

    -- some of the strands were there below the height, or some go on above it
    some_at : (g : Strand) (G : List Strand) → take count R ≡ g ∷ G → IsHeld es l g
        → all_at (group_of es l (record { waiting = bundles_of (g ∷ G); leaving = bs })) ≡ [] → ⊥
    some_at g G e h none_at =
        let parts = ap length none_at in
        let sizes = length-append (came_from_below es l (bundles_of (g ∷ G))) bs in
        by_test (has_started es l g.bundle) refl (omega (arith, parts, sizes)) (omega (arith, parts, sizes))
      where
        goes : (b : List ℕ) → b ≡ g.bundle → has_started es l b ≡ true → length bs ≡ 0 → ⊥
        goes [] m s z = absurd (subst (IsBundle es l) (sym m) h.bundle)
        goes (k ∷ ks) m s z =
            let r = subst (AllByRecursion (IsReaching es l l)) (sym m) h.reach in
            let up = starts_up es l u n k r.0 s in
            let is : numbers ≡ k ∷ (ks ++ numbers_in G) = numbers_are ∙ ap numbers_in e
            ∙ ap (λ (js : List ℕ). js ++ numbers_in G) (sym m) in
            let one = length_permutation (filter (λ j. reaches (edge_at es j) l u) numbers) (concat bs) same in
            let kept : filter (λ j. reaches (edge_at es j) l u) numbers
            ≡ cond (reaches (edge_at es k) l u) (k ∷ filter (λ j. reaches (edge_at es j) l u) (ks ++ numbers_in G))
            (filter (λ j. reaches (edge_at es j) l u) (ks ++ numbers_in G))
            = ap (filter (λ j. reaches (edge_at es j) l u)) is in
            let first : filter (λ j. reaches (edge_at es j) l u) numbers
            ≡ k ∷ filter (λ j. reaches (edge_at es j) l u) (ks ++ numbers_in G) = rw up at kept in
            let empty : concat bs ≡ [] = ap concat (nil_from_length bs z) in
            omega (arith, one, ap length first, ap length empty)

        by_test : (t : Bool) → has_started es l g.bundle ≡ t
            → length (came_from_below es l (bundles_of (g ∷ G))) ≡ 0 → length bs ≡ 0 → ⊥
        by_test true s c z = goes g.bundle refl s z
        by_test false s c z =
            let first : came_from_below es l (bundles_of (g ∷ G)) ≡ g.bundle ∷ came_from_below es l (bundles_of G)
            = rw s refl in
            omega (arith, c, ap length first)

    placed_group : (old : List Strand) (X : List Strand) → take count R ≡ X → (cs : List Change) (gone : ℕ)
        → gone ≡ older es l (take count R) → ArePlacedTo es l from old L cs
        → ArePlacedTo es l (from + length bs) old put
        (cs ++ record { from = from; gone = gone; come = length bs } ∷ [])
    placed_group old [] e cs gone o a = absurd (omega (arith, ap length e, size, some))
    placed_group old (g ∷ G) e cs gone o a =
        let L_as : L ≡ m.done ++ ((g ∷ G) ++ O) = L_is ∙ ap (λ (xs : List Strand). m.done ++ (xs ++ O)) e in
        let rest : m.rest ≡ (g ∷ G) ++ O = rest_as ∙ ap (λ (xs : List Strand). xs ++ O) e in
        let R_as : R ≡ g ∷ (G ++ O) = sym R_is ∙ ap (λ (xs : List Strand). xs ++ O) e in
        let held = subst (AllByRecursion (IsHeld es l)) L_as m.held in
        let ordered = subst (Chain (AreHeld es l)) L_as m.ordered in
        let beside = subst (Joins (LiesLeft es l) m.done) rest m.beside in
        let apart = subst (Chain (AreApart es l)) rest m.apart in
        let tied = subst (Chain (IsTogether es l)) e together in
        let cut = subst (λ (xs : List Strand). Joins (λ s t. IsTogether es l s t → ⊥) xs O) e parted in
        let perm = subst (λ (ks : List ℕ). IsPermutation (filter (λ k. reaches (edge_at es k) l u) ks) (concat bs))
        (numbers_are ∙ ap numbers_in e) same in
        let front_is : take (from + length bs) put ≡ weakened (take from L) ++ fresh bs = front_put in
        let back_is : drop (from + length bs) put ≡ O = back_put in
        let held_g = (front (IsHeld es l) (g ∷ G) O (back (IsHeld es l) m.done ((g ∷ G) ++ O) held)).0 in
        placed_more es l from (from + length bs) old L put (record { waiting = bundles_of (g ∷ G); leaving = bs }) g (G ++ O)
        (group_is_place es l u w n.lower_divisor n.upper_divisor n.in_order m.done O g G held ordered m.mended beside
        apart tied cut bs ranks perm (some_at g G e held_g)) R_as refl
        (ap bundles_of R_as ∙ bundles_append (g ∷ G) O
        ∙ ap (λ (xs : List Strand). bundles_of (g ∷ G) ++ bundles_of xs) (sym back_is))
        (ap bundles_of front_is ∙ bundles_append (weakened (take from L)) (fresh bs)
        ∙ ap₂ (λ (xs ys : List (List ℕ)). xs ++ ys) (bundles_weakened (take from L)) (bundles_fresh bs))
        (subst (λ (xs : List Strand). Joins (LiesBefore es l) (record { waiting = bundles_of (g ∷ G); leaving = bs } ∷ [])
        (map place_of xs)) (sym back_is)
        (group_before es l u w n.lower_divisor n.upper_divisor n.in_order m.done O g G held ordered m.mended beside apart
        tied cut bs ranks perm)) here cs (record { from = from; gone = gone; come = length bs } ∷ []) a
        (changes (record { from = from; gone = gone; come = length bs }) []
        (group_of es l (record { waiting = bundles_of (g ∷ G); leaving = bs })) []
        (sym (o ∙ older_is es l (take count R)
        ∙ ap (λ (xs : List Strand). length (came_from_below es l (bundles_of xs))) e)) refl (none (from + length bs)))
        (AllByRecursion-append (StartsKeyless es l) (weakened (take from L)) (fresh bs ++ O)
        (all_weakened (StartsKeyless es l) (λ s k _. refl) (take from L)
        (subst (AllByRecursion (StartsKeyless es l)) D_is (front (StartsKeyless es l) m.done ((g ∷ G) ++ O)
        (subst (AllByRecursion (StartsKeyless es l)) L_as a.keyless))))
        (AllByRecursion-append (StartsKeyless es l) (fresh bs) O (fresh_keyless bs)
        (back (StartsKeyless es l) (g ∷ G) O (back (StartsKeyless es l) m.done ((g ∷ G) ++ O)
        (subst (AllByRecursion (StartsKeyless es l)) L_as a.keyless)))))
      where
        fresh_keyless : (cs : List (List ℕ)) → AllByRecursion (StartsKeyless es l) (fresh cs)
        fresh_keyless [] = tt
        fresh_keyless (c ∷ cs) = (λ _. refl, fresh_keyless cs)

        here : from ≤ length L
        here = omega (arith, some, within)

        size_put : length (weakened (take from L) ++ fresh bs) ≡ from + length bs
        size_put = length-append (weakened (take from L)) (fresh bs)
            ∙ ap₂ (λ (a b : ℕ). a + b) (length_weakened (take from L) ∙ length-take-le from L here) (length_fresh bs)

        put_is : put ≡ (weakened (take from L) ++ fresh bs) ++ O
        put_is = sym (append_assoc (weakened (take from L)) (fresh bs) O)

        front_put : take (from + length bs) put ≡ weakened (take from L) ++ fresh bs
        front_put = ap (take (from + length bs)) put_is
            ∙ take_at (weakened (take from L) ++ fresh bs) O (from + length bs) size_put

        back_put : drop (from + length bs) put ≡ O
        back_put = ap (drop (from + length bs)) put_is
            ∙ drop_at (weakened (take from L) ++ fresh bs) O (from + length bs) size_put

    -- as the code puts it
    pub placed_by : (W N new : List Strand) (end : ℕ) → W ≡ weakened (take from L) ++ drop from L → N ≡ fresh bs
        → new ≡ take from W ++ (N ++ drop to W) → end ≡ from + length N → (old : List Strand) (cs : List Change)
        (gone : ℕ) → gone ≡ older es l (drop from (take to L)) → ArePlacedTo es l from old L cs
        → ArePlacedTo es l end old new (cs ++ record { from = from; gone = gone; come = end - from } ∷ [])
    placed_by W N new end we ne e m old cs gone o a =
        let here : from ≤ length L = omega (arith, some, within) in
        let new-is : put ≡ new = sym (e ∙ put_between L from to W N (omega (arith, some)) here we
        ∙ ap (λ (xs : List Strand). weakened (take from L) ++ (xs ++ O)) ne) in
        let size : length N ≡ length bs = ap length ne ∙ length_fresh bs in
        let end-is : from + length bs ≡ end = omega (arith, m, size) in
        let come-is : length bs ≡ end - from = omega (arith, m, size) in
        let parts : take count R ≡ drop from (take to L) =
        sym (drop-take from count L) ∙ ap (λ (i : ℕ). drop from (take i L)) from_count in
        subst (λ (i : ℕ). ArePlacedTo es l i old new
        (cs ++ record { from = from; gone = gone; come = end - from } ∷ [])) end-is
        (subst (λ (i : ℕ). ArePlacedTo es l (from + length bs) old new
        (cs ++ record { from = from; gone = gone; come = i } ∷ [])) come-is
        (subst (λ (xs : List Strand). ArePlacedTo es l (from + length bs) old xs
        (cs ++ record { from = from; gone = gone; come = length bs } ∷ [])) new-is
        (placed_group old (take count R) refl cs gone (o ∙ ap (older es l) (sym parts)) a)))

    pub regrouped_by : (W N new : List Strand) (end : ℕ) → W ≡ weakened (take from L) ++ drop from L → N ≡ fresh bs
        → new ≡ take from W ++ (N ++ drop to W) → end ≡ from + length N
        → AreMendedTo es l u end new × KeepTimes es l u L new × (length new - end < length L - from)
    regrouped_by W N new end we ne e m =
        let here : from ≤ length L = omega (arith, some, within) in
        let new-is : put ≡ new = sym (e ∙ put_between L from to W N (omega (arith, some)) here we
        ∙ ap (λ (xs : List Strand). weakened (take from L) ++ (xs ++ O)) ne) in
        let size : length N ≡ length bs = ap length ne ∙ length_fresh bs in
        let end-is : from + length bs ≡ end = omega (arith, m, size) in
        let long : length new ≡ from + (length N + (length L - to)) = sym (ap length new-is)
        ∙ length-append (weakened (take from L)) (fresh bs ++ O)
        ∙ ap₂ (λ (a b : ℕ). a + b) (length_weakened (take from L) ∙ length-take-le from L here)
        (length-append (fresh bs) O ∙ ap₂ (λ (a b : ℕ). a + b) (length_fresh bs ∙ sym size) (length-drop to L)) in (
          subst (λ (i : ℕ). AreMendedTo es l u i new) end-is
              (subst (AreMendedTo es l u (from + length bs)) new-is put_group.0),
          subst (KeepTimes es l u L) new-is put_group.1,
          omega (arith, long, m, some, within),
        )

-- ---- the first place and the last
pub none_mended : (es : List LeafEdge) (l u : Level) (L : List Strand) → AreWaiting es l L → AreMendedTo es l u 0 L
none_mended es l u L h = record {
  done = [];
  rest = L;
  is = refl;
  size = refl;
  held = h.held;
  ordered = h.ordered;
  mended = record { reach = tt; ranked = tt };
  beside = tt;
  apart = h.apart;
}

pub all_mended : (es : List LeafEdge) (l u : Level) (p : ℕ) (L : List Strand) → AreMendedTo es l u p L → length L ≤ p
    → AreOrdered es l u L
all_mended es l u p L m o = by_rest m.rest m.is
  where
    by_rest : (rest : List Strand) → L ≡ m.done ++ rest → AreOrdered es l u L
    by_rest [] e = record {
      held = m.held;
      ordered = m.ordered;
      mended = subst (AreMended es l u) (sym (e ∙ append-nil m.done)) m.mended;
    }
    by_rest (s ∷ rest) e =
        let size = m.size in
        absurd (omega (arith, ap length e, length-append m.done (s ∷ rest), size, o))

-- ---- one more strand at a place
pub together_more : (es : List LeafEdge) (l : Level) (L : List Strand) (from to : ℕ) (s t : Strand) (r : Bool)
    → ((i : ℕ) → from ≤ i → i + 1 < to → IsTogether es l (strand_at L i) (strand_at L (i + 1))) → from < to
    → to < length L → s ≡ get_or L (to - 1) s → t ≡ get_or L to t
    → r ≡ int_eq (x_at (head es s.bundle) l.n l.d *ℤ rise (head es t.bundle))
    (x_at (head es t.bundle) l.n l.d *ℤ rise (head es s.bundle)) → r ≡ true
    → (i : ℕ) → from ≤ i → i + 1 < to + 1 → IsTogether es l (strand_at L i) (strand_at L (i + 1))
together_more es l L from to s t r h some there es-is et-is e v i o q = by_test (nat_lt (i + 1) to) refl
  where
    less : nat_lt (i + 1) to ≡ true → i + 1 < to
    less v = grind arith

    last : nat_lt (i + 1) to ≡ false → i + 1 ≡ to
    last v = let u = not_less (i + 1) to v in omega arith
      where
        not_less : (m n : ℕ) → nat_lt m n ≡ false → n ≤ m
        not_less m n v = grind arith

    both : IsTogether es l s t
    both = (signed_Decides (x_at (head es s.bundle) l.n l.d *ℤ rise (head es t.bundle))
        (x_at (head es t.bundle) l.n l.d *ℤ rise (head es s.bundle))).0 (sym e ∙ v)

    by_test : (b : Bool) → nat_lt (i + 1) to ≡ b → IsTogether es l (strand_at L i) (strand_at L (i + 1))
    by_test true v = h i o (less v)
    by_test false v =
        let m = last v in
        let n : to - 1 ≡ i = omega arith in
        let a : s ≡ strand_at L i = get_or_read L (to - 1) s (omega arith) es-is no_strand
        ∙ ap (λ (j : ℕ). strand_at L j) n in
        let b : t ≡ strand_at L (i + 1) = get_or_read L to t there et-is no_strand
        ∙ ap (λ (j : ℕ). strand_at L j) (sym m) in
        subst (λ (x : Strand). IsTogether es l x (strand_at L (i + 1))) a
        (subst (λ (x : Strand). IsTogether es l s x) b both)
