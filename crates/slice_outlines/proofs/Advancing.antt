-- A sweep that is lifted over a level.
use Rattle.std.proofs.Common.{◌≡◌, ◌⊎◌, inl, inr, ℕ, suc, ◌+◌, ◌^◌, ◌<◌, ◌≤◌, Bool, true, false, List, [], ◌∷◌, ◌++◌, map, length, get_or, take, drop, refl, sym, ap, ◌∙◌, subst, arith, append_assoc, length-append}
use mathlib.Core.Path.{fun_ext}
use lib.IntN.{ℤ, pos, ◌*ℤ◌}
use lib.Signed.{◌<ℤ◌}
use Rattle.std.specs.Prelude.{int_lt, int_le}
use Rattle.std.specs.List.{All, AllByRecursion, concat}
use Rattle.std.specs.List.Sorted.{IsPermutation}
use Rattle.std.proofs.lemmas.Int.{ints}
use Rattle.std.proofs.lemmas.Bool.{and_from}
use Rattle.std.proofs.lemmas.List.{append-nil, drop_at, drop_all, get_or_default, take_all, map-append}
use Rattle.std.proofs.lemmas.List.Elements.{All-from_recursion, recursion_from_All}
use Rattle.scad_geom.specs.declared.point.Edge.{Edge}
use Rattle.scad_geom.specs.declared.level.Level.{Level}
use Rattle.scad_geom.specs.declared.level.LeafEdge.{LeafEdge}
use Rattle.scad_geom.specs.declared.shape.Shape.{Shape}
use Rattle.scad_geom.specs.Line.{low, high, rise}
use Rattle.scad_geom.specs.Level.{level_of, IsAtMost}
use Rattle.scad_geom.specs.Leaves.{AreLeavesBalanced}
use Rattle.scad_geom.specs.Heights.{heights, AreNeighbours}
use Rattle.scad_geom.proofs.Heights.{heights_positive, at_most_chain, lower_weak}
use Rattle.scad_geom.proofs.Order.{front, back}
use Rattle.slice_events.specs.Levels.{AreLevels}
use Rattle.slice_bundles.specs.Bundles.{no_edge, edge_at, AreBundles, AreRanked}
use Rattle.slice_bundles.proofs.Live.{IsLive, live_bundles}
use Rattle.slice_pieces.specs.declared.piece.Spot.{Spot}
use Rattle.slice_pieces.specs.Spots.{point_of}
use Rattle.slice_pieces.specs.Rounding.{rounded_edges}
use Rattle.slice_border.specs.Pieces.{whole_spot, passes_at, is_flat_at, spots_at, GoRight, HasSpot, IsOneOf}
use Rattle.slice_border.specs.Beside.{left_value, passing}
use Rattle.slice_border.specs.Tally.{headings, is_held}
use Rattle.slice_border.proofs.BundleValues.{are_members}
use Rattle.slice_sweep.specs.declared.change.Change.{Change}
use Rattle.slice_sweep.specs.Changes.{Group, Tell, all_below, all_above, AreChanges}
use Rattle.slice_sweep.specs.Front.{bundles_in, IsReadyFor, IsBegunTo}
use Rattle.sweep_laws.specs.Ways.{pieces_of}
use Rattle.sweep_laws.specs.Fronts.{Strand, bundles_of, AreValued, IsFront}
use Rattle.sweep_laws.specs.Crossing.{Place, all_closed, ArePassed, MeetsAt, IsCrossing}
use Rattle.sweep_laws.specs.Crossing.{all_below as placed_below, all_above as placed_above}
use Rattle.sweep_laws.specs.Balance.{StaysAside}
use Rattle.sweep_laws.specs.Stops.{AreMet}
use Rattle.sweep_laws.specs.Values.{AreValuedBefore, AreNewValued}
use Rattle.sweep_laws.proofs.Balance.{CountsBeside, counts_below, counts_above, counts_first, headings_beside, all_aside}
use Rattle.sweep_laws.proofs.Edges.{ways_give_edges}
use Rattle.sweep_laws.proofs.LevelPieces.{later_valued}
use Rattle.sweep_laws.proofs.Steps.{steps_lift}
use Rattle.sweep_laws.proofs.HeightByHeight.{sweeps_go_on}
use Rattle.slice_sweep.specs.declared.front.Front.{Front}
use Rattle.slice_outlines.specs.declared.mark.Mark.{Mark}
use Rattle.slice_outlines.specs.declared.flat.Flat.{Flat}
use Rattle.slice_outlines.specs.declared.cursor.Cursor.{Cursor}
use Rattle.slice_outlines.specs.declared.cursors.Cursors.{Cursors}
use Rattle.slice_border.specs.declared.tally.Tally.{Tally}
use Rattle.slice_outlines.specs.declared.height.Height.{Height}
use Rattle.slice_outlines.specs.declared.height.Open.{Open}
use Rattle.slice_outlines.specs.declared.sweep.Sweep.{Sweep}
use Rattle.slice_outlines.specs.Marks.{mark_at, spot_at, left_of_first, IsNamed, AreKept}
use Rattle.slice_outlines.specs.Stops.{AllPass}
use Rattle.slice_outlines.specs.Above.{name_of, new_mark, IsTold, AreTaken}
use Rattle.slice_outlines.specs.Above.AreTaken.{none as taken_none, stays as taken_stays, changes as taken_changes}
use Rattle.slice_outlines.specs.Cursor.{StandsOn, IsShifted, IsMetFromBelow}
use Rattle.slice_outlines.specs.Cursors.{StandOn, AreAbove}
use Rattle.slice_border.specs.Keeping.{Tells}
use Rattle.slice_outlines.specs.Flats.{AreFlats, LiesAside}
use Rattle.slice_outlines.specs.Heights.{Onwards, IsOf}
use Rattle.slice_outlines.specs.Along.{AreAtPlace, ArePlacesFrom, value_over}
use Rattle.slice_outlines.specs.Ahead.{HasComeTo, between}
use Rattle.slice_outlines.specs.Level.{AreFlatsOn, IsAtLevel, IsValuedAt, AreSpotsOf}
use Rattle.slice_outlines.specs.Sweep.{HasSwept, IsFrontBelow, ArePassedBelow, CanClimb}
use Rattle.slice_outlines.proofs.Beginning.{all_above_first}
use Rattle.slice_outlines.proofs.Placing.{AreNamed, zip_append}
use Rattle.slice_outlines.proofs.GroupHeights.{HeadPasses}
use Rattle.slice_outlines.proofs.LevelAhead.{zip_front}
use Rattle.slice_outlines.proofs.Grouping.{value_end}
use Rattle.slice_outlines.proofs.Fitting.{named_size}
use Rattle.slice_outlines.proofs.Few.{bundles_few}
use Rattle.slice_outlines.proofs.Climbing.{swept_named, swept_few}
use Rattle.slice_outlines.proofs.StrandSearch.{by_places}
use Rattle.slice_outlines.proofs.Apart.{IsPlaced, AreApart, at_group, groups_placed, groups_apart, below-append, above-append}
use Rattle.slice_outlines.proofs.Cuts.{under_right, over_right, stays_aside, found}
use Rattle.slice_outlines.proofs.Asides.{beside, cut_left, next_marked}

-- ---- the marks above
some_named : (b : List ℕ) → (b ≡ [] → ⊥) → IsNamed (name_of b) b
some_named [] n = absurd (n refl)
some_named (k ∷ ks) n = refl

news_named : (bs : List (List ℕ)) → AllByRecursion (λ b. b ≡ [] → ⊥) bs → AreNamed (map new_mark bs) bs
news_named [] n = tt
news_named (b ∷ bs) n = (some_named b n.0, news_named bs n.1)

pub taken_named : (n : ℕ) (cs : List Change) (gs : List Group) (ms ns : List Mark) → AreTaken n cs gs ms ns
    → AreNamed ms (all_below gs) → AllByRecursion (λ b. b ≡ [] → ⊥) (all_above gs) → AreNamed ns (all_above gs)
taken_named n cs gs ms ns (taken_none m) z a = tt
taken_named n cs gs ms ns (taken_stays m ds b hs x us vs t) z a = (z.0, taken_named (m + 1) ds hs us vs t z.1 a.1)
taken_named n cs gs ms ns (taken_changes c ds g hs gone us vs p q r t) z a =
    let P : List ℕ → Type 0 = λ b. b ≡ [] → ⊥ in
    let low = zip_front gone us g.below (all_below hs) (p ∙ sym q) z in
    zip_append (λ m b. IsNamed m.name b) (map new_mark g.above) g.above vs (all_above hs)
    (news_named g.above (front P g.above (all_above hs) a))
    (taken_named (c.from + c.come) ds hs us vs t low.1 (back P g.above (all_above hs) a))

some_bundles : (es : List LeafEdge) (l : Level) (bs : List (List ℕ)) → AreRanked es l bs
    → AllByRecursion (λ b. b ≡ [] → ⊥) bs
some_bundles es l [] r = tt
some_bundles es l ([] ∷ bs) r = absurd r.0
some_bundles es l ((k ∷ ks) ∷ bs) r = (λ e. absurd (omega (arith, ap length e)), some_bundles es l bs r.2)

-- ---- edges that reach a height pass it
passes_by : (e : Edge) (m : Level) → pos 0 <ℤ rise e → IsAtMost (level_of (low e).y) m
    → IsAtMost m (level_of (high e).y)
    → passes_at e m ≡ true
passes_by e m r a b =
    and_from (int_lt (pos 0) (rise e)) _ (sym (omega (arith, ints)))
    (and_from (int_le ((low e).y *ℤ m.d) m.n) (int_le m.n ((high e).y *ℤ m.d)) (sym (omega (arith, ints)))
    (sym (omega (arith, ints))))

one_up : (y : ℤ) → pos 0 <ℤ (level_of y).d
one_up y = omega (arith, ints)

module _ (es : List LeafEdge) (l u : Level) (n : AreNeighbours es l u) where
  passes_lower : (k : ℕ) → IsLive es l u k → passes_at (edge_at es k) l ≡ true
  passes_lower k v =
      let e : Edge = edge_at es k in
      passes_by e l v.reaches.rises v.reaches.from (at_most_chain l u (level_of (high e).y) n.lower_divisor
      n.upper_divisor (one_up (high e).y) (lower_weak l u n.in_order) v.reaches.to)

  passes_upper : (k : ℕ) → IsLive es l u k → passes_at (edge_at es k) u ≡ true
  passes_upper k v =
      let e : Edge = edge_at es k in
      passes_by e u v.reaches.rises (at_most_chain (level_of (low e).y) l u (one_up (low e).y) n.lower_divisor
      n.upper_divisor v.reaches.from (lower_weak l u n.in_order)) v.reaches.to

  heads_by : (m : Level) → ((k : ℕ) → IsLive es l u k → passes_at (edge_at es k) m ≡ true) → (bs : List (List ℕ))
      → AreRanked es l bs → AllByRecursion (IsLive es l u) (concat bs) → AllByRecursion (HeadPasses es m) bs
  heads_by m p [] r a = tt
  heads_by m p ([] ∷ bs) r a = absurd r.0
  heads_by m p ((k ∷ ks) ∷ bs) r a = (p k a.0, heads_by m p bs r.2 (back (IsLive es l u) ks (concat bs) a.1))

  pub heads_lower : (bs : List (List ℕ)) → AreBundles es l u bs → AllByRecursion (HeadPasses es l) bs
  heads_lower bs b = heads_by l passes_lower bs b.ranked (live_bundles es l u bs b)

  pub heads_upper : (bs : List (List ℕ)) → AreBundles es l u bs → AllByRecursion (HeadPasses es u) bs
  heads_upper bs b = heads_by u passes_upper bs b.ranked (live_bundles es l u bs b)

marks_pass : (es : List LeafEdge) (m : Level) (ms : List Mark) (bs : List (List ℕ)) → AreNamed ms bs
    → AllByRecursion (HeadPasses es m) bs → AllByRecursion (λ x. passes_at (edge_at es x.name) m ≡ true) ms
marks_pass es m [] bs z a = tt
marks_pass es m (x ∷ ms) [] z a = absurd z
marks_pass es m (x ∷ ms) ([] ∷ bs) z a = absurd z.0
marks_pass es m (x ∷ ms) ((k ∷ ks) ∷ bs) z a =
    (subst (λ (j : ℕ). passes_at (edge_at es j) m ≡ true) (sym z.0) a.0, marks_pass es m ms bs z.1 a.1)

pub all_pass : (es : List LeafEdge) (m : Level) (ms : List Mark) (bs : List (List ℕ)) → AreNamed ms bs
    → AllByRecursion (HeadPasses es m) bs → AllPass es m ms
all_pass es m ms bs z a =
    All-from_recursion (λ x. passes_at (edge_at es x.name) m ≡ true) ms (marks_pass es m ms bs z a)

-- ---- below a level
module _ (es : List LeafEdge) (shape : Shape) (levels : List Level) (m : Level) (later : List Level)
    (are : AreLevels es levels) where
  pub front_heads : (ss : List Strand) → IsFrontBelow es shape levels (m ∷ later) ss
      → AllByRecursion (HeadPasses es m) (bundles_of ss)
  front_heads ss (inl e) =
      subst (λ (ts : List Strand). AllByRecursion (HeadPasses es m) (bundles_of ts)) (sym e.0) tt
  front_heads ss (inr f) = heads_upper es f.0 m f.1 (bundles_of ss) f.2.bundles

  pub front_values : (ss : List Strand) → IsFrontBelow es shape levels (m ∷ later) ss → AreValued es shape ss
  front_values ss (inl e) = subst (AreValued es shape) (sym e.0) tt
  front_values ss (inr f) = f.2.values

  pub first_most : levels ≡ m ∷ later → AllByRecursion (IsAtMost m) (heights es)
  first_most e =
      let a : AreLevels es (m ∷ later) = subst (AreLevels es) e are in
      all_above_first m later (heights es) a.divisors a.rising (heights_positive es) a.complete

  pub front_counts : pos 0 <ℤ m.d → (ss : List Strand) → IsFrontBelow es shape levels (m ∷ later) ss
      → CountsBeside false es m (bundles_of ss)
  front_counts d ss (inl e) =
      subst (λ (ts : List Strand). CountsBeside false es m (bundles_of ts)) (sym e.0) (counts_first es m d
      (first_most e.1))
  front_counts d ss (inr f) = counts_below es f.0 m f.1 (bundles_of ss) f.2.bundles

-- what sums up alike holds alike
held_alike : (es : List LeafEdge) (shape : Shape) (below above : List (List ℕ))
    → ((leaf : ℕ) → headings es leaf (concat below) ≡ headings es leaf (concat above))
    → left_value es shape below ≡ left_value es shape above
held_alike es shape below above h = ap (λ (f : ℕ → ℤ). is_held f shape) (fun_ext (λ leaf. h leaf))

-- ---- a level of a sweep
-- what it is for
abbrev pub on_level : (h : Height) (upper : Level) (shape : Shape) (levels later : List Level) (s : Sweep)
    → HasSwept h.edges.now shape levels (h.at.now ∷ (upper ∷ later)) s → Onwards
on_level h upper shape levels later s swept = record {
  shape = shape;
  upper = upper;
  height = h;
  below = swept.front;
  given = rounded_edges (pieces_of swept.closed);
}

module _ (h : Height) (upper : Level) (shape : Shape) (levels later : List Level) (s : Sweep) (cs : List Change)
    (swept : HasSwept h.edges.now shape levels (h.at.now ∷ (upper ∷ later)) s) (are : AreLevels h.edges.now levels)
    (leaves : AreLeavesBalanced h.edges.now) (next : AreNeighbours h.edges.now h.at.now upper)
    (bundles : AreBundles h.edges.now h.at.now upper (bundles_in h.front.now))
    (ch : AreChanges h.edges.now h.at.now (bundles_in s.front) (bundles_in h.front.now) cs)
    (below_is : h.below.now ≡ s.kept.marks.items) (ms : List Mark) (taken : AreTaken 0 cs ch.groups h.below.now ms)
    (fs : List Flat) (flats : AreFlatsOn h.edges.now h.at.now fs) where
  abbrev es : List LeafEdge
  es = h.edges.now

  abbrev at : Level
  at = h.at.now

  abbrev lows : List (List ℕ)
  lows = bundles_in s.front

  abbrev up : List (List ℕ)
  up = bundles_in h.front.now

  low_named : AreNamed h.below.now (all_below ch.groups)
  low_named = subst (AreNamed h.below.now) (sym ch.below_is)
      (subst (λ (us : List Mark). AreNamed us lows) (sym below_is)
      (swept_named es shape levels at (upper ∷ later) s swept))

  up_some : AllByRecursion (λ b. b ≡ [] → ⊥) (all_above ch.groups)
  up_some = subst (AllByRecursion (λ b. b ≡ [] → ⊥)) (sym ch.above_is) (some_bundles es at up bundles.ranked)

  up_named : AreNamed ms (all_above ch.groups)
  up_named = taken_named 0 cs ch.groups h.below.now ms taken low_named up_some

  low_heads : AllByRecursion (HeadPasses es at) (all_below ch.groups)
  low_heads = subst (AllByRecursion (HeadPasses es at)) (swept.bundles ∙ sym ch.below_is)
      (front_heads es shape levels at (upper ∷ later) are swept.front swept.below)

  up_heads : AllByRecursion (HeadPasses es at) (all_above ch.groups)
  up_heads = subst (AllByRecursion (HeadPasses es at)) (sym ch.above_is) (heads_lower es at upper next up bundles)

  placed : AllByRecursion (IsPlaced h) ch.groups
  placed = groups_placed h ch.groups ch.are_groups low_heads up_heads

  apart : AreApart h ch.groups
  apart = groups_apart h ch.groups placed ch.are_groups.rightwards

  below_counts : CountsBeside false es at (all_below ch.groups)
  below_counts = subst (CountsBeside false es at) (swept.bundles ∙ sym ch.below_is)
      (front_counts es shape levels at (upper ∷ later) are next.lower_divisor swept.front swept.below)

  above_counts : CountsBeside true es at (all_above ch.groups)
  above_counts = subst (CountsBeside true es at) (sym ch.above_is) (counts_above es at upper next up bundles)

  alike_beside : (t : Spot) → t.at ≡ at → 0 < t.run → AllByRecursion (StaysAside (point_of t)) es → (leaf : ℕ)
      → headings es leaf (concat (passing es true (point_of t) (all_below ch.groups)))
      ≡ headings es leaf (concat (passing es true (point_of t) (all_above ch.groups)))
  alike_beside t e r a leaf =
      headings_beside es leaves at next.lower_divisor (all_below ch.groups) (all_above ch.groups) below_counts
      above_counts t e r (all_aside (point_of t) es a) leaf

  -- ---- the cursors
  alike_behind : (left : List Group) (g : Group) (right : List Group) → ch.groups ≡ left ++ (g ∷ right)
      → AllByRecursion (LiesAside at (at_group h g)) fs → (leaf : ℕ)
      → headings es leaf (concat (all_below (g ∷ right))) ≡ headings es leaf (concat (all_above (g ∷ right)))
  alike_behind left g right e a leaf =
      let P = subst (AllByRecursion (IsPlaced h)) e placed in
      let pl = front (IsPlaced h) left (g ∷ right) P in
      let pr = back (IsPlaced h) left (g ∷ right) P in
      let b = beside at next.lower_divisor (at_group h g) pr.0.at fs flats.rightwards a in
      let c = cut_left h left g right b.before b.behind pl pr (subst (AreApart h) e apart) b.end b.begin in
      let runs : 0 < c.0.run = let r = c.1.at.runs in omega (arith, ints, r) in
      let split : AreFlatsOn es at (b.before ++ b.behind) = subst (AreFlatsOn es at) b.all flats in
      let q = alike_beside c.0 c.1.at.at runs (stays_aside h b.before b.behind left (g ∷ right) c.0 c.1 split) leaf in
      ap (λ (bs : List (List ℕ)). headings es leaf (concat bs))
      (sym (ap (λ (gs : List Group). passing es true (point_of c.0) (all_below gs)) e
      ∙ under_right h b.before b.behind left (g ∷ right) c.0 c.1 pl pr)) ∙ q
      ∙ ap (λ (bs : List (List ℕ)). headings es leaf (concat bs))
      (ap (λ (gs : List Group). passing es true (point_of c.0) (all_above gs)) e
      ∙ over_right h b.before b.behind left (g ∷ right) c.0 c.1 pl pr)

  tells_as : (bs ds : List (List ℕ)) (c : Cursor) → ((leaf : ℕ)
      → headings es leaf (concat bs) ≡ headings es leaf (concat ds))
      → Tells es shape (concat bs) c.tally → Tells es shape (concat ds) c.tally
  tells_as bs ds c e t = record {
    ready = t.ready;
    size = t.size;
    leaves = t.leaves;
    turns = λ leaf. t.turns leaf ∙ e leaf;
    shows = t.shows;
  }

  -- once it is clear of the level, it's shifted to the front above
  pub shifted : (c d : Cursor) → StandsOn es shape lows c → d.tally ≡ c.tally → IsShifted ch.groups c.at d.at
      → (c.at < length h.below.now → All (LiesAside at (spot_at es at (mark_at h.below.now c.at))) fs)
      → StandsOn es shape up d
  shifted c d on same sh aside =
      let left : List Group = sh.left in
      let right : List Group = sh.right in
      let lower : lows ≡ all_below left ++ all_below right =
      sym ch.below_is ∙ ap all_below sh.groups ∙ below-append left right in
      let upper' : up ≡ all_above left ++ all_above right =
      sym ch.above_is ∙ ap all_above sh.groups ∙ above-append left right in
      let here : drop c.at lows ≡ all_below right =
      ap (drop c.at) lower ∙ drop_at (all_below left) (all_below right) c.at sh.lower in
      let there : drop d.at up ≡ all_above right =
      ap (drop d.at) upper' ∙ drop_at (all_above left) (all_above right) d.at sh.upper in
      let size = ap length upper' ∙ length-append (all_above left) (all_above right) in
      let place = sh.upper in
      let tells : Tells es shape (concat (all_below right)) d.tally =
      subst (λ (t : Tally). Tells es shape (concat (all_below right)) t) (sym same)
      (subst (λ (bs : List (List ℕ)). Tells es shape (concat bs) c.tally) here on.tells) in
      record {
        there = omega (arith, size, place);
        tells = subst (λ (bs : List (List ℕ)). Tells es shape (concat bs) d.tally) (sym there)
            (tells_as (all_below right) (all_above right) d (by_case left right sh.groups sh.lower sh.next) tells);
      }
    where
      by_case : (left right : List Group) → ch.groups ≡ left ++ right → length (all_below left) ≡ c.at
          → IsMetFromBelow right → (leaf : ℕ)
          → headings es leaf (concat (all_below right)) ≡ headings es leaf (concat (all_above right))
      by_case left [] e q m leaf = refl
      by_case left (g ∷ gs) e q m leaf =
          let z : AreNamed h.below.now (all_below left ++ all_below (g ∷ gs)) =
          subst (AreNamed h.below.now) (ap all_below e ∙ below-append left (g ∷ gs)) low_named in
          let x = next_marked h h.below.now c.at (all_below left) g gs q z m in
          alike_behind left g gs e (subst (λ (s : Spot). AllByRecursion (LiesAside at s) fs) x.1
          (recursion_from_All (LiesAside at (spot_at es at (mark_at h.below.now c.at))) fs (aside x.0))) leaf

  -- ---- what the level asks
  pub at_level : length es < 2 ^ 32 → (c : Cursors) → StandOn es shape up c → IsAtLevel h ms cs fs c
  at_level few c on = record {
    groups = ch.groups;
    are_groups = ch.are_groups;
    told = ch.told;
    taken = taken;
    above = ch.above_is;
    named_below = low_named;
    named_above = up_named;
    few_below = subst (λ (bs : List (List ℕ)). length bs < 2 ^ 32) (sym ch.below_is)
        (swept_few es shape levels at (upper ∷ later) s swept few);
    few_above = subst (λ (bs : List (List ℕ)). length bs < 2 ^ 32) (sym ch.above_is)
        (bundles_few es at upper up bundles few);
    members = are_members es at upper up bundles;
    stands = record { shape = shape; on = on };
    pass_below = all_pass es at h.below.now (all_below ch.groups) low_named low_heads;
    pass_above = all_pass es at ms (all_above ch.groups) up_named up_heads;
    flats = flats;
  }

  pub kept_below : AreKept false h.below.now swept.front
  kept_below = subst (λ (us : List Mark). AreKept false us swept.front) (sym below_is) swept.kept

  pub valued_level : IsValuedAt (on_level h upper shape levels later s swept) ch.groups
  valued_level = record {
    below = swept.bundles ∙ sym ch.below_is;
    values = front_values es shape levels at (upper ∷ later) are swept.front swept.below;
    balanced = λ t e r a.
        ap (λ (bs : List (List ℕ)). left_value es shape (passing es true (point_of t) bs))
        (swept.bundles ∙ sym ch.below_is)
        ∙ held_alike es shape (passing es true (point_of t) (all_below ch.groups))
        (passing es true (point_of t) (all_above ch.groups)) (alike_beside t e r a)
        ∙ ap (λ (bs : List (List ℕ)). left_value es shape (passing es true (point_of t) bs)) ch.above_is;
  }

  pub starts : (kept : Open) → kept.marks.items ≡ ms → kept.given.items ≡ s.kept.given.items
      → StandOn es shape up kept.cursors → HasComeTo (on_level h upper shape levels later s swept) [] 0 0 kept
  starts kept e g on = record {
    places = [];
    flat = [];
    at = refl;
    along = tt;
    leads = refl;
    lower = refl;
    upper = refl;
    goes_on = λ later f pass. pass;
    kept = tt;
    met = tt;
    named = subst (λ (us : List Mark). AreNamed us up) (sym e) (subst (AreNamed ms) ch.above_is up_named);
    valued = λ i o. absurd (omega (arith, o));
    edges = subst (λ (xs : List Edge). IsPermutation xs kept.given.items)
        (sym (ap (λ (xs : List Edge). rounded_edges (pieces_of swept.closed) ++ xs) ways_give_edges.none
        ∙ append-nil (rounded_edges (pieces_of swept.closed))))
        (subst (IsPermutation (rounded_edges (pieces_of swept.closed))) (sym g) swept.given);
    stands = on;
  }

-- ---- places that are passed
-- the values of strands, by those of their marks
strands_valued : (edges : List LeafEdge) (shape : Shape) (ms : List Mark) (ss : List Strand) → AreKept false ms ss
    → ((i : ℕ) → i < length ms → (mark_at ms i).left ≡ left_value edges shape (drop i (bundles_of ss)))
    → AreValued edges shape ss
strands_valued edges shape [] [] k v = tt
strands_valued edges shape [] (t ∷ ss) k v = absurd k
strands_valued edges shape (m ∷ ms) [] k v = absurd k
strands_valued edges shape (m ∷ ms) (t ∷ ss) k v =
    (sym k.0.left ∙ v 0 (omega arith), strands_valued edges shape ms ss k.1 (λ i o. v (suc i) (omega (arith, o))))

valued_before : (edges : List LeafEdge) (shape : Shape) (xs ys : List Strand) → AreValued edges shape (xs ++ ys)
    → AreValuedBefore edges shape xs (bundles_of ys)
valued_before edges shape [] ys v = tt
valued_before edges shape (t ∷ xs) ys v = (
  v.0 ∙ ap (λ (bs : List (List ℕ)). left_value edges shape (t.bundle ∷ bs)) (map-append (λ
      (r : Strand). r.bundle) xs ys),
  valued_before edges shape xs ys v.1,
)

news_valued : (edges : List LeafEdge) (shape : Shape) (ps : List Place) → AreValued edges shape (placed_above ps)
    → AreNewValued edges shape ps
news_valued edges shape [] v = tt
news_valued edges shape (p ∷ ps) v = (
  inr (valued_before edges shape p.above (placed_above ps) v),
  news_valued edges shape ps (later_valued edges shape p.above (placed_above ps) v),
)

mets_below : (edges : List LeafEdge) (l : Level) (ps : List Place) → AllByRecursion (AreAtPlace edges l) ps
    → AllByRecursion (λ p. AllByRecursion (λ t. MeetsAt edges l p.at t.bundle) p.below) ps
mets_below edges l [] a = tt
mets_below edges l (p ∷ ps) a = (a.0.below, mets_below edges l ps a.1)

mets_above : (edges : List LeafEdge) (l : Level) (ps : List Place) → AllByRecursion (AreAtPlace edges l) ps
    → AllByRecursion (λ p. AllByRecursion (λ t. MeetsAt edges l p.at t.bundle) p.above) ps
mets_above edges l [] a = tt
mets_above edges l (p ∷ ps) a = (a.0.above, mets_above edges l ps a.1)

-- the ends of each flat edge of the height are among the spots
ends_there : (edges : List LeafEdge) (l : Level) (fs : List Flat) (spots : List Spot) → AreFlatsOn edges l fs
    → AllByRecursion (λ f. HasSpot spots (whole_spot f.left l) × HasSpot spots (whole_spot f.right l)) fs
    → AllByRecursion (λ e. is_flat_at e.edge l ≡ true → HasSpot spots (whole_spot e.edge.a.x l)
    × HasSpot spots (whole_spot e.edge.b.x l)) edges
ends_there edges l fs spots flats ends =
    by_places (λ e. is_flat_at e.edge l ≡ true → HasSpot spots (whole_spot e.edge.a.x l)
    × HasSpot spots (whole_spot e.edge.b.x l)) edges (λ k d o t.
    let same : get_or edges k d ≡ get_or edges k no_edge = get_or_default edges k d no_edge o in
    subst (λ (e : LeafEdge). HasSpot spots (whole_spot e.edge.a.x l)
    × HasSpot spots (whole_spot e.edge.b.x l)) (sym same)
    (one k o (subst (λ (e : LeafEdge). is_flat_at e.edge l ≡ true) same t)))
  where
    at_x : (k : ℕ) (a b x y : ℤ) → (a ≡ x × b ≡ y) ⊎ (a ≡ y × b ≡ x)
        → HasSpot spots (whole_spot x l) × HasSpot spots (whole_spot y l)
        → HasSpot spots (whole_spot a l) × HasSpot spots (whole_spot b l)
    at_x k a b x y (inl q) p = (
      subst (λ (z : ℤ). HasSpot spots (whole_spot z l)) (sym q.0) p.0,
      subst (λ (z : ℤ). HasSpot spots (whole_spot z l)) (sym q.1) p.1,
    )
    at_x k a b x y (inr q) p = (
      subst (λ (z : ℤ). HasSpot spots (whole_spot z l)) (sym q.0) p.1,
      subst (λ (z : ℤ). HasSpot spots (whole_spot z l)) (sym q.1) p.0,
    )

    one : (k : ℕ) → k < length edges → is_flat_at (edge_at edges k) l ≡ true
        → HasSpot spots (whole_spot (edge_at edges k).a.x l) × HasSpot spots (whole_spot (edge_at edges k).b.x l)
    one k o t =
        let x = found edges (λ f. HasSpot spots (whole_spot f.left l) × HasSpot spots (whole_spot f.right l)) fs k
        (flats.all k o t) flats.each ends in
        subst (λ (n : ℕ). HasSpot spots (whole_spot (edge_at edges n).a.x l)
        × HasSpot spots (whole_spot (edge_at edges n).b.x l))
        x.1 (at_x k (edge_at edges x.0.number).a.x (edge_at edges x.0.number).b.x x.0.left x.0.right x.2.ends x.3)

kept_size : (v : Bool) (ms : List Mark) (ss : List Strand) → AreKept v ms ss → length ms ≡ length ss
kept_size v [] [] k = refl
kept_size v [] (t ∷ ss) k = absurd k
kept_size v (m ∷ ms) [] k = absurd k
kept_size v (m ∷ ms) (t ∷ ss) k = ap suc (kept_size v ms ss k.1)

-- all of a height is passed
pub record IsOver (on : Onwards) (fs : List Flat) (new : Open) : Type 0 where
  pub places : List Place
  pub below : placed_below places ≡ on.below
  pub above : bundles_of (placed_above places) ≡ bundles_in on.height.front.now
  pub met : AreMet on.height.edges.now on.height.at.now places
  pub passed : ArePassed on.height.edges.now on.height.at.now on.upper [] places
  pub kept : AreKept false new.marks.items (placed_above places)
  pub values : AreNewValued on.height.edges.now on.shape places
  pub edges : IsPermutation (on.given ++ rounded_edges (pieces_of (all_closed places))) new.given.items
  pub stands : StandOn on.height.edges.now on.shape (bundles_in on.height.front.now) new.cursors

pub over_by : (on : Onwards) (fs : List Flat) (new : Open) (n m : ℕ) → AreKept false on.height.below.now on.below
    → n ≡ length on.height.below.now → m ≡ length (bundles_in on.height.front.now)
    → AreFlatsOn on.height.edges.now on.height.at.now fs → (spots : List Spot) → AreSpotsOf on.height fs spots
    → HasComeTo on spots n m new → IsOver on fs new
over_by on fs new n m k en em flats spots are come =
    let h : Height = on.height in
    let es : List LeafEdge = h.edges.now in
    let ms : List Mark = new.marks.items in
    let size : length ms ≡ m = named_size ms (bundles_in h.front.now) come.named ∙ sym em in
    let nothing : drop n h.below.now ≡ [] = drop_all n h.below.now (omega (arith, en)) in
    let right : left_of_first (drop n h.below.now) false ≡ false = ap (λ
    (us : List Mark). left_of_first us false) nothing in
    let whole : take m ms ≡ ms = take_all m ms (omega (arith, size)) in
    let kept : AreKept false ms (placed_above come.places) =
    subst (λ (v : Bool). AreKept v ms (placed_above come.places)) (value_end h (between n m) ms ∙ right)
    (subst (λ (us : List Mark). AreKept (value_over h (between n m) ms m) us
    (placed_above come.places)) whole come.kept) in
    let above : bundles_of (placed_above come.places) ≡ bundles_in h.front.now =
    come.upper ∙ take_all m (bundles_in h.front.now) (omega (arith, em)) in
    let strands : length on.height.below.now ≡ length on.below = kept_size false on.height.below.now on.below k in
    let later : ArePlacesFrom on n (value_over h (between n m) ms m) [] [] = record {
      below = sym (drop_all n on.below (omega (arith, en, strands)));
      value = sym (value_end h (between n m) ms ∙ right);
      first = tt;
    } in
    record {
      places = come.places;
      below = come.lower ∙ take_all n on.below (omega (arith, en, strands));
      above = above;
      met = record {
        rightwards = subst GoRight (sym come.at) are.rightwards;
        sound = subst (AllByRecursion (IsOneOf (spots_at es h.at.now))) (sym come.at) are.sound;
        flats = subst (λ (ss : List Spot). AllByRecursion (λ e. is_flat_at e.edge h.at.now ≡ true
            → HasSpot ss (whole_spot e.edge.a.x h.at.now)
            × HasSpot ss (whole_spot e.edge.b.x h.at.now)) es) (sym come.at)
            (ends_there es h.at.now fs spots flats are.flats);
        below = mets_below es h.at.now come.places come.met;
        above = mets_above es h.at.now come.places come.met;
      };
      passed = subst (ArePassed es h.at.now on.upper []) (append-nil come.places) (come.goes_on [] later come.leads);
      kept = kept;
      values = news_valued es on.shape come.places (strands_valued es on.shape ms (placed_above come.places) kept
          (λ i o. come.valued i (omega (arith, o, size))
          ∙ ap (λ (bs : List (List ℕ)). left_value es on.shape (drop i bs)) (sym above)));
      edges = come.edges;
      stands = come.stands;
    }

-- ---- lifted to the next
module _ (h : Height) (upper : Level) (shape : Shape) (levels later : List Level) (s : Sweep)
    (swept : HasSwept h.edges.now shape levels (h.at.now ∷ (upper ∷ later)) s) (are : AreLevels h.edges.now levels)
    (leaves : AreLeavesBalanced h.edges.now) (next : AreNeighbours h.edges.now h.at.now upper)
    (bundles : AreBundles h.edges.now h.at.now upper (bundles_in h.front.now)) (fs : List Flat) (new : Open)
    (over : IsOver (on_level h upper shape levels later s swept) fs new) where
  abbrev Crossed : Type 0
  Crossed = IsCrossing h.edges.now h.at.now upper swept.front (placed_above over.places) over.places
      × IsFront h.edges.now shape h.at.now upper (placed_above over.places)

  crossed : Crossed
  crossed = by_below swept.below
    where
      bundles_are : AreBundles h.edges.now h.at.now upper (bundles_of (placed_above over.places))
      bundles_are = subst (AreBundles h.edges.now h.at.now upper) (sym over.above) bundles

      by_below : IsFrontBelow h.edges.now shape levels (h.at.now ∷ (upper ∷ later)) swept.front → Crossed
      by_below (inl e) =
          subst (λ (ss : List Strand). IsCrossing h.edges.now h.at.now upper ss (placed_above over.places) over.places
          × IsFront h.edges.now shape h.at.now upper (placed_above over.places)) (sym e.0)
          (steps_lift.first h.edges.now shape leaves h.at.now upper
          (All-from_recursion (IsAtMost h.at.now) (heights h.edges.now)
          (first_most h.edges.now shape levels h.at.now (upper ∷ later) are e.1)) next over.places (over.below ∙ e.0)
          bundles_are over.met over.values (λ a. over.passed))
      by_below (inr f) =
          subst (λ (ss : List Strand). IsCrossing h.edges.now h.at.now upper ss (placed_above over.places) over.places
          × IsFront h.edges.now shape h.at.now upper (placed_above over.places)) over.below
          (steps_lift.between h.edges.now shape leaves f.0 h.at.now upper f.1 next over.places
          (subst (IsFront h.edges.now shape f.0 h.at.now) (sym over.below) f.2) bundles_are over.met over.values
          (λ a. over.passed))

  pub lifted : (t : Sweep) → t.front ≡ h.front.now → t.kept ≡ new → t.flats.items ≡ s.flats.items
      → t.passed ≤ length s.flats.items → ArePassedBelow upper t → IsReadyFor h.edges.now upper t.front
      → IsBegunTo h.edges.now upper t.front → HasSwept h.edges.now shape levels (upper ∷ later) t
  lifted t ef ek el o passed ready begun = record {
    done = swept.done ++ (h.at.now ∷ []);
    front = placed_above over.places;
    closed = swept.closed ++ all_closed over.places;
    all = swept.all ∙ sym (append_assoc swept.done (h.at.now ∷ []) (upper ∷ later));
    swept = sweeps_go_on h.edges.now shape levels h.at.now upper later swept.front swept.closed over.places swept.swept
        crossed.0 crossed.1;
    given = subst (IsPermutation (rounded_edges (pieces_of (swept.closed ++ all_closed over.places))))
        (ap (λ (k : Open). k.given.items) (sym ek))
        (subst (λ (xs : List Edge). IsPermutation xs new.given.items)
        (sym (ways_give_edges.more swept.closed (all_closed over.places))) over.edges);
    bundles = over.above ∙ ap bundles_in (sym ef);
    kept = subst (λ (k : Open). AreKept false k.marks.items (placed_above over.places)) (sym ek) over.kept;
    cursors = subst (λ (k : Open). StandOn h.edges.now shape (bundles_in t.front) k.cursors) (sym ek)
        (subst (λ (f : Front). StandOn h.edges.now shape (bundles_in f) new.cursors) (sym ef) over.stands);
    flats = subst (AreFlats h.edges.now) (sym el) swept.flats;
    passed = subst (λ (xs : List Flat). t.passed ≤ length xs) (sym el) o;
    flats_below = passed;
    ready = (ready, begun);
    below = inr (h.at.now, next, crossed.1);
  }

-- ---- as the code climbs
abbrev pub changes_as : (edges : List LeafEdge) (l : Level) (below above : List (List ℕ)) (cs ds : List Change)
    → ds ≡ cs
    → AreChanges edges l below above cs → AreChanges edges l below above ds
changes_as edges l below above cs ds e ch = record {
  groups = ch.groups;
  are_groups = ch.are_groups;
  below_is = ch.below_is;
  above_is = ch.above_is;
  told = subst (λ (xs : List Change). Tell 0 xs ch.groups) (sym e) ch.told;
}

abbrev pub told_as : (edges : List LeafEdge) (l : Level) (ms : List Mark) (below above : List (List ℕ))
    (cs : List Change)
    → AreChanges edges l below above cs → length ms ≡ length below → IsTold ms above cs
told_as edges l ms below above cs ch e = record {
  groups = ch.groups;
  told = ch.told;
  lower = ap length ch.below_is ∙ sym e;
  upper = ch.above_is;
}

-- what is known before a level's places are passed: its changes, its flat edges, the marks above it, and cursors that
-- stood below it, aside of its flat edges, and are shifted
pub record IsClimb (es : List LeafEdge) (l upper : Level) (s : Sweep) (w : CanClimb es l upper s) (front : Front)
    (below : List Mark) (cs : List Change) (fs : List Flat) (kept : Open) : Type 0 where
  pub few : length es < 2 ^ 32
  pub leaves : AreLeavesBalanced es
  pub next : AreNeighbours es l upper
  pub bundles : AreBundles es l upper (bundles_in front)
  pub changes : AreChanges es l (bundles_in s.front) (bundles_in front) cs
  pub below_is : below ≡ s.kept.marks.items
  pub taken : AreTaken 0 cs changes.groups below kept.marks.items
  pub flats : AreFlatsOn es l fs
  pub given : kept.given.items ≡ s.kept.given.items
  pub cursors : Cursors
  pub on_low : StandOn es w.shape (bundles_in s.front) cursors
  pub above : AreAbove changes.groups cursors kept.cursors
  pub aside : (k : ℕ) (d : Cursor) → k < length cursors.all.items → (get_or cursors.all.items k d).at < length below
      → All (LiesAside l (spot_at es l (mark_at below (get_or cursors.all.items k d).at))) fs

module _ (h : Height) (upper : Level) (s : Sweep) (w : CanClimb h.edges.now h.at.now upper s) (cs : List Change)
    (fs : List Flat) (kept : Open)
    (c : IsClimb h.edges.now h.at.now upper s w h.front.now h.below.now cs fs kept) where
  on_front : StandOn h.edges.now w.shape (bundles_in h.front.now) kept.cursors
  on_front = record {
    some = let count = c.above.count in let some = c.on_low.some in omega (arith, count, some);
    each = λ k d o.
        let olds = c.cursors.all.items in
        let there : k < length olds = let count = c.above.count in omega (arith, o, count) in
        let moved = c.above.each k d d there in
        shifted h upper w.shape w.levels w.later s cs w.swept w.are_levels c.leaves c.next c.bundles c.changes
        c.below_is kept.marks.items c.taken fs c.flats (get_or olds k d) (get_or kept.cursors.all.items k d)
        (c.on_low.each k d there) moved.tally moved.place (c.aside k d there);
  }

  pub climbs : IsAtLevel h kept.marks.items cs fs kept.cursors
  climbs = at_level h upper w.shape w.levels w.later s cs w.swept w.are_levels c.leaves c.next c.bundles c.changes
      c.below_is kept.marks.items c.taken fs c.flats c.few kept.cursors on_front

  pub climbed : (new : Open) → ((a : IsAtLevel h kept.marks.items cs fs kept.cursors) (on : Onwards) → IsOf h on
      → IsValuedAt on a.groups → HasComeTo on [] 0 0 kept → (spots : List Spot) × AreSpotsOf h fs spots
      × HasComeTo on spots (length h.below.now) (length kept.marks.items) new) → (t : Sweep) → t.front ≡ h.front.now
      → t.kept ≡ new → t.flats.items ≡ s.flats.items → t.passed ≤ length s.flats.items → ArePassedBelow upper t
      → IsReadyFor h.edges.now upper t.front → IsBegunTo h.edges.now upper t.front
      → HasSwept h.edges.now w.shape w.levels (upper ∷ w.later) t
  unfolding climbs at_level
  climbed new pass t ef ek el o passed ready begun =
      let on : Onwards = on_level h upper w.shape w.levels w.later s w.swept in
      let start : HasComeTo on [] 0 0 kept = starts h upper w.shape w.levels w.later s cs w.swept w.are_levels c.leaves
      c.next c.bundles c.changes c.below_is kept.marks.items c.taken fs c.flats kept refl c.given on_front in
      let valued : IsValuedAt on c.changes.groups = valued_level h upper w.shape w.levels w.later s cs w.swept
      w.are_levels c.leaves c.next c.bundles c.changes c.below_is kept.marks.items c.taken fs c.flats in
      let below : AreKept false h.below.now w.swept.front = kept_below h upper w.shape w.levels w.later s cs w.swept
      w.are_levels c.leaves c.next c.bundles c.changes c.below_is kept.marks.items c.taken fs c.flats in
      let r = pass climbs on (refl, below) valued start in
      let size : length kept.marks.items ≡ length (bundles_in h.front.now) = named_size kept.marks.items
      (bundles_in h.front.now) start.named in
      lifted h upper w.shape w.levels w.later s w.swept w.are_levels c.leaves c.next c.bundles fs new
      (over_by on fs new (length h.below.now) (length kept.marks.items) below refl size c.flats r.0 r.1 r.2) t ef ek el
      o passed ready begun
