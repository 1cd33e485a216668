-- A stretch of flat edges of a level: the groups before it, and what is passed with it.
use Rattle.std.proofs.Common.{◌≡◌, ◌⊎◌, inl, inr, ℕ, zero, suc, ◌+◌, ◌-◌, ◌<◌, ◌≤◌, Bool, true, false, cond, List, [], ◌∷◌, ◌++◌, length, take, drop, Option, None, Some, refl, sym, ap, ◌∙◌, subst, arith, append_assoc}
use lib.IntN.{ℤ, pos, ◌+ℤ◌, ◌*ℤ◌}
use lib.Signed.{◌<ℤ◌, ◌≤ℤ◌}
use Rattle.std.specs.Prelude.{int_lt}
use Rattle.std.specs.Int.{int_max}
use Rattle.std.specs.List.{AllByRecursion, AllZip}
use Rattle.std.proofs.lemmas.Int.{ints}
use Rattle.std.proofs.lemmas.List.{drop-drop, drop-take, take-append-drop, take-take}
use Rattle.scad_geom.specs.declared.level.Level.{Level}
use Rattle.scad_geom.specs.declared.level.LeafEdge.{LeafEdge}
use Rattle.scad_geom.proofs.Order.{front}
use Rattle.scad_geom.proofs.Ring.{ring, num, ◌⊗◌, ◌⊕◌, v0, v1}
use Rattle.slice_pieces.specs.declared.piece.Spot.{Spot}
use Rattle.slice_border.specs.Pieces.{whole_spot, passes_at, spots_at, IsLeft, IsOneOf}
use Rattle.slice_bundles.specs.Bundles.{edge_at}
use Rattle.sweep_laws.proofs.Spots.{spot_at as edge_spot}
use Rattle.slice_outlines.proofs.EndPoints.{passes_then_rises}
use Rattle.std.proofs.lemmas.List.Elements.{recursion_from_All}
use Rattle.scad_geom.specs.declared.point.Edge.{Edge}
use Rattle.slice_border.proofs.Winding.{IsSpotAt, of_stops, spots_are_at}
use Rattle.slice_sweep.specs.declared.change.Change.{Change}
use Rattle.slice_sweep.specs.Changes.{Group, all_below, all_above}
use Rattle.slice_sweep.specs.Front.{bundles_in}
use Rattle.sweep_laws.specs.Ways.{Way}
use Rattle.slice_outlines.specs.declared.course.Course.{Course}
use Rattle.slice_outlines.specs.declared.cursors.Cursors.{Cursors}
use Rattle.slice_outlines.specs.declared.mark.Mark.{Mark}
use Rattle.slice_outlines.specs.declared.flat.Flat.{Flat}
use Rattle.slice_outlines.specs.declared.run.Run.{Run}
use Rattle.slice_border.specs.declared.stop.Stop.{Stop}
use Rattle.slice_outlines.specs.declared.height.Height.{Height}
use Rattle.slice_outlines.specs.declared.height.Open.{Open}
use Rattle.slice_outlines.specs.declared.groups.Passed.{Passed}
use Rattle.slice_outlines.specs.Marks.{spot_at, names_in}
use Rattle.slice_outlines.specs.Cursors.{StandOn, StayOn}
use Rattle.slice_outlines.specs.Flats.{IsFlatOf, LiesOn, AreJoined, JoinOn, StartsBehind}
use Rattle.slice_outlines.specs.Passing.{IsCourseOf, or_none}
use Rattle.slice_border.specs.Stops.{spots_in, AreStopsOf}
use Rattle.slice_outlines.specs.Stops.{AllPass}
use Rattle.slice_outlines.specs.Heights.{Onwards, IsOf, IsNotRightOf, IsRunOf, IsBalancedBefore, IsCountOf}
use Rattle.slice_outlines.specs.Along.{HasComeOver, LieBetween}
use Rattle.slice_outlines.specs.Stretch.{AreStopsAt, TellWays, stretch_spots, HasReachedStops}
use Rattle.slice_outlines.specs.Ahead.{between, HasComeTo, AreSkipped, KeepsRight}
use Rattle.slice_outlines.specs.Level.{GoByLeft, AreFlatsOn, IsAtLevel, IsValuedAt}
use Rattle.slice_outlines.proofs.Placing.{AreNamed, all_append}
use Rattle.slice_outlines.proofs.GroupPassing.{part_reached, group_past}
use Rattle.slice_outlines.proofs.Onward.{take_then}
use Rattle.slice_outlines.proofs.StrandSearch.{scaled_order}
use Rattle.slice_outlines.proofs.StretchStops.{same_stretch}
use Rattle.slice_outlines.proofs.WayCovers.{all_take, all_drop}
use Rattle.slice_outlines.proofs.Across.{left_chain, left_or_not, left_not, not_left, weakly, by_then_left, left_then_by, closed_left, closed_right, closed_by, closed_from}
use Rattle.slice_outlines.proofs.Apart.{IsPlaced, at_group}
use Rattle.slice_outlines.proofs.Cuts.{AreCut, split_behind, IsCutAt, whole_at}
use Rattle.slice_outlines.proofs.StretchWays.{IsWithin, AreFlatsWithin, all_inside, all_sound, ends_among, tell_ways}
use Rattle.slice_outlines.proofs.Levelling.{go_join, up_to_cut, all_by, all_left_of, HasEnds, ends_front, ends_back, IsReached, IsSoFar, IsToLimit, beside_as, flats_parted, named_as, placed_left, placed_right, apart_right, named_now, between_at, rest_is, below_is, above_is, taken_on, whole_is, met_xs, met_ys}

-- ---- flat edges of a stretch
go_drop : (n : ℕ) (fs : List Flat) → GoByLeft fs → GoByLeft (drop n fs)
go_drop zero fs g = g
go_drop (suc n) [] g = tt
go_drop (suc n) (f ∷ fs) g = go_drop n fs g.1

go_take : (n : ℕ) (fs : List Flat) → GoByLeft fs → GoByLeft (take n fs)
go_take zero fs g = tt
go_take (suc n) [] g = tt
go_take (suc n) (f ∷ fs) g = (all_take (λ k. f.left ≤ℤ k.left) n fs g.0, go_take n fs g.1)

max_by : (a b r : ℤ) → int_max a b ≤ℤ r → (a ≤ℤ r) × (b ≤ℤ r)
max_by a b r h = by_test (int_lt b a) refl h
  where
    not_less : int_lt b a ≡ false → a ≤ℤ b
    not_less e = grind (arith, ints)

    by_less : int_lt b a ≡ true → b <ℤ a
    by_less e = grind (arith, ints)

    by_test : (t : Bool) → int_lt b a ≡ t → cond t a b ≤ℤ r → (a ≤ℤ r) × (b ≤ℤ r)
    by_test true e k = let o = by_less e in (k, omega (arith, ints, o, k))
    by_test false e k = let o = not_less e in (omega (arith, ints, o, k), k)

join_most : (most right : ℤ) (fs : List Flat) → JoinOn most fs right
    → (most ≤ℤ right) × AllByRecursion (λ f. f.right ≤ℤ right) fs
join_most most right [] j = (omega (arith, ints, j), tt)
join_most most right (f ∷ fs) j =
    let r = join_most (int_max most f.right) right fs j.1 in
    let m = max_by most f.right right r.0 in
    (m.0, (m.1, r.1))

pub joined_by : (right : ℤ) (fs : List Flat) → AreJoined fs right → AllByRecursion (λ f. f.right ≤ℤ right) fs
joined_by right [] j = tt
joined_by right (f ∷ fs) j = let r = join_most f.right right fs j in (r.0, r.1)

pub whole_by : (l : Level) (a b : ℤ) → pos 0 <ℤ l.d → a ≤ℤ b → IsNotRightOf (whole_spot a l) (whole_spot b l)
whole_by l a b d o =
    let less : (a *ℤ l.d) ≤ℤ (b *ℤ l.d) = scaled_order a b l.d o d in
    omega (arith, ints, less)

pub whole_left : (l : Level) (a b : ℤ) → pos 0 <ℤ l.d → a <ℤ b → IsLeft (whole_spot a l) (whole_spot b l)
whole_left l a b d o =
    let next : (a +ℤ pos 1) ≤ℤ b = omega (arith, ints, o) in
    let less : ((a +ℤ pos 1) *ℤ l.d) ≤ℤ (b *ℤ l.d) = scaled_order (a +ℤ pos 1) b l.d next d in
    let more : (a +ℤ pos 1) *ℤ l.d ≡ a *ℤ l.d +ℤ l.d =
    ring (a ∷ l.d ∷ []) ((v0 ⊕ num (pos 1)) ⊗ v1) (v0 ⊗ v1 ⊕ v1) refl in
    omega (arith, ints, less, more, d)

are_within : (es : List LeafEdge) (l : Level) (left right : ℤ) (fs : List Flat) → pos 0 <ℤ l.d
    → AllByRecursion (IsFlatOf es) fs → AllByRecursion (λ f. left ≤ℤ f.left) fs
    → AllByRecursion (λ f. f.right ≤ℤ right) fs → AreFlatsWithin l left right fs
are_within es l left right [] d i a b = tt
are_within es l left right (f ∷ fs) d i a b =
    let order = i.0.order in
    let from = a.0 in
    let to = b.0 in (
      (
        record {
          at = whole_at l f.left;
          from = whole_by l left f.left d a.0;
          to = whole_by l f.left right d (omega (arith, ints, order, to));
        },
        record {
          at = whole_at l f.right;
          from = whole_by l left f.right d (omega (arith, ints, order, from));
          to = whole_by l f.right right d b.0;
        },
      ),
      are_within es l left right fs d i.1 a.1 b.1,
    )

starts_behind : (l : Level) (right : ℤ) (fs : List Flat) → pos 0 <ℤ l.d → GoByLeft fs → StartsBehind right fs
    → AllByRecursion (λ f. IsLeft (whole_spot right l) (whole_spot f.left l)) fs
starts_behind l right [] d g s = tt
starts_behind l right (f ∷ fs) d g s = (whole_left l right f.left d s, each fs g.0)
  where
    each : (gs : List Flat) → AllByRecursion (λ k. f.left ≤ℤ k.left) gs
        → AllByRecursion (λ k. IsLeft (whole_spot right l) (whole_spot k.left l)) gs
    each [] a = tt
    each (k ∷ gs) a =
        let o = a.0 in
        let lt : right <ℤ k.left = omega (arith, ints, o, s) in
        (whole_left l right k.left d lt, each gs a.1)

-- a stretch that begins with a flat edge, its right end, and the strands between its ends
pub record IsStretch (h : Height) (fs : List Flat) (from to : ℕ) (first : Flat) (right : ℤ) (run : Run) (ms : List Mark)
    : Type 0 where
  pub first_is : drop from fs ≡ first ∷ drop (from + 1) fs
  pub later : from < to
  pub within : to ≤ length fs
  pub joined : AreJoined (take (to - from) (drop from fs)) right
  pub next : StartsBehind right (drop to fs)
  pub run_of : IsRunOf h.below.now ms run
  pub below : LieBetween h first.left right h.below.now run.below run.below_to
  pub above : LieBetween h first.left right ms run.above run.above_to

-- ---- marks on both sides of an end
marks_take : (P : Mark → Type 0) (n : ℕ) (ms : List Mark) → AllByRecursion P ms → AllByRecursion P (take n ms)
marks_take P zero ms a = tt
marks_take P (suc n) [] a = tt
marks_take P (suc n) (m ∷ ms) a = (a.0, marks_take P n ms a.1)

marks_drop : (P : Mark → Type 0) (n : ℕ) (ms : List Mark) → AllByRecursion P ms → AllByRecursion P (drop n ms)
marks_drop P zero ms a = a
marks_drop P (suc n) [] a = tt
marks_drop P (suc n) (m ∷ ms) a = marks_drop P n ms a.1

module _ (h : Height) (left right : ℤ) (o : IsNotRightOf (whole_spot left h.at.now) (whole_spot right h.at.now))
    (ms : List Mark) (from to : ℕ) (u : from ≤ to) (v : to ≤ length ms) (b : LieBetween h left right ms from to)
    (at : AllByRecursion (λ m. IsSpotAt h.at.now (spot_at h.edges.now h.at.now m)) ms) where
  abbrev L : Spot
  L = whole_spot left h.at.now

  abbrev R : Spot
  R = whole_spot right h.at.now

  abbrev Meet : (Spot → Type 0) → Mark → Type 0
  Meet P m = P (spot_at h.edges.now h.at.now m)

  parts : drop from (take to ms) ++ drop to ms ≡ drop from ms
  parts =
      let e : from + (to - from) ≡ to = omega (arith, u) in
      let part : drop from (take to ms) ≡ take (to - from) (drop from ms) =
      ap (λ (n : ℕ). drop from (take n ms)) (sym e) ∙ drop-take from (to - from) ms in
      ap (λ (xs : List Mark). xs ++ drop to ms) part
      ∙ ap (λ (xs : List Mark). take (to - from) (drop from ms) ++ xs)
      (sym (drop-drop (to - from) from ms ∙ ap (λ (n : ℕ). drop n ms) e))
      ∙ take-append-drop (to - from) (drop from ms)

  fronts : take from ms ++ drop from (take to ms) ≡ take to ms
  fronts =
      ap (λ (xs : List Mark). xs ++ drop from (take to ms)) (sym (take-take from to ms u))
      ∙ take-append-drop from (take to ms)

  not_before : (xs : List Mark) → AllByRecursion (λ m. (IsLeft (spot_at h.edges.now h.at.now m) L → ⊥)
      × (IsLeft R (spot_at h.edges.now h.at.now m) → ⊥)) xs → AllByRecursion (Meet (IsNotRightOf L)) xs
  not_before [] a = tt
  not_before (m ∷ xs) a = (not_left (spot_at h.edges.now h.at.now m) L a.0.0, not_before xs a.1)

  not_behind : (xs : List Mark) → AllByRecursion (λ m. (IsLeft (spot_at h.edges.now h.at.now m) L → ⊥)
      × (IsLeft R (spot_at h.edges.now h.at.now m) → ⊥)) xs → AllByRecursion (Meet (λ s. IsNotRightOf s R)) xs
  not_behind [] a = tt
  not_behind (m ∷ xs) a = (not_left R (spot_at h.edges.now h.at.now m) a.0.1, not_behind xs a.1)

  past_right : (xs : List Mark) → AllByRecursion (Meet (IsSpotAt h.at.now)) xs → AllByRecursion (Meet (IsLeft R)) xs
      → AllByRecursion (Meet (IsNotRightOf L)) xs
  past_right [] t a = tt
  past_right (m ∷ xs) t a = (
    weakly L (spot_at h.edges.now h.at.now m) (by_then_left h.at.now L R (spot_at h.edges.now h.at.now m)
        (whole_at h.at.now left) (whole_at h.at.now right) t.0 o a.0),
    past_right xs t.1 a.1,
  )

  past_left : (xs : List Mark) → AllByRecursion (Meet (IsSpotAt h.at.now)) xs
      → AllByRecursion (Meet (λ s. IsLeft s L)) xs
      → AllByRecursion (Meet (λ s. IsNotRightOf s R)) xs
  past_left [] t a = tt
  past_left (m ∷ xs) t a = (
    weakly (spot_at h.edges.now h.at.now m) R (left_then_by h.at.now (spot_at h.edges.now h.at.now m) L R t.0
        (whole_at h.at.now left) (whole_at h.at.now right) a.0 o),
    past_left xs t.1 a.1,
  )

  pub cut_left : AreCut h (λ s. IsLeft s L) (IsNotRightOf L) ms from
  cut_left = record {
    size = omega (arith, u, v);
    are = b.before;
    others = subst (AllByRecursion (Meet (IsNotRightOf L))) parts
        (all_append (Meet (IsNotRightOf L)) (drop from (take to ms)) (drop to ms)
        (not_before (drop from (take to ms)) b.inside)
        (past_right (drop to ms) (marks_drop (Meet (IsSpotAt h.at.now)) to ms at) b.behind));
  }

  pub cut_right : AreCut h (λ s. IsNotRightOf s R) (IsLeft R) ms to
  cut_right = record {
    size = v;
    are = subst (AllByRecursion (Meet (λ s. IsNotRightOf s R))) fronts
        (all_append (Meet (λ s. IsNotRightOf s R)) (take from ms) (drop from (take to ms))
        (past_left (take from ms) (marks_take (Meet (IsSpotAt h.at.now)) from ms at) b.before)
        (not_behind (drop from (take to ms)) b.inside));
    others = b.behind;
  }

-- ---- all that is passed
no_course : (ws : List Way) (c : Option Course) → ws ≡ [] → AllZip IsCourseOf ws (or_none c) → c ≡ None
no_course ws None e z = refl
no_course ws (Some c) e z = absurd (subst (λ (vs : List Way). AllZip IsCourseOf vs (c ∷ [])) e z)

pub without_course : (on : Onwards) (passed : List Spot) (run : Run) (n m : ℕ) (c : Option Course) (ms : List Mark)
    (given : List Edge) (cursors : Cursors) → HasComeOver on passed [] run n m c ms given cursors
    → HasComeOver on passed [] run n m None ms given cursors
without_course on passed run n m c ms given cursors come =
    subst (λ (d : Option Course). HasComeOver on passed [] run n m d ms given cursors)
    (no_course come.flat c come.leads come.along) come

all_at_marks : (es : List LeafEdge) (l : Level) (ms : List Mark)
    → AllByRecursion (λ m. passes_at (edge_at es m.name) l ≡ true) ms
    → AllByRecursion (λ m. IsSpotAt l (spot_at es l m)) ms
all_at_marks es l [] p = tt
all_at_marks es l (m ∷ ms) p =
    (edge_spot (edge_at es m.name) l (passes_then_rises (edge_at es m.name) l p.0), all_at_marks es l ms p.1)

marks_at : (h : Height) (ms : List Mark) → AllPass h.edges.now h.at.now ms
    → AllByRecursion (λ m. IsSpotAt h.at.now (spot_at h.edges.now h.at.now m)) ms
marks_at h ms p = all_at_marks h.edges.now h.at.now ms
    (recursion_from_All (λ m. passes_at (edge_at h.edges.now m.name) h.at.now ≡ true) ms p)

module _ (h : Height) (cs : List Change) (fs : List Flat) (old : Open)
    (w : IsAtLevel h old.marks.items cs fs old.cursors) (from to : ℕ) (first : Flat) (right : ℤ) (run : Run)
    (ms : List Mark) (st : IsStretch h fs from to first right run ms) (pm : AllPass h.edges.now h.at.now ms) where
  abbrev es : List LeafEdge
  es = h.edges.now

  abbrev l : Level
  l = h.at.now

  abbrev A : Spot
  A = whole_spot first.left l

  abbrev B : Spot
  B = whole_spot right l

  abbrev fl : List Flat
  fl = take (to - from) (drop from fs)

  divides : pos 0 <ℤ l.d
  divides = h.at_within.positive

  flats_of : AllByRecursion (IsFlatOf es) fl
  flats_of = all_take (IsFlatOf es) (to - from) (drop from fs) (all_drop (IsFlatOf es) from fs w.flats.each)

  flats_on : AllByRecursion (LiesOn l) fl
  flats_on = all_take (LiesOn l) (to - from) (drop from fs) (all_drop (LiesOn l) from fs w.flats.on)

  -- the first is the leftmost of all that are left
  lefts : AllByRecursion (λ f. first.left ≤ℤ f.left) (drop from fs)
  lefts =
      let go : GoByLeft (first ∷ drop (from + 1) fs) = subst GoByLeft st.first_is
      (go_drop from fs w.flats.rightwards) in
      subst (AllByRecursion (λ f. first.left ≤ℤ f.left)) (sym st.first_is) (omega (arith, ints), go.0)

  flats_within : AreFlatsWithin l first.left right fl
  flats_within = are_within es l first.left right fl divides flats_of
      (all_take (λ f. first.left ≤ℤ f.left) (to - from) (drop from fs) lefts) (joined_by right fl st.joined)

  -- the first is one of them
  first_in : AllByRecursion (λ f. IsNotRightOf (whole_spot f.left l) B) fl → IsNotRightOf A B
  first_in a = by_size (to - from) refl
    where
      by_size : (k : ℕ) → to - from ≡ k → IsNotRightOf A B
      by_size zero e = let o = st.later in absurd (omega (arith, e, o))
      by_size (suc k) e =
          let all = subst (AllByRecursion (λ f. IsNotRightOf (whole_spot f.left l) B))
          (ap (λ (n : ℕ). take n (drop from fs)) e ∙ ap (take (suc k)) st.first_is) a in
          all.0

  lefts_by : (gs : List Flat) → AreFlatsWithin l first.left right gs
      → AllByRecursion (λ f. IsNotRightOf (whole_spot f.left l) B) gs
  lefts_by [] a = tt
  lefts_by (f ∷ gs) a = (a.0.0.to, lefts_by gs a.1)

  rights_by : (gs : List Flat) → AreFlatsWithin l first.left right gs
      → AllByRecursion (λ f. IsNotRightOf (whole_spot f.right l) B) gs
  rights_by [] a = tt
  rights_by (f ∷ gs) a = (a.0.1.to, rights_by gs a.1)

  pub ends_order : IsNotRightOf A B
  ends_order = first_in (lefts_by fl flats_within)

  -- a cut up to which the code has come lies to its left
  module _ (left others : List Group) (cut : Spot) (c : IsCutAt h (take from fs) (drop from fs) left others cut) where
    cut_before : IsLeft cut A
    cut_before = (subst (AllByRecursion (λ f. IsLeft cut (whole_spot f.left l))) st.first_is c.flats_behind).0

    flats_before : (gs : List Flat) → AllByRecursion (λ f. IsNotRightOf (whole_spot f.right l) cut) gs
        → AllByRecursion (λ f. IsLeft (whole_spot f.right l) A) gs
    flats_before [] a = tt
    flats_before (f ∷ gs) a = (
      by_then_left l (whole_spot f.right l) cut A (whole_at l f.right) c.at (whole_at l first.left) a.0 cut_before,
      flats_before gs a.1,
    )

    groups_before : (gs : List Group) → AllByRecursion (IsPlaced h) gs
        → AllByRecursion (λ g. IsNotRightOf (at_group h g) cut) gs → AllByRecursion (λ g. IsLeft (at_group h g) A) gs
    groups_before [] p a = tt
    groups_before (g ∷ gs) p a = (
      by_then_left l (at_group h g) cut A p.0.at c.at (whole_at l first.left) a.0 cut_before,
      groups_before gs p.1 a.1,
    )

    groups_by : (gs : List Group) → AllByRecursion (IsPlaced h) gs
        → AllByRecursion (λ g. IsNotRightOf (at_group h g) cut) gs
        → AllByRecursion (λ g. IsNotRightOf (at_group h g) B) gs
    groups_by [] p a = tt
    groups_by (g ∷ gs) p a = (
      weakly (at_group h g) B (by_then_left l (at_group h g) cut B p.0.at c.at (whole_at l right) a.0
          (left_then_by l cut A B c.at (whole_at l first.left) (whole_at l right) cut_before ends_order)),
      groups_by gs p.1 a.1,
    )

  -- ---- the groups before it
  module _ (p : Passed) (now : Open) (f : IsSoFar h cs fs old w from p now) (same : ms ≡ now.marks.items) where
    all_ahead : (gs : List Group) → AllByRecursion (IsPlaced h) gs → AllByRecursion (λ g. IsLeft (at_group h g) A) gs
        → AllByRecursion (λ g. AllByRecursion (λ k. IsLeft (at_group h g) (whole_spot k.left l)) (drop from fs)) gs
    all_ahead [] q a = tt
    all_ahead (g ∷ gs) q a = (each (drop from fs) lefts, all_ahead gs q.1 a.1)
      where
        each : (ks : List Flat) → AllByRecursion (λ k. first.left ≤ℤ k.left) ks
            → AllByRecursion (λ k. IsLeft (at_group h g) (whole_spot k.left l)) ks
        each [] b = tt
        each (k ∷ ks) b = (
          left_then_by l (at_group h g) A (whole_spot k.left l) q.0.at (whole_at l first.left) (whole_at l k.left) a.0
              (whole_by l first.left k.left divides b.0),
          each ks b.1,
        )

    pub to_stretch : (t : IsToLimit f.left f.right run)
        × AllByRecursion (λ g. AllByRecursion (λ k. IsLeft (at_group h g) (whole_spot k.left l)) (drop from fs)) t.xs
    to_stretch =
        let Q : Spot → Type 0 = λ s. IsLeft s A in
        let r = split_behind h Q (IsNotRightOf A) (closed_left l A (whole_at l first.left))
        (closed_from l A (whole_at l first.left)) (λ s q n. left_not s A n q) (λ s. left_or_not s A)
        (λ s t hs ht o n. weakly A t (by_then_left l A s t (whole_at l first.left) hs ht n o)) f.left f.right
        (placed_left h cs fs old w from p now f) (placed_right h cs fs old w from p now f)
        (apart_right h cs fs old w from p now f)
        (groups_before f.left f.right f.cut f.is_cut f.left (placed_left h cs fs old w from p now f) f.is_cut.before)
        h.below.now ms (subst (λ (gs : List Group). AreNamed h.below.now (all_below gs)) f.groups w.named_below)
        (subst (λ (gs : List Group). AreNamed ms (all_above gs)) f.groups (subst (λ (us : List Mark). AreNamed us
        (all_above w.groups)) (sym same) (named_now h cs fs old w from p now f))) run.below run.above
        (cut_left h first.left right ends_order h.below.now run.below run.below_to st.run_of.below st.run_of.below_to
        st.below (marks_at h h.below.now w.pass_below))
        (cut_left h first.left right ends_order ms run.above run.above_to st.run_of.above st.run_of.above_to st.above
        (marks_at h ms pm)) in
        let s = r.2 in
        let t : IsToLimit f.left f.right run = record {
          xs = s.xs;
          ys = s.ys;
          groups = s.groups;
          below = ap (λ (k : ℕ). length (all_below f.left) + k) s.below ∙ r.3;
          above = ap (λ (k : ℕ). length (all_above f.left) + k) s.above ∙ r.4;
        } in (
          t,
          all_ahead s.xs (front (IsPlaced h) s.xs s.ys
              (subst (AllByRecursion (IsPlaced h)) s.groups (placed_right h cs fs old w from p now f))) s.are,
        )

  -- ---- with it
  module _ (p : Passed) (mid : Open) (f : IsSoFar h cs fs old w from p mid)
      (same : names_in mid.marks.items ≡ names_in ms) (hb : length (all_below f.left) ≡ run.below)
      (ha : length (all_above f.left) ≡ run.above) where
    abbrev end : Run
    end = between run.below_to run.above_to

    pub to_end : (t : IsToLimit f.left f.right end) × AllByRecursion (λ g. IsNotRightOf (at_group h g) B) t.xs
        × AllByRecursion (λ g. IsLeft B (at_group h g)) t.ys
    to_end =
        let Q : Spot → Type 0 = λ s. IsNotRightOf s B in
        let named : AreNamed ms (all_above w.groups) = named_as mid.marks.items ms (all_above w.groups) (sym same)
        (named_now h cs fs old w from p mid f) in
        let r = split_behind h Q (IsLeft B) (closed_by l B (whole_at l right)) (closed_right l B (whole_at l right))
        (λ s q n. left_not B s q n) (λ s. turned (left_or_not B s))
        (λ s t hs ht o n. left_chain l B s t (whole_at l right) hs ht n o) f.left f.right
        (placed_left h cs fs old w from p mid f) (placed_right h cs fs old w from p mid f)
        (apart_right h cs fs old w from p mid f)
        (groups_by f.left f.right f.cut f.is_cut f.left (placed_left h cs fs old w from p mid f) f.is_cut.before)
        h.below.now ms (subst (λ (gs : List Group). AreNamed h.below.now (all_below gs)) f.groups w.named_below)
        (subst (λ (gs : List Group). AreNamed ms (all_above gs)) f.groups named) run.below_to run.above_to
        (cut_right h first.left right ends_order h.below.now run.below run.below_to st.run_of.below st.run_of.below_to
        st.below (marks_at h h.below.now w.pass_below))
        (cut_right h first.left right ends_order ms run.above run.above_to st.run_of.above st.run_of.above_to st.above
        (marks_at h ms pm)) in
        let s = r.2 in
        let t : IsToLimit f.left f.right end = record {
          xs = s.xs;
          ys = s.ys;
          groups = s.groups;
          below = ap (λ (k : ℕ). length (all_below f.left) + k) s.below ∙ r.3;
          above = ap (λ (k : ℕ). length (all_above f.left) + k) s.above ∙ r.4;
        } in
        (t, s.are, s.others)
      where
        turned : {X Y : Type 0} → X ⊎ Y → Y ⊎ X
        turned (inl a) = inr a
        turned (inr b) = inl b

    stretch_same : stretch_spots h mid.marks.items run fl ≡ stretch_spots h ms run fl
    stretch_same = same_stretch h mid.marks.items ms run fl same

    inside : AllByRecursion (IsWithin l first.left right) (stretch_spots h mid.marks.items run fl)
    inside = subst (AllByRecursion (IsWithin l first.left right)) (sym stretch_same)
        (all_inside h first.left right ms run fl st.run_of st.below st.above w.pass_below pm flats_within)

    parted : fl ++ drop to fs ≡ drop from fs
    parted =
        let o = st.later in
        let e : from + (to - from) ≡ to = omega (arith, o) in
        ap (λ (gs : List Flat). fl ++ gs) (sym (drop-drop (to - from) from fs ∙ ap (λ (n : ℕ). drop n fs) e))
        ∙ take-append-drop (to - from) (drop from fs)

    flats_behind : AllByRecursion (λ k. IsLeft B (whole_spot k.left l)) (drop to fs)
    flats_behind = starts_behind l right (drop to fs) divides (go_drop to fs w.flats.rightwards) st.next

    pub tells : (stops : List Stop) → AreStopsAt h stops
        → AreStopsOf (stretch_spots h mid.marks.items run fl) (spots_in stops) → TellWays es fl stops
    tells stops a b =
        let all : AreFlatsOn es l (take from fs ++ (fl ++ drop to fs)) =
        subst (λ (gs : List Flat). AreFlatsOn es l (take from fs ++ gs)) (sym parted)
        (flats_parted h cs fs old w from) in
        tell_ways h first.left right (take from fs) fl (drop to fs) all
        (flats_before f.left f.right f.cut f.is_cut (take from fs) f.is_cut.flats_before) flats_behind flats_of flats_on
        (go_take (to - from) (drop from fs) (go_drop from fs w.flats.rightwards)) mid.marks.items run stops inside a b

    abbrev t : IsToLimit f.left f.right end
    t = to_end.0

    taken_flats : take from fs ++ fl ≡ take to fs
    taken_flats = let o = st.later in take_then fs from to (omega (arith, o))

    flats_left : (gs : List Flat) → AllByRecursion (λ k. IsLeft (whole_spot k.right l) A) gs
        → AllByRecursion (λ k. IsNotRightOf (whole_spot k.right l) B) gs
    flats_left [] a = tt
    flats_left (k ∷ gs) a = (
      weakly (whole_spot k.right l) B (left_then_by l (whole_spot k.right l) A B (whole_at l k.right)
          (whole_at l first.left) (whole_at l right) a.0 ends_order),
      flats_left gs a.1,
    )

    new_cut : IsCutAt h (take to fs) (drop to fs) (f.left ++ t.xs) t.ys B
    new_cut = record {
      at = whole_at l right;
      before = all_append (λ g. IsNotRightOf (at_group h g) B) f.left t.xs
          (groups_by f.left f.right f.cut f.is_cut f.left (placed_left h cs fs old w from p mid f) f.is_cut.before)
          to_end.1;
      behind = to_end.2;
      flats_before = subst (AllByRecursion (λ k. IsNotRightOf (whole_spot k.right l) B)) taken_flats
          (all_append (λ k. IsNotRightOf (whole_spot k.right l) B) (take from fs) fl
          (flats_left (take from fs)
          (flats_before f.left f.right f.cut f.is_cut (take from fs) f.is_cut.flats_before))
          (rights_by fl flats_within));
      flats_behind = flats_behind;
    }

    ats : (ss : List Spot) → AllByRecursion (IsWithin l first.left right) ss → AllByRecursion (IsSpotAt l) ss
    ats [] a = tt
    ats (s ∷ ss) a = (a.0.at, ats ss a.1)

    froms : (ss : List Spot) → AllByRecursion (IsWithin l first.left right) ss
        → AllByRecursion (λ s. IsNotRightOf A s) ss
    froms [] a = tt
    froms (s ∷ ss) a = (a.0.from, froms ss a.1)

    tos : (ss : List Spot) → AllByRecursion (IsWithin l first.left right) ss → AllByRecursion (λ s. IsNotRightOf s B) ss
    tos [] a = tt
    tos (s ∷ ss) a = (a.0.to, tos ss a.1)

    -- the stops of the stretch behind the spots that are passed
    more_spots : (on : Onwards) (new : Open) (n m : ℕ) (r : IsReached on h n m f.cut (take from fs) mid)
        (ss : List Spot)
        → AreStopsOf (stretch_spots h mid.marks.items run fl) ss
        → HasComeTo on (r.spots ++ ss) run.below_to run.above_to new
        → IsReached on h run.below_to run.above_to B (take to fs) new
    more_spots on new n m r ss stops come =
        let at : AllByRecursion (IsSpotAt l) r.spots = of_stops (IsSpotAt l) (spots_at es l) r.spots (spots_are_at es l)
        r.are.sound in
        let between' : AllByRecursion (IsWithin l first.left right) ss =
        of_stops (IsWithin l first.left right) (stretch_spots h mid.marks.items run fl) ss inside stops.sound in
        let before : IsLeft f.cut A = cut_before f.left f.right f.cut f.is_cut in
        record {
          spots = r.spots ++ ss;
          are = record {
            rightwards = go_join r.spots ss r.are.rightwards stops.rightwards
                (up_to_cut l A (whole_at l first.left) r.spots ss at (ats ss between')
                (all_left_of l f.cut f.is_cut.at r.spots A (whole_at l first.left) before at r.by) (froms ss between'));
            sound = all_append (IsOneOf (spots_at es l)) r.spots ss r.are.sound
                (of_stops (IsOneOf (spots_at es l)) (stretch_spots h mid.marks.items run fl) ss
                (subst (AllByRecursion (IsOneOf (spots_at es l))) (sym stretch_same)
                (all_sound h ms run fl w.pass_below pm flats_of flats_on)) stops.sound);
            flats = subst (AllByRecursion (HasEnds l (r.spots ++ ss))) taken_flats
                (all_append (HasEnds l (r.spots ++ ss)) (take from fs) fl
                (ends_front l r.spots ss (take from fs) r.are.flats)
                (ends_back l r.spots ss fl (ends_among h mid.marks.items run fl ss stops)));
          };
          by = all_append (λ s. IsNotRightOf s B) r.spots ss
              (all_by l f.cut f.is_cut.at r.spots B (whole_at l right)
              (weakly f.cut B (left_then_by l f.cut A B f.is_cut.at (whole_at l first.left) (whole_at l right) before
              ends_order)) at r.by) (tos ss between');
          come = come;
        }

    -- as the code passes it
    abbrev pub PassesStretch : Open → Type 0
    PassesStretch new = (on : Onwards) (passed : List Spot) → IsOf h on → IsBalancedBefore h on.shape run
        → StandOn es on.shape (bundles_in h.front.now) mid.cursors
        → ((stops : List Stop) → AreStopsAt h stops
        → AreStopsOf (stretch_spots h mid.marks.items run fl) (spots_in stops) → TellWays es fl stops)
        → (spots : List Spot) × AreStopsOf (stretch_spots h mid.marks.items run fl) spots
        × (HasReachedStops on passed spots run mid → (course : Option Course)
        × HasComeOver on (passed ++ spots) [] run run.below_to run.above_to course new.marks.items new.given.items
        new.cursors)

    come_past : (new : Open) → PassesStretch new → (on : Onwards) → IsOf h on → IsValuedAt on w.groups
        → HasComeTo on [] 0 0 old → IsReached on h run.below_to run.above_to B (take to fs) new
    come_past new passes on of v start =
        let r = f.come on of v start in
        let n : ℕ = length (all_below f.left) in
        let m : ℕ = length (all_above f.left) in
        let here : HasComeTo on r.spots run.below run.above mid =
        subst (λ (j : ℕ). HasComeTo on r.spots run.below j mid) ha
        (subst (λ (i : ℕ). HasComeTo on r.spots i m mid) hb r.come) in
        let one : IsBalancedBefore on.height on.shape (between run.below run.above) =
        subst (λ (j : ℕ). IsBalancedBefore on.height on.shape (between run.below j)) ha
        (subst (λ (i : ℕ). IsBalancedBefore on.height on.shape (between i m)) hb
        (beside_as on h of.0 w.groups f.left f.right (take from fs) (drop from fs) f.cut v of.1 w.above
        (flats_parted h cs fs old w from) f.groups (placed_left h cs fs old w from p mid f)
        (placed_right h cs fs old w from p mid f) f.is_cut)) in
        let two : IsBalancedBefore on.height on.shape (between run.below_to run.above_to) =
        subst (λ (j : ℕ). IsBalancedBefore on.height on.shape (between run.below_to j))
        (above_is h cs fs old w from p mid f end t)
        (subst (λ (i : ℕ). IsBalancedBefore on.height on.shape (between i (length (all_above (f.left ++ t.xs)))))
        (below_is h cs fs old w from p mid f end t)
        (beside_as on h of.0 w.groups (f.left ++ t.xs) t.ys (take to fs) (drop to fs) B v of.1 w.above
        (flats_parted h cs fs old w to) (whole_is h cs fs old w from p mid f end t
        ∙ sym (append_assoc f.left t.xs t.ys))
        (all_append (IsPlaced h) f.left t.xs (placed_left h cs fs old w from p mid f)
        (met_xs h cs fs old w from p mid f end t)) (met_ys h cs fs old w from p mid f end t) new_cut)) in
        let stand : StandOn es on.shape (bundles_in h.front.now) mid.cursors = f.stands on.shape
        (subst (λ (y : Height). StandOn y.edges.now on.shape (bundles_in y.front.now) old.cursors) of.0 start.stands) in
        let e = passes on r.spots of (subst (λ (y : Height). IsBalancedBefore y on.shape run) of.0 one) stand tells in
        let over = e.2 (part_reached on r.spots e.0 run mid st.run_of.above one two here) in
        more_spots on new n m r e.0 e.1 (group_past on (r.spots ++ e.0) run new
        (without_course on (r.spots ++ e.0) run run.below_to run.above_to over.0 new.marks.items new.given.items
        new.cursors
        over.1))

    pub stretch_passed : (q : Passed) (new : Open) → PassesStretch new → KeepsRight run mid.marks.items new.marks.items
        → StayOn es (bundles_in h.front.now) mid.cursors new.cursors
        → AreSkipped cs (between_at h cs fs old w from p mid f end t).rest run q → IsCountOf cs q
        → IsSoFar h cs fs old w to q new
    stretch_passed q new passes keeps stays skipped count =
        let below = below_is h cs fs old w from p mid f end t in
        let above = above_is h cs fs old w from p mid f end t in
        let from_below = skipped.from_below in
        let from_above = skipped.from_above in
        let alike = skipped.alike in
        record {
          left = f.left ++ t.xs;
          right = t.ys;
          groups = whole_is h cs fs old w from p mid f end t ∙ sym (append_assoc f.left t.xs t.ys);
          within = st.within;
          taken = taken_on h cs fs old w from p mid f end t q new.marks.items
              (skipped.later ∙ rest_is h cs fs old w from p mid f end t) keeps.right;
          from_below = omega (arith, from_below, below);
          from_above = omega (arith, from_above, above);
          alike = omega (arith, alike, below, above);
          names = keeps.names ∙ f.names;
          count = count;
          stands = λ shape s. stays shape (f.stands shape s);
          cut = B;
          is_cut = new_cut;
          come = λ on of v start. subst (λ (j : ℕ). IsReached on h (length (all_below (f.left ++ t.xs))) j B
              (take to fs) new)
              (sym above) (subst (λ (i : ℕ). IsReached on h i run.above_to B (take to fs) new) (sym below)
              (come_past new passes on of v start));
        }
