-- A sweep that ends with the last level.
use Rattle.std.proofs.Common.{◌≡◌, inl, inr, ℕ, suc, ◌-◌, ◌*◌, ◌<◌, ◌≤◌, true, false, List, [], ◌∷◌, ◌++◌, length, take, drop, Option, None, refl, sym, ap, ◌∙◌, subst, arith}
use lib.IntN.{ℤ, pos, negsuc, ◌*ℤ◌}
use lib.Signed.{◌<ℤ◌, ◌≤ℤ◌}
use Rattle.std.specs.Prelude.{unsigned_abs}
use Rattle.std.specs.List.{AllByRecursion}
use Rattle.std.specs.List.Sorted.{IsPermutation}
use Rattle.std.proofs.lemmas.Int.{ints}
use Rattle.std.proofs.lemmas.List.{append-nil, drop_all, take_all, length-drop}
use Rattle.std.proofs.lemmas.List.Elements.{All-from_recursion, recursion_from_All, All-take}
use Rattle.scad_geom.specs.declared.point.Edge.{Edge}
use Rattle.scad_geom.specs.declared.level.Level.{Level}
use Rattle.scad_geom.specs.declared.level.LeafEdge.{LeafEdge}
use Rattle.scad_geom.specs.declared.shape.Shape.{Shape}
use Rattle.scad_geom.specs.Limits.{coordinate_limit}
use Rattle.scad_geom.specs.Line.{rise, x_at}
use Rattle.scad_geom.specs.Level.{level_of, IsLower, IsAtMost}
use Rattle.scad_geom.specs.Heights.{heights}
use Rattle.scad_geom.proofs.Integers.{mul_assoc}
use Rattle.scad_geom.proofs.Heights.{at_most_chain, lower_weak, same_at_most, heights_positive}
use Rattle.scad_geom.proofs.Order.{back, all_ends}
use Rattle.slice_events.specs.Levels.{IsRising, HasHeight, AreLevels}
use Rattle.slice_bundles.specs.Bundles.{no_edge, edge_at, AreBundles}
use Rattle.slice_bundles.specs.KeptOrder.{IsNotRightAt, AllStand, AllStandInOrder}
use Rattle.slice_bundles.proofs.KeptOrder.{bundles_keep_order}
use Rattle.slice_pieces.specs.declared.piece.Spot.{Spot}
use Rattle.slice_pieces.specs.Spots.{IsSpotWithin}
use Rattle.slice_pieces.specs.Rounding.{rounded_edges}
use Rattle.slice_border.specs.Pieces.{spot_on, whole_spot, passes_at, spots_at, IsOneOf}
use Rattle.slice_border.proofs.Winding.{of_stops}
use Rattle.slice_border.proofs.Middle.{size_of}
use Rattle.slice_sweep.specs.Front.{bundles_in}
use Rattle.sweep_laws.specs.Ways.{pieces_of}
use Rattle.sweep_laws.specs.Fronts.{Strand, bundles_of}
use Rattle.sweep_laws.specs.Crossing.{all_closed, IsCrossing}
use Rattle.sweep_laws.specs.Crossing.{all_above as placed_above}
use Rattle.sweep_laws.specs.Sweeps.{AreMergedEdges}
use Rattle.sweep_laws.specs.Staying.{spot_of}
use Rattle.sweep_laws.proofs.Spots.{spot_at as edge_spot}
use Rattle.sweep_laws.proofs.Edges.{ways_give_edges}
use Rattle.sweep_laws.proofs.Steps.{steps_lift}
use Rattle.sweep_laws.proofs.HeightByHeight.{sweeps_end}
use Rattle.slice_outlines.specs.declared.mark.Mark.{Mark}
use Rattle.slice_outlines.specs.declared.flat.Flat.{Flat}
use Rattle.slice_outlines.specs.declared.run.Run.{Run}
use Rattle.slice_border.specs.declared.stop.Stop.{Stop}
use Rattle.slice_outlines.specs.declared.course.Course.{Course}
use Rattle.slice_outlines.specs.declared.height.Height.{Height}
use Rattle.slice_outlines.specs.declared.height.Open.{Open}
use Rattle.slice_outlines.specs.declared.sweep.Sweep.{Sweep}
use Rattle.slice_outlines.specs.Marks.{AreKept}
use Rattle.slice_border.specs.Stops.{spots_in, AreStopsOf}
use Rattle.slice_outlines.specs.Stops.{mark_spots, flat_spots, AllPass}
use Rattle.slice_outlines.specs.Flats.{IsFlatOf, LiesOn}
use Rattle.slice_outlines.specs.Cursors.{StandOn}
use Rattle.slice_outlines.specs.Heights.{Onwards, IsOf, IsNotRightOf, AreInOrder}
use Rattle.slice_outlines.specs.Along.{HasComeOver, LeadTo}
use Rattle.slice_outlines.specs.Stretch.{AreStopsAt, TellWays, stretch_spots}
use Rattle.slice_outlines.specs.Ahead.{HasComeTo}
use Rattle.slice_outlines.specs.Level.{AreFlatsOn, AreSpotsOf}
use Rattle.slice_outlines.specs.Sweep.{HasSwept, IsFrontBelow}
use Rattle.slice_outlines.proofs.EndPoints.{passing_within, passes_there, passes_then_rises}
use Rattle.slice_outlines.proofs.Placing.{AreNamed, all_append}
use Rattle.slice_outlines.proofs.GroupHeights.{HeadPasses}
use Rattle.slice_outlines.proofs.GroupPassing.{group_past}
use Rattle.slice_outlines.proofs.Climbing.{swept_named}
use Rattle.slice_outlines.proofs.Across.{weakly}
use Rattle.slice_outlines.proofs.Apart.{AreOrdered, in_order}
use Rattle.slice_outlines.proofs.Cuts.{whole_at}
use Rattle.slice_outlines.proofs.StretchWays.{IsWithin, all_sound, ends_among, tell_ways}
use Rattle.slice_outlines.proofs.Stretching.{without_course, whole_left}
use Rattle.slice_outlines.proofs.LevelEnds.{left_of, flat_left, product_positive, as_product}
use Rattle.slice_outlines.proofs.WayCovers.{all_drop}
use Rattle.slice_outlines.proofs.FlatsOn.{flats_on}
use Rattle.slice_outlines.proofs.Advancing.{all_pass, front_heads, first_most, IsOver, over_by}

pub all_from : (xs ys : List Flat) (n : ℕ) → xs ≡ ys → take (length xs - n) (drop n xs) ≡ drop n ys
all_from xs ys n e = take_all (length xs - n) (drop n xs) (omega (arith, length-drop n xs)) ∙ ap (drop n) e

-- ---- the last level is the highest
most_of : (x : Level) (done : List Level) (top : Level)
    → AllByRecursion (λ (u : Level). pos 0 <ℤ u.d) (x ∷ (done ++ (top ∷ [])))
    → IsRising (x ∷ (done ++ (top ∷ []))) → IsAtMost x top
most_of x [] top d r = lower_weak x top r.0
most_of x (y ∷ done) top d r =
    let up : pos 0 <ℤ top.d = (back (λ (u : Level). pos 0 <ℤ u.d) done (top ∷ []) d.1.1).0 in
    at_most_chain x y top d.0 d.1.0 up (lower_weak x y r.0) (most_of y done top d.1 r.1)

at_or_below : (done : List Level) (top h : Level) → AllByRecursion (λ (u : Level). pos 0 <ℤ u.d) (done ++ (top ∷ []))
    → pos 0 <ℤ h.d → IsRising (done ++ (top ∷ [])) → HasHeight (done ++ (top ∷ [])) h → IsAtMost h top
at_or_below [] top h d p r (inl e) = same_at_most top h e
at_or_below [] top h d p r (inr e) = absurd e
at_or_below (x ∷ done) top h d p r (inl e) =
    let up : pos 0 <ℤ top.d = (back (λ (u : Level). pos 0 <ℤ u.d) done (top ∷ []) d.1).0 in
    at_most_chain h x top p d.0 up (same_at_most x h e) (most_of x done top d r)
at_or_below (x ∷ done) top h d p r (inr e) = at_or_below done top h d.1 p (tail done r) e
  where
    tail : (ls : List Level) → IsRising (x ∷ (ls ++ (top ∷ []))) → IsRising (ls ++ (top ∷ []))
    tail [] q = q.1
    tail (y ∷ ls) q = q.1

all_or_below : (done : List Level) (top : Level) (hs : List Level)
    → AllByRecursion (λ (u : Level). pos 0 <ℤ u.d) (done ++ (top ∷ []))
    → AllByRecursion (λ (u : Level). pos 0 <ℤ u.d) hs → IsRising (done ++ (top ∷ []))
    → AllByRecursion (HasHeight (done ++ (top ∷ []))) hs → AllByRecursion (λ h. IsAtMost h top) hs
all_or_below done top [] d p r a = tt
all_or_below done top (h ∷ hs) d p r a =
    (at_or_below done top h d p.0 r a.0, all_or_below done top hs d p.1 r a.1)

pub last_most : (es : List LeafEdge) (levels done : List Level) (top : Level) → AreLevels es levels
    → levels ≡ done ++ (top ∷ []) → AllByRecursion (λ h. IsAtMost h top) (heights es)
last_most es levels done top are e =
    let a : AreLevels es (done ++ (top ∷ [])) = subst (AreLevels es) e are in
    all_or_below done top (heights es) a.divisors (heights_positive es) a.rising a.complete

-- ---- within the limit
abbrev far_right : ℤ
far_right = pos (suc coordinate_limit)

nearer : (x : ℤ) (u : ℕ) → 0 < u → unsigned_abs x ≤ coordinate_limit * u → x <ℤ (far_right *ℤ pos u)
nearer (pos n) u o h = omega (arith, ints, o, h)
nearer (negsuc n) u o h = omega (arith, ints, o)

right_of : (l : Level) (s : Spot) → pos 0 <ℤ l.d → s.at ≡ l → IsSpotWithin coordinate_limit s
    → IsNotRightOf s (whole_spot far_right l)
right_of l s d at w =
    let u : ℕ = s.run * unsigned_abs l.d in
    let size : unsigned_abs s.x ≤ coordinate_limit * u =
    subst (λ (m : Level). unsigned_abs s.x ≤ coordinate_limit * (s.run * unsigned_abs m.d)) at w.size in
    let dd : pos (unsigned_abs l.d) ≡ l.d = size_of l.d d in
    let runs = w.positive in
    let some : 0 < unsigned_abs l.d = omega (arith, ints, dd, d) in
    let both : 0 < u = product_positive s.run (unsigned_abs l.d) runs some in
    let product : l.d *ℤ pos s.run ≡ pos u = as_product s.run (unsigned_abs l.d) l.d dd in
    let less : s.x <ℤ (far_right *ℤ pos u) = nearer s.x u both size in
    let same : (far_right *ℤ l.d) *ℤ pos s.run ≡ far_right *ℤ pos u =
    mul_assoc far_right l.d (pos s.run) ∙ ap (λ (z : ℤ). far_right *ℤ z) product in
    omega (arith, ints, less, same)

flat_right : (l : Level) (x : ℤ) → pos 0 <ℤ l.d → unsigned_abs x ≤ coordinate_limit
    → IsNotRightOf (whole_spot x l) (whole_spot far_right l)
flat_right l x d h =
    let less : x <ℤ (far_right *ℤ pos 1) = nearer x 1 (omega arith) (omega (arith, h)) in
    weakly (whole_spot x l) (whole_spot far_right l) (whole_left l x far_right d (omega (arith, ints, less)))

module _ (h : Height) where
  marks_within : (ms : List Mark) → AllByRecursion (λ m. passes_at (edge_at h.edges.now m.name) h.at.now ≡ true) ms
      → AllByRecursion (IsWithin h.at.now (negsuc coordinate_limit) far_right) (mark_spots h.edges.now h.at.now ms)
  marks_within [] p = tt
  marks_within (m ∷ ms) p =
      let e : Edge = edge_at h.edges.now m.name in
      let s : Spot = spot_on e h.at.now in
      let w : IsSpotWithin coordinate_limit s = passing_within coordinate_limit e h.at.now
      (h.within m.name no_edge (passes_there h.edges.now m.name h.at.now p.0)) h.at_within p.0 in (
        record {
          at = edge_spot e h.at.now (passes_then_rises e h.at.now p.0);
          from = weakly (whole_spot (negsuc coordinate_limit) h.at.now) s
              (left_of h.at.now s h.at_within.positive refl w);
          to = right_of h.at.now s h.at_within.positive refl w;
        },
        marks_within ms p.1,
      )

  end_within : (x : ℤ) → unsigned_abs x ≤ coordinate_limit
      → IsWithin h.at.now (negsuc coordinate_limit) far_right (whole_spot x h.at.now)
  end_within x o = record {
    at = whole_at h.at.now x;
    from = weakly (whole_spot (negsuc coordinate_limit) h.at.now) (whole_spot x h.at.now)
        (flat_left h.at.now x h.at_within.positive o);
    to = flat_right h.at.now x h.at_within.positive o;
  }

  flats_within : (fs : List Flat)
      → AllByRecursion (IsWithin h.at.now (negsuc coordinate_limit) far_right) (flat_spots h.at.now fs)
  flats_within [] = tt
  flats_within (f ∷ fs) = (end_within f.left f.left_size, (end_within f.right f.right_size, flats_within fs))

-- ---- the order of strands at the height that they come to
not_right : (e f : Edge) (l : Level) → passes_at e l ≡ true → passes_at f l ≡ true → IsNotRightAt l e f
    → IsNotRightOf (spot_on e l) (spot_on f l)
not_right e f l p q o =
    subst (λ (r : ℤ). (x_at e l.n l.d *ℤ r) ≤ℤ (x_at f l.n l.d *ℤ pos (spot_on e l).run))
    (sym (size_of (rise f) (passes_then_rises f l q)))
    (subst (λ (r : ℤ). (x_at e l.n l.d *ℤ rise f) ≤ℤ (x_at f l.n l.d *ℤ r))
    (sym (size_of (rise e) (passes_then_rises e l p))) o)

module _ (h : Height) where
  one_ordered : (b : List ℕ) (bs : List (List ℕ)) → HeadPasses h.edges.now h.at.now b
      → AllByRecursion (HeadPasses h.edges.now h.at.now) bs
      → AllByRecursion (AllStand (IsNotRightAt h.at.now) h.edges.now b) bs
      → AllByRecursion (λ c. IsNotRightOf (spot_of h.edges.now h.at.now b) (spot_of h.edges.now h.at.now c)) bs
  one_ordered [] bs p q a = absurd p
  one_ordered (k ∷ ks) [] p q a = tt
  one_ordered (k ∷ ks) ([] ∷ bs) p q a = absurd q.0
  one_ordered (k ∷ ks) ((j ∷ js) ∷ bs) p q a = (
    not_right (edge_at h.edges.now k) (edge_at h.edges.now j) h.at.now p q.0 a.0.0.0,
    one_ordered (k ∷ ks) bs p q.1 a.1,
  )

  are_ordered : (bs : List (List ℕ)) → AllByRecursion (HeadPasses h.edges.now h.at.now) bs
      → AllStandInOrder (IsNotRightAt h.at.now) h.edges.now bs → AreOrdered h bs
  are_ordered [] p a = tt
  are_ordered (b ∷ bs) p a = (one_ordered b bs p.0 p.1 a.0, are_ordered bs p.1 a.1)

-- the marks below a level meet it
pub marks_all_pass : (es : List LeafEdge) (shape : Shape) (levels : List Level) (top : Level) (later : List Level)
    (s : Sweep) → HasSwept es shape levels (top ∷ later) s → AreLevels es levels → (ms : List Mark)
    → ms ≡ s.kept.marks.items → AllPass es top ms
marks_all_pass es shape levels top later s swept are ms e =
    all_pass es top ms (bundles_in s.front)
    (subst (λ (us : List Mark). AreNamed us (bundles_in s.front)) (sym e) (swept_named es shape levels top later s
    swept))
    (subst (AllByRecursion (HeadPasses es top)) swept.bundles
    (front_heads es shape levels top later are swept.front swept.below))

module _ (h : Height) (shape : Shape) (levels : List Level) (s : Sweep)
    (swept : HasSwept h.edges.now shape levels (h.at.now ∷ []) s) (are : AreLevels h.edges.now levels)
    (below_is : h.below.now ≡ s.kept.marks.items) (none : bundles_in h.front.now ≡ []) where
  heads : AllByRecursion (HeadPasses h.edges.now h.at.now) (bundles_in s.front)
  heads = subst (AllByRecursion (HeadPasses h.edges.now h.at.now)) swept.bundles
      (front_heads h.edges.now shape levels h.at.now [] are swept.front swept.below)

  named : AreNamed h.below.now (bundles_in s.front)
  named = subst (λ (ms : List Mark). AreNamed ms (bundles_in s.front)) (sym below_is)
      (swept_named h.edges.now shape levels h.at.now [] s swept)

  pub below_pass : AllPass h.edges.now h.at.now h.below.now
  below_pass = all_pass h.edges.now h.at.now h.below.now (bundles_in s.front) named heads

  pub below_order : AreInOrder h h.below.now
  below_order = by_front swept.front refl swept.below
    where
      by_front : (ss : List Strand) → swept.front ≡ ss → IsFrontBelow h.edges.now shape levels (h.at.now ∷ []) ss
          → AreInOrder h h.below.now
      by_front ss e (inl q) =
          let nothing : bundles_in s.front ≡ [] = sym swept.bundles ∙ ap bundles_of (e ∙ q.0) in
          in_order h h.below.now (bundles_in s.front) named (subst (AreOrdered h) (sym nothing) tt)
      by_front ss e (inr f) =
          let same : bundles_of ss ≡ bundles_in s.front = ap bundles_of (sym e) ∙ swept.bundles in
          let kept = bundles_keep_order h.edges.now f.0 h.at.now (bundles_of ss) f.1 f.2.bundles in
          let order = kept.throughout h.at.now f.1.upper_divisor (lower_weak f.0 h.at.now f.1.in_order)
          (itself h.at.now) in
          in_order h h.below.now (bundles_in s.front) named (are_ordered h (bundles_in s.front) heads
          (subst (AllStandInOrder (IsNotRightAt h.at.now) h.edges.now) same order))
        where
          itself : (m : Level) → IsAtMost m m
          itself m = omega (arith, ints)

  most : AllByRecursion (λ g. IsAtMost g h.at.now) (heights h.edges.now)
  most = last_most h.edges.now levels swept.done h.at.now are swept.all

  -- all flat edges that are left lie on it
  abbrev pub lasts : List Flat
  lasts = drop s.passed s.flats.items

  on_top : (fs : List Flat) → AllByRecursion (IsFlatOf h.edges.now) fs
      → AllByRecursion (λ f. IsAtMost h.at.now (level_of f.y)) fs → AllByRecursion (LiesOn h.at.now) fs
  on_top [] i a = tt
  on_top (f ∷ fs) i a = (both, on_top fs i.1 a.1)
    where
      by : IsAtMost (level_of f.y) h.at.now
      by = subst (λ (y : ℤ). IsAtMost (level_of y) h.at.now) i.0.height
          (all_ends (λ g. IsAtMost g h.at.now) h.edges.now f.number no_edge most i.0.there).0

      both : f.y *ℤ h.at.now.d ≡ h.at.now.n
      both = let p = by in let q = a.0 in omega (arith, ints, p, q)

  pub lasts_on : AreFlatsOn h.edges.now h.at.now lasts
  lasts_on =
      let all : List Flat = s.flats.items in
      let n : ℕ = length all in
      let o = swept.passed in
      let part : take (n - s.passed) (drop s.passed all) ≡ drop s.passed all =
      take_all (n - s.passed) (drop s.passed all) (omega (arith, length-drop s.passed all)) in
      let ons : AllByRecursion (LiesOn h.at.now) (drop s.passed all) = on_top (drop s.passed all)
      (all_drop (IsFlatOf h.edges.now) s.passed all swept.flats.each) swept.flats_below.later in
      subst (AreFlatsOn h.edges.now h.at.now) part
      (flats_on h.edges.now h.at.now h.at_within.positive all swept.flats s.passed n o swept.flats_below.passed
      (subst (AllByRecursion (LiesOn h.at.now)) (sym part) ons)
      (subst (AllByRecursion (λ f. IsLower h.at.now (level_of f.y))) (sym (drop_all n all (omega arith))) tt))

  abbrev pub whole : Run
  whole = record { below = 0; below_to = length h.below.now; above = 0; above_to = 0 }

  inside : AllByRecursion (IsWithin h.at.now (negsuc coordinate_limit) far_right) (stretch_spots h [] whole lasts)
  inside =
      let P : Spot → Type 0 = IsWithin h.at.now (negsuc coordinate_limit) far_right in
      let lows : List Mark = take (length h.below.now - 0) h.below.now in
      all_append P (mark_spots h.edges.now h.at.now lows) (flat_spots h.at.now lasts)
      (marks_within h lows (recursion_from_All (λ m. passes_at (edge_at h.edges.now m.name) h.at.now ≡ true) lows
      (All-take (λ m. passes_at (edge_at h.edges.now m.name) h.at.now ≡ true) (length h.below.now - 0) h.below.now
      below_pass))) (flats_within h lasts)

  pub last_tells : (stops : List Stop) → AreStopsAt h stops
      → AreStopsOf (stretch_spots h [] whole lasts) (spots_in stops)
      → TellWays h.edges.now lasts stops
  last_tells stops a b =
      tell_ways h (negsuc coordinate_limit) far_right [] lasts []
      (subst (AreFlatsOn h.edges.now h.at.now) (sym (append-nil lasts)) lasts_on) tt tt lasts_on.each lasts_on.on
      lasts_on.rightwards [] whole stops inside a b

  abbrev pub on_last : Onwards
  on_last = record {
    shape = shape;
    upper = h.at.now;
    height = h;
    below = swept.front;
    given = rounded_edges (pieces_of swept.closed);
  }

  pub last_kept : AreKept false h.below.now swept.front
  last_kept = subst (λ (ms : List Mark). AreKept false ms swept.front) (sym below_is) swept.kept

  pub last_starts : (spots : List Spot) (kept : Open) → kept.marks.items ≡ [] → kept.given.items ≡ s.kept.given.items
      → StandOn h.edges.now shape [] kept.cursors
      → HasComeOver on_last [] spots whole 0 0 None kept.marks.items kept.given.items kept.cursors
  last_starts spots kept e g on = record {
    places = [];
    flat = [];
    at = refl;
    along = tt;
    leads = leads spots;
    lower = refl;
    upper = refl;
    goes_on = λ later f pass. pass;
    kept = tt;
    met = tt;
    named = subst (λ (ms : List Mark). AreNamed ms (bundles_in h.front.now)) (sym e)
        (subst (AreNamed []) (sym none) tt);
    valued = λ i o. absurd (omega (arith, o));
    edges = subst (λ (xs : List Edge). IsPermutation xs kept.given.items)
        (sym (ap (λ (xs : List Edge). rounded_edges (pieces_of swept.closed) ++ xs) ways_give_edges.none
        ∙ append-nil (rounded_edges (pieces_of swept.closed))))
        (subst (IsPermutation (rounded_edges (pieces_of swept.closed))) (sym g) swept.given);
    stands = subst (λ (bs : List (List ℕ)). StandOn h.edges.now shape bs kept.cursors) (sym none) on;
  }
    where
      leads : (ss : List Spot) → LeadTo ss []
      leads [] = refl
      leads (t ∷ ss) = tt

  none_above : (ss : List Strand) → bundles_of ss ≡ [] → ss ≡ []
  none_above [] e = refl
  none_above (t ∷ ss) e = absurd (omega (arith, ap length e))

  -- all of it is passed
  merged : (new : Open) → IsOver on_last lasts new → AreMergedEdges h.edges.now shape new.given.items
  merged new over =
      sweeps_end.last h.edges.now shape levels h.at.now swept.front swept.closed over.places new.given.items are
      swept.swept (by_below swept.below)
      (subst (λ (xs : List Edge). IsPermutation xs new.given.items)
      (sym (ways_give_edges.more swept.closed (all_closed over.places))) over.edges)
    where
      nothing : placed_above over.places ≡ []
      nothing = none_above (placed_above over.places) (over.above ∙ none)

      by_below : IsFrontBelow h.edges.now shape levels (h.at.now ∷ []) swept.front
          → IsCrossing h.edges.now h.at.now h.at.now swept.front [] over.places
      by_below (inl e) =
          subst (λ (ss : List Strand). IsCrossing h.edges.now h.at.now h.at.now ss [] over.places) (sym e.0)
          (steps_lift.only h.edges.now h.at.now h.at_within.positive
          (All-from_recursion (IsAtMost h.at.now) (heights h.edges.now)
          (first_most h.edges.now shape levels h.at.now [] are e.1))
          (All-from_recursion (λ g. IsAtMost g h.at.now) (heights h.edges.now) most) over.places (over.below ∙ e.0)
          nothing over.met over.passed)
      by_below (inr f) =
          subst (λ (ss : List Strand). IsCrossing h.edges.now h.at.now h.at.now ss [] over.places) over.below
          (steps_lift.last h.edges.now f.0 h.at.now f.1
          (All-from_recursion (λ g. IsAtMost g h.at.now) (heights h.edges.now) most) over.places
          (subst (λ (ss : List Strand). AreBundles h.edges.now f.0 h.at.now (bundles_of ss))
          (sym over.below) f.2.bundles)
          nothing over.met over.passed)

  -- as the code passes it
  abbrev pub PassesAll : Open → Open → ℕ → List Flat → Type 0
  PassesAll kept new n fs = (on : Onwards) (passed : List Spot) → IsOf h on
      → ((stops : List Stop) → AreStopsAt h stops
      → AreStopsOf (stretch_spots h kept.marks.items (record { below = 0; below_to = n; above = 0; above_to = 0 }) fs)
      (spots_in stops) → TellWays h.edges.now fs stops)
      → (spots : List Spot)
      × AreStopsOf (stretch_spots h kept.marks.items
      (record { below = 0; below_to = n; above = 0; above_to = 0 }) fs) spots
      × (HasComeOver on passed spots (record { below = 0; below_to = n; above = 0; above_to = 0 }) 0 0 None
      kept.marks.items kept.given.items kept.cursors → (course : Option Course)
      × HasComeOver on (passed ++ spots) [] (record { below = 0; below_to = n; above = 0; above_to = 0 }) n 0 course
      new.marks.items new.given.items new.cursors)

  pub all_merged : (kept new : Open) (n : ℕ) (fs : List Flat) → n ≡ length h.below.now → fs ≡ lasts
      → kept.marks.items ≡ [] → kept.given.items ≡ s.kept.given.items → StandOn h.edges.now shape [] kept.cursors
      → PassesAll kept new n fs → AreMergedEdges h.edges.now shape new.given.items
  all_merged kept new n fs en ef e g stands passes =
      let pass : PassesAll kept new (length h.below.now) lasts =
      subst (PassesAll kept new (length h.below.now)) ef (subst (λ (k : ℕ). PassesAll kept new k fs) en passes) in
      let r = pass on_last [] (refl, last_kept) (λ stops a b.
      last_tells stops a (subst (λ (ms : List Mark). AreStopsOf (stretch_spots h ms whole lasts)
      (spots_in stops)) e b)) in
      let stops : AreStopsOf (stretch_spots h [] whole lasts) r.0 =
      subst (λ (ms : List Mark). AreStopsOf (stretch_spots h ms whole lasts) r.0) e r.1 in
      let end = r.2 (last_starts r.0 kept e g stands) in
      let come : HasComeTo on_last r.0 (length h.below.now) 0 new = group_past on_last r.0 whole new
      (without_course on_last r.0 whole
      (length h.below.now) 0 end.0 new.marks.items new.given.items new.cursors end.1) in
      let spots : AreSpotsOf h lasts r.0 = record {
        rightwards = stops.rightwards;
        sound = of_stops (IsOneOf (spots_at h.edges.now h.at.now)) (stretch_spots h [] whole lasts) r.0
            (all_sound h [] whole lasts below_pass (λ i d o. absurd (omega
            (arith, o))) lasts_on.each lasts_on.on) stops.sound;
        flats = ends_among h [] whole lasts r.0 stops;
      } in
      merged new (over_by on_last lasts new (length h.below.now) 0 last_kept refl (ap length
      (sym none)) lasts_on r.0 spots
      come)
