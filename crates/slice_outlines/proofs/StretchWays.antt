-- A stretch of flat edges: its stops tell its ways, and lie from its left end to its right one.
use Rattle.std.proofs.Common.{◌≡◌, ◌⊎◌, inl, inr, ℕ, zero, suc, ◌+◌, ◌-◌, ◌<◌, ◌≤◌, true, List, [], ◌∷◌, ◌++◌, length, get_or, take, drop, refl, sym, ap, ◌∙◌, subst, arith}
use lib.IntN.{ℤ, pos}
use lib.Signed.{◌<ℤ◌}
use Rattle.std.specs.List.{AllByRecursion}
use Rattle.std.proofs.lemmas.Int.{ints}
use Rattle.std.proofs.lemmas.Bool.{and_parts}
use Rattle.std.proofs.lemmas.List.{drop-take}
use Rattle.std.proofs.lemmas.List.Elements.{recursion_from_All, All-take, All-drop}
use Rattle.scad_geom.specs.declared.point.Edge.{Edge}
use Rattle.scad_geom.specs.declared.level.Level.{Level}
use Rattle.scad_geom.specs.declared.level.LeafEdge.{LeafEdge}
use Rattle.scad_geom.proofs.Order.{front, back}
use Rattle.slice_bundles.specs.Bundles.{no_edge, edge_at}
use Rattle.slice_pieces.specs.declared.piece.Spot.{Spot}
use Rattle.slice_border.specs.Pieces.{whole_spot, is_flat_at, edge_spots, passes_at, spots_at, covers, IsLeft, GoRight, HasSpot, IsOneOf}
use Rattle.slice_border.proofs.Winding.{IsSpotAt, of_stops}
use Rattle.sweep_laws.proofs.Stops.{in_front, in_back, spots_are_there}
use Rattle.sweep_laws.proofs.Spots.{spot_at as edge_spot}
use Rattle.slice_outlines.specs.declared.mark.Mark.{Mark}
use Rattle.slice_outlines.specs.declared.run.Run.{Run}
use Rattle.slice_border.specs.declared.stop.Stop.{Stop}
use Rattle.slice_outlines.specs.declared.flat.Flat.{Flat}
use Rattle.slice_outlines.specs.declared.height.Height.{Height}
use Rattle.slice_outlines.specs.Marks.{spot_at}
use Rattle.slice_outlines.specs.Flats.{IsFlatOf, LiesOn}
use Rattle.slice_border.specs.Stops.{spots_in, AreStopsOf}
use Rattle.slice_outlines.specs.Stops.{mark_spots, flat_spots, AllPass}
use Rattle.slice_outlines.specs.Heights.{IsNotRightOf, IsRunOf}
use Rattle.slice_outlines.specs.Along.{LieBetween}
use Rattle.slice_outlines.specs.Stretch.{AreStopsAt, TellWays, stretch_spots}
use Rattle.slice_outlines.specs.Level.{HasNumber, GoByLeft, AreFlatsOn}
use Rattle.slice_outlines.proofs.EndPoints.{passes_then_rises, passes_there}
use Rattle.slice_outlines.proofs.Placing.{all_append}
use Rattle.slice_outlines.proofs.WayCovers.GoOn.{none, more}
use Rattle.slice_outlines.proofs.WayCovers.{GoOn, MayLead, lies_flat, covers_by, number_split, way_told}
use Rattle.slice_outlines.proofs.Across.{not_left, left_not, weakly, left_chain, by_then_left, by_chain, same_then_left, closed_by, closed_from}
use Rattle.slice_outlines.proofs.Cuts.{whole_at, found}

-- ---- between two ends
pub record IsWithin (l : Level) (left right : ℤ) (s : Spot) : Type 0 where
  pub at : IsSpotAt l s
  pub from : IsNotRightOf (whole_spot left l) s
  pub to : IsNotRightOf s (whole_spot right l)

-- flat edges from one end to the other
abbrev pub AreFlatsWithin : Level → ℤ → ℤ → List Flat → Type 0
AreFlatsWithin l left right fs = AllByRecursion (λ f. IsWithin l left right (whole_spot f.left l)
    × IsWithin l left right (whole_spot f.right l)) fs

part_inside : (h : Height) (left right : ℤ) (ms : List Mark) (from to : ℕ) → from ≤ to
    → LieBetween h left right ms from to
    → AllPass h.edges.now h.at.now ms
    → AllByRecursion (IsWithin h.at.now left right) (mark_spots h.edges.now h.at.now (take (to - from) (drop from ms)))
part_inside h left right ms from to o b p =
    let es : List LeafEdge = h.edges.now in
    let l : Level = h.at.now in
    let e : from + (to - from) ≡ to = omega (arith, o) in
    let part : drop from (take to ms) ≡ take (to - from) (drop from ms) =
    ap (λ (n : ℕ). drop from (take n ms)) (sym e) ∙ drop-take from (to - from) ms in
    each (take (to - from) (drop from ms))
    (subst (AllByRecursion (λ m. (IsLeft (spot_at es l m) (whole_spot left l) → ⊥)
    × (IsLeft (whole_spot right l) (spot_at es l m) → ⊥))) part b.inside)
    (part_passes ms from (to - from) p)
  where
    each : (xs : List Mark) → AllByRecursion (λ m. (IsLeft (spot_at h.edges.now h.at.now m)
        (whole_spot left h.at.now) → ⊥)
        × (IsLeft (whole_spot right h.at.now) (spot_at h.edges.now h.at.now m) → ⊥)) xs
        → AllByRecursion (λ m. passes_at (edge_at h.edges.now m.name) h.at.now ≡ true) xs
        → AllByRecursion (IsWithin h.at.now left right) (mark_spots h.edges.now h.at.now xs)
    each [] a q = tt
    each (m ∷ xs) a q =
        let s : Spot = spot_at h.edges.now h.at.now m in (
          record {
            at = edge_spot (edge_at h.edges.now m.name) h.at.now (passes_then_rises
                (edge_at h.edges.now m.name) h.at.now q.0);
            from = not_left s (whole_spot left h.at.now) a.0.0;
            to = not_left (whole_spot right h.at.now) s a.0.1;
          },
          each xs a.1 q.1,
        )

    part_passes : (xs : List Mark) (i n : ℕ) → AllPass h.edges.now h.at.now xs
        → AllByRecursion (λ m. passes_at (edge_at h.edges.now m.name) h.at.now ≡ true) (take n (drop i xs))
    part_passes xs i n a =
        let P : Mark → Type 0 = λ m. passes_at (edge_at h.edges.now m.name) h.at.now ≡ true in
        recursion_from_All P (take n (drop i xs)) (All-take P n (drop i xs) (All-drop P i xs a))

flats_inside : (l : Level) (left right : ℤ) (fs : List Flat) → AreFlatsWithin l left right fs
    → AllByRecursion (IsWithin l left right) (flat_spots l fs)
flats_inside l left right [] a = tt
flats_inside l left right (f ∷ fs) a = (a.0.0, (a.0.1, flats_inside l left right fs a.1))

pub all_inside : (h : Height) (left right : ℤ) (ms : List Mark) (run : Run) (fs : List Flat)
    → IsRunOf h.below.now ms run
    → LieBetween h left right h.below.now run.below run.below_to → LieBetween h left right ms run.above run.above_to
    → AllPass h.edges.now h.at.now h.below.now → AllPass h.edges.now h.at.now ms → AreFlatsWithin h.at.now left right fs
    → AllByRecursion (IsWithin h.at.now left right) (stretch_spots h ms run fs)
all_inside h left right ms run fs r a b p q f =
    let es : List LeafEdge = h.edges.now in
    let l : Level = h.at.now in
    let P : Spot → Type 0 = IsWithin l left right in
    let lows : List Mark = take (run.below_to - run.below) (drop run.below h.below.now) in
    let ups : List Mark = take (run.above_to - run.above) (drop run.above ms) in
    all_append P (mark_spots es l lows) (mark_spots es l ups ++ flat_spots l fs)
    (part_inside h left right h.below.now run.below run.below_to r.below a p)
    (all_append P (mark_spots es l ups) (flat_spots l fs)
    (part_inside h left right ms run.above run.above_to r.above b q) (flats_inside l left right fs f))

-- ---- each is where an edge meets the height
flat_ends : (e : Edge) (l : Level) → is_flat_at e l ≡ true
    → edge_spots e l ≡ whole_spot e.a.x l ∷ (whole_spot e.b.x l ∷ [])
flat_ends e l h = rw h refl

pub ends_there : (es : List LeafEdge) (l : Level) (k : ℕ) → k < length es → is_flat_at (edge_at es k) l ≡ true
    → IsOneOf (spots_at es l) (whole_spot (edge_at es k).a.x l)
    × IsOneOf (spots_at es l) (whole_spot (edge_at es k).b.x l)
ends_there [] l k o h = absurd (omega arith)
ends_there (e ∷ es) l zero o h =
    let two = flat_ends e.edge l h in (
      in_front (edge_spots e.edge l) (spots_at es l) (whole_spot e.edge.a.x l)
          (subst (λ (ss : List Spot). IsOneOf ss (whole_spot e.edge.a.x l)) (sym two) (inl refl)),
      in_front (edge_spots e.edge l) (spots_at es l) (whole_spot e.edge.b.x l)
          (subst (λ (ss : List Spot). IsOneOf ss (whole_spot e.edge.b.x l)) (sym two) (inr (inl refl))),
    )
ends_there (e ∷ es) l (suc k) o h =
    let r = ends_there es l k (omega arith) h in (
      in_back (edge_spots e.edge l) (spots_at es l) (whole_spot (edge_at es k).a.x l) r.0,
      in_back (edge_spots e.edge l) (spots_at es l) (whole_spot (edge_at es k).b.x l) r.1,
    )

flats_sound : (es : List LeafEdge) (l : Level) (fs : List Flat) → AllByRecursion (IsFlatOf es) fs
    → AllByRecursion (LiesOn l) fs → AllByRecursion (IsOneOf (spots_at es l)) (flat_spots l fs)
flats_sound es l [] a b = tt
flats_sound es l (f ∷ fs) a b =
    let ends = ends_there es l f.number a.0.there (lies_flat es f l a.0 b.0) in
    let S : ℤ → Type 0 = λ x. IsOneOf (spots_at es l) (whole_spot x l) in
    let rest = flats_sound es l fs a.1 b.1 in
    elim a.0.ends [
      | inl q ↦ (subst S q.0 ends.0, (subst S q.1 ends.1, rest))
      | inr q ↦ (subst S q.1 ends.1, (subst S q.0 ends.0, rest))
    ]

marks_sound : (es : List LeafEdge) (l : Level) (ms : List Mark)
    → AllByRecursion (λ m. passes_at (edge_at es m.name) l ≡ true) ms
    → AllByRecursion (IsOneOf (spots_at es l)) (mark_spots es l ms)
marks_sound es l [] p = tt
marks_sound es l (m ∷ ms) p = (spots_are_there es l m.name (passes_there es m.name l p.0) p.0, marks_sound es l ms p.1)

pub all_sound : (h : Height) (ms : List Mark) (run : Run) (fs : List Flat) → AllPass h.edges.now h.at.now h.below.now
    → AllPass h.edges.now h.at.now ms → AllByRecursion (IsFlatOf h.edges.now) fs → AllByRecursion (LiesOn h.at.now) fs
    → AllByRecursion (IsOneOf (spots_at h.edges.now h.at.now)) (stretch_spots h ms run fs)
all_sound h ms run fs p q a b =
    let es : List LeafEdge = h.edges.now in
    let l : Level = h.at.now in
    let P : Spot → Type 0 = IsOneOf (spots_at es l) in
    let M : Mark → Type 0 = λ m. passes_at (edge_at es m.name) l ≡ true in
    let lows : List Mark = take (run.below_to - run.below) (drop run.below h.below.now) in
    let ups : List Mark = take (run.above_to - run.above) (drop run.above ms) in
    all_append P (mark_spots es l lows) (mark_spots es l ups ++ flat_spots l fs)
    (marks_sound es l lows (recursion_from_All M lows
    (All-take M (run.below_to - run.below) (drop run.below h.below.now) (All-drop M run.below h.below.now p))))
    (all_append P (mark_spots es l ups) (flat_spots l fs)
    (marks_sound es l ups (recursion_from_All M ups
    (All-take M (run.above_to - run.above) (drop run.above ms) (All-drop M run.above ms q))))
    (flats_sound es l fs a b))

-- the ends of its flat edges are among its stops
pub ends_among : (h : Height) (ms : List Mark) (run : Run) (fs : List Flat) (ss : List Spot)
    → AreStopsOf (stretch_spots h ms run fs) ss
    → AllByRecursion (λ f. HasSpot ss (whole_spot f.left h.at.now) × HasSpot ss (whole_spot f.right h.at.now)) fs
ends_among h ms run fs ss a =
    let es : List LeafEdge = h.edges.now in
    let l : Level = h.at.now in
    let lows : List Mark = take (run.below_to - run.below) (drop run.below h.below.now) in
    let ups : List Mark = take (run.above_to - run.above) (drop run.above ms) in
    pairs fs (back (HasSpot ss) (mark_spots es l ups) (flat_spots l fs)
    (back (HasSpot ss) (mark_spots es l lows) (mark_spots es l ups ++ flat_spots l fs) a.complete))
  where
    pairs : (gs : List Flat) → AllByRecursion (HasSpot ss) (flat_spots h.at.now gs)
        → AllByRecursion (λ f. HasSpot ss (whole_spot f.left h.at.now) × HasSpot ss (whole_spot f.right h.at.now)) gs
    pairs [] b = tt
    pairs (g ∷ gs) b = ((b.0, b.1.0), pairs gs b.1.1)

-- ---- stops tell the ways
go_on : (fs : List Flat) → GoByLeft fs → GoOn fs
go_on [] g = none
go_on (f ∷ fs) g = more f fs g.0 (go_on fs g.1)

-- a place is at one of some spots, or not to the right of the first
abbrev IsNoNext : List Spot → Spot → Type 0
IsNoNext [] r = Unit {0}
IsNoNext (s ∷ ss) r = HasSpot (s ∷ ss) r ⊎ IsNotRightOf r s

module _ (h : Height) (left right : ℤ) (fb fs fa : List Flat) (flats : AreFlatsOn h.edges.now h.at.now (fb ++ (fs
    ++ fa)))
    (before : AllByRecursion (λ f. IsLeft (whole_spot f.right h.at.now) (whole_spot left h.at.now)) fb)
    (behind : AllByRecursion (λ f. IsLeft (whole_spot right h.at.now) (whole_spot f.left h.at.now)) fa)
    (each : AllByRecursion (IsFlatOf h.edges.now) fs) (on : AllByRecursion (LiesOn h.at.now) fs)
    (go : GoByLeft fs) where
  abbrev es : List LeafEdge
  es = h.edges.now

  abbrev l : Level
  l = h.at.now

  all_from : (s : Spot) (ss : List Spot) → IsSpotAt l s → AllByRecursion (IsSpotAt l) ss → GoRight (s ∷ ss)
      → AllByRecursion (λ t. IsLeft s t) ss
  all_from s [] hs a g = tt
  all_from s (t ∷ ss) hs a g = (g.0, further ss a.1 (all_from t ss a.0 a.1 g.1))
    where
      further : (us : List Spot) → AllByRecursion (IsSpotAt l) us → AllByRecursion (λ u. IsLeft t u) us
          → AllByRecursion (λ u. IsLeft s u) us
      further [] b o = tt
      further (u ∷ us) b o = (left_chain l s t u hs a.0 b.0 g.0 o.0, further us b.1 o.1)

  -- no place of an end lies between a stop and the next
  not_among : (t r : Spot) (ss : List Spot) → IsSpotAt l t → IsSpotAt l r → AllByRecursion (IsSpotAt l) ss
      → AllByRecursion (λ u. IsNotRightOf t u) ss → HasSpot ss r → IsLeft r t → ⊥
  not_among t r [] ht hr a o b k = b
  not_among t r (u ∷ ss) ht hr a o (inl e) k =
      left_not r t (by_chain l t u r ht a.0 hr o.0 (closed_from l u a.0 u r a.0 hr e (itself u))) k
    where
      itself : (x : Spot) → IsNotRightOf x x
      itself x = omega (arith, ints)
  not_among t r (u ∷ ss) ht hr a o (inr b) k = not_among t r ss ht hr a.1 o.1 b k

  weak_all : (t : Spot) (ss : List Spot) → AllByRecursion (λ u. IsLeft t u) ss
      → AllByRecursion (λ u. IsNotRightOf t u) ss
  weak_all t [] a = tt
  weak_all t (u ∷ ss) a = (weakly t u a.0, weak_all t ss a.1)

  oneself : (x : Spot) → IsNotRightOf x x
  oneself x = omega (arith, ints)

  aside : (s t r : Spot) (ss : List Spot) → IsSpotAt l s → IsSpotAt l t → IsSpotAt l r → AllByRecursion (IsSpotAt l) ss
      → GoRight (s ∷ (t ∷ ss)) → IsNoNext (s ∷ (t ∷ ss)) r → IsLeft s r → IsLeft r t → ⊥
  aside s t r ss hs ht hr a g (inl (inl e)) o k =
      left_not s r (closed_by l s hs s r hs hr e (oneself s)) o
  aside s t r ss hs ht hr a g (inl (inr b)) o k =
      not_among t r (t ∷ ss) ht hr (ht, a) (oneself t, weak_all t ss (all_from t ss ht a g.1)) b k
  aside s t r ss hs ht hr a g (inr n) o k = left_not s r n o

  next_none : (s t r : Spot) (ss : List Spot) → IsSpotAt l s → IsSpotAt l t → IsSpotAt l r → IsLeft s t
      → IsNoNext (s ∷ (t ∷ ss)) r → IsNoNext (t ∷ ss) r
  next_none s t r ss hs ht hr o (inl (inl e)) =
      inr (weakly r t (same_then_left l r s t hr hs ht (sym e) o))
  next_none s t r ss hs ht hr o (inl (inr b)) = inl b
  next_none s t r ss hs ht hr o (inr n) = inr (weakly r t (by_then_left l r s t hr hs ht n o))

  nexts : (s t : Spot) (ss : List Spot) (gs : List Flat) → IsSpotAt l s → IsSpotAt l t → IsLeft s t
      → AllByRecursion (λ f. IsNoNext (s ∷ (t ∷ ss)) (whole_spot f.right l)) gs
      → AllByRecursion (λ f. IsNoNext (t ∷ ss) (whole_spot f.right l)) gs
  nexts s t ss [] hs ht o a = tt
  nexts s t ss (f ∷ gs) hs ht o a =
      (next_none s t (whole_spot f.right l) ss hs ht (whole_at l f.right) o a.0, nexts s t ss gs hs ht o a.1)

  may_lead : (s t : Stop) (ss : List Spot) (gs : List Flat) → s.spot.at ≡ l → t.spot.at ≡ l → IsSpotAt l s.spot
      → IsSpotAt l t.spot → AllByRecursion (IsSpotAt l) ss → GoRight (s.spot ∷ (t.spot ∷ ss))
      → AllByRecursion (λ f. IsNoNext (s.spot ∷ (t.spot ∷ ss)) (whole_spot f.right l)) gs
      → AllByRecursion (IsFlatOf es) gs → AllByRecursion (LiesOn l) gs → AllByRecursion (MayLead es s t) gs
  may_lead s t ss [] e f hs ht a g n i o = tt
  may_lead s t ss (x ∷ gs) e f hs ht a g n i o = (
    record {
      is = i.0;
      on = subst (λ (k : Level). LiesOn k x) (sym e) o.0;
      aside = λ p q. aside s.spot t.spot (whole_spot x.right l) ss hs ht (whole_at l x.right) a g n.0
          (subst (λ (k : Level). IsLeft s.spot (whole_spot x.right k)) e p)
          (subst (λ (k : Level). IsLeft (whole_spot x.right k) t.spot) f q);
    },
    may_lead s t ss gs e f hs ht a g n.1 i.1 o.1,
  )

  -- what covers a way of the stretch is one of its flat edges
  one_of_them : (s t : Stop) (k : ℕ) → s.spot.at ≡ l → t.spot.at ≡ l → IsWithin l left right s.spot
      → IsWithin l left right t.spot → IsLeft s.spot t.spot → k < length es
      → covers s.spot t.spot (get_or es k no_edge) ≡ true → HasNumber fs k
  one_of_them s t k e f hs ht o there c =
      let flat : is_flat_at (edge_at es k) l ≡ true =
      subst (λ (m : Level). is_flat_at (edge_at es k) m ≡ true) e (and_parts (is_flat_at
      (edge_at es k) s.spot.at) _ c).0 in
      elim (number_split fb (fs ++ fa) k (flats.all k there flat)) [
        | inl a ↦
            let x = found es (λ f. IsLeft (whole_spot f.right l) (whole_spot left l)) fb k a
            (front (IsFlatOf es) fb (fs ++ fa) flats.each) before in
            let b = by x.0 x.2 x.1 in
            absurd (left_not (whole_spot x.0.right l) (whole_spot left l)
            (weakly (whole_spot left l) (whole_spot x.0.right l)
            (by_then_left l (whole_spot left l) s.spot (whole_spot x.0.right l) (whole_at l left) hs.at
            (whole_at l x.0.right) hs.from b.1)) x.3)
        | inr a ↦ elim (number_split fs fa k a) [
          | inl b ↦ b
          | inr b ↦
              let x = found es (λ f. IsLeft (whole_spot right l) (whole_spot f.left l)) fa k b
              (back (IsFlatOf es) fs fa (back (IsFlatOf es) fb (fs ++ fa) flats.each)) behind in
              let d = by x.0 x.2 x.1 in
              absurd (d.0 (by_then_left l s.spot (whole_spot right l) (whole_spot x.0.left l) hs.at (whole_at l right)
              (whole_at l x.0.left) hs.to x.3))
        ]
      ]
    where
      by : (x : Flat) → IsFlatOf es x → x.number ≡ k
          → (IsLeft s.spot (whole_spot x.left l) → ⊥) × IsLeft s.spot (whole_spot x.right l)
      by x i n =
          let r = covers_by es x s.spot t.spot (f ∙ sym e)
          (subst (λ (m : Level). pos 0 <ℤ m.d) (sym e) h.at_within.positive) hs.at.runs ht.at.runs i o
          (subst (λ (j : ℕ). covers s.spot t.spot (get_or es j no_edge) ≡ true) (sym n) c) in (
            λ p. r.0 (subst (λ (m : Level). IsLeft s.spot (whole_spot x.left m)) (sym e) p),
            subst (λ (m : Level). IsLeft s.spot (whole_spot x.right m)) e r.1,
          )

  tell : (ss : List Stop) → AllByRecursion (λ s. s.spot.at ≡ l) ss
      → AllByRecursion (IsWithin l left right) (spots_in ss)
      → GoRight (spots_in ss) → AllByRecursion (λ f. IsNoNext (spots_in ss) (whole_spot f.right l)) fs
      → TellWays es fs ss
  tell [] e a g n = tt
  tell (s ∷ []) e a g n = tt
  tell (s ∷ (t ∷ ss)) e a g n = (
    way_told es fs s t (e.1.0 ∙ sym e.0) (subst (λ (m : Level). pos 0 <ℤ m.d) (sym e.0) h.at_within.positive) g.0
        (go_on fs go) (may_lead s t (spots_in ss) fs e.0 e.1.0 a.0.at a.1.0.at (ats (spots_in ss) a.1.1) g n each on)
        (λ k o c. one_of_them s t k e.0 e.1.0 a.0 a.1.0 g.0 o c),
    tell (t ∷ ss) e.1 a.1 g.1 (nexts s.spot t.spot (spots_in ss) fs a.0.at a.1.0.at g.0 n),
  )
    where
      ats : (us : List Spot) → AllByRecursion (IsWithin l left right) us → AllByRecursion (IsSpotAt l) us
      ats [] b = tt
      ats (u ∷ us) b = (b.0.at, ats us b.1)

  pub tell_ways : (ms : List Mark) (run : Run) (ss : List Stop)
      → AllByRecursion (IsWithin l left right) (stretch_spots h ms run fs) → AreStopsAt h ss
      → AreStopsOf (stretch_spots h ms run fs) (spots_in ss) → TellWays es fs ss
  tell_ways ms run ss inside a b =
      tell ss (recursion_from_All (λ s. s.spot.at ≡ l) ss a.at)
      (of_stops (IsWithin l left right) (stretch_spots h ms run fs) (spots_in ss) inside b.sound) a.rightwards
      (starts (spots_in ss) fs (ends_among h ms run fs (spots_in ss) b))
    where
      starts : (us : List Spot) (gs : List Flat)
          → AllByRecursion (λ f. HasSpot us (whole_spot f.left l) × HasSpot us (whole_spot f.right l)) gs
          → AllByRecursion (λ f. IsNoNext us (whole_spot f.right l)) gs
      starts us [] c = tt
      starts [] (f ∷ gs) c = absurd c.0.1
      starts (u ∷ us) (f ∷ gs) c = (inl c.0.1, starts (u ∷ us) gs c.1)
