-- One height: the ways that go out from its places are the pieces of the definition, along the
-- height and up to the next.
use Rattle.std.proofs.Common.{◌≡◌, ℕ, Bool, true, false, List, [], ◌∷◌, ◌++◌, refl, sym, ap, ap₂, ◌∙◌, subst, arith, append_assoc}
use lib.IntN.{ℤ, pos, ◌*ℤ◌}
use lib.Signed.{◌<ℤ◌}
use Rattle.std.specs.Prelude.{int_lt, if◌then◌else◌}
use Rattle.std.specs.List.{AllByRecursion, concat}
use Rattle.std.specs.List.Sorted.{IsPermutation}
use Rattle.std.proofs.lemmas.Int.{ints}
use Rattle.std.proofs.lemmas.List.{map-append}
use Rattle.std.proofs.lemmas.List.Sorted.{IsPermutation-refl, IsPermutation-trans, IsPermutation-append_left, IsPermutation-append_right, IsPermutation-append_comm}
use Rattle.scad_geom.specs.declared.level.Level.{Level}
use Rattle.scad_geom.specs.declared.level.LeafEdge.{LeafEdge}
use Rattle.scad_geom.specs.declared.shape.Shape.{Shape}
use Rattle.scad_geom.specs.Line.{rise, x_at}
use Rattle.scad_geom.specs.Level.{IsAtMost}
use Rattle.scad_geom.specs.Heights.{AreNeighbours}
use Rattle.scad_geom.proofs.Heights.{lower_then_at_most, at_most_chain, same_at_least, same_at_most}
use Rattle.scad_geom.proofs.Order.{front, back}
use Rattle.slice_bundles.specs.Bundles.{edge_at, AreBundles}
use Rattle.slice_bundles.proofs.Live.{IsLive, live_bundles}
use Rattle.slice_pieces.specs.declared.piece.Spot.{Spot}
use Rattle.slice_pieces.specs.declared.piece.Piece.{Piece}
use Rattle.slice_pieces.specs.Spots.{point_of}
use Rattle.slice_border.specs.Pieces.{spot_on, across, IsLeft, piece_between, bundle_piece, slab_pieces}
use Rattle.slice_border.specs.Beside.{left_value, RisesFirst, passing, lies_left}
use Rattle.slice_border.proofs.Middle.{size_of, value_left, value_right}
use Rattle.slice_border.proofs.BundleValues.{left_is, outside_right}
use Rattle.slice_border.proofs.RightOf.{right_of}
use Rattle.slice_border.proofs.Winding.{IsSpotAt}
use Rattle.sweep_laws.specs.Ways.{Way, pieces_of, way_between, piece_of}
use Rattle.sweep_laws.specs.Visits.{outs_of}
use Rattle.sweep_laws.specs.Fronts.{Strand, bundles_of, value_before, way_from, ways_from, AreValued}
use Rattle.sweep_laws.specs.Crossing.{Place, spots_of, all_below, all_above, flat_way, visits_at, MeetsAt}
use Rattle.sweep_laws.proofs.Spots.{spot_at}
use Rattle.sweep_laws.proofs.Order.{crossed_lists}
use Rattle.sweep_laws.proofs.Strands.{froms_append}

-- ---- the pieces of ways
pub between_pieces : (v w : Bool) (s t : Spot) (name : ℕ) → pieces_of (way_between v w s t name)
    ≡ piece_between v w s t name
between_pieces true true s t name = refl
between_pieces true false s t name = refl
between_pieces false true s t name = refl
between_pieces false false s t name = refl

-- ---- values
pub first_is : (es : List LeafEdge) (shape : Shape) (ss : List Strand) → AreValued es shape ss
    → value_before ss false ≡ left_value es shape (bundles_of ss)
first_is es shape [] h = sym (outside_right es shape)
first_is es shape (s ∷ ss) h = h.0

pub later_valued : (es : List LeafEdge) (shape : Shape) (xs ys : List Strand) → AreValued es shape (xs ++ ys)
    → AreValued es shape ys
later_valued es shape [] ys h = h
later_valued es shape (x ∷ xs) ys h = later_valued es shape xs ys h.1

-- ---- between two heights
module _ (es : List LeafEdge) (shape : Shape) (l u : Level) (n : AreNeighbours es l u) where
  first_live : (before : List (List ℕ)) (k : ℕ) (ks : List ℕ) (rest : List (List ℕ))
      → AllByRecursion (IsLive es l u) (concat (before ++ ((k ∷ ks) ∷ rest))) → IsLive es l u k
  first_live [] k ks rest h = h.0
  first_live (b ∷ before) k ks rest h = first_live before k ks rest
      (back (IsLive es l u) b (concat (before ++ ((k ∷ ks) ∷ rest))) h)

  one_bundle : (before rest : List (List ℕ)) (b : List ℕ) (v w : Bool) → AreBundles es l u (before ++ (b ∷ rest))
      → v ≡ left_value es shape (b ∷ rest) → w ≡ left_value es shape rest
      → pieces_of (way_from es l u v w b) ≡ bundle_piece es shape l u b
  one_bundle before rest [] v w a hv hw = refl
  one_bundle before rest (k ∷ ks) v w a hv hw =
      let lk = first_live before k ks rest (live_bundles es l u (before ++ ((k ∷ ks) ∷ rest)) a) in
      between_pieces v w (spot_on (edge_at es k) l) (spot_on (edge_at es k) u) k
      ∙ ap₂ (λ (x y : Bool). piece_between x y (spot_on (edge_at es k) l) (spot_on (edge_at es k) u) k)
      (hv ∙ left_is es shape ((k ∷ ks) ∷ rest) ∙ sym (value_left es l u n k lk shape ks before rest a))
      (hw ∙ left_is es shape rest ∙ sym (value_right es l u n k lk shape ks before rest a))

  slab_from : (before : List (List ℕ)) (ss : List Strand) → AreBundles es l u (before ++ bundles_of ss)
      → AreValued es shape ss → pieces_of (ways_from es l u false ss) ≡ slab_pieces es shape l u (bundles_of ss)
  slab_from before [] a h = refl
  slab_from before (s ∷ ss) a h =
      map-append piece_of (way_from es l u s.left (value_before ss false) s.bundle) (ways_from es l u false ss)
      ∙ ap₂ (λ (xs ys : List Piece). xs ++ ys)
      (one_bundle before (bundles_of ss) s.bundle s.left (value_before ss false) a h.0 (first_is es shape ss h.1))
      (slab_from (before ++ (s.bundle ∷ [])) ss
      (subst (AreBundles es l u) (sym (append_assoc before (s.bundle ∷ []) (bundles_of ss))) a) h.1)

  pub slab_is : (ss : List Strand) → AreBundles es l u (bundles_of ss) → AreValued es shape ss
      → pieces_of (ways_from es l u false ss) ≡ slab_pieces es shape l u (bundles_of ss)
  slab_is ss a h = slab_from [] ss a h

-- ---- along a height
-- the strands of some places on one side of the height
abbrev pub gathered : (Place → List Strand) → List Place → List Strand
gathered side [] = []
gathered side (p ∷ ps) = side p ++ gathered side ps

pub gathered_below : (ps : List Place) → gathered (λ p. p.below) ps ≡ all_below ps
gathered_below [] = refl
gathered_below (p ∷ ps) = ap (λ (ss : List Strand). p.below ++ ss) (gathered_below ps)

pub gathered_above : (ps : List Place) → gathered (λ p. p.above) ps ≡ all_above ps
gathered_above [] = refl
gathered_above (p ∷ ps) = ap (λ (ss : List Strand). p.above ++ ss) (gathered_above ps)

module _ (es : List LeafEdge) (l : Level) where
  -- the test of a bundle's first edge says whether it meets the height to the right of a spot
  lies_by : (s : Spot) (k : ℕ) → IsSpotAt l s → pos 0 <ℤ rise (edge_at es k)
      → lies_left es true (point_of s) k ≡ int_lt (s.x *ℤ pos (spot_on (edge_at es k) l).run)
      ((spot_on (edge_at es k) l).x *ℤ pos s.run)
  lies_by s k hs r =
      sym (right_of (edge_at es k) s.x s.at.n s.at.d (pos s.run))
      ∙ ap₂ (λ (z : ℤ) (m : Level). int_lt (s.x *ℤ z) (x_at (edge_at es k) m.n m.d *ℤ pos s.run))
      (sym (size_of (rise (edge_at es k)) r)) hs.at

  to_right : (s t : Spot) (k : ℕ) → IsSpotAt l s → IsSpotAt l t → pos 0 <ℤ rise (edge_at es k) → IsLeft s t
      → MeetsAt es l t (k ∷ []) → lies_left es true (point_of s) k ≡ true
  to_right s t k hs ht r o m =
      let w : Spot = spot_on (edge_at es k) l in
      let hw = spot_at (edge_at es k) l r in
      let q = lower_then_at_most (across s) (across t) (across w) hs.runs ht.runs hw.runs o
      (same_at_most (across w) (across t) m) in
      lies_by s k hs r ∙ sym (omega (arith, ints))

  not_right : (s t : Spot) (k : ℕ) → IsSpotAt l s → IsSpotAt l t → pos 0 <ℤ rise (edge_at es k)
      → IsAtMost (across t) (across s) → MeetsAt es l t (k ∷ []) → lies_left es true (point_of s) k ≡ false
  not_right s t k hs ht r o m =
      let w : Spot = spot_on (edge_at es k) l in
      let hw = spot_at (edge_at es k) l r in
      let q = at_most_chain (across w) (across t) (across s) hw.runs ht.runs hs.runs
      (same_at_least (across w) (across t) m) o in
      lies_by s k hs r ∙ sym (omega (arith, ints))

  pub pass_strands : (s t : Spot) (ss : List Strand) (rest : List (List ℕ)) → IsSpotAt l s → IsSpotAt l t
      → IsAtMost (across t) (across s) → AllByRecursion (λ x. RisesFirst es x.bundle) ss
      → AllByRecursion (λ x. MeetsAt es l t x.bundle) ss
      → passing es true (point_of s) (bundles_of ss ++ rest) ≡ passing es true (point_of s) rest
  pass_strands s t [] rest hs ht o r m = refl
  pass_strands s t (x ∷ ss) rest hs ht o r m = by_bundle x.bundle r.0 m.0 ∙ pass_strands s t ss rest hs ht o r.1 m.1
    where
      by_bundle : (b : List ℕ) → RisesFirst es b → MeetsAt es l t b
          → passing es true (point_of s) (b ∷ (bundles_of ss ++ rest))
          ≡ passing es true (point_of s) (bundles_of ss ++ rest)
      by_bundle [] r m = refl
      by_bundle (k ∷ ks) r m = ap (λ (c : Bool). if c then (k ∷ ks)
          ∷ (bundles_of ss ++ rest) else passing es true (point_of s) (bundles_of ss ++ rest))
          (not_right s t k hs ht r.1 o m)

  stop_strands : (s t : Spot) (ss : List Strand) (rest : List (List ℕ)) → IsSpotAt l s → IsSpotAt l t → IsLeft s t
      → AllByRecursion (λ x. RisesFirst es x.bundle) ss → AllByRecursion (λ x. MeetsAt es l t x.bundle) ss
      → passing es true (point_of s) rest ≡ rest
      → passing es true (point_of s) (bundles_of ss ++ rest) ≡ bundles_of ss ++ rest
  stop_strands s t [] rest hs ht o r m h = h
  stop_strands s t (x ∷ ss) rest hs ht o r m h = by_bundle x.bundle r.0 m.0
    where
      by_bundle : (b : List ℕ) → RisesFirst es b → MeetsAt es l t b
          → passing es true (point_of s) (b ∷ (bundles_of ss ++ rest)) ≡ b ∷ (bundles_of ss ++ rest)
      by_bundle [] r m = absurd m
      by_bundle (k ∷ ks) r m = ap (λ (c : Bool). if c then (k ∷ ks)
          ∷ (bundles_of ss ++ rest) else passing es true (point_of s) (bundles_of ss ++ rest))
          (to_right s t k hs ht r.1 o m)

  pub bundles_append : (xs ys : List Strand) → bundles_of (xs ++ ys) ≡ bundles_of xs ++ bundles_of ys
  bundles_append xs ys = map-append (λ (s : Strand). s.bundle) xs ys

  module _ (side : Place → List Strand) where
    -- what is known of some places' strands
    abbrev pub AllRise : List Place → Type 0
    AllRise ps = AllByRecursion (λ s. RisesFirst es s.bundle) (gathered side ps)

    abbrev pub AllMeet : List Place → Type 0
    AllMeet ps = AllByRecursion (λ p. AllByRecursion (λ s. MeetsAt es l p.at s.bundle) (side p)) ps

    pub pass_places : (s : Spot) (ps : List Place) (rest : List (List ℕ)) → IsSpotAt l s
        → AllByRecursion (IsSpotAt l) (spots_of ps)
        → AllByRecursion (λ p. IsAtMost (across p.at) (across s)) ps → AllRise ps → AllMeet ps
        → passing es true (point_of s) (bundles_of (gathered side ps) ++ rest) ≡ passing es true (point_of s) rest
    pass_places s [] rest hs hp o r m = refl
    pass_places s (p ∷ ps) rest hs hp o r m =
        ap (λ (bs : List (List ℕ)). passing es true (point_of s) (bs ++ rest))
        (bundles_append (side p) (gathered side ps))
        ∙ ap (passing es true (point_of s)) (append_assoc (bundles_of (side p)) (bundles_of (gathered side ps)) rest)
        ∙ pass_strands s p.at (side p) (bundles_of (gathered side ps) ++ rest) hs hp.0 o.0
        (front (λ s. RisesFirst es s.bundle) (side p) (gathered side ps) r) m.0
        ∙ pass_places s ps rest hs hp.1 o.1 (back (λ s. RisesFirst es s.bundle) (side p) (gathered side ps) r) m.1

    pub stop_places : (s : Spot) (ps : List Place) → IsSpotAt l s → AllByRecursion (IsSpotAt l) (spots_of ps)
        → AllByRecursion (λ p. IsLeft s p.at) ps → AllRise ps → AllMeet ps
        → passing es true (point_of s) (bundles_of (gathered side ps)) ≡ bundles_of (gathered side ps)
    stop_places s [] hs hp o r m = refl
    stop_places s (p ∷ ps) hs hp o r m =
        ap (passing es true (point_of s)) (bundles_append (side p) (gathered side ps))
        ∙ stop_strands s p.at (side p) (bundles_of (gathered side ps)) hs hp.0 o.0
        (front (λ s. RisesFirst es s.bundle) (side p) (gathered side ps) r) m.0
        (stop_places s ps hs hp.1 o.1 (back (λ s. RisesFirst es s.bundle) (side p) (gathered side ps) r) m.1)
        ∙ sym (bundles_append (side p) (gathered side ps))

-- ---- the order of the ways that go out
abbrev pub flats_from : List LeafEdge → List Place → List Way
flats_from es [] = []
flats_from es (p ∷ ps) = flat_way es p.at p ps ++ flats_from es ps

pub outs_are : (es : List LeafEdge) (l u : Level) (ps : List Place)
    → IsPermutation (outs_of (visits_at es l u ps)) (flats_from es ps ++ ways_from es l u false (all_above ps))
outs_are es l u [] = IsPermutation-refl []
outs_are es l u (p ∷ ps) =
    let a : List Way = ways_from es l u (value_before (all_above ps) false) p.above in
    let f : List Way = flat_way es p.at p ps in
    let g : List Way = flats_from es ps in
    let w : List Way = ways_from es l u false (all_above ps) in
    subst (λ (ws : List Way). IsPermutation ((a ++ f) ++ outs_of (visits_at es l u ps)) ((f ++ g) ++ ws))
    (sym (froms_append es l u false p.above (all_above ps)))
    (IsPermutation-trans ((a ++ f) ++ outs_of (visits_at es l u ps)) ((a ++ f) ++ (g ++ w)) ((f ++ g) ++ (a ++ w))
    (IsPermutation-append_right (a ++ f) (outs_of (visits_at es l u ps)) (g ++ w) (outs_are es l u ps))
    (IsPermutation-trans ((a ++ f) ++ (g ++ w)) ((f ++ a) ++ (g ++ w)) ((f ++ g) ++ (a ++ w))
    (IsPermutation-append_left (g ++ w) (a ++ f) (f ++ a) (IsPermutation-append_comm a f)) (crossed_lists f a g w)))
