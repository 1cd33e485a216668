-- Along a height: the values above and below are those of the strands, so the ways along it are the
-- pieces of the definition.
use Rattle.std.proofs.Common.{◌≡◌, ℕ, ◌<◌, Bool, true, false, List, [], ◌∷◌, ◌++◌, refl, sym, ap, ap₂, ◌∙◌, arith}
use lib.IntN.{pos}
use lib.Signed.{◌<ℤ◌}
use Rattle.std.specs.Prelude.{Option, None, Some}
use Rattle.std.specs.List.{AllByRecursion, position}
use Rattle.std.proofs.lemmas.Int.{ints}
use Rattle.std.proofs.lemmas.List.{map-append}
use Rattle.scad_geom.specs.declared.level.Level.{Level}
use Rattle.scad_geom.specs.declared.level.LeafEdge.{LeafEdge}
use Rattle.scad_geom.specs.declared.shape.Shape.{Shape}
use Rattle.scad_geom.specs.Level.{IsAtMost}
use Rattle.scad_geom.specs.Shape.{is_in_by}
use Rattle.scad_geom.proofs.Heights.{lower_chain, lower_weak, at_most_chain}
use Rattle.scad_geom.proofs.Order.{front, back}
use Rattle.slice_pieces.specs.declared.piece.Spot.{Spot}
use Rattle.slice_pieces.specs.declared.piece.Piece.{Piece}
use Rattle.slice_pieces.specs.Spots.{point_of}
use Rattle.slice_border.specs.Pieces.{across, IsLeft, GoRight, piece_between, covers, stretch_piece, flat_pieces}
use Rattle.slice_border.specs.Beside.{left_value, RisesFirst, passing}
use Rattle.slice_border.specs.Beside.{TellBeside}
use Rattle.slice_border.proofs.Winding.{IsSpotAt}
use Rattle.sweep_laws.specs.Ways.{pieces_of, piece_of}
use Rattle.sweep_laws.specs.Fronts.{Strand, bundles_of, value_before}
use Rattle.sweep_laws.specs.Crossing.{Place, spots_of, all_below, all_above, way_along, flat_way}
use Rattle.sweep_laws.proofs.LevelPieces.{between_pieces, gathered, pass_strands, stop_places, bundles_append, AllRise, AllMeet, flats_from}

-- ---- places from left to right
pub all_left : (l : Level) (s : Spot) (ps : List Place) → IsSpotAt l s → AllByRecursion (IsSpotAt l) (spots_of ps)
    → GoRight (s ∷ spots_of ps) → AllByRecursion (λ p. IsLeft s p.at) ps
all_left l s [] hs hp r = tt
all_left l s (p ∷ ps) hs hp r = (r.0, further ps hp.1 (all_left l p.at ps hp.0 hp.1 r.1))
  where
    further : (qs : List Place) → AllByRecursion (IsSpotAt l) (spots_of qs) → AllByRecursion (λ q. IsLeft p.at q.at) qs
        → AllByRecursion (λ q. IsLeft s q.at) qs
    further [] h o = tt
    further (q ∷ qs) h o = (
      lower_chain (across s) (across p.at) (across q.at) hs.runs hp.0.runs h.0.runs r.0 o.0,
      further qs h.1 o.1,
    )

itself : (s : Spot) → IsAtMost (across s) (across s)
itself s = omega (arith, ints)

runs_up : (n : ℕ) → pos 0 <ℤ pos n → 0 < n
runs_up n h = omega (arith, ints)

-- ---- the bundles to the right of a place, on one side of the height
module _ (es : List LeafEdge) (l : Level) (side : Place → List Strand) (bundles : List (List ℕ)) where
  -- the bundles before some places lie to the left of each spot that isn't to the left of the first
  abbrev pub ArePast : List Place → Type 0
  ArePast [] = Unit {0}
  ArePast (p ∷ ps) = (s : Spot) → IsSpotAt l s → IsAtMost (across p.at) (across s)
      → passing es true (point_of s) bundles ≡ passing es true (point_of s) (bundles_of (gathered side (p ∷ ps)))

  -- those at one place too
  past_place : (p : Place) (ps : List Place) (s : Spot) → IsSpotAt l p.at → AllRise es l side (p ∷ ps)
      → AllMeet es l side (p ∷ ps) → IsSpotAt l s → IsAtMost (across p.at) (across s)
      → passing es true (point_of s) (bundles_of (gathered side (p ∷ ps)))
      ≡ passing es true (point_of s) (bundles_of (gathered side ps))
  past_place p ps s hp r m hs o =
      ap (passing es true (point_of s)) (bundles_append es l (side p) (gathered side ps))
      ∙ pass_strands es l s p.at (side p) (bundles_of (gathered side ps)) hs hp o
      (front (λ s. RisesFirst es s.bundle) (side p) (gathered side ps) r) m.0

  pub past_next : (p : Place) (ps : List Place) → AllByRecursion (IsSpotAt l) (spots_of (p ∷ ps))
      → GoRight (spots_of (p ∷ ps)) → AllRise es l side (p ∷ ps) → AllMeet es l side (p ∷ ps) → ArePast (p ∷ ps)
      → ArePast ps
  past_next p [] hp g r m h = tt
  past_next p (q ∷ ps) hp g r m h = λ s hs o.
      let more : IsAtMost (across p.at) (across s) = at_most_chain (across p.at) (across q.at)
      (across s) hp.0.runs hp.1.0.runs hs.runs
      (lower_weak (across p.at) (across q.at) g.0) o in
      h s hs more ∙ past_place p (q ∷ ps) s hp.0 r m hs more

  pub passed_at : (p : Place) (ps : List Place) → AllByRecursion (IsSpotAt l) (spots_of (p ∷ ps))
      → GoRight (spots_of (p ∷ ps)) → AllRise es l side (p ∷ ps) → AllMeet es l side (p ∷ ps) → ArePast (p ∷ ps)
      → passing es true (point_of p.at) bundles ≡ bundles_of (gathered side ps)
  passed_at p ps hp g r m h =
      h p.at hp.0 (itself p.at)
      ∙ past_place p ps p.at hp.0 r m hp.0 (itself p.at)
      ∙ stop_places es l side p.at ps hp.0 hp.1 (all_left l p.at ps hp.0 hp.1 g)
      (back (λ s. RisesFirst es s.bundle) (side p) (gathered side ps) r) m.1

  pub past_all : (ps : List Place) → bundles ≡ bundles_of (gathered side ps) → ArePast ps
  past_all [] e = tt
  past_all (p ∷ ps) e = λ s hs o. ap (passing es true (point_of s)) e

-- what is known of the strands of some places on one side
pub record HasSide (es : List LeafEdge) (l : Level) (side : Place → List Strand) (bundles : List (List ℕ))
    (ps : List Place) : Type 0 where
  pub rise : AllRise es l side ps
  pub meet : AllMeet es l side ps
  pub past : ArePast es l side bundles ps

pub next_side : (es : List LeafEdge) (l : Level) (side : Place → List Strand) (bundles : List (List ℕ)) (p : Place)
    (ps : List Place) → AllByRecursion (IsSpotAt l) (spots_of (p ∷ ps)) → GoRight (spots_of (p ∷ ps))
    → HasSide es l side bundles (p ∷ ps) → HasSide es l side bundles ps
next_side es l side bundles p ps hp g h = record {
  rise = back (λ s. RisesFirst es s.bundle) (side p) (gathered side ps) h.rise;
  meet = h.meet.1;
  past = past_next es l side bundles p ps hp g h.rise h.meet h.past;
}

-- ---- the value hard by a place, on one side of the height
value_at : (es : List LeafEdge) (shape : Shape) (l : Level) (above : Bool) (side : Place → List Strand)
    (bundles : List (List ℕ)) → TellBeside above es shape l bundles → (p : Place) (ps : List Place)
    → AllByRecursion (IsSpotAt l) (spots_of (p ∷ ps)) → GoRight (spots_of (p ∷ ps)) → HasSide es l side bundles (p ∷ ps)
    → is_in_by above true es shape (point_of p.at) ≡ left_value es shape (bundles_of (gathered side ps))
value_at es shape l above side bundles tell p ps hp g h =
    tell p.at hp.0.at (runs_up p.at.run hp.0.runs)
    ∙ ap (left_value es shape) (passed_at es l side bundles p ps hp g h.rise h.meet h.past)

-- ---- the ways along the height
along_pieces : (es : List LeafEdge) (shape : Shape) (v w : Bool) (s t : Spot) (name : Option ℕ)
    → v ≡ is_in_by true true es shape (point_of s) → w ≡ is_in_by false true es shape (point_of s)
    → pieces_of (way_along v w s t name) ≡ stretch_piece es shape s t name
along_pieces es shape v w s t None hv hw = refl
along_pieces es shape v w s t (Some k) hv hw =
    between_pieces v w s t k ∙ ap₂ (λ (x y : Bool). piece_between x y s t k) hv hw

module _ (es : List LeafEdge) (shape : Shape) (l : Level) (under over : List (List ℕ))
    (tell_under : TellBeside false es shape l under) (tell_over : TellBeside true es shape l over) where
  abbrev Under : List Place → Type 0
  Under = HasSide es l (λ p. p.below) under

  abbrev Over : List Place → Type 0
  Over = HasSide es l (λ p. p.above) over

  stretch_is : (p q : Place) (ps : List Place) → AllByRecursion (IsSpotAt l) (spots_of (p ∷ (q ∷ ps)))
      → GoRight (spots_of (p ∷ (q ∷ ps))) → Under (p ∷ (q ∷ ps)) → Over (p ∷ (q ∷ ps))
      → value_before (all_below (q ∷ ps)) false ≡ left_value es shape (bundles_of (gathered (λ p. p.below) (q ∷ ps)))
      → value_before (all_above (q ∷ ps)) false ≡ left_value es shape (bundles_of (gathered (λ p. p.above) (q ∷ ps)))
      → pieces_of (flat_way es p.at p (q ∷ ps)) ≡ stretch_piece es shape p.at q.at (position (covers p.at q.at) es)
  stretch_is p q ps hp g a b x y =
      along_pieces es shape (value_before (all_above (q ∷ ps)) false)
      (value_before (all_below (q ∷ ps)) false) p.at q.at
      (position (covers p.at q.at) es)
      (y ∙ sym (value_at es shape l true (λ p. p.above) over tell_over p (q ∷ ps) hp g b))
      (x ∙ sym (value_at es shape l false (λ p. p.below) under tell_under p (q ∷ ps) hp g a))

  -- the values of both sides to the right of each place
  abbrev pub AreBothValued : List Place → Type 0
  AreBothValued [] = Unit {0}
  AreBothValued (p ∷ ps) =
      (value_before (all_below ps) false ≡ left_value es shape (bundles_of (gathered (λ p. p.below) ps)))
      × (value_before (all_above ps) false ≡ left_value es shape (bundles_of (gathered (λ p. p.above) ps)))
      × AreBothValued ps

  pub flats_are : (ps : List Place) → AllByRecursion (IsSpotAt l) (spots_of ps) → GoRight (spots_of ps)
      → HasSide es l (λ p. p.below) under ps → HasSide es l (λ p. p.above) over ps → AreBothValued ps
      → pieces_of (flats_from es ps) ≡ flat_pieces es shape (spots_of ps)
  flats_are [] hp g a b v = refl
  flats_are (p ∷ []) hp g a b v = refl
  flats_are (p ∷ (q ∷ ps)) hp g a b v =
      map-append piece_of (flat_way es p.at p (q ∷ ps)) (flats_from es (q ∷ ps))
      ∙ ap₂ (λ (xs ys : List Piece). xs ++ ys) (stretch_is p q ps hp g a b v.0 v.1)
      (flats_are (q ∷ ps) hp.1 g.1 (next_side es l (λ p. p.below) under p (q ∷ ps) hp g a)
      (next_side es l (λ p. p.above) over p (q ∷ ps) hp g b) v.2)
