-- Spots at one place lie away from the others.
use Rattle.std.proofs.Common.{◌≡◌, inl, inr, Bool, true, false, cond, true≢false, List, [], ◌∷◌, sym, ◌∙◌}
use Rattle.std.specs.List.{AllByRecursion}
use Rattle.std.specs.Cmp.{both_ways}
use Rattle.scad_base.proofs.Lists.{AllByRecursion-append}
use Rattle.scad_geom.specs.Point.{Point, is_same_point}
use Rattle.winding_laws.specs.Nearness.{IsPoint}
use Rattle.winding_laws.proofs.Sameness.{same_through}
use Rattle.slice_pieces.specs.declared.piece.Spot.{Spot}
use Rattle.slice_pieces.specs.Spots.{point_of}
use Rattle.slice_pieces.proofs.Courses.{turn_same}
use Rattle.sweep_laws.specs.Ways.{Way, piece_of, pieces_of, IsAt, IsAway}
use Rattle.sweep_laws.specs.Visits.{Visit, outs_of, IsAtOne, Leads, AreInSweepOrder}
use Rattle.sweep_laws.proofs.Touches.{LiesAway}

-- a spot lies away from each of these places
abbrev pub AwayFromAll : List Visit → Spot → Type 0
AwayFromAll vs s = AllByRecursion (λ v. IsAway (point_of v.at) s) vs

-- these places differ from a point
abbrev pub AreElsewhere : Point → List Visit → Type 0
AreElsewhere p vs = AllByRecursion (λ v. IsAway p v.at) vs

turned : (p q : Point) → is_same_point p q ≡ is_same_point q p
turned p q = both_ways (is_same_point p q) (is_same_point q p) (turn_same p q) (turn_same q p)

-- what is at a point lies away from where that isn't
pub away_from : (p u : Point) (s : Spot) → IsPoint p → IsPoint (point_of s) → IsAt p s → is_same_point p u ≡ false
    → IsAway u s
away_from p u s dp ds h k = sym (same_through u p (point_of s) dp ds h) ∙ turned u p ∙ k

pub all_away : (p : Point) (s : Spot) → IsPoint p → IsPoint (point_of s) → IsAt p s → (vs : List Visit)
    → AreElsewhere p vs → AwayFromAll vs s
all_away p s dp ds h [] a = tt
all_away p s dp ds h (v ∷ vs) a = (away_from p (point_of v.at) s dp ds h a.0, all_away p s dp ds h vs a.1)

pub points : (vs : List Visit) → AreInSweepOrder vs → AllByRecursion (λ v. IsPoint (point_of v.at)) vs
points [] h = tt
points (v ∷ vs) h = (h.0, points vs h.4)

pub away_at_one : (p : Point) (s : Spot) → IsPoint (point_of s) → (vs : List Visit)
    → AllByRecursion (λ v. IsPoint (point_of v.at)) vs → AreElsewhere p vs → IsAtOne vs s → IsAway p s
away_at_one p s ds [] d a h = absurd h
away_at_one p s ds (v ∷ vs) d a (inl h) = sym (same_through p (point_of v.at) (point_of s) d.0 ds h) ∙ a.0
away_at_one p s ds (v ∷ vs) d a (inr h) = away_at_one p s ds vs d.1 a.1 h

-- a spot that is at one of these places, but not at the first
pub not_first : (v : Visit) (vs : List Visit) (s : Spot) → IsAway (point_of v.at) s → IsAtOne (v ∷ vs) s → IsAtOne vs s
not_first v vs s a (inl h) = absurd (true≢false (sym h ∙ a))
not_first v vs s a (inr h) = h

-- ---- the ends of a way
pub piece_away : (p : Point) (w : Way) → IsAway p w.near → IsAway p w.far → LiesAway p (piece_of w)
piece_away p w h k = by_flag w.forward
  where
    by_flag : (b : Bool) → IsAway p (cond b w.near w.far) × IsAway p (cond b w.far w.near)
    by_flag true = (h, k)
    by_flag false = (k, h)

-- ways that lead on from later places lie away from a point that is none of these
leads_away : (p : Point) (v : Visit) (vs : List Visit) → IsPoint (point_of v.at)
    → AllByRecursion (λ u. IsPoint (point_of u.at)) vs → IsAway p v.at → AreElsewhere p vs → (ws : List Way)
    → AllByRecursion (Leads v.at vs) ws → AllByRecursion (λ w. IsAway p w.near × IsAway p w.far) ws
leads_away p v vs dv d h a [] l = tt
leads_away p v vs dv d h a (w ∷ ws) l = (
  (
    sym (same_through p (point_of v.at) (point_of w.near) dv l.0.near_point l.0.near) ∙ h,
    away_at_one p w.far l.0.far_point vs d a l.0.far,
  ),
  leads_away p v vs dv d h a ws l.1,
)

pub outs_away : (p : Point) (vs : List Visit) → AreInSweepOrder vs → AreElsewhere p vs
    → AllByRecursion (λ w. IsAway p w.near × IsAway p w.far) (outs_of vs)
outs_away p [] h a = tt
outs_away p (v ∷ vs) h a = AllByRecursion-append (λ w. IsAway p w.near × IsAway p w.far) v.outs (outs_of vs)
    (leads_away p v vs h.0 (points vs h.4) a.0 a.1 v.outs h.2) (outs_away p vs h.4 a.1)

pub pieces_away : (p : Point) (ws : List Way) → AllByRecursion (λ w. IsAway p w.near × IsAway p w.far) ws
    → AllByRecursion (LiesAway p) (pieces_of ws)
pieces_away p [] h = tt
pieces_away p (w ∷ ws) h = (piece_away p w h.0.0 h.0.1, pieces_away p ws h.1)
