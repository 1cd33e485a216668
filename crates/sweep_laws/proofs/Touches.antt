-- How many pieces start and end at a place, where ways come in and others go out and no other piece has an end there.
use Rattle.std.proofs.Common.{◌≡◌, ℕ, ◌+◌, Bool, true, false, not, cond, List, [], ◌∷◌, ◌++◌, refl, ap₂, ◌∙◌, arith}
use Rattle.std.specs.List.{AllByRecursion}
use Rattle.scad_geom.specs.Point.{Point, is_same_point}
use Rattle.scad_geom.specs.Balance.{starts_at, ends_at}
use Rattle.scad_geom.proofs.Balance.{once, starts-cons, ends-cons}
use Rattle.winding_laws.specs.Nearness.{IsPoint}
use Rattle.slice_pieces.specs.declared.piece.Spot.{Spot}
use Rattle.slice_pieces.specs.declared.piece.Piece.{Piece}
use Rattle.slice_pieces.specs.Spots.{point_of}
use Rattle.slice_pieces.specs.Pieces.{way_of, ways_of}
use Rattle.sweep_laws.specs.Ways.{Way, piece_of, pieces_of, IsAt, IsAway}

-- a way that comes in ends at the place, one that goes out begins there, and the other end lies elsewhere
abbrev pub ComesIn : Point → Way → Type 0
ComesIn p w = IsAt p w.far × IsAway p w.near × IsPoint (point_of w.far) × IsPoint (point_of w.near)

abbrev pub GoesOut : Point → Way → Type 0
GoesOut p w = IsAt p w.near × IsAway p w.far × IsPoint (point_of w.near) × IsPoint (point_of w.far)

-- a piece lies elsewhere
abbrev pub LiesAway : Point → Piece → Type 0
LiesAway p q = IsAway p q.from × IsAway p q.to

-- how many ways run forward, and how many backward
abbrev pub forwards : List Way → ℕ
forwards [] = 0
forwards (w ∷ ws) = once w.forward + forwards ws

abbrev pub backwards : List Way → ℕ
backwards [] = 0
backwards (w ∷ ws) = once (not w.forward) + backwards ws

-- which end of a way is at the place
pub at_to : (p : Point) (b : Bool) (s t : Spot) → IsAt p t → IsAway p s → is_same_point p (point_of (cond b t s)) ≡ b
at_to p true s t h k = h
at_to p false s t h k = k

pub at_from : (p : Point) (b : Bool) (s t : Spot) → IsAt p t → IsAway p s
    → is_same_point p (point_of (cond b s t)) ≡ not b
at_from p true s t h k = k
at_from p false s t h k = h

one_more : (m n k : ℕ) (b c : Bool) → m ≡ once b + n → b ≡ c → n ≡ k → m ≡ once c + k
one_more m n k b c h e f = h ∙ ap₂ (λ (b : Bool) (n : ℕ). once b + n) e f

append_more : (m n a x y : ℕ) → m ≡ a + n → n ≡ x + y → m ≡ (a + x) + y
append_more m n a x y h k = omega arith

module _ (p : Point) (rest : List Piece) where
  pub ends_in : (ws : List Way) → AllByRecursion (ComesIn p) ws
      → ends_at p (ways_of (pieces_of ws ++ rest)) ≡ forwards ws + ends_at p (ways_of rest)
  ends_in [] h = omega arith
  ends_in (w ∷ ws) h =
      append_more _ _ (once w.forward) (forwards ws) (ends_at p (ways_of rest))
      (one_more _ _ _ _ w.forward (ends-cons p (way_of (piece_of w)) (ways_of (pieces_of ws ++ rest)))
      (at_to p w.forward w.near w.far h.0.0 h.0.1) refl) (ends_in ws h.1)

  pub starts_in : (ws : List Way) → AllByRecursion (ComesIn p) ws
      → starts_at p (ways_of (pieces_of ws ++ rest)) ≡ backwards ws + starts_at p (ways_of rest)
  starts_in [] h = omega arith
  starts_in (w ∷ ws) h =
      append_more _ _ (once (not w.forward)) (backwards ws) (starts_at p (ways_of rest))
      (one_more _ _ _ _ (not w.forward) (starts-cons p (way_of (piece_of w)) (ways_of (pieces_of ws ++ rest)))
      (at_from p w.forward w.near w.far h.0.0 h.0.1) refl) (starts_in ws h.1)

  pub ends_out : (ws : List Way) → AllByRecursion (GoesOut p) ws
      → ends_at p (ways_of (pieces_of ws ++ rest)) ≡ backwards ws + ends_at p (ways_of rest)
  ends_out [] h = omega arith
  ends_out (w ∷ ws) h =
      append_more _ _ (once (not w.forward)) (backwards ws) (ends_at p (ways_of rest))
      (one_more _ _ _ _ (not w.forward) (ends-cons p (way_of (piece_of w)) (ways_of (pieces_of ws ++ rest)))
      (at_from p w.forward w.far w.near h.0.0 h.0.1) refl) (ends_out ws h.1)

  pub starts_out : (ws : List Way) → AllByRecursion (GoesOut p) ws
      → starts_at p (ways_of (pieces_of ws ++ rest)) ≡ forwards ws + starts_at p (ways_of rest)
  starts_out [] h = omega arith
  starts_out (w ∷ ws) h =
      append_more _ _ (once w.forward) (forwards ws) (starts_at p (ways_of rest))
      (one_more _ _ _ _ w.forward (starts-cons p (way_of (piece_of w)) (ways_of (pieces_of ws ++ rest)))
      (at_to p w.forward w.far w.near h.0.0 h.0.1) refl) (starts_out ws h.1)

-- nothing starts or ends where all lies elsewhere
pub no_ends : (p : Point) (qs : List Piece) → AllByRecursion (LiesAway p) qs → ends_at p (ways_of qs) ≡ 0
no_ends p [] h = refl
no_ends p (q ∷ qs) h = one_more _ _ 0 _ false (ends-cons p (way_of q) (ways_of qs)) h.0.1 (no_ends p qs h.1)

pub no_starts : (p : Point) (qs : List Piece) → AllByRecursion (LiesAway p) qs → starts_at p (ways_of qs) ≡ 0
no_starts p [] h = refl
no_starts p (q ∷ qs) h = one_more _ _ 0 _ false (starts-cons p (way_of q) (ways_of qs)) h.0.0 (no_starts p qs h.1)
