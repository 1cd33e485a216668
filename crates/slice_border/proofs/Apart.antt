-- No two pieces of one name overlap: pieces of different heights and of different stretches lie apart, and those
-- between two heights have different names.
use Rattle.std.proofs.Common.{◌≡◌, ℕ, inl, inr, Bool, true, false, List, [], ◌∷◌, ◌++◌, sym, arith, subst}
use lib.IntN.{pos}
use lib.Signed.{◌<ℤ◌}
use Rattle.std.specs.Prelude.{Option, Some, None}
use Rattle.std.specs.List.{AllByRecursion, concat, position}
use Rattle.std.proofs.lemmas.Int.{ints}
use Rattle.scad_geom.specs.declared.point.Edge.{Edge}
use Rattle.scad_geom.specs.declared.level.Level.{Level}
use Rattle.scad_geom.specs.declared.level.LeafEdge.{LeafEdge}
use Rattle.scad_geom.specs.declared.shape.Shape.{Shape}
use Rattle.scad_geom.specs.Point.{Point}
use Rattle.scad_geom.specs.Level.{IsLower, IsAtMost}
use Rattle.scad_geom.specs.EdgeOrder.{IsBefore}
use Rattle.scad_geom.specs.Heights.{heights}
use Rattle.scad_geom.specs.Shape.{is_in_by}
use Rattle.scad_geom.proofs.Heights.{at_most_chain, at_most_then_lower, lower_weak, heights_positive, same_at_least}
use Rattle.scad_geom.proofs.Order.{back, apart_levels}
use Rattle.scad_geom.proofs.Turns.{level_at}
use Rattle.slice_events.specs.Levels.{IsRising, AreLevels}
use Rattle.slice_bundles.specs.Bundles.{edge_at, Precedes, AreRanked}
use Rattle.slice_pieces.specs.declared.piece.Spot.{Spot}
use Rattle.slice_pieces.specs.declared.piece.Piece.{Piece}
use Rattle.slice_pieces.specs.Spots.{point_of}
use Rattle.slice_pieces.specs.Inside.{IsInside}
use Rattle.slice_pieces.specs.Naming.{AreApartByName, AllPairs}
use Rattle.scad_base.proofs.Lists.{AllByRecursion-append}
use Rattle.slice_border.specs.Pieces.{spot_on, piece_between, bundle_piece, slab_pieces, GoRight, AreStops, covers, stretch_piece, flat_pieces, AreLevelPieces, ArePieces}
use Rattle.slice_border.proofs.Passing.{IsLive, live_bundles}
use Rattle.slice_border.proofs.Middle.{half_point}
use Rattle.slice_border.proofs.Winding.{IsSpotAt, stops_at}
use Rattle.slice_border.proofs.Walk.{UpTo, at_first, at_next, neighbours_next}
use Rattle.slice_border.proofs.BalanceTurns.{is_right}
use Rattle.slice_border.proofs.BalanceSpots.{IsAt}
use Rattle.slice_border.specs.Pieces.{across}
use Rattle.slice_border.proofs.BalanceStops.{nearer}
use Rattle.slice_border.proofs.BalanceFlat.{spot_divisor}
use Rattle.slice_border.proofs.BorderPoints.{inside_turned, inside_slab, inside_stretch, high_divisor}
use Rattle.scad_geom.specs.Heights.{AreNeighbours}
use Rattle.scad_geom.proofs.Heights.{same_at_most}
use Rattle.std.proofs.lemmas.Bool.{both_ways}

-- ---- pairs of two lists
pairs-append : (R : Piece → Piece → Type 0) (qs rs : List Piece) → AllPairs R qs → AllPairs R rs
    → AllByRecursion (λ q. AllByRecursion (R q) rs) qs → AllPairs R (qs ++ rs)
pairs-append R [] rs a b c = b
pairs-append R (q ∷ qs) rs a b c = (AllByRecursion-append (R q) qs rs a.0 c.0, pairs-append R qs rs a.1 b c.1)

-- what holds of each point inside a piece
abbrev pub AllInside : (Point → Type 0) → Piece → Type 0
AllInside P q = (p : Point) → pos 0 <ℤ p.d → IsInside (point_of q.from) (point_of q.to) p → P p

weaker : (P Q : Point → Type 0) → ((p : Point) → pos 0 <ℤ p.d → P p → Q p) → (qs : List Piece)
    → AllByRecursion (AllInside P) qs → AllByRecursion (AllInside Q) qs
weaker P Q f [] h = tt
weaker P Q f (q ∷ qs) h = (λ p dp i. f p dp (h.0 p dp i), weaker P Q f qs h.1)

-- pieces whose points can't be one
module _ (P Q : Point → Type 0) (no : (p : Point) → pos 0 <ℤ p.d → P p → Q p → ⊥) where
  one_apart : (q : Piece) (rs : List Piece) → AllInside P q → AllByRecursion (AllInside Q) rs
      → AllByRecursion (AreApartByName q) rs
  one_apart q [] h k = tt
  one_apart q (r ∷ rs) h k = (λ e p dp i j. no p dp (h p dp i) (k.0 p dp j), one_apart q rs h k.1)

  all_apart : (qs rs : List Piece) → AllByRecursion (AllInside P) qs → AllByRecursion (AllInside Q) rs
      → AllByRecursion (λ q. AllByRecursion (AreApartByName q) rs) qs
  all_apart [] rs h k = tt
  all_apart (q ∷ qs) rs h k = (one_apart q rs h.0 k, all_apart qs rs h.1 k)

between_inside : (P : Point → Type 0) (v w : Bool) (s t : Spot) (name : ℕ) → pos 0 <ℤ (point_of t).d
    → ((p : Point) → pos 0 <ℤ p.d → IsInside (point_of s) (point_of t) p → P p)
    → AllByRecursion (AllInside P) (piece_between v w s t name)
between_inside P true true s t name dt h = tt
between_inside P true false s t name dt h = (h, tt)
between_inside P false true s t name dt h = (λ p dp i. h p dp (inside_turned (point_of t) (point_of s) p dt i), tt)
between_inside P false false s t name dt h = tt

-- at most one piece
between_alone : (R : Piece → Piece → Type 0) (v w : Bool) (s t : Spot) (name : ℕ)
    → AllPairs R (piece_between v w s t name)
between_alone R true true s t name = tt
between_alone R true false s t name = (tt, tt)
between_alone R false true s t name = (tt, tt)
between_alone R false false s t name = tt

-- ---- names between two levels
pub not_before_itself : (l : Level) (e : Edge) → IsBefore l e e → ⊥
not_before_itself l e (inl h) = omega (arith, ints)
not_before_itself l e (inr h) = let k = h.1 in omega (arith, ints)

others_named : (k : ℕ) (v w : Bool) (s t : Spot) (name : ℕ) → (name ≡ k → ⊥)
    → AllByRecursion (λ r. r.edge ≡ k → ⊥)
    (piece_between v w s t name)
others_named k true true s t name h = tt
others_named k true false s t name h = (h, tt)
others_named k false true s t name h = (h, tt)
others_named k false false s t name h = tt

by_name : (q : Piece) (rs : List Piece) → AllByRecursion (λ r. r.edge ≡ q.edge → ⊥) rs
    → AllByRecursion (AreApartByName q) rs
by_name q [] h = tt
by_name q (r ∷ rs) h = (λ e p dp i j. h.0 (sym e), by_name q rs h.1)

between_named : (v w : Bool) (s t : Spot) (k : ℕ) (rs : List Piece) → AllByRecursion (λ r. r.edge ≡ k → ⊥) rs
    → AllByRecursion (λ q. AllByRecursion (AreApartByName q) rs) (piece_between v w s t k)
between_named true true s t k rs h = tt
between_named true false s t k rs h = (by_name (record { from = s; to = t; edge = k }) rs h, tt)
between_named false true s t k rs h = (by_name (record { from = t; to = s; edge = k }) rs h, tt)
between_named false false s t k rs h = tt

module _ (es : List LeafEdge) (shape : Shape) where
  -- ---- between two levels
  abbrev Between : Level → Level → Point → Type 0
  Between l u p = IsLower l (level_at p) × IsLower (level_at p) u

  slab_inside : (l u : Level) → AreNeighbours es l u → (bs : List (List ℕ)) → AreRanked es l bs
      → AllByRecursion (IsLive es l u) (concat bs) → AllByRecursion (AllInside (Between l u))
      (slab_pieces es shape l u bs)
  slab_inside l u n [] r ls = tt
  slab_inside l u n ([] ∷ bs) r ls = absurd r.0
  slab_inside l u n ((k ∷ ks) ∷ bs) r ls =
      AllByRecursion-append (AllInside (Between l u)) (bundle_piece es shape l u (k ∷ ks))
      (slab_pieces es shape l u bs)
      (between_inside (Between l u) (is_in_by true false es shape (half_point es l u k))
      (is_in_by true true es shape (half_point es l u k)) (spot_on (edge_at es k) l) (spot_on (edge_at es k) u) k
      (high_divisor es shape l u n k ls.0) (λ p dp i. inside_slab es shape l u n k ls.0 p dp i))
      (slab_inside l u n bs r.2 (back (IsLive es l u) (k ∷ ks) (concat bs) ls))

  later_named : (l u : Level) (k : ℕ) (ks : List ℕ) (bs : List (List ℕ))
      → AllByRecursion (Precedes es l (k ∷ ks)) bs
      → AllByRecursion (λ r. r.edge ≡ k → ⊥) (slab_pieces es shape l u bs)
  later_named l u k ks [] h = tt
  later_named l u k ks ([] ∷ bs) h = absurd h.0
  later_named l u k ks ((j ∷ js) ∷ bs) h =
      AllByRecursion-append (λ r. r.edge ≡ k → ⊥) (bundle_piece es shape l u (j ∷ js))
      (slab_pieces es shape l u bs)
      (others_named k (is_in_by true false es shape (half_point es l u j))
      (is_in_by true true es shape (half_point es l u j)) (spot_on (edge_at es j) l) (spot_on (edge_at es j) u) j
      (λ e. not_before_itself l (edge_at es k) (subst (λ (i : ℕ). IsBefore l (edge_at es k) (edge_at es i)) e h.0)))
      (later_named l u k ks bs h.1)

  slab_apart : (l u : Level) (bs : List (List ℕ)) → AreRanked es l bs
      → AllPairs AreApartByName (slab_pieces es shape l u bs)
  slab_apart l u [] r = tt
  slab_apart l u ([] ∷ bs) r = absurd r.0
  slab_apart l u ((k ∷ ks) ∷ bs) r =
      let v : Bool = is_in_by true false es shape (half_point es l u k) in
      let w : Bool = is_in_by true true es shape (half_point es l u k) in
      pairs-append AreApartByName (bundle_piece es shape l u (k ∷ ks)) (slab_pieces es shape l u bs)
      (between_alone AreApartByName v w (spot_on (edge_at es k) l) (spot_on (edge_at es k) u) k)
      (slab_apart l u bs r.2)
      (between_named v w (spot_on (edge_at es k) l) (spot_on (edge_at es k) u) k (slab_pieces es shape l u bs)
      (later_named l u k ks bs r.1))

  -- ---- on a level
  -- a point of the level that doesn't lie to the left of a stop; one that does
  abbrev Past : Level → Spot → Point → Type 0
  Past l s p = IsAt l p × (is_right true p (point_of s) ≡ false)

  abbrev Ahead : Spot → Point → Type 0
  Ahead t p = is_right true p (point_of t) ≡ true

  module _ (l : Level) (dl : pos 0 <ℤ l.d) where
    stretch_inside : (P : Point → Type 0) (s t : Spot) (name : Option ℕ) → pos 0 <ℤ (point_of t).d
        → ((p : Point) → pos 0 <ℤ p.d → IsInside (point_of s) (point_of t) p → P p)
        → AllByRecursion (AllInside P) (stretch_piece es shape s t name)
    stretch_inside P s t None dt h = tt
    stretch_inside P s t (Some name) dt h = between_inside P (is_in_by true true es shape (point_of s))
        (is_in_by false true es shape (point_of s)) s t name dt h

    stretch_alone : (s t : Spot) (name : Option ℕ) → AllPairs AreApartByName (stretch_piece es shape s t name)
    stretch_alone s t None = tt
    stretch_alone s t (Some name) = between_alone AreApartByName (is_in_by true true es shape (point_of s))
        (is_in_by false true es shape (point_of s)) s t name

    past_all : (s : Spot) (ss : List Spot) → AllByRecursion (IsSpotAt l) (s ∷ ss) → GoRight (s ∷ ss)
        → AllByRecursion (AllInside (Past l s)) (flat_pieces es shape (s ∷ ss))
    past_all s [] hs r = tt
    past_all s (t ∷ ss) hs r =
        AllByRecursion-append (AllInside (Past l s)) (stretch_piece es shape s t (position (covers s t) es))
        (flat_pieces es shape (t ∷ ss))
        (stretch_inside (Past l s) s t (position (covers s t) es) (spot_divisor l t dl hs.1.0)
        (λ p dp i. let x = inside_stretch es shape l dl s t hs.0 hs.1.0 r.0 p dp i in (x.0, x.1)))
        (weaker (Past l t) (Past l s)
        (λ p dp h. (h.0, nearer l true p dp t s hs.1.0 hs.0 (lower_weak (across s) (across t) r.0) h.1))
        (flat_pieces es shape (t ∷ ss)) (past_all t ss hs.1 r.1))

    walk_apart : (s : Spot) (ss : List Spot) → AllByRecursion (IsSpotAt l) (s ∷ ss) → GoRight (s ∷ ss)
        → AllPairs AreApartByName (flat_pieces es shape (s ∷ ss))
    walk_apart s [] hs r = tt
    walk_apart s (t ∷ ss) hs r =
        pairs-append AreApartByName (stretch_piece es shape s t (position (covers s t) es))
        (flat_pieces es shape (t ∷ ss))
        (stretch_alone s t (position (covers s t) es))
        (walk_apart t ss hs.1 r.1)
        (all_apart (Ahead t) (Past l t) (λ p dp h k. both_ways (is_right true p (point_of t)) k.1 h)
        (stretch_piece es shape s t (position (covers s t) es)) (flat_pieces es shape (t ∷ ss))
        (stretch_inside (Ahead t) s t (position (covers s t) es) (spot_divisor l t dl hs.1.0)
        (λ p dp i. let x = inside_stretch es shape l dl s t hs.0 hs.1.0 r.0 p dp i in x.2))
        (past_all t ss hs.1 r.1))

    flat_apart : (stops : List Spot) → AreStops es l stops → AllPairs AreApartByName (flat_pieces es shape stops)
    flat_apart [] a = tt
    flat_apart (s ∷ ss) a = walk_apart s ss (stops_at es l (s ∷ ss) a) a.rightwards

    flat_inside : (stops : List Spot) → AreStops es l stops → AllByRecursion (AllInside (IsAt l))
        (flat_pieces es shape stops)
    flat_inside [] a = tt
    flat_inside (s ∷ ss) a = weaker (Past l s) (IsAt l) (λ p dp h. h.0) (flat_pieces es shape (s ∷ ss))
        (past_all s ss (stops_at es l (s ∷ ss) a) a.rightwards)

  -- ---- level by level
  abbrev From : Level → Point → Type 0
  From l p = IsAtMost l (level_at p)

  abbrev Under : Level → Point → Type 0
  Under u p = IsLower (level_at p) u

  from_all : (l : Level) (ls : List Level) (pieces : List Piece)
      → AllByRecursion (λ (l : Level). pos 0 <ℤ l.d) (l ∷ ls)
      → IsRising (l ∷ ls) → AllByRecursion (UpTo l ls) (heights es)
      → AreLevelPieces es shape (l ∷ ls) pieces → AllByRecursion (AllInside (From l)) pieces
  from_all l [] pieces d r h a = subst (AllByRecursion (AllInside (From l))) (sym a.2)
      (weaker (IsAt l) (From l) (λ p dp k. same_at_most (level_at p) l k) (flat_pieces es shape a.0)
      (flat_inside l d.0 a.0 a.1))
  from_all l (u ∷ ls) pieces d r h a =
      subst (AllByRecursion (AllInside (From l))) (sym a.6)
      (AllByRecursion-append (AllInside (From l)) (flat_pieces es shape a.0 ++ slab_pieces es shape l u a.1) a.2
      (AllByRecursion-append (AllInside (From l)) (flat_pieces es shape a.0) (slab_pieces es shape l u a.1)
      (weaker (IsAt l) (From l) (λ p dp k. same_at_most (level_at p) l k) (flat_pieces es shape a.0)
      (flat_inside l d.0 a.0 a.3))
      (weaker (Between l u) (From l) (λ p dp k. lower_weak l (level_at p) k.0) (slab_pieces es shape l u a.1)
      (slab_inside l u (neighbours_next es l u ls d r h) a.1 a.4.ranked (live_bundles es l u a.1 a.4))))
      (weaker (From u) (From l) (λ p dp k. at_most_chain l u (level_at p) d.0 d.1.0 dp (lower_weak l u r.0) k) a.2
      (from_all u ls a.2 d.1 r.1 (at_next l u ls (heights es) d.0 d.1.0 (heights_positive es) r.0 h) a.5)))

  levels_apart : (l : Level) (ls : List Level) (pieces : List Piece) → AllByRecursion (λ (l : Level). pos 0 <ℤ l.d)
      (l ∷ ls) → IsRising (l ∷ ls) → AllByRecursion (UpTo l ls) (heights es)
      → AreLevelPieces es shape (l ∷ ls) pieces → AllPairs AreApartByName pieces
  levels_apart l [] pieces d r h a = subst (AllPairs AreApartByName) (sym a.2) (flat_apart l d.0 a.0 a.1)
  levels_apart l (u ∷ ls) pieces d r h a =
      let above = at_next l u ls (heights es) d.0 d.1.0 (heights_positive es) r.0 h in
      let flats = flat_inside l d.0 a.0 a.3 in
      let slabs = slab_inside l u (neighbours_next es l u ls d r h) a.1 a.4.ranked (live_bundles es l u a.1 a.4) in
      subst (AllPairs AreApartByName) (sym a.6)
      (pairs-append AreApartByName (flat_pieces es shape a.0 ++ slab_pieces es shape l u a.1) a.2
      (pairs-append AreApartByName (flat_pieces es shape a.0) (slab_pieces es shape l u a.1)
      (flat_apart l d.0 a.0 a.3) (slab_apart l u a.1 a.4.ranked)
      (all_apart (IsAt l) (Between l u) (λ p dp i k. apart_levels l (level_at p) k.0 (same_at_least (level_at p) l i))
      (flat_pieces es shape a.0) (slab_pieces es shape l u a.1) flats slabs))
      (levels_apart u ls a.2 d.1 r.1 above a.5)
      (all_apart (Under u) (From u) (λ p dp i k. apart_levels (level_at p) u i k)
      (flat_pieces es shape a.0 ++ slab_pieces es shape l u a.1) a.2
      (AllByRecursion-append (AllInside (Under u)) (flat_pieces es shape a.0) (slab_pieces es shape l u a.1)
      (weaker (IsAt l) (Under u) (λ p dp k. at_most_then_lower (level_at p) l u dp d.0 d.1.0
      (same_at_least (level_at p) l k) r.0) (flat_pieces es shape a.0) flats)
      (weaker (Between l u) (Under u) (λ p dp k. k.1) (slab_pieces es shape l u a.1) slabs))
      (from_all u ls a.2 d.1 r.1 above a.5)))

  by_levels : (ls : List Level) (pieces : List Piece) → AreLevels es ls → AreLevelPieces es shape ls pieces
      → AllPairs AreApartByName pieces
  by_levels [] pieces v a = subst (AllPairs AreApartByName) (sym a) tt
  by_levels (l ∷ ls) pieces v a = levels_apart l ls pieces v.divisors v.rising (at_first l ls (heights es) v.complete)
      a

pub pieces_are_apart : (es : List LeafEdge) (shape : Shape) (pieces : List Piece) → ArePieces es shape pieces
    → AllPairs AreApartByName pieces
pieces_are_apart es shape pieces h = by_levels es shape h.levels pieces h.are_levels h.are_pieces
