-- The ends of pieces lie on the levels, and no two levels are equal in height.
use Rattle.std.proofs.Common.{◌≡◌, ℕ, ◌⊎◌, inl, inr, Bool, true, false, List, [], ◌∷◌, ◌++◌, refl, sym, ◌∙◌, arith, subst}
use lib.IntN.{pos}
use lib.Signed.{◌<ℤ◌}
use Rattle.std.specs.Prelude.{Option, Some, None}
use Rattle.std.specs.List.{AllByRecursion, All, position, concat}
use Rattle.std.proofs.lemmas.Int.{ints}
use Rattle.std.proofs.lemmas.List.Elements.{All-from_recursion}
use Rattle.slice_pieces.proofs.Ends.{joined}
use Rattle.scad_geom.specs.declared.level.Level.{Level}
use Rattle.scad_geom.specs.declared.level.LeafEdge.{LeafEdge}
use Rattle.scad_geom.specs.declared.shape.Shape.{Shape}
use Rattle.scad_geom.specs.Shape.{is_in_by}
use Rattle.scad_geom.specs.Level.{IsLower, IsSameHeight}
use Rattle.scad_geom.proofs.Heights.{lower_then_at_most, lower_weak}
use Rattle.scad_geom.proofs.Order.{front, back}
use Rattle.slice_events.specs.Levels.{IsRising}
use Rattle.slice_bundles.specs.Bundles.{edge_at}
use Rattle.slice_pieces.specs.declared.piece.Spot.{Spot}
use Rattle.slice_pieces.specs.declared.piece.Piece.{Piece}
use Rattle.slice_border.specs.Pieces.{spot_on, piece_between, bundle_piece, slab_pieces, covers, stretch_piece, flat_pieces, AreLevelPieces, ArePieces}
use Rattle.slice_pieces.specs.Spots.{point_of}
use Rattle.slice_pieces.specs.Pieces.{ends_of, HaveOneLevel}
use Rattle.slice_border.proofs.Passing.{IsLive, live_bundles}
use Rattle.slice_border.proofs.Middle.{half_point}
use Rattle.slice_border.proofs.Winding.{IsSpotAt, stops_at}

-- one of the levels
abbrev pub IsAmong : List Level → Level → Type 0
IsAmong [] l = ⊥
IsAmong (k ∷ ks) l = (k ≡ l) ⊎ IsAmong ks l

module _ (P : Spot → Type 0) where
  between_ends : (v w : Bool) (s t : Spot) (name : ℕ) → P s → P t
      → AllByRecursion P (ends_of (piece_between v w s t name))
  between_ends true true s t name h k = tt
  between_ends true false s t name h k = (h, (k, tt))
  between_ends false true s t name h k = (k, (h, tt))
  between_ends false false s t name h k = tt

  stretch_ends : (es : List LeafEdge) (shape : Shape) (s t : Spot) (name : Option ℕ) → P s → P t
      → AllByRecursion P (ends_of (stretch_piece es shape s t name))
  stretch_ends es shape s t None h k = tt
  stretch_ends es shape s t (Some name) h k = between_ends (is_in_by true true es shape (point_of s))
      (is_in_by false true es shape (point_of s)) s t name h k

  pub flat_ends : (es : List LeafEdge) (shape : Shape) (stops : List Spot) → AllByRecursion P stops
      → AllByRecursion P (ends_of (flat_pieces es shape stops))
  flat_ends es shape [] h = tt
  flat_ends es shape (s ∷ []) h = tt
  flat_ends es shape (s ∷ (t ∷ ss)) h =
      joined P (stretch_piece es shape s t (position (covers s t) es)) (flat_pieces es shape (t ∷ ss))
      (stretch_ends es shape s t (position (covers s t) es) h.0 h.1.0) (flat_ends es shape (t ∷ ss) h.1)

  -- what holds of both ends of an edge between two heights
  abbrev pub AtBoth : List LeafEdge → Level → Level → ℕ → Type 0
  AtBoth es l u k = P (spot_on (edge_at es k) l) × P (spot_on (edge_at es k) u)

  bundle_ends : (es : List LeafEdge) (shape : Shape) (l u : Level) (b : List ℕ) → AllByRecursion (AtBoth es l u) b
      → AllByRecursion P (ends_of (bundle_piece es shape l u b))
  bundle_ends es shape l u [] h = tt
  bundle_ends es shape l u (k ∷ ks) h =
      between_ends (is_in_by true false es shape (half_point es l u k))
      (is_in_by true true es shape (half_point es l u k)) (spot_on (edge_at es k) l) (spot_on (edge_at es k) u) k
      h.0.0 h.0.1

  pub slab_ends : (es : List LeafEdge) (shape : Shape) (l u : Level) (bs : List (List ℕ))
      → AllByRecursion (AtBoth es l u) (concat bs)
      → AllByRecursion P (ends_of (slab_pieces es shape l u bs))
  slab_ends es shape l u [] h = tt
  slab_ends es shape l u (b ∷ bs) h =
      joined P (bundle_piece es shape l u b) (slab_pieces es shape l u bs)
      (bundle_ends es shape l u b (front (AtBoth es l u) b (concat bs) h))
      (slab_ends es shape l u bs (back (AtBoth es l u) b (concat bs) h))

pub each_of : (Q R : ℕ → Type 0) → ((k : ℕ) → Q k → R k) → (ks : List ℕ) → AllByRecursion Q ks
    → AllByRecursion R ks
each_of Q R f [] h = tt
each_of Q R f (k ∷ ks) h = (f k h.0, each_of Q R f ks h.1)

-- a spot on one of the levels
abbrev IsOn : List Level → Spot → Type 0
IsOn all s = IsAmong all s.at

all_on : (all : List Level) (l : Level) (ss : List Spot) → IsAmong all l → AllByRecursion (IsSpotAt l) ss
    → AllByRecursion (IsOn all) ss
all_on all l [] a h = tt
all_on all l (s ∷ ss) a h = (subst (IsAmong all) (sym h.0.at) a, all_on all l ss a h.1)

level_ends : (es : List LeafEdge) (shape : Shape) (all ls : List Level) (pieces : List Piece)
    → AllByRecursion (IsAmong all) ls → AreLevelPieces es shape ls pieces
    → AllByRecursion (IsOn all) (ends_of pieces)
level_ends es shape all [] pieces a h = subst (λ (qs : List Piece). AllByRecursion (IsOn all) (ends_of qs)) (sym h) tt
level_ends es shape all (l ∷ []) pieces a h =
    subst (λ (qs : List Piece). AllByRecursion (IsOn all) (ends_of qs)) (sym h.2) (flat_ends (IsOn all) es shape h.0
    (all_on all l h.0 a.0 (stops_at es l h.0 h.1)))
level_ends es shape all (l ∷ (u ∷ ls)) pieces a h =
    subst (λ (qs : List Piece). AllByRecursion (IsOn all) (ends_of qs)) (sym h.6)
    (joined (IsOn all) (flat_pieces es shape h.0 ++ slab_pieces es shape l u h.1) h.2
    (joined (IsOn all) (flat_pieces es shape h.0) (slab_pieces es shape l u h.1)
    (flat_ends (IsOn all) es shape h.0 (all_on all l h.0 a.0 (stops_at es l h.0 h.3)))
    (slab_ends (IsOn all) es shape l u h.1 (each_of (IsLive es l u) (AtBoth (IsOn all) es l u) (λ k r. (a.0, a.1.0))
    (concat h.1) (live_bundles es l u h.1 h.4))))
    (level_ends es shape all (u ∷ ls) h.2 a.1 h.5))

more_among : (k : Level) (all ls : List Level) → AllByRecursion (IsAmong all) ls
    → AllByRecursion (IsAmong (k ∷ all)) ls
more_among k all [] h = tt
more_among k all (l ∷ ls) h = (inr h.0, more_among k all ls h.1)

among_itself : (ls : List Level) → AllByRecursion (IsAmong ls) ls
among_itself [] = tt
among_itself (l ∷ ls) = (inl refl, more_among l ls ls (among_itself ls))

pub ends_on_levels : (es : List LeafEdge) (shape : Shape) (ls : List Level) (pieces : List Piece)
    → AreLevelPieces es shape ls pieces → AllByRecursion (IsOn ls) (ends_of pieces)
ends_on_levels es shape ls pieces h = level_ends es shape ls ls pieces (among_itself ls) h

-- ---- a rising list has each height once
rises_above : (l : Level) (ls : List Level) (k : Level) → AllByRecursion (λ (l : Level). pos 0 <ℤ l.d) (l ∷ ls)
    → IsRising (l ∷ ls) → IsAmong ls k → IsLower l k
rises_above l [] k d r h = absurd h
rises_above l (u ∷ ls) k d r (inl e) = subst (IsLower l) e r.0
rises_above l (u ∷ ls) k d r (inr h) =
    let below = rises_above u ls k d.1 r.1 h in
    lower_then_at_most l u k d.0 d.1.0 (divisor (u ∷ ls) k d.1 (inr h)) r.0 (lower_weak u k below)
  where
    divisor : (ls : List Level) (k : Level) → AllByRecursion (λ (l : Level). pos 0 <ℤ l.d) ls → IsAmong ls k
        → pos 0 <ℤ k.d
    divisor [] k d h = absurd h
    divisor (l ∷ ls) k d (inl e) = subst (λ (l : Level). pos 0 <ℤ l.d) e d.0
    divisor (l ∷ ls) k d (inr h) = divisor ls k d.1 h

apart_heights : (p q : Level) → IsLower p q → IsSameHeight p q → ⊥
apart_heights p q h k = omega (arith, ints)

turned_height : (p q : Level) → IsSameHeight p q → IsSameHeight q p
turned_height p q h = sym h

one_level : (ls : List Level) (p q : Level) → AllByRecursion (λ (l : Level). pos 0 <ℤ l.d) ls → IsRising ls
    → IsAmong ls p → IsAmong ls q → IsSameHeight p q → p ≡ q
one_level [] p q d r h k e = absurd h
one_level (l ∷ ls) p q d r (inl h) (inl k) e = sym h ∙ k
one_level (l ∷ ls) p q d r (inl h) (inr k) e =
    absurd (apart_heights p q (subst (λ (m : Level). IsLower m q) h (rises_above l ls q d r k)) e)
one_level (l ∷ ls) p q d r (inr h) (inl k) e =
    absurd (apart_heights q p (subst (λ (m : Level). IsLower m p) k (rises_above l ls p d r h)) (turned_height p q e))
one_level (l ∷ []) p q d r (inr h) (inr k) e = absurd h
one_level (l ∷ (u ∷ ls)) p q d r (inr h) (inr k) e = one_level (u ∷ ls) p q d.1 r.1 h k e

module _ (ls : List Level) (d : AllByRecursion (λ (l : Level). pos 0 <ℤ l.d) ls) (r : IsRising ls) where
  with_one : (s : Spot) (ts : List Spot) → IsOn ls s → AllByRecursion (IsOn ls) ts
      → AllByRecursion (λ t. IsSameHeight s.at t.at → s.at ≡ t.at) ts
  with_one s [] h k = tt
  with_one s (t ∷ ts) h k = (one_level ls s.at t.at d r h k.0, with_one s ts h k.1)

  with_each : (ss ts : List Spot) → AllByRecursion (IsOn ls) ss → AllByRecursion (IsOn ls) ts
      → AllByRecursion (λ s. All (λ t. IsSameHeight s.at t.at → s.at ≡ t.at) ts) ss
  with_each [] ts h k = tt
  with_each (s ∷ ss) ts h k = (
    All-from_recursion (λ t. IsSameHeight s.at t.at → s.at ≡ t.at) ts (with_one s ts h.0 k),
    with_each ss ts h.1 k,
  )

pub heights_have_one_level : (es : List LeafEdge) (shape : Shape) (pieces : List Piece) → ArePieces es shape pieces
    → HaveOneLevel pieces
heights_have_one_level es shape pieces h =
    let on = ends_on_levels es shape h.levels pieces h.are_pieces in
    record {
      each = All-from_recursion (λ s. All (λ t. IsSameHeight s.at t.at → s.at ≡ t.at) (ends_of pieces))
          (ends_of pieces)
          (with_each h.levels h.are_levels.divisors h.are_levels.rising (ends_of pieces) (ends_of pieces) on on);
    }
