-- Two lists of pieces of one border are the same one by one.
use Rattle.std.proofs.Common.{◌≡◌, ℕ, Bool, true, false, ◌&&◌, ◌||◌, List, [], ◌∷◌, ◌++◌, Option, None, Some, refl, sym, ap₂, ◌∙◌, subst}
use mathlib.Core.Path.{fun_ext}
use lib.IntN.{ℤ, pos, ◌+ℤ◌, ◌*ℤ◌}
use Rattle.std.specs.List.{AllByRecursion, AllZip, concat, position}
use Rattle.scad_geom.specs.declared.point.Edge.{Edge}
use Rattle.scad_geom.specs.declared.level.Level.{Level}
use Rattle.scad_geom.specs.declared.level.LeafEdge.{LeafEdge}
use Rattle.scad_geom.specs.declared.shape.Shape.{Shape}
use Rattle.scad_geom.specs.Level.{IsSameHeight}
use Rattle.scad_geom.specs.Shape.{is_in_by}
use Rattle.scad_geom.proofs.Order.{back}
use Rattle.scad_geom.proofs.Ring.{ring, ◌⊕◌, ◌⊗◌, v0, v1, v2, v3, v4, v5, v6}
use Rattle.winding_laws.proofs.Sameness.{are_same}
use Rattle.slice_bundles.specs.Bundles.{edge_at}
use Rattle.slice_bundles.proofs.Bundling.{Rises}
use Rattle.slice_pieces.specs.declared.piece.Spot.{Spot}
use Rattle.slice_pieces.specs.declared.piece.Piece.{Piece}
use Rattle.slice_pieces.specs.Spots.{point_of}
use Rattle.slice_border.specs.Pieces.{spot_on, piece_between, middle, bundle_piece, slab_pieces, covers, stretch_piece, flat_pieces, AreStops, AreLevelPieces}
use Rattle.outline_laws.specs.Sameness.{AreSameSpot, AreSamePiece, ArePiecesSame, HoldAlike}
use Rattle.outline_laws.specs.Outlines.{PiecesAreSame}
use Rattle.outline_laws.proofs.Zips.{zip_append}
use Rattle.outline_laws.proofs.Rising.{HasDivisor, levels_same}
use Rattle.outline_laws.proofs.Lines.{below_test, above_test, flat_test}
use Rattle.outline_laws.proofs.Ranks.{bundles_one, bundles_rise}
use Rattle.outline_laws.proofs.Values.{value_same}
use Rattle.outline_laws.proofs.Stops.{place, passing_same, stops_same}
use Rattle.slice_border.proofs.Winding.{IsSpotAt, stops_at}
use Rattle.slice_border.proofs.Middle.{middle_positive}

-- ---- a piece between two spots
between_same : (left right : Bool) (s t s' t' : Spot) (k : ℕ) → AreSameSpot s s' → AreSameSpot t t'
    → ArePiecesSame (piece_between left right s t k) (piece_between left right s' t' k)
between_same true true s t s' t' k h g = tt
between_same true false s t s' t' k h g = (record { name = refl; from = h; to = g }, tt)
between_same false true s t s' t' k h g = (record { name = refl; from = g; to = h }, tt)
between_same false false s t s' t' k h g = tt

module _ (es : List LeafEdge) (shape other : Shape) (alike : HoldAlike es shape other) where
  value : (above right : Bool) (s t : Spot) → AreSameSpot s t → is_in_by above right es shape (point_of s)
      ≡ is_in_by above right es other (point_of t)
  value above right s t h = value_same (point_of s) (point_of t) h.first h.second h.same above right es shape other
      alike

  -- ---- on a level
  module _ (p q : Level) (dp : HasDivisor p) (dq : HasDivisor q) (e : IsSameHeight p q) where
    covers_same : (s t s' t' : Spot) → s.at ≡ p → t.at ≡ p → s'.at ≡ q → t'.at ≡ q → AreSameSpot s s' → AreSameSpot t t'
        → (f : LeafEdge) → covers s t f ≡ covers s' t' f
    covers_same s t s' t' hs ht hs' ht' h g f =
        let hx = (are_same (point_of s) (point_of s') h.same).x in
        let gx = (are_same (point_of t) (point_of t') g.same).x in
        let low_a = below_test (place s) (place s') h.first h.second hx f.edge.a.x in
        let low_b = below_test (place s) (place s') h.first h.second hx f.edge.b.x in
        let high_a = above_test (place t) (place t') g.first g.second gx f.edge.a.x in
        let high_b = above_test (place t) (place t') g.first g.second gx f.edge.b.x in
        let flat = flat_test s.at s'.at (subst HasDivisor (sym hs) dp) (subst HasDivisor (sym hs') dq)
        (subst (λ (l : Level). IsSameHeight l s'.at) (sym hs) (subst (IsSameHeight p) (sym hs') e)) f.edge in
        ap₂ (λ (x y : Bool). x && y) flat
        (ap₂ (λ (x y : Bool). x || y) (ap₂ (λ (x y : Bool). x && y) low_a high_b) (ap₂ (λ (x y : Bool). x && y) low_b
        high_a))

    stretch_same : (s t s' t' : Spot) (name : Option ℕ) → AreSameSpot s s' → AreSameSpot t t'
        → ArePiecesSame (stretch_piece es shape s t name) (stretch_piece es other s' t' name)
    stretch_same s t s' t' None h g = tt
    stretch_same s t s' t' (Some k) h g =
        subst (λ (b : Bool). ArePiecesSame (stretch_piece es shape s t (Some k))
        (piece_between b (is_in_by false true es other (point_of s')) s' t' k)) (value true true s s' h)
        (subst (λ (b : Bool). ArePiecesSame (stretch_piece es shape s t (Some k))
        (piece_between (is_in_by true true es shape (point_of s)) b s' t' k)) (value false true s s' h)
        (between_same (is_in_by true true es shape (point_of s)) (is_in_by false true es shape (point_of s)) s t s' t' k
        h g))

    flat_same : (ss ts : List Spot) → AllByRecursion (λ s. s.at ≡ p) ss → AllByRecursion (λ t. t.at ≡ q) ts
        → AllZip AreSameSpot ss ts → ArePiecesSame (flat_pieces es shape ss) (flat_pieces es other ts)
    flat_same [] [] a b z = tt
    flat_same [] (t ∷ ts) a b z = absurd z
    flat_same (s ∷ ss) [] a b z = absurd z
    flat_same (s ∷ []) (t ∷ []) a b z = tt
    flat_same (s ∷ []) (t ∷ (u ∷ ts)) a b z = absurd z.1
    flat_same (s ∷ (r ∷ ss)) (t ∷ []) a b z = absurd z.1
    flat_same (s ∷ (r ∷ ss)) (t ∷ (u ∷ ts)) a b z =
        zip_append AreSamePiece (stretch_piece es shape s r (position (covers s r) es)) (flat_pieces es shape (r ∷ ss))
        (stretch_piece es other t u (position (covers t u) es)) (flat_pieces es other (u ∷ ts))
        (subst (λ (c : LeafEdge → Bool). ArePiecesSame (stretch_piece es shape s r (position (covers s r) es))
        (stretch_piece es other t u (position c es)))
        (fun_ext (covers_same s r t u a.0 a.1.0 b.0 b.1.0 z.0 z.1.0))
        (stretch_same s r t u (position (covers s r) es) z.0 z.1.0))
        (flat_same (r ∷ ss) (u ∷ ts) a.1 b.1 z.1)

  -- ---- between two levels
  module _ (l l' u u' : Level) (dl : HasDivisor l) (dl' : HasDivisor l') (du : HasDivisor u) (du' : HasDivisor u') (e : IsSameHeight l l') (g : IsSameHeight u u') where
    middle_same : IsSameHeight (middle l u) (middle l' u')
    middle_same =
        spread l.n l.d u.n u.d l'.d u'.d
        ∙ ap₂ (λ (x y : ℤ). pos 2 *ℤ (x *ℤ (u.d *ℤ u'.d) +ℤ y *ℤ (l.d *ℤ l'.d))) e g
        ∙ sym (gather l'.n l'.d u'.n u'.d l.d u.d)
      where
        spread : (n d m f k j : ℤ) → (n *ℤ f +ℤ m *ℤ d) *ℤ (pos 2 *ℤ (k *ℤ j))
            ≡ pos 2 *ℤ ((n *ℤ k) *ℤ (f *ℤ j) +ℤ (m *ℤ j) *ℤ (d *ℤ k))
        spread n d m f k j =
            ring (n ∷ d ∷ m ∷ f ∷ k ∷ j ∷ pos 2 ∷ []) ((v0 ⊗ v3 ⊕ v2 ⊗ v1) ⊗ (v6 ⊗ (v4 ⊗ v5)))
            (v6 ⊗ ((v0 ⊗ v4) ⊗ (v3 ⊗ v5) ⊕ (v2 ⊗ v5) ⊗ (v1 ⊗ v4))) refl

        gather : (n d m f k j : ℤ) → (n *ℤ f +ℤ m *ℤ d) *ℤ (pos 2 *ℤ (k *ℤ j))
            ≡ pos 2 *ℤ ((n *ℤ k) *ℤ (j *ℤ f) +ℤ (m *ℤ j) *ℤ (k *ℤ d))
        gather n d m f k j =
            ring (n ∷ d ∷ m ∷ f ∷ k ∷ j ∷ pos 2 ∷ []) ((v0 ⊗ v3 ⊕ v2 ⊗ v1) ⊗ (v6 ⊗ (v4 ⊗ v5)))
            (v6 ⊗ ((v0 ⊗ v4) ⊗ (v5 ⊗ v3) ⊕ (v2 ⊗ v5) ⊗ (v4 ⊗ v1))) refl

    bundle_same : (k : ℕ) (ks : List ℕ) → Rises es k → ArePiecesSame (bundle_piece es shape l u (k ∷ ks))
        (bundle_piece es other l' u' (k ∷ ks))
    bundle_same k ks r =
        let f : Edge = edge_at es k in
        let s : Spot = spot_on f (middle l u) in
        let t : Spot = spot_on f (middle l' u') in
        let m : AreSameSpot s t = passing_same (middle l u) (middle l' u') (middle_positive l u dl du)
        (middle_positive l' u' dl' du') middle_same f r in
        subst (λ (b : Bool). ArePiecesSame (bundle_piece es shape l u (k ∷ ks))
        (piece_between b (is_in_by true true es other (point_of t)) (spot_on f l') (spot_on f u') k))
        (value true false s t m)
        (subst (λ (b : Bool). ArePiecesSame (bundle_piece es shape l u (k ∷ ks))
        (piece_between (is_in_by true false es shape (point_of s)) b (spot_on f l') (spot_on f u') k))
        (value true true s t m)
        (between_same (is_in_by true false es shape (point_of s)) (is_in_by true true es shape (point_of s))
        (spot_on f l) (spot_on f u) (spot_on f l') (spot_on f u') k
        (passing_same l l' dl dl' e f r) (passing_same u u' du du' g f r)))

    slab_same : (bs : List (List ℕ)) → AllByRecursion (Rises es) (concat bs)
        → ArePiecesSame (slab_pieces es shape l u bs) (slab_pieces es other l' u' bs)
    slab_same [] r = tt
    slab_same ([] ∷ bs) r = slab_same bs r
    slab_same ((k ∷ ks) ∷ bs) r =
        zip_append AreSamePiece (bundle_piece es shape l u (k ∷ ks)) (slab_pieces es shape l u bs)
        (bundle_piece es other l' u' (k ∷ ks)) (slab_pieces es other l' u' bs)
        (bundle_same k ks r.0) (slab_same bs (back (Rises es) (k ∷ ks) (concat bs) r))

-- ---- on all levels
module _ (es : List LeafEdge) (shape other : Shape) (alike : HoldAlike es shape other) where
  at_level : (l : Level) (ss : List Spot) → AllByRecursion (IsSpotAt l) ss → AllByRecursion (λ s. s.at ≡ l) ss
  at_level l [] h = tt
  at_level l (s ∷ ss) h = (h.0.at, at_level l ss h.1)

  level_same : (l m : Level) → HasDivisor l → HasDivisor m → IsSameHeight l m → (ss ts : List Spot) → AreStops es l ss
      → AreStops es m ts → ArePiecesSame (flat_pieces es shape ss) (flat_pieces es other ts)
  level_same l m dl dm e ss ts a b =
      flat_same es shape other alike l m dl dm e ss ts (at_level l ss (stops_at es l ss a))
      (at_level m ts (stops_at es m ts b)) (stops_same l m dl dm e es ss ts a b)

  levels_pieces : (ls ms : List Level) → AllByRecursion HasDivisor ls → AllByRecursion HasDivisor ms
      → AllZip IsSameHeight ls ms → (qs rs : List Piece)
      → AreLevelPieces es shape ls qs → AreLevelPieces es other ms rs → ArePiecesSame qs rs
  levels_pieces [] [] dl dm z qs rs a b = subst (λ (ps : List Piece). ArePiecesSame ps rs) (sym a)
      (subst (ArePiecesSame []) (sym b) tt)
  levels_pieces [] (m ∷ ms) dl dm z qs rs a b = absurd z
  levels_pieces (l ∷ ls) [] dl dm z qs rs a b = absurd z
  levels_pieces (l ∷ []) (m ∷ []) dl dm z qs rs a b =
      subst (λ (ps : List Piece). ArePiecesSame ps rs) (sym a.2) (subst (ArePiecesSame (flat_pieces es shape a.0))
      (sym b.2) (level_same l m dl.0 dm.0 z.0 a.0 b.0 a.1 b.1))
  levels_pieces (l ∷ []) (m ∷ (v ∷ ms)) dl dm z qs rs a b = absurd z.1
  levels_pieces (l ∷ (u ∷ ls)) (m ∷ []) dl dm z qs rs a b = absurd z.1
  levels_pieces (l ∷ (u ∷ ls)) (m ∷ (v ∷ ms)) dl dm z qs rs a b =
      let one : a.1 ≡ b.1 = bundles_one es l m dl.0 dm.0 z.0 u v dl.1.0 dm.1.0 z.1.0 a.1 b.1 a.4 b.4 in
      let flats = level_same l m dl.0 dm.0 z.0 a.0 b.0 a.3 b.3 in
      let slabs : ArePiecesSame (slab_pieces es shape l u a.1) (slab_pieces es other m v b.1) =
      subst (λ (bs : List (List ℕ)). ArePiecesSame (slab_pieces es shape l u a.1) (slab_pieces es other m v bs)) one
      (slab_same es shape other alike l m u v dl.0 dm.0 dl.1.0 dm.1.0 z.0 z.1.0 a.1 (bundles_rise es l u a.1 a.4)) in
      let rest = levels_pieces (u ∷ ls) (v ∷ ms) dl.1 dm.1 z.1 a.2 b.2 a.5 b.5 in
      subst (λ (ps : List Piece). ArePiecesSame ps rs) (sym a.6)
      (subst (ArePiecesSame (flat_pieces es shape a.0 ++ slab_pieces es shape l u a.1 ++ a.2)) (sym b.6)
      (zip_append AreSamePiece (flat_pieces es shape a.0 ++ slab_pieces es shape l u a.1) a.2
      (flat_pieces es other b.0 ++ slab_pieces es other m v b.1) b.2
      (zip_append AreSamePiece (flat_pieces es shape a.0) (slab_pieces es shape l u a.1) (flat_pieces es other b.0)
      (slab_pieces es other m v b.1) flats slabs) rest))

pub pieces_are_same : PiecesAreSame
pieces_are_same es s t alike qs rs a b =
    levels_pieces es s t alike a.levels b.levels a.are_levels.divisors b.are_levels.divisors
    (levels_same es a.levels b.levels a.are_levels b.are_levels) qs rs a.are_pieces b.are_pieces
