-- The pieces of a shape's border wind once round the points inside, and not round the others.
use Rattle.std.proofs.Common.{◌≡◌, ℕ, zero, suc, ◌<◌, ◌⊎◌, inl, inr, Bool, true, false, List, [], ◌∷◌, length, get_or, refl, sym, ap₂, ◌∙◌, arith, subst}
use lib.IntN.{ℤ, pos, ◌+ℤ◌, ◌*ℤ◌}
use lib.Signed.{◌<ℤ◌}
use Rattle.std.specs.Prelude.{int_lt, if◌then◌else◌, ◌==◌}
use Rattle.std.specs.List.{AllByRecursion, concat}
use Rattle.std.proofs.lemmas.Int.{ints, by_lt_z}
use Rattle.scad_base.proofs.Lists.{AllByRecursion-append}
use Rattle.scad_geom.proofs.Leaves.{held_by_numbers}
use Rattle.scad_geom.specs.declared.point.Edge.{Edge}
use Rattle.scad_geom.specs.declared.level.Level.{Level}
use Rattle.scad_geom.specs.declared.level.LeafEdge.{LeafEdge}
use Rattle.scad_geom.specs.declared.shape.Shape.{Shape}
use Rattle.scad_geom.specs.Line.{rise}
use Rattle.scad_geom.specs.Point.{Point}
use Rattle.scad_geom.proofs.Leaves.{wind_leaf}
use Rattle.scad_geom.specs.Shape.{is_in_by}
use Rattle.slice_bundles.specs.Bundles.{no_edge, edge_at, AreRanked, AreBundles}
use Rattle.scad_geom.proofs.Turns.{level_at}
use Rattle.scad_geom.specs.Point.{whole}
use Rattle.scad_geom.specs.Winding.{is_over, turn}
use Rattle.scad_geom.specs.Heights.{heights}
use Rattle.scad_geom.proofs.Turns.{Over, NotOver, flat_turn, under_turn, over_turn}
use Rattle.scad_geom.proofs.Shapes.{nothing_held}
use Rattle.scad_geom.proofs.Order.{back, all_ends}
use Rattle.slice_pieces.specs.declared.piece.Spot.{Spot}
use Rattle.slice_border.specs.Pieces.{spot_on, whole_spot, piece_between, bundle_piece, slab_pieces, is_flat_at, passes_at, spots_at, IsOneOf, AreStops, covers, stretch_piece, flat_pieces}
use Rattle.slice_pieces.specs.Spots.{point_of}
use Rattle.slice_pieces.specs.Pieces.{wind_pieces}
use Rattle.std.specs.Prelude.{unsigned_abs, Option, Some, None}
use Rattle.std.specs.List.{position}
use Rattle.std.proofs.lemmas.Bool.{and_parts}
use Rattle.slice_border.proofs.Passing.{IsLive, live_bundles}
use Rattle.slice_border.proofs.Middle.{size_of, half_point}
use Rattle.slice_border.proofs.Slabs.{spot_over, spot_not_over}
use Rattle.slice_pieces.proofs.Ways.{wind_pieces-append}

-- ---- where no edge passes a point's height, nothing is inside
nothing_around : (above right : Bool) (p : Point) (leaf : ℕ) (es : List LeafEdge)
    → ((i : ℕ) → i < length es → turn above right p (whole (get_or es i no_edge).edge.a)
    (whole (get_or es i no_edge).edge.b) ≡ pos 0) → wind_leaf above right p leaf es ≡ pos 0
nothing_around above right p leaf [] h = refl
nothing_around above right p leaf (e ∷ es) h =
    ap₂ (λ (y z : ℤ). y +ℤ z) (by_test (e.leaf == leaf) (h zero (omega arith)))
    (nothing_around above right p leaf es
    (λ i o. h (suc i) (omega arith)))
  where
    by_test : (t : Bool) → turn above right p (whole e.edge.a) (whole e.edge.b) ≡ pos 0
        → (if t then turn above right p (whole e.edge.a) (whole e.edge.b) else pos 0) ≡ pos 0
    by_test true h = h
    by_test false h = refl

outside : (es : List LeafEdge) (shape : Shape) (above right : Bool) (p : Point)
    → ((i : ℕ) → i < length es → turn above right p (whole (get_or es i no_edge).edge.a)
    (whole (get_or es i no_edge).edge.b) ≡ pos 0) → is_in_by above right es shape p ≡ false
outside es shape above right p h =
    held_by_numbers above right p es shape (λ leaf. pos 0) (λ leaf. nothing_around above right p leaf es h) ∙
    nothing_held shape

pub outside_below : (es : List LeafEdge) (shape : Shape) (above right : Bool) (p : Point)
    → AllByRecursion (Over above (level_at p)) (heights es) → is_in_by above right es shape p ≡ false
outside_below es shape above right p h = outside es shape above right p (λ i o. let t = all_ends (Over above (level_at p)) es i no_edge h o in over_turn above right p (get_or es i no_edge).edge t.0 t.1)

pub outside_above : (es : List LeafEdge) (shape : Shape) (above right : Bool) (p : Point)
    → AllByRecursion (NotOver above (level_at p)) (heights es) → is_in_by above right es shape p ≡ false
outside_above es shape above right p h = outside es shape above right p (λ i o. let t = all_ends (NotOver above (level_at p)) es i no_edge h o in under_turn above right p (get_or es i no_edge).edge t.0 t.1)

-- ---- pieces with both ends over a point's height, or none, don't wind round it
abbrev pub IsStill : Bool → Point → Spot → Spot → Type 0
IsStill above p s t = is_over above p (point_of s) ≡ is_over above p (point_of t)

between_still : (above right : Bool) (p : Point) (v w : Bool) (s t : Spot) (name : ℕ) → IsStill above p s t
    → wind_pieces above right p (piece_between v w s t name) ≡ pos 0
between_still above right p true true s t name h = refl
between_still above right p true false s t name h = rw (flat_turn above right p (point_of s) (point_of t) h) refl
between_still above right p false true s t name h = rw (flat_turn above right p (point_of t) (point_of s) (sym h)) refl
between_still above right p false false s t name h = refl

pub either_over : (above : Bool) (p l : Level) → Over above p l ⊎ NotOver above p l
either_over true p l = by_lt_z (p.n *ℤ l.d) (l.n *ℤ p.d) (λ h. inl h) (λ h. inr h)
either_over false p l = by_lt_z (l.n *ℤ p.d) (p.n *ℤ l.d) (λ h. inr h) (λ h. inl h)

pub record IsSpotAt (l : Level) (s : Spot) : Type 0 where
  pub at : s.at ≡ l
  pub runs : pos 0 <ℤ pos s.run

still_at : (above : Bool) (p : Point) (l : Level) (s t : Spot) → IsSpotAt l s → IsSpotAt l t → IsStill above p s t
still_at above p l s t hs ht = elim (either_over above (level_at p) l) [
  | inl o ↦ spot_over above p s hs.runs (subst (Over above (level_at p)) (sym hs.at) o) ∙ sym
      (spot_over above p t ht.runs (subst (Over above (level_at p)) (sym ht.at) o))
  | inr o ↦ spot_not_over above p s hs.runs (subst (NotOver above (level_at p)) (sym hs.at) o) ∙ sym
      (spot_not_over above p t ht.runs (subst (NotOver above (level_at p)) (sym ht.at) o))
]

one_of : (P : Spot → Type 0) (ts : List Spot) (s : Spot) → AllByRecursion P ts → IsOneOf ts s → P s
one_of P [] s h o = absurd o
one_of P (t ∷ ts) s h o = elim o [ inl e ↦ subst P e h.0 | inr r ↦ one_of P ts s h.1 r ]

-- what holds of all places where edges meet a height holds of its stops
pub of_stops : (P : Spot → Type 0) (ts ss : List Spot) → AllByRecursion P ts → AllByRecursion (IsOneOf ts) ss
    → AllByRecursion P ss
of_stops P ts [] h o = tt
of_stops P ts (s ∷ ss) h o = (one_of P ts s h o.0, of_stops P ts ss h o.1)

pub passes_rises : (e : Edge) (l : Level) → passes_at e l ≡ true → pos 0 <ℤ pos (unsigned_abs (rise e))
passes_rises e l h =
    let q : int_lt (pos 0) (rise e) ≡ true = (and_parts (int_lt (pos 0) (rise e)) _ h).0 in
    let r : pos 0 <ℤ rise e = omega (arith, ints) in
    subst (λ (z : ℤ). pos 0 <ℤ z) (sym (size_of (rise e) r)) r

pub spots_are_at : (es : List LeafEdge) (l : Level) → AllByRecursion (IsSpotAt l) (spots_at es l)
spots_are_at [] l = tt
spots_are_at (e ∷ es) l = AllByRecursion-append (IsSpotAt l) _ (spots_at es l) (by_tests (is_flat_at e.edge l)
    (passes_at e.edge l) refl) (spots_are_at es l)
  where
    by_tests : (f t : Bool) → passes_at e.edge l ≡ t
        → AllByRecursion (IsSpotAt l) (if f then whole_spot e.edge.a.x l
        ∷ (whole_spot e.edge.b.x l ∷ []) else if t then spot_on e.edge l ∷ [] else [])
    by_tests true t q = (
      record { at = refl; runs = omega (arith, ints) },
      (record { at = refl; runs = omega (arith, ints) }, tt),
    )
    by_tests false true q = (record { at = refl; runs = passes_rises e.edge l q }, tt)
    by_tests false false q = tt

stretch_still : (es : List LeafEdge) (shape : Shape) (above right : Bool) (p : Point) (s t : Spot) (name : Option ℕ)
    → IsStill above p s t → wind_pieces above right p (stretch_piece es shape s t name) ≡ pos 0
stretch_still es shape above right p s t None h = refl
stretch_still es shape above right p s t (Some name) h = between_still above right p
    (is_in_by true true es shape (point_of s)) (is_in_by false true es shape (point_of s)) s t name h

pub two_zeros : (y z : ℤ) → y ≡ pos 0 → z ≡ pos 0 → y +ℤ z ≡ pos 0
two_zeros y z h k = rw (h, k) refl

pub with_zero : (x y k : ℤ) → x ≡ k → y ≡ pos 0 → x ≡ y +ℤ k
with_zero x y k h m = omega (arith, ints)

flat_still : (es : List LeafEdge) (shape : Shape) (above right : Bool) (p : Point) (l : Level) (stops : List Spot)
    → AllByRecursion (IsSpotAt l) stops → wind_pieces above right p (flat_pieces es shape stops) ≡ pos 0
flat_still es shape above right p l [] h = refl
flat_still es shape above right p l (s ∷ []) h = refl
flat_still es shape above right p l (s ∷ (t ∷ ss)) h =
    wind_pieces-append above right p (stretch_piece es shape s t (position (covers s t) es))
    (flat_pieces es shape (t ∷ ss))
    ∙ two_zeros _ _ (stretch_still es shape above right p s t (position (covers s t) es)
    (still_at above p l s t h.0 h.1.0)) (flat_still es shape above right p l (t ∷ ss) h.1)

pub stops_at : (es : List LeafEdge) (l : Level) (stops : List Spot) → AreStops es l stops
    → AllByRecursion (IsSpotAt l) stops
stops_at es l stops h = of_stops (IsSpotAt l) (spots_at es l) stops (spots_are_at es l) h.sound

pub stops_still : (es : List LeafEdge) (shape : Shape) (above right : Bool) (p : Point) (l : Level) (stops : List Spot)
    → AreStops es l stops → wind_pieces above right p (flat_pieces es shape stops) ≡ pos 0
stops_still es shape above right p l stops h = flat_still es shape above right p l stops (stops_at es l stops h)

-- ---- a slab that lies above the point or below it
bundles_still : (es : List LeafEdge) (shape : Shape) (above right : Bool) (p : Point) (l u : Level)
    (bs : List (List ℕ))
    → AreRanked es l bs → AllByRecursion (IsLive es l u) (concat bs)
    → ((s t : Spot) → s.at ≡ l → t.at ≡ u → pos 0 <ℤ pos s.run → pos 0 <ℤ pos t.run
    → IsStill above p s t) → wind_pieces above right p (slab_pieces es shape l u bs) ≡ pos 0
bundles_still es shape above right p l u [] r ls h = refl
bundles_still es shape above right p l u ([] ∷ bs) r ls h = absurd r.0
bundles_still es shape above right p l u ((k ∷ ks) ∷ bs) r ls h =
    let rises = ls.0.reaches.rises in
    let pr : pos 0 <ℤ pos (unsigned_abs (rise (edge_at es k))) = subst (λ (z : ℤ). pos 0 <ℤ z)
    (sym (size_of (rise (edge_at es k)) rises)) rises in
    wind_pieces-append above right p (bundle_piece es shape l u (k ∷ ks)) (slab_pieces es shape l u bs)
    ∙ two_zeros _ _
    (between_still above right p (is_in_by true false es shape (half_point es l u k))
    (is_in_by true true es shape (half_point es l u k)) (spot_on (edge_at es k) l) (spot_on (edge_at es k) u) k
    (h (spot_on (edge_at es k) l) (spot_on (edge_at es k) u) refl refl pr pr))
    (bundles_still es shape above right p l u bs r.2 (back (IsLive es l u) (k ∷ ks) (concat bs) ls) h)

pub slab_over : (es : List LeafEdge) (shape : Shape) (above right : Bool) (p : Point) (l u : Level)
    (bs : List (List ℕ))
    → AreBundles es l u bs → Over above (level_at p) l → Over above (level_at p) u
    → wind_pieces above right p (slab_pieces es shape l u bs) ≡ pos 0
slab_over es shape above right p l u bs b ol ou = bundles_still es shape above right p l u bs b.ranked
    (live_bundles es l u bs b)
    (λ s t es' et ps pt. spot_over above p s ps (subst (Over above (level_at p)) (sym es') ol) ∙ sym
    (spot_over above p t pt (subst (Over above (level_at p)) (sym et) ou)))

pub slab_under : (es : List LeafEdge) (shape : Shape) (above right : Bool) (p : Point) (l u : Level)
    (bs : List (List ℕ)) → AreBundles es l u bs → NotOver above (level_at p) l → NotOver above (level_at p) u
    → wind_pieces above right p (slab_pieces es shape l u bs) ≡ pos 0
slab_under es shape above right p l u bs b ol ou = bundles_still es shape above right p l u bs b.ranked
    (live_bundles es l u bs b)
    (λ s t es' et ps pt. spot_not_over above p s ps (subst (NotOver above (level_at p)) (sym es') ol) ∙ sym
    (spot_not_over above p t pt (subst (NotOver above (level_at p)) (sym et) ou)))
