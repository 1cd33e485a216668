-- The flat pieces of a height make up for what changes there, walked over its stops from left to right.
use Rattle.std.proofs.Common.{◌≡◌, ℕ, suc, ◌+◌, inl, inr, Bool, true, false, not, cond, List, [], ◌∷◌, length, refl, sym, ap, ap₂, ◌∙◌, arith, subst}
use lib.IntN.{ℤ, pos, ◌+ℤ◌, ◌-ℤ◌, ◌*ℤ◌}
use lib.Signed.{◌<ℤ◌}
use Rattle.std.specs.Prelude.{Option, Some, None, int_le, ◌&&◌, ◌||◌, nat_lt}
use Rattle.std.specs.List.{AllByRecursion, position, position_or_len}
use Rattle.std.proofs.lemmas.Int.{ints}
use Rattle.std.proofs.lemmas.Bool.Decides.{nat_tests}
use Rattle.scad_geom.specs.declared.level.Level.{Level}
use Rattle.scad_geom.specs.declared.level.LeafEdge.{LeafEdge}
use Rattle.scad_geom.specs.declared.shape.Shape.{Shape}
use Rattle.scad_geom.specs.Winding.{counted}
use Rattle.scad_geom.specs.Point.{Point}
use Rattle.scad_geom.specs.Winding.{is_beyond}
use Rattle.scad_geom.specs.Shape.{is_in_by}
use Rattle.scad_geom.specs.Level.{IsLower, IsAtMost}
use Rattle.scad_geom.proofs.Ring.{ring, ◌⊖◌, ◌⊗◌, v0, v1, v2, v3, v4}
use Rattle.scad_geom.proofs.Integers.{mul_assoc}
use Rattle.scad_base.proofs.Products.{positive_product}
use Rattle.scad_geom.proofs.Heights.{lower_then_at_most, lower_weak}
use Rattle.scad_geom.proofs.Order.{front, back}
use Rattle.scad_geom.proofs.Turns.{level_at, beyond_mul}
use Rattle.slice_pieces.specs.declared.piece.Spot.{Spot}
use Rattle.slice_border.specs.Pieces.{whole_spot, is_flat_at, spots_at, IsLeft, GoRight, HasSpot, AreStops, covers, stretch_piece, flat_pieces}
use Rattle.slice_pieces.specs.Spots.{point_of}
use Rattle.scad_geom.specs.Leaves.{AreLeavesBalanced}
use Rattle.slice_border.proofs.Middle.{lower_scaled, scaled_below}
use Rattle.slice_border.proofs.Winding.{IsSpotAt, stops_at, spots_are_at}
use Rattle.slice_border.proofs.BalanceTurns.{gap, is_right, ahead, ahead_level, ahead_over, ahead_under}
use Rattle.slice_border.proofs.BalanceEdges.{level_values}
use Rattle.slice_border.proofs.BalanceSpots.{IsAt, own_spots, flat_spots, IsAlike, values_alike, IsOneSided, asides, all_one_sided}
use Rattle.slice_border.specs.Pieces.{across}
use Rattle.slice_border.proofs.BalanceStops.{aheads, aheads-append, between_apart, stretch_alike, flat_alike, IsUpTo, from_stop, first_up_to, next_up_to, IsBeside, beside, further, nearer, all_further, all_nearer}
use Rattle.std.proofs.lemmas.Bool.{true≢false}
use Rattle.slice_pieces.proofs.SameSpots.{mul_beside}

-- ---- a flat edge with one end at the left stop or before it, and one at the right stop or after it, covers the
-- stretch
left_reach : (s : Spot) (l : Level) (x : ℤ) → s.at ≡ l → IsAtMost (across (whole_spot x l)) (across s)
    → int_le (x *ℤ (s.at.d *ℤ pos s.run)) s.x ≡ true
left_reach s l x at h =
    let m = mul_assoc x l.d (pos s.run) in
    let k : int_le (x *ℤ (l.d *ℤ pos s.run)) s.x ≡ true = subst (λ (z : ℤ). int_le z s.x ≡ true) m
    (sym (omega (arith, ints))) in
    subst (λ (l : Level). int_le (x *ℤ (l.d *ℤ pos s.run)) s.x ≡ true) (sym at) k

right_reach : (t : Spot) (l : Level) (x : ℤ) → t.at ≡ l → IsAtMost (across t) (across (whole_spot x l))
    → int_le t.x (x *ℤ (t.at.d *ℤ pos t.run)) ≡ true
right_reach t l x at h =
    let m = mul_assoc x l.d (pos t.run) in
    let k : int_le t.x (x *ℤ (l.d *ℤ pos t.run)) ≡ true = subst (λ (z : ℤ). int_le t.x z ≡ true) m
    (sym (omega (arith, ints))) in
    subst (λ (l : Level). int_le t.x (x *ℤ (l.d *ℤ pos t.run)) ≡ true) (sym at) k

first_way : (f a b c : Bool) → f ≡ true → a ≡ true → b ≡ true → (f && ((a && b) || c)) ≡ true
first_way f a b c h k m = rw (h, k, m) refl

second_way : (f a b c : Bool) → f ≡ true → a ≡ true → b ≡ true → (f && (c || (a && b))) ≡ true
second_way f a b true h k m = rw h refl
second_way f a b false h k m = rw (h, k, m) refl

module _ (l : Level) (s t : Spot) (hs : s.at ≡ l) (ht : t.at ≡ l) (e : LeafEdge) (flat : is_flat_at e.edge l ≡ true) where
  flat_here : is_flat_at e.edge s.at ≡ true
  flat_here = subst (λ (l : Level). is_flat_at e.edge l ≡ true) (sym hs) flat

  covers_rightwards : IsAtMost (across (whole_spot e.edge.a.x l)) (across s)
      → IsAtMost (across t) (across (whole_spot e.edge.b.x l)) → covers s t e ≡ true
  covers_rightwards h k = first_way (is_flat_at e.edge s.at) _ _ _ flat_here (left_reach s l e.edge.a.x hs h)
      (right_reach t l e.edge.b.x ht k)

  covers_leftwards : IsAtMost (across (whole_spot e.edge.b.x l)) (across s)
      → IsAtMost (across t) (across (whole_spot e.edge.a.x l)) → covers s t e ≡ true
  covers_leftwards h k = second_way (is_flat_at e.edge s.at) _ _ _ flat_here (left_reach s l e.edge.b.x hs h)
      (right_reach t l e.edge.a.x ht k)

none_passes : (p : LeafEdge → Bool) (es : List LeafEdge) → nat_lt (position_or_len p es) (length es) ≡ false
    → AllByRecursion (λ e. p e ≡ false) es
none_passes p [] h = tt
none_passes p (e ∷ es) h = by_test (p e) refl h (none_passes p es)
  where
    by_test : (b : Bool) → p e ≡ b → nat_lt (cond (not b) (1 + position_or_len p es) 0) (length (e ∷ es))
        ≡ false → (nat_lt (position_or_len p es) (length es) ≡ false → AllByRecursion (λ e. p e ≡ false) es)
        → (p e ≡ false) × AllByRecursion (λ e. p e ≡ false) es
    by_test true q h r = absurd (first (length es) h)
      where
        first : (n : ℕ) → nat_lt 0 (suc n) ≡ false → ⊥
        first n h = grind (arith, nat_tests)
    by_test false q h r = (q, r (less (position_or_len p es) (length es) h))
      where
        less : (m n : ℕ) → nat_lt (1 + m) (suc n) ≡ false → nat_lt m n ≡ false
        less m n h = grind (arith, nat_tests)

pub none_covers : (p : LeafEdge → Bool) (es : List LeafEdge) → position p es ≡ None
    → AllByRecursion (λ e. p e ≡ false)
    es
none_covers p es h = none_passes p es (by_test (nat_lt (position_or_len p es) (length es)) (position_or_len p es) h)
  where
    by_test : (b : Bool) (n : ℕ) → cond b (Some n) None ≡ None → b ≡ false
    by_test true n h = cc
    by_test false n h = refl

-- ---- spots beside a stretch
on_height : (l : Level) (x : ℤ) → IsSpotAt l (whole_spot x l)
on_height l x = record { at = refl; runs = omega (arith, ints) }

pub spot_is_at : (l : Level) (s : Spot) → IsSpotAt l s → IsAt l (point_of s)
spot_is_at l s h = subst (λ (m : Level). (m.n *ℤ pos s.run) *ℤ l.d ≡ l.n *ℤ (m.d *ℤ pos s.run)) (sym h.at)
    (sym (mul_beside l.n l.d (pos s.run)))

pub spot_divisor : (l : Level) (s : Spot) → pos 0 <ℤ l.d → IsSpotAt l s → pos 0 <ℤ (point_of s).d
spot_divisor l s dl h = positive_product s.at.d (pos s.run) (subst (λ (m : Level). pos 0 <ℤ m.d) (sym h.at) dl)
    h.runs

spots_gap : (sx sr wx wr k : ℤ) → wx *ℤ (k *ℤ sr) -ℤ sx *ℤ (k *ℤ wr)
    ≡ (wx *ℤ sr -ℤ sx *ℤ wr) *ℤ k
spots_gap sx sr wx wr k = ring (sx ∷ sr ∷ wx ∷ wr ∷ k ∷ []) (v2 ⊗ (v4 ⊗ v1) ⊖ v0 ⊗ (v4 ⊗ v3))
    ((v2 ⊗ v1 ⊖ v0 ⊗ v3) ⊗ v4)
    refl

pub spot_gap : (l : Level) (s w : Spot) → IsSpotAt l s → IsSpotAt l w → gap (point_of s) (point_of w)
    ≡ (w.x *ℤ pos s.run -ℤ s.x *ℤ pos w.run) *ℤ l.d
spot_gap l s w hs hw =
    ap₂ (λ (m n : Level). w.x *ℤ (m.d *ℤ pos s.run) -ℤ s.x *ℤ (n.d *ℤ pos w.run)) hs.at hw.at
    ∙ spots_gap s.x (pos s.run) w.x (pos w.run) l.d

pub not_after : (l : Level) (s w : Spot) → pos 0 <ℤ l.d → IsSpotAt l s → IsSpotAt l w
    → IsAtMost (across w) (across s) → is_right true (point_of s) (point_of w) ≡ false
unfolding is_beyond
not_after l s w dl hs hw h =
    ap (is_beyond true) (spot_gap l s w hs hw) ∙ beyond_mul true l.d (w.x *ℤ pos s.run -ℤ s.x *ℤ pos w.run) dl
    ∙ sym
    (omega (arith, ints))

pub is_after : (l : Level) (s w : Spot) → pos 0 <ℤ l.d → IsSpotAt l s → IsSpotAt l w
    → IsLower (across s) (across w) → is_right true (point_of s) (point_of w) ≡ true
unfolding is_beyond
is_after l s w dl hs hw h =
    ap (is_beyond true) (spot_gap l s w hs hw) ∙ beyond_mul true l.d (w.x *ℤ pos s.run -ℤ s.x *ℤ pos w.run) dl
    ∙ sym
    (omega (arith, ints))

-- a point hard by which, on one side, lies the stretch between two neighbouring stops
module _ (l : Level) (dl : pos 0 <ℤ l.d) (right : Bool) (p : Point) (dp : pos 0 <ℤ p.d) (s t : Spot) (hs : IsSpotAt l s)
    (ht : IsSpotAt l t) (o : IsLeft s t)
    (left : is_right right p (point_of s) ≡ false) (beyond : is_right right p (point_of t) ≡ true) where
  pub alike_beside : (ws : List Spot) → AllByRecursion (IsSpotAt l) ws → AllByRecursion (IsBeside s t) ws
      → AllByRecursion (IsAlike true (point_of s) right p) ws
  alike_beside [] hw h = tt
  alike_beside (w ∷ ws) hw h = (one w hw.0 h.0, alike_beside ws hw.1 h.1)
    where
      one : (w : Spot) → IsSpotAt l w → IsBeside s t w → IsAlike true (point_of s) right p w
      one w hw (inl e) = not_after l s w dl hs hw e ∙ sym (nearer l right p dp s w hs hw e left)
      one w hw (inr e) = is_after l s w dl hs hw (lower_then_at_most (across s) (across t) (across w) hs.runs ht.runs
          hw.runs o e) ∙ sym (further l right p dp t w ht hw e beyond)

  uncovered : (e : LeafEdge) → AllByRecursion (IsBeside s t) (own_spots e l) → covers s t e ≡ false
      → IsOneSided l right p e
  uncovered e h c flat =
      let ab = flat_spots (IsBeside s t) e l h flat in
      let ha = on_height l e.edge.a.x in
      let hb = on_height l e.edge.b.x in
      elim ab.0 [
        | inl a ↦ elim ab.1 [
          | inl b ↦ nearer l right p dp s (whole_spot e.edge.a.x l) hs ha a left ∙ sym
              (nearer l right p dp s (whole_spot e.edge.b.x l) hs hb b left)
          | inr b ↦ absurd (true≢false (sym (covers_rightwards l s t hs.at ht.at e flat a b) ∙ c))
        ]
        | inr a ↦ elim ab.1 [
          | inl b ↦ absurd (true≢false (sym (covers_leftwards l s t hs.at ht.at e flat b a) ∙ c))
          | inr b ↦ further l right p dp t (whole_spot e.edge.a.x l) ht ha a beyond ∙ sym
              (further l right p dp t (whole_spot e.edge.b.x l) ht hb b beyond)
        ]
      ]

  pub all_uncovered : (es : List LeafEdge) → AllByRecursion (IsBeside s t) (spots_at es l)
      → AllByRecursion (λ e. covers s t e ≡ false) es → AllByRecursion (IsOneSided l right p) es
  all_uncovered [] h c = tt
  all_uncovered (e ∷ es) h c = (
    uncovered e (front (IsBeside s t) (own_spots e l) (spots_at es l) h) c.0,
    all_uncovered es
        (back (IsBeside s t) (own_spots e l) (spots_at es l) h) c.1,
  )

-- ---- the walk
level_identity : (y d r n pd : ℤ) → y *ℤ d ≡ n *ℤ pd → y *ℤ (d *ℤ r) ≡ (n *ℤ r) *ℤ pd
level_identity y d r n pd h = sym (mul_assoc y d r) ∙ ap (λ (z : ℤ). z *ℤ r) h
    ∙ ring (n ∷ pd ∷ r ∷ []) ((v0 ⊗ v1) ⊗ v2)
    ((v0 ⊗ v2) ⊗ v1) refl

pub spot_ahead : (l : Level) (right : Bool) (p : Point) (w : Spot) → IsAt l p → IsSpotAt l w
    → ahead right p (point_of w) ≡ counted (is_right right p (point_of w))
spot_ahead l right p w at h =
    ahead_level right p (point_of w) (subst (λ (m : Level). p.y *ℤ (m.d *ℤ pos w.run)
    ≡ (m.n *ℤ pos w.run) *ℤ p.d)
    (sym h.at) (level_identity p.y l.d (pos w.run) l.n p.d at))

all_ahead : (l : Level) (right : Bool) (p : Point) (b : Bool) (ws : List Spot) → IsAt l p
    → AllByRecursion (IsSpotAt l) ws → AllByRecursion (λ w. is_right right p (point_of w) ≡ b) ws
    → AllByRecursion (λ w. ahead right p (point_of w) ≡ counted b) ws
all_ahead l right p b [] at hw h = tt
all_ahead l right p b (w ∷ ws) at hw h = (
  spot_ahead l right p w at hw.0 ∙ ap counted h.0,
  all_ahead l right p b ws at
      hw.1 h.1,
)

module _ (es : List LeafEdge) (shape : Shape) (balanced : AreLeavesBalanced es) (l : Level) (dl : pos 0 <ℤ l.d) (right : Bool) (p : Point) (dp : pos 0 <ℤ p.d) (at : IsAt l p) where
  -- what changes from above to below
  abbrev change : ℤ
  change = counted (is_in_by false right es shape p) -ℤ counted (is_in_by true right es shape p)

  no_change : AllByRecursion (IsOneSided l right p) es
      → pos 0 ≡ counted (is_in_by false right es shape p) -ℤ counted
      (is_in_by true right es shape p)
  no_change h = nothing (is_in_by true right es shape p) (is_in_by false right es shape p)
      (level_values right p dp es shape balanced (asides l dl right p dp at es h))
    where
      nothing : (a b : Bool) → a ≡ b → pos 0 ≡ counted b -ℤ counted a
      nothing true true h = refl
      nothing false false h = refl
      nothing true false h = cc
      nothing false true h = cc

  unchanged : (b : Bool) → AllByRecursion (λ w. is_right right p (point_of w) ≡ b) (spots_at es l)
      → pos 0 ≡ counted (is_in_by false right es shape p) -ℤ counted (is_in_by true right es shape p)
  unchanged b h = no_change (all_one_sided l right p b es h)

  before_last : (s : Spot) (ws : List Spot) → AllByRecursion (IsUpTo s []) ws
      → AllByRecursion (λ w. IsAtMost (across w) (across s)) ws
  before_last s [] h = tt
  before_last s (w ∷ ws) h = (one w h.0, before_last s ws h.1)
    where
      one : (w : Spot) → IsUpTo s [] w → IsAtMost (across w) (across s)
      one w (inl e) = e
      one w (inr e) = absurd e

  after_first : (s : Spot) (ss ws : List Spot) → AllByRecursion (IsSpotAt l) (s ∷ ss)
      → AllByRecursion (IsSpotAt l) ws
      → GoRight (s ∷ ss) → AllByRecursion (HasSpot (s ∷ ss)) ws
      → AllByRecursion (λ w. IsAtMost (across s) (across w))
      ws
  after_first s ss [] hs hw r h = tt
  after_first s ss (w ∷ ws) hs hw r h = (from_stop s ss l w hs hw.0.runs r h.0, after_first s ss ws hs hw.1 r h.1)

  -- later stops lie further to the right
  all_right : (s : Spot) (ss : List Spot) → AllByRecursion (IsSpotAt l) (s ∷ ss) → GoRight (s ∷ ss)
      → is_right right p (point_of s) ≡ true
      → AllByRecursion (λ w. is_right right p (point_of w) ≡ true) (s ∷ ss)
  all_right s [] hs r h = (h, tt)
  all_right s (t ∷ ss) hs r h =
      (h, all_right t ss hs.1 r.1 (further l right p dp s t hs.0 hs.1.0 (lower_weak (across s) (across t) r.0) h))

  none_counts : (s : Spot) (ss : List Spot) → AllByRecursion (IsSpotAt l) (s ∷ ss) → GoRight (s ∷ ss)
      → is_right right p (point_of s) ≡ true → aheads right p (flat_pieces es shape (s ∷ ss)) ≡ pos 0
  none_counts s ss hs r h = flat_alike right p es shape (counted true) (s ∷ ss)
      (all_ahead l right p true (s ∷ ss) at hs
      (all_right s ss hs r h))

  over_stretch : (s t : Spot) → IsSpotAt l s → IsSpotAt l t → IsLeft s t
      → AllByRecursion (IsBeside s t) (spots_at es l)
      → is_right right p (point_of s) ≡ false → is_right right p (point_of t) ≡ true
      → (name : Option ℕ) → position (covers s t) es ≡ name → aheads right p (stretch_piece es shape s t name)
      ≡ counted (is_in_by false right es shape p) -ℤ counted (is_in_by true right es shape p)
  over_stretch s t hs ht o h left beyond None c = no_change (all_uncovered l dl right p dp s t hs ht o left beyond es h
      (none_covers (covers s t) es c))
  over_stretch s t hs ht o h left beyond (Some name) c =
      let alike = alike_beside l dl right p dp s t hs ht o left beyond (spots_at es l) (spots_are_at es l) h in
      let above = values_alike l dl true (point_of s) right p (spot_divisor l s dl hs) dp (spot_is_at l s hs) at true es
      shape alike in
      let below = values_alike l dl true (point_of s) right p (spot_divisor l s dl hs) dp (spot_is_at l s hs) at false
      es shape alike in
      between_apart right p (is_in_by true true es shape (point_of s)) (is_in_by false true es shape (point_of s)) s t
      name
      (spot_ahead l right p s at hs ∙ ap counted left) (spot_ahead l right p t at ht ∙ ap counted beyond)
      ∙ ap₂ (λ (v w : Bool). counted w -ℤ counted v) above below

  sum_left : (x a b c : ℤ) → x ≡ a +ℤ b → a ≡ c → b ≡ pos 0 → x ≡ c
  sum_left x a b c h k m = omega (arith, ints)

  sum_right : (x a b c : ℤ) → x ≡ a +ℤ b → a ≡ pos 0 → b ≡ c → x ≡ c
  sum_right x a b c h k m = omega (arith, ints)

  walk : (s : Spot) (ss : List Spot) → AllByRecursion (IsSpotAt l) (s ∷ ss) → GoRight (s ∷ ss)
      → AllByRecursion (IsUpTo s ss) (spots_at es l) → is_right right p (point_of s) ≡ false
      → aheads right p (flat_pieces es shape (s ∷ ss)) ≡ counted (is_in_by false right es shape p) -ℤ counted
      (is_in_by true right es shape p)
  walk s [] hs r h left = unchanged false (all_nearer l right p dp s (spots_at es l) hs.0 (spots_are_at es l)
      (before_last s (spots_at es l) h) left)
  walk s (t ∷ ss) hs r h left =
      let parts = aheads-append right p (stretch_piece es shape s t (position (covers s t) es))
      (flat_pieces es shape (t ∷ ss)) in
      by_test (is_right right p (point_of t)) refl parts
      (λ k. walk t ss hs.1 r.1 (next_up_to l s t ss (spots_at es l) hs.0 hs.1.0 (spots_are_at es l) r.0 h) k)
    where
      by_test : (b : Bool) → is_right right p (point_of t) ≡ b
          → aheads right p (flat_pieces es shape (s ∷ (t ∷ ss))) ≡ aheads right p
          (stretch_piece es shape s t (position (covers s t) es)) +ℤ aheads right p (flat_pieces es shape (t ∷ ss))
          → (is_right right p (point_of t) ≡ false → aheads right p (flat_pieces es shape (t ∷ ss))
          ≡ counted (is_in_by false right es shape p) -ℤ counted (is_in_by true right es shape p))
          → aheads right p (flat_pieces es shape (s ∷ (t ∷ ss)))
          ≡ counted (is_in_by false right es shape p) -ℤ counted
          (is_in_by true right es shape p)
      by_test true beyond parts next =
          sum_left _ _ _ _ parts
          (over_stretch s t hs.0 hs.1.0 r.0 (beside l s t ss (spots_at es l) hs.1 (spots_are_at es l) r.1 h) left beyond
          (position (covers s t) es) refl)
          (none_counts t ss hs.1 r.1 beyond)
      by_test false k parts next =
          sum_right _ _ _ _ parts
          (stretch_alike right p es shape s t (position (covers s t) es) (spot_ahead l right p s at hs.0 ∙ ap counted
          (left ∙ sym k) ∙ sym (spot_ahead l right p t at hs.1.0)))
          (next k)

  impossible : (ws : List Spot) (b : Bool) → AllByRecursion (HasSpot []) ws
      → AllByRecursion (λ w. is_right right p (point_of w) ≡ b) ws
  impossible [] b h = tt
  impossible (w ∷ ws) b h = absurd h.0

  -- ahead of a point at the height of a level, its flat pieces make up for what changes from above to below
  pub flat_change : (stops : List Spot) → AreStops es l stops → aheads right p (flat_pieces es shape stops)
      ≡ counted (is_in_by false right es shape p) -ℤ counted (is_in_by true right es shape p)
  flat_change [] a = unchanged false (impossible (spots_at es l) false a.complete)
  flat_change (s ∷ ss) a = by_test (is_right right p (point_of s)) refl
    where
      by_test : (b : Bool) → is_right right p (point_of s) ≡ b → aheads right p (flat_pieces es shape (s ∷ ss))
          ≡ counted (is_in_by false right es shape p) -ℤ counted (is_in_by true right es shape p)
      by_test true h =
          let hs = stops_at es l (s ∷ ss) a in
          none_counts s ss hs a.rightwards h
          ∙ unchanged true (all_further l right p dp s (spots_at es l) hs.0 (spots_are_at es l)
          (after_first s ss (spots_at es l) hs (spots_are_at es l) a.rightwards a.complete) h)
      by_test false h = walk s ss (stops_at es l (s ∷ ss) a) a.rightwards
          (first_up_to s ss (spots_at es l) a.complete)
          h

-- the flat pieces of other levels don't count
all_over : (l : Level) (right : Bool) (p : Point) (ws : List Spot) → IsLower (level_at p) l
    → AllByRecursion (IsSpotAt l) ws → AllByRecursion (λ w. ahead right p (point_of w) ≡ pos 0) ws
all_over l right p [] o h = tt
all_over l right p (w ∷ ws) o h = (
  ahead_over right p (point_of w) (lower_scaled (level_at p) w.at (pos w.run) h.0.runs
      (subst (IsLower (level_at p)) (sym h.0.at) o)),
  all_over l right p ws o h.1,
)

all_under : (l : Level) (right : Bool) (p : Point) (ws : List Spot) → IsLower l (level_at p)
    → AllByRecursion (IsSpotAt l) ws → AllByRecursion (λ w. ahead right p (point_of w) ≡ pos 0) ws
all_under l right p [] o h = tt
all_under l right p (w ∷ ws) o h = (
  ahead_under right p (point_of w) (scaled_below (level_at p) w.at (pos w.run) h.0.runs
      (subst (λ (m : Level). IsLower m (level_at p)) (sym h.0.at) o)),
  all_under l right p ws o h.1,
)

pub flat_over : (es : List LeafEdge) (shape : Shape) (l : Level) (right : Bool) (p : Point) → IsLower (level_at p) l
    → (stops : List Spot) → AreStops es l stops → aheads right p (flat_pieces es shape stops) ≡ pos 0
flat_over es shape l right p o stops a = flat_alike right p es shape (pos 0) stops
    (all_over l right p stops o (stops_at es l stops a))

pub flat_under : (es : List LeafEdge) (shape : Shape) (l : Level) (right : Bool) (p : Point) → IsLower l (level_at p)
    → (stops : List Spot) → AreStops es l stops → aheads right p (flat_pieces es shape stops) ≡ pos 0
flat_under es shape l right p o stops a = flat_alike right p es shape (pos 0) stops
    (all_under l right p stops o (stops_at es l stops a))
