-- What lies hard by a point at a height depends only on which of the height's spots lie to its right.
use Rattle.std.proofs.Common.{◌≡◌, ℕ, zero, suc, ◌⊎◌, inl, inr, Bool, true, false, cond, List, [], ◌∷◌, refl, sym, ap, ap₂, ◌∙◌, arith, subst}
use lib.IntN.{ℤ, pos, negsuc, ◌+ℤ◌, ◌-ℤ◌, ◌*ℤ◌}
use lib.Signed.{◌<ℤ◌}
use Rattle.std.specs.Prelude.{int_lt, int_le, if◌then◌else◌, ◌==◌, ◌&&◌, unsigned_abs}
use Rattle.std.specs.Ordering.{int_eq}
use Rattle.std.specs.List.{AllByRecursion}
use Rattle.std.proofs.lemmas.Int.{ints, by_lt_z}
use Rattle.std.proofs.lemmas.Bool.{and_parts}
use Rattle.scad_geom.proofs.Leaves.{held_alike}
use Rattle.scad_geom.specs.declared.point.Pt.{Pt}
use Rattle.scad_geom.specs.declared.point.Edge.{Edge}
use Rattle.scad_geom.specs.declared.level.Level.{Level}
use Rattle.scad_geom.specs.declared.level.LeafEdge.{LeafEdge}
use Rattle.scad_geom.specs.declared.shape.Shape.{Shape}
use Rattle.scad_geom.specs.Line.{low, high, rise, run, offset, x_at, left_of, heading}
use Rattle.scad_geom.specs.Winding.{counted}
use Rattle.scad_geom.specs.Point.{Point, whole}
use Rattle.scad_geom.specs.Winding.{is_beyond, turn}
use Rattle.scad_geom.proofs.Leaves.{wind_leaf}
use Rattle.scad_geom.specs.Shape.{is_in_by}
use Rattle.scad_geom.specs.Sign.{is_zero}
use Rattle.scad_geom.specs.Level.{level_of, IsLower, IsAtMost, IsSameHeight}
use Rattle.scad_geom.proofs.Ring.{ring, ◌⊕◌, ◌⊖◌, ◌⊗◌, v0, v1, v2, v3, v4, v5, v6, v7}
use Rattle.scad_geom.proofs.Heights.{lower_then_at_most, at_most_then_lower, at_most_chain, lower_weak, same_at_least}
use Rattle.scad_geom.proofs.Order.{front, back}
use Rattle.scad_geom.proofs.Turns.{level_at, Over, NotOver, under_turn, over_turn, reaching_turn, beyond_mul}
use Rattle.slice_pieces.specs.declared.piece.Spot.{Spot}
use Rattle.slice_border.specs.Pieces.{spot_on, whole_spot, is_flat_at, passes_at, spots_at}
use Rattle.slice_pieces.specs.Spots.{point_of}
use Rattle.slice_border.proofs.Middle.{size_of}
use Rattle.slice_border.proofs.Winding.{either_over}
use Rattle.slice_border.proofs.BalanceTurns.{gap, is_right, ahead_level, ahead_over, ahead_under, drop_zero}
use Rattle.slice_border.proofs.BalanceEdges.{IsAside}
use Rattle.scad_geom.proofs.Signs.{no_gap, mul-one}
use Rattle.std.specs.Cmp.{signed_Decides}
use Rattle.scad_geom.proofs.Heights.{same_at_most}

-- a point at a height
abbrev pub IsAt : Level → Point → Type 0
IsAt l p = IsSameHeight (level_at p) l

over_at : (above : Bool) (p l h : Level) → pos 0 <ℤ p.d → pos 0 <ℤ l.d → pos 0 <ℤ h.d → IsSameHeight p l
    → Over above l h → Over above p h
over_at true p l h dp dl dh e o = at_most_then_lower p l h dp dl dh (same_at_least p l e) o
over_at false p l h dp dl dh e o = at_most_chain p l h dp dl dh (same_at_least p l e) o

not_over_at : (above : Bool) (p l h : Level) → pos 0 <ℤ p.d → pos 0 <ℤ l.d → pos 0 <ℤ h.d
    → IsSameHeight p l → NotOver above l h → NotOver above p h
not_over_at true p l h dp dl dh e o = at_most_chain h l p dh dl dp o (same_at_most p l e)
not_over_at false p l h dp dl dh e o = lower_then_at_most h l p dh dl dp o (same_at_most p l e)

over_weak : (above : Bool) (l h : Level) → Over above l h → IsAtMost l h
over_weak true l h o = lower_weak l h o
over_weak false l h o = o

not_over_weak : (above : Bool) (l h : Level) → NotOver above l h → IsAtMost h l
not_over_weak true l h o = o
not_over_weak false l h o = lower_weak h l o

apart_by : (above : Bool) (a l b : Level) → pos 0 <ℤ a.d → pos 0 <ℤ l.d → pos 0 <ℤ b.d → NotOver above l a
    → Over above l b → IsLower a b
apart_by true a l b da dl db h k = at_most_then_lower a l b da dl db h k
apart_by false a l b da dl db h k = lower_then_at_most a l b da dl db h k

-- ---- the line of an edge and its spot
left_identity : (u c r x y d n k : ℤ) → (u *ℤ y +ℤ c *ℤ d -ℤ r *ℤ x) *ℤ k
    ≡ u *ℤ (y *ℤ k -ℤ n *ℤ d) +ℤ
    ((u *ℤ n +ℤ c *ℤ k) *ℤ d -ℤ x *ℤ (k *ℤ r))
left_identity u c r x y d n k = ring (u ∷ c ∷ r ∷ x ∷ y ∷ d ∷ n ∷ k ∷ [])
    ((v0 ⊗ v4 ⊕ v1 ⊗ v5 ⊖ v2 ⊗ v3) ⊗ v7)
    (v0 ⊗ (v4 ⊗ v7 ⊖ v6 ⊗ v5) ⊕ ((v0 ⊗ v6 ⊕ v1 ⊗ v7) ⊗ v5 ⊖ v3 ⊗ (v7 ⊗ v2))) refl

left_is : (e : Edge) (l : Level) (p : Point) (r : ℤ) → r ≡ rise e → IsAt l p → left_of e p.x p.y p.d *ℤ l.d
    ≡ x_at e l.n l.d *ℤ p.d -ℤ p.x *ℤ (l.d *ℤ r)
unfolding left_of x_at
left_is e l p r q h =
    rw q (left_identity (run e) (offset e) (rise e) p.x p.y p.d l.n l.d
    ∙ drop_zero (run e) (p.y *ℤ l.d -ℤ l.n *ℤ p.d)
    ((run e *ℤ l.n +ℤ offset e *ℤ l.d) *ℤ p.d -ℤ p.x *ℤ (l.d *ℤ rise e))
    (no_gap (p.y *ℤ l.d) (l.n *ℤ p.d) h))

beyond_left : (right : Bool) (e : Edge) (l : Level) (p : Point) → pos 0 <ℤ l.d → pos 0 <ℤ rise e → IsAt l p
    → is_beyond right (left_of e p.x p.y p.d) ≡ is_right right p (point_of (spot_on e l))
beyond_left right e l p dl r h =
    sym (beyond_mul right l.d (left_of e p.x p.y p.d) dl)
    ∙ ap (is_beyond right) (left_is e l p (pos (unsigned_abs (rise e))) (size_of (rise e) r) h)

-- ---- ends by the test of which is lower
lower_end : (e : Edge) (t : Bool) → int_lt e.b.y e.a.y ≡ t → cond t e.b e.a ≡ low e
unfolding low
lower_end e t h = sym (ap (λ (t : Bool). cond t e.b e.a) h)

upper_end : (e : Edge) (t : Bool) → int_lt e.b.y e.a.y ≡ t → cond t e.a e.b ≡ high e
unfolding high
upper_end e t h = sym (ap (λ (t : Bool). cond t e.a e.b) h)

rises_by : (e : Edge) (a b : Pt) → a ≡ low e → b ≡ high e → a.y <ℤ b.y → pos 0 <ℤ rise e
unfolding rise
rises_by e a b lo hi o = subst (λ (q : Pt). pos 0 <ℤ (q.y -ℤ (low e).y)) hi
    (subst (λ (q : Pt). pos 0 <ℤ (b.y -ℤ q.y))
    lo (omega (arith, ints)))

-- ---- an edge turns alike round all points of a height with its spot on the same side
-- not at all, or by its heading where the spot lies to the right
abbrev TurnsBySpot : Bool → Edge → Level → Type 0
TurnsBySpot above e l =
    ((right : Bool) (p : Point) → pos 0 <ℤ p.d → IsAt l p
    → turn above right p (whole e.a) (whole e.b) ≡ pos 0)
    ⊎ ((passes_at e l ≡ true) × ((right : Bool) (p : Point) → pos 0 <ℤ p.d → IsAt l p
    → turn above right p (whole e.a)
    (whole e.b) ≡ (if is_right right p (point_of (spot_on e l)) then heading e else pos 0)))

module _ (above : Bool) (e : Edge) (l : Level) (dl : pos 0 <ℤ l.d) where
  one : pos 0 <ℤ pos 1
  one = omega (arith, ints)

  passes : pos 0 <ℤ rise e → NotOver above l (level_of (low e).y) → Over above l (level_of (high e).y)
      → passes_at e l ≡ true
  passes r h k =
      let a = not_over_weak above l (level_of (low e).y) h in
      let b = over_weak above l (level_of (high e).y) k in
      let x : int_lt (pos 0) (rise e) ≡ true = sym (omega (arith, ints)) in
      let y : int_le ((low e).y *ℤ l.d) l.n ≡ true = sym (omega (arith, ints)) in
      let z : int_le l.n ((high e).y *ℤ l.d) ≡ true = sym (omega (arith, ints)) in
      rw (x, y, z)

  itself : (y : ℤ) → IsAtMost (level_of y) (level_of y)
  itself y = omega (arith, ints)

  by_heading : pos 0 <ℤ rise e → NotOver above l (level_of (low e).y) → Over above l (level_of (high e).y)
      → TurnsBySpot above e l
  by_heading r h k = inr (
    passes r h k,
    λ right p dp at. reaching_turn above right p e (level_of (low e).y) (level_of (high e).y) dp one one
        (record { rises = r; from = itself (low e).y; to = itself (high e).y }) (
          not_over_at above (level_at p) l (level_of (low e).y) dp dl one at h,
          over_at above (level_at p) l
              (level_of (high e).y) dp dl one at k,
        )
        ∙ ap (λ (t : Bool). if t then heading e else pos 0) (beyond_left right e l p dl r at),
  )

  upwards : NotOver above l (level_of e.a.y) → Over above l (level_of e.b.y) → TurnsBySpot above e l
  upwards h k =
      let o = apart_by above (level_of e.a.y) l (level_of e.b.y) one dl one h k in
      let t : int_lt e.b.y e.a.y ≡ false = sym (omega (arith, ints)) in
      let lo : e.a ≡ low e = lower_end e false t in
      let hi : e.b ≡ high e = upper_end e false t in
      by_heading (rises_by e e.a e.b lo hi (omega (arith, ints)))
      (subst (λ (q : Pt). NotOver above l (level_of q.y)) lo
      h) (subst (λ (q : Pt). Over above l (level_of q.y)) hi k)

  downwards : NotOver above l (level_of e.b.y) → Over above l (level_of e.a.y) → TurnsBySpot above e l
  downwards h k =
      let o = apart_by above (level_of e.b.y) l (level_of e.a.y) one dl one h k in
      let t : int_lt e.b.y e.a.y ≡ true = sym (omega (arith, ints)) in
      let lo : e.b ≡ low e = lower_end e true t in
      let hi : e.a ≡ high e = upper_end e true t in
      by_heading (rises_by e e.b e.a lo hi (omega (arith, ints)))
      (subst (λ (q : Pt). NotOver above l (level_of q.y)) lo
      h) (subst (λ (q : Pt). Over above l (level_of q.y)) hi k)

  pub turns_by_spot : TurnsBySpot above e l
  turns_by_spot = elim (either_over above l (level_of e.a.y)) [
    | inl oa ↦ elim (either_over above l (level_of e.b.y)) [
      | inl ob ↦ inl (λ right p dp at. over_turn above right p e (over_at above (level_at p) l (level_of e.a.y) dp dl
          one at oa) (over_at above (level_at p) l (level_of e.b.y) dp dl one at ob))
      | inr ob ↦ downwards ob oa
    ]
    | inr oa ↦ elim (either_over above l (level_of e.b.y)) [
      | inl ob ↦ upwards oa ob
      | inr ob ↦ inl (λ right p dp at. under_turn above right p e
          (not_over_at above (level_at p) l (level_of e.a.y) dp
          dl one at oa) (not_over_at above (level_at p) l (level_of e.b.y) dp dl one at ob))
    ]
  ]

-- ---- the spots of a height and the edges that they come from
abbrev pub own_spots : LeafEdge → Level → List Spot
own_spots e l = if is_flat_at e.edge l then whole_spot e.edge.a.x l
    ∷ (whole_spot e.edge.b.x l ∷ []) else if passes_at
    e.edge l then spot_on e.edge l ∷ [] else []

not_zero : (z : ℤ) → int_lt (pos 0) z ≡ true → is_zero z ≡ false
not_zero (pos n) h = by_size n h
  where
    by_size : (n : ℕ) → int_lt (pos 0) (pos n) ≡ true → is_zero (pos n) ≡ false
    by_size zero h = cc
    by_size (suc n) h = refl
not_zero (negsuc n) h = refl

pub passing_spot : (P : Spot → Type 0) (e : LeafEdge) (l : Level) → AllByRecursion P (own_spots e l)
    → passes_at e.edge l ≡ true → P (spot_on e.edge l)
passing_spot P e l h k =
    let z : is_zero (rise e.edge) ≡ false = not_zero (rise e.edge) (and_parts (int_lt (pos 0) (rise e.edge))
    (int_le ((low e.edge).y *ℤ l.d) l.n && int_le l.n ((high e.edge).y *ℤ l.d)) k).0 in
    let f : is_flat_at e.edge l ≡ false = ap (λ (t : Bool). t && int_eq (e.edge.a.y *ℤ l.d) l.n) z in
    let h' = subst (λ (t : Bool). AllByRecursion P (if t then whole_spot e.edge.a.x l ∷ (whole_spot e.edge.b.x l ∷ [])
    else if passes_at e.edge l then spot_on e.edge l ∷ [] else [])) f h in
    (subst (λ (t : Bool). AllByRecursion P (if t then spot_on e.edge l ∷ [] else [])) k h').0

pub flat_spots : (P : Spot → Type 0) (e : LeafEdge) (l : Level) → AllByRecursion P (own_spots e l)
    → is_flat_at e.edge l ≡ true → P (whole_spot e.edge.a.x l) × P (whole_spot e.edge.b.x l)
flat_spots P e l h k =
    let h' = subst (λ (t : Bool). AllByRecursion P (if t then whole_spot e.edge.a.x l ∷ (whole_spot e.edge.b.x l ∷ [])
    else if passes_at e.edge l then spot_on e.edge l ∷ [] else [])) k h in
    (h'.0, h'.1.0)

-- a spot lies on the right of both points or of none
abbrev pub IsAlike : Bool → Point → Bool → Point → Spot → Type 0
IsAlike r p s q w = is_right r p (point_of w) ≡ is_right s q (point_of w)

module _ (l : Level) (dl : pos 0 <ℤ l.d) (r : Bool) (p : Point) (s : Bool) (q : Point) (dp : pos 0 <ℤ p.d) (dq : pos 0 <ℤ q.d) (ap' : IsAt l p) (aq : IsAt l q) where
  turn_alike : (above : Bool) (e : LeafEdge) → AllByRecursion (IsAlike r p s q) (own_spots e l)
      → turn above r p (whole e.edge.a) (whole e.edge.b) ≡ turn above s q (whole e.edge.a) (whole e.edge.b)
  turn_alike above e h = elim (turns_by_spot above e.edge l dl) [
    | inl z ↦ z r p dp ap' ∙ sym (z s q dq aq)
    | inr z ↦ z.1 r p dp ap' ∙ ap (λ (t : Bool). if t then heading e.edge else pos 0)
        (passing_spot (IsAlike r p s q) e
        l h z.0) ∙ sym (z.1 s q dq aq)
  ]

  wind_alike : (above : Bool) (leaf : ℕ) (es : List LeafEdge) → AllByRecursion (IsAlike r p s q) (spots_at es l)
      → wind_leaf above r p leaf es ≡ wind_leaf above s q leaf es
  wind_alike above leaf [] h = refl
  wind_alike above leaf (e ∷ es) h =
      ap₂ (λ (y z : ℤ). y +ℤ z)
      (ap (λ (z : ℤ). if e.leaf == leaf then z else pos 0)
      (turn_alike above e (front (IsAlike r p s q) (own_spots e l) (spots_at es l) h)))
      (wind_alike above leaf es (back (IsAlike r p s q) (own_spots e l) (spots_at es l) h))

  pub values_alike : (above : Bool) (es : List LeafEdge) (shape : Shape) → AllByRecursion (IsAlike r p s q)
      (spots_at es l) → is_in_by above r es shape p ≡ is_in_by above s es shape q
  values_alike above es shape h = held_alike above r p es above s q es shape (λ leaf. wind_alike above leaf es h)

-- ---- flat edges
-- a flat edge of a height has both ends on the right of a point or none
abbrev pub IsOneSided : Level → Bool → Point → LeafEdge → Type 0
IsOneSided l right p e = is_flat_at e.edge l ≡ true → is_right right p (point_of (whole_spot e.edge.a.x l))
    ≡ is_right right p (point_of (whole_spot e.edge.b.x l))

whole_gap : (x px d k : ℤ) → (x *ℤ k) *ℤ d -ℤ px *ℤ (k *ℤ pos 1) ≡ (x *ℤ d -ℤ px *ℤ pos 1) *ℤ k
whole_gap x px d k = two x px d k ∙ ap (λ (z : ℤ). z *ℤ k)
    (ap (λ (z : ℤ). x *ℤ d -ℤ z) (sym (mul-one px)))
  where
    two : (x px d k : ℤ) → (x *ℤ k) *ℤ d -ℤ px *ℤ (k *ℤ pos 1) ≡ (x *ℤ d -ℤ px) *ℤ k
    two x px d k = ap (λ (z : ℤ). (x *ℤ k) *ℤ d -ℤ px *ℤ z) (mul-one k)
        ∙ ring (x ∷ px ∷ d ∷ k ∷ [])
        ((v0 ⊗ v3) ⊗ v2 ⊖ v1 ⊗ v3) ((v0 ⊗ v2 ⊖ v1) ⊗ v3) refl

whole_right : (right : Bool) (p : Point) (l : Level) (a : Pt) → pos 0 <ℤ l.d
    → is_right right p (point_of (whole_spot a.x l)) ≡ is_right right p (whole a)
whole_right right p l a dl = ap (is_beyond right) (whole_gap a.x p.x p.d l.d) ∙ beyond_mul right l.d (gap p (whole a))
    dl

is_zero-rise : (e : Edge) → e.a.y ≡ e.b.y → is_zero (rise e) ≡ true
unfolding rise low high
is_zero-rise e h =
    let t : int_lt e.b.y e.a.y ≡ false = sym (omega (arith, ints)) in
    let z : e.b.y -ℤ e.a.y ≡ pos 0 = omega (arith, ints) in
    ap is_zero (ap (λ (t : Bool). (cond t e.a e.b).y -ℤ (cond t e.b e.a).y) t ∙ z)

one_sided : (l : Level) → pos 0 <ℤ l.d → (right : Bool) (p : Point) → pos 0 <ℤ p.d → IsAt l p
    → (e : LeafEdge) → IsOneSided l right p e → IsAside right p e
one_sided l dl right p dp at e h flat =
    let one : pos 0 <ℤ pos 1 = omega (arith, ints) in
    by_lt_z (e.edge.a.y *ℤ l.d) l.n
    (λ o.
    let u : IsLower (level_of e.edge.a.y) l = omega (arith, ints) in
    let v = lower_then_at_most (level_of e.edge.a.y) l (level_at p) one dl dp u (same_at_most (level_at p) l at) in
    ahead_under right p (whole e.edge.a) v ∙ sym (ahead_under right p (whole e.edge.b)
    (subst (λ (y : ℤ). IsLower (level_of y) (level_at p)) flat v)))
    (λ n. by_lt_z l.n (e.edge.a.y *ℤ l.d)
    (λ o.
    let u : IsLower l (level_of e.edge.a.y) = omega (arith, ints) in
    let v = at_most_then_lower (level_at p) l (level_of e.edge.a.y) dp dl one (same_at_least (level_at p) l at) u in
    ahead_over right p (whole e.edge.a) v ∙ sym (ahead_over right p (whole e.edge.b)
    (subst (λ (y : ℤ). IsLower (level_at p) (level_of y)) flat v)))
    (λ m.
    let level : e.edge.a.y *ℤ l.d ≡ l.n = omega (arith, ints) in
    let same : IsSameHeight (level_of e.edge.a.y) l = omega (arith, ints) in
    let a = at_most_chain (level_at p) l (level_of e.edge.a.y) dp dl one (same_at_least (level_at p) l at)
    (same_at_most (level_of e.edge.a.y) l same) in
    let b = at_most_chain (level_of e.edge.a.y) l (level_at p) one dl dp (same_at_least (level_of e.edge.a.y) l same)
    (same_at_most (level_at p) l at) in
    let here : p.y *ℤ pos 1 ≡ e.edge.a.y *ℤ p.d = omega (arith, ints) in
    let k : is_flat_at e.edge l ≡ true = rw (is_zero-rise e.edge flat) ((signed_Decides (e.edge.a.y *ℤ l.d) l.n).1
    level) in
    ahead_level right p (whole e.edge.a) here
    ∙ ap counted (sym (whole_right right p l e.edge.a dl) ∙ h k ∙ whole_right right p l e.edge.b dl)
    ∙ sym (ahead_level right p (whole e.edge.b) (subst (λ (y : ℤ). p.y *ℤ pos 1 ≡ y *ℤ p.d) flat here))))

pub asides : (l : Level) → pos 0 <ℤ l.d → (right : Bool) (p : Point) → pos 0 <ℤ p.d → IsAt l p
    → (es : List LeafEdge) → AllByRecursion (IsOneSided l right p) es → AllByRecursion (IsAside right p) es
asides l dl right p dp at [] h = tt
asides l dl right p dp at (e ∷ es) h = (one_sided l dl right p dp at e h.0, asides l dl right p dp at es h.1)

-- all spots on one side
pub all_one_sided : (l : Level) (right : Bool) (p : Point) (b : Bool) (es : List LeafEdge)
    → AllByRecursion (λ w. is_right right p (point_of w) ≡ b) (spots_at es l)
    → AllByRecursion (IsOneSided l right p) es
all_one_sided l right p b [] h = tt
all_one_sided l right p b (e ∷ es) h = (
  λ k. let t = flat_spots (λ w. is_right right p (point_of w) ≡ b) e l (front (λ w. is_right right p (point_of w) ≡ b) (own_spots e l) (spots_at es l) h) k in t.0 ∙ sym t.1,
  all_one_sided l right p b es (back (λ w. is_right right p (point_of w) ≡ b) (own_spots e l) (spots_at es l) h),
)
