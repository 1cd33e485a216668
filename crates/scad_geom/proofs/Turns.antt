-- The turn of an edge that reaches two neighbouring heights, hard by a point between them.
use Rattle.std.proofs.Common.{◌≡◌, Bool, true, false, cond, [], ◌∷◌, refl, sym, ap, ap₂, ◌∙◌, arith, subst}
use Rattle.scad_base.proofs.Integers.{zero_minus, at_most_of_less}
use lib.IntN.{ℤ, pos, negsuc, ◌+ℤ◌, ◌-ℤ◌, ◌*ℤ◌, neg_ℤ}
use lib.Signed.{◌<ℤ◌}
use Rattle.std.specs.Prelude.{int_lt, int_le, if◌then◌else◌}
use Rattle.std.proofs.lemmas.Int.{ints, by_lt_z}
use Rattle.scad_geom.specs.declared.point.Pt.{Pt}
use Rattle.scad_geom.specs.declared.point.Edge.{Edge}
use Rattle.scad_geom.specs.declared.level.Level.{Level}
use Rattle.scad_geom.specs.Line.{low, high, rise, run, offset, x_at, left_of, heading}
use Rattle.scad_geom.specs.Point.{Point, whole}
use Rattle.scad_geom.specs.Winding.{counted, is_over, passage_by, side_by, is_beyond, turn}
use Rattle.scad_geom.specs.Level.{level_of, IsLower, IsAtMost}
use Rattle.scad_geom.proofs.Ring.{ring, num, ◌⊕◌, ◌⊖◌, ◌⊗◌, v0, v1, v2, v3, v4, v5, v6}
use Rattle.scad_base.proofs.Products.{positive_product, negative_product}
use Rattle.scad_geom.proofs.Signs.{at_least_mul, at_most_mul, one-mul, minus_one-mul}
use Rattle.scad_geom.proofs.Heights.{Reaches, lower_then_at_most, at_most_then_lower, at_most_chain}

-- the height of a point
abbrev pub level_at : Point → Level
level_at p = record { n = p.y; d = p.d }

-- what `is_over` says of the heights of two points
abbrev pub Over : Bool → Level → Level → Type 0
Over true p b = IsLower p b
Over false p b = IsAtMost p b

abbrev pub NotOver : Bool → Level → Level → Type 0
NotOver true p b = IsAtMost b p
NotOver false p b = IsLower b p

pub over_true : (above : Bool) (p b : Point) → Over above (level_at p) (level_at b) → is_over above p b ≡ true
unfolding is_over
over_true true p b h = sym (omega (arith, ints))
over_true false p b h = sym (omega (arith, ints))

pub over_false : (above : Bool) (p b : Point) → NotOver above (level_at p) (level_at b) → is_over above p b ≡ false
unfolding is_over
over_false true p b h = sym (omega (arith, ints))
over_false false p b h = sym (omega (arith, ints))

-- a point lies between two heights: above the first or at it and below the second, or hard by it below them
abbrev pub Spans : Bool → Level → Level → Level → Type 0
Spans above p l u = NotOver above p l × Over above p u

pub over_up : (above : Bool) (p u h : Level) → pos 0 <ℤ p.d → pos 0 <ℤ u.d → pos 0 <ℤ h.d → Over above p u
    → IsAtMost u h → Over above p h
over_up true p u h dp du dh o k = lower_then_at_most p u h dp du dh o k
over_up false p u h dp du dh o k = at_most_chain p u h dp du dh o k

pub not_over_down : (above : Bool) (p l h : Level) → pos 0 <ℤ p.d → pos 0 <ℤ l.d → pos 0 <ℤ h.d → NotOver above p l
    → IsAtMost h l → NotOver above p h
not_over_down true p l h dp dl dh o k = at_most_chain h l p dh dl dp k o
not_over_down false p l h dp dl dh o k = at_most_then_lower h l p dh dl dp k o

-- ---- turns of segments
pub flat_turn : (above right : Bool) (p a b : Point) → is_over above p a ≡ is_over above p b → turn above right p a b
    ≡ pos 0
unfolding turn passage_by
flat_turn above right p a b e =
    rw e (by_both (is_over above p b) (is_beyond right ((counted (is_over above p b) -ℤ counted (is_over above p b)) *ℤ
    side_by p a b)))
  where
    by_both : (t s : Bool) → (if s then counted t -ℤ counted t else pos 0) ≡ pos 0
    by_both true true = refl
    by_both true false = refl
    by_both false true = refl
    by_both false false = refl

pub rising_turn : (above right : Bool) (p a b : Point) → is_over above p a ≡ false → is_over above p b ≡ true
    → turn above right p a b ≡ (if is_beyond right (side_by p a b) then pos 1 else pos 0)
unfolding turn passage_by
rising_turn above right p a b e f = rw (e, f, one-mul (side_by p a b))

pub falling_turn : (above right : Bool) (p a b : Point) → is_over above p a ≡ true → is_over above p b ≡ false
    → turn above right p a b ≡ (if is_beyond right (neg_ℤ (side_by p a b)) then negsuc 0 else pos 0)
unfolding turn passage_by
falling_turn above right p a b e f = rw (e, f, minus_one-mul (side_by p a b))

-- a positive factor doesn't matter
pub beyond_mul : (right : Bool) (k z : ℤ) → pos 0 <ℤ k → is_beyond right (z *ℤ k) ≡ is_beyond right z
unfolding is_beyond
beyond_mul true k z h = by_lt_z (pos 0) z
    (λ q. let a : int_lt (pos 0) z ≡ true = sym (omega (arith, ints)) in let b : int_lt (pos 0) (z *ℤ k) ≡ true = let m = positive_product z k q h in sym (omega (arith, ints)) in b ∙ sym a)
    (λ q. let a : int_lt (pos 0) z ≡ false = sym (omega (arith, ints)) in let b : int_lt (pos 0) (z *ℤ k) ≡ false = let m = at_most_mul z k q (at_most_of_less (pos 0) k h) in sym (omega (arith, ints)) in b ∙ sym a)
beyond_mul false k z h = by_lt_z z (pos 0)
    (λ q. let a : int_le (pos 0) z ≡ false = sym (omega (arith, ints)) in let b : int_le (pos 0) (z *ℤ k) ≡ false = let m = negative_product z k h q in sym (omega (arith, ints)) in b ∙ sym a)
    (λ q. let a : int_le (pos 0) z ≡ true = sym (omega (arith, ints)) in let b : int_le (pos 0) (z *ℤ k) ≡ true = let m = at_least_mul z k q (at_most_of_less (pos 0) k h) in sym (omega (arith, ints)) in b ∙ sym a)

-- ---- turns of edges
rising_side : (ax ay bx by x y d : ℤ) → (bx *ℤ pos 1 -ℤ ax *ℤ pos 1) *ℤ (y *ℤ pos 1 -ℤ ay *ℤ d) -ℤ
    (by *ℤ pos 1 -ℤ ay *ℤ pos 1) *ℤ (x *ℤ pos 1 -ℤ ax *ℤ d) ≡ (bx -ℤ ax) *ℤ y +ℤ ((by -ℤ ay) *ℤ ax -ℤ (bx -ℤ ax) *ℤ ay)
    *ℤ d -ℤ (by -ℤ ay) *ℤ x
rising_side ax ay bx by x y d = ring (ax ∷ ay ∷ bx ∷ by ∷ x ∷ y ∷ d ∷ []) ((v2 ⊗ num (pos 1) ⊖ v0 ⊗ num (pos 1)) ⊗
    (v5 ⊗ num (pos 1) ⊖ v1 ⊗ v6) ⊖ (v3 ⊗ num (pos 1) ⊖ v1 ⊗ num (pos 1)) ⊗ (v4 ⊗ num (pos 1) ⊖ v0 ⊗ v6))
    ((v2 ⊖ v0) ⊗ v5 ⊕ ((v3 ⊖ v1) ⊗ v0 ⊖ (v2 ⊖ v0) ⊗ v1) ⊗ v6 ⊖ (v3 ⊖ v1) ⊗ v4) refl

falling_side : (ax ay bx by x y d : ℤ) → pos 0 -ℤ ((bx *ℤ pos 1 -ℤ ax *ℤ pos 1) *ℤ (y *ℤ pos 1 -ℤ ay *ℤ d) -ℤ
    (by *ℤ pos 1 -ℤ ay *ℤ pos 1) *ℤ (x *ℤ pos 1 -ℤ ax *ℤ d)) ≡ (ax -ℤ bx) *ℤ y +ℤ ((ay -ℤ by) *ℤ bx -ℤ (ax -ℤ bx) *ℤ by)
    *ℤ d -ℤ (ay -ℤ by) *ℤ x
falling_side ax ay bx by x y d = ring (ax ∷ ay ∷ bx ∷ by ∷ x ∷ y ∷ d ∷ [])
    (num (pos 0) ⊖ ((v2 ⊗ num (pos 1) ⊖ v0 ⊗ num (pos 1)) ⊗ (v5 ⊗ num (pos 1) ⊖ v1 ⊗ v6) ⊖
    (v3 ⊗ num (pos 1) ⊖ v1 ⊗ num (pos 1)) ⊗ (v4 ⊗ num (pos 1) ⊖ v0 ⊗ v6)))
    ((v0 ⊖ v2) ⊗ v5 ⊕ ((v1 ⊖ v3) ⊗ v2 ⊖ (v0 ⊖ v2) ⊗ v3) ⊗ v6 ⊖ (v1 ⊖ v3) ⊗ v4) refl

turn_by_test : (above right : Bool) (p : Point) (e : Edge) (t : Bool) → int_lt e.b.y e.a.y ≡ t
    → NotOver above (level_at p) (level_of (low e).y) → Over above (level_at p) (level_of (high e).y)
    → turn above right p (whole e.a) (whole e.b) ≡ (if is_beyond right (left_of e p.x p.y p.d) then
    (if t then negsuc 0 else pos 1) else pos 0)
unfolding low high rise run offset x_at left_of side_by
turn_by_test above right p e true q under upper =
    let l' : low e ≡ e.b = ap (λ (t : Bool). cond t e.b e.a) q in
    let h' : high e ≡ e.a = ap (λ (t : Bool). cond t e.a e.b) q in
    let a = over_false above p (whole e.b) (subst (λ (q : Pt). NotOver above (level_at p) (level_of q.y)) l' under) in
    let b = over_true above p (whole e.a) (subst (λ (q : Pt). Over above (level_at p) (level_of q.y)) h' upper) in
    let f = falling_turn above right p (whole e.a) (whole e.b) b a in
    let g = sym (zero_minus (side_by p (whole e.a) (whole e.b))) ∙ falling_side e.a.x e.a.y e.b.x e.b.y p.x p.y p.d in
    f ∙ ap (λ (z : ℤ). if is_beyond right z then negsuc 0 else pos 0)
    (g ∙ sym (ap₂ (λ (lo hi : Pt). (hi.x -ℤ lo.x) *ℤ p.y +ℤ ((hi.y -ℤ lo.y) *ℤ lo.x -ℤ (hi.x -ℤ lo.x) *ℤ lo.y) *ℤ
    p.d -ℤ (hi.y -ℤ lo.y) *ℤ p.x) l' h'))
turn_by_test above right p e false q under upper =
    let l' : low e ≡ e.a = ap (λ (t : Bool). cond t e.b e.a) q in
    let h' : high e ≡ e.b = ap (λ (t : Bool). cond t e.a e.b) q in
    let a = over_false above p (whole e.a) (subst (λ (q : Pt). NotOver above (level_at p) (level_of q.y)) l' under) in
    let b = over_true above p (whole e.b) (subst (λ (q : Pt). Over above (level_at p) (level_of q.y)) h' upper) in
    let f = rising_turn above right p (whole e.a) (whole e.b) a b in
    let g = rising_side e.a.x e.a.y e.b.x e.b.y p.x p.y p.d in
    f ∙ ap (λ (z : ℤ). if is_beyond right z then pos 1 else pos 0)
    (g ∙ sym (ap₂ (λ (lo hi : Pt). (hi.x -ℤ lo.x) *ℤ p.y +ℤ ((hi.y -ℤ lo.y) *ℤ lo.x -ℤ (hi.x -ℤ lo.x) *ℤ lo.y) *ℤ
    p.d -ℤ (hi.y -ℤ lo.y) *ℤ p.x) l' h'))

-- an edge that reaches the two heights between which a point lies turns by its heading, where the point lies to its
-- left
pub reaching_turn : (above right : Bool) (p : Point) (e : Edge) (l u : Level) → pos 0 <ℤ p.d → pos 0 <ℤ l.d
    → pos 0 <ℤ u.d → Reaches e l u → Spans above (level_at p) l u
    → turn above right p (whole e.a) (whole e.b) ≡ (if is_beyond right (left_of e p.x p.y p.d) then heading e else pos
    0)
reaching_turn above right p e l u dp dl du r s =
    let one : pos 0 <ℤ pos 1 = omega (arith, ints) in
    turn_by_test above right p e (int_lt e.b.y e.a.y) refl
    (not_over_down above (level_at p) l (level_of (low e).y) dp dl one s.0 r.from)
    (over_up above (level_at p) u (level_of (high e).y) dp du one s.1 r.to)

-- an edge with both ends below a point's height or both above it doesn't turn round it
pub under_turn : (above right : Bool) (p : Point) (e : Edge) → NotOver above (level_at p) (level_of e.a.y)
    → NotOver above (level_at p) (level_of e.b.y) → turn above right p (whole e.a) (whole e.b) ≡ pos 0
under_turn above right p e h k = flat_turn above right p (whole e.a) (whole e.b) (over_false above p (whole e.a) h ∙ sym
    (over_false above p (whole e.b) k))

pub over_turn : (above right : Bool) (p : Point) (e : Edge) → Over above (level_at p) (level_of e.a.y)
    → Over above (level_at p) (level_of e.b.y) → turn above right p (whole e.a) (whole e.b) ≡ pos 0
over_turn above right p e h k = flat_turn above right p (whole e.a) (whole e.b) (over_true above p (whole e.a) h ∙ sym
    (over_true above p (whole e.b) k))

over_same : (above : Bool) (p a b : Point) → a.y ≡ b.y → a.d ≡ b.d → is_over above p a ≡ is_over above p b
unfolding is_over
over_same true p a b h k = rw (h, k)
over_same false p a b h k = rw (h, k)

pub level_turn : (above right : Bool) (p : Point) (e : Edge) → e.a.y ≡ e.b.y → turn above right p (whole e.a)
    (whole e.b) ≡ pos 0
level_turn above right p e h = flat_turn above right p (whole e.a) (whole e.b)
    (over_same above p (whole e.a) (whole e.b) h refl)
