-- The turn of an edge round a point by its crossing, both over one divisor.
use Rattle.std.proofs.Common.{◌≡◌, Bool, true, List, [], ◌∷◌, refl, sym, ap, ap₂, ◌∙◌, arith}
use lib.IntN.{ℤ, pos, ◌+ℤ◌, ◌-ℤ◌, ◌*ℤ◌, *ℤ_comm}
use lib.Signed.{◌<ℤ◌}
use Rattle.std.specs.Prelude.{int_lt, if◌then◌else◌}
use Rattle.std.proofs.lemmas.Int.{ints}
use Rattle.scad_geom.specs.declared.point.Pt.{Pt}
use Rattle.scad_geom.specs.declared.point.Edge.{Edge}
use Rattle.scad_geom.specs.Point.{Point, whole, halves}
use Rattle.scad_geom.specs.Segment.{segments}
use Rattle.scad_geom.specs.Winding.{counted, is_over, passage_by, side_by, is_beyond, turn, wind}
use Rattle.scad_geom.proofs.Crossing.{passage, side_of, crossing, crossings, scaled, doubled_edge}
use Rattle.scad_geom.proofs.Ring.{ring, num, ◌⊖◌, ◌⊗◌, v0, v1, v2, v3, v4, v5, v6}
use Rattle.scad_geom.proofs.Integers.{mul_assoc}
use Rattle.scad_geom.proofs.Turns.{beyond_mul}
use Rattle.scad_geom.proofs.Signs.{mul-one}

-- the side of a whole point
pub side_of_wholes : (p a b : Pt) → (b.x -ℤ a.x) *ℤ (p.y -ℤ a.y) -ℤ (b.y -ℤ a.y) *ℤ (p.x -ℤ a.x) ≡ side_by (whole p)
    (whole a) (whole b)
unfolding side_by
side_of_wholes p a b = sym (rw (mul-one a.x, mul-one a.y, mul-one b.x, mul-one b.y, mul-one p.x, mul-one p.y) refl)

pub beyond_is : (z : ℤ) → is_beyond true z ≡ int_lt (pos 0) z
unfolding is_beyond
beyond_is z = refl

-- a segment turns round a point as an edge crosses the ray from (x, y) whose ends lie above or not as the segment's do,
-- and to which the point lies on the same side
pub turn_by : (p a b : Point) (e : Edge) (x y c : ℤ) → pos 0 <ℤ c → is_over true p a ≡ int_lt y e.a.y → is_over true p b
    ≡ int_lt y e.b.y → side_of e x y ≡ side_by p a b *ℤ c
    → turn true true p a b ≡ crossing e x y
unfolding turn passage_by
turn_by p a b e x y c some over_a over_b s =
    let P : ℤ = passage e y in
    let S : ℤ = side_by p a b in
    let q : passage_by true p a b ≡ P = ap₂ (λ (m n : Bool). counted m -ℤ counted n) over_b over_a in
    let t : is_beyond true (P *ℤ S) ≡ int_lt (pos 0) (P *ℤ side_of e x y) =
    sym (beyond_mul true c (P *ℤ S) some) ∙ beyond_is ((P *ℤ S) *ℤ c) ∙ ap (int_lt (pos 0))
    (mul_assoc P S c ∙ ap (λ (z : ℤ). P *ℤ z) (sym s)) in
    ap (λ (z : ℤ). if is_beyond true (z *ℤ S) then z else pos 0) q ∙ ap (λ (b : Bool). if b then P else pos 0) t

scaled_side : (ax ay bx by x y d : ℤ) → (d *ℤ bx -ℤ d *ℤ ax) *ℤ (y -ℤ d *ℤ ay) -ℤ (d *ℤ by -ℤ d *ℤ ay) *ℤ (x -ℤ d *ℤ ax)
    ≡ ((bx *ℤ pos 1 -ℤ ax *ℤ pos 1) *ℤ (y *ℤ pos 1 -ℤ ay *ℤ d) -ℤ (by *ℤ pos 1 -ℤ ay *ℤ pos 1) *ℤ
    (x *ℤ pos 1 -ℤ ax *ℤ d)) *ℤ d
scaled_side ax ay bx by x y d = ring (ax ∷ ay ∷ bx ∷ by ∷ x ∷ y ∷ d ∷ []) ((v6 ⊗ v2 ⊖ v6 ⊗ v0) ⊗ (v5 ⊖ v6 ⊗ v1) ⊖
    (v6 ⊗ v3 ⊖ v6 ⊗ v1) ⊗ (v4 ⊖ v6 ⊗ v0)) (((v2 ⊗ num (pos 1) ⊖ v0 ⊗ num (pos 1)) ⊗ (v5 ⊗ num (pos 1) ⊖ v1 ⊗ v6) ⊖
    (v3 ⊗ num (pos 1) ⊖ v1 ⊗ num (pos 1)) ⊗ (v4 ⊗ num (pos 1) ⊖ v0 ⊗ v6)) ⊗ v6) refl

over_scaled : (p : Point) (a : Pt) → is_over true p (whole a) ≡ int_lt p.y (p.d *ℤ a.y)
unfolding is_over
over_scaled p a = ap₂ int_lt (mul-one p.y) (*ℤ_comm a.y p.d)

side_scaled : (p : Point) (e : Edge) → side_of (scaled p.d e) p.x p.y ≡ side_by p (whole e.a) (whole e.b) *ℤ p.d
unfolding side_by
side_scaled p e = scaled_side e.a.x e.a.y e.b.x e.b.y p.x p.y p.d

-- an edge of whole ends, over the point's divisor
pub turn_scaled : (p : Point) (e : Edge) → pos 0 <ℤ p.d → turn true true p (whole e.a) (whole e.b)
    ≡ crossing (scaled p.d e) p.x p.y
turn_scaled p e some = turn_by p (whole e.a) (whole e.b) (scaled p.d e) p.x p.y p.d some (over_scaled p e.a)
    (over_scaled p e.b) (side_scaled p e)

pub turn_halves : (e : Edge) (x y : ℤ) → turn true true (halves x y) (whole e.a) (whole e.b) ≡ crossing (doubled_edge e)
    x y
turn_halves e x y = turn_scaled (halves x y) e (omega (arith, ints))

pub wind_halves : (es : List Edge) (x y : ℤ) → wind (halves x y) (segments es) ≡ crossings es x y
wind_halves [] x y = refl
wind_halves (e ∷ es) x y = ap₂ (λ (y z : ℤ). y +ℤ z) (turn_halves e x y) (wind_halves es x y)
