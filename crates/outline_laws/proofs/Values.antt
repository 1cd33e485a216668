-- Hard by one point, over two divisors, shapes that hold alike hold the same.
use Rattle.std.proofs.Common.{◌≡◌, Bool, true, false, not, List, [], ◌∷◌, refl, sym, ap, ap₂, ◌∙◌, arith}
use lib.IntN.{ℤ, pos, ◌+ℤ◌, ◌-ℤ◌, ◌*ℤ◌}
use lib.Signed.{◌<ℤ◌}
use Rattle.std.specs.Prelude.{int_lt, int_le, if◌then◌else◌}
use Rattle.std.proofs.lemmas.Int.{ints}
use Rattle.scad_geom.specs.declared.point.Edge.{Edge}
use Rattle.scad_geom.specs.declared.level.Level.{Level}
use Rattle.scad_geom.specs.declared.level.LeafEdge.{LeafEdge}
use Rattle.scad_geom.specs.declared.shape.Shape.{Shape}
use Rattle.scad_geom.specs.Point.{Point, whole, is_same_point}
use Rattle.scad_geom.specs.Segment.{segments}
use Rattle.scad_geom.specs.Winding.{counted, is_over, passage_by, side_by, is_beyond, turn, wind_by}
use Rattle.scad_geom.specs.Level.{IsLower, IsAtMost}
use Rattle.scad_geom.specs.Leaves.{edges_of}
use Rattle.scad_geom.specs.Shape.{shape_holds, is_in_by}
use Rattle.scad_geom.specs.Sign.{is_zero}
use Rattle.scad_geom.proofs.Heights.{at_most_then_lower, at_most_chain, same_at_least, same_at_most}
use Rattle.scad_geom.proofs.Ring.{ring, ◌⊖◌, ◌⊗◌, v0, v1, v2, v3, v4, v5, v6, v7, v8}
use Rattle.winding_laws.proofs.Sameness.{AreSame, are_same}
use Rattle.winding_laws.proofs.Views.{same_sign}
use Rattle.outline_laws.specs.Sameness.{HoldAlike}
use Rattle.std.specs.Cmp.{both_ways}

abbrev height : Point → Level
height p = record { n = p.y; d = p.d }

side_carried : (bx ad ax bd qy pd py ay by qd qx px : ℤ) → py *ℤ qd ≡ qy *ℤ pd → px *ℤ qd ≡ qx *ℤ pd
    → ((bx *ℤ ad -ℤ ax *ℤ bd) *ℤ (py *ℤ ad -ℤ ay *ℤ pd) -ℤ (by *ℤ ad -ℤ ay *ℤ bd) *ℤ (px *ℤ ad -ℤ ax *ℤ pd)) *ℤ qd
    ≡ ((bx *ℤ ad -ℤ ax *ℤ bd) *ℤ (qy *ℤ ad -ℤ ay *ℤ qd) -ℤ (by *ℤ ad -ℤ ay *ℤ bd) *ℤ (qx *ℤ ad -ℤ ax *ℤ qd)) *ℤ pd
side_carried bx ad ax bd qy pd py ay by qd qx px h k = two (bx *ℤ ad -ℤ ax *ℤ bd) (by *ℤ ad -ℤ ay *ℤ bd)
  where
    two : (u v : ℤ) → (u *ℤ (py *ℤ ad -ℤ ay *ℤ pd) -ℤ v *ℤ (px *ℤ ad -ℤ ax *ℤ pd)) *ℤ qd
        ≡ (u *ℤ (qy *ℤ ad -ℤ ay *ℤ qd) -ℤ v *ℤ (qx *ℤ ad -ℤ ax *ℤ qd)) *ℤ pd
    two u v =
        ring (u ∷ v ∷ py ∷ px ∷ ad ∷ ay ∷ ax ∷ pd ∷ qd ∷ []) ((v0 ⊗ (v2 ⊗ v4 ⊖ v5 ⊗ v7) ⊖ v1 ⊗ (v3 ⊗ v4 ⊖ v6 ⊗ v7)) ⊗
        v8)
        (v0 ⊗ ((v2 ⊗ v8) ⊗ v4 ⊖ v5 ⊗ (v7 ⊗ v8)) ⊖ v1 ⊗ ((v3 ⊗ v8) ⊗ v4 ⊖ v6 ⊗ (v7 ⊗ v8))) refl
        ∙ ap₂ (λ (s t : ℤ). u *ℤ (s *ℤ ad -ℤ ay *ℤ (pd *ℤ qd)) -ℤ v *ℤ (t *ℤ ad -ℤ ax *ℤ (pd *ℤ qd))) h k
        ∙ ring (u ∷ v ∷ qy ∷ qx ∷ ad ∷ ay ∷ ax ∷ pd ∷ qd ∷ [])
        (v0 ⊗ ((v2 ⊗ v7) ⊗ v4 ⊖ v5 ⊗ (v7 ⊗ v8)) ⊖ v1 ⊗ ((v3 ⊗ v7) ⊗ v4 ⊖ v6 ⊗ (v7 ⊗ v8)))
        ((v0 ⊗ (v2 ⊗ v4 ⊖ v5 ⊗ v8) ⊖ v1 ⊗ (v3 ⊗ v4 ⊖ v6 ⊗ v8)) ⊗ v7) refl

module _ (p q : Point) (dp : pos 0 <ℤ p.d) (dq : pos 0 <ℤ q.d) (e : is_same_point p q ≡ true) where
  one : pos 0 <ℤ pos 1
  one = omega (arith, ints)

  same : AreSame p q
  same = are_same p q e

  over_same : (above : Bool) (b : Point) → b.d ≡ pos 1 → is_over above p b ≡ is_over above q b
  unfolding is_over
  over_same true b w = both_ways (int_lt (p.y *ℤ b.d) (b.y *ℤ p.d)) (int_lt (q.y *ℤ b.d) (b.y *ℤ q.d)) forth back
    where
      db : pos 0 <ℤ b.d
      db = omega (arith, ints)

      forth : int_lt (p.y *ℤ b.d) (b.y *ℤ p.d) ≡ true → int_lt (q.y *ℤ b.d) (b.y *ℤ q.d) ≡ true
      forth h =
          let k : IsLower (height p) (height b) = omega (arith, ints) in
          let m : IsLower (height q) (height b) = at_most_then_lower (height q) (height p) (height b) dq dp db
          (same_at_most (height p) (height q) same.y) k in
          sym (omega (arith, ints))

      back : int_lt (q.y *ℤ b.d) (b.y *ℤ q.d) ≡ true → int_lt (p.y *ℤ b.d) (b.y *ℤ p.d) ≡ true
      back h =
          let k : IsLower (height q) (height b) = omega (arith, ints) in
          let m : IsLower (height p) (height b) = at_most_then_lower (height p) (height q) (height b) dp dq db
          (same_at_least (height p) (height q) same.y) k in
          sym (omega (arith, ints))
  over_same false b w = both_ways (int_le (p.y *ℤ b.d) (b.y *ℤ p.d)) (int_le (q.y *ℤ b.d) (b.y *ℤ q.d)) forth back
    where
      db : pos 0 <ℤ b.d
      db = omega (arith, ints)

      forth : int_le (p.y *ℤ b.d) (b.y *ℤ p.d) ≡ true → int_le (q.y *ℤ b.d) (b.y *ℤ q.d) ≡ true
      forth h =
          let k : IsAtMost (height p) (height b) = omega (arith, ints) in
          let m : IsAtMost (height q) (height b) = at_most_chain (height q) (height p) (height b) dq dp db
          (same_at_most (height p) (height q) same.y) k in
          sym (omega (arith, ints))

      back : int_le (q.y *ℤ b.d) (b.y *ℤ q.d) ≡ true → int_le (p.y *ℤ b.d) (b.y *ℤ p.d) ≡ true
      back h =
          let k : IsAtMost (height q) (height b) = omega (arith, ints) in
          let m : IsAtMost (height p) (height b) = at_most_chain (height p) (height q) (height b) dp dq db
          (same_at_least (height p) (height q) same.y) k in
          sym (omega (arith, ints))

  passage_same : (above : Bool) (f : Edge) → passage_by above p (whole f.a) (whole f.b) ≡ passage_by above q (whole f.a)
      (whole f.b)
  unfolding passage_by
  passage_same above f = ap₂ (λ (s t : Bool). counted s -ℤ counted t) (over_same above (whole f.b) refl)
      (over_same above (whole f.a) refl)

  side_same : (a b : Point) → side_by p a b *ℤ q.d ≡ side_by q a b *ℤ p.d
  unfolding side_by
  side_same a b = side_carried b.x a.d a.x b.d q.y p.d p.y a.y b.y q.d q.x p.x same.y same.x

  turn_same : (above right : Bool) (f : Edge) → turn above right p (whole f.a) (whole f.b) ≡ turn above right q
      (whole f.a) (whole f.b)
  unfolding turn
  turn_same above right f =
      let a : Point = whole f.a in
      let b : Point = whole f.b in
      ap₂ (λ (t : Bool) (z : ℤ). if t then z else pos 0)
      (same_sign right (passage_by above p a b) (side_by p a b) (side_by q a b) q.d p.d dq dp (side_same a b)
      ∙ ap (λ (z : ℤ). is_beyond right (z *ℤ side_by q a b)) (passage_same above f))
      (passage_same above f)

  wind_same : (above right : Bool) (fs : List Edge) → wind_by above right p (segments fs) ≡ wind_by above right q
      (segments fs)
  wind_same above right [] = refl
  wind_same above right (f ∷ fs) = ap₂ (λ (y z : ℤ). y +ℤ z) (turn_same above right f) (wind_same above right fs)

  pub value_same : (above right : Bool) (es : List LeafEdge) (s t : Shape) → HoldAlike es s t
      → is_in_by above right es s p ≡ is_in_by above right es t q
  unfolding is_in_by
  value_same above right es s t h =
      (λ i. shape_holds (λ leaf. not (is_zero (wind_same above right (edges_of leaf es) i))) s)
      ∙ h above right q dq
