-- The face beyond a side of a face.
use Rattle.std.proofs.Common.{◌≡◌, List, [], ◌∷◌, length, refl, sym, ap, ◌∙◌, arith, subst, All, IfOk, Result, Ok, Err}
use lib.IntN.{ℤ, pos, ◌+ℤ◌, ◌-ℤ◌, ◌*ℤ◌}
use lib.Signed.{◌<ℤ◌}
use Rattle.std.proofs.lemmas.Int.{ints, by_lt_z}
use Rattle.std.proofs.lemmas.List.Elements.{All-contains}
use Rattle.scad_geom.specs.declared.point3.Pt3.{Pt3}
use Rattle.scad_geom.proofs.Ring.{ring, num, var, ◌⊕◌, ◌⊖◌, ◌⊗◌}
use Rattle.scad_hull.proofs.FacePlanes.{no_squares}
use Rattle.scad_hull.specs.declared.faces.Face.{Face}
use Rattle.scad_hull.specs.declared.turning.Normal.{Normal}
use Rattle.scad_hull.specs.Space.{normal_of, face_left, square_of, IsSmall, IsTurned}
use Rattle.scad_hull.specs.Faces.{face_in, IsFacePlane, IsSideOf, IsFaceOf}
use Rattle.scad_hull.proofs.Lines.{nought_right}
use Rattle.scad_hull.proofs.NextPlanes.{turned_at_side}
use Rattle.scad_hull.proofs.FoundPlanes.{way_square, plane_found}
use Rattle.scad_hull.proofs.ViewAlong.{seen}

-- what two facts of a result that is there tell together
pub both_ok : {X E : Type 0} (P Q R : X → Type 0) (r : Result X E) → ((x : X) → P x → Q x → R x) → IfOk r P
    → IfOk r Q → IfOk r R
both_ok P Q R (Ok x) f h k = f x h k
both_ok P Q R (Err e) f h k = tt

module _ (ps : List Pt3) (a b c : Pt3) (side : IsSideOf ps a b c) where
  pub small_a : All IsSmall ps → IsSmall a
  small_a h = All-contains IsSmall ps a h side.has_a

  pub small_b : All IsSmall ps → IsSmall b
  small_b h = All-contains IsSmall ps b h side.has_b

  pub small_c : All IsSmall ps → IsSmall c
  small_c h = All-contains IsSmall ps c h side.has_c

  pub turned_beyond : IsTurned b a ps (normal_of b a c) 0
  turned_beyond =
      turned_at_side side.normal side.some a b side.flat ps side.inward side.left c side.has_c side.flat_c side.turns

  nothing : (z : ℤ) → pos 0 <ℤ z → z ≡ pos 0 → ⊥
  nothing z h e = omega (arith, ints)

  turned_round : (s t : ℤ) → s -ℤ t ≡ pos 0 → t -ℤ s ≡ pos 0
  turned_round s t e = omega (arith, ints)

  -- a side has two ends
  pub apart : pos 0 <ℤ way_square b a
  apart = by_lt_z (pos 0) (way_square b a) (λ h. h)
      (λ h. absurd (one_point (no_squares (a.x -ℤ b.x) (a.y -ℤ b.y) (a.z -ℤ b.z) h)))
    where
      one_point : (a.x -ℤ b.x ≡ pos 0) × (a.y -ℤ b.y ≡ pos 0) × (a.z -ℤ b.z ≡ pos 0) → ⊥
      one_point h =
          let n = side.normal in
          let v = seen n side.some in
          let x = turned_round a.x b.x h.0 in
          let y = turned_round a.y b.y h.1 in
          let z = turned_round a.z b.z h.2 in
          nothing (face_left n a b c) side.turns
          (nought_right (square_of n) (face_left n a b c)
          (sym (v.scaled a b c side.flat side.flat_c)
          ∙ (λ i. v.scale *ℤ (n.x *ℤ (y i *ℤ (c.z -ℤ a.z) -ℤ z i *ℤ (c.y -ℤ a.y))
          +ℤ (n.y *ℤ (z i *ℤ (c.x -ℤ a.x) -ℤ x i *ℤ (c.z -ℤ a.z)) +ℤ n.z *ℤ
          (x i *ℤ (c.y -ℤ a.y) -ℤ y i *ℤ (c.x -ℤ a.x)))))
          ∙ ring (v.scale ∷ n.x ∷ n.y ∷ n.z ∷ (c.x -ℤ a.x) ∷ (c.y -ℤ a.y) ∷ (c.z -ℤ a.z) ∷ [])
          (var 0 ⊗ (var 1 ⊗ (num (pos 0) ⊗ var 6 ⊖ num (pos 0) ⊗ var 5)
          ⊕ (var 2 ⊗ (num (pos 0) ⊗ var 4 ⊖ num (pos 0) ⊗ var 6) ⊕ var 3
          ⊗ (num (pos 0) ⊗ var 5 ⊖ num (pos 0) ⊗ var 4))))
          (num (pos 0)) refl)
          (λ e. nothing (square_of n) side.some e))

  -- the face that is found
  pub face_beyond : (n : Normal) (f : Face) → IsTurned b a ps n (length ps) → f.normal ≡ n
      → f.ring.items ≡ face_in ps b n → IsFaceOf ps f
  face_beyond n f turned e r = record {
    base = b;
    plane = subst (IsFacePlane ps b) (sym e) (plane_found ps b a n turned side.has_b side.has_a apart);
    ring = r ∙ ap (face_in ps b) (sym e);
  }

-- for `using(..)`
pub ruleset beyond = (small_a, small_b, small_c, turned_beyond, face_beyond)
