-- What isn't to the right of a side however it is moved by one, in parts of a divisor, along an axis lies strictly to the
-- left of the side.
use Rattle.std.proofs.Common.{◌≡◌, [], ◌∷◌, refl, subst, arith, ℤ, pos}
use Rattle.std.proofs.Common.{negsuc, ◌+ℤ◌, ◌-ℤ◌, ◌*ℤ◌, ◌<ℤ◌}
use lib.Signed.{◌≤ℤ◌}
use Rattle.std.proofs.lemmas.Int.{ints}
use Rattle.scad_geom.specs.declared.point.Pt.{Pt}
use Rattle.scad_geom.specs.declared.point.Edge.{Edge}
use Rattle.scad_geom.specs.Point.{Point, whole}
use Rattle.scad_geom.specs.Winding.{side_by}
use Rattle.scad_geom.proofs.Signs.{pos_left}
use Rattle.winding_laws.proofs.Forms.{by_sign}
use Rattle.scad_geom.proofs.Ring.{ring, num, ◌⊕◌, ◌⊖◌, ◌⊗◌, v0, v1, v2, v3, v4, v5, v6, v7, v8, v9}
use Rattle.scad_ring.specs.Ring.{TurnsLeft}
use Rattle.scad_ring.proofs.OpenNearness.{shifted}

-- ---- one side
-- a way on from the end of a side turns left
pub record TurnsAfter (e : Edge) : Type 0 where
  pub next : Pt
  pub left : TurnsLeft e.a e.b next

abbrev side_of : ℤ → ℤ → ℤ → ℤ → ℤ → ℤ → ℤ → ℤ
side_of ax ay bx by x y d =
    (bx *ℤ pos 1 -ℤ ax *ℤ pos 1) *ℤ (y *ℤ pos 1 -ℤ ay *ℤ d) -ℤ (by *ℤ pos 1 -ℤ ay *ℤ pos 1) *ℤ (x *ℤ pos 1 -ℤ ax *ℤ d)

side_shifted : (ax ay bx by x y d k u v : ℤ)
    → side_of ax ay bx by (x *ℤ k +ℤ u) (y *ℤ k +ℤ v) (d *ℤ k) ≡ side_of ax ay bx by x y d *ℤ k -ℤ
    ((by -ℤ ay) *ℤ u -ℤ (bx -ℤ ax) *ℤ v)
side_shifted ax ay bx by x y d k u v = ring (ax ∷ ay ∷ bx ∷ by ∷ x ∷ y ∷ d ∷ k ∷ u ∷ v ∷ [])
    ((v2 ⊗ num (pos 1) ⊖ v0 ⊗ num (pos 1)) ⊗ ((v5 ⊗ v7 ⊕ v9) ⊗ num (pos 1) ⊖ v1 ⊗ (v6 ⊗ v7)) ⊖
    (v3 ⊗ num (pos 1) ⊖ v1 ⊗ num (pos 1)) ⊗ ((v4 ⊗ v7 ⊕ v8) ⊗ num (pos 1) ⊖ v0 ⊗ (v6 ⊗ v7)))
    (((v2 ⊗ num (pos 1) ⊖ v0 ⊗ num (pos 1)) ⊗ (v5 ⊗ num (pos 1) ⊖ v1 ⊗ v6) ⊖ (v3 ⊗ num (pos 1) ⊖ v1 ⊗ num (pos 1)) ⊗
    (v4 ⊗ num (pos 1) ⊖ v0 ⊗ v6)) ⊗ v7 ⊖ ((v3 ⊖ v1) ⊗ v8 ⊖ (v2 ⊖ v0) ⊗ v9)) refl

zeros : (x y u v : ℤ) → x ≡ pos 0 → y ≡ pos 0 → pos 0 <ℤ (x *ℤ u -ℤ y *ℤ v) → ⊥
zeros x y u v hx hy h =
    let f : pos 0 <ℤ (pos 0 *ℤ u -ℤ y *ℤ v) = subst (λ (z : ℤ). pos 0 <ℤ (z *ℤ u -ℤ y *ℤ v)) hx h in
    let g : pos 0 <ℤ (pos 0 *ℤ u -ℤ pos 0 *ℤ v) = subst (λ (z : ℤ). pos 0 <ℤ (pos 0 *ℤ u -ℤ z *ℤ v)) hy f in
    let e = nothing u v in
    omega (arith, ints, g, e)
  where
    nothing : (u v : ℤ) → pos 0 *ℤ u -ℤ pos 0 *ℤ v ≡ pos 0
    nothing u v = ring (u ∷ v ∷ []) (num (pos 0) ⊗ v0 ⊖ num (pos 0) ⊗ v1) (num (pos 0)) refl

-- a side that turns has a length along an axis
has_length : (e : Edge) → TurnsAfter e → e.b.x -ℤ e.a.x ≡ pos 0 → e.b.y -ℤ e.a.y ≡ pos 0 → ⊥
unfolding side_by
has_length e h x y = no_turn e.a.x e.a.y e.b.x e.b.y h.next.x h.next.y x y h.left
  where
    no_turn : (ax ay bx by nx ny : ℤ) → bx -ℤ ax ≡ pos 0 → by -ℤ ay ≡ pos 0
        → pos 0 <ℤ ((bx *ℤ pos 1 -ℤ ax *ℤ pos 1) *ℤ (ny *ℤ pos 1 -ℤ ay *ℤ pos 1) -ℤ (by *ℤ pos 1 -ℤ ay *ℤ pos 1) *ℤ
        (nx *ℤ pos 1 -ℤ ax *ℤ pos 1)) → ⊥
    no_turn ax ay bx by nx ny x y h =
        zeros (bx *ℤ pos 1 -ℤ ax *ℤ pos 1) (by *ℤ pos 1 -ℤ ay *ℤ pos 1) (ny *ℤ pos 1 -ℤ ay *ℤ pos 1)
        (nx *ℤ pos 1 -ℤ ax *ℤ pos 1) (omega (arith, ints, x)) (omega (arith, ints, y)) h

-- where a point moved towards the right of a side isn't right of it, the point is left of it
left_by : (s z k g : ℤ) → pos 0 <ℤ k → z ≡ s *ℤ k -ℤ g → pos 0 ≤ℤ z → pos 0 <ℤ g → pos 0 <ℤ s
left_by s z k g p e h q = pos_left s k p (omega (arith, ints, e, h, q))

module _ (q : Point) (k : ℤ) (some : pos 0 <ℤ k) where
  -- moved by one along an axis, q isn't to the right of a side
  pub record StaysLeft (e : Edge) : Type 0 where
    pub right : pos 0 ≤ℤ side_by (shifted k (pos 1) (pos 0) q) (whole e.a) (whole e.b)
    pub left : pos 0 ≤ℤ side_by (shifted k (negsuc 0) (pos 0) q) (whole e.a) (whole e.b)
    pub up : pos 0 ≤ℤ side_by (shifted k (pos 0) (pos 1) q) (whole e.a) (whole e.b)
    pub down : pos 0 ≤ℤ side_by (shifted k (pos 0) (negsuc 0) q) (whole e.a) (whole e.b)

  pub strictly_left : (e : Edge) → TurnsAfter e → StaysLeft e → pos 0 <ℤ side_by q (whole e.a) (whole e.b)
  unfolding side_by
  strictly_left e t h =
      let s : ℤ = side_of e.a.x e.a.y e.b.x e.b.y q.x q.y q.d in
      let dx : ℤ = e.b.x -ℤ e.a.x in
      let dy : ℤ = e.b.y -ℤ e.a.y in
      let moved : (u v : ℤ) → ℤ = λ u v. side_of e.a.x e.a.y e.b.x e.b.y (q.x *ℤ k +ℤ u) (q.y *ℤ k +ℤ v) (q.d *ℤ k) in
      let by : (u v : ℤ) → moved u v ≡ s *ℤ k -ℤ (dy *ℤ u -ℤ dx *ℤ v) = λ u v. side_shifted e.a.x e.a.y e.b.x e.b.y
      q.x q.y q.d k u v in
      by_sign dx
      (λ m. left_by s (moved (pos 0) (pos 1)) k (dy *ℤ pos 0 -ℤ dx *ℤ pos 1) some (by (pos 0) (pos 1)) h.up
      (omega (arith, ints, m)))
      (λ m. by_sign dy
      (λ n. left_by s (moved (negsuc 0) (pos 0)) k (dy *ℤ negsuc 0 -ℤ dx *ℤ pos 0) some (by (negsuc 0) (pos 0)) h.left
      (omega (arith, ints, n)))
      (λ n. absurd (has_length e t m n))
      (λ n. left_by s (moved (pos 1) (pos 0)) k (dy *ℤ pos 1 -ℤ dx *ℤ pos 0) some (by (pos 1) (pos 0)) h.right
      (omega (arith, ints, n))))
      (λ m. left_by s (moved (pos 0) (negsuc 0)) k (dy *ℤ pos 0 -ℤ dx *ℤ negsuc 0) some (by (pos 0) (negsuc 0)) h.down
      (omega (arith, ints, m)))
