-- Points that are the same over other divisors, and that they turn alike.
use Rattle.std.proofs.Common.{◌≡◌, Bool, true, ◌&&◌, [], ◌∷◌, refl, sym, ap, ap₂, ◌∙◌, arith}
use lib.IntN.{ℤ, pos, ◌-ℤ◌, ◌*ℤ◌}
use lib.Signed.{◌<ℤ◌}
use Rattle.std.specs.Cmp.{signed_Decides, both_ways}
use Rattle.std.proofs.lemmas.Int.{ints}
use Rattle.scad_base.proofs.Products.{zero_factor}
use Rattle.scad_geom.specs.Point.{Point, is_same_point}
use Rattle.scad_geom.specs.Winding.{turn}
use Rattle.scad_geom.proofs.Points.{same_height, same_across}
use Rattle.scad_geom.proofs.Ring.{ring, ◌⊖◌, ◌⊗◌, v0, v1, v2, v3, v4}
use Rattle.winding_laws.specs.Nearness.{seen_from}
use Rattle.winding_laws.proofs.Views.{turn_seen, IsAlong, swing_along, swing_to_along}
use Rattle.scad_geom.proofs.Signs.{no_gap}

-- ---- what the test says
pub record AreSame (p q : Point) : Type 0 where
  pub x : p.x *ℤ q.d ≡ q.x *ℤ p.d
  pub y : p.y *ℤ q.d ≡ q.y *ℤ p.d

pub are_same : (p q : Point) → is_same_point p q ≡ true → AreSame p q
are_same p q h = record { x = same_across p q h; y = same_height p q h }

pub same_by : (p q : Point) → AreSame p q → is_same_point p q ≡ true
same_by p q h = ap₂ (λ (s t : Bool). s && t) ((signed_Decides (p.y *ℤ q.d) (q.y *ℤ p.d)).1 h.y)
    ((signed_Decides (p.x *ℤ q.d) (q.x *ℤ p.d)).1 h.x)

-- ---- it is an equivalence on points
pub cancel_mul : (a b k : ℤ) → pos 0 <ℤ k → a *ℤ k ≡ b *ℤ k → a ≡ b
cancel_mul a b k h e =
    let z : (a -ℤ b) *ℤ k ≡ pos 0 = ring (a ∷ b ∷ k ∷ []) ((v0 ⊖ v1) ⊗ v2) (v0 ⊗ v2 ⊖ v1 ⊗ v2) refl ∙ no_gap (a *ℤ k)
    (b *ℤ k) e in
    let n = zero_factor (a -ℤ b) k h z in
    omega (arith, ints)

-- one coordinate over three divisors
chain : (x d y e z f : ℤ) → pos 0 <ℤ e → x *ℤ e ≡ y *ℤ d → y *ℤ f ≡ z *ℤ e
    → x *ℤ f ≡ z *ℤ d
chain x d y e z f h k l =
    cancel_mul (x *ℤ f) (z *ℤ d) e h
    (ring (x ∷ f ∷ e ∷ []) ((v0 ⊗ v1) ⊗ v2) ((v0 ⊗ v2) ⊗ v1) refl
    ∙ ap (λ (s : ℤ). s *ℤ f) k
    ∙ ring (y ∷ d ∷ f ∷ []) ((v0 ⊗ v1) ⊗ v2) ((v0 ⊗ v2) ⊗ v1) refl
    ∙ ap (λ (s : ℤ). s *ℤ d) l
    ∙ ring (z ∷ e ∷ d ∷ []) ((v0 ⊗ v1) ⊗ v2) ((v0 ⊗ v2) ⊗ v1) refl)

pub are_same_itself : (p : Point) → AreSame p p
are_same_itself p = record { x = refl; y = refl }

pub are_same_turned : (p q : Point) → AreSame p q → AreSame q p
are_same_turned p q h = record { x = sym h.x; y = sym h.y }

pub are_same_on : (p q r : Point) → pos 0 <ℤ q.d → AreSame p q → AreSame q r → AreSame p r
are_same_on p q r h k l = record {
  x = chain p.x p.d q.x q.d r.x r.d h k.x l.x;
  y = chain p.y p.d q.y q.d r.y r.d h k.y
      l.y;
}

pub same_itself : (p : Point) → is_same_point p p ≡ true
same_itself p = same_by p p (are_same_itself p)

-- the same points are the same as any third
pub same_through : (p q r : Point) → pos 0 <ℤ q.d → pos 0 <ℤ r.d → is_same_point q r ≡ true
    → is_same_point p q ≡ is_same_point p r
same_through p q r dq dr h =
    let s = are_same q r h in
    both_ways (is_same_point p q) (is_same_point p r)
    (λ k. same_by p r (are_same_on p q r dq (are_same p q k) s))
    (λ k. same_by p q (are_same_on p r q dr (are_same p r k) (are_same_turned q r s)))

-- ---- the same points turn alike
pub one_axis : (x d y e z f : ℤ) → x *ℤ e ≡ y *ℤ d
    → (x *ℤ f -ℤ z *ℤ d) *ℤ e ≡ (y *ℤ f -ℤ z *ℤ e) *ℤ d
one_axis x d y e z f h =
    ring (x ∷ d ∷ e ∷ z ∷ f ∷ []) ((v0 ⊗ v4 ⊖ v3 ⊗ v1) ⊗ v2)
    ((v0 ⊗ v2) ⊗ v4 ⊖ (v3 ⊗ v1) ⊗ v2) refl
    ∙ ap (λ (s : ℤ). s *ℤ f -ℤ (z *ℤ d) *ℤ e) h
    ∙ ring (y ∷ d ∷ e ∷ z ∷ f ∷ []) ((v0 ⊗ v1) ⊗ v4 ⊖ (v3 ⊗ v1) ⊗ v2)
    ((v0 ⊗ v4 ⊖ v3 ⊗ v2) ⊗ v1) refl

pub along_seen : (q a b : Point) → pos 0 <ℤ a.d → pos 0 <ℤ b.d → AreSame a b
    → IsAlong (seen_from q a) (seen_from q b)
along_seen q a b da db h =
    record {
      k = b.d;
      l = a.d;
      k_positive = db;
      l_positive = da;
      x = one_axis a.x a.d b.x b.d q.x q.d h.x;
      y =
          one_axis a.y a.d b.y b.d q.y q.d h.y;
    }

pub turn_same : (above right : Bool) (q a b c e : Point) → pos 0 <ℤ q.d → pos 0 <ℤ a.d → pos 0 <ℤ b.d
    → pos 0 <ℤ c.d → pos 0 <ℤ e.d
    → is_same_point a c ≡ true → is_same_point b e ≡ true → turn above right q a b ≡ turn above right q c e
turn_same above right q a b c e dq da db dc de h k =
    turn_seen above right q a b dq da
    ∙ swing_along above right (seen_from q a) (seen_from q c) (seen_from q b)
    (along_seen q a c da dc (are_same a c h))
    ∙ swing_to_along above right (seen_from q c) (seen_from q b) (seen_from q e)
    (along_seen q b e db de (are_same b e k))
    ∙ sym (turn_seen above right q c e dq dc)
