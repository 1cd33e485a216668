-- Where an edge passes the height of a spot.
use Rattle.std.proofs.Common.{◌≡◌, Bool, true, false, refl, sym, ap₂, ◌∙◌, arith}
use lib.IntN.{ℤ, pos, ◌+ℤ◌, ◌-ℤ◌, ◌*ℤ◌}
use Rattle.std.specs.Prelude.{int_lt}
use Rattle.std.proofs.lemmas.Int.{ints}
use Rattle.std.proofs.Common.{[], ◌∷◌}
use Rattle.scad_geom.specs.declared.point.Edge.{Edge}
use Rattle.scad_geom.specs.Line.{run, rise, offset, x_at, left_of}
use Rattle.scad_geom.specs.Winding.{is_beyond}
use Rattle.scad_geom.proofs.Ring.{ring, v0, v1, v2, v3, v4, ◌⊗◌, ◌⊕◌}

less_by_gap : (a b : ℤ) → int_lt b a ≡ int_lt (pos 0) (a -ℤ b)
less_by_gap a b = by_test (int_lt b a) refl
  where
    by_test : (t : Bool) → int_lt b a ≡ t → t ≡ int_lt (pos 0) (a -ℤ b)
    by_test true e = omega (arith, ints)
    by_test false e = omega (arith, ints)

scaled_out : (u o n d r : ℤ) → u *ℤ (n *ℤ r) +ℤ o *ℤ (d *ℤ r) ≡ (u *ℤ n +ℤ o *ℤ d) *ℤ r
scaled_out u o n d r = ring (u ∷ o ∷ n ∷ d ∷ r ∷ []) (v0 ⊗ (v2 ⊗ v4) ⊕ v1 ⊗ (v3 ⊗ v4))
    ((v0 ⊗ v2 ⊕ v1 ⊗ v3) ⊗ v4) refl

turned : (s x : ℤ) → s *ℤ x ≡ x *ℤ s
turned s x = ring (s ∷ x ∷ []) (v0 ⊗ v1) (v1 ⊗ v0) refl

pub right_of : (e : Edge) (x n d r : ℤ) → int_lt (x *ℤ rise e) (x_at e n d *ℤ r)
    ≡ is_beyond true (left_of e x (n *ℤ r) (d *ℤ r))
unfolding is_beyond left_of x_at
right_of e x n d r =
    less_by_gap ((run e *ℤ n +ℤ offset e *ℤ d) *ℤ r) (x *ℤ rise e)
    ∙ ap₂ (λ (y z : ℤ). int_lt (pos 0) (y -ℤ z)) (sym (scaled_out (run e) (offset e) n d r))
    (sym (turned (rise e) x))
