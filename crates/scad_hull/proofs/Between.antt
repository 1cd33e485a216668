-- A point q on the line through a and b, by how far it lies along: w times its way from a is t times the way to b.
use Rattle.std.proofs.Common.{◌≡◌, [], ◌∷◌, refl, ap₂, ◌∙◌}
use lib.IntN.{ℤ, ◌-ℤ◌, ◌*ℤ◌}
use Rattle.scad_geom.proofs.Ring.{ring, var, ◌⊖◌, ◌⊗◌}
use Rattle.scad_hull.specs.Plane.{left}

module _ {X : Type 0} (f g : X → ℤ) (a b q : X) (w t : ℤ) (along_f : w *ℤ (f q -ℤ f a) ≡ t *ℤ (f b -ℤ f a))
    (along_g : w *ℤ (g q -ℤ g a) ≡ t *ℤ (g b -ℤ g a)) where
  -- from the side that comes to a
  pub side_in : (z : X) → w *ℤ left f g z a q ≡ t *ℤ left f g z a b
  side_in z =
      ring (f z ∷ g z ∷ f a ∷ g a ∷ f q ∷ g q ∷ w ∷ [])
      (var 6 ⊗ ((var 2 ⊖ var 0) ⊗ (var 5 ⊖ var 1) ⊖ (var 3 ⊖ var 1) ⊗ (var 4 ⊖ var 0)))
      ((var 2 ⊖ var 0) ⊗ (var 6 ⊗ (var 5 ⊖ var 3)) ⊖ (var 3 ⊖ var 1) ⊗ (var 6 ⊗ (var 4 ⊖ var 2))) refl
      ∙ ap₂ (λ (x y : ℤ). (f a -ℤ f z) *ℤ x -ℤ (g a -ℤ g z) *ℤ y) along_g along_f
      ∙ ring (f z ∷ g z ∷ f a ∷ g a ∷ f b ∷ g b ∷ t ∷ [])
      ((var 2 ⊖ var 0) ⊗ (var 6 ⊗ (var 5 ⊖ var 3)) ⊖ (var 3 ⊖ var 1) ⊗ (var 6 ⊗ (var 4 ⊖ var 2)))
      (var 6 ⊗ ((var 2 ⊖ var 0) ⊗ (var 5 ⊖ var 1) ⊖ (var 3 ⊖ var 1) ⊗ (var 4 ⊖ var 0))) refl

  -- from the side that goes on from b
  pub side_on : (c : X) → w *ℤ left f g b c q ≡ (w -ℤ t) *ℤ left f g a b c
  side_on c =
      ring (f a ∷ g a ∷ f b ∷ g b ∷ f c ∷ g c ∷ f q ∷ g q ∷ w ∷ [])
      (var 8 ⊗ ((var 4 ⊖ var 2) ⊗ (var 7 ⊖ var 3) ⊖ (var 5 ⊖ var 3) ⊗ (var 6 ⊖ var 2)))
      (((var 4 ⊖ var 2) ⊗ (var 8 ⊗ (var 7 ⊖ var 1)) ⊖ (var 5 ⊖ var 3) ⊗ (var 8 ⊗ (var 6 ⊖ var 0)))
      ⊖ var 8 ⊗ ((var 4 ⊖ var 2) ⊗ (var 3 ⊖ var 1) ⊖ (var 5 ⊖ var 3) ⊗ (var 2 ⊖ var 0))) refl
      ∙ ap₂ (λ (x y : ℤ). ((f c -ℤ f b) *ℤ x -ℤ (g c -ℤ g b) *ℤ y)
      -ℤ w *ℤ ((f c -ℤ f b) *ℤ (g b -ℤ g a) -ℤ (g c -ℤ g b) *ℤ (f b -ℤ f a))) along_g along_f
      ∙ ring (f a ∷ g a ∷ f b ∷ g b ∷ f c ∷ g c ∷ t ∷ w ∷ [])
      (((var 4 ⊖ var 2) ⊗ (var 6 ⊗ (var 3 ⊖ var 1)) ⊖ (var 5 ⊖ var 3) ⊗ (var 6 ⊗ (var 2 ⊖ var 0)))
      ⊖ var 7 ⊗ ((var 4 ⊖ var 2) ⊗ (var 3 ⊖ var 1) ⊖ (var 5 ⊖ var 3) ⊗ (var 2 ⊖ var 0)))
      ((var 7 ⊖ var 6) ⊗ ((var 2 ⊖ var 0) ⊗ (var 5 ⊖ var 1) ⊖ (var 3 ⊖ var 1) ⊗ (var 4 ⊖ var 0))) refl

  -- as a point o off the line sees it past b
  pub seen_past : (o : X) → w *ℤ left f g o b q ≡ (w -ℤ t) *ℤ left f g b a o
  seen_past o =
      ring (f a ∷ g a ∷ f b ∷ g b ∷ f o ∷ g o ∷ f q ∷ g q ∷ w ∷ [])
      (var 8 ⊗ ((var 2 ⊖ var 4) ⊗ (var 7 ⊖ var 5) ⊖ (var 3 ⊖ var 5) ⊗ (var 6 ⊖ var 4)))
      (((var 2 ⊖ var 4) ⊗ (var 8 ⊗ (var 7 ⊖ var 1)) ⊖ (var 3 ⊖ var 5) ⊗ (var 8 ⊗ (var 6 ⊖ var 0)))
      ⊖ var 8 ⊗ ((var 2 ⊖ var 4) ⊗ (var 5 ⊖ var 1) ⊖ (var 3 ⊖ var 5) ⊗ (var 4 ⊖ var 0))) refl
      ∙ ap₂ (λ (x y : ℤ). ((f b -ℤ f o) *ℤ x -ℤ (g b -ℤ g o) *ℤ y)
      -ℤ w *ℤ ((f b -ℤ f o) *ℤ (g o -ℤ g a) -ℤ (g b -ℤ g o) *ℤ (f o -ℤ f a))) along_g along_f
      ∙ ring (f a ∷ g a ∷ f b ∷ g b ∷ f o ∷ g o ∷ t ∷ w ∷ [])
      (((var 2 ⊖ var 4) ⊗ (var 6 ⊗ (var 3 ⊖ var 1)) ⊖ (var 3 ⊖ var 5) ⊗ (var 6 ⊗ (var 2 ⊖ var 0)))
      ⊖ var 7 ⊗ ((var 2 ⊖ var 4) ⊗ (var 5 ⊖ var 1) ⊖ (var 3 ⊖ var 5) ⊗ (var 4 ⊖ var 0)))
      ((var 7 ⊖ var 6) ⊗ ((var 0 ⊖ var 2) ⊗ (var 5 ⊖ var 3) ⊖ (var 1 ⊖ var 3) ⊗ (var 4 ⊖ var 2))) refl

  -- and from a on
  pub seen_from : (o : X) → w *ℤ left f g a o q ≡ t *ℤ left f g b a o
  seen_from o =
      ring (f a ∷ g a ∷ f o ∷ g o ∷ f q ∷ g q ∷ w ∷ [])
      (var 6 ⊗ ((var 2 ⊖ var 0) ⊗ (var 5 ⊖ var 1) ⊖ (var 3 ⊖ var 1) ⊗ (var 4 ⊖ var 0)))
      ((var 2 ⊖ var 0) ⊗ (var 6 ⊗ (var 5 ⊖ var 1)) ⊖ (var 3 ⊖ var 1) ⊗ (var 6 ⊗ (var 4 ⊖ var 0))) refl
      ∙ ap₂ (λ (x y : ℤ). (f o -ℤ f a) *ℤ x -ℤ (g o -ℤ g a) *ℤ y) along_g along_f
      ∙ ring (f a ∷ g a ∷ f o ∷ g o ∷ f b ∷ g b ∷ t ∷ [])
      ((var 2 ⊖ var 0) ⊗ (var 6 ⊗ (var 5 ⊖ var 1)) ⊖ (var 3 ⊖ var 1) ⊗ (var 6 ⊗ (var 4 ⊖ var 0)))
      (var 6 ⊗ ((var 0 ⊖ var 4) ⊗ (var 3 ⊖ var 5) ⊖ (var 1 ⊖ var 5) ⊗ (var 2 ⊖ var 4))) refl
