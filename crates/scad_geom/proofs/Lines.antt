-- The lines of edges: how two of them lie to each other at a height.
use Rattle.std.proofs.Common.{◌≡◌, [], ◌∷◌, refl, arith}
use lib.IntN.{ℤ, pos, ◌+ℤ◌, ◌-ℤ◌, ◌*ℤ◌}
use Rattle.std.proofs.lemmas.Int.{ints}
use Rattle.scad_geom.specs.declared.point.Edge.{Edge}
use Rattle.scad_geom.specs.Line.{low, high, rise, run, offset, x_at, left_of, lean, apart}
use Rattle.scad_geom.proofs.Ring.{ring, num, ◌⊕◌, ◌⊖◌, ◌⊗◌, v0, v1, v2, v3, v4, v5, v6, v7, v8}

gap_identity : (u c r v b s n d : ℤ) → (u *ℤ n +ℤ c *ℤ d) *ℤ s -ℤ (v *ℤ n +ℤ b *ℤ d) *ℤ r ≡ (u *ℤ s -ℤ v *ℤ r) *ℤ n +ℤ
    (c *ℤ s -ℤ b *ℤ r) *ℤ d
gap_identity u c r v b s n d = ring (u ∷ c ∷ r ∷ v ∷ b ∷ s ∷ n ∷ d ∷ []) ((v0 ⊗ v6 ⊕ v1 ⊗ v7) ⊗ v5 ⊖ (v3 ⊗ v6 ⊕ v4 ⊗ v7)
    ⊗ v2) ((v0 ⊗ v5 ⊖ v3 ⊗ v2) ⊗ v6 ⊕ (v1 ⊗ v5 ⊖ v4 ⊗ v2) ⊗ v7) refl

-- the gap between two lines at a height, over the product of the rises and the divisor, is linear in the height
pub gap_is : (e f : Edge) (n d : ℤ) → x_at e n d *ℤ rise f -ℤ x_at f n d *ℤ rise e ≡ lean e f *ℤ n +ℤ apart e f *ℤ d
unfolding x_at lean apart
gap_is e f n d = gap_identity (run e) (offset e) (rise e) (run f) (offset f) (rise f) n d

passes_identity : (u c r v b s x y d : ℤ) → (v *ℤ y +ℤ b *ℤ d -ℤ s *ℤ x) *ℤ r ≡ (u *ℤ y +ℤ c *ℤ d -ℤ r *ℤ x) *ℤ s -ℤ
    ((u *ℤ y +ℤ c *ℤ d) *ℤ s -ℤ (v *ℤ y +ℤ b *ℤ d) *ℤ r)
passes_identity u c r v b s x y d = ring (u ∷ c ∷ r ∷ v ∷ b ∷ s ∷ x ∷ y ∷ d ∷ []) ((v3 ⊗ v7 ⊕ v4 ⊗ v8 ⊖ v5 ⊗ v6) ⊗ v2)
    ((v0 ⊗ v7 ⊕ v1 ⊗ v8 ⊖ v2 ⊗ v6) ⊗ v5 ⊖ ((v0 ⊗ v7 ⊕ v1 ⊗ v8) ⊗ v5 ⊖ (v3 ⊗ v7 ⊕ v4 ⊗ v8) ⊗ v2)) refl

-- where a point lies to the line of f, by where it lies to that of e and the gap
pub left_of_by : (e f : Edge) (x y d : ℤ) → left_of f x y d *ℤ rise e ≡ left_of e x y d *ℤ rise f -ℤ
    (x_at e y d *ℤ rise f -ℤ x_at f y d *ℤ rise e)
unfolding left_of x_at
left_of_by e f x y d = passes_identity (run e) (offset e) (rise e) (run f) (offset f) (rise f) x y d

end_identity : (u c r v s x y : ℤ) → (u *ℤ y +ℤ c *ℤ pos 1 -ℤ r *ℤ x) *ℤ s ≡ (u *ℤ s -ℤ v *ℤ r) *ℤ y +ℤ
    (c *ℤ s -ℤ (s *ℤ x -ℤ v *ℤ y) *ℤ r) *ℤ pos 1
end_identity u c r v s x y = ring (u ∷ c ∷ r ∷ v ∷ s ∷ x ∷ y ∷ []) ((v0 ⊗ v6 ⊕ v1 ⊗ num (pos 1) ⊖ v2 ⊗ v5) ⊗ v4)
    ((v0 ⊗ v4 ⊖ v3 ⊗ v2) ⊗ v6 ⊕ (v1 ⊗ v4 ⊖ (v4 ⊗ v5 ⊖ v3 ⊗ v6) ⊗ v2) ⊗ num (pos 1)) refl

top_identity : (u c r x y g h : ℤ) → (u *ℤ h +ℤ c *ℤ pos 1 -ℤ r *ℤ g) *ℤ (h -ℤ y) ≡ (u *ℤ (h -ℤ y) -ℤ (g -ℤ x) *ℤ r) *ℤ
    h +ℤ (c *ℤ (h -ℤ y) -ℤ ((h -ℤ y) *ℤ x -ℤ (g -ℤ x) *ℤ y) *ℤ r) *ℤ pos 1
top_identity u c r x y g h = ring (u ∷ c ∷ r ∷ x ∷ y ∷ g ∷ h ∷ []) ((v0 ⊗ v6 ⊕ v1 ⊗ num (pos 1) ⊖ v2 ⊗ v5) ⊗ (v6 ⊖ v4))
    ((v0 ⊗ (v6 ⊖ v4) ⊖ (v5 ⊖ v3) ⊗ v2) ⊗ v6 ⊕ (v1 ⊗ (v6 ⊖ v4) ⊖ ((v6 ⊖ v4) ⊗ v3 ⊖ (v5 ⊖ v3) ⊗ v4) ⊗ v2) ⊗ num (pos 1))
    refl

-- the lower end of f to the line of e
pub low_by : (e f : Edge) → left_of e (low f).x (low f).y (pos 1) *ℤ rise f ≡ lean e f *ℤ (low f).y +ℤ apart e f *ℤ pos
    1
unfolding left_of x_at lean apart offset
low_by e f = end_identity (run e) (rise e *ℤ (low e).x -ℤ run e *ℤ (low e).y) (rise e) (run f) (rise f) (low f).x
    (low f).y

-- the upper end of f to the line of e
pub high_by : (e f : Edge) → left_of e (high f).x (high f).y (pos 1) *ℤ rise f ≡ lean e f *ℤ (high f).y +ℤ apart e f *ℤ
    pos 1
unfolding left_of x_at lean apart offset run rise
high_by e f = top_identity (run e) (offset e) (rise e) (low f).x (low f).y (high f).x (high f).y

-- the line of e at a whole point
pub left_of_whole : (e : Edge) (x y : ℤ) → left_of e x y (pos 1) ≡ run e *ℤ y +ℤ offset e -ℤ rise e *ℤ x
unfolding left_of x_at
left_of_whole e x y = let h : offset e *ℤ pos 1 ≡ offset e = omega (arith, ints) in rw h refl
