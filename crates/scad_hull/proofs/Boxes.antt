-- How deep the points of a box lie at least.
use Rattle.std.proofs.Common.{◌≡◌, Bool, true, false, [], ◌∷◌, refl, sym, arith, subst}
use lib.IntN.{ℤ, pos, ◌+ℤ◌, ◌-ℤ◌, ◌*ℤ◌}
use lib.Signed.{◌<ℤ◌, ◌≤ℤ◌}
use Rattle.std.specs.Prelude.{int_lt, if◌then◌else◌}
use Rattle.std.specs.Bool.{OnTrue}
use Rattle.std.proofs.lemmas.Int.{ints}
use Rattle.scad_geom.specs.declared.point3.Pt3.{Pt3}
use Rattle.scad_geom.proofs.Ring.{ring, num, var, ◌⊕◌, ◌⊖◌, ◌⊗◌}
use Rattle.scad_geom.proofs.Signs.{at_least_mul}
use Rattle.scad_hull.specs.declared.block.Block.{Block}
use Rattle.scad_hull.specs.declared.turning.Normal.{Normal}
use Rattle.scad_hull.specs.Space.{depth_of}
use Rattle.scad_hull.specs.Blocks.{IsWithin, IsPartOf, least_of, least_corner}

more : (s t u : ℤ) → u ≡ s +ℤ t → pos 0 ≤ℤ t → s ≤ℤ u
more s t u e h = omega (arith, ints)

apart : (s t : ℤ) → s ≤ℤ t → pos 0 ≤ℤ (t -ℤ s)
apart s t h = omega (arith, ints)

turned : (n : ℤ) → int_lt n (pos 0) ≡ true → pos 0 ≤ℤ (pos 0 -ℤ n)
turned n e = omega (arith, ints)

upwards : (n : ℤ) → int_lt n (pos 0) ≡ false → pos 0 ≤ℤ n
upwards n e = omega (arith, ints)

-- of the products with a number within bounds, that at one of them is the least
least_product : (n low high p a : ℤ) → low ≤ℤ p → p ≤ℤ high
    → (n *ℤ (least_of n low high -ℤ a)) ≤ℤ (n *ℤ (p -ℤ a))
least_product n low high p a h k = by_test (int_lt n (pos 0)) refl
  where
    by_test : (c : Bool) → int_lt n (pos 0) ≡ c
        → (n *ℤ ((if c then high else low) -ℤ a)) ≤ℤ (n *ℤ (p -ℤ a))
    by_test true e = more (n *ℤ (high -ℤ a)) ((pos 0 -ℤ n) *ℤ (high -ℤ p)) (n *ℤ (p -ℤ a))
        (ring (n ∷ p ∷ high ∷ a ∷ []) (var 0 ⊗ (var 1 ⊖ var 3))
        (var 0 ⊗ (var 2 ⊖ var 3) ⊕ (num (pos 0) ⊖ var 0) ⊗ (var 2 ⊖ var 1)) refl)
        (at_least_mul (pos 0 -ℤ n) (high -ℤ p) (turned n e) (apart p high k))
    by_test false e = more (n *ℤ (low -ℤ a)) (n *ℤ (p -ℤ low)) (n *ℤ (p -ℤ a))
        (ring (n ∷ p ∷ low ∷ a ∷ []) (var 0 ⊗ (var 1 ⊖ var 3))
        (var 0 ⊗ (var 2 ⊖ var 3) ⊕ var 0 ⊗ (var 1 ⊖ var 2)) refl)
        (at_least_mul n (p -ℤ low) (upwards n e) (apart low p h))

summed : (x y z u v w : ℤ) → x ≤ℤ u → y ≤ℤ v → z ≤ℤ w → pos 0 <ℤ (x +ℤ (y +ℤ z))
    → pos 0 <ℤ (u +ℤ (v +ℤ w))
summed x y z u v w h k l m = omega (arith, ints)

-- where the corner of least depth lies inside, so does each point of the box
pub inside_box : (n : Normal) (a : Pt3) (b : Block) → pos 0 <ℤ depth_of n a (least_corner n b)
    → (p : Pt3) → IsWithin b p → pos 0 <ℤ depth_of n a p
inside_box n a b h p w =
    summed (n.x *ℤ (least_of n.x b.low.x b.high.x -ℤ a.x)) (n.y *ℤ (least_of n.y b.low.y b.high.y -ℤ a.y))
    (n.z *ℤ (least_of n.z b.low.z b.high.z -ℤ a.z)) (n.x *ℤ (p.x -ℤ a.x)) (n.y *ℤ (p.y -ℤ a.y))
    (n.z *ℤ (p.z -ℤ a.z))
    (least_product n.x b.low.x b.high.x p.x a.x w.low_x w.high_x)
    (least_product n.y b.low.y b.high.y p.y a.y w.low_y w.high_y)
    (least_product n.z b.low.z b.high.z p.z a.z w.low_z w.high_z) h

above : (z : ℤ) → int_lt (pos 0) z ≡ true → pos 0 <ℤ z
above z e = omega (arith, ints)

-- the same, as the code tells it
pub box_told : (n : Normal) (a q : Pt3) (b : Block) (r : Bool) → q ≡ least_corner n b
    → r ≡ int_lt (pos 0) (depth_of n a q) → OnTrue r ((p : Pt3) → IsWithin b p → pos 0 <ℤ depth_of n a p)
box_told n a q b true is e =
    inside_box n a b (subst (λ c. pos 0 <ℤ depth_of n a c) is (above (depth_of n a q) (sym e)))
box_told n a q b false is e = tt

at_most : (a b c : ℤ) → a ≤ℤ b → b ≤ℤ c → a ≤ℤ c
at_most a b c h k = omega (arith, ints)

-- a point of a box lies in each box round it
pub still_within : (b c : Block) (p : Pt3) → IsPartOf b c → IsWithin b p → IsWithin c p
still_within b c p h w = record {
  low_x = at_most c.low.x b.low.x p.x h.low_x w.low_x;
  low_y = at_most c.low.y b.low.y p.y h.low_y w.low_y;
  low_z = at_most c.low.z b.low.z p.z h.low_z w.low_z;
  high_x = at_most p.x b.high.x c.high.x w.high_x h.high_x;
  high_y = at_most p.y b.high.y c.high.y w.high_y h.high_y;
  high_z = at_most p.z b.high.z c.high.z w.high_z h.high_z;
}
