-- From which planes one turns on: at a side of a face from the face's own, through the least point from the level one.
use Rattle.std.proofs.Common.{◌≡◌, ◌⊎◌, inl, inr, ℕ, ◌<◌, List, [], ◌∷◌, refl, sym, ap, ◌∙◌, arith, subst}
use lib.IntN.{ℤ, pos, ◌+ℤ◌, ◌-ℤ◌, ◌*ℤ◌}
use lib.Signed.{◌<ℤ◌, ◌≤ℤ◌}
use Rattle.std.specs.Prelude.{All, slice_index_or}
use Rattle.std.specs.List.{Contains}
use Rattle.std.proofs.lemmas.Int.{ints, by_lt_z}
use Rattle.scad_geom.specs.declared.point3.Pt3.{Pt3}
use Rattle.scad_geom.proofs.Ring.{ring, num, var, ◌⊕◌, ◌⊖◌, ◌⊗◌}
use Rattle.scad_geom.proofs.Signs.{sub-zero, climbs}
use Rattle.scad_hull.specs.declared.turning.Normal.{Normal}
use Rattle.scad_hull.specs.Space.{normal_of, depth_of, face_left, beside, IsOnLine, IsInFront, IsTurned, dot_of, square_of}
use Rattle.scad_hull.proofs.Lines.{nought_right}
use Rattle.scad_hull.proofs.ViewAlong.{seen, scaled_x, scaled_y, scaled_z}

level : (z : ℤ) → pos 0 ≤ℤ z → z ≤ℤ pos 0 → z ≡ pos 0
level z h k = omega (arith, ints)

not_none : (z : ℤ) → pos 0 <ℤ z → z ≡ pos 0 → ⊥
not_none z h e = omega (arith, ints)

no_product : (k z t : ℤ) → t ≡ pos 0 → k *ℤ t ≡ z → z ≡ pos 0
no_product k z t e f = sym f ∙ ap (λ (s : ℤ). k *ℤ s) e
    ∙ ring (k ∷ []) (var 0 ⊗ num (pos 0)) (num (pos 0)) refl

negated : (s t : ℤ) → s ≡ pos 0 -ℤ t → t ≡ pos 0 → s ≡ pos 0
negated s t e h = omega (arith, ints)

pub itself_in : (n : Normal) (a : Pt3) → depth_of n a a ≡ pos 0
itself_in n a =
    ring (n.x ∷ n.y ∷ n.z ∷ a.x ∷ a.y ∷ a.z ∷ [])
    (var 0 ⊗ (var 3 ⊖ var 3) ⊕ (var 1 ⊗ (var 4 ⊖ var 4) ⊕ var 2 ⊗ (var 5 ⊖ var 5))) (num (pos 0)) refl

nothing_before : (k : ℕ) → k < 0 → ⊥
nothing_before k h = omega arith

-- ---- the line through a and b in a plane with this normal
module _ (n : Normal) (some : pos 0 <ℤ square_of n) (a b : Pt3) (flat : depth_of n a b ≡ pos 0) where
  -- the depth as from another point of the plane
  pub moved : (p : Pt3) → depth_of n b p ≡ depth_of n a p
  moved p =
      ring (n.x ∷ n.y ∷ n.z ∷ a.x ∷ a.y ∷ a.z ∷ b.x ∷ b.y ∷ b.z ∷ p.x ∷ p.y ∷ p.z ∷ [])
      (var 0 ⊗ (var 9 ⊖ var 6) ⊕ (var 1 ⊗ (var 10 ⊖ var 7) ⊕ var 2 ⊗ (var 11 ⊖ var 8)))
      ((var 0 ⊗ (var 9 ⊖ var 3) ⊕ (var 1 ⊗ (var 10 ⊖ var 4) ⊕ var 2 ⊗ (var 11 ⊖ var 5)))
      ⊖ (var 0 ⊗ (var 6 ⊖ var 3) ⊕ (var 1 ⊗ (var 7 ⊖ var 4) ⊕ var 2 ⊗ (var 8 ⊖ var 5)))) refl
      ∙ ap (λ (z : ℤ). depth_of n a p -ℤ z) flat ∙ sub-zero (depth_of n a p)

  -- on which side of the line from b to a a point lies
  aside_is : (p : Pt3) → (n.z *ℤ (a.y -ℤ b.y) -ℤ n.y *ℤ (a.z -ℤ b.z)) *ℤ (p.x -ℤ b.x)
      +ℤ ((n.x *ℤ (a.z -ℤ b.z) -ℤ n.z *ℤ (a.x -ℤ b.x)) *ℤ (p.y -ℤ b.y)
      +ℤ (n.y *ℤ (a.x -ℤ b.x) -ℤ n.x *ℤ (a.y -ℤ b.y)) *ℤ (p.z -ℤ b.z)) ≡ dot_of n (normal_of a b p)
  aside_is p =
      ring (n.x ∷ n.y ∷ n.z ∷ a.x ∷ a.y ∷ a.z ∷ b.x ∷ b.y ∷ b.z ∷ p.x ∷ p.y ∷ p.z ∷ [])
      ((var 2 ⊗ (var 4 ⊖ var 7) ⊖ var 1 ⊗ (var 5 ⊖ var 8)) ⊗ (var 9 ⊖ var 6)
      ⊕ ((var 0 ⊗ (var 5 ⊖ var 8) ⊖ var 2 ⊗ (var 3 ⊖ var 6)) ⊗ (var 10 ⊖ var 7)
      ⊕ (var 1 ⊗ (var 3 ⊖ var 6) ⊖ var 0 ⊗ (var 4 ⊖ var 7)) ⊗ (var 11 ⊖ var 8)))
      (var 0 ⊗ ((var 7 ⊖ var 4) ⊗ (var 11 ⊖ var 5) ⊖ (var 8 ⊖ var 5) ⊗ (var 10 ⊖ var 4))
      ⊕ (var 1 ⊗ ((var 8 ⊖ var 5) ⊗ (var 9 ⊖ var 3) ⊖ (var 6 ⊖ var 3) ⊗ (var 11 ⊖ var 5))
      ⊕ var 2 ⊗ ((var 6 ⊖ var 3) ⊗ (var 10 ⊖ var 4) ⊖ (var 7 ⊖ var 4) ⊗ (var 9 ⊖ var 3)))) refl

  cross_back : (ax ay bx by px py : ℤ) → (ax -ℤ bx) *ℤ (py -ℤ by) -ℤ (ay -ℤ by) *ℤ (px -ℤ bx)
      ≡ pos 0 -ℤ ((bx -ℤ ax) *ℤ (py -ℤ ay) -ℤ (by -ℤ ay) *ℤ (px -ℤ ax))
  cross_back ax ay bx by px py =
      ring (ax ∷ ay ∷ bx ∷ by ∷ px ∷ py ∷ [])
      ((var 0 ⊖ var 2) ⊗ (var 5 ⊖ var 3) ⊖ (var 1 ⊖ var 3) ⊗ (var 4 ⊖ var 2))
      (num (pos 0) ⊖ ((var 2 ⊖ var 0) ⊗ (var 5 ⊖ var 1) ⊖ (var 3 ⊖ var 1) ⊗ (var 4 ⊖ var 0))) refl

  -- a point of the plane on neither side of the line lies on it
  pub on_side : (p : Pt3) → depth_of n a p ≡ pos 0 → face_left n a b p ≡ pos 0 → IsOnLine b a p
  on_side p e l =
      let v = seen n some in
      let none : dot_of n (normal_of a b p) ≡ pos 0 = nought_right v.scale (dot_of n (normal_of a b p))
      (v.scaled a b p flat e ∙ ap (λ (z : ℤ). square_of n *ℤ z) l
      ∙ ring (square_of n ∷ []) (var 0 ⊗ num (pos 0)) (num (pos 0)) refl) (not_none v.scale v.positive) in
      record {
        x = negated (normal_of b a p).x (normal_of a b p).x (cross_back a.y a.z b.y b.z p.y p.z)
            (nought_right (square_of n) (normal_of a b p).x
            (no_product n.x (square_of n *ℤ (normal_of a b p).x) (dot_of n (normal_of a b p)) none
            (scaled_x n a b p flat e))
            (not_none (square_of n) some));
        y = negated (normal_of b a p).y (normal_of a b p).y (cross_back a.z a.x b.z b.x p.z p.x)
            (nought_right (square_of n) (normal_of a b p).y
            (no_product n.y (square_of n *ℤ (normal_of a b p).y) (dot_of n (normal_of a b p)) none
            (scaled_y n a b p flat e))
            (not_none (square_of n) some));
        z = negated (normal_of b a p).z (normal_of a b p).z (cross_back a.x a.y b.x b.y p.x p.y)
            (nought_right (square_of n) (normal_of a b p).z
            (no_product n.z (square_of n *ℤ (normal_of a b p).z) (dot_of n (normal_of a b p)) none
            (scaled_z n a b p flat e))
            (not_none (square_of n) some));
      }

  front : (p : Pt3) → depth_of n a p ≡ pos 0 → pos 0 <ℤ face_left n a b p → IsInFront n b a p
  front p e h =
      let v = seen n some in
      inr (
        moved p ∙ e,
        subst (λ (z : ℤ). pos 0 <ℤ z) (sym (aside_is p))
            (climbs v.scale (square_of n) (dot_of n (normal_of a b p)) (face_left n a b p) v.positive some
            (v.scaled a b p flat e) h),
      )

  in_plane : (p : Pt3) → depth_of n a p ≡ pos 0 → pos 0 ≤ℤ face_left n a b p
      → IsOnLine b a p ⊎ IsInFront n b a p
  in_plane p e l = by_lt_z (pos 0) (face_left n a b p) (λ h. inr (front p e h))
      (λ h. inl (on_side p e (level (face_left n a b p) l h)))

  facing : (p : Pt3) → pos 0 ≤ℤ depth_of n a p → (depth_of n a p ≡ pos 0 → pos 0 ≤ℤ face_left n a b p)
      → IsOnLine b a p ⊎ IsInFront n b a p
  facing p h k = by_lt_z (pos 0) (depth_of n a p)
      (λ deep. inr (inl (subst (λ (z : ℤ). pos 0 <ℤ z) (sym (moved p)) deep)))
      (λ flat_p. in_plane p (level (depth_of n a p) h flat_p) (k (level (depth_of n a p) h flat_p)))

  -- at a side from a to b, with another corner c
  pub turned_at_side : (ps : List Pt3) → All (λ p. pos 0 ≤ℤ depth_of n a p) ps
      → All (λ p. depth_of n a p ≡ pos 0 → pos 0 ≤ℤ face_left n a b p) ps
      → (c : Pt3) → Contains ps c → depth_of n a c ≡ pos 0 → pos 0 <ℤ face_left n a b c
      → IsTurned b a ps (normal_of b a c) 0
  turned_at_side ps inside left c there e h = record {
    known = n;
    facing = record {
      upright = moved a ∙ itself_in n a;
      some = some;
      front = λ k d i. facing (slice_index_or ps k d) (inside k d i) (left k d i);
    };
    met = c;
    is = refl;
    there = there;
    front = front c e h;
    inward = λ k d i. absurd (nothing_before k i);
  }

  -- about the line that has all points of the plane
  pub turned_at_line : (ps : List Pt3) → All (λ p. pos 0 ≤ℤ depth_of n a p) ps
      → All (λ p. depth_of n a p ≡ pos 0 → IsOnLine a b p) ps
      → (c : Pt3) → Contains ps c → pos 0 <ℤ depth_of n a c → IsTurned a b ps (normal_of a b c) 0
  turned_at_line ps inside line c there h = record {
    known = n;
    facing = record {
      upright = flat;
      some = some;
      front = λ k d i. by_lt_z (pos 0) (depth_of n a (slice_index_or ps k d)) (λ deep. inr (inl deep))
          (λ low. inl (line k d i (level (depth_of n a (slice_index_or ps k d)) (inside k d i) low)));
    };
    met = c;
    is = refl;
    there = there;
    front = inl h;
    inward = λ k d i. absurd (nothing_before k i);
  }

-- ---- the level plane through the least point
abbrev upwards : Normal
upwards = record { x = pos 0; y = pos 0; z = pos 1 }

-- p lies higher than a, or as high and no farther to the front
abbrev pub IsNotLower : Pt3 → Pt3 → Type 0
IsNotLower a p = (a.z <ℤ p.z) ⊎ ((a.z ≡ p.z) × ((a.y <ℤ p.y) ⊎ (a.y ≡ p.y)))

module _ (a : Pt3) where
  height_is : (p : Pt3) → depth_of upwards a p ≡ p.z -ℤ a.z
  height_is p =
      ring (a.x ∷ a.y ∷ a.z ∷ p.x ∷ p.y ∷ p.z ∷ [])
      (num (pos 0) ⊗ (var 3 ⊖ var 0) ⊕ (num (pos 0) ⊗ (var 4 ⊖ var 1) ⊕ num (pos 1) ⊗ (var 5 ⊖ var 2)))
      (var 5 ⊖ var 2) refl

  behind_is : (p : Pt3) → (pos 1 *ℤ (a.y -ℤ a.y) -ℤ pos 0 *ℤ (a.z -ℤ a.z)) *ℤ (p.x -ℤ a.x)
      +ℤ ((pos 0 *ℤ (a.z -ℤ a.z) -ℤ pos 1 *ℤ ((a.x -ℤ pos 1) -ℤ a.x)) *ℤ (p.y -ℤ a.y)
      +ℤ (pos 0 *ℤ ((a.x -ℤ pos 1) -ℤ a.x) -ℤ pos 0 *ℤ (a.y -ℤ a.y)) *ℤ (p.z -ℤ a.z)) ≡ p.y -ℤ a.y
  behind_is p =
      ring (a.x ∷ a.y ∷ a.z ∷ p.x ∷ p.y ∷ p.z ∷ [])
      ((num (pos 1) ⊗ (var 1 ⊖ var 1) ⊖ num (pos 0) ⊗ (var 2 ⊖ var 2)) ⊗ (var 3 ⊖ var 0)
      ⊕ ((num (pos 0) ⊗ (var 2 ⊖ var 2) ⊖ num (pos 1) ⊗ ((var 0 ⊖ num (pos 1)) ⊖ var 0))
      ⊗ (var 4 ⊖ var 1)
      ⊕ (num (pos 0) ⊗ ((var 0 ⊖ num (pos 1)) ⊖ var 0) ⊖ num (pos 0) ⊗ (var 1 ⊖ var 1))
      ⊗ (var 5 ⊖ var 2)))
      (var 4 ⊖ var 1) refl

  rising : (s t : ℤ) → s <ℤ t → pos 0 <ℤ (t -ℤ s)
  rising s t h = omega (arith, ints)

  same_height : (s t : ℤ) → s ≡ t → t -ℤ s ≡ pos 0
  same_height s t e = omega (arith, ints)

  in_line : (p : Pt3) → a.z ≡ p.z → a.y ≡ p.y → IsOnLine a (beside a) p
  in_line p ez ey = record {
    x = ring (a.y ∷ a.z ∷ p.y ∷ p.z ∷ [])
        ((var 0 ⊖ var 0) ⊗ (var 3 ⊖ var 1) ⊖ (var 1 ⊖ var 1) ⊗ (var 2 ⊖ var 0)) (num (pos 0)) refl;
    y = ring (a.x ∷ a.z ∷ p.x ∷ p.z ∷ [])
        ((var 1 ⊖ var 1) ⊗ (var 2 ⊖ var 0) ⊖ ((var 0 ⊖ num (pos 1)) ⊖ var 0) ⊗ (var 3 ⊖ var 1))
        (var 3 ⊖ var 1) refl
        ∙ same_height a.z p.z ez;
    z = ring (a.x ∷ a.y ∷ p.x ∷ p.y ∷ [])
        (((var 0 ⊖ num (pos 1)) ⊖ var 0) ⊗ (var 3 ⊖ var 1) ⊖ (var 1 ⊖ var 1) ⊗ (var 2 ⊖ var 0))
        (num (pos 0) ⊖ (var 3 ⊖ var 1)) refl
        ∙ ap (λ (s : ℤ). pos 0 -ℤ s) (same_height a.y p.y ey);
  }

  above_level : (p : Pt3) → IsNotLower a p → IsOnLine a (beside a) p ⊎ IsInFront upwards a (beside a) p
  above_level p (inl h) = inr (inl (subst (λ (z : ℤ). pos 0 <ℤ z) (sym (height_is p)) (rising a.z p.z h)))
  above_level p (inr (ez, inl h)) = inr (inr (
    height_is p ∙ same_height a.z p.z ez,
    subst (λ (z : ℤ). pos 0 <ℤ z) (sym (behind_is p)) (rising a.y p.y h),
  ))
  above_level p (inr (ez, inr ey)) = inl (in_line p ez ey)

  -- about the x direction through the least point, with a point c off that line
  pub turned_at_least : (ps : List Pt3) → All (IsNotLower a) ps → (c : Pt3) → Contains ps c → IsNotLower a c
      → (IsOnLine a (beside a) c → ⊥) → IsTurned a (beside a) ps (normal_of a (beside a) c) 0
  turned_at_least ps lowest c there hc off = record {
    known = upwards;
    facing = record {
      upright = height_is (beside a) ∙ same_height a.z a.z refl;
      some = by_one;
      front = λ k d i. above_level (slice_index_or ps k d) (lowest k d i);
    };
    met = c;
    is = refl;
    there = there;
    front = off_line (above_level c hc);
    inward = λ k d i. absurd (nothing_before k i);
  }
    where
      by_one : pos 0 <ℤ (pos 0 *ℤ pos 0 +ℤ (pos 0 *ℤ pos 0 +ℤ pos 1 *ℤ pos 1))
      by_one = omega (arith, ints)

      off_line : IsOnLine a (beside a) c ⊎ IsInFront upwards a (beside a) c → IsInFront upwards a (beside a) c
      off_line (inl line) = absurd (off line)
      off_line (inr h) = h
