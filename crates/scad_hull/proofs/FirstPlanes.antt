-- The plane of the first face: found by turning once about the x direction, or once more about the line of what that
-- met.
use Rattle.std.proofs.Common.{◌≡◌, true, false, ◌&&◌, List, [], ◌∷◌, length, get_or, refl, sym, ap, ◌∙◌, arith, subst, All}
use lib.IntN.{ℤ, pos, ◌-ℤ◌, ◌*ℤ◌}
use lib.Signed.{◌<ℤ◌, ◌≤ℤ◌}
use Rattle.std.specs.List.{Contains, list_all}
use Rattle.std.proofs.lemmas.Int.{ints, by_lt_z}
use Rattle.std.proofs.lemmas.Bool.{and_parts}
use Rattle.std.proofs.lemmas.List.Elements.{All-from_recursion, All-contains, All-contains_itself}
use Rattle.scad_geom.specs.Sign.{is_zero}
use Rattle.scad_geom.specs.declared.point3.Pt3.{Pt3}
use Rattle.scad_geom.proofs.Ring.{ring, num, var, ◌⊕◌, ◌⊖◌, ◌⊗◌}
use Rattle.scad_geom.proofs.Signs.{zero_true}
use Rattle.scad_hull.specs.declared.turning.Normal.{Normal}
use Rattle.scad_hull.specs.Space.{normal_of, depth_of, beside, is_none, dot_of, square_of, IsOnLine, IsTurned}
use Rattle.scad_hull.specs.Faces.{in_plane, IsFacePlane}
use Rattle.scad_hull.proofs.Lines.{nought_right, each_of}
use Rattle.scad_hull.proofs.NextPlanes.{itself_in, turned_at_line}
use Rattle.scad_hull.proofs.PlaneRings.{Contains-filter}
use Rattle.scad_hull.proofs.FacePlanes.{no_squares}
use Rattle.scad_hull.proofs.FoundPlanes.{way_square, front_some}
use Rattle.scad_hull.proofs.ViewAlong.{scaled_x, scaled_y, scaled_z}

told_apart : true ≡ false → ⊥
told_apart e = cc

not_none : (z : ℤ) → pos 0 <ℤ z → z ≡ pos 0 → ⊥
not_none z h e = omega (arith, ints)

level : (z : ℤ) → pos 0 ≤ℤ z → z ≤ℤ pos 0 → z ≡ pos 0
level z h k = omega (arith, ints)

-- a normal without a direction, by its numbers
pub none_by : (m : Normal) → m.x ≡ pos 0 → m.y ≡ pos 0 → m.z ≡ pos 0 → is_none m ≡ true
none_by m x y z = λ i. is_zero (x i) && (is_zero (y i) && is_zero (z i))

pub line_by : (a b p : Pt3) → is_none (normal_of a b p) ≡ true → IsOnLine a b p
line_by a b p e =
    let m = normal_of a b p in
    let first = and_parts (is_zero m.x) (is_zero m.y && is_zero m.z) e in
    let rest = and_parts (is_zero m.y) (is_zero m.z) first.1 in
    record { x = zero_true m.x first.0; y = zero_true m.y rest.0; z = zero_true m.z rest.1 }

one_apart : (a : Pt3) → pos 0 <ℤ way_square a (beside a)
one_apart a = subst (λ (z : ℤ). pos 0 <ℤ z)
    (ring (a.x ∷ a.y ∷ a.z ∷ []) (num (pos 1))
    (((var 0 ⊖ num (pos 1)) ⊖ var 0) ⊗ ((var 0 ⊖ num (pos 1)) ⊖ var 0)
    ⊕ ((var 1 ⊖ var 1) ⊗ (var 1 ⊖ var 1) ⊕ (var 2 ⊖ var 2) ⊗ (var 2 ⊖ var 2))) refl) one
  where
    one : pos 0 <ℤ pos 1
    one = omega (arith, ints)

module _ (ps : List Pt3) (a : Pt3) (n : Normal) (turned : IsTurned a (beside a) ps n (length ps)) (ia : Contains ps a) where
  pub some : pos 0 <ℤ square_of n
  some = subst (λ m. pos 0 <ℤ square_of m) (sym turned.is)
      (front_some turned.known a (beside a) turned.met turned.facing.upright (one_apart a) turned.front)

  inward : All (λ p. pos 0 ≤ℤ depth_of n a p) ps
  inward = λ k d i. turned.inward k d i

  abbrev Q : List Pt3
  Q = in_plane ps a n

  in_q : (p : Pt3) → Contains ps p → depth_of n a p ≡ pos 0 → Contains Q p
  in_q p i e = Contains-filter (λ q. is_zero (depth_of n a q)) ps p i (ap is_zero e)

  -- ---- three points of it don't lie on one line
  module _ (d e : Pt3) (id : Contains ps d) (ie : Contains ps e) (hd : depth_of n a d ≡ pos 0) (he : depth_of n a e ≡ pos 0)
      (off : is_none (normal_of a d e) ≡ false) where
    some_turn : dot_of n (normal_of a d e) ≡ pos 0 → ⊥
    some_turn z =
        let m = normal_of a d e in
        told_apart (sym (none_by m
        (nought_right (square_of n) m.x (sym (scaled_x n a d e hd he) ∙ ap (λ (t : ℤ). n.x *ℤ t) z
        ∙ no_times n.x) (not_none (square_of n) some))
        (nought_right (square_of n) m.y (sym (scaled_y n a d e hd he) ∙ ap (λ (t : ℤ). n.y *ℤ t) z
        ∙ no_times n.y) (not_none (square_of n) some))
        (nought_right (square_of n) m.z (sym (scaled_z n a d e hd he) ∙ ap (λ (t : ℤ). n.z *ℤ t) z
        ∙ no_times n.z) (not_none (square_of n) some)))
        ∙ off)
      where
        no_times : (k : ℤ) → k *ℤ pos 0 ≡ pos 0
        no_times k = ring (k ∷ []) (var 0 ⊗ num (pos 0)) (num (pos 0)) refl

    turned_round : dot_of n (normal_of a e d) ≡ pos 0 -ℤ dot_of n (normal_of a d e)
    turned_round =
        ring (n.x ∷ n.y ∷ n.z ∷ (d.x -ℤ a.x) ∷ (d.y -ℤ a.y) ∷ (d.z -ℤ a.z) ∷ (e.x -ℤ a.x)
        ∷ (e.y -ℤ a.y) ∷ (e.z -ℤ a.z) ∷ [])
        (var 0 ⊗ (var 7 ⊗ var 5 ⊖ var 8 ⊗ var 4)
        ⊕ (var 1 ⊗ (var 8 ⊗ var 3 ⊖ var 6 ⊗ var 5) ⊕ var 2 ⊗ (var 6 ⊗ var 4 ⊖ var 7 ⊗ var 3)))
        (num (pos 0) ⊖ (var 0 ⊗ (var 4 ⊗ var 8 ⊖ var 5 ⊗ var 7)
        ⊕ (var 1 ⊗ (var 5 ⊗ var 6 ⊖ var 3 ⊗ var 8) ⊕ var 2 ⊗ (var 3 ⊗ var 7 ⊖ var 4 ⊗ var 6)))) refl

    pub first_plane : IsFacePlane ps a n
    first_plane = by_lt_z (pos 0) (dot_of n (normal_of a d e))
        (λ h. record {
          some = some;
          inward = inward;
          first = a;
          second = d;
          third = e;
          has_first = ia;
          has_second = id;
          has_third = ie;
          flat_first = itself_in n a;
          flat_second = hd;
          flat_third = he;
          round = h;
        })
        (λ h. record {
          some = some;
          inward = inward;
          first = a;
          second = e;
          third = d;
          has_first = ia;
          has_second = ie;
          has_third = id;
          flat_first = itself_in n a;
          flat_second = he;
          flat_third = hd;
          round = other (dot_of n (normal_of a d e)) (dot_of n (normal_of a e d)) turned_round h some_turn;
        })
      where
        other : (s t : ℤ) → t ≡ pos 0 -ℤ s → s ≤ℤ pos 0 → (s ≡ pos 0 → ⊥) → pos 0 <ℤ t
        other s t e h k = by_lt_z (pos 0) t (λ l. l) (λ l. absurd (k (both s t e h l)))
          where
            both : (s t : ℤ) → t ≡ pos 0 -ℤ s → s ≤ℤ pos 0 → t ≤ℤ pos 0 → s ≡ pos 0
            both s t e h l = omega (arith, ints)

  -- ---- all points of it lie on the line to d
  module _ (d : Pt3) (hd : depth_of n a d ≡ pos 0) (line : list_all (λ p. is_none (normal_of a d p)) Q ≡ true) where
    on_line : (p : Pt3) → Contains ps p → depth_of n a p ≡ pos 0 → is_none (normal_of a d p) ≡ true
    on_line p i e = All-contains (λ q. is_none (normal_of a d q) ≡ true) Q p
        (All-from_recursion (λ q. is_none (normal_of a d q) ≡ true) Q
        (each_of (λ q. is_none (normal_of a d q)) Q line)) (in_q p i e)

    -- with a point off that line one turns on
    pub turned_again : (e : Pt3) → Contains ps e → is_none (normal_of a d e) ≡ false
        → IsTurned a d ps (normal_of a d e) 0
    turned_again e ie off =
        turned_at_line n some a d hd ps inward
        (λ k f i h. line_by a d (get_or ps k f) (on_line (get_or ps k f) (All-contains_itself ps k f i) h)) e ie
        (by_lt_z (pos 0) (depth_of n a e) (λ h. h)
        (λ h. absurd (told_apart (sym (on_line e ie
        (level (depth_of n a e) (All-contains (λ p. pos 0 ≤ℤ depth_of n a p) ps e inward ie) h)) ∙ off))))

-- two points that make a turn with a third are two
pub two_points : (a d e : Pt3) → is_none (normal_of a d e) ≡ false → pos 0 <ℤ way_square a d
two_points a d e off = by_lt_z (pos 0) (way_square a d) (λ h. h)
    (λ h. absurd (one (no_squares (d.x -ℤ a.x) (d.y -ℤ a.y) (d.z -ℤ a.z) h)))
  where
    flat : (u v r s : ℤ) → u ≡ pos 0 → v ≡ pos 0 → u *ℤ s -ℤ v *ℤ r ≡ pos 0
    flat u v r s hu hv = (λ i. hu i *ℤ s -ℤ hv i *ℤ r)
        ∙ ring (r ∷ s ∷ []) (num (pos 0) ⊗ var 1 ⊖ num (pos 0) ⊗ var 0) (num (pos 0)) refl

    one : (d.x -ℤ a.x ≡ pos 0) × (d.y -ℤ a.y ≡ pos 0) × (d.z -ℤ a.z ≡ pos 0) → ⊥
    one h = told_apart (sym (none_by (normal_of a d e)
        (flat (d.y -ℤ a.y) (d.z -ℤ a.z) (e.y -ℤ a.y) (e.z -ℤ a.z) h.1 h.2)
        (flat (d.z -ℤ a.z) (d.x -ℤ a.x) (e.z -ℤ a.z) (e.x -ℤ a.x) h.2 h.0)
        (flat (d.x -ℤ a.x) (d.y -ℤ a.y) (e.x -ℤ a.x) (e.y -ℤ a.y) h.0 h.1)) ∙ off)
