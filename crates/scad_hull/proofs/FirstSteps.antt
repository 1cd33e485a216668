-- The steps of the search for a first face, as the code tells them.
use Rattle.std.proofs.Common.{◌≡◌, ◌<◌, true, false, List, [], ◌∷◌, length, get_or, refl, sym, ap, ◌∙◌, arith, subst, All}
use lib.IntN.{ℤ, pos}
use lib.Signed.{◌≤ℤ◌}
use Rattle.std.specs.List.{Contains, list_all}
use Rattle.std.specs.List.Sorted.{IsStrictlySortedBy}
use Rattle.std.proofs.lemmas.Int.{ints, by_lt_z}
use Rattle.std.proofs.lemmas.List.Elements.{All-from_recursion, All-contains, All-contains_itself, All-filter, filter_passes}
use Rattle.scad_geom.specs.Sign.{is_zero}
use Rattle.scad_geom.specs.declared.point3.Pt3.{Pt3}
use Rattle.scad_hull.specs.declared.turning.Normal.{Normal}
use Rattle.scad_hull.specs.Space.{space_cmp, normal_of, depth_of, beside, is_none, IsSmall, IsTurned}
use Rattle.scad_hull.specs.Faces.{in_plane, face_in, are_flat, IsEdge, IsFaceOf, IsFacePlane}
use Rattle.scad_hull.specs.declared.faces.Face.{Face}
use Rattle.scad_hull.proofs.FirstFaces.{on_x_line, on_d_line, met_off, lowest}
use Rattle.scad_hull.proofs.Lines.{each_of}
use Rattle.scad_hull.proofs.PlaneRings.{Contains-filter}
use Rattle.scad_geom.proofs.Signs.{zero_true}
use Rattle.scad_hull.proofs.FirstPlanes.{line_by, none_by, some, first_plane, two_points}
use Rattle.scad_hull.proofs.FoundPlanes.{plane_found}
use Rattle.scad_hull.proofs.NextPlanes.{IsNotLower, turned_at_least, turned_at_line}

told_apart : true ≡ false → ⊥
told_apart e = cc

pub small_in : (ps : List Pt3) (p : Pt3) → All IsSmall ps → Contains ps p → IsSmall p
small_in ps p h i = All-contains IsSmall ps p h i

pub first_has : (ps : List Pt3) (a : Pt3) → 0 < length ps → a ≡ get_or ps 0 a → Contains ps a
first_has ps a l e = (0, l, sym e)

module _ (ps : List Pt3) (a b : Pt3) (is : b ≡ beside a) where
  pub turned_first : IsStrictlySortedBy space_cmp ps → 0 < length ps → a ≡ get_or ps 0 a → (c : Pt3)
      → Contains ps c → is_none (normal_of a b c) ≡ false → IsTurned a b ps (normal_of a b c) 0
  turned_first sorted l e c i off =
      let low = lowest ps sorted a l e in
      subst (λ x. IsTurned a x ps (normal_of a x c) 0) (sym is)
      (turned_at_least a ps low c i (All-contains (IsNotLower a) ps c low i)
      (λ line. told_apart (sym (none_by (normal_of a (beside a) c) line.x line.y line.z)
      ∙ ap (λ x. is_none (normal_of a x c)) (sym is) ∙ off)))

  pub turned_still : (n : Normal) → IsTurned a b ps n (length ps) → IsTurned a (beside a) ps n (length ps)
  turned_still n t = subst (λ x. IsTurned a x ps n (length ps)) is t

  pub flat_beside : list_all (λ p. is_none (normal_of a b p)) ps ≡ true → are_flat ps ≡ true
  flat_beside e = on_x_line ps a (ap (λ x. list_all (λ p. is_none (normal_of a x p)) ps) (sym is) ∙ e)

  -- ---- what the plane meets
  module _ (n : Normal) (turned : IsTurned a (beside a) ps n (length ps)) (ia : Contains ps a) (qs : List Pt3) (met : qs ≡ in_plane ps a n) where
    pub some_met : list_all (λ p. is_none (normal_of a b p)) qs ≡ true → are_flat ps ≡ true
    some_met e =
        absurd (met_off ps a n turned ia (ap (λ x. list_all (λ p. is_none (normal_of a x p)) (in_plane ps a n))
        (sym is)
        ∙ ap (λ xs. list_all (λ p. is_none (normal_of a b p)) xs) (sym met) ∙ e))

    in_met : (q : Pt3) → Contains qs q → Contains (in_plane ps a n) q
    in_met q i = subst (λ xs. Contains xs q) met i

    pub met_points : (q : Pt3) → Contains qs q → Contains ps q
    met_points q i = All-contains (Contains ps) (in_plane ps a n) q
        (All-filter (λ p. is_zero (depth_of n a p)) (Contains ps) ps (All-contains_itself ps)) (in_met q i)

    pub met_small : All IsSmall ps → All IsSmall qs
    met_small h = subst (λ xs. All IsSmall xs) (sym met) (All-filter (λ p. is_zero (depth_of n a p)) IsSmall ps h)

  module _ (n : Normal) (turned : IsTurned a (beside a) ps n (length ps)) (ia : Contains ps a) (qs : List Pt3) (met : qs ≡ in_plane ps a n)
      (d : Pt3) (id : Contains qs d) (off : is_none (normal_of a b d) ≡ false) where
    in_q : (q : Pt3) → Contains ps q → depth_of n a q ≡ pos 0 → Contains qs q
    in_q q i e = subst (λ xs. Contains xs q) (sym met)
        (Contains-filter (λ p. is_zero (depth_of n a p)) ps q i (ap is_zero e))

    flat_q : (q : Pt3) → Contains qs q → depth_of n a q ≡ pos 0
    flat_q q i = zero_true (depth_of n a q) (All-contains (λ p. is_zero (depth_of n a p) ≡ true) (in_plane ps a n) q
        (filter_passes (λ p. is_zero (depth_of n a p)) ps) (subst (λ xs. Contains xs q) met i))

    in_ps : (q : Pt3) → Contains qs q → Contains ps q
    in_ps q i = All-contains (Contains ps) (in_plane ps a n) q
        (All-filter (λ p. is_zero (depth_of n a p)) (Contains ps) ps (All-contains_itself ps))
        (subst (λ xs. Contains xs q) met i)

    -- a third point that isn't on the line
    pub third_plane : (e : Pt3) → Contains qs e → is_none (normal_of a d e) ≡ false → IsFacePlane ps a n
    third_plane e ie o = first_plane ps a n turned ia d e (in_ps d id) (in_ps e ie) (flat_q d id) (flat_q e ie) o

    -- none
    pub edge_there : list_all (λ p. is_none (normal_of a d p)) qs ≡ true → IsEdge ps a d
    edge_there e = record {
      normal = n;
      some = some ps a n turned ia;
      flat = flat_q d id;
      inward = λ k f i. turned.inward k f i;
      line = λ k f i h. All-contains (λ p. is_none (normal_of a d p) ≡ true) qs (get_or ps k f)
          (All-from_recursion (λ p. is_none (normal_of a d p) ≡ true) qs
          (each_of (λ p. is_none (normal_of a d p)) qs e))
          (in_q (get_or ps k f) (All-contains_itself ps k f i) h);
      apart = ap (λ x. is_none (normal_of a x d)) (sym is) ∙ off;
    }

-- ---- about the line
module _ (ps : List Pt3) (a d : Pt3) (edge : IsEdge ps a d) where
  pub edge_turned : (e : Pt3) → Contains ps e → is_none (normal_of a d e) ≡ false
      → IsTurned a d ps (normal_of a d e) 0
  edge_turned e i off =
      turned_at_line edge.normal edge.some a d edge.flat ps edge.inward
      (λ k f j h. line_by a d (get_or ps k f) (edge.line k f j h)) e i
      (by_lt_z (pos 0) (depth_of edge.normal a e) (λ h. h)
      (λ h. absurd (told_apart (sym (All-contains
      (λ p. depth_of edge.normal a p ≡ pos 0 → is_none (normal_of a d p) ≡ true) ps e edge.line i
      (level (depth_of edge.normal a e) (All-contains (λ p. pos 0 ≤ℤ depth_of edge.normal a p) ps e edge.inward i)
      h)) ∙ off))))
    where
      level : (z : ℤ) → pos 0 ≤ℤ z → z ≤ℤ pos 0 → z ≡ pos 0
      level z h k = omega (arith, ints)

  pub edge_flat : list_all (λ p. is_none (normal_of a d p)) ps ≡ true → are_flat ps ≡ true
  edge_flat e = on_d_line ps edge.normal edge.some a d edge.flat edge.apart e

  pub edge_plane : (n : Normal) (e : Pt3) → IsTurned a d ps n (length ps) → Contains ps a → Contains ps d
      → is_none (normal_of a d e) ≡ false → IsFacePlane ps a n
  edge_plane n e t ia id off = plane_found ps a d n t ia id (two_points a d e off)

-- ---- a face in a plane
pub face_of : (ps : List Pt3) (a : Pt3) (n : Normal) (f : Face) → IsFacePlane ps a n → f.normal ≡ n
    → f.ring.items ≡ face_in ps a n → IsFaceOf ps f
face_of ps a n f plane e r = record {
  base = a;
  plane = subst (IsFacePlane ps a) (sym e) plane;
  ring = r ∙ ap (face_in ps a) (sym e);
}

pub none_flat : (ps : List Pt3) → length ps ≡ 0 → are_flat ps ≡ true
none_flat [] e = refl
none_flat (p ∷ ps) e = absurd (omega arith)
