-- Whether points lie in one plane, as the search for a first face tells it.
use Rattle.std.proofs.Common.{◌≡◌, inl, inr, suc, ◌<◌, Bool, true, false, ◌&&◌, ◌||◌, List, [], ◌∷◌, length, get_or, refl, sym, ap, ap₂, ◌∙◌, arith, subst, All}
use lib.IntN.{ℤ, pos, ◌+ℤ◌, ◌-ℤ◌, ◌*ℤ◌}
use lib.Signed.{◌<ℤ◌, ◌≤ℤ◌}
use Rattle.std.specs.Prelude.{int_lt}
use Rattle.std.specs.List.{AllByRecursion, Contains, list_all, list_any}
use Rattle.std.specs.List.Sorted.{IsStrictlySortedBy}
use Rattle.std.proofs.lemmas.Int.{ints, by_lt_z}
use Rattle.std.proofs.lemmas.Bool.{and_parts}
use Rattle.std.proofs.lemmas.List.Elements.{All-from_recursion, All-contains, All-contains_itself}
use Rattle.scad_geom.specs.Sign.{is_zero}
use Rattle.scad_geom.specs.declared.point3.Pt3.{Pt3}
use Rattle.scad_geom.proofs.Ring.{ring, num, var, ◌⊕◌, ◌⊖◌, ◌⊗◌}
use Rattle.scad_geom.proofs.Signs.{zero_true}
use Rattle.scad_hull.specs.declared.turning.Normal.{Normal}
use Rattle.scad_hull.specs.Space.{space_cmp, normal_of, depth_of, inner, beside, is_none, dot_of, square_of, IsOnLine, IsTurned}
use Rattle.scad_hull.specs.Faces.{in_plane, are_flat, IsFacePlane, IsSpread}
use Rattle.scad_hull.proofs.Complete.{all_flat}
use Rattle.scad_hull.proofs.FacePlanes.{all_changed, no_squares, third_in}
use Rattle.scad_hull.proofs.FirstPlanes.{line_by, none_by, some}
use Rattle.scad_hull.proofs.FoundPlanes.{way_square}
use Rattle.scad_hull.proofs.Lines.{nought_right, each_of}
use Rattle.scad_hull.proofs.NextPlanes.{IsNotLower}
use Rattle.scad_hull.proofs.NextSides.{part, along_x, along_y, along_z}
use Rattle.scad_hull.proofs.PlaneRings.{Contains-filter}
use Rattle.scad_hull.proofs.SameFaces.{parallel, as_from}
use Rattle.scad_hull.proofs.ViewAlong.{space_less, IsLower}
use Rattle.scad_hull.proofs.Whole.{recursion_of}

told_apart : true ≡ false → ⊥
told_apart e = cc

not_none : (z : ℤ) → pos 0 <ℤ z → z ≡ pos 0 → ⊥
not_none z h e = omega (arith, ints)

no_times : (k z : ℤ) → z ≡ pos 0 → k *ℤ z ≡ pos 0
no_times k z e = ap (λ (s : ℤ). k *ℤ s) e ∙ ring (k ∷ []) (var 0 ⊗ num (pos 0)) (num (pos 0)) refl

-- ---- tests of all points
pub told_all : {X : Type 0} (p : X → Bool) (xs : List X) → AllByRecursion (λ x. p x ≡ true) xs
    → list_all p xs ≡ true
told_all p [] h = refl
told_all p (x ∷ xs) h = ap₂ (λ a b. a && b) h.0 (told_all p xs h.1)

none_of : {X : Type 0} (p : X → Bool) (xs : List X) → list_any p xs ≡ false
    → AllByRecursion (λ x. p x ≡ false) xs
none_of p [] e = tt
none_of {X = X} p (x ∷ xs) e = by_test (none_of p xs) (p x) refl
  where
    by_test : (list_any p xs ≡ false → AllByRecursion (λ y. p y ≡ false) xs) → (b : Bool) → p x ≡ b
        → (p x ≡ false) × AllByRecursion (λ y. p y ≡ false) xs
    by_test later false f = (f, later (subst (λ b. (b || list_any p xs) ≡ false) f e))
    by_test later true f = absurd (told_apart (subst (λ b. (b || list_any p xs) ≡ false) f e))

pub some_of : {X : Type 0} (p : X → Bool) (xs : List X) → list_any p xs ≡ true
    → (x : X) × Contains xs x × (p x ≡ true)
some_of p [] e = absurd (told_apart (sym e))
some_of {X = X} p (x ∷ xs) e = by_test (some_of p xs) (p x) refl
  where
    by_test : (list_any p xs ≡ true → (y : X) × Contains xs y × (p y ≡ true)) → (b : Bool) → p x ≡ b
        → (y : X) × Contains (x ∷ xs) y × (p y ≡ true)
    by_test later true f = (x, (0, omega arith, refl), f)
    by_test later false f =
        let rest = later (subst (λ b. (b || list_any p xs) ≡ true) f e) in
        let there = rest.1 in
        (rest.0, (suc there.0, (let l = there.1 in omega arith), there.2), rest.2)

module _ (ps : List Pt3) where
  members : AllByRecursion (Contains ps) ps
  members = recursion_of (Contains ps) ps (All-contains_itself ps)

  pub told_at : (p : Pt3 → Bool) → list_all p ps ≡ true → (x : Pt3) → Contains ps x → p x ≡ true
  told_at p e x i = All-contains (λ y. p y ≡ true) ps x (All-from_recursion (λ y. p y ≡ true) ps (each_of p ps e))
      i

  pub flat_told : ((p q r s : Pt3) → Contains ps p → Contains ps q → Contains ps r → Contains ps s
      → inner p q r s ≡ pos 0) → are_flat ps ≡ true
  flat_told h =
      told_all (λ a. list_all (λ b. list_all (λ c. list_all (λ d. is_zero (inner a b c d)) ps) ps) ps) ps
      (all_changed (λ a ia. told_all (λ b. list_all (λ c. list_all (λ d. is_zero (inner a b c d)) ps) ps) ps
      (all_changed (λ b ib. told_all (λ c. list_all (λ d. is_zero (inner a b c d)) ps) ps
      (all_changed (λ c ic. told_all (λ d. is_zero (inner a b c d)) ps
      (all_changed (λ d id. ap is_zero (h a b c d ia ib ic id)) ps members)) ps members)) ps members)) ps members)

  pub spread_told : IsSpread ps → are_flat ps ≡ false
  spread_told spread = by_test (are_flat ps) refl
    where
      by_test : (b : Bool) → are_flat ps ≡ b → are_flat ps ≡ false
      by_test false e = e
      by_test true e =
          let a = spread.first in
          let b = spread.second in
          let c = spread.third in
          let first = told_at (λ x. list_all (λ y. list_all (λ z. list_all (λ d. is_zero (inner x y z d)) ps) ps) ps) e a spread.has_first in
          let second = told_at (λ y. list_all (λ z. list_all (λ d. is_zero (inner a y z d)) ps) ps) first b spread.has_second in
          let third = told_at (λ z. list_all (λ d. is_zero (inner a b z d)) ps) second c spread.has_third in
          absurd (spread.off (zero_true (inner a b c spread.fourth)
          (told_at (λ d. is_zero (inner a b c d)) third spread.fourth spread.has_fourth)))

  pub flat_in : (n : Normal) (a : Pt3) → pos 0 <ℤ square_of n
      → ((p : Pt3) → Contains ps p → depth_of n a p ≡ pos 0) → are_flat ps ≡ true
  flat_in n a some_n flat = flat_told (all_flat ps n a some_n flat)

  -- ---- the plane of a face, and whether a point lies inside
  module _ (a : Pt3) (n : Normal) (plane : IsFacePlane ps a n) where
    pub no_inner : list_any (λ p. int_lt (pos 0) (depth_of n a p)) ps ≡ false → are_flat ps ≡ true
    no_inner e = flat_in n a plane.some (λ p i. level (depth_of n a p)
        (All-contains (λ q. pos 0 ≤ℤ depth_of n a q) ps p plane.inward i)
        (All-contains (λ q. int_lt (pos 0) (depth_of n a q) ≡ false) ps p
        (All-from_recursion (λ q. int_lt (pos 0) (depth_of n a q) ≡ false) ps
        (none_of (λ q. int_lt (pos 0) (depth_of n a q)) ps e)) i))
      where
        level : (z : ℤ) → pos 0 ≤ℤ z → int_lt (pos 0) z ≡ false → z ≡ pos 0
        level z h k = omega (arith, ints)

    pub some_inner : list_any (λ p. int_lt (pos 0) (depth_of n a p)) ps ≡ true → IsSpread ps
    some_inner e =
        let found = some_of (λ p. int_lt (pos 0) (depth_of n a p)) ps e in
        record {
          first = plane.first;
          second = plane.second;
          third = plane.third;
          fourth = found.0;
          has_first = plane.has_first;
          has_second = plane.has_second;
          has_third = plane.has_third;
          has_fourth = found.1;
          off = λ f. not_none (depth_of n a found.0) (up (depth_of n a found.0) found.2)
              (as_from n a plane.first found.0 plane.flat_first
              ∙ nought_right (dot_of n (normal_of plane.first plane.second plane.third))
              (depth_of n plane.first found.0)
              (sym (parallel n plane.first plane.second plane.third
              (sym (as_from n a plane.first plane.second plane.flat_first) ∙ plane.flat_second)
              (sym (as_from n a plane.first plane.third plane.flat_first) ∙ plane.flat_third) found.0)
              ∙ no_times (square_of n) (inner plane.first plane.second plane.third found.0) f)
              (not_none (dot_of n (normal_of plane.first plane.second plane.third)) plane.round));
        }
      where
        up : (z : ℤ) → int_lt (pos 0) z ≡ true → pos 0 <ℤ z
        up z h = omega (arith, ints)

  -- ---- all points on one line
  abbrev upwards : Normal
  upwards = record { x = pos 0; y = pos 0; z = pos 1 }

  pub on_x_line : (a : Pt3) → list_all (λ p. is_none (normal_of a (beside a) p)) ps ≡ true → are_flat ps ≡ true
  on_x_line a e = flat_in upwards a one (λ p i. flat p
      (line_by a (beside a) p (told_at (λ q. is_none (normal_of a (beside a) q)) e p i)))
    where
      one : pos 0 <ℤ (pos 0 *ℤ pos 0 +ℤ (pos 0 *ℤ pos 0 +ℤ pos 1 *ℤ pos 1))
      one = omega (arith, ints)

      flat : (p : Pt3) → IsOnLine a (beside a) p → depth_of upwards a p ≡ pos 0
      flat p line =
          ring (a.x ∷ a.y ∷ a.z ∷ p.x ∷ p.y ∷ p.z ∷ [])
          (num (pos 0) ⊗ (var 3 ⊖ var 0)
          ⊕ (num (pos 0) ⊗ (var 4 ⊖ var 1) ⊕ num (pos 1) ⊗ (var 5 ⊖ var 2)))
          ((var 2 ⊖ var 2) ⊗ (var 3 ⊖ var 0) ⊖ ((var 0 ⊖ num (pos 1)) ⊖ var 0) ⊗ (var 5 ⊖ var 2)) refl
          ∙ line.y

  -- a plane through a and d has all points of their line
  module _ (n : Normal) (some_n : pos 0 <ℤ square_of n) (a d : Pt3) (flat_d : depth_of n a d ≡ pos 0)
      (off : is_none (normal_of a (beside a) d) ≡ false) where
    pub apart_d : pos 0 <ℤ way_square a d
    apart_d = by_lt_z (pos 0) (way_square a d) (λ h. h)
        (λ h. absurd (one (no_squares (d.x -ℤ a.x) (d.y -ℤ a.y) (d.z -ℤ a.z) h)))
      where
        flat : (u v r s : ℤ) → r ≡ pos 0 → s ≡ pos 0 → u *ℤ s -ℤ v *ℤ r ≡ pos 0
        flat u v r s hr hs = (λ i. u *ℤ hs i -ℤ v *ℤ hr i)
            ∙ ring (u ∷ v ∷ []) (var 0 ⊗ num (pos 0) ⊖ var 1 ⊗ num (pos 0)) (num (pos 0)) refl

        one : (d.x -ℤ a.x ≡ pos 0) × (d.y -ℤ a.y ≡ pos 0) × (d.z -ℤ a.z ≡ pos 0) → ⊥
        one h = told_apart (sym (none_by (normal_of a (beside a) d)
            (flat (a.y -ℤ a.y) (a.z -ℤ a.z) (d.y -ℤ a.y) (d.z -ℤ a.z) h.1 h.2)
            (flat (a.z -ℤ a.z) ((a.x -ℤ pos 1) -ℤ a.x) (d.z -ℤ a.z) (d.x -ℤ a.x) h.2 h.0)
            (flat ((a.x -ℤ pos 1) -ℤ a.x) (a.y -ℤ a.y) (d.x -ℤ a.x) (d.y -ℤ a.y) h.0 h.1)) ∙ off)

    pub on_d_line : list_all (λ p. is_none (normal_of a d p)) ps ≡ true → are_flat ps ≡ true
    on_d_line e = flat_in n a some_n (λ p i. flat p (line_by a d p (told_at (λ q. is_none (normal_of a d q)) e p i)))
      where
        flat : (p : Pt3) → IsOnLine a d p → depth_of n a p ≡ pos 0
        flat p line =
            let W = way_square a d in
            let t = part a d p in
            nought_right W (depth_of n a p)
            (ring (W ∷ n.x ∷ n.y ∷ n.z ∷ (p.x -ℤ a.x) ∷ (p.y -ℤ a.y) ∷ (p.z -ℤ a.z) ∷ [])
            (var 0 ⊗ (var 1 ⊗ var 4 ⊕ (var 2 ⊗ var 5 ⊕ var 3 ⊗ var 6)))
            (var 1 ⊗ (var 0 ⊗ var 4) ⊕ (var 2 ⊗ (var 0 ⊗ var 5) ⊕ var 3 ⊗ (var 0 ⊗ var 6))) refl
            ∙ (λ j. n.x *ℤ along_x a d p line j +ℤ
            (n.y *ℤ along_y a d p line j +ℤ n.z *ℤ along_z a d p line j))
            ∙ ring (t ∷ n.x ∷ n.y ∷ n.z ∷ (d.x -ℤ a.x) ∷ (d.y -ℤ a.y) ∷ (d.z -ℤ a.z) ∷ [])
            (var 1 ⊗ (var 0 ⊗ var 4) ⊕ (var 2 ⊗ (var 0 ⊗ var 5) ⊕ var 3 ⊗ (var 0 ⊗ var 6)))
            (var 0 ⊗ (var 1 ⊗ var 4 ⊕ (var 2 ⊗ var 5 ⊕ var 3 ⊗ var 6))) refl
            ∙ no_times t (depth_of n a d) flat_d) (not_none W apart_d)

  -- ---- the plane that turning about the x direction finds has a point off that line
  pub met_off : (a : Pt3) (n : Normal) (turned : IsTurned a (beside a) ps n (length ps)) → Contains ps a
      → list_all (λ p. is_none (normal_of a (beside a) p)) (in_plane ps a n) ≡ true → ⊥
  met_off a n turned ia e =
      not_none (square_of n) (some ps a n turned ia)
      (by_none (is_zero_all (All-contains (λ p. is_none (normal_of a (beside a) p) ≡ true) (in_plane ps a n)
      turned.met
      (All-from_recursion (λ p. is_none (normal_of a (beside a) p) ≡ true) (in_plane ps a n)
      (each_of (λ p. is_none (normal_of a (beside a) p)) (in_plane ps a n) e))
      (Contains-filter (λ q. is_zero (depth_of n a q)) ps turned.met turned.there
      (ap is_zero (ap (λ m. depth_of m a turned.met) turned.is ∙ third_in a (beside a) turned.met))))))
    where
      is_zero_all : is_none (normal_of a (beside a) turned.met) ≡ true → is_none n ≡ true
      is_zero_all f = ap is_none turned.is ∙ f

      by_none : is_none n ≡ true → square_of n ≡ pos 0
      by_none f =
          let first = and_parts (is_zero n.x) (is_zero n.y && is_zero n.z) f in
          let rest = and_parts (is_zero n.y) (is_zero n.z) first.1 in
          λ i. zero_true n.x first.0 i *ℤ zero_true n.x first.0 i
          +ℤ (zero_true n.y rest.0 i *ℤ zero_true n.y rest.0 i +ℤ zero_true n.z rest.1 i *ℤ zero_true n.z rest.1
          i)

  -- ---- the first point is the lowest
  not_lower : (a p : Pt3) → IsLower a p → IsNotLower a p
  not_lower a p (inl h) = inl h
  not_lower a p (inr (e, inl h)) = inr (e, inl h)
  not_lower a p (inr (e, inr h)) = inr (e, inr h.0)

pub lowest : (ps : List Pt3) → IsStrictlySortedBy space_cmp ps → (a : Pt3) → 0 < length ps → a ≡ get_or ps 0 a
    → All (IsNotLower a) ps
unfolding IsStrictlySortedBy
lowest [] sorted a l e = absurd (omega arith)
lowest (p ∷ ps) sorted a l e =
    subst (λ q. All (IsNotLower q) (p ∷ ps)) (sym e)
    (All-from_recursion (IsNotLower p) (p ∷ ps)
    (inr (refl, inr refl), all_changed (λ q h. not_lower ps p q (space_less p q h)) ps sorted.0))
