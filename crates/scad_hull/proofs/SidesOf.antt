-- The sides of a face that the code found.
use Rattle.std.proofs.Common.{◌≡◌, ℕ, zero, suc, ◌+◌, ◌<◌, ◌≤◌, List, [], ◌∷◌, ◌++◌, length, get_or, refl, sym, ap, ◌∙◌, arith, subst}
use lib.IntN.{ℤ, pos, ◌-ℤ◌}
use lib.Signed.{◌≤ℤ◌}
use Rattle.std.specs.List.{AllByRecursion, Contains}
use Rattle.std.specs.List.Sorted.{IsStrictlySortedBy}
use Rattle.std.proofs.lemmas.Int.{ints}
use Rattle.std.proofs.lemmas.List.Elements.{All-from_recursion, All-contains, All-contains_itself, All-filter}
use Rattle.scad_geom.specs.Sign.{is_zero}
use Rattle.scad_geom.specs.declared.point3.Pt3.{Pt3}
use Rattle.scad_hull.specs.declared.faces.Face.{Face}
use Rattle.scad_hull.specs.declared.turning.Normal.{Normal}
use Rattle.scad_hull.specs.Ring.{round, IsRightOfNone, AllTurnLeft, IsConvexRing}
use Rattle.scad_hull.specs.Space.{space_cmp, depth_of, face_left}
use Rattle.scad_hull.specs.Faces.{in_plane, IsFacePlane, IsSideOf, IsFaceOf}
use Rattle.scad_hull.proofs.FacePlanes.{ring_there}
use Rattle.scad_hull.proofs.PlaneRings.{InPlaneOrder, Contains-filter, all_flat, flat_between, from_other}
use Rattle.scad_hull.proofs.Rings.{all_joined}
use Rattle.scad_hull.proofs.SharedSides.{AreInTurn, turn_at, first_at, second_at, all_behind, precede}
use Rattle.scad_hull.proofs.Whole.{recursion_of}

-- ---- three by their place
pub in_turn : {X : Type 0} (left : X → X → X → ℤ) (way : List X) (j : ℕ) (a b c : X)
    → suc (suc j) < length way → a ≡ get_or way j a
    → b ≡ get_or way (suc j) b → c ≡ get_or way (suc (suc j)) c → AreInTurn left way a b c
in_turn left [] j a b c h ea eb ec = absurd (omega arith)
in_turn left (x ∷ []) j a b c h ea eb ec = absurd (omega arith)
in_turn left (x ∷ (y ∷ [])) j a b c h ea eb ec = absurd (omega arith)
in_turn left (x ∷ (y ∷ (z ∷ way))) zero a b c h ea eb ec
    = ([], way, λ i. sym ea i ∷ (sym eb i ∷ (sym ec i ∷ way)))
in_turn left (x ∷ (y ∷ (z ∷ way))) (suc j) a b c h ea eb ec =
    let rest = in_turn left (y ∷ (z ∷ way)) j a b c (omega arith) ea eb ec in
    (x ∷ rest.0, rest.1, ap (λ ys. x ∷ ys) rest.2)

two_more : {X : Type 0} (a b : X) (xs : List X) → length (xs ++ (a ∷ (b ∷ []))) ≡ length xs + 2
two_more a b [] = refl
two_more a b (x ∷ xs) = let e = two_more a b xs in omega arith

pub round_long : {X : Type 0} (xs : List X) → 2 ≤ length xs → length (round xs) ≡ length xs + 2
round_long [] h = absurd (omega arith)
round_long (p ∷ []) h = absurd (omega arith)
round_long (p ∷ (q ∷ ps)) h = two_more p q (p ∷ (q ∷ ps))

-- the way from a to b and on to c is one of the face in the plane through base with this normal
pub record IsSideIn (ps : List Pt3) (base : Pt3) (n : Normal) (a b c : Pt3) : Type 0 where
  pub side : IsSideOf ps a b c
  pub same : side.normal ≡ n
  pub flat_a : depth_of n base a ≡ pos 0
  pub flat_b : depth_of n base b ≡ pos 0
  pub flat_c : depth_of n base c ≡ pos 0

module _ (ps : List Pt3) (sorted : IsStrictlySortedBy space_cmp ps) (base : Pt3) (n : Normal) (plane : IsFacePlane ps base n) where
  abbrev Q : List Pt3
  Q = in_plane ps base n

  abbrev Before : Pt3 → Pt3 → Type 0
  Before = InPlaneOrder ps sorted base n plane.some

  pub flat_at : (q : Pt3) → Contains Q q → depth_of n base q ≡ pos 0
  flat_at q i = All-contains (λ p. depth_of n base p ≡ pos 0) Q q
      (All-from_recursion (λ p. depth_of n base p ≡ pos 0) Q (all_flat ps sorted base n plane.some)) i

  pub member : (q : Pt3) → Contains Q q → Contains ps q
  member q i = All-contains (Contains ps) Q q
      (All-filter (λ p. is_zero (depth_of n base p)) (Contains ps) ps (All-contains_itself ps)) i

  -- the depth as from a corner
  as_from : (a p : Pt3) → depth_of n base a ≡ pos 0 → depth_of n base p ≡ depth_of n a p
  as_from a p e = same (depth_of n base a) (depth_of n base p) (depth_of n a p) e (from_other n base a p)
    where
      same : (u v w : ℤ) → u ≡ pos 0 → w ≡ v -ℤ u → v ≡ w
      same u v w e f = omega (arith, ints)

  module _ (a b c w : Pt3) (R : List Pt3) (convex : IsConvexRing (face_left n) Before Q R)
      (t : AreInTurn (face_left n) (round R) a b c) (u : AreInTurn (face_left n) (round R) w a b)
      (all_in : AllByRecursion (Contains Q) (round R)) where
    held : (p : Pt3) → Contains Q p → IsRightOfNone (face_left n) p (round R)
    held p i = All-contains (λ q. IsRightOfNone (face_left n) q (round R)) Q p convex.holds i

    in_a : Contains Q a
    in_a = (all_behind (Contains Q) t.0 (a ∷ (b ∷ (c ∷ t.1))) (subst (AllByRecursion (Contains Q)) t.2 all_in)).0

    in_b : Contains Q b
    in_b = (all_behind (Contains Q) t.0 (a ∷ (b ∷ (c ∷ t.1)))
        (subst (AllByRecursion (Contains Q)) t.2 all_in)).1.0

    in_c : Contains Q c
    in_c = (all_behind (Contains Q) t.0 (a ∷ (b ∷ (c ∷ t.1)))
        (subst (AllByRecursion (Contains Q)) t.2 all_in)).1.1.0

    in_it : (p : Pt3) → Contains ps p → depth_of n a p ≡ pos 0 → Contains Q p
    in_it p i e = Contains-filter (λ q. is_zero (depth_of n base q)) ps p i
        (ap is_zero (as_from a p (flat_at a in_a) ∙ e))

    there : (k : ℕ) (d : Pt3) → k < length ps → Contains ps (get_or ps k d)
    there k d i = All-contains_itself ps k d i

    side_there : IsSideIn ps base n a b c
    side_there = record {
      same = refl;
      flat_a = flat_at a in_a;
      flat_b = flat_at b in_b;
      flat_c = flat_at c in_c;
      side = record {
        normal = n;
        some = plane.some;
        inward = λ k d i. subst (λ (z : ℤ). pos 0 ≤ℤ z) (as_from a (get_or ps k d) (flat_at a in_a))
            (plane.inward k d i);
        left = λ k d i e. first_at (face_left n) (get_or ps k d) t.0 a b c t.1
            (subst (IsRightOfNone (face_left n) (get_or ps k d)) t.2
            (held (get_or ps k d) (in_it (get_or ps k d) (there k d i) e)));
        flat = flat_between ps sorted base n plane.some a b (flat_at a in_a) (flat_at b in_b);
        flat_c = flat_between ps sorted base n plane.some a c (flat_at a in_a) (flat_at c in_c);
        turns = turn_at (face_left n) t.0 a b c t.1 (subst (AllTurnLeft (face_left n)) t.2 convex.turns);
        left_behind = λ k d i e. second_at (face_left n) (get_or ps k d) t.0 a b c t.1
            (subst (IsRightOfNone (face_left n) (get_or ps k d)) t.2
            (held (get_or ps k d) (in_it (get_or ps k d) (there k d i) e)));
        before = w;
        left_before = λ k d i e. first_at (face_left n) (get_or ps k d) u.0 w a b u.1
            (subst (IsRightOfNone (face_left n) (get_or ps k d)) u.2
            (held (get_or ps k d) (in_it (get_or ps k d) (there k d i) e)));
        turns_before = turn_at (face_left n) u.0 w a b u.1 (subst (AllTurnLeft (face_left n)) u.2 convex.turns);
        has_a = member a in_a;
        has_b = member b in_b;
        has_c = member c in_c;
      };
    }

  pub of_ring : (R : List Pt3) → IsConvexRing (face_left n) Before Q R → (a b c : Pt3)
      → AreInTurn (face_left n) (round R) a b c → IsSideIn ps base n a b c
  of_ring [] convex a b c t = absurd convex.starts
  of_ring (r0 ∷ []) convex a b c t = let l = convex.three in absurd (omega arith)
  of_ring (r0 ∷ (r1 ∷ [])) convex a b c t = let l = convex.three in absurd (omega arith)
  of_ring (r0 ∷ (r1 ∷ (r2 ∷ rs))) convex a b c t =
      let h = recursion_of (Contains Q) (r0 ∷ (r1 ∷ (r2 ∷ rs))) convex.corners in
      let before = precede (face_left n) r0 r1 r2 rs a b c t in
      side_there a b c before.0 (r0 ∷ (r1 ∷ (r2 ∷ rs))) convex t before.1
      (h.0, (h.1.0, all_joined (Contains Q) (r2 ∷ rs) (r0 ∷ (r1 ∷ [])) h.1.1 (h.0, (h.1.0, tt))))

-- ---- by the place of the side
module _ (ps : List Pt3) (sorted : IsStrictlySortedBy space_cmp ps) (f : Face) (face : IsFaceOf ps f) where
  convex : IsConvexRing (face_left f.normal) (InPlaneOrder ps sorted face.base f.normal face.plane.some)
      (in_plane ps face.base f.normal) f.ring.items
  convex = subst (IsConvexRing (face_left f.normal) (InPlaneOrder ps sorted face.base f.normal face.plane.some)
      (in_plane ps face.base f.normal))
      (sym face.ring) (ring_there ps sorted face.base f.normal face.plane)

  pub three_long : 3 ≤ length f.ring.items
  three_long = convex.three

  pub side_by_place : (j : ℕ) (a b c : Pt3) → j < length f.ring.items → a ≡ get_or (round f.ring.items) j a
      → b ≡ get_or (round f.ring.items) (j + 1) b → c ≡ get_or (round f.ring.items) (j + 2) c
      → IsSideOf ps a b c
  side_by_place j a b c h ea eb ec =
      let three = convex.three in
      let long = round_long f.ring.items (omega arith) in
      (of_ring ps sorted face.base f.normal face.plane f.ring.items convex a b c
      (in_turn (face_left f.normal) (round f.ring.items) j a b c (omega arith) ea
      (eb ∙ ap (λ k. get_or (round f.ring.items) k b) one_more)
      (ec ∙ ap (λ k. get_or (round f.ring.items) k c) two_further))).side
    where
      one_more : j + 1 ≡ suc j
      one_more = omega arith

      two_further : j + 2 ≡ suc (suc j)
      two_further = omega arith

  -- as the code tells it
  pub two_at_least : (ring : List Pt3) → ring ≡ f.ring.items → 2 ≤ length ring
  two_at_least ring is = subst (λ xs. 2 ≤ length xs) (sym is) (fewer (length f.ring.items) three_long)
    where
      fewer : (n : ℕ) → 3 ≤ n → 2 ≤ n
      fewer n h = omega arith

  pub side_by_slice : (ring : List Pt3) → ring ≡ f.ring.items → (j : ℕ) (a b c : Pt3)
      → j < length f.ring.items
      → a ≡ get_or (round ring) j a → b ≡ get_or (round ring) (j + 1) b → c ≡ get_or (round ring) (j + 2) c
      → IsSideOf ps a b c
  side_by_slice ring is j a b c h ea eb ec =
      side_by_place j a b c h (ea ∙ ap (λ xs. get_or (round xs) j a) is)
      (eb ∙ ap (λ xs. get_or (round xs) (j + 1) b) is)
      (ec ∙ ap (λ xs. get_or (round xs) (j + 2) c) is)
