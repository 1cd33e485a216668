-- The face in a plane is the convex ring round the points in it.
use Rattle.std.proofs.Common.{◌≡◌, ◌⊎◌, inl, inr, Bool, true, false, cond, List, [], ◌∷◌, refl, sym, ap, ◌∙◌, arith, subst}
use lib.IntN.{ℤ, pos, ◌-ℤ◌, ◌*ℤ◌}
use lib.Signed.{◌<ℤ◌}
use Rattle.std.specs.List.{AllByRecursion, Contains, filter}
use Rattle.std.specs.List.Sorted.{IsStrictlySortedBy}
use Rattle.std.specs.declared.cmp.Ordering.TheVariants.{Less}
use Rattle.std.proofs.lemmas.Int.{ints}
use Rattle.std.proofs.lemmas.List.Elements.{All-from_recursion, All-contains, All-contains_itself, filter_passes}
use Rattle.std.proofs.lemmas.List.Kept.{IsStrictlySortedBy-filter}
use Rattle.scad_geom.specs.Sign.{is_zero}
use Rattle.scad_geom.specs.declared.point3.Pt3.{Pt3}
use Rattle.scad_geom.proofs.Ring.{ring, num, var, ◌⊕◌, ◌⊖◌, ◌⊗◌}
use Rattle.scad_geom.proofs.Signs.{zero_true}
use Rattle.scad_hull.specs.declared.turning.Normal.{Normal}
use Rattle.scad_hull.specs.Plane.{left, IsBefore}
use Rattle.scad_hull.specs.Chain.{ring_round}
use Rattle.scad_hull.specs.Ring.{IsConvexRing}
use Rattle.scad_hull.specs.Space.{space_cmp, normal_of, depth_of, face_left, dot_of, square_of}
use Rattle.scad_hull.specs.Faces.{in_plane, face_in}
use Rattle.scad_hull.proofs.Chains.{Ascends}
use Rattle.scad_hull.proofs.Lines.{nought_right, on_one_line}
use Rattle.scad_hull.proofs.Planar.{IsAfter, Same}
use Rattle.scad_hull.proofs.ViewAlong.{seen}
use Rattle.scad_hull.proofs.Whole.{ring_made, recursion_of}

told_apart : true ≡ false → ⊥
told_apart e = cc

-- what is told of the elements that pass a test
pub told_of : {X : Type 0} (P : X → Type 0) (p : X → Bool) (xs : List X) → AllByRecursion P (filter p xs)
    → AllByRecursion (λ x. p x ≡ true → P x) xs
told_of P p [] h = tt
told_of P p (x ∷ xs) h = by_test (told_of P p xs) (p x) refl h
  where
    by_test : (AllByRecursion P (filter p xs) → AllByRecursion (λ y. p y ≡ true → P y) xs) → (b : Bool)
        → p x ≡ b → AllByRecursion P (cond b (x ∷ filter p xs) (filter p xs))
        → (p x ≡ true → P x) × AllByRecursion (λ y. p y ≡ true → P y) xs
    by_test rest true e h = (λ t. h.0, rest h.1)
    by_test rest false e h = (λ t. absurd (told_apart (sym t ∙ e)), rest h)

pub Contains-filter : {X : Type 0} (p : X → Bool) (xs : List X) (x : X) → Contains xs x → p x ≡ true
    → Contains (filter p xs) x
Contains-filter p xs x there passes =
    All-contains (λ y. p y ≡ true → Contains (filter p xs) y) xs x
    (All-from_recursion _ xs (told_of (Contains (filter p xs)) p xs
    (recursion_of (Contains (filter p xs)) (filter p xs) (All-contains_itself (filter p xs))))) there passes

different : (a b c : ℤ) → a ≡ pos 0 → b ≡ pos 0 → c ≡ b -ℤ a → c ≡ pos 0
different a b c ha hb e = omega (arith, ints)

above : (z : ℤ) → pos 0 <ℤ z → z ≡ pos 0 → ⊥
above z h e = omega (arith, ints)

-- the depth as from another point
pub from_other : (n : Normal) (a p q : Pt3) → depth_of n p q ≡ depth_of n a q -ℤ depth_of n a p
from_other n a p q =
    ring (n.x ∷ n.y ∷ n.z ∷ a.x ∷ a.y ∷ a.z ∷ p.x ∷ p.y ∷ p.z ∷ q.x ∷ q.y ∷ q.z ∷ [])
    (var 0 ⊗ (var 9 ⊖ var 6) ⊕ (var 1 ⊗ (var 10 ⊖ var 7) ⊕ var 2 ⊗ (var 11 ⊖ var 8)))
    ((var 0 ⊗ (var 9 ⊖ var 3) ⊕ (var 1 ⊗ (var 10 ⊖ var 4) ⊕ var 2 ⊗ (var 11 ⊖ var 5)))
    ⊖ (var 0 ⊗ (var 6 ⊖ var 3) ⊕ (var 1 ⊗ (var 7 ⊖ var 4) ⊕ var 2 ⊗ (var 8 ⊖ var 5)))) refl

no_normal : (n : Normal) (m : Pt3) → dot_of n (normal_of m m m) ≡ pos 0
no_normal n m =
    ring (n.x ∷ n.y ∷ n.z ∷ m.x ∷ m.y ∷ m.z ∷ [])
    (var 0 ⊗ ((var 4 ⊖ var 4) ⊗ (var 5 ⊖ var 5) ⊖ (var 5 ⊖ var 5) ⊗ (var 4 ⊖ var 4))
    ⊕ (var 1 ⊗ ((var 5 ⊖ var 5) ⊗ (var 3 ⊖ var 3) ⊖ (var 3 ⊖ var 3) ⊗ (var 5 ⊖ var 5))
    ⊕ var 2 ⊗ ((var 3 ⊖ var 3) ⊗ (var 4 ⊖ var 4) ⊖ (var 4 ⊖ var 4) ⊗ (var 3 ⊖ var 3)))) (num (pos 0))
    refl

pub exchanged : (f g : Pt3 → ℤ) (p q r : Pt3) → left f g p q r ≡ pos 0 -ℤ left g f p q r
exchanged f g p q r =
    ring (f p ∷ g p ∷ f q ∷ g q ∷ f r ∷ g r ∷ [])
    ((var 2 ⊖ var 0) ⊗ (var 5 ⊖ var 1) ⊖ (var 3 ⊖ var 1) ⊗ (var 4 ⊖ var 0))
    (num (pos 0) ⊖ ((var 3 ⊖ var 1) ⊗ (var 4 ⊖ var 0) ⊖ (var 2 ⊖ var 0) ⊗ (var 5 ⊖ var 1))) refl

pub other_zero : (s t : ℤ) → t ≡ pos 0 -ℤ s → s ≡ pos 0 → t ≡ pos 0
other_zero s t e h = omega (arith, ints)

module _ (ps : List Pt3) (sorted : IsStrictlySortedBy space_cmp ps) (a : Pt3) (n : Normal) (some : pos 0 <ℤ square_of n) where
  abbrev f : Pt3 → ℤ
  f = (seen n some).f

  abbrev g : Pt3 → ℤ
  g = (seen n some).g

  abbrev pub InPlaneOrder : Pt3 → Pt3 → Type 0
  InPlaneOrder = IsBefore f g

  abbrev Q : List Pt3
  Q = in_plane ps a n

  abbrev IsIn : Pt3 → Type 0
  IsIn p = depth_of n a p ≡ pos 0

  flat_by : (qs : List Pt3) → AllByRecursion (λ q. is_zero (depth_of n a q) ≡ true) qs → AllByRecursion IsIn qs
  flat_by [] h = tt
  flat_by (q ∷ qs) h = (zero_true (depth_of n a q) h.0, flat_by qs h.1)

  pub all_flat : AllByRecursion IsIn Q
  all_flat = flat_by Q (recursion_of (λ q. is_zero (depth_of n a q) ≡ true) Q
      (filter_passes (λ p. is_zero (depth_of n a p)) ps))

  pub flat_between : (p q : Pt3) → IsIn p → IsIn q → depth_of n p q ≡ pos 0
  flat_between p q hp hq = different (depth_of n a p) (depth_of n a q) (depth_of n p q) hp hq (from_other n a p q)

  all_after : (p : Pt3) (qs : List Pt3) → IsIn p → AllByRecursion IsIn qs
      → AllByRecursion (λ q. space_cmp p q ≡ Less) qs → AllByRecursion (InPlaneOrder p) qs
  all_after p [] hp h k = tt
  all_after p (q ∷ qs) hp h k = ((seen n some).ordered p q (flat_between p q hp h.0) k.0, all_after p qs hp h.1 k.1)

  ascends : (qs : List Pt3) → AllByRecursion IsIn qs → IsStrictlySortedBy space_cmp qs
      → Ascends (face_left n) InPlaneOrder (Same f g) (seen n some).there qs
  unfolding IsStrictlySortedBy
  ascends [] h k = tt
  ascends (q ∷ qs) h k = (all_after q qs h.0 h.1 k.0, ascends qs h.1 k.1)

  in_order : IsStrictlySortedBy space_cmp Q
  in_order = IsStrictlySortedBy-filter space_cmp (λ p. is_zero (depth_of n a p)) ps sorted

  -- no turn, by either of the two coordinates
  by_coordinates : (p q r : Pt3) → (face_left n ≡ left f g) ⊎ (face_left n ≡ left g f)
      → face_left n p q r ≡ pos 0 → left f g p q r ≡ pos 0
  by_coordinates p q r (inl e) h = ap (λ t. t p q r) (sym e) ∙ h
  by_coordinates p q r (inr e) h = other_zero (left g f p q r) (left f g p q r) (exchanged f g p q r)
      (ap (λ t. t p q r) (sym e) ∙ h)

  to_turn : (p q r : Pt3) → (face_left n ≡ left f g) ⊎ (face_left n ≡ left g f) → left f g p q r ≡ pos 0
      → face_left n p q r ≡ pos 0
  to_turn p q r (inl e) h = ap (λ t. t p q r) e ∙ h
  to_turn p q r (inr e) h = ap (λ t. t p q r) e
      ∙ other_zero (left f g p q r) (left g f p q r) (exchanged g f p q r) h

  -- three points of the plane that aren't on one line, in the sense of the normal
  module _ (t0 t1 t2 : Pt3) (i0 : Contains Q t0) (i1 : Contains Q t1) (i2 : Contains Q t2)
      (turns : pos 0 <ℤ dot_of n (normal_of t0 t1 t2)) where
    of_all : (P : Pt3 → Type 0) (t : Pt3) → Contains Q t → AllByRecursion P Q → P t
    of_all P t i h = All-contains P Q t (All-from_recursion P Q h) i

    no_line : (u w : Pt3) → InPlaneOrder u w → AllByRecursion (λ q. face_left n u w q ≡ pos 0) Q → ⊥
    no_line u w before h =
        let v = seen n some in
        let on = λ (t : Pt3) (i : Contains Q t). by_coordinates u w t v.straight (of_all (λ q. face_left n u w q ≡ pos 0) t i h) in
        let flat : face_left n t0 t1 t2 ≡ pos 0 = to_turn t0 t1 t2 v.straight
        (on_one_line f g u w before t0 t1 t2 (on t0 i0) (on t1 i1) (on t2 i2)) in
        let h0 = of_all IsIn t0 i0 all_flat in
        above (dot_of n (normal_of t0 t1 t2)) turns
        (nought_right v.scale (dot_of n (normal_of t0 t1 t2))
        (v.scaled t0 t1 t2 (flat_between t0 t1 h0 (of_all IsIn t1 i1 all_flat))
        (flat_between t0 t2 h0 (of_all IsIn t2 i2 all_flat))
        ∙ ap (λ (z : ℤ). square_of n *ℤ z) flat
        ∙ ring (square_of n ∷ []) (var 0 ⊗ num (pos 0)) (num (pos 0)) refl)
        (above v.scale v.positive))

    nowhere : {A : Type 0} (t : Pt3) → Contains [] t → A
    nowhere t i = let h = i.1 in absurd (omega arith)

    alone : (m t : Pt3) → Contains (m ∷ []) t → t ≡ m
    alone m t i = All-contains (λ q. q ≡ m) (m ∷ []) t (All-from_recursion (λ q. q ≡ m) (m ∷ []) (refl, tt)) i

    made_of : (qs : List Pt3) → qs ≡ Q → AllByRecursion IsIn qs → IsStrictlySortedBy space_cmp qs
        → IsConvexRing (face_left n) InPlaneOrder qs (ring_round (face_left n) qs)
    made_of [] e h k = nowhere t0 (subst (λ xs. Contains xs t0) (sym e) i0)
    made_of (m ∷ []) e h k =
        absurd (above (dot_of n (normal_of t0 t1 t2)) turns
        ((λ j. dot_of n (normal_of (same t0 i0 j) (same t1 i1 j) (same t2 i2 j))) ∙ no_normal n m))
      where
        same : (t : Pt3) → Contains Q t → t ≡ m
        same t i = alone m t (subst (λ xs. Contains xs t) (sym e) i)
    made_of (m ∷ (p ∷ qs)) e h k =
        ring_made (face_left n) InPlaneOrder (IsAfter f g) (Same f g) (seen n some).there (seen n some).back
        (λ u w b. b) (λ u w b. b) m p qs (ascends (m ∷ (p ∷ qs)) h k)
        (λ u w b line. no_line u w b (subst (AllByRecursion (λ q. face_left n u w q ≡ pos 0)) e line))

    pub face_made : IsConvexRing (face_left n) InPlaneOrder Q (face_in ps a n)
    face_made = made_of Q refl all_flat in_order
