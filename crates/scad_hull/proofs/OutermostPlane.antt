-- One more point for the outermost plane.
use Rattle.std.proofs.Common.{◌≡◌, ◌⊎◌, inl, inr, ℕ, zero, suc, ◌+◌, ◌<◌, ◌≤◌, Bool, true, false, List, [], ◌∷◌, length, get_or, refl, sym, ap, ◌∙◌, arith, subst}
use lib.IntN.{ℤ, pos, ◌+ℤ◌, ◌-ℤ◌, ◌*ℤ◌}
use lib.Signed.{◌<ℤ◌, ◌≤ℤ◌}
use Rattle.std.specs.Prelude.{int_lt, if◌then◌else◌}
use Rattle.std.proofs.lemmas.Int.{ints}
use Rattle.scad_geom.specs.declared.point3.Pt3.{Pt3}
use Rattle.scad_geom.proofs.Ring.{ring, num, var, ◌⊕◌, ◌⊖◌, ◌⊗◌}
use Rattle.scad_hull.specs.declared.turning.Normal.{Normal}
use Rattle.scad_hull.specs.Space.{normal_of, depth_of, IsOnLine, IsInFront, IsTurned}
use Rattle.scad_hull.proofs.Surrounds.{turn3, still_outermost}

module _ (a b : Pt3) where
  abbrev ux : ℤ
  ux = b.x -ℤ a.x

  abbrev uy : ℤ
  uy = b.y -ℤ a.y

  abbrev uz : ℤ
  uz = b.z -ℤ a.z

  abbrev volume_on : Pt3 → Pt3 → ℤ
  volume_on c r = depth_of (normal_of a b c) a r

  as_turn : (cx cy cz rx ry rz n0 n1 n2 : ℤ) (e : n0 *ℤ ux +ℤ (n1 *ℤ uy +ℤ n2 *ℤ uz) ≡ pos 0)
      → (uy *ℤ cz -ℤ uz *ℤ cy) *ℤ rx +ℤ
      ((uz *ℤ cx -ℤ ux *ℤ cz) *ℤ ry +ℤ (ux *ℤ cy -ℤ uy *ℤ cx) *ℤ rz)
      ≡ turn3 n0 n1 n2 ux uy uz e cx cy cz rx ry rz
  as_turn cx cy cz rx ry rz n0 n1 n2 e =
      ring (ux ∷ uy ∷ uz ∷ cx ∷ cy ∷ cz ∷ rx ∷ ry ∷ rz ∷ [])
      ((var 1 ⊗ var 5 ⊖ var 2 ⊗ var 4) ⊗ var 6
      ⊕ ((var 2 ⊗ var 3 ⊖ var 0 ⊗ var 5) ⊗ var 7 ⊕ (var 0 ⊗ var 4 ⊖ var 1 ⊗ var 3) ⊗ var 8))
      (var 2 ⊗ (var 3 ⊗ var 7 ⊖ var 4 ⊗ var 6)
      ⊕ (var 5 ⊗ (var 6 ⊗ var 1 ⊖ var 7 ⊗ var 0) ⊕ var 8 ⊗ (var 0 ⊗ var 4 ⊖ var 1 ⊗ var 3)))
      refl

  exchanged : (c r : Pt3) → volume_on r c ≡ pos 0 -ℤ volume_on c r
  exchanged c r =
      ring (ux ∷ uy ∷ uz ∷ c.x ∷ c.y ∷ c.z ∷ r.x ∷ r.y ∷ r.z ∷ a.x ∷ a.y ∷ a.z ∷ [])
      ((var 1 ⊗ (var 8 ⊖ var 11) ⊖ var 2 ⊗ (var 7 ⊖ var 10)) ⊗ (var 3 ⊖ var 9)
      ⊕ ((var 2 ⊗ (var 6 ⊖ var 9) ⊖ var 0 ⊗ (var 8 ⊖ var 11)) ⊗ (var 4 ⊖ var 10)
      ⊕ (var 0 ⊗ (var 7 ⊖ var 10) ⊖ var 1 ⊗ (var 6 ⊖ var 9)) ⊗ (var 5 ⊖ var 11)))
      (num (pos 0) ⊖ ((var 1 ⊗ (var 5 ⊖ var 11) ⊖ var 2 ⊗ (var 4 ⊖ var 10)) ⊗ (var 6 ⊖ var 9)
      ⊕ ((var 2 ⊗ (var 3 ⊖ var 9) ⊖ var 0 ⊗ (var 5 ⊖ var 11)) ⊗ (var 7 ⊖ var 10)
      ⊕ (var 0 ⊗ (var 4 ⊖ var 10) ⊖ var 1 ⊗ (var 3 ⊖ var 9)) ⊗ (var 8 ⊖ var 11)))) refl

  on_line : (c r : Pt3) → IsOnLine a b r → volume_on c r ≡ pos 0
  on_line c r h = turn_round (volume_on c r) (volume_on r c) (exchanged c r) (flat (normal_of a b r) h.x h.y h.z)
    where
      turn_round : (s t : ℤ) → t ≡ pos 0 -ℤ s → t ≡ pos 0 → s ≡ pos 0
      turn_round s t e f = omega (arith, ints)

      flat : (n : Normal) → n.x ≡ pos 0 → n.y ≡ pos 0 → n.z ≡ pos 0 → depth_of n a c ≡ pos 0
      flat n hx hy hz =
          (λ i. hx i *ℤ (c.x -ℤ a.x) +ℤ (hy i *ℤ (c.y -ℤ a.y) +ℤ hz i *ℤ (c.z -ℤ a.z)))
          ∙ ring (c.x ∷ c.y ∷ c.z ∷ a.x ∷ a.y ∷ a.z ∷ [])
          (num (pos 0) ⊗ (var 0 ⊖ var 3)
          ⊕ (num (pos 0) ⊗ (var 1 ⊖ var 4) ⊕ num (pos 0) ⊗ (var 2 ⊖ var 5))) (num (pos 0)) refl

  nought : (z : ℤ) → z ≡ pos 0 → pos 0 ≤ℤ z
  nought z e = omega (arith, ints)

  itself : (c : Pt3) → pos 0 ≤ℤ volume_on c c
  itself c = twice (volume_on c c) (exchanged c c)
    where
      twice : (z : ℤ) → z ≡ pos 0 -ℤ z → pos 0 ≤ℤ z
      twice z e = omega (arith, ints)

  below : (z : ℤ) → int_lt z (pos 0) ≡ true → z <ℤ pos 0
  below z e = omega (arith, ints)

  not_below : (z : ℤ) → int_lt z (pos 0) ≡ false → pos 0 ≤ℤ z
  not_below z e = omega (arith, ints)

  opposite : (s t : ℤ) → s ≡ pos 0 -ℤ t → t <ℤ pos 0 → pos 0 ≤ℤ s
  opposite s t e h = omega (arith, ints)

  clash : (z : ℤ) → z ≡ pos 0 → z <ℤ pos 0 → ⊥
  clash z e h = omega (arith, ints)

  split : (k i : ℕ) → k < i + 1 → (k < i) ⊎ (k ≡ i)
  split zero zero h = inr refl
  split zero (suc i) h = inl (omega arith)
  split (suc k) zero h = absurd (omega arith)
  split (suc k) (suc i) h = elim (split k i (omega arith)) [
    | inl l ↦ inl (omega arith)
    | inr e ↦ inr (ap suc e)
  ]

  last_or_before : {P : Type 0} (k i : ℕ) → k < i + 1 → (k < i → P) → (k ≡ i → P) → P
  last_or_before k i h f g = elim (split k i h) [
    | inl l ↦ f l
    | inr e ↦ g e
  ]

  module _ (ps : List Pt3) (i : ℕ) (inside : i < length ps) (p : Pt3) (is : (d : Pt3) → get_or ps i d ≡ p) where
    pub kept_normal : (n : Normal) → IsTurned a b ps n i → int_lt (depth_of n a p) (pos 0) ≡ false
        → IsTurned a b ps n (i + 1)
    kept_normal n t e = record {
      known = t.known;
      facing = t.facing;
      met = t.met;
      is = t.is;
      there = t.there;
      front = t.front;
      inward = λ k d h. last_or_before k i h (λ l. t.inward k d l)
          (λ same. subst (λ r. pos 0 ≤ℤ depth_of n a r) (sym (ap (λ j. get_or ps j d) same ∙ is d))
          (not_below (depth_of n a p) e));
    }

    -- a point outside of the plane so far lies beyond it, in front of the known plane
    beyond_it : (n : Normal) (j : ℕ) (t : IsTurned a b ps n j) → int_lt (depth_of n a p) (pos 0) ≡ true
        → volume_on t.met p <ℤ pos 0
    beyond_it n j t e = subst (λ m. depth_of m a p <ℤ pos 0) t.is (below (depth_of n a p) e)

    in_front : (n : Normal) (j : ℕ) (t : IsTurned a b ps n j) → int_lt (depth_of n a p) (pos 0) ≡ true
        → IsInFront t.known a b p
    in_front n j t e = elim (subst (λ r. IsOnLine a b r ⊎ IsInFront t.known a b r) (is p)
        (t.facing.front i p inside)) [
          | inl line ↦ absurd (clash (volume_on t.met p) (on_line t.met p line) (beyond_it n j t e))
          | inr front ↦ front
        ]

    -- the plane through it, before the points are looked at one after another
    glance : (n : Normal) → IsTurned a b ps n 0 → int_lt (depth_of n a p) (pos 0) ≡ true
        → IsTurned a b ps (normal_of a b p) 0
    glance n t e = record {
      known = t.known;
      facing = t.facing;
      met = p;
      is = refl;
      there = (i, inside, is p);
      front = in_front n 0 t e;
      inward = λ k d h. absurd (omega arith);
    }

    pub glance_normal : (n m : Normal) → IsTurned a b ps n 0
        → m ≡ (if int_lt (depth_of n a p) (pos 0) then normal_of a b p else n) → IsTurned a b ps m 0
    glance_normal n m t e = subst (λ k. IsTurned a b ps k 0) (sym e) (by_test (int_lt (depth_of n a p) (pos 0)) refl)
      where
        by_test : (c : Bool) → int_lt (depth_of n a p) (pos 0) ≡ c
            → IsTurned a b ps (if c then normal_of a b p else n) 0
        by_test true h = glance n t h
        by_test false h = t

    pub next_normal : (n : Normal) → IsTurned a b ps n i → int_lt (depth_of n a p) (pos 0) ≡ true
        → IsTurned a b ps (normal_of a b p) (i + 1)
    next_normal n t e = record {
      known = t.known;
      facing = t.facing;
      met = p;
      is = refl;
      there = (i, inside, is p);
      front = ahead;
      inward = λ k d h. last_or_before k i h (λ l. earlier k d l)
          (λ same. subst (λ r. pos 0 ≤ℤ volume_on p r) (sym (ap (λ j. get_or ps j d) same ∙ is d)) (itself p));
    }
      where
        further : volume_on t.met p <ℤ pos 0
        further = beyond_it n i t e

        ahead : IsInFront t.known a b p
        ahead = in_front n i t e

        earlier : (k : ℕ) (d : Pt3) → k < i → pos 0 ≤ℤ volume_on p (get_or ps k d)
        earlier k d l = elim (t.facing.front k d (omega arith)) [
          | inl line ↦ nought (volume_on p (get_or ps k d)) (on_line p (get_or ps k d) line)
          | inr front ↦ beyond (get_or ps k d) front
              (subst (λ m. pos 0 ≤ℤ depth_of m a (get_or ps k d)) t.is (t.inward k d l))
        ]
          where
            beyond : (r : Pt3) → IsInFront t.known a b r → pos 0 ≤ℤ volume_on t.met r
                → pos 0 ≤ℤ volume_on p r
            beyond r front h =
                let n0 = t.known.x in
                let n1 = t.known.y in
                let n2 = t.known.z in
                let up = t.facing.upright in
                let turned = λ (c s : Pt3). as_turn (c.x -ℤ a.x) (c.y -ℤ a.y) (c.z -ℤ a.z) (s.x -ℤ a.x) (s.y -ℤ a.y) (s.z -ℤ a.z) n0 n1 n2 up in
                subst (λ z. pos 0 ≤ℤ z) (sym (turned p r))
                (still_outermost n0 n1 n2 ux uy uz up t.facing.some (p.x -ℤ a.x) (p.y -ℤ a.y) (p.z -ℤ a.z)
                (t.met.x -ℤ a.x) (t.met.y -ℤ a.y) (t.met.z -ℤ a.z) (r.x -ℤ a.x) (r.y -ℤ a.y)
                (r.z -ℤ a.z) ahead t.front front
                (subst (λ z. pos 0 ≤ℤ z) (turned p t.met)
                (opposite (volume_on p t.met) (volume_on t.met p) (exchanged t.met p) further))
                (subst (λ z. pos 0 ≤ℤ z) (turned t.met r) h))

    pub more_normal : (n m : Normal) → IsTurned a b ps n i
        → m ≡ (if int_lt (depth_of n a p) (pos 0) then normal_of a b p else n) → IsTurned a b ps m (i + 1)
    more_normal n m t e = subst (λ k. IsTurned a b ps k (i + 1)) (sym e)
        (by_test (int_lt (depth_of n a p) (pos 0)) refl)
      where
        by_test : (c : Bool) → int_lt (depth_of n a p) (pos 0) ≡ c
            → IsTurned a b ps (if c then normal_of a b p else n) (i + 1)
        by_test true h = next_normal n t h
        by_test false h = kept_normal n t h

  default : (ps : List Pt3) (i : ℕ) (d e : Pt3) → i < length ps → get_or ps i d ≡ get_or ps i e
  default [] i d e h = absurd (omega arith)
  default (q ∷ ps) zero d e h = refl
  default (q ∷ ps) (suc i) d e h = default ps i d e (omega arith)

  -- the same, as a loop tells it
  pub more_at : (ps : List Pt3) (i : ℕ) (e : Pt3) (n m : Normal) → i < length ps → IsTurned a b ps n i
      → m ≡ (if int_lt (depth_of n a (get_or ps i e)) (pos 0) then normal_of a b (get_or ps i e) else n)
      → IsTurned a b ps m (i + 1)
  more_at ps i e n m inside t is = more_normal ps i inside (get_or ps i e) (λ d. default ps i d e inside) n m t is

  -- the same for a first look
  pub glance_at : (ps : List Pt3) (i : ℕ) (e : Pt3) (n m : Normal) → i < length ps → IsTurned a b ps n 0
      → m ≡ (if int_lt (depth_of n a (get_or ps i e)) (pos 0) then normal_of a b (get_or ps i e) else n)
      → IsTurned a b ps m 0
  glance_at ps i e n m inside t is = glance_normal ps i inside (get_or ps i e) (λ d. default ps i d e inside) n m t is

  deep : (z : ℤ) → pos 0 <ℤ z → pos 0 ≤ℤ z
  deep z h = omega (arith, ints)

  earlier_or_on : {P : Type 0} (k i : ℕ) → (k < i → P) → (i ≤ k → P) → P
  earlier_or_on k zero f g = g (omega arith)
  earlier_or_on zero (suc i) f g = f (omega arith)
  earlier_or_on (suc k) (suc i) f g = earlier_or_on k i (λ h. f (omega arith)) (λ h. g (omega arith))

  -- points that lie deep inside are passed over
  pub passed : (ps : List Pt3) (n : Normal) (i j : ℕ) → IsTurned a b ps n i
      → ((k : ℕ) (d : Pt3) → i ≤ k → k < j → pos 0 <ℤ depth_of n a (get_or ps k d))
      → IsTurned a b ps n j
  passed ps n i j t h = record {
    known = t.known;
    facing = t.facing;
    met = t.met;
    is = t.is;
    there = t.there;
    front = t.front;
    inward = λ k d l. earlier_or_on k i (λ e. t.inward k d e) (λ o. deep (depth_of n a (get_or ps k d)) (h k d o l));
  }
