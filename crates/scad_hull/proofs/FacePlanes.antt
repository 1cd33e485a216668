-- Each listed face is the convex ring round the points of a plane that has no point outside.
use Rattle.std.proofs.Common.{◌≡◌, Bool, true, false, ◌&&◌, ◌||◌, List, [], ◌∷◌, map, refl, sym, ap, ap₂, ◌∙◌, arith, subst, Option, Some, None}
use lib.IntN.{ℤ, pos, ◌+ℤ◌, ◌*ℤ◌}
use lib.Signed.{◌<ℤ◌, ◌≤ℤ◌}
use Rattle.std.specs.Prelude.{int_lt, if◌then◌else◌}
use Rattle.std.specs.Cmp.{IsTotalOrder}
use Rattle.std.specs.List.{AllByRecursion, Contains, list_any, filter_map, flat_map, cons_option}
use Rattle.std.specs.List.Sorted.{IsStrictlySortedBy}
use Rattle.std.specs.Ordering.{int_cmp, ordering_then, ordering_reverse}
use Rattle.std.specs.declared.cmp.Ordering.{Ordering}
use Rattle.std.specs.declared.cmp.Ordering.TheVariants.{Less, Equal, Greater}
use Rattle.std.proofs.lemmas.Cmp.{int_cmp_total, then_total, on_total}
use Rattle.std.proofs.lemmas.Int.{ints, by_lt_z}
use Rattle.std.proofs.lemmas.List.Elements.{All-from_recursion, All-contains, All-contains_itself}
use Rattle.std.proofs.lemmas.Map.Lookups.{exact_signed}
use Rattle.scad_base.proofs.Tests.{both_equal}
use Rattle.scad_geom.specs.Sign.{is_zero}
use Rattle.scad_geom.specs.declared.point3.Pt3.{Pt3}
use Rattle.scad_geom.proofs.Ring.{ring, num, var, ◌⊕◌, ◌⊖◌, ◌⊗◌}
use Rattle.scad_geom.proofs.Signs.{square_at_least}
use Rattle.scad_hull.specs.declared.turning.Normal.{Normal}
use Rattle.scad_hull.specs.Ring.{IsConvexRing, StartsFirst}
use Rattle.scad_hull.specs.Space.{space_cmp, normal_of, depth_of, is_none, face_left, square_of, IsSpaceBefore}
use Rattle.scad_hull.specs.Faces.{in_plane, face_in, face_through, face_cmp, triples, faces_of, IsFacePlane, IsFace}
use Rattle.scad_hull.proofs.Distincts.{distinct_keeps}
use Rattle.scad_hull.proofs.Lines.{nought_right}
use Rattle.scad_hull.proofs.NextPlanes.{itself_in}
use Rattle.scad_hull.proofs.PlaneRings.{InPlaneOrder, Contains-filter, all_flat, flat_between, face_made}
use Rattle.scad_hull.proofs.Rings.{all_joined}
use Rattle.scad_hull.proofs.ViewAlong.{seen, x_of, y_of, z_of}
use Rattle.scad_hull.proofs.Whole.{recursion_of}

-- ---- the order of space
pub space_total : IsTotalOrder space_cmp
space_total = then_total (on_total z_of int_cmp_total)
    (then_total (on_total y_of int_cmp_total) (on_total x_of int_cmp_total))

pub space_exact : (p q : Pt3) → space_cmp p q ≡ Equal → p ≡ q
space_exact p q e =
    let first = both_equal (int_cmp p.z q.z) (ordering_then (int_cmp p.y q.y) (int_cmp p.x q.x)) e in
    let rest = both_equal (int_cmp p.y q.y) (int_cmp p.x q.x) first.1 in
    let z = exact_signed _ _ first.0 in
    let y = exact_signed _ _ rest.0 in
    let x = exact_signed _ _ rest.1 in
    λ i. record { x = x i; y = y i; z = z i }

-- ---- lists
pub all_changed : {X : Type 0} {P Q : X → Type 0} → ((x : X) → P x → Q x) → (xs : List X)
    → AllByRecursion P xs → AllByRecursion Q xs
all_changed f [] h = tt
all_changed f (x ∷ xs) h = (f x h.0, all_changed f xs h.1)

all_mapped : {X Y : Type 0} (P : Y → Type 0) (f : X → Y) (xs : List X) → AllByRecursion (λ x. P (f x)) xs
    → AllByRecursion P (map f xs)
all_mapped P f [] h = tt
all_mapped P f (x ∷ xs) h = (h.0, all_mapped P f xs h.1)

all_flat_mapped : {X Y : Type 0} (P : Y → Type 0) (f : X → List Y) (xs : List X)
    → AllByRecursion (λ x. AllByRecursion P (f x)) xs → AllByRecursion P (flat_map f xs)
all_flat_mapped P f [] h = tt
all_flat_mapped P f (x ∷ xs) h = all_joined P (f x) (flat_map f xs) h.0 (all_flat_mapped P f xs h.1)

pub all_picked : {X Y : Type 0} (P : Y → Type 0) (f : X → Option Y) (xs : List X)
    → AllByRecursion (λ x. (y : Y) → f x ≡ Some y → P y) xs → AllByRecursion P (filter_map f xs)
all_picked P f [] h = tt
all_picked {Y = Y} P f (x ∷ xs) h = by_answer (all_picked P f xs h.1) (f x) refl
  where
    by_answer : AllByRecursion P (filter_map f xs) → (o : Option Y) → f x ≡ o
        → AllByRecursion P (cons_option o (filter_map f xs))
    by_answer rest None e = rest
    by_answer rest (Some y) e = (h.0 y e, rest)

abbrev pub AreIn : List Pt3 → Pt3 × Pt3 × Pt3 → Type 0
AreIn ps t = Contains ps t.0 × Contains ps t.1 × Contains ps t.2

pub all_triples : (ps : List Pt3) → AllByRecursion (AreIn ps) (triples ps)
all_triples ps =
    let itself = recursion_of (Contains ps) ps (All-contains_itself ps) in
    all_flat_mapped (AreIn ps) (λ a. flat_map (λ b. map (λ c. (a, b, c)) ps) ps) ps
    (all_changed (λ a ia. all_flat_mapped (AreIn ps) (λ b. map (λ c. (a, b, c)) ps) ps
    (all_changed (λ b ib. all_mapped (AreIn ps) (λ c. (a, b, c)) ps
    (all_changed (λ c ic. (ia, ib, ic)) ps itself)) ps itself)) ps itself)

-- ---- tests of a plane
is_told : (z : ℤ) → z ≡ pos 0 → is_zero z ≡ true
is_told z e = ap is_zero e

first_square : (a b c : ℤ) → pos 0 ≤ℤ a → pos 0 ≤ℤ b → pos 0 ≤ℤ c
    → (a +ℤ (b +ℤ c)) ≤ℤ pos 0 → a ≡ pos 0
first_square a b c ha hb hc h = omega (arith, ints)

second_square : (a b c : ℤ) → pos 0 ≤ℤ a → pos 0 ≤ℤ b → pos 0 ≤ℤ c
    → (a +ℤ (b +ℤ c)) ≤ℤ pos 0 → b ≡ pos 0
second_square a b c ha hb hc h = omega (arith, ints)

third_square : (a b c : ℤ) → pos 0 ≤ℤ a → pos 0 ≤ℤ b → pos 0 ≤ℤ c
    → (a +ℤ (b +ℤ c)) ≤ℤ pos 0 → c ≡ pos 0
third_square a b c ha hb hc h = omega (arith, ints)

root : (z : ℤ) → z *ℤ z ≡ pos 0 → z ≡ pos 0
root z h = by_lt_z (pos 0) z (λ k. nought_right z z h (λ f. up z k f))
    (λ k. by_lt_z z (pos 0) (λ l. nought_right z z h (λ f. low z l f)) (λ l. none z k l))
  where
    up : (z : ℤ) → pos 0 <ℤ z → z ≡ pos 0 → ⊥
    up z h e = omega (arith, ints)

    low : (z : ℤ) → z <ℤ pos 0 → z ≡ pos 0 → ⊥
    low z h e = omega (arith, ints)

    none : (z : ℤ) → z ≤ℤ pos 0 → pos 0 ≤ℤ z → z ≡ pos 0
    none z h k = omega (arith, ints)

-- squares whose sum isn't above 0
pub no_squares : (x y z : ℤ) → (x *ℤ x +ℤ (y *ℤ y +ℤ z *ℤ z)) ≤ℤ pos 0
    → (x ≡ pos 0) × (y ≡ pos 0) × (z ≡ pos 0)
no_squares x y z h =
    let a = square_at_least x in
    let b = square_at_least y in
    let c = square_at_least z in (
      root x (first_square (x *ℤ x) (y *ℤ y) (z *ℤ z) a b c h),
      root y (second_square (x *ℤ x) (y *ℤ y) (z *ℤ z) a b c h),
      root z (third_square (x *ℤ x) (y *ℤ y) (z *ℤ z) a b c h),
    )

pub normal_some : (n : Normal) → is_none n ≡ false → pos 0 <ℤ square_of n
normal_some n e = by_lt_z (pos 0) (square_of n) (λ h. h) (λ h. absurd (clash (no_squares n.x n.y n.z h)))
  where
    told_apart : true ≡ false → ⊥
    told_apart e = cc

    clash : (n.x ≡ pos 0) × (n.y ≡ pos 0) × (n.z ≡ pos 0) → ⊥
    clash h = told_apart (sym (ap₂ (λ s t. s && t) (is_told n.x h.0)
        (ap₂ (λ s t. s && t) (is_told n.y h.1) (is_told n.z h.2))) ∙ e)

pub all_inside : (n : Normal) (a : Pt3) (ps : List Pt3)
    → list_any (λ p. int_lt (depth_of n a p) (pos 0)) ps ≡ false
    → AllByRecursion (λ p. pos 0 ≤ℤ depth_of n a p) ps
all_inside n a [] e = tt
all_inside n a (p ∷ ps) e =
    by_tests (all_inside n a ps) (int_lt (depth_of n a p) (pos 0)) refl
    (list_any (λ q. int_lt (depth_of n a q) (pos 0)) ps) refl e
  where
    not_below : (z : ℤ) → int_lt z (pos 0) ≡ false → pos 0 ≤ℤ z
    not_below z h = omega (arith, ints)

    by_tests : (list_any (λ q. int_lt (depth_of n a q) (pos 0)) ps ≡ false
        → AllByRecursion (λ q. pos 0 ≤ℤ depth_of n a q) ps)
        → (b : Bool) → int_lt (depth_of n a p) (pos 0) ≡ b → (c : Bool)
        → list_any (λ q. int_lt (depth_of n a q) (pos 0)) ps ≡ c → (b || c) ≡ false
        → (pos 0 ≤ℤ depth_of n a p) × AllByRecursion (λ q. pos 0 ≤ℤ depth_of n a q) ps
    by_tests rest false f false g h = (not_below (depth_of n a p) f, rest g)
    by_tests rest false f true g h = cc
    by_tests rest true f c g h = cc

-- ---- the plane through three points
pub second_in : (a b c : Pt3) → depth_of (normal_of a b c) a b ≡ pos 0
second_in a b c =
    ring (a.x ∷ a.y ∷ a.z ∷ b.x ∷ b.y ∷ b.z ∷ c.x ∷ c.y ∷ c.z ∷ [])
    (((var 4 ⊖ var 1) ⊗ (var 8 ⊖ var 2) ⊖ (var 5 ⊖ var 2) ⊗ (var 7 ⊖ var 1)) ⊗ (var 3 ⊖ var 0)
    ⊕ (((var 5 ⊖ var 2) ⊗ (var 6 ⊖ var 0) ⊖ (var 3 ⊖ var 0) ⊗ (var 8 ⊖ var 2)) ⊗ (var 4 ⊖ var 1)
    ⊕ ((var 3 ⊖ var 0) ⊗ (var 7 ⊖ var 1) ⊖ (var 4 ⊖ var 1) ⊗ (var 6 ⊖ var 0)) ⊗ (var 5 ⊖ var 2)))
    (num (pos 0)) refl

pub third_in : (a b c : Pt3) → depth_of (normal_of a b c) a c ≡ pos 0
third_in a b c =
    ring (a.x ∷ a.y ∷ a.z ∷ b.x ∷ b.y ∷ b.z ∷ c.x ∷ c.y ∷ c.z ∷ [])
    (((var 4 ⊖ var 1) ⊗ (var 8 ⊖ var 2) ⊖ (var 5 ⊖ var 2) ⊗ (var 7 ⊖ var 1)) ⊗ (var 6 ⊖ var 0)
    ⊕ (((var 5 ⊖ var 2) ⊗ (var 6 ⊖ var 0) ⊖ (var 3 ⊖ var 0) ⊗ (var 8 ⊖ var 2)) ⊗ (var 7 ⊖ var 1)
    ⊕ ((var 3 ⊖ var 0) ⊗ (var 7 ⊖ var 1) ⊖ (var 4 ⊖ var 1) ⊗ (var 6 ⊖ var 0)) ⊗ (var 8 ⊖ var 2)))
    (num (pos 0)) refl

abbrev inner_of : {X : Type 0} → X → Option X → X
inner_of d None = d
inner_of d (Some x) = x

refused : (xs : List Pt3) → None ≡ Some xs → ⊥
refused xs e = cc

module _ (ps : List Pt3) (sorted : IsStrictlySortedBy space_cmp ps) where
  -- ---- the plane of a face gives a face
  module _ (a : Pt3) (n : Normal) (plane : IsFacePlane ps a n) where
    abbrev Q : List Pt3
    Q = in_plane ps a n

    abbrev Before : Pt3 → Pt3 → Type 0
    Before = InPlaneOrder ps sorted a n plane.some

    in_q : (t : Pt3) → Contains ps t → depth_of n a t ≡ pos 0 → Contains Q t
    in_q t i e = Contains-filter (λ p. is_zero (depth_of n a p)) ps t i (is_told (depth_of n a t) e)

    pub ring_there : IsConvexRing (face_left n) Before Q (face_in ps a n)
    ring_there =
        face_made ps sorted a n plane.some plane.first plane.second plane.third
        (in_q plane.first plane.has_first plane.flat_first)
        (in_q plane.second plane.has_second plane.flat_second) (in_q plane.third plane.has_third plane.flat_third)
        plane.round

    lower_of : (p q : Pt3) → depth_of n a p ≡ pos 0 → depth_of n a q ≡ pos 0 → Before p q
        → IsSpaceBefore p q
    lower_of p q hp hq h = by_order (space_cmp p q) refl
      where
        back : (o : Ordering) → space_cmp p q ≡ o → space_cmp q p ≡ ordering_reverse o
        back o e = space_total.antisymm q p ∙ ap ordering_reverse e

        by_order : (o : Ordering) → space_cmp p q ≡ o → space_cmp p q ≡ Less
        by_order Less e = e
        by_order Equal e =
            let same : Before p p = subst (Before p) (sym (space_exact p q e)) h in
            absurd ((seen n plane.some).there.once p p same same)
        by_order Greater e = absurd ((seen n plane.some).there.once p q h
            ((seen n plane.some).ordered q p (flat_between ps sorted a n plane.some q p hq hp) (back Greater e)))

    first_before : (ring : List Pt3) → AllByRecursion (λ q. depth_of n a q ≡ pos 0) ring
        → StartsFirst (face_left n) Before ring → StartsFirst (face_left n) IsSpaceBefore ring
    first_before [] flat h = h
    first_before (p ∷ ring) flat h =
        All-from_recursion (IsSpaceBefore p) ring (each ring flat.1 (recursion_of (Before p) ring h))
      where
        each : (qs : List Pt3) → AllByRecursion (λ q. depth_of n a q ≡ pos 0) qs → AllByRecursion (Before p) qs
            → AllByRecursion (IsSpaceBefore p) qs
        each [] f h = tt
        each (q ∷ qs) f h = (lower_of p q flat.0 f.0 h.0, each qs f.1 h.1)

    pub is_face : IsFace ps (face_in ps a n)
    is_face = record {
      base = a;
      normal = n;
      some = plane.some;
      inward = plane.inward;
      ring = record {
        three = ring_there.three;
        corners = ring_there.corners;
        holds = ring_there.holds;
        turns = ring_there.turns;
        starts = first_before (face_in ps a n)
            (all_changed (λ q i. All-contains (λ p. depth_of n a p ≡ pos 0) Q q
            (All-from_recursion (λ p. depth_of n a p ≡ pos 0) Q (all_flat ps sorted a n plane.some)) i)
            (face_in ps a n)
            (recursion_of (Contains Q) (face_in ps a n) ring_there.corners)) ring_there.starts;
      };
    }

  -- ---- the plane through three points
  module _ (a b c : Pt3) (ia : Contains ps a) (ib : Contains ps b) (ic : Contains ps c) (face : List Pt3) where
    abbrev n : Normal
    n = normal_of a b c

    by_tests : (s : Bool) → is_none n ≡ s → (o : Bool)
        → list_any (λ p. int_lt (depth_of n a p) (pos 0)) ps ≡ o
        → (if s || o then None else Some (face_in ps a n)) ≡ Some face → IsFace ps face
    by_tests true hs o ho e = absurd (refused face e)
    by_tests false hs true ho e = absurd (refused face e)
    by_tests false hs false ho e =
        let some = normal_some n hs in
        subst (IsFace ps) (ap (inner_of (face_in ps a n)) e)
        (is_face a n (record {
          some = some;
          inward = All-from_recursion (λ p. pos 0 ≤ℤ depth_of n a p) ps (all_inside n a ps ho);
          first = a;
          second = b;
          third = c;
          has_first = ia;
          has_second = ib;
          has_third = ic;
          flat_first = itself_in n a;
          flat_second = second_in a b c;
          flat_third = third_in a b c;
          round = some;
        }))

    some_face : face_through ps (a, b, c) ≡ Some face → IsFace ps face
    some_face e = by_tests (is_none n) refl (list_any (λ p. int_lt (depth_of n a p) (pos 0)) ps) refl e

  pub faces_are : AllByRecursion (IsFace ps) (faces_of ps)
  faces_are =
      distinct_keeps face_cmp (IsFace ps) (filter_map (face_through ps) (triples ps))
      (all_picked (IsFace ps) (face_through ps) (triples ps)
      (all_changed (λ t i face e. some_face t.0 t.1 t.2 i.0 i.1 i.2 face e) (triples ps) (all_triples ps)))
