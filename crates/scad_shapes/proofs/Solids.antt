-- The solids of faces whose numbers all name points, and rings that are made one by one.
use Rattle.std.proofs.Common.{◌≡◌, ℕ, zero, suc, ◌+◌, ◌<◌, ◌≤◌, Bool, true, false, cond, ◌&&◌, ◌==◌, Some, List, [], ◌∷◌, ◌++◌, append_assoc, length, get_or, drop, map, None, Result, Ok, Err, arith, refl, ap, ap₂, sym, ◌∙◌, nat_le, nat_lt, ◌-◌, ℤ}
use Rattle.std.proofs.lemmas.Bool.{and_parts}
use Rattle.std.specs.Prelude.{if◌then◌else◌}
use Rattle.std.specs.List.{find, flat_map, list_all, range_with_len}
use Rattle.std.specs.Option.{option_or}
use Rattle.std.proofs.lemmas.Bool.Decides.{nat_tests}
use Rattle.std.proofs.lemmas.List.Folds.{find-append}
use Rattle.scad_geom.specs.declared.point3.Pt3.{Pt3}
use Rattle.scad_geom.specs.PointRange.{is_in_range}
use Rattle.scad_solid.specs.declared.triangle.Triangle.{Triangle}
use Rattle.scad_solid.specs.declared.fault.SolidFault.{SolidFault}
use Rattle.scad_solid.specs.declared.fault.SolidFault.TheVariants as solid
use Rattle.scad_solid.specs.Solid.{first_bad, names_points, closed_or_not, solid_of, fans, corners}
use Rattle.scad_solid.specs.Surface.{is_closed}
use Rattle.scad_shapes.specs.declared.fault.ShapeFault.{ShapeFault}
use Rattle.scad_shapes.specs.declared.fault.ShapeFault.TheVariants.{CoordinateRange, NotClosed, Memory}
use Rattle.scad_shapes.specs.Pushes.{Pushes, Collects}
use Rattle.std.proofs.lemmas.List.FromFn.{length-range_with_len}
use Rattle.std.proofs.lemmas.List.{append-nil, at_drop_more, drop_all, length-map}
use Rattle.scad_matrix.specs.declared.matrix.Matrix.{Matrix}
use Rattle.scad_solid.specs.Stack.{are_alike}
use Rattle.scad_shapes.specs.Outline.{sphere_rings}
use Rattle.scad_base.specs.Memory.{UnlessMemory}
use Rattle.scad_shapes.specs.Faults.{is_memory}
use Rattle.scad_shapes.specs.Rings.{ring_if_in_range, sphere_ring_at, sphere_rings_of}
use Rattle.scad_shapes.specs.Polyhedron.{name_points, if_closed}

module _ (count : ℕ) where
  names_none : (face : List ℕ) → names_points count face ≡ true → find (λ k. nat_le count k) face ≡ None
  names_none [] e = refl
  names_none (k ∷ face) e =
      let parts = and_parts (nat_lt k count) (names_points count face) e in
      ap (λ b. cond b (Some k) (find (λ i. nat_le count i) face)) (not_above k parts.0) ∙ names_none face parts.1
    where
      not_above : (k : ℕ) → nat_lt k count ≡ true → nat_le count k ≡ false
      not_above k t = grind (arith, nat_tests)

  -- faces that name points alone have no bad number
  pub name_points-none : (faces : List (List ℕ)) → name_points count faces ≡ true → first_bad count faces ≡ None
  name_points-none [] e = refl
  name_points-none (face ∷ faces) e =
      let parts = and_parts (names_points count face) (name_points count faces) e in
      find-append (λ k. nat_le count k) face (flat_map (λ f. f) faces)
      ∙ ap (λ o. option_or o (first_bad count faces)) (names_none face parts.0)
      ∙ name_points-none faces parts.1

-- the solid of such faces over points in range
pub solid_of-named : (points : List Pt3) (faces : List (List ℕ)) → list_all is_in_range points ≡ true
    → name_points (length points) faces ≡ true → solid_of points faces ≡ closed_or_not None
    (fans (map (corners points) faces))
unfolding solid_of
solid_of-named points faces ranged named =
    ap (λ b. cond b (closed_or_not (first_bad (length points) faces) (fans (map (corners points) faces)))
    (Err solid.CoordinateRange)) ranged
    ∙ ap (λ o. closed_or_not o (fans (map (corners points) faces))) (name_points-none (length points) faces named)

-- the two crates' answers by the test of the surface
abbrev as_solid : Bool → List Triangle → Result (List Triangle) SolidFault
as_solid b ts = if b then Ok ts else Err solid.NotClosed

abbrev as_shape : Bool → List Triangle → Result (List Triangle) ShapeFault
as_shape b ts = if b then Ok ts else Err NotClosed

closed_by : (b : Bool) (ts us : List Triangle) → Ok ts ≡ as_solid b us → Ok ts ≡ as_shape b us
closed_by true ts us e = let same : ts ≡ us = cc in ap (λ v. Ok v) same
closed_by false ts us e = absurd (cc)

open_by : (b : Bool) (us : List Triangle) → Err solid.NotClosed ≡ as_solid b us → Err NotClosed ≡ as_shape b us
open_by true us e = absurd (cc)
open_by false us e = refl

never_by : (b : Bool) (us : List Triangle) → Err solid.CoordinateRange ≡ as_solid b us → ⊥
never_by true us e = absurd (cc)
never_by false us e = absurd (cc)

never_bad_by : (b : Bool) (us : List Triangle) (i : ℕ) → Err (solid.BadIndex i) ≡ as_solid b us → ⊥
never_bad_by true us i e = absurd (cc)
never_bad_by false us i e = absurd (cc)

pub closed_as : (ts us : List Triangle) → Ok ts ≡ closed_or_not None us → Ok ts ≡ if_closed us
closed_as ts us e = closed_by (is_closed us) ts us e

only_by : (b : Bool) (ts us : List Triangle) → Ok ts ≡ as_solid b us → ts ≡ us
only_by true ts us e = cc
only_by false ts us e = absurd (cc)

pub closed_only : (ts us : List Triangle) → Ok ts ≡ closed_or_not None us → ts ≡ us
closed_only ts us e = only_by (is_closed us) ts us e

pub open_as : (us : List Triangle) → Err solid.NotClosed ≡ closed_or_not None us → Err NotClosed ≡ if_closed us
open_as us e = open_by (is_closed us) us e

-- points in range aren't refused for their range
pub never_far : (us : List Triangle) → Err solid.CoordinateRange ≡ closed_or_not None us → ⊥
never_far us e = never_by (is_closed us) us e

pub never_bad : (us : List Triangle) (i : ℕ) → Err (solid.BadIndex i) ≡ closed_or_not None us → ⊥
never_bad us i e = never_bad_by (is_closed us) us i e

range-front : (i n : ℕ) → i < n → range_with_len i (n - i) ≡ i ∷ range_with_len (i + 1) (n - (i + 1))
range-front i n inside = let left : n - i ≡ suc (n - (i + 1)) = omega arith in ap (range_with_len i) left

-- a list of which x is the next to be made
module _ {X : Type 0} (p : X → Bool) (x : X) (left rest : List X) (front : left ≡ x ∷ rest) where
  next-made : (old new all : List X) → old ++ left ≡ all → new ≡ old ++ x ∷ [] → new ++ rest ≡ all
  next-made old new all so_far more = ap (λ xs. xs ++ rest) more ∙ append_assoc old (x ∷ []) rest ∙ ap
      (λ xs. old ++ xs) (sym front) ∙ so_far

  next-ranged : (all here : Bool) → all ≡ list_all p left → p x ≡ here → all ≡ (here && list_all p rest)
  next-ranged all here so_far is = so_far ∙ ap (list_all p) front ∙ ap (λ b. b && list_all p rest) is

-- a list of the values of f at the numbers below n, where those below i were made
module _ {X : Type 0} (p : X → Bool) (f : ℕ → X) (i n : ℕ) (inside : i < n) where
  abbrev left : List X
  left = map f (range_with_len i (n - i))

  abbrev rest : List X
  rest = map f (range_with_len (i + 1) (n - (i + 1)))

  front : left ≡ f i ∷ rest
  front = ap (map f) (range-front i n inside)

  pub made-more : (old new all : List X) → old ++ left ≡ all → new ≡ old ++ f i ∷ [] → new ++ rest ≡ all
  made-more = next-made p (f i) left rest front

  pub ranged-more : (all : Bool) → all ≡ list_all p left → p (f i) ≡ true → all ≡ list_all p rest
  ranged-more all = next-ranged p (f i) left rest front all true

  pub ranged-fails : (all : Bool) → all ≡ list_all p left → p (f i) ≡ false → all ≡ false
  ranged-fails all = next-ranged p (f i) left rest front all false

-- a list of the values of f at the items of a list, of which x is the next, where those before it were made
module _ {A X : Type 0} (p : X → Bool) (f : A → X) (items : List A) (k : ℕ) (x : A) (inside : k < length items) (is : x
    ≡ get_or items k x) where
  abbrev items_left : List X
  items_left = map f (drop k items)

  abbrev items_rest : List X
  items_rest = map f (drop (k + 1) items)

  items_front : items_left ≡ f x ∷ items_rest
  items_front = at_drop_more (map f) items k x inside ∙ ap (λ y. f y ∷ items_rest) (sym is)

  pub item_made-more : (old new all : List X) → old ++ items_left ≡ all → new ≡ old ++ f x ∷ [] → new ++ items_rest
      ≡ all
  item_made-more = next-made p (f x) items_left items_rest items_front

  pub item_ranged-more : (all : Bool) → all ≡ list_all p items_left → p (f x) ≡ true → all ≡ list_all p items_rest
  item_ranged-more all = next-ranged p (f x) items_left items_rest items_front all true

  pub item_ranged-fails : (all : Bool) → all ≡ list_all p items_left → p (f x) ≡ false → all ≡ false
  item_ranged-fails all = next-ranged p (f x) items_left items_rest items_front all false

-- such a list where none is left
module _ {A X : Type 0} (p : X → Bool) (f : A → X) (items : List A) (k : ℕ) (none : length items ≤ k) where
  nothing_left : map f (drop k items) ≡ []
  nothing_left = ap (map f) (drop_all k items none)

  pub items_made : (old all : List X) → old ++ map f (drop k items) ≡ all → old ≡ all
  items_made old all so_far = sym (append-nil old) ∙ ap (λ (xs : List X). old ++ xs) (sym nothing_left) ∙ so_far

  pub items_ranged : (all : Bool) → all ≡ list_all p (map f (drop k items)) → all ≡ true
  items_ranged all so_far = so_far ∙ ap (list_all p) nothing_left

pub ring_makes : (ring points all : List Pt3) → ring ≡ points → points ≡ all → list_all is_in_range all ≡ true
    → Ok ring ≡ ring_if_in_range all
ring_makes ring points all is same ranged =
    ap (λ r. Ok r) (is ∙ same) ∙ sym (ap (λ b. if b then Ok all else Err CoordinateRange) ranged)

-- what isn't pushed isn't collected
pub fails : (B : Type 0) → {X : Type 0} → (ranged : X → Bool) (old new all : List X) (x : X) (e : ShapeFault) (items : B
    → List X) → Pushes {A = Unit {0}} ranged old x new (Err e) → (ranged x ≡ false → list_all ranged all ≡ false)
    → Collects {A = B} ranged (Err e) items all
fails B ranged old new all x CoordinateRange items why so = so why
fails B ranged old new all x NotClosed items why so = absurd why
fails B ranged old new all x Memory items why so = tt

-- a ring of which a point isn't pushed isn't made
pub ring_fails : (old new all : List Pt3) (x : Pt3) (e : ShapeFault) → Pushes {A = Unit {0}} is_in_range old x
    new (Err e) → (is_in_range x ≡ false → list_all is_in_range all ≡ false)
    → UnlessMemory {A = List Pt3} is_memory (Err e) (Err e ≡ ring_if_in_range all)
ring_fails old new all x CoordinateRange why so = sym (ap (λ b. if b then Ok all else Err CoordinateRange) (so why))
ring_fails old new all x NotClosed why so = absurd why
ring_fails old new all x Memory why so = tt

-- rings of equal length are alike
pub alike-map : (f : ℕ → List Pt3) (m a n : ℕ) → ((i : ℕ) → length (f i) ≡ m) → list_all (λ ring. length ring == m)
    (map f (range_with_len a n)) ≡ true
alike-map f m a zero long = refl
alike-map f m a (suc n) long = ap₂ (λ k b. (k == m) && b) (long a) (alike-map f m (a + 1) n long) ∙ same m
  where
    same : (m : ℕ) → (m == m) && true ≡ true
    same m = grind (arith, nat_tests)

pub length-sphere_ring : (r : ℤ) (n : ℕ) (m : Matrix) (i : ℕ) → length (sphere_ring_at r n m i) ≡ n
length-sphere_ring r n m i = simp (length-map, length-range_with_len)

pub alike-sphere : (r : ℤ) (n : ℕ) (m : Matrix) → are_alike (sphere_rings_of r n m) ≡ true
alike-sphere r n m = alike_of (sphere_rings n) (λ i. length-sphere_ring r n m i)
  where
    alike_of : (k : ℕ) → ((i : ℕ) → length (sphere_ring_at r n m i) ≡ n)
        → are_alike (map (sphere_ring_at r n m) (range_with_len 0 k)) ≡ true
    alike_of zero long = refl
    alike_of (suc k) long = ap (λ l. list_all (λ ring. length ring == l)
        (map (sphere_ring_at r n m) (range_with_len 1 k))) (long 0) ∙ alike-map (sphere_ring_at r n m) n 1 k long
