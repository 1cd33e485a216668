-- The flat edges of a level among all of a list.
use Rattle.std.proofs.Common.{◌≡◌, ◌⊎◌, inl, inr, ℕ, zero, suc, ◌+◌, ◌-◌, ◌<◌, ◌≤◌, Bool, true, false, cond, true≢false, List, [], ◌∷◌, ◌++◌, length, get_or, take, drop, refl, sym, ap, ◌∙◌, subst, arith}
use lib.IntN.{ℤ, pos, negsuc, ◌*ℤ◌, ◌-ℤ◌}
use lib.Signed.{◌<ℤ◌, ◌≤ℤ◌}
use Rattle.std.specs.Prelude.{int_lt, if◌then◌else◌}
use Rattle.std.specs.Ordering.{int_eq, is_lt, ordering_then}
use Rattle.std.specs.Cmp.{signed_Decides}
use Rattle.std.specs.declared.cmp.Ordering.TheVariants.{Less, Equal, Greater}
use Rattle.std.specs.List.{AllByRecursion}
use Rattle.std.specs.List.Sorted.{IsSorted}
use Rattle.std.proofs.lemmas.Int.{ints}
use Rattle.std.proofs.lemmas.Bool.{and_parts}
use Rattle.std.proofs.lemmas.List.{drop-drop, get_or-drop, take-append-drop}
use Rattle.std.proofs.lemmas.List.Elements.{All-from_recursion, recursion_from_All}
use Rattle.std.proofs.lemmas.List.Sorted.{sorted_far, All-permutation, IsPermutation-sym}
use Rattle.scad_geom.specs.declared.point.Edge.{Edge}
use Rattle.scad_geom.specs.declared.level.Level.{Level}
use Rattle.scad_geom.specs.declared.level.LeafEdge.{LeafEdge}
use Rattle.scad_geom.specs.Line.{low, high, rise}
use Rattle.scad_geom.specs.Sign.{is_zero}
use Rattle.scad_geom.specs.Level.{level_of, IsLower, IsAtMost}
use Rattle.scad_geom.specs.Heights.{heights, AreNeighbours}
use Rattle.scad_geom.proofs.Heights.{lower_chain, same_lower}
use Rattle.scad_geom.proofs.Order.{all_ends}
use Rattle.winding_laws.proofs.Sameness.{cancel_mul}
use Rattle.slice_bundles.specs.Bundles.{no_edge, edge_at}
use Rattle.slice_border.specs.Pieces.{is_flat_at}
use Rattle.slice_outlines.specs.declared.flat.Flat.{Flat}
use Rattle.slice_outlines.specs.Flats.{IsFlatOf, LiesOn, AreFlats, IsOff, flat_cmp, flat_numbers, numbers_of}
use Rattle.slice_outlines.specs.Level.{HasNumber, GoByLeft, AreFlatsOn}
use Rattle.slice_outlines.proofs.Joining.{comes_before, flat_order}
use Rattle.slice_outlines.proofs.Placing.{all_append}
use Rattle.slice_outlines.proofs.Onward.{take_then}
use Rattle.slice_outlines.proofs.StrandSearch.{by_places, scaled_order}
use Rattle.slice_outlines.proofs.WayCovers.{number_split, all_take, all_drop}
use Rattle.slice_outlines.proofs.Cuts.{found}

-- ---- their order
less_by : (a b : ℤ) → int_lt a b ≡ true → a <ℤ b
less_by a b h = grind (arith, ints)

least_by : (a b : ℤ) → int_lt a b ≡ false → b ≤ℤ a
least_by a b h = grind (arith, ints)

abbrev IsNotAfter : Flat → Flat → Type 0
IsNotAfter f g = (f.y ≤ℤ g.y) × (f.y ≡ g.y → f.left ≤ℤ g.left)

order_by : (f g : Flat) → is_lt (flat_cmp g f) ≡ false → IsNotAfter f g
order_by f g = by_tests (int_lt g.y f.y) (int_lt f.y g.y) (int_lt g.left f.left) (int_lt f.left g.left) refl refl refl
  where
    by_tests : (a b c d : Bool) → int_lt g.y f.y ≡ a → int_lt f.y g.y ≡ b → int_lt g.left f.left ≡ c
        → is_lt (ordering_then (cond a Less (cond b Greater Equal)) (cond c Less (cond d Greater Equal))) ≡ false
        → IsNotAfter f g
    by_tests true b c d p q r e = absurd (true≢false e)
    by_tests false true c d p q r e =
        let o = less_by f.y g.y q in
        (omega (arith, ints, o), λ same. absurd (omega (arith, ints, o, same)))
    by_tests false false true d p q r e = absurd (true≢false e)
    by_tests false false false d p q r e = (least_by g.y f.y p, λ same. least_by g.left f.left r)

-- each before all later ones
abbrev pub Ascend : List Flat → Type 0
Ascend [] = Unit {0}
Ascend (f ∷ fs) = AllByRecursion (IsNotAfter f) fs × Ascend fs

ascend_from : (all fs : List Flat) (n : ℕ) → drop n all ≡ fs → IsSorted flat_cmp all → n + length fs ≡ length all
    → Ascend fs
ascend_from all [] n e s o = tt
ascend_from all (f ∷ fs) n e s o = (
  by_places (IsNotAfter f) fs (λ k d l.
      let one : get_or all n d ≡ f =
      ap (λ (i : ℕ). get_or all i d) (omega arith) ∙ sym (get_or-drop n all 0 d)
      ∙ ap (λ (xs : List Flat). get_or xs 0 d) e in
      let other : get_or all (n + suc k) d ≡ get_or fs k d =
      sym (get_or-drop n all (suc k) d) ∙ ap (λ (xs : List Flat). get_or xs (suc k) d) e in
      order_by f (get_or fs k d)
      (subst (λ (g : Flat). is_lt (flat_cmp (get_or fs k d) g) ≡ false) one
      (subst (λ (g : Flat). is_lt (flat_cmp g (get_or all n d)) ≡ false) other
      (sorted_far comes_before flat_order all s n (n + suc k) d (omega arith) (omega (arith, l, o)))))),
  ascend_from all fs (n + 1) (sym (drop-drop 1 n all) ∙ ap (drop 1) e) s (omega (arith, o)),
)

pub ascend : (fs : List Flat) → IsSorted flat_cmp fs → Ascend fs
ascend fs s = ascend_from fs fs 0 refl s (omega arith)

ascend_drop : (n : ℕ) (fs : List Flat) → Ascend fs → Ascend (drop n fs)
ascend_drop zero fs a = a
ascend_drop (suc n) [] a = tt
ascend_drop (suc n) (f ∷ fs) a = ascend_drop n fs a.1

ascend_take : (n : ℕ) (fs : List Flat) → Ascend fs → Ascend (take n fs)
ascend_take zero fs a = tt
ascend_take (suc n) [] a = tt
ascend_take (suc n) (f ∷ fs) a = (all_take (IsNotAfter f) n fs a.0, ascend_take n fs a.1)

go_by_left : (l : Level) (fs : List Flat) → pos 0 <ℤ l.d → Ascend fs → AllByRecursion (LiesOn l) fs → GoByLeft fs
go_by_left l [] d a o = tt
go_by_left l (f ∷ fs) d a o = (each fs a.0 o.1, go_by_left l fs d a.1 o.1)
  where
    each : (gs : List Flat) → AllByRecursion (IsNotAfter f) gs → AllByRecursion (LiesOn l) gs
        → AllByRecursion (λ g. f.left ≤ℤ g.left) gs
    each [] b p = tt
    each (g ∷ gs) b p = (b.0.1 (cancel_mul f.y g.y l.d d (o.0 ∙ sym p.0)), each gs b.1 p.1)

-- ---- each flat edge is among them
flat_ends : (e : Edge) → rise e ≡ pos 0 → e.a.y ≡ e.b.y
unfolding rise low high
flat_ends e = by_test (int_lt e.b.y e.a.y)
  where
    by_test : (t : Bool) → (cond t e.a e.b).y -ℤ (cond t e.b e.a).y ≡ pos 0 → e.a.y ≡ e.b.y
    by_test true h = omega (arith, ints, h)
    by_test false h = omega (arith, ints, h)

zero_by : (z : ℤ) → is_zero z ≡ true → z ≡ pos 0
zero_by (pos zero) h = refl
zero_by (pos (suc n)) h = absurd (true≢false (sym h))
zero_by (negsuc n) h = absurd (true≢false (sym h))

equal_true : (a b : ℤ) → a ≡ b → int_eq a b ≡ true
equal_true a b e = (signed_Decides a b).1 e

-- a number isn't among those of a list
in_numbers : (es : List LeafEdge) (base k : ℕ) → k < length es → (edge_at es k).a.y ≡ (edge_at es k).b.y
    → AllByRecursion (λ j. j ≡ base + k → ⊥) (flat_numbers base es) → ⊥
in_numbers [] base k o f a = omega arith
in_numbers (e ∷ es) base zero o f a =
    by_test (int_eq e.edge.a.y e.edge.b.y) (equal_true e.edge.a.y e.edge.b.y f) a
  where
    by_test : (t : Bool) → t ≡ true → AllByRecursion (λ j. j ≡ base + zero → ⊥)
        (if t then base ∷ flat_numbers (base + 1) es else flat_numbers (base + 1) es) → ⊥
    by_test true q b = b.0 (omega arith)
    by_test false q b = absurd (true≢false (sym q))
in_numbers (e ∷ es) base (suc k) o f a =
    let same : base + suc k ≡ base + 1 + k = omega arith in
    in_numbers es (base + 1) k (omega arith) f (subst (λ (n : ℕ). AllByRecursion (λ j. j ≡ n → ⊥)
    (flat_numbers (base + 1) es)) same (rest (int_eq e.edge.a.y e.edge.b.y) a))
  where
    rest : (t : Bool) → AllByRecursion (λ j. j ≡ base + suc k → ⊥)
        (if t then base ∷ flat_numbers (base + 1) es else flat_numbers (base + 1) es)
        → AllByRecursion (λ j. j ≡ base + suc k → ⊥) (flat_numbers (base + 1) es)
    rest true b = b.1
    rest false b = b

same_or_not : (j k : ℕ) → (j ≡ k) ⊎ (j ≡ k → ⊥)
same_or_not zero zero = inl refl
same_or_not zero (suc k) = inr (λ e. omega (arith, e))
same_or_not (suc j) zero = inr (λ e. omega (arith, e))
same_or_not (suc j) (suc k) = elim (same_or_not j k) [
  | inl e ↦ inl (ap suc e)
  | inr n ↦ inr (λ e. n (omega (arith, e)))
]

has_or_not : (fs : List Flat) (k : ℕ) → HasNumber fs k ⊎ AllByRecursion (λ j. j ≡ k → ⊥) (numbers_of fs)
has_or_not [] k = inr tt
has_or_not (f ∷ fs) k = elim (same_or_not f.number k) [
  | inl e ↦ inl (inl e)
  | inr n ↦ elim (has_or_not fs k) [
    | inl h ↦ inl (inr h)
    | inr m ↦ inr (n, m)
  ]
]

pub each_flat : (es : List LeafEdge) (fs : List Flat) (k : ℕ) → AreFlats es fs → k < length es
    → (edge_at es k).a.y ≡ (edge_at es k).b.y → HasNumber fs k
each_flat es fs k a o f = elim (has_or_not fs k) [
  | inl h ↦ h
  | inr n ↦
      let P : ℕ → Type 0 = λ j. j ≡ k → ⊥ in
      let zero_plus : k ≡ 0 + k = omega arith in
      absurd (in_numbers es 0 k o f (subst (λ (i : ℕ). AllByRecursion (λ j. j ≡ i → ⊥) (flat_numbers 0 es)) zero_plus
      (recursion_from_All P (flat_numbers 0 es) (All-permutation P (numbers_of fs) (flat_numbers 0 es)
      (IsPermutation-sym (flat_numbers 0 es) (numbers_of fs) a.all) (All-from_recursion P (numbers_of fs) n)))))
]

whole_up : (y : ℤ) → pos 0 <ℤ (level_of y).d
whole_up y = omega (arith, ints)

-- ---- those of a level
module _ (es : List LeafEdge) (l : Level) (d : pos 0 <ℤ l.d) (fs : List Flat) (a : AreFlats es fs) where
  not_lower : (k : ℕ) (f : Flat) → f.number ≡ k → IsFlatOf es f → is_flat_at (edge_at es k) l ≡ true
      → f.y *ℤ l.d ≡ l.n
  not_lower k f e i t =
      let on = (signed_Decides ((edge_at es k).a.y *ℤ l.d) l.n).0
      (and_parts (is_zero (rise (edge_at es k))) (int_eq ((edge_at es k).a.y *ℤ l.d) l.n) t).1 in
      ap (λ (y : ℤ). y *ℤ l.d) (sym i.height ∙ ap (λ (n : ℕ). (edge_at es n).a.y) e) ∙ on

  -- lower ones, those of the level, and higher ones
  pub flats_on : (from to : ℕ) → from ≤ to → AllByRecursion (λ f. IsLower (level_of f.y) l) (take from fs)
      → AllByRecursion (LiesOn l) (take (to - from) (drop from fs))
      → AllByRecursion (λ f. IsLower l (level_of f.y)) (drop to fs) → AreFlatsOn es l (take (to - from) (drop from fs))
  flats_on from to o lows ons highs =
      let fl : List Flat = take (to - from) (drop from fs) in
      let e : from + (to - from) ≡ to = omega (arith, o) in
      let parts : take from fs ++ (fl ++ drop to fs) ≡ fs =
      ap (λ (gs : List Flat). take from fs ++ gs)
      (ap (λ (gs : List Flat). fl ++ gs) (sym (drop-drop (to - from) from fs ∙ ap (λ (n : ℕ). drop n fs) e))
      ∙ take-append-drop (to - from) (drop from fs)) ∙ take-append-drop from fs in
      record {
        each = all_take (IsFlatOf es) (to - from) (drop from fs) (all_drop (IsFlatOf es) from fs a.each);
        on = ons;
        rightwards = go_by_left l fl d (ascend_take (to - from) (drop from fs) (ascend_drop from fs
            (ascend fs a.sorted)))
            ons;
        all = λ k there t.
            let flat = flat_ends (edge_at es k) (zero_by (rise (edge_at es k)) (and_parts (is_zero (rise
            (edge_at es k)))
            (int_eq ((edge_at es k).a.y *ℤ l.d) l.n) t).0) in
            elim (number_split (take from fs) (fl ++ drop to fs) k
            (subst (λ (gs : List Flat). HasNumber gs k) (sym parts) (each_flat es fs k a there flat))) [
              | inl h ↦
                  let x = found es (λ f. IsLower (level_of f.y) l) (take from fs) k h
                  (all_take (IsFlatOf es) from fs a.each) lows in
                  let y = not_lower k x.0 x.1 x.2 t in
                  let less = x.3 in
                  absurd (omega (arith, ints, y, less))
              | inr h ↦ elim (number_split fl (drop to fs) k h) [
                | inl g ↦ g
                | inr g ↦
                    let x = found es (λ f. IsLower l (level_of f.y)) (drop to fs) k g
                    (all_drop (IsFlatOf es) to fs a.each) highs in
                    let y = not_lower k x.0 x.1 x.2 t in
                    let less = x.3 in
                    absurd (omega (arith, ints, y, less))
              ]
            ];
      }

  -- behind those of the level all are higher
  pub higher : (to : ℕ) → AllByRecursion (λ f. IsAtMost l (level_of f.y)) (drop to fs) → IsOff l (drop to fs)
      → AllByRecursion (λ f. IsLower l (level_of f.y)) (drop to fs)
  higher to most off = by_list (drop to fs) (ascend_drop to fs (ascend fs a.sorted)) most off
    where
      up : (x y : ℤ) → x ≤ℤ y → IsLower l (level_of x) → IsLower l (level_of y)
      up x y o h =
          let less : (x *ℤ l.d) ≤ℤ (y *ℤ l.d) = scaled_order x y l.d o d in
          omega (arith, ints, less, h)

      each : (f : Flat) (gs : List Flat) → AllByRecursion (IsNotAfter f) gs → IsLower l (level_of f.y)
          → AllByRecursion (λ g. IsLower l (level_of g.y)) gs
      each f [] b h = tt
      each f (g ∷ gs) b h = (up f.y g.y b.0.0 h, each f gs b.1 h)

      not_on : (f : Flat) → IsAtMost l (level_of f.y) → (f.y *ℤ l.d ≡ l.n → ⊥) → IsLower l (level_of f.y)
      not_on f m n = strictly (l.n *ℤ pos 1) (f.y *ℤ l.d) m (λ e. n (sym e ∙ by_one l.n))
        where
          strictly : (x y : ℤ) → x ≤ℤ y → (x ≡ y → ⊥) → x <ℤ y
          strictly x y o q = grind (arith, ints, o, q)

          by_one : (z : ℤ) → z *ℤ pos 1 ≡ z
          by_one z = omega (arith, ints)

      by_list : (gs : List Flat) → Ascend gs → AllByRecursion (λ f. IsAtMost l (level_of f.y)) gs → IsOff l gs
          → AllByRecursion (λ f. IsLower l (level_of f.y)) gs
      by_list [] s m o = tt
      by_list (f ∷ gs) s m o = (not_on f m.0 o, each f gs s.0 (not_on f m.0 o))

  -- from a place up to another, behind those that are lower
  module _ (from to : ℕ) (o : from ≤ to) (lows : AllByRecursion (λ f. IsLower (level_of f.y) l) (take from fs))
      (most : AllByRecursion (λ f. IsAtMost l (level_of f.y)) (drop from fs))
      (ons : AllByRecursion (LiesOn l) (take (to - from) (drop from fs))) (off : IsOff l (drop to fs)) where
    place : from + (to - from) ≡ to
    place = omega (arith, o)

    highs : AllByRecursion (λ f. IsLower l (level_of f.y)) (drop to fs)
    highs = higher to (subst (AllByRecursion (λ f. IsAtMost l (level_of f.y)))
        (drop-drop (to - from) from fs ∙ ap (λ (n : ℕ). drop n fs) place)
        (all_drop (λ f. IsAtMost l (level_of f.y)) (to - from) (drop from fs) most)) off

    pub level_flats : AreFlatsOn es l (take (to - from) (drop from fs))
    level_flats = flats_on from to o lows ons highs

    module _ (upper : Level) (n : AreNeighbours es l upper) where
      lower_up : (gs : List Flat) → AllByRecursion (λ f. IsLower (level_of f.y) l) gs
          → AllByRecursion (λ f. IsLower (level_of f.y) upper) gs
      lower_up [] a = tt
      lower_up (f ∷ gs) a = (
        lower_chain (level_of f.y) l upper (whole_up f.y) n.lower_divisor n.upper_divisor a.0 n.in_order,
        lower_up gs a.1,
      )

      on_up : (gs : List Flat) → AllByRecursion (LiesOn l) gs → AllByRecursion (λ f. IsLower (level_of f.y) upper) gs
      on_up [] a = tt
      on_up (f ∷ gs) a =
          let here = a.0 in (
            same_lower (level_of f.y) l upper (whole_up f.y) n.lower_divisor n.upper_divisor (omega (arith, ints, here))
                n.in_order,
            on_up gs a.1,
          )

      -- no height lies between the level and the next
      high_up : (gs : List Flat) → AllByRecursion (IsFlatOf es) gs → AllByRecursion (λ f. IsLower l (level_of f.y)) gs
          → AllByRecursion (λ f. IsAtMost upper (level_of f.y)) gs
      high_up [] i a = tt
      high_up (f ∷ gs) i a = (by_case either, high_up gs i.1 a.1)
        where
          either : IsAtMost (level_of f.y) l ⊎ IsAtMost upper (level_of f.y)
          either = subst (λ (y : ℤ). IsAtMost (level_of y) l ⊎ IsAtMost upper (level_of y)) i.0.height
              (all_ends (λ h. IsAtMost h l ⊎ IsAtMost upper h) es f.number no_edge (recursion_from_All
              (λ h. IsAtMost h l
              ⊎ IsAtMost upper h) (heights es) n.between) i.0.there).0

          by_case : IsAtMost (level_of f.y) l ⊎ IsAtMost upper (level_of f.y) → IsAtMost upper (level_of f.y)
          by_case (inl q) = let less = a.0 in absurd (omega (arith, ints, q, less))
          by_case (inr q) = q

      pub next_lower : AllByRecursion (λ f. IsLower (level_of f.y) upper) (take to fs)
      next_lower = subst (AllByRecursion (λ f. IsLower (level_of f.y) upper)) (take_then fs from to o)
          (all_append (λ f. IsLower (level_of f.y) upper) (take from fs) (take (to - from) (drop from fs))
          (lower_up (take from fs) lows) (on_up (take (to - from) (drop from fs)) ons))

      pub next_later : AllByRecursion (λ f. IsAtMost upper (level_of f.y)) (drop to fs)
      next_later = high_up (drop to fs) (all_drop (IsFlatOf es) to fs a.each) highs
