-- Points of the plane have one convex ring, which is their hull.
use Rattle.std.proofs.Common.{◌≡◌, ℕ, ◌<◌, ◌≤◌, Bool, true, false, List, [], ◌∷◌, length, ℤ, pos, Some, Ok, refl, ap, arith}
use lib.Signed.{◌<ℤ◌}
use borrow.Author.Tests.{ltb-true}
use Rattle.std.specs.Prelude.{nat_lt}
use Rattle.std.specs.List.{Contains, list_all}
use Rattle.std.proofs.lemmas.Int.{ints}
use Rattle.std.proofs.lemmas.List.Elements.{All-from_recursion, All-contains, All-contains_itself}
use Rattle.scad_geom.specs.Sign.{is_zero}
use Rattle.scad_geom.proofs.Signs.{zero_true}
use Rattle.scad_hull.specs.Chain.{ring_round}
use Rattle.scad_hull.specs.Distinct.{distinct}
use Rattle.scad_hull.specs.Ring.{IsConvexRing}
use Rattle.scad_hull.specs.Flat.{flat_cmp, flat_left, are_on_line, point_count_limit}
use Rattle.scad_hull.specs.Laws.{IsFlatBefore, RingsAreOne}
use Rattle.scad_hull.proofs.Planar.{Same, plane}
use Rattle.scad_hull.proofs.Lines.{each_of}
use Rattle.scad_hull.proofs.Distincts.{distinct_had, distinct_sorted}
use Rattle.scad_hull.proofs.Whole.{recursion_of}
use Rattle.scad_hull.proofs.OneRing.{one_ring, onward_ahead}
use Rattle.scad_hull.proofs.Flats.{x_of, y_of, flat_exact, flat_total, sorted_ring, sorted, of_points, answer_by}

on_line : (ps : List (ℤ × ℤ)) → are_on_line ps ≡ true → (p q r : ℤ × ℤ) → Contains ps p
    → Contains ps q → Contains ps r → flat_left p q r ≡ pos 0
on_line ps e p q r ip iq ir =
    let rows = All-contains (λ x. list_all (λ y. list_all (λ z. is_zero (flat_left x y z)) ps) ps ≡ true) ps p
    (All-from_recursion _ ps (each_of (λ x. list_all (λ y. list_all (λ z. is_zero (flat_left x y z)) ps) ps) ps
    e)) ip in
    let row = All-contains (λ y. list_all (λ z. is_zero (flat_left p y z)) ps ≡ true) ps q
    (All-from_recursion _ ps (each_of (λ y. list_all (λ z. is_zero (flat_left p y z)) ps) ps rows)) iq in
    zero_true (flat_left p q r) (All-contains (λ z. is_zero (flat_left p q z) ≡ true) ps r
    (All-from_recursion _ ps (each_of (λ z. is_zero (flat_left p q z)) ps row)) ir)

module _ (points : List (ℤ × ℤ)) where
  still_there : (p : ℤ × ℤ) → Contains points p → Contains (sorted points) p
  still_there p i =
      All-contains (Contains (sorted points)) points p
      (All-from_recursion (Contains (sorted points)) points
      (distinct_had flat_cmp flat_exact (Contains (sorted points)) points
      (recursion_of (Contains (sorted points)) (sorted points) (All-contains_itself (sorted points))))) i

  too_short : (n : ℤ × ℤ) → 3 ≤ length (n ∷ []) → ⊥
  too_short n h = omega arith

  short_too : (n o : ℤ × ℤ) → 3 ≤ length (n ∷ (o ∷ [])) → ⊥
  short_too n o h = omega arith

  turned : (z : ℤ) → z ≡ pos 0 → pos 0 <ℤ z → ⊥
  turned z e h = omega (arith, ints)

  not_on_line : (ring : List (ℤ × ℤ)) → IsConvexRing flat_left IsFlatBefore points ring
      → are_on_line (sorted points) ≡ true → ⊥
  not_on_line [] h e = h.starts
  not_on_line (a ∷ []) h e = too_short a h.three
  not_on_line (a ∷ (b ∷ [])) h e = short_too a b h.three
  not_on_line (a ∷ (b ∷ (c ∷ rs))) h e =
      let i = recursion_of (Contains points) (a ∷ (b ∷ (c ∷ rs))) h.corners in
      turned (flat_left a b c) (on_line (sorted points) e a b c (still_there a i.0) (still_there b i.1.0)
      (still_there c i.1.1.0)) h.turns.0

  pair_exact : (p q : ℤ × ℤ) → Same x_of y_of p q → p ≡ q
  pair_exact p q s = let x = s.0 in let y = s.1 in λ i. (x i, y i)

  is_hull : (ring : List (ℤ × ℤ)) → IsConvexRing flat_left IsFlatBefore points ring → (many line : Bool)
      → nat_lt point_count_limit (length (sorted points)) ≡ many → are_on_line (sorted points) ≡ line
      → length (sorted points) ≤ point_count_limit → answer_by points many line ≡ Ok (Some ring)
  is_hull ring h true line m l f = absurd (more (length (sorted points)) f m)
    where
      more : (n : ℕ) → n ≤ point_count_limit → nat_lt point_count_limit n ≡ true → ⊥
      more n f m = let g : point_count_limit < n = ltb-true point_count_limit n m in omega arith
  is_hull ring h false true m l f = absurd (not_on_line ring h l)
  is_hull ring h false false m l f =
      ap (λ r. Ok (Some r))
      (one_ring x_of y_of IsFlatBefore (Same x_of y_of) (plane x_of y_of) points (λ p q ip iq s. pair_exact p q s)
      (λ p q ip iq s. pair_exact p q s) (onward_ahead x_of y_of)
      (ring_round flat_left (sorted points)) ring
      (of_points points (ring_round flat_left (sorted points))
      (sorted_ring (sorted points) (distinct_sorted flat_cmp flat_total points) l)) h)

pub rings_are_one : RingsAreOne
rings_are_one = record {
  each = λ points ring h f. is_hull points ring h (nat_lt point_count_limit (length (distinct flat_cmp points)))
      (are_on_line (distinct flat_cmp points)) refl refl f;
}
