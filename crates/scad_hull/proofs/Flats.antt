-- The hull of points of the plane is the convex ring round them.
use Rattle.std.proofs.Common.{◌≡◌, Bool, true, false, List, [], ◌∷◌, length, ℤ, Option, Some, None, Result, Ok, Err, refl, ap, sym, ◌∙◌, subst, All, lit<}
use Rattle.std.specs.Prelude.{if◌then◌else◌, nat_lt}
use Rattle.std.specs.Cmp.{IsTotalOrder}
use Rattle.std.specs.List.{AllByRecursion, Contains}
use Rattle.std.specs.List.Sorted.{IsStrictlySortedBy}
use Rattle.std.specs.Ordering.{int_cmp}
use Rattle.std.specs.declared.cmp.Ordering.TheVariants.{Less, Equal}
use Rattle.std.proofs.lemmas.Cmp.{int_cmp_total, then_total, on_total}
use Rattle.std.proofs.lemmas.Map.Lookups.{exact_signed}
use Rattle.std.proofs.lemmas.List.Elements.{All-from_recursion, All-contains_itself, All-contains}
use Rattle.scad_base.proofs.Tests.{both_equal}
use Rattle.scad_hull.specs.declared.fault.HullFault.{HullFault}
use Rattle.scad_hull.specs.declared.fault.HullFault.TheVariants.{Points}
use Rattle.scad_hull.specs.Chain.{ring_round}
use Rattle.scad_hull.specs.Ring.{round, IsRightOfNone, IsConvexRing}
use Rattle.scad_hull.specs.Distinct.{distinct}
use Rattle.scad_hull.specs.Flat.{flat_cmp, flat_left, are_on_line, point_count_limit}
use Rattle.scad_hull.specs.Laws.{IsFlatBefore, RingsAreConvex}
use Rattle.scad_hull.proofs.Chains.{Ascends}
use Rattle.scad_hull.proofs.Planar.{Same, IsAfter, plane, turned_plane}
use Rattle.scad_hull.proofs.Whole.{ring_made, recursion_of}
use Rattle.scad_hull.proofs.Lines.{before_of, line_of, few_on}
use Rattle.scad_hull.proofs.Distincts.{distinct_keeps, distinct_had, distinct_sorted}

-- ---- the order
pub flat_total : IsTotalOrder flat_cmp
flat_total = then_total (on_total (λ (p : ℤ × ℤ). p.1) int_cmp_total)
    (on_total (λ (p : ℤ × ℤ). p.0) int_cmp_total)

pub flat_exact : (p q : ℤ × ℤ) → flat_cmp p q ≡ Equal → p ≡ q
flat_exact p q e =
    let both = both_equal (int_cmp p.1 q.1) (int_cmp p.0 q.0) e in
    let y = exact_signed _ _ both.0 in
    let x = exact_signed _ _ both.1 in
    λ i. (x i, y i)

abbrev pub x_of : ℤ × ℤ → ℤ
x_of p = p.0

abbrev pub y_of : ℤ × ℤ → ℤ
y_of p = p.1

abbrev FlatSame : ℤ × ℤ → ℤ × ℤ → Type 0
FlatSame = Same x_of y_of

all_before : (p : ℤ × ℤ) (qs : List (ℤ × ℤ)) → AllByRecursion (λ q. flat_cmp p q ≡ Less) qs
    → AllByRecursion (IsFlatBefore p) qs
all_before p [] h = tt
all_before p (q ∷ qs) h = (before_of p q h.0, all_before p qs h.1)

pub flat_ascends : (ps : List (ℤ × ℤ)) → IsStrictlySortedBy flat_cmp ps
    → Ascends flat_left IsFlatBefore FlatSame (plane x_of y_of) ps
unfolding IsStrictlySortedBy
flat_ascends [] h = tt
flat_ascends (p ∷ ps) h = (all_before p ps h.0, flat_ascends ps h.1)

-- ---- the ring
told_apart : true ≡ false → ⊥
told_apart e = cc

pub sorted_ring : (ps : List (ℤ × ℤ)) → IsStrictlySortedBy flat_cmp ps → are_on_line ps ≡ false
    → IsConvexRing flat_left IsFlatBefore ps (ring_round flat_left ps)
sorted_ring [] s e = absurd (told_apart (sym (few_on [] (lit< tt)) ∙ e))
sorted_ring (m ∷ []) s e = absurd (told_apart (sym (few_on (m ∷ []) (lit< tt)) ∙ e))
sorted_ring (m ∷ (p ∷ ps)) s e =
    ring_made flat_left IsFlatBefore (IsAfter x_of y_of) FlatSame (plane x_of y_of) (turned_plane x_of y_of)
    (λ a b h. h) (λ a b h. h) m p ps
    (flat_ascends (m ∷ (p ∷ ps)) s)
    (λ a b h line. told_apart (sym (line_of a b h (m ∷ (p ∷ ps)) line) ∙ e))

-- the same points, in order and each once
module _ (points : List (ℤ × ℤ)) where
  abbrev pub sorted : List (ℤ × ℤ)
  sorted = distinct flat_cmp points

  pub of_points : (ring : List (ℤ × ℤ)) → IsConvexRing flat_left IsFlatBefore sorted ring
      → IsConvexRing flat_left IsFlatBefore points ring
  of_points ring h = record {
    three = h.three;
    corners = λ k d i. All-contains (Contains points) sorted _ listed (h.corners k d i);
    holds = All-from_recursion (λ q. IsRightOfNone flat_left q (round ring)) points
        (distinct_had flat_cmp flat_exact (λ q. IsRightOfNone flat_left q (round ring)) points
        (recursion_of _ sorted h.holds));
    turns = h.turns;
    starts = h.starts;
  }
    where
      listed : All (Contains points) sorted
      listed = All-from_recursion (Contains points) sorted
          (distinct_keeps flat_cmp (Contains points) points (recursion_of _ points (All-contains_itself points)))

  abbrev pub answer_by : Bool → Bool → Result (Option (List (ℤ × ℤ))) HullFault
  answer_by many line = if many then Err (Points (length sorted)) else Ok
      (if line then None else Some (ring_round flat_left sorted))

  refused : (f : HullFault) (r : Option (List (ℤ × ℤ))) → Err f ≡ Ok r → ⊥
  refused f r e = cc

  nothing : (ring : List (ℤ × ℤ)) → answer_by false true ≡ Ok (Some ring) → ⊥
  nothing ring e = cc

  inner : Result (Option (List (ℤ × ℤ))) HullFault → List (ℤ × ℤ)
  inner (Ok (Some ring)) = ring
  inner (Ok None) = []
  inner (Err f) = []

  by_answer : (many line : Bool) (ring : List (ℤ × ℤ)) → are_on_line sorted ≡ line → answer_by many line
      ≡ Ok (Some ring) → IsConvexRing flat_left IsFlatBefore points ring
  unfolding inner
  by_answer true line ring l e = absurd (refused (Points (length sorted)) (Some ring) e)
  by_answer false true ring l e = absurd (nothing ring e)
  by_answer false false ring l e =
      subst (IsConvexRing flat_left IsFlatBefore points) (ap inner e)
      (of_points (ring_round flat_left sorted) (sorted_ring sorted (distinct_sorted flat_cmp flat_total points) l))

pub rings_are_convex : RingsAreConvex
rings_are_convex = record {
  each = λ points ring e. by_answer points (nat_lt point_count_limit (length (distinct flat_cmp points)))
      (are_on_line (distinct flat_cmp points)) ring refl e;
}
