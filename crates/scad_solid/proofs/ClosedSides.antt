-- A surface is closed exactly where its sides and their reverses are the same list once both are sorted.
use Rattle.std.proofs.Common.{◌≡◌, ℕ, zero, suc, ◌<◌, Bool, true, cond, ◌&&◌, ◌==◌, List, [], ◌∷◌, length, get_or, map, arith, refl, ap, ap₂, sym, ◌∙◌, subst, ◌⊎◌, inl, inr}
use Rattle.std.proofs.lemmas.Bool.{and_parts}
use Rattle.std.proofs.Math.Bool.{and_comm}
use Rattle.std.specs.Cmp.{both_ways}
use Rattle.std.specs.Cmp.Lexicographic.{pointwise}
use Rattle.std.specs.List.{sum_by, list_all}
use Rattle.std.specs.List.Sorted.{IsSorted, IsPermutation}
use Rattle.std.proofs.lemmas.List.Sorted.{sum_by-IsPermutation}
use Rattle.std.proofs.lemmas.Slice.Eq.{slice_eq-Decides}
use Rattle.scad_solid.specs.declared.side.Side.{Side}
use Rattle.scad_solid.specs.declared.triangle.Triangle.{Triangle}
use Rattle.scad_solid.specs.Side.{reversed, same_point, same_side}
use Rattle.scad_solid.specs.Surface.{sides, occurrences, is_closed}
use Rattle.scad_solid.proofs.Multiset.{same_ascending, same_sums, times_in-cons, place_of}
use Rattle.scad_solid.proofs.SideOrder.{side_cmp, side_total, side_exact, side_Decides}
use borrow.Author.Tests.{eqb-true, eq-eqb}

-- a side is the reverse of another where its reverse is that other
occurrences-reversed : (s : Side) (ss : List Side) → occurrences s (map reversed ss) ≡ occurrences (reversed s) ss
occurrences-reversed s [] = refl
occurrences-reversed s (t ∷ ss) =
    let swapped : cond {A = ℕ} (same_side s (reversed t)) 1 0 ≡ cond (same_side (reversed s) t) 1 0 =
    ap {B = ℕ} (λ b. cond b 1 0) (and_comm (same_point s.from t.to) (same_point s.to t.from)) in
    omega (
      arith,
      times_in-cons same_side side_Decides s (reversed t) (map reversed ss),
      times_in-cons same_side
          side_Decides (reversed s) t ss,
      occurrences-reversed s ss,
    )

-- each side, whether it occurs or not, occurs as often as its reverse
pub record IsClosed (ts : List Triangle) : Type 0 where
  pub each : (s : Side) → occurrences s (sides ts) ≡ occurrences (reversed s) (sides ts)

-- a test that all elements pass, at one of them
list_all-at : {X : Type 0} (p : X → Bool) (xs : List X) (i : ℕ) (d : X) → list_all p xs ≡ true → i < length xs
    → p (get_or xs i d) ≡ true
list_all-at p [] i d all inside = absurd (omega arith)
list_all-at p (x ∷ xs) zero d all inside = (and_parts (p x) (list_all p xs) all).0
list_all-at p (x ∷ xs) (suc i) d all inside = list_all-at p xs i d (and_parts (p x) (list_all p xs) all).1 (omega arith)

list_all-each : {X : Type 0} (p : X → Bool) → ((x : X) → p x ≡ true) → (xs : List X) → list_all p xs ≡ true
list_all-each p each [] = refl
list_all-each p each (x ∷ xs) = ap₂ (λ a b. a && b) (each x) (list_all-each p each xs)

-- where it occurs, the test speaks of it
told_at : (ts : List Triangle) → is_closed ts ≡ true → (s : Side) → 0 < occurrences s (sides ts)
    → occurrences s (sides ts) ≡ occurrences (reversed s) (sides ts)
unfolding is_closed
told_at ts all s some =
    let p : Side → Bool = λ t. occurrences t (sides ts) == occurrences (reversed t) (sides ts) in
    let (i, inside, is) = place_of same_side side_Decides s (sides ts) some in
    eqb-true (occurrences s (sides ts)) (occurrences (reversed s) (sides ts))
    (subst (λ t. p t ≡ true) is (list_all-at p (sides ts) i s all inside))

none_or_some : (n : ℕ) → (n ≡ 0) ⊎ (0 < n)
none_or_some zero = inl refl
none_or_some (suc n) = inr (omega arith)

pub IsClosed-is_closed : (ts : List Triangle) → is_closed ts ≡ true → IsClosed ts
IsClosed-is_closed ts all = record { each = each }
  where
    each : (s : Side) → occurrences s (sides ts) ≡ occurrences (reversed s) (sides ts)
    each s =
        elim (none_or_some (occurrences s (sides ts))) [
          | inr some ↦ told_at ts all s some
          | inl none ↦ elim (none_or_some (occurrences (reversed s) (sides ts))) [
            | inr some ↦ sym (told_at ts all (reversed s) some)
            | inl none_back ↦ none ∙ sym none_back
          ]
        ]

pub is_closed-IsClosed : (ts : List Triangle) → IsClosed ts → is_closed ts ≡ true
unfolding is_closed
is_closed-IsClosed ts closed = list_all-each _ (λ s. eq-eqb (occurrences s (sides ts))
    (occurrences (reversed s) (sides ts)) (closed.each s)) (sides ts)

-- over a closed surface, a sum over the sides is the sum over their reverses
pub sum_by-reversed : (ts : List Triangle) → is_closed ts ≡ true → (f : Side → ℕ) → sum_by f (map reversed (sides ts))
    ≡ sum_by f (sides ts)
sum_by-reversed ts all f =
    let closed = IsClosed-is_closed ts all in
    same_sums same_side side_Decides (map reversed (sides ts)) (sides ts) (λ s. occurrences-reversed s (sides ts) ∙ sym
    (closed.each s)) f

-- what the sorted lists tell
pub sorted_tells : (ts : List Triangle) (forwards backwards : List Side) (r : Bool) → IsPermutation (sides ts) forwards
    → IsPermutation (map reversed (sides ts)) backwards → IsSorted side_cmp forwards → IsSorted side_cmp backwards
    → r ≡ pointwise same_side forwards backwards → r ≡ is_closed ts
sorted_tells ts forwards backwards r ahead behind up_ahead up_behind test =
    both_ways r (is_closed ts)
    (λ yes.
    let same : forwards ≡ backwards = (slice_eq-Decides side_Decides forwards backwards r test).0 yes in
    is_closed-IsClosed ts (record { each = λ s. sym (count_ahead s) ∙ ap (occurrences s) same ∙ count_behind s }))
    (λ yes.
    let closed = IsClosed-is_closed ts yes in
    (slice_eq-Decides side_Decides forwards backwards r test).1
    (same_ascending same_side side_Decides side_cmp side_total side_exact forwards backwards up_ahead up_behind
    (λ s. count_ahead s ∙ closed.each s ∙ sym (count_behind s))))
  where
    count_ahead : (s : Side) → occurrences s forwards ≡ occurrences s (sides ts)
    count_ahead s = sum_by-IsPermutation (λ t. cond (same_side s t) 1 0) (sides ts) forwards ahead

    count_behind : (s : Side) → occurrences s backwards ≡ occurrences (reversed s) (sides ts)
    count_behind s = sum_by-IsPermutation (λ t. cond (same_side s t) 1 0) (map reversed (sides ts)) backwards behind ∙
        occurrences-reversed s (sides ts)
