-- Two lists that ascend strictly and have the same members are one.
use Rattle.std.proofs.Common.{◌≡◌, inl, inr, List, [], ◌∷◌, refl, sym, ap, ap₂, ◌∙◌, subst}
use Rattle.std.specs.Cmp.{IsTotalOrder}
use Rattle.std.specs.List.{AllByRecursion, Contains}
use Rattle.std.specs.List.Sorted.{IsStrictlySortedBy}
use Rattle.std.specs.Ordering.{ordering_reverse}
use Rattle.std.specs.declared.cmp.Ordering.{Ordering}
use Rattle.std.specs.declared.cmp.Ordering.TheVariants.{Less, Equal, Greater}
use Rattle.std.proofs.lemmas.List.Elements.{All-from_recursion, All-contains}
use Rattle.scad_hull.specs.Distinct.{distinct}
use Rattle.scad_hull.specs.Faces.{In}
use Rattle.scad_hull.proofs.Closing.{of_in}
use Rattle.scad_hull.proofs.Distincts.{distinct_keeps, distinct_had}
use Rattle.scad_hull.proofs.FacePlanes.{all_changed}
use Rattle.scad_hull.proofs.Fans.{Differ}

pub all_in : {X : Type 0} (xs : List X) → AllByRecursion (λ y. In y xs) xs
all_in [] = tt
all_in (x ∷ xs) = (inl refl, all_changed (λ y i. inr i) xs (all_in xs))

pub in_of : {X : Type 0} (xs : List X) (x : X) → Contains xs x → In x xs
in_of xs x i = All-contains (λ y. In y xs) xs x (All-from_recursion (λ y. In y xs) xs (all_in xs)) i

clash : Less ≡ Greater → ⊥
clash e = cc

module _ {X : Type 0} (c : X → X → Ordering) (total : IsTotalOrder c) where
  both_less : (x y : X) → c x y ≡ Less → c y x ≡ Less → ⊥
  both_less x y h k = clash (sym h ∙ total.antisymm x y ∙ ap ordering_reverse k)

  not_less : (x y : X) → x ≡ y → c x y ≡ Less → ⊥
  not_less x y e h =
      let k : c x x ≡ Less = subst (λ z. c x z ≡ Less) (sym e) h in
      both_less x x k k

  apart : (x : X) (ys : List X) → AllByRecursion (λ y. c x y ≡ Less) ys
      → AllByRecursion (λ y. x ≡ y → ⊥) ys
  apart x [] h = tt
  apart x (y ∷ ys) h = (λ e. not_less x y e h.0, apart x ys h.1)

  pub differ : (xs : List X) → IsStrictlySortedBy c xs → Differ xs
  unfolding IsStrictlySortedBy
  differ [] h = tt
  differ (x ∷ xs) h = (apart x xs h.0, differ xs h.1)

  behind : (x y : X) (xs ys : List X) → x ≡ y → AllByRecursion (λ z. c x z ≡ Less) xs
      → ((z : X) → In z (x ∷ xs) → In z (y ∷ ys)) → (z : X) → In z xs → In z ys
  behind x y xs ys e h f z i = by_place (f z (inr i))
    where
      by_place : In z (y ∷ ys) → In z ys
      by_place (inr j) = j
      by_place (inl g) = absurd (not_less x z (e ∙ sym g) (of_in (λ w. c x w ≡ Less) xs z h i))

  heads : (x y : X) (xs ys : List X) → AllByRecursion (λ z. c x z ≡ Less) xs
      → AllByRecursion (λ z. c y z ≡ Less) ys → In x (y ∷ ys) → In y (x ∷ xs) → x ≡ y
  heads x y xs ys h k (inl e) j = e
  heads x y xs ys h k (inr i) (inl e) = sym e
  heads x y xs ys h k (inr i) (inr j) =
      absurd (both_less x y (of_in (λ z. c x z ≡ Less) xs y h j) (of_in (λ z. c y z ≡ Less) ys x k i))

  pub same_lists : (xs ys : List X) → IsStrictlySortedBy c xs → IsStrictlySortedBy c ys
      → ((z : X) → In z xs → In z ys) → ((z : X) → In z ys → In z xs) → xs ≡ ys
  unfolding IsStrictlySortedBy
  same_lists [] [] h k f g = refl
  same_lists [] (y ∷ ys) h k f g = absurd (g y (inl refl))
  same_lists (x ∷ xs) [] h k f g = absurd (f x (inl refl))
  same_lists (x ∷ xs) (y ∷ ys) h k f g =
      let e = heads x y xs ys h.0 k.0 (f x (inl refl)) (g y (inl refl)) in
      ap₂ (λ z zs. z ∷ zs) e
      (same_lists xs ys h.1 k.1 (behind x y xs ys e h.0 f) (behind y x ys xs (sym e) k.0 g))

  -- ---- the members of a list, each once
  pub from_distinct : (xs : List X) (z : X) → In z (distinct c xs) → In z xs
  from_distinct xs z i = of_in (λ y. In y xs) (distinct c xs) z (distinct_keeps c (λ y. In y xs) xs (all_in xs)) i

  pub to_distinct : ((x y : X) → c x y ≡ Equal → x ≡ y) → (xs : List X) (z : X) → In z xs
      → In z (distinct c xs)
  to_distinct exact xs z i =
      of_in (λ y. In y (distinct c xs)) xs z
      (distinct_had c exact (λ y. In y (distinct c xs)) xs (all_in (distinct c xs))) i
