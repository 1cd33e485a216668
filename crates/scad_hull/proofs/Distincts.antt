-- Distinct points: they ascend, and are the points that were given.
use Rattle.std.proofs.Common.{◌≡◌, List, [], ◌∷◌, refl, ap, sym, ◌∙◌, subst}
use Rattle.std.specs.BTreeSet.{insert_key}
use Rattle.std.specs.Cmp.{IsTotalOrder}
use Rattle.std.specs.List.{AllByRecursion}
use Rattle.std.specs.List.Sorted.{IsStrictlySortedBy}
use Rattle.std.specs.Ordering.{match_ordering, ordering_reverse}
use Rattle.std.specs.declared.cmp.Ordering.{Ordering}
use Rattle.std.specs.declared.cmp.Ordering.TheVariants.{Less, Equal, Greater}
use Rattle.scad_hull.specs.Distinct.{distinct, with_all}

module _ {X : Type 0} (c : X → X → Ordering) where
  -- ---- what holds of all
  put_keeps : (P : X → Type 0) (ks : List X) (k : X) → AllByRecursion P ks → P k
      → AllByRecursion P (insert_key c ks k)
  put_keeps P [] k h p = (p, tt)
  put_keeps P (x ∷ xs) k h p =
      elim (c k x) as (λ o. AllByRecursion P
      (match_ordering o (k ∷ (x ∷ xs)) (x ∷ xs) (x ∷ insert_key c xs k))) [
        | Less ↦ (p, h)
        | Equal ↦ h
        | Greater ↦ (h.0, put_keeps P xs k h.1 p)
      ]

  pub all_keeps : (P : X → Type 0) (ks ps : List X) → AllByRecursion P ks → AllByRecursion P ps
      → AllByRecursion P (with_all c ks ps)
  all_keeps P ks [] h g = h
  all_keeps P ks (p ∷ ps) h g = all_keeps P (insert_key c ks p) ps (put_keeps P ks p h g.0) g.1

  pub distinct_keeps : (P : X → Type 0) (ps : List X) → AllByRecursion P ps → AllByRecursion P (distinct c ps)
  distinct_keeps P ps h = all_keeps P [] ps tt h

  module _ (exact : (x y : X) → c x y ≡ Equal → x ≡ y) where
    put_had : (P : X → Type 0) (ks : List X) (k : X) → AllByRecursion P (insert_key c ks k)
        → P k × AllByRecursion P ks
    put_had P [] k h = (h.0, tt)
    put_had P (x ∷ xs) k h =
        elim (c k x) as (λ o. c k x ≡ o → AllByRecursion P
        (match_ordering o (k ∷ (x ∷ xs)) (x ∷ xs) (x ∷ insert_key c xs k))
        → P k × AllByRecursion P (x ∷ xs)) [
          | Less ↦ (λ e g. (g.0, g.1))
          | Equal ↦ (λ e g. (subst P (sym (exact k x e)) g.0, g))
          | Greater ↦ (λ e g. let r = put_had P xs k g.1 in (r.0, (g.0, r.1)))
        ] refl h

    all_had : (P : X → Type 0) (ks ps : List X) → AllByRecursion P (with_all c ks ps) → AllByRecursion P ks
        × AllByRecursion P ps
    all_had P ks [] h = (h, tt)
    all_had P ks (p ∷ ps) h =
        let r = all_had P (insert_key c ks p) ps h in
        let had = put_had P ks p r.0 in
        (had.1, (had.0, r.1))

    pub distinct_had : (P : X → Type 0) (ps : List X) → AllByRecursion P (distinct c ps) → AllByRecursion P ps
    distinct_had P ps h = (all_had P [] ps h).1

  -- ---- the order
  module _ (total : IsTotalOrder c) where
    below_later : (k x : X) (xs : List X) → c k x ≡ Less → AllByRecursion (λ y. c x y ≡ Less) xs
        → AllByRecursion (λ y. c k y ≡ Less) xs
    below_later k x [] e h = tt
    below_later k x (y ∷ ys) e h = (total.trans k x y e h.0, below_later k x ys e h.1)

    put_sorted : (ks : List X) (k : X) → IsStrictlySortedBy c ks → IsStrictlySortedBy c (insert_key c ks k)
    unfolding IsStrictlySortedBy
    put_sorted [] k h = (tt, tt)
    put_sorted (x ∷ xs) k h =
        elim (c k x) as (λ o. c k x ≡ o → IsStrictlySortedBy c
        (match_ordering o (k ∷ (x ∷ xs)) (x ∷ xs) (x ∷ insert_key c xs k))) [
          | Less ↦ (λ e. ((e, below_later k x xs e h.0), h))
          | Equal ↦ (λ e. h)
          | Greater ↦ (λ e. (
            put_keeps (λ y. c x y ≡ Less) xs k h.0 (total.antisymm x k ∙ ap ordering_reverse e),
            put_sorted xs k h.1,
          ))
        ] refl

    all_sorted : (ks ps : List X) → IsStrictlySortedBy c ks → IsStrictlySortedBy c (with_all c ks ps)
    all_sorted ks [] h = h
    all_sorted ks (p ∷ ps) h = all_sorted (insert_key c ks p) ps (put_sorted ks p h)

    pub distinct_sorted : (ps : List X) → IsStrictlySortedBy c (distinct c ps)
    unfolding IsStrictlySortedBy
    distinct_sorted ps = all_sorted [] ps tt
