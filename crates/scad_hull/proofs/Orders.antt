-- Distinct points of one kind as those of another.
use Rattle.std.proofs.Common.{◌≡◌, List, [], ◌∷◌, map, ℤ, refl, ap, sym, ◌∙◌}
use Rattle.std.specs.BTreeSet.{insert_key}
use Rattle.std.specs.List.{AllByRecursion}
use Rattle.std.specs.List.Sorted.{IsStrictlySortedBy}
use Rattle.std.specs.Ordering.{match_ordering}
use Rattle.std.specs.declared.cmp.Ordering.{Ordering}
use Rattle.std.specs.declared.cmp.Ordering.TheVariants.{Less, Equal, Greater}
use Rattle.std.specs.Ordering.{int_cmp, ordering_then}
use Rattle.scad_hull.specs.Distinct.{distinct, with_all}
use Rattle.scad_hull.specs.Flat.{flat_cmp}
use Rattle.scad_hull.specs.Spot.{spot_of, pair_of}
use Rattle.scad_hull.specs.declared.spot.Spot.{Spot}
use Rattle.scad_geom.specs.declared.point3.Pt3.{Pt3}
use Rattle.scad_hull.specs.declared.node.Node.{Node}
use Rattle.scad_hull.specs.Node.{node_of, point_of}
use Rattle.scad_hull.specs.Space.{space_cmp}

module _ {X Y : Type 0} (f : X → Y) (c : X → X → Ordering) (d : Y → Y → Ordering)
    (same : (x y : X) → c x y ≡ d (f x) (f y)) where
  pub put_same : (ks : List X) (k : X) → map f (insert_key c ks k) ≡ insert_key d (map f ks) (f k)
  put_same [] k = refl
  put_same (x ∷ xs) k =
      elim (c k x) as (λ o. d (f k) (f x) ≡ o → map f
      (match_ordering o (k ∷ (x ∷ xs)) (x ∷ xs) (x ∷ insert_key c xs k))
      ≡ insert_key d (f x ∷ map f xs) (f k)) [
        | Less ↦ (λ e. ap (λ o. match_ordering o (f k ∷ (f x ∷ map f xs)) (f x ∷ map f xs)
            (f x ∷ insert_key d (map f xs) (f k))) (sym e))
        | Equal ↦ (λ e. ap (λ o. match_ordering o (f k ∷ (f x ∷ map f xs)) (f x ∷ map f xs)
            (f x ∷ insert_key d (map f xs) (f k))) (sym e))
        | Greater ↦ (λ e.
            ap (λ ys. f x ∷ ys) (put_same xs k)
            ∙ ap (λ o. match_ordering o (f k ∷ (f x ∷ map f xs)) (f x ∷ map f xs)
            (f x ∷ insert_key d (map f xs) (f k))) (sym e))
      ] (sym (same k x))

  all_same : (ks ps : List X) → map f (with_all c ks ps) ≡ with_all d (map f ks) (map f ps)
  all_same ks [] = refl
  all_same ks (p ∷ ps) = all_same (insert_key c ks p) ps ∙ ap (λ js. with_all d js (map f ps)) (put_same ks p)

  pub distinct_same : (ps : List X) → map f (distinct c ps) ≡ distinct d (map f ps)
  distinct_same ps = all_same [] ps

  below_all : (x : X) (xs : List X) → AllByRecursion (λ y. c x y ≡ Less) xs
      → AllByRecursion (λ y. d (f x) y ≡ Less) (map f xs)
  below_all x [] h = tt
  below_all x (y ∷ ys) h = (sym (same x y) ∙ h.0, below_all x ys h.1)

  pub sorted_same : (xs : List X) → IsStrictlySortedBy c xs → IsStrictlySortedBy d (map f xs)
  unfolding IsStrictlySortedBy
  sorted_same [] h = tt
  sorted_same (x ∷ xs) h = (below_all x xs h.0, sorted_same xs h.1)

-- ---- points with their height first
abbrev pub spot_cmp : Spot → Spot → Ordering
spot_cmp p q = ordering_then (int_cmp p.y q.y) (int_cmp p.x q.x)

there_and_back : (ps : List (ℤ × ℤ)) → map pair_of (map spot_of ps) ≡ ps
there_and_back [] = refl
there_and_back (p ∷ ps) = ap (λ qs. p ∷ qs) (there_and_back ps)

pub spots_same : (ps : List (ℤ × ℤ)) → map pair_of (distinct spot_cmp (map spot_of ps)) ≡ distinct flat_cmp ps
spots_same ps = distinct_same pair_of spot_cmp flat_cmp (λ x y. refl) (map spot_of ps)
    ∙ ap (distinct flat_cmp) (there_and_back ps)

pub spots_sorted : (ss : List Spot) → IsStrictlySortedBy spot_cmp ss → IsStrictlySortedBy flat_cmp (map pair_of ss)
spots_sorted ss h = sorted_same pair_of spot_cmp flat_cmp (λ x y. refl) ss h

-- ---- points of space
abbrev pub node_cmp : Node → Node → Ordering
node_cmp p q = ordering_then (int_cmp p.z q.z) (ordering_then (int_cmp p.y q.y) (int_cmp p.x q.x))

pub points_again : (ps : List Pt3) → map point_of (map node_of ps) ≡ ps
points_again [] = refl
points_again (p ∷ ps) = ap (λ qs. p ∷ qs) (points_again ps)

pub nodes_same : (ps : List Pt3) → map point_of (distinct node_cmp (map node_of ps)) ≡ distinct space_cmp ps
nodes_same ps = distinct_same point_of node_cmp space_cmp (λ x y. refl) (map node_of ps)
    ∙ ap (distinct space_cmp) (points_again ps)

pub nodes_sorted : (ns : List Node) → IsStrictlySortedBy node_cmp ns
    → IsStrictlySortedBy space_cmp (map point_of ns)
nodes_sorted ns h = sorted_same point_of node_cmp space_cmp (λ x y. refl) ns h
