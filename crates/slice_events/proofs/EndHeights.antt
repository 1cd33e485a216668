-- The heights of ends in another order.
use Rattle.std.proofs.Common.{◌≡◌, ◌≤◌, List, [], ◌∷◌, ◌++◌, map, All, refl, sym, ap, subst}
use lib.IntN.{ℤ}
use Rattle.std.specs.Prelude.{unsigned_abs}
use Rattle.std.specs.List.{AllByRecursion}
use Rattle.std.specs.List.Sorted.{IsPermutation}
use Rattle.std.proofs.lemmas.List.Elements.{recursion_from_All, All-from_recursion}
use Rattle.std.proofs.lemmas.List.Sorted.{All-permutation, IsPermutation-map, IsPermutation-append_right}
use Rattle.scad_geom.specs.Limits.{coordinate_limit}
use Rattle.scad_geom.specs.Within.{IsEdgeWithin}
use Rattle.scad_geom.specs.declared.level.Level.{Level}
use Rattle.scad_geom.specs.declared.level.LeafEdge.{LeafEdge}
use Rattle.scad_geom.specs.Level.{level_of}
use Rattle.slice_events.specs.Collection.{end_ys, end_levels}

of_ys : (es : List LeafEdge) → map level_of (end_ys es) ≡ end_levels es
of_ys [] = refl
of_ys (e ∷ es) = ap (λ (ls : List Level). level_of e.edge.a.y ∷ level_of e.edge.b.y ∷ ls) (of_ys es)

pub ends_rearranged : (es : List LeafEdge) (ys : List ℤ) (before after : List Level) → IsPermutation (end_ys es) ys
    → after ≡ before ++ map level_of ys → IsPermutation (before ++ end_levels es) after
ends_rearranged es ys before after p h =
    subst (λ (ls : List Level). IsPermutation (before ++ end_levels es) ls) (sym h)
    (subst (λ (ls : List Level). IsPermutation (before ++ ls) (before ++ map level_of ys)) (of_ys es)
    (IsPermutation-append_right before (map level_of (end_ys es)) (map level_of ys)
    (IsPermutation-map level_of (end_ys es) ys p)))

each_within : (es : List LeafEdge) → AllByRecursion (λ e. IsEdgeWithin coordinate_limit e.edge) es
    → AllByRecursion (λ y. unsigned_abs y ≤ coordinate_limit) (end_ys es)
each_within [] h = tt
each_within (e ∷ es) h = (h.0.a.y, (h.0.b.y, each_within es h.1))

pub ends_within : (es : List LeafEdge) (ys : List ℤ) → All (λ e. IsEdgeWithin coordinate_limit e.edge) es
    → IsPermutation (end_ys es) ys → All (λ y. unsigned_abs y ≤ coordinate_limit) ys
ends_within es ys h p =
    All-permutation (λ y. unsigned_abs y ≤ coordinate_limit) (end_ys es) ys p
    (All-from_recursion (λ y. unsigned_abs y ≤ coordinate_limit) (end_ys es)
    (each_within es (recursion_from_All (λ (e : LeafEdge). IsEdgeWithin coordinate_limit e.edge) es h)))
