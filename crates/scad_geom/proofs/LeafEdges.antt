-- The edges of one leaf among those of several, and the balance of edges one after another.
use Rattle.std.proofs.Common.{◌≡◌, ℕ, ◌+◌, Bool, true, false, cond, ◌==◌, List, [], ◌++◌, map, refl, ap, ap₂, sym, ◌∙◌}
use Rattle.std.proofs.lemmas.List.{map-append}
use Rattle.std.proofs.lemmas.List.Elements.{filter-append}
use Rattle.std.proofs.lemmas.List.Sums.{sum_by-append}
use Rattle.std.specs.Prelude.{filter}
use Rattle.scad_geom.specs.declared.point.Edge.{Edge}
use Rattle.scad_geom.specs.declared.level.LeafEdge.{LeafEdge}
use Rattle.scad_geom.specs.Point.{is_same_point}
use Rattle.scad_geom.specs.Segment.{Segment, segments}
use Rattle.scad_geom.specs.Balance.{IsBalanced}
use Rattle.scad_geom.specs.Leaves.{edges_of}
use Rattle.scad_geom.proofs.Balance.{once}

pub edges_of-append : (leaf : ℕ) (es fs : List LeafEdge) → edges_of leaf (es ++ fs) ≡ edges_of leaf es ++ edges_of leaf
    fs
edges_of-append leaf es fs = ap (map (λ e. e.edge)) (filter-append (λ e. e.leaf == leaf) es fs) ∙ map-append
    (λ e. e.edge) (filter (λ e. e.leaf == leaf) es) (filter (λ e. e.leaf == leaf) fs)

pub both_balanced : (ss ts : List Segment) → IsBalanced ss → IsBalanced ts → IsBalanced (ss ++ ts)
both_balanced ss ts a b = record {
  each = λ p some.
      sum_by-append (λ s. once (is_same_point p s.from)) ss ts
      ∙ ap₂ (λ m n. m + n) (a.each p some) (b.each p some)
      ∙ sym (sum_by-append (λ s. once (is_same_point p s.to)) ss ts);
}

pub none_balanced : IsBalanced []
none_balanced = record { each = λ p some. refl }

pub chosen_balanced : (b : Bool) (es : List Edge) → IsBalanced (segments es) → IsBalanced (segments (cond b es []))
chosen_balanced true es balanced = balanced
chosen_balanced false es balanced = none_balanced
