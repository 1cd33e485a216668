-- Values of strands over a crossing.
use Rattle.std.proofs.Common.{ℕ, ◌⊎◌, inl, inr, List, [], ◌∷◌, ◌++◌, sym, ap, ◌∙◌, subst}
use Rattle.std.proofs.lemmas.List.{map-append}
use Rattle.scad_geom.specs.declared.level.LeafEdge.{LeafEdge}
use Rattle.scad_geom.specs.declared.shape.Shape.{Shape}
use Rattle.slice_border.specs.Beside.{left_value}
use Rattle.sweep_laws.specs.Fronts.{Strand, bundles_of, AreValued}
use Rattle.sweep_laws.specs.Crossing.{Place, all_below, all_above}
use Rattle.sweep_laws.specs.Balance.{AreBoundariesBalanced}
use Rattle.sweep_laws.specs.Values.{IsStayingAt, AreValuedBefore, ValuesGoOn}
use Rattle.sweep_laws.proofs.Boundaries.{staying_values}
use Rattle.sweep_laws.proofs.LevelPieces.{later_valued}

valued_before : (es : List LeafEdge) (shape : Shape) (xs ys : List Strand) → AreValuedBefore es shape xs (bundles_of ys)
    → AreValued es shape ys → AreValued es shape (xs ++ ys)
valued_before es shape [] ys h k = k
valued_before es shape (x ∷ xs) ys h k = (
  h.0 ∙ ap (λ (bs : List (List ℕ)). left_value es shape (x.bundle ∷ bs))
      (sym (map-append (λ (s : Strand). s.bundle) xs ys)),
  valued_before es shape xs ys h.1 k,
)

module _ (es : List LeafEdge) (shape : Shape) (p : Place) (ps : List Place)
    (v : AreValued es shape (p.below ++ all_below ps)) (rest : AreValued es shape (all_above ps)) where
  kept : AreBoundariesBalanced es (p ∷ ps) → IsStayingAt es p ps → AreValued es shape (p.above ++ all_above ps)
  kept b k =
      let first = (subst (λ (ss : List Strand). AreValued es shape (ss ++ all_below ps)) k.below v).0 in
      subst (λ (ss : List Strand). AreValued es shape (ss ++ all_above ps)) (sym k.above) (
        first ∙ staying_values es shape k.strand.bundle (bundles_of (all_below ps)) (bundles_of (all_above ps))
            (b.0 k.uncovered),
        rest,
      )

  at_place : AreBoundariesBalanced es (p ∷ ps)
      → IsStayingAt es p ps ⊎ AreValuedBefore es shape p.above (bundles_of (all_above ps))
      → AreValued es shape (p.above ++ all_above ps)
  at_place b (inl k) = kept b k
  at_place b (inr h) = valued_before es shape p.above (all_above ps) h rest

pub values_go_on : ValuesGoOn
values_go_on es shape [] b v n = tt
values_go_on es shape (p ∷ ps) b v n =
    at_place es shape p ps v (values_go_on es shape ps b.1 (later_valued es shape p.below (all_below ps) v) n.1) b n.0
