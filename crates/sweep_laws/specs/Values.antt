-- The shape's values over a crossing: those of strands that stay are kept, and only new strands need one.
use Rattle.std.specs.Prelude.{◌≡◌, ◌⊎◌, ⊤, List, [], ◌∷◌, ◌++◌, ℕ}
use Rattle.scad_geom.specs.declared.level.LeafEdge.{LeafEdge}
use Rattle.scad_geom.specs.declared.shape.Shape.{Shape}
use Rattle.slice_border.specs.Beside.{left_value}
use Rattle.sweep_laws.specs.Fronts.{Strand, bundles_of, AreValued}
use Rattle.sweep_laws.specs.Crossing.{Place, all_below, all_above}
use Rattle.sweep_laws.specs.Staying.{IsUncovered}
use Rattle.sweep_laws.specs.Balance.{AreBoundariesBalanced}

-- at a place one strand comes from below and goes on as it is, and no flat edge leads on
pub record IsStayingAt (es : List LeafEdge) (p : Place) (ps : List Place) : Type 0 where
  pub strand : Strand
  pub below : p.below ≡ strand ∷ []
  pub above : p.above ≡ strand ∷ []
  pub uncovered : IsUncovered es p ps

-- each strand's value is the shape's, with these bundles behind the last
abbrev pub AreValuedBefore : List LeafEdge → Shape → List Strand → List (List ℕ) → Type 0
AreValuedBefore es shape [] behind = ⊤
AreValuedBefore es shape (s ∷ ss) behind = (s.left ≡ left_value es shape (s.bundle ∷ (bundles_of ss ++ behind)))
    × AreValuedBefore es shape ss behind

-- at each place its strand stays, or its new strands have the shape's values
abbrev pub AreNewValued : List LeafEdge → Shape → List Place → Type 0
AreNewValued es shape [] = ⊤
AreNewValued es shape (p ∷ ps) = (IsStayingAt es p ps ⊎ AreValuedBefore es shape p.above (bundles_of (all_above ps)))
    × AreNewValued es shape ps

-- ---- the law
-- Then all strands above the height have the shape's values, where those below it had them and the height is balanced.
abbrev pub ValuesGoOn : Type 0
ValuesGoOn =
    (es : List LeafEdge) (shape : Shape) (places : List Place) → AreBoundariesBalanced es places
    → AreValued es shape (all_below places) → AreNewValued es shape places → AreValued es shape (all_above places)
