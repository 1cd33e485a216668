-- The flat edges of a height: what they cover, and heights without any.
use Rattle.std.specs.Prelude.{◌≡◌, true, false, List, [], ◌∷◌, slice_index_or}
use Rattle.std.specs.List.{AllByRecursion}
use Rattle.scad_geom.specs.declared.level.Level.{Level}
use Rattle.scad_geom.specs.declared.level.LeafEdge.{LeafEdge}
use Rattle.slice_bundles.specs.Bundles.{no_edge}
use Rattle.slice_pieces.specs.declared.piece.Spot.{Spot}
use Rattle.slice_border.specs.Flats.{flats_from}
use Rattle.slice_border.specs.Pieces.{whole_spot, is_flat_at, covers, HasSpot}
use Rattle.sweep_laws.specs.Crossing.{Place}
use Rattle.sweep_laws.specs.Staying.{IsUncovered}
use Rattle.sweep_laws.specs.Plain.{AreUncovered}

-- ---- the laws
-- A stretch that no flat edge of its height covers is uncovered.
abbrev pub FlatsCover : Type 0
FlatsCover =
    (es : List LeafEdge) (p q : Place) (ps : List Place)
    → AllByRecursion (λ k. covers p.at q.at (slice_index_or es k no_edge) ≡ false) (flats_from 0 es p.at.at)
    → IsUncovered es p (q ∷ ps)

-- Where no flat edge lies on a height, no stretch is covered, and no flat edge has an end there.
pub record HeightsWithoutFlats : Type 0 where
  pub uncovered : (es : List LeafEdge) (m : Level) (places : List Place) → flats_from 0 es m ≡ []
      → AllByRecursion (λ p. p.at.at ≡ m) places → AreUncovered es places
  pub ends : (es : List LeafEdge) (m : Level) (stops : List Spot) → flats_from 0 es m ≡ []
      → AllByRecursion (λ e. is_flat_at e.edge m ≡ true
      → HasSpot stops (whole_spot e.edge.a.x m) × HasSpot stops (whole_spot e.edge.b.x m)) es
