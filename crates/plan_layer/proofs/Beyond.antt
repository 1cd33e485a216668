-- Outlines don't wind round what lies beyond all of them, so no line beyond them has runs.
use Rattle.std.proofs.Common.{◌⊎◌, ℕ, List, flat_map, ℤ, ◌<ℤ◌}
use Rattle.std.specs.Prelude.{All}
use Rattle.scad_geom.specs.declared.point.Pt.{Pt}
use Rattle.scad_geom.specs.Loop.{sides}
use Rattle.plan_infill.specs.Extent.{IsEdgeAmong}
use Rattle.plan_infill.specs.Runs.{IsDeep, point_on}
use Rattle.plan_infill.proofs.Extents.{none_beyond}
use Rattle.plan_layer.specs.Infill.{has_rows, line_at}

pub nothing_beyond : (outlines : List (List Pt)) (layer : ℕ) (low high z t : ℤ) → (z <ℤ low) ⊎ (high <ℤ z)
    → All (IsEdgeAmong (has_rows layer) low high) (flat_map sides outlines)
    → (c : ℕ) → IsDeep outlines c (point_on (line_at layer z) t) → ⊥
nothing_beyond outlines layer low high z t o among c deep =
    deep.inside (none_beyond outlines (has_rows layer) low high z t o among)
