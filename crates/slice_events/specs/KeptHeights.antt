-- Crossings whose heights are kept: the others lie at the height of an end.
use Rattle.std.specs.Prelude.{Bool, not, ◌&&◌, pos}
use Rattle.scad_geom.specs.declared.point.Pt.{Pt}
use Rattle.scad_geom.specs.declared.point.Edge.{Edge}
use Rattle.scad_geom.specs.Line.{low, high, rise, left_of}
use Rattle.scad_geom.specs.Sign.{is_zero}
use Rattle.slice_events.specs.Levels.{crosses}

-- whether a point lies beside an edge's line
unfoldable pub is_beside : Edge → Pt → Bool
is_beside e p = not (is_zero (left_of e p.x p.y (pos 1)))

-- whether an edge isn't flat
unfoldable pub is_rising : Edge → Bool
is_rising e = not (is_zero (rise e))

-- whether no end of one edge lies on the line of the other
unfoldable pub are_ends_beside : Edge → Edge → Bool
are_ends_beside e f = (is_beside e (low f) && is_beside e (high f)) && (is_beside f (low e) && is_beside f (high e))

-- whether two edges cross away from their ends, and neither is flat
unfoldable pub is_kept : Edge → Edge → Bool
is_kept e f = crosses e f && ((is_rising e && is_rising f) && are_ends_beside e f)
