-- At an end the edge's line rounds to the end, and elsewhere its place is within the limit.
use Rattle.std.proofs.Common.{sym, ◌∙◌, subst}
use Rattle.scad_geom.specs.Limits.{coordinate_limit}
use Rattle.scad_geom.specs.Line.{low, high}
use Rattle.slice_pieces.specs.Spots.{IsSpotWithin}
use Rattle.slice_outlines.proofs.EndPoints.{passes_then_rises, passing_within, lies_at, low_rounds, high_rounds}
use Rattle.slice_outlines.proofs.spot.rounded_on.Goals as goal

pub rounded-requires : goal.rounded-requires
rounded-requires c = subst (IsSpotWithin coordinate_limit) (sym c.spot_on.ensures)
    (passing_within coordinate_limit c.args.e.now c.args.at.now c.requires.edge c.requires.at c.requires.passes)

pub returns-then-lies_on : goal.returns-then-lies_on
returns-then-lies_on c =
    let e = c.args.e.now in
    let at = c.args.at.now in
    c.low-then-lies_on.ensures.value
    ∙ low_rounds e at c.requires.at.positive (passes_then_rises e at c.requires.passes)
    (lies_at c.low.result (low e) at c.lies_on.result c.low.ensures.value c.lies_on.ensures c.if-lies_on.true)

pub returns-then-lies_on-2 : goal.returns-then-lies_on-2
returns-then-lies_on-2 c =
    let e = c.args.e.now in
    let at = c.args.at.now in
    c.high-then-lies_on-2.ensures.value
    ∙ high_rounds e at c.requires.at.positive (passes_then_rises e at c.requires.passes)
    (lies_at c.high.result (high e) at c.lies_on-else-lies_on.result c.high.ensures.value
    c.lies_on-else-lies_on.ensures c.if-lies_on-2.true)
