-- The edge's heading is passed on the other way round.
use Rattle.std.proofs.Common.{get_or, ◌∙◌}
use Rattle.std.specs.Prelude.{pos, ◌==◌}
use Rattle.scad_geom.specs.Line.{heading}
use Rattle.slice_border.proofs.Keeping.{passed}
use Rattle.slice_border.proofs.Tallying.{negated}
use Rattle.slice_border.proofs.tally.take_edge.Goals as goal

pub returns-clause-turns : goal.returns-clause-turns
returns-clause-turns c = λ k. negated (get_or c.args.turns.now.items k (pos 0)) (get_or c.turn.new.turns.items k
    (pos 0))
    _ (heading c.args.e.now.edge) (c.args.e.now.leaf == k) (c.turn.ensures.turns k)
    (passed c.heading_back.result c.heading_back.ensures.size ∙ c.heading_back.ensures.value)
