-- The edge's heading is passed on.
use Rattle.std.proofs.Common.{get_or, ap, ◌∙◌}
use Rattle.std.specs.Prelude.{ℤ, pos, ◌+ℤ◌, ◌==◌, if◌then◌else◌}
use Rattle.slice_border.proofs.Keeping.{passed}
use Rattle.slice_border.proofs.tally.add_edge.Goals as goal

pub returns-clause-turns : goal.returns-clause-turns
returns-clause-turns c = λ k. c.turn.ensures.turns k
    ∙ ap (λ (z : ℤ). get_or c.args.turns.now.items k (pos 0) +ℤ (if c.args.e.now.leaf == k then z else pos 0))
    (passed c.heading.result c.heading.ensures.size ∙ c.heading.ensures.value)
