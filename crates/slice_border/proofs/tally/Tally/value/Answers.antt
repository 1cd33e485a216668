-- The shape's leaves are in by their numbers.
use Rattle.std.proofs.Common.{◌∙◌}
use Rattle.slice_border.specs.Keeping.{in_by}
use Rattle.slice_border.proofs.Tallying.{held_by}
use Rattle.slice_border.proofs.tally.Tally.value.Goals as goal

pub returns : goal.returns
returns c = λ edges shape ks t. c.value.ensures shape (in_by c.args.self.now.turns.items) t.shows
    ∙ held_by edges shape ks c.args.self.now.turns.items t.turns
