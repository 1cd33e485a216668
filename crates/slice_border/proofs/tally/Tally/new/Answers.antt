-- All numbers are 0, and all leaves out.
use Rattle.std.proofs.Common.{◌∙◌}
use Rattle.slice_border.proofs.Keeping.{keeps_first}
use Rattle.slice_border.proofs.tally.Tally.new.Goals as goal

pub returns : goal.returns
returns c = record {
  ready = c.in_ok-held.ensures.ready;
  size = c.in_ok-held.ensures.leaves ∙ c.len.ensures;
  leaves = c.in_ok-turns.ensures.leaves;
  turns = c.in_ok-turns.ensures.zeros;
  shows = keeps_first c.in_ok-turns.turns.items c.args.shape.now c.in_ok-held.held c.in_ok-turns.ensures.zeros
      c.in_ok-held.ensures.shows;
}
