-- Only edges that meet are kept.
use Rattle.std.proofs.Common.{sym, ◌∙◌}
use Rattle.slice_events.proofs.AtEnds.{kept_then_meets}
use Rattle.slice_events.proofs.comparison.compare.Goals as goal

pub meeting-requires : goal.meeting-requires
meeting-requires c = record {
  meets = kept_then_meets c.args.e.now.edge c.args.f.now.edge
      (sym c.is_kept.ensures ∙ c.if-is_kept.true);
}
