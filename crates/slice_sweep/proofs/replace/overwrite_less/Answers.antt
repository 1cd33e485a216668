-- All bundles are written, and the strand behind them is taken out.
use Rattle.std.proofs.Common.{◌∙◌}
use Rattle.slice_sweep.proofs.Overwriting.{taken_out}
use Rattle.slice_sweep.proofs.replace.overwrite_less.Goals as goal

pub returns : goal.returns
returns c =
    c.remove.ensures.by_index.2 ∙ taken_out c.args.strands.now.items c.overwrite.new.strands.items c.args.from c.args.to
    c.args.bundles.items c.requires.size c.requires.to c.overwrite.ensures
