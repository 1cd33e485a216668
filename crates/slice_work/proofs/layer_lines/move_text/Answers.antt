use Rattle.std.proofs.Common.{rules}
use Rattle.slice_work.proofs.Written.{volume_both}
use Rattle.slice_work.proofs.layer_lines.move_text.Goals as goal

pub returns-clause-volume : goal.returns-clause-volume
returns-clause-volume c =
    let both = volume_both c.args.rates.now c.args.layer.now.paths.now c.args.layer.now.supports.now in
    search (rules, both)
