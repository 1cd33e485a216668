use Rattle.std.proofs.Common.{sym, rules}
use Rattle.scad_script.proofs.Layers.{as_left}
use Rattle.slice_work.specs.Script.{laid_out}
use Rattle.slice_work.proofs.Stopping.{stops_work}
use Rattle.slice_work.proofs.Written.{outlines_first, counts_outlines}
use Rattle.slice_work.proofs.layer_lines.send_layer.Goals as goal

pub returns-in_err-cli-clause-carries : goal.returns-in_err-cli-clause-carries
returns-in_err-cli-clause-carries g c whole rest start left =
    let layout = laid_out c.args.layer.now in
    stops_work whole rest _ _ start _ (search rules)
    (c.in_err-cli.ensures.carries whole _ start (as_left (outlines_first c.args.want c.args.rates.now
    c.args.sums.volume c.args.layer.now.number layout rest) left))

pub returns-in_default-clause-carries : goal.returns-in_default-clause-carries
returns-in_default-clause-carries g c whole rest start left =
    let layout = laid_out c.args.layer.now in (
      _,
      c.in_ok-cli.ensures.carries whole _ start (as_left (outlines_first c.args.want c.args.rates.now
          c.args.sums.volume c.args.layer.now.number layout rest) left),
    )

pub returns-in-Outlines-clause-sums : goal.returns-in-Outlines-clause-sums
returns-in-Outlines-clause-sums g c =
    let layout = laid_out c.args.layer.now in
    let counted = sym (counts_outlines c.args.rates.now c.args.layer.now.number layout c.args.sums) in
    search (rules, counted)
