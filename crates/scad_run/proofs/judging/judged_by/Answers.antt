use Rattle.std.proofs.Common.{sym, ap, ◌∙◌, length}
use Rattle.std.proofs.lemmas.List.{length-map}
use Rattle.cli_read.specs.View.{layer_of, layers_of}
use Rattle.scad_run.proofs.Cases.{opinion_ends}
use Rattle.scad_run.proofs.judging.judged_by.Goals as goal

pub returns : goal.returns
returns c opinions right =
    opinion_ends opinions c.args.line_width _ c.args.program.now (layers_of c.args.cli.now) c.check-verdict.result c.said.result
    right c.requires.width c.check-verdict.ensures
    (ap length c.as_slice.ensures ∙ sym (length-map c.args.cli.now.layers layer_of)) c.said.ensures
