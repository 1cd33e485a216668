use Rattle.std.proofs.Common.{Err, refl}
use Rattle.cli_read.specs.View.{layers_of}
use Rattle.scad_run.proofs.Cases.{read_end, refused_end}
use Rattle.scad_run.proofs.judging.judged.Goals as goal

pub judged_by-requires-clause-within : goal.judged_by-requires-clause-within
judged_by-requires-clause-within c =
    c.files_are_within.ensures c.args.outlines.now (layers_of c.in-Ok.cli) c.in-Ok.ensures.said

pub returns-in-Ok : goal.returns-in-Ok
returns-in-Ok c opinions right =
    read_end opinions c.args.line_width c.args.outlines.now c.args.program.now (layers_of c.in-Ok.cli) c.judged_by.result
    c.in-Ok.ensures.exact (c.judged_by.ensures opinions right)

pub returns-in-Err : goal.returns-in-Err
returns-in-Err c opinions right =
    refused_end opinions c.args.line_width c.args.outlines.now c.args.program.now c.in-Err.fault c.unread.result
    (Err c.unread.result) refl c.in-Err.ensures.exact c.unread.ensures
