use Rattle.std.proofs.Common.{ap, ◌∙◌}
use Rattle.cli_read.specs.Reading.{if_count}
use Rattle.cli_read.proofs.Numbers.{count_parsed, count_not_parsed}
use Rattle.cli_read.proofs.number.count_in.Goals as goal

pub returns-in-Ok : goal.returns-in-Ok
returns-in-Ok c =
    c.if_count.ensures
    ∙ ap (if_count c.in-Ok.n) c.as_bytes.ensures.value
    ∙ count_parsed c.args.text.now c.in-Ok.n c.parse.result c.in-Ok.is c.parse.ensures.value.0

pub returns-in-Err : goal.returns-in-Err
returns-in-Err c = count_not_parsed c.args.text.now c.in-Err.field-0 c.parse.result c.in-Err.is c.parse.ensures.value.0
