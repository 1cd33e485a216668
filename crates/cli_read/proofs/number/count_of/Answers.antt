use Rattle.cli_read.proofs.Numbers.{count_not_text}
use Rattle.cli_read.proofs.number.count_of.Goals as goal

pub returns-in-Err : goal.returns-in-Err
returns-in-Err c = count_not_text c.args.word.now c.in-Err.ensures.cases.0
