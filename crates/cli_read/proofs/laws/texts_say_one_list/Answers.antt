use Rattle.cli_read.proofs.Texts.{one_list}
use Rattle.cli_read.proofs.laws.texts_say_one_list.Goals as goal

pub returns : goal.returns
returns c = one_list
