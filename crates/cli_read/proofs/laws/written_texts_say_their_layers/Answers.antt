use Rattle.cli_read.proofs.Written.{written_texts}
use Rattle.cli_read.proofs.laws.written_texts_say_their_layers.Goals as goal

pub returns : goal.returns
returns c = written_texts
