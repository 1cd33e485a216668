use Rattle.scad_words.proofs.Ascending.{keys_ascend}
use Rattle.scad_words.proofs.laws.keys_ascend.Goals as goal

pub returns : goal.returns
returns c = keys_ascend
