use Rattle.scad_grammar.proofs.Unique.{printed_tokens_derive}
use Rattle.scad_grammar.proofs.laws.printed_tokens_derive.Goals as goal

pub returns : goal.returns
returns c = printed_tokens_derive
