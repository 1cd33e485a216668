use Rattle.scad_lex.proofs.CommentEnd.{comments_are_longest}
use Rattle.scad_lex.proofs.laws.comments_are_longest.Goals as goal

pub returns : goal.returns
returns c = comments_are_longest
