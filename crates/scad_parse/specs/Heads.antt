-- The head of a `for` as the grammar has it.
use Rattle.scad_ast.specs.View.{expression_of, arguments}
use Rattle.scad_grammar.specs.Rules.{Head as GrammarHead, for_all, for_steps}
use Rattle.scad_parse.specs.declared.head.Head.{Head}
use Rattle.scad_parse.specs.declared.head.Head.TheVariants.{All, Steps}

abbrev pub head_of : Head → GrammarHead
head_of (All args) = for_all (arguments args.items)
head_of (Steps init test step) = for_steps (arguments init.items) (expression_of test) (arguments step.items)
