-- The answer of the parser where tokens are no program.
use Rattle.std.specs.Prelude.{List, [], Err}
use Rattle.scad_fault.specs.declared.place.Place.{Place}
use Rattle.scad_lex.specs.declared.token.Token.{Token}
use Rattle.scad_parse.specs.declared.fault.ParseFault.{ParseFault}
use Rattle.scad_parse.specs.declared.fault.ParseFault.TheVariants.{Memory, Syntax, Nesting, LeftOut}
use Rattle.scad_grammar.specs.Verdict.{Judged}
use Rattle.scad_grammar.specs.Machine.{syntax_at, nesting_at, left_out_at}

-- the fault is the one that the grammar gives these tokens, or there was no memory
abbrev pub JudgedFault : List Token → Place → ParseFault → Type 0
JudgedFault ts end Memory = Unit {0}
JudgedFault ts end (Syntax at) = Judged [] ts end (Err (syntax_at at))
JudgedFault ts end (Nesting at) = Judged [] ts end (Err (nesting_at at))
JudgedFault ts end (LeftOut at name) = Judged [] ts end (Err (left_out_at at name))
