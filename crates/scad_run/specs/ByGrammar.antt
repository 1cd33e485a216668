-- What a source means goes by the grammar.
use Rattle.std.specs.Prelude.{◌≡◌, ℕ, List, [], Result, Ok}
use Rattle.scad_fault.specs.declared.place.Place.{Place}
use Rattle.scad_lex.specs.declared.token.Token.{Token}
use Rattle.scad_lex.specs.Tokens.{tokens}
use Rattle.scad_ast.specs.Tree.{Items}
use Rattle.scad_grammar.specs.Machine.{Refusal}
use Rattle.scad_grammar.specs.Verdict.{Judged}
use Rattle.scad_run.specs.Meaning.{program_means, source_means}

-- The grammar judges the tokens of a source in one way: by a program that they derive, or by the first fault that one
-- of them has. The source means what that program means, or has that fault.
pub record GoesByGrammar (source : List ℕ) (ts : List Token) (end : Place) : Type 0 where
  pub answer : Result Items Refusal
  pub judged : Judged [] ts end answer
  pub one : (other : Result Items Refusal) → Judged [] ts end other → other ≡ answer
  pub means : source_means source ≡ program_means answer

-- ---- the law
-- So it is of every source that is cut into tokens.
abbrev pub SourcesGoByGrammar : Type 0
SourcesGoByGrammar =
    (source : List ℕ) (ts : List Token) (end : Place) → tokens source ≡ Ok (ts, end) → GoesByGrammar source ts end
