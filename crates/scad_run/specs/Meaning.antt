-- What a source means: its tokens, the program that they are, and what the program makes. The program is the one that
-- the grammar derives, and the fault the first that it has: the law `judges_as_the_grammar` of scad_grammar.
use Rattle.std.specs.Prelude.{List, [], ℕ, Result, Ok, Err, ◌≡◌}
use Rattle.scad_fault.specs.declared.place.Place.{Place}
use Rattle.scad_fault.specs.declared.fault.FaultKind.{FaultKind}
use Rattle.scad_fault.specs.declared.fault.FaultKind.TheVariants.{BadText as IsBadText, Syntax as IsSyntax, Nesting as IsNesting, LeftOut as IsLeftOut, NumberRange as IsNumberRange}
use Rattle.scad_lex.specs.declared.fault.LexFault.{LexFault}
use Rattle.scad_lex.specs.declared.fault.LexFault.TheVariants.{BadText, Range, Memory}
use Rattle.scad_lex.specs.Tokens.{Answer, tokens}
use Rattle.scad_ast.specs.Tree.{Items}
use Rattle.scad_grammar.specs.Machine.{Refusal, syntax_at, nesting_at, left_out_at, outcome_of}
use Rattle.scad_machine.specs.declared.fault.EvalFault.{EvalFault}
use Rattle.scad_machine.specs.declared.fault.EvalFault.TheVariants.{Fault, Over, Memory as WantOfMemory}
use Rattle.scad_expr.specs.State.{Outcome, refuses, start, State, gives}
use Rattle.scad_tree.specs.Solid.{Solid}
use Rattle.scad_inst.specs.Meaning.{means}
use Rattle.scad_run.specs.SourceMeaning.{Meant, meant_tree, meant_fault, meant_budget}

-- a fault that is about no name
abbrev pub fault_at : FaultKind → Place → EvalFault
fault_at kind at = Fault (record { kind = kind; at = at; name = [] })

-- why a text has no tokens
abbrev pub text_fault : LexFault → EvalFault
text_fault (BadText at) = fault_at IsBadText at
text_fault (Range at) = fault_at IsNumberRange at
text_fault Memory = WantOfMemory

-- why tokens are no program
abbrev pub tokens_fault : Refusal → EvalFault
tokens_fault (syntax_at at) = fault_at IsSyntax at
tokens_fault (nesting_at at) = fault_at IsNesting at
tokens_fault (left_out_at at name) = Fault (record { kind = IsLeftOut; at = at; name = name })

-- what a program makes; where there is none nothing is evaluated
abbrev pub program_means : Result Items Refusal → Outcome Solid
program_means (Ok program) = means program
program_means (Err refusal) = refuses (tokens_fault refusal) start

abbrev pub tokens_mean : Answer → Outcome Solid
tokens_mean (Ok found) = program_means (outcome_of found.0 found.1)
tokens_mean (Err fault) = refuses (text_fault fault) start

-- the tree of a source, with the lines of `echo` in the state; or its first fault or budget, with the lines before it
unfoldable pub source_means : List ℕ → Outcome Solid
source_means source = tokens_mean (tokens source)

-- a source means this tree
abbrev pub MeansTree : Solid → List ℕ → Type 0
MeansTree tree source = (s : State) × (source_means source ≡ gives tree s)

-- what it means: its tree, its first fault, or the first budget that its evaluation passes
abbrev pub Means : List ℕ → Meant → Type 0
Means source (meant_tree tree) = MeansTree tree source
Means source (meant_fault fault) = (s : State) × (source_means source ≡ refuses (Fault fault) s)
Means source (meant_budget budget) = (s : State) × (source_means source ≡ refuses (Over budget) s)
