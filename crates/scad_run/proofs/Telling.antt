-- Telling what a source means plays its script.
use Rattle.std.proofs.Common.{◌≡◌, ◌≢◌, List, [], ℕ, Some, None, Result, Ok, Err, refl, sym, ap, ◌∙◌, min, arith, subst}
use Rattle.scad_fault.specs.declared.place.Place.{Place}
use Rattle.scad_io.specs.Desk.{View}
use Rattle.scad_lex.specs.declared.token.Token.{Token}
use Rattle.scad_lex.specs.declared.fault.LexFault.{LexFault}
use Rattle.scad_lex.specs.Tokens.{Answer, tokens, Refuses as LexRefuses}
use Rattle.scad_ast.specs.Tree.{Items}
use Rattle.scad_grammar.specs.Verdict.{Judged}
use Rattle.scad_grammar.specs.Machine.{Refusal as Judgement, outcome_of}
use Rattle.scad_grammar.proofs.Unique.{judges_as_the_grammar}
use Rattle.scad_parse.specs.declared.fault.ParseFault.{ParseFault}
use Rattle.scad_parse.specs.JudgedFault.{JudgedFault}
use Rattle.scad_script.specs.declared.refusal.Refusal.{Refusal}
use Rattle.scad_script.specs.declared.stop.Stop.{Stop}
use Rattle.scad_script.specs.Script.{Script, Refuses, ends}
use Rattle.scad_script.specs.Play.{Left, Stops, EndsIn}
use Rattle.scad_script.proofs.Layers.{as_left}
use Rattle.scad_machine.specs.declared.fault.EvalFault.{EvalFault}
use Rattle.scad_machine.specs.declared.fault.EvalFault.TheVariants.{Memory}
use Rattle.scad_expr.specs.State.{Outcome, refuses, start}
use Rattle.scad_tree.specs.Solid.{Solid}
use Rattle.scad_tree.specs.declared.tree.Tree.{Tree}
use Rattle.scad_tree.specs.View.{solid_of}
use Rattle.scad_inst.specs.declared.answers.Model.{Model}
use Rattle.scad_inst.specs.declared.answers.ModelEnd.{ModelEnd}
use Rattle.scad_inst.specs.Meaning.{means}
use Rattle.scad_inst.specs.Model.{Makes}
use Rattle.scad_run.specs.Meaning.{text_fault, tokens_fault, program_means, tokens_mean, source_means}
use Rattle.scad_run.specs.View.{parse_fault}
use Rattle.scad_run.specs.SourceReport.{refusal_of, refusal_told, echoed, told}
use Rattle.scad_run.specs.Playing.{Brings, IsEnd}

-- A text that has no tokens.

text_refused : (answer : Answer) (fault : LexFault) → LexRefuses answer fault → text_fault fault ≢ Memory
    → answer ≡ Err fault
text_refused answer LexFault.Memory refused some = absurd (some refl)
text_refused answer (LexFault.BadText at) refused some = refused
text_refused answer (LexFault.Range at) refused some = refused

pub text_makes_nothing : (source : List ℕ) (fault : LexFault) (e : ModelEnd) → LexRefuses (tokens source) fault
    → e.fault ≡ text_fault fault → e.echoes.items ≡ [] → Makes (source_means source) (Err e)
unfolding source_means
text_makes_nothing source fault e refused is empty some = (
  start,
  ap tokens_mean (text_refused (tokens source) fault refused (λ same. some (is ∙ same))) ∙ ap (λ f. refuses f start)
      (sym is),
  sym empty,
)

-- What tokens mean, as the parser answers.

judged_is : (ts : List Token) (end : Place) (answer : Result Items Judgement) → Judged [] ts end answer
    → outcome_of ts end ≡ answer
judged_is ts end answer judged = (judges_as_the_grammar ts end answer).0 judged

-- the tokens of a program mean what it makes
pub program_read : (ts : List Token) (end : Place) (program : Items) → Judged [] ts end (Ok program)
    → means program ≡ tokens_mean (Ok (ts, end))
program_read ts end program judged = sym (ap program_means (judged_is ts end (Ok program) judged))

refused_so : (ts : List Token) (end : Place) (refusal : Judgement) → Judged [] ts end (Err refusal)
    → tokens_mean (Ok (ts, end)) ≡ refuses (tokens_fault refusal) start
refused_so ts end refusal judged = ap program_means (judged_is ts end (Err refusal) judged)

-- tokens that are no program mean the fault of the parser
pub parse_refused : (ts : List Token) (end : Place) (fault : ParseFault) → JudgedFault ts end fault
    → parse_fault fault ≢ Memory → tokens_mean (Ok (ts, end)) ≡ refuses (parse_fault fault) start
parse_refused ts end ParseFault.Memory judged some = absurd (some refl)
parse_refused ts end (ParseFault.Syntax at) judged some = refused_so ts end _ judged
parse_refused ts end (ParseFault.Nesting at) judged some = refused_so ts end _ judged
parse_refused ts end (ParseFault.LeftOut at name) judged some = refused_so ts end _ judged

-- and nothing is made of them
pub made_nothing : (ts : List Token) (end : Place) (fault : ParseFault) (e : ModelEnd) → JudgedFault ts end fault
    → e.fault ≡ parse_fault fault → e.echoes.items ≡ [] → Makes (tokens_mean (Ok (ts, end))) (Err e)
made_nothing ts end fault e judged is empty some = (
  start,
  parse_refused ts end fault judged (λ same. some (is ∙ same)) ∙ ap (λ f. refuses f start) (sym is),
  sym empty,
)

-- What is told of a model, and of a fault or budget.

pub model_told : (follows : Solid → Script) (meaning : Outcome Solid) (m : Model) (lines : List (List ℕ))
    → lines ≡ m.echoes.items → Makes meaning (Ok m) → told follows meaning ≡ echoed lines (follows (solid_of m.tree))
model_told follows meaning m lines same (s, is, echoes) =
    ap (told follows) is ∙ ap (λ ls. echoed ls (follows (solid_of m.tree))) (echoes ∙ sym same)

some_refusal : (fault : EvalFault) (refusal : Refusal) → refusal_of fault ≡ Some refusal → fault ≢ Memory
some_refusal fault refusal is same =
    let none : None ≡ Some refusal = sym (ap refusal_of same) ∙ is in let never : ⊥ = cc in absurd never

pub end_told : (follows : Solid → Script) (meaning : Outcome Solid) (e : ModelEnd) (refusal : Refusal)
    (lines : List (List ℕ)) → lines ≡ e.echoes.items → Makes meaning (Err e) → refusal_of e.fault ≡ Some refusal
    → told follows meaning ≡ echoed lines (ends (Refuses refusal))
end_told follows meaning e refusal lines same makes is =
    let made = makes (some_refusal e.fault refusal is) in
    ap (told follows) made.1
    ∙ ap (refusal_told (refusal_of e.fault)) (made.2 ∙ sym same)
    ∙ ap (λ r. refusal_told r lines) is

-- the end that is left is played
pub ended : (script : Script) (result : Result (List ℕ) Stop) (whole : Script) (old now : View) → IsEnd script result
    → Left whole script old now → EndsIn whole result old now
ended script (Ok line) whole old now is left = as_left is left
ended script (Err (Stop.Ends refusal)) whole old now is left = as_left is left
ended script (Err Stop.Memory) whole old now is left = (script, left)
ended script (Err Stop.Read) whole old now is left = absurd is
ended script (Err Stop.Write) whole old now is left = absurd is
ended script (Err Stop.Silent) whole old now is left = absurd is

-- a count that stands below its greatest value is exact
pub counted : (count most found : ℕ) → found ≡ min count most → found ≢ most → found ≡ count
counted count most found is other = omega (arith, is, other)

-- An error of a call that goes up as it is.

pub stops_bring : (follows : Solid → Script) (whole : Script) (result : Result Tree Stop) (stop : Stop) (old new : View)
    → result ≡ Err stop → Stops whole stop old new → Brings follows whole result old new
stops_bring follows whole result stop old new is stops = subst (λ (r : Result Tree Stop). Brings follows whole r old
    new) (sym is) stops
