-- The turns of the loop over the statements of a program, and what the answer says in the grammar's words.
use Rattle.std.proofs.Common.{◌≡◌, ℕ, zero, suc, ◌≤◌, true, false, List, [], ◌∷◌, Ok, Err, length, refl, sym, ap, ◌∙◌}
use Rattle.std.proofs.Common.{◌<◌, Option, Some, None, subst, arith}
use Rattle.std.specs.Prelude.{Result, ◌≢◌}
use Rattle.scad_fault.specs.declared.place.Place.{Place}
use Rattle.scad_lex.specs.declared.token.Token.{Token}
use Rattle.scad_ast.specs.Tree.{Items, no_items}
use Rattle.scad_grammar.specs.Verdict.{Judged}
use Rattle.scad_grammar.specs.Machine.{Refusal, syntax_at, nesting_at, left_out_at, most_open}
use Rattle.scad_grammar.specs.Rules.{Read}
use Rattle.scad_grammar.specs.StatementRules.{StatementRules, statement_of, program_from, descent}
use Rattle.scad_grammar.proofs.Unique.{judges_as_the_grammar}
use Rattle.scad_grammar.proofs.rules.Program.{descent_is_the_reader}
use Rattle.scad_parse.specs.declared.fault.ParseFault.{ParseFault}
use Rattle.scad_parse.specs.declared.fault.ParseFault.TheVariants.{Memory, Syntax, Nesting, LeftOut}
use Rattle.scad_parse.specs.declared.fault.Fault.{Fault}
use Rattle.scad_parse.specs.declared.fault.Fault.TheVariants.{Memory as FaultMemory}
use Rattle.scad_parse.specs.declared.reader.Reader.{Reader}
use Rattle.scad_parse.specs.Standing.{Standing, Reads, Turn, standing, standing_of, more_to_come, refused}
use Rattle.scad_parse.specs.JudgedFault.{JudgedFault}
use Rattle.scad_parse.specs.Reading.{refusal}
use Rattle.scad_parse.specs.ReadingStatements.{below_statements}
use Rattle.scad_parse.proofs.loops.Groups.{statement_rules_are, group_fewer}
use Rattle.scad_parse.proofs.loops.Turns.{Goes, less, goes_on, stops, begins, to_come}

-- what a program goes on with, once a statement was read
abbrev pub program_behind : Place → ℕ → Read Items → Result Items Refusal
program_behind end n r =
    elim r as (λ x. Result Items Refusal) [ Ok r ↦ program_from end n r.0 r.1 | Err fault ↦ Err fault ]

module _ (end : Place) where
  program_turn : (all : Items) (ts : List Token) → more_to_come (Ok ts) ≡ true → (n : ℕ) → length ts ≤ n →
      program_from end n all ts
      ≡ program_behind end (less n) (statement_of end (below_statements end most_open) true all ts)
  unfolding program_from
  program_turn all [] h n enough = absurd (cc)
  program_turn all (t ∷ ts) h zero enough = absurd (let no : ⊥ = omega (arith, enough) in no)
  program_turn all (t ∷ ts) h (suc n) enough =
      ap (λ (r : StatementRules). program_behind end n (r.statement true all (t ∷ ts)))
      (statement_rules_are end most_open)

  program_last : (all : Items) (ts : List Token) → more_to_come (Ok ts) ≡ false → (n : ℕ) → length ts ≤ n →
      program_from end n all ts ≡ Ok all
  unfolding program_from
  program_last all [] h n enough = refl
  program_last all (t ∷ ts) h n enough = absurd (cc)

  pub program_goes : (whole : Result Items Refusal) (all b : Items) (ts us : List Token) → more_to_come (Ok ts) ≡ true →
      Goes (program_from end) whole all ts →
      statement_of end (below_statements end most_open) true all ts ≡ Ok (b, us) → Goes (program_from end) whole b us
  program_goes whole all b ts us h g read =
      goes_on (program_from end) whole all b ts us
      (λ n enough. program_turn all ts h n enough ∙ ap (program_behind end (less n)) read)
      (group_fewer end most_open true all b ts us read) g

  pub program_stops : (whole : Result Items Refusal) (all : Items) (ts : List Token) (fault : Refusal) →
      more_to_come (Ok ts) ≡ true → Goes (program_from end) whole all ts →
      statement_of end (below_statements end most_open) true all ts ≡ Err fault → whole ≡ Err fault
  program_stops whole all ts fault h g read =
      stops (program_from end) whole (Err fault) all ts
      (λ n enough. program_turn all ts h n enough ∙ ap (program_behind end (less n)) read) g

  pub program_ends : (whole : Result Items Refusal) (all : Items) (ts : List Token) → more_to_come (Ok ts) ≡ false →
      Goes (program_from end) whole all ts → whole ≡ Ok all
  program_ends whole all ts h = stops (program_from end) whole (Ok all) all ts (program_last all ts h)

-- ---- the loop, as its reader goes on
abbrev pub ProgramGoing : List Token → Place → Items → Standing → Type 0
ProgramGoing ts end so_far (Ok us) = Goes (program_from end) (descent ts end) so_far us
ProgramGoing ts end so_far (Err fault) = fault ≢ FaultMemory → descent ts end ≡ Err (refused fault)

pub record ProgramGo (ts : List Token) (end : Place) (r : Reader) (so_far : Items) : Type 0 where
  pub ends : r.end ≡ end
  pub going : ProgramGoing ts end so_far (standing r)

pub program_begins : (ts : List Token) (end : Place) (r : Reader) (so_far : Items) → so_far ≡ no_items → r.end ≡ end →
    standing r ≡ Ok ts → ProgramGo ts end r so_far
program_begins ts end r so_far none ends here = record {
  ends = ends;
  going = subst (ProgramGoing ts end so_far) (sym here) (begins (program_from end) no_items so_far ts ts none refl);
}

program_turned : (ts : List Token) (end : Place) (so_far next : Items) (s t : Standing) → ProgramGoing ts end so_far s →
    more_to_come s ≡ true → Turn (statement_of end (below_statements end most_open) true so_far) s t next →
    ProgramGoing ts end next t
program_turned ts end so_far next (Err fault) t g more x = absurd (cc)
program_turned ts end so_far next (Ok []) t g more x = absurd (cc)
program_turned ts end so_far next (Ok (u ∷ us)) (Ok vs) g more x =
    program_goes end (descent ts end) so_far next (u ∷ us) vs refl g x
program_turned ts end so_far next (Ok (u ∷ us)) (Err fault) g more x =
    λ some. program_stops end (descent ts end) so_far (u ∷ us) (refused fault) refl g (x some)

program_less : (end : Place) (so_far next : Items) (s t : Standing) → more_to_come s ≡ true →
    Turn (statement_of end (below_statements end most_open) true so_far) s t next → to_come t < to_come s
program_less end so_far next (Err fault) t more x = absurd (cc)
program_less end so_far next (Ok []) t more x = absurd (cc)
program_less end so_far next (Ok (u ∷ us)) (Err fault) more x = omega arith
program_less end so_far next (Ok (u ∷ us)) (Ok vs) more x =
    let less = group_fewer end most_open true so_far next (u ∷ us) vs x in omega (arith, less)

module _ (ts : List Token) (end : Place) (so_far next : Items) {r s : Reader} (g : ProgramGo ts end r so_far)
    (more : more_to_come (standing r) ≡ true)
    (read : Reads (λ e ts. statement_of e (below_statements e most_open) true so_far ts) r s next) where
  abbrev statement_here : Turn (statement_of end (below_statements end most_open) true so_far) (standing r)
      (standing s) next
  statement_here =
      subst (λ e. Turn (statement_of e (below_statements e most_open) true so_far) (standing r) (standing s) next)
      g.ends
      read.turn

  pub program_next : ProgramGo ts end s next
  program_next = record {
    ends = read.ends ∙ g.ends;
    going = program_turned ts end so_far next (standing r) (standing s) g.going more statement_here;
  }

  pub program_fewer : to_come (standing s) < to_come (standing r)
  program_fewer = program_less end so_far next (standing r) (standing s) more statement_here

read_whole : (ts : List Token) (end : Place) (so_far : Items) (us : List Token) (fault : Option Fault) → fault ≡ None →
    ProgramGoing ts end so_far (standing_of us fault) → more_to_come (standing_of us fault) ≡ false →
    descent ts end ≡ Ok so_far
read_whole ts end so_far [] None is g last = program_ends end (descent ts end) so_far [] refl g
read_whole ts end so_far (u ∷ us) None is g last = absurd (cc)
read_whole ts end so_far us (Some fault) is g last = absurd (cc)

pub program_read : (ts : List Token) (end : Place) (so_far : Items) (r : Reader) → ProgramGo ts end r so_far →
    r.fault ≡ None → more_to_come (standing r) ≡ false → descent ts end ≡ Ok so_far
program_read ts end so_far r g is last = read_whole ts end so_far r.left.now r.fault is g.going last

read_fault : (ts : List Token) (end : Place) (so_far : Items) (us : List Token) (first : Option Fault) (fault : Fault) →
    first ≡ Some fault → ProgramGoing ts end so_far (standing_of us first) → fault ≢ FaultMemory →
    descent ts end ≡ Err (refused fault)
read_fault ts end so_far us None fault is g some = absurd (cc)
read_fault ts end so_far us (Some first) fault is g some =
    let same : first ≡ fault = cc in
    subst (λ f. ProgramGoing ts end so_far (Err f)) same g some

pub program_refused : (ts : List Token) (end : Place) (so_far : Items) (r : Reader) (fault : Fault) →
    ProgramGo ts end r so_far → r.fault ≡ Some fault → fault ≢ FaultMemory → descent ts end ≡ Err (refused fault)
program_refused ts end so_far r fault g is some = read_fault ts end so_far r.left.now r.fault fault is g.going some

-- the answers, in the grammar's words
pub judged_program : (a : Items) (ts : List Token) (end : Place) → descent ts end ≡ Ok a → Judged [] ts end (Ok a)
judged_program a ts end h = (judges_as_the_grammar ts end (Ok a)).1 (sym (descent_is_the_reader ts end) ∙ h)

judged_refusal : (ts : List Token) (end : Place) (fault : Refusal) → descent ts end ≡ Err fault →
    Judged [] ts end (Err fault)
judged_refusal ts end fault h = (judges_as_the_grammar ts end (Err fault)).1 (sym (descent_is_the_reader ts end) ∙ h)

pub judged_fault : (ts : List Token) (end : Place) (fault : ParseFault) →
    (fault ≢ Memory → descent ts end ≡ Err (refusal fault)) → JudgedFault ts end fault
judged_fault ts end Memory h = tt
judged_fault ts end (Syntax at) h = judged_refusal ts end (syntax_at at) (h (λ e. absurd (cc)))
judged_fault ts end (Nesting at) h = judged_refusal ts end (nesting_at at) (h (λ e. absurd (cc)))
judged_fault ts end (LeftOut at name) h = judged_refusal ts end (left_out_at at name) (h (λ e. absurd (cc)))
