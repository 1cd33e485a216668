-- The descent gives what the reader gives.
use Rattle.std.proofs.Common.{◌≡◌, ℕ, zero, suc, ◌≤◌, true, List, [], ◌∷◌, Result, Ok, Err, length, refl, sym, ◌∙◌}
use Rattle.std.proofs.Common.{arith}
use Rattle.scad_fault.specs.declared.place.Place.{Place}
use Rattle.scad_lex.specs.declared.token.Token.{Token}
use Rattle.scad_ast.specs.Tree.{Items, no_items}
use Rattle.scad_grammar.specs.Behind.{in_program}
use Rattle.scad_grammar.specs.State.{have_items, want_statement}
use Rattle.scad_grammar.specs.StatementSteps.{after_items, finish_items}
use Rattle.scad_grammar.specs.Machine.{step, finish, Refusal, most_open, judge_end, outcome}
use Rattle.scad_grammar.specs.Rules.{Read}
use Rattle.scad_grammar.specs.StatementRules.{statement_rules, program_from}
use Rattle.scad_grammar.specs.Promises.{DescentIsTheReader}
use Rattle.scad_grammar.proofs.rules.Turns.{follow, by_outcome}
use Rattle.scad_grammar.proofs.rules.Fewer.{Leaves}
use Rattle.scad_grammar.proofs.rules.FewerStatements.{statements_fewer}
use Rattle.scad_grammar.proofs.rules.Statements.{statements_linked}

over_program : (end : Place) (left : ℕ) (all : Items) (ts : List Token) → length ts ≤ left →
    outcome (have_items all in_program) ts end ≡ program_from end left all ts
unfolding outcome finish finish_items judge_end program_from step after_items
over_program end zero all [] long = refl
over_program end (suc left) all [] long = refl
over_program end zero all (t ∷ ts) long = absurd (omega arith)
over_program end (suc left) all (t ∷ ts) long =
    by_outcome (have_items all in_program) t ts end
    ∙ (sym (by_outcome (want_statement true all in_program) t ts end)
    ∙ ((statements_linked end most_open).statement true all (t ∷ ts) in_program refl
    ∙ by_read ((statement_rules end most_open).statement true all (t ∷ ts))
    ((statements_fewer end most_open).statement true all (t ∷ ts))
    (λ b us. over_program end left b us)))
  where
    by_read : (r : Read Items) → Leaves (suc (length ts)) r →
        ((b : Items) (us : List Token) → length us ≤ left →
        outcome (have_items b in_program) us end ≡ program_from end left b us) →
        follow r (λ b us. outcome (have_items b in_program) us end)
        ≡ elim r as (λ x. Result Items Refusal) [ Ok r ↦ program_from end left r.0 r.1 | Err fault ↦ Err fault ]
    by_read (Ok r) few later = later r.0 r.1 (omega (arith, few, long))
    by_read (Err fault) few later = refl

pub descent_is_the_reader : DescentIsTheReader
descent_is_the_reader ts end = sym (over_program end (length ts) no_items ts (omega arith))
