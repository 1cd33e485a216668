use Rattle.std.proofs.Common.{sym, ap, subst, ◌∙◌, [], Ok, Err}
use Rattle.scad_ast.specs.Scope.{items}
use Rattle.scad_grammar.specs.Verdict.{Judged}
use Rattle.scad_parse.proofs.loops.Program.{program_next, program_fewer, program_read, program_refused, judged_program}
use Rattle.scad_parse.proofs.loops.Program.{judged_fault}
use Rattle.scad_parse.proofs.descent.parse.Goals as goal

pub statements-preserved : goal.statements-preserved
statements-preserved c =
    program_next c.args.tokens.now.list.items c.args.tokens.now.end (items c.statements.scope.items)
    (items c.statement-scope.result.items) c.statements.invariant (sym c.has_more.ensures ∙ c.statements-test.true)
    c.statement-scope.ensures

pub statements-smaller : goal.statements-smaller
statements-smaller c =
    program_fewer c.args.tokens.now.list.items c.args.tokens.now.end (items c.statements.scope.items)
    (items c.statement-scope.result.items) c.statements.invariant (sym c.has_more.ensures ∙ c.statements-test.true)
    c.statement-scope.ensures

pub returns-in-None : goal.returns-in-None
returns-in-None c =
    subst (λ all. Judged [] c.args.tokens.now.list.items c.args.tokens.now.end (Ok (items all)))
    (sym c.shrink_to_fit.ensures.items)
    (judged_program (items c.statements.scope.items) c.args.tokens.now.list.items c.args.tokens.now.end (program_read
    c.args.tokens.now.list.items c.args.tokens.now.end (items c.statements.scope.items) c.statements.reader
    c.statements.invariant c.in-None.is (sym c.has_more.ensures ∙ c.statements-test.false)))

pub returns-in-Some : goal.returns-in-Some
returns-in-Some c =
    judged_fault c.args.tokens.now.list.items c.args.tokens.now.end c.told.result (λ some.
    let told = c.told.ensures some in program_refused c.args.tokens.now.list.items c.args.tokens.now.end
    (items c.statements.scope.items) c.statements.reader c.in-Some.fault c.statements.invariant c.in-Some.is told.0
    ∙ ap (λ f. Err f) (sym told.1))
