use Rattle.std.proofs.Common.{ap, sym, ◌∙◌, true, false, Ok}
use Rattle.scad_lex.specs.declared.token.Sign.TheVariants.{Star, Percent, Hash, Bang, Semicolon, OpenCurly, Assign}
use Rattle.scad_lex.specs.declared.token.Key.TheVariants.{Else, If, Module, Function}
use Rattle.scad_ast.specs.Tree.{choice, call_of, assignment, module_of, no_items}
use Rattle.scad_ast.specs.Scope.{items}
use Rattle.scad_ast.specs.View.{expression_of}
use Rattle.scad_ast.proofs.ScopeRows.{module_view}
use Rattle.scad_grammar.specs.Tokens.{is_sign, is_key}
use Rattle.scad_grammar.specs.Lists.{with_item, with_statement, no_marks, starred, percented, hashed}
use Rattle.scad_grammar.specs.Rules.{then_read, deeper, expr_of, expr_to}
use Rattle.scad_grammar.specs.StatementRules.{statement_of, child_of, otherwise_of}
use Rattle.scad_parse.specs.declared.fault.Form.TheVariants.{Root}
use Rattle.scad_parse.specs.Reading.{below, rules_at, arguments_seen}
use Rattle.scad_parse.specs.ReadingStatements.{below_statements, statement_rules_at, parameters_seen, marks_of}
use Rattle.scad_parse.specs.ReadingStatements.{heading_read, other_of, unmarked_of, first_at, definition_at, word_at}
use Rattle.scad_parse.specs.ReadingStatements.{call_at, callee_here, marks_here}
use Rattle.scad_parse.specs.Standing.{left_out, took, took_at, word_here}
use Rattle.scad_parse.proofs.loops.Groups.{group_next, group_fewer_come, group_ended}
use Rattle.scad_parse.proofs.rules.Steps.{follows, same_rule, stay, made_as, made_same, taking, by_taken, by_place}
use Rattle.scad_parse.proofs.rules.Steps.{goes_in, no_room, given_as}
use Rattle.scad_parse.proofs.rules.Statements.{no_statements, more_statements, opens_statement, passes_statement}
use Rattle.scad_parse.proofs.rules.Statements.{past_semicolon, past_curly, past_word, past_module, past_files}
use Rattle.scad_parse.proofs.rules.Statements.{past_star, past_percent, past_hash, past_root, by_marks, when_at}
use Rattle.scad_parse.proofs.rules.Statements.{is_word, statement_by, statement_is, not_semicolon, not_curly, not_word}
use Rattle.scad_parse.proofs.rules.Statements.{definition_by, definition_is, not_module, not_star, not_percent}
use Rattle.scad_parse.proofs.rules.Statements.{not_hash, marked_by, marked_is, run_by, run_is, not_left_out, called_by}
use Rattle.scad_parse.proofs.rules.Statements.{other_by, other_is, otherwise_other, child_by, child_is, not_ended}
use Rattle.scad_parse.proofs.rules.Statements.{word_behind_by, word_behind_is, assigned_by, module_by, module_is}
use Rattle.scad_parse.proofs.+statement.Goals as goal

pub statement::statement-returns-then-takes : goal.statement::statement-returns-then-takes
statement::statement-returns-then-takes t c =
    same_rule (λ e ts. statement_of e (below_statements e c.args.room) c.args.definitions (items c.args.scope.items) ts)
    (statement_by c.args.definitions c.args.room (items c.args.scope.items))
    (statement_is c.args.definitions c.args.room (items c.args.scope.items))
    (taking (λ e ts. took (is_sign Semicolon) ts) (λ e. by_taken (λ us. Ok (items c.args.scope.items, us))
    (not_semicolon c.args.definitions c.args.room (items c.args.scope.items) e)) c.if-takes.true c.takes.ensures stay)

pub statement::statement-returns-in-Some : goal.statement::statement-returns-in-Some
statement::statement-returns-in-Some t c =
    past_semicolon c.args.definitions c.args.room (items c.args.scope.items) c.if-takes.false c.takes.ensures
    (opens_statement (is_sign OpenCurly) (λ e at r. r.group c.args.definitions (items c.args.scope.items))
    (not_curly c.args.definitions c.args.room (items c.args.scope.items)) c.in-Some.is c.opens.ensures.opens
    c.group.ensures)

pub statement::statement-returns-then-begins_with_word : goal.statement::statement-returns-then-begins_with_word
statement::statement-returns-then-begins_with_word t c =
    past_semicolon c.args.definitions c.args.room (items c.args.scope.items) c.if-takes.false c.takes.ensures
    (past_curly c.args.definitions c.args.room (items c.args.scope.items) c.in_default.is c.opens.ensures.opens
    (when_at is_word (λ e. word_at e (below_statements e c.args.room) (items c.args.scope.items))
    (not_word c.args.definitions c.args.room (items c.args.scope.items))
    (sym c.begins_with_word.ensures ∙ c.if-begins_with_word.true) c.worded.ensures))

pub statement::statement-returns-then-definitions : goal.statement::statement-returns-then-definitions
statement::statement-returns-then-definitions t c =
    past_semicolon c.args.definitions c.args.room (items c.args.scope.items) c.if-takes.false c.takes.ensures
    (past_curly c.args.definitions c.args.room (items c.args.scope.items) c.in_default.is c.opens.ensures.opens
    (past_word c.args.definitions true c.args.room (items c.args.scope.items) c.if-definitions.true
    (sym c.begins_with_word.ensures ∙ c.if-begins_with_word.false) c.definition.ensures))

pub statement::statement-returns : goal.statement::statement-returns
statement::statement-returns t c =
    past_semicolon c.args.definitions c.args.room (items c.args.scope.items) c.if-takes.false c.takes.ensures
    (past_curly c.args.definitions c.args.room (items c.args.scope.items) c.in_default.is c.opens.ensures.opens
    (past_word c.args.definitions false c.args.room (items c.args.scope.items) c.if-definitions.false
    (sym c.begins_with_word.ensures ∙ c.if-begins_with_word.false) c.first.ensures))

pub statement::group-statements-preserved : goal.statement::group-statements-preserved
statement::group-statements-preserved t c =
    group_next c.args.room c.args.definitions (items c.args.scope.items) (items c.statements.all.items)
    (items c.statement-all.result.items) c.statements.invariant (sym c.lacks.ensures ∙ c.statements-test.true)
    c.statement-all.ensures

pub statement::group-statements-smaller : goal.statement::group-statements-smaller
statement::group-statements-smaller t c =
    group_fewer_come c.args.room c.args.definitions (items c.args.scope.items) (items c.statements.all.items)
    (items c.statement-all.result.items) c.statements.invariant (sym c.lacks.ensures ∙ c.statements-test.true)
    c.statement-all.ensures

pub statement::group-returns : goal.statement::group-returns
statement::group-returns t c =
    group_ended c.args.room c.args.definitions (items c.args.scope.items) (items c.statements.all.items)
    c.statements.invariant (sym c.lacks.ensures ∙ c.statements-test.false) c.pass.ensures.end c.pass.ensures.now

pub statement::worded-returns-in_default : goal.statement::worded-returns-in_default
statement::worded-returns-in_default t c =
    follows word_here
    (λ e w us. deeper (below_statements e c.args.room) w.0 (λ r. r.word_behind w.0 w.1 (items c.args.scope.items) us))
    c.word-word.ensures
    (no_room below_statements statement_rules_at no_statements more_statements
    (λ e r us. r.word_behind c.word-word.result.at c.word-word.result.name (items c.args.scope.items) us)
    c.in_default.is
    c.deeper.ensures.within)

pub statement::worded-returns : goal.statement::worded-returns
statement::worded-returns t c =
    follows word_here
    (λ e w us. deeper (below_statements e c.args.room) w.0 (λ r. r.word_behind w.0 w.1 (items c.args.scope.items) us))
    c.word-word.ensures
    (goes_in below_statements statement_rules_at no_statements more_statements
    (λ e r us. r.word_behind c.word-word.result.at c.word-word.result.name (items c.args.scope.items) us) c.in-Some.is
    c.deeper.ensures.within c.word_behind.ensures)

pub instance::called_first-returns-in_default : goal.instance::called_first-returns-in_default
instance::called_first-returns-in_default t c =
    follows callee_here
    (λ e w us. deeper (below_statements e c.args.room) w.0
    (λ r. r.call_behind w.0 no_marks w.1 (items c.args.scope.items) us))
    c.callee-word.ensures
    (no_room below_statements statement_rules_at no_statements more_statements
    (λ e r us. r.call_behind c.callee-word.result.at no_marks c.callee-word.result.name (items c.args.scope.items) us)
    c.in_default.is
    c.deeper.ensures.within)

pub instance::called_first-returns : goal.instance::called_first-returns
instance::called_first-returns t c =
    follows callee_here
    (λ e w us. deeper (below_statements e c.args.room) w.0
    (λ r. r.call_behind w.0 no_marks w.1 (items c.args.scope.items) us))
    c.callee-word.ensures
    (goes_in below_statements statement_rules_at no_statements more_statements
    (λ e r us. r.call_behind c.callee-word.result.at no_marks c.callee-word.result.name (items c.args.scope.items) us)
    c.in-Some.is
    c.deeper.ensures.within (by_marks
    (λ m e ts. (statement_rules_at e c.in-Some.inner).call_behind c.callee-word.result.at m c.callee-word.result.name
    (items c.args.scope.items) ts) c.unmarked-marks.ensures c.call.ensures))

pub statement::word_behind-returns-then-takes : goal.statement::word_behind-returns-then-takes
statement::word_behind-returns-then-takes t c =
    same_rule (λ e ts. (statement_rules_at e c.args.room).word_behind c.args.word.at c.args.word.name
    (items c.args.scope.items) ts)
    (word_behind_by c.args.room c.args.word.at c.args.word.name (items c.args.scope.items))
    (word_behind_is c.args.room c.args.word.at c.args.word.name (items c.args.scope.items))
    (taking (λ e ts. took (is_sign Assign) ts)
    (λ e. by_taken (assigned_by c.args.room c.args.word.at c.args.word.name (items c.args.scope.items) e)
    ((statement_rules_at e c.args.room).call_behind c.args.word.at no_marks c.args.word.name
    (items c.args.scope.items)))
    c.if-takes.true c.takes.ensures
    (follows (λ e ts. expr_to e Semicolon (expr_of e (below e c.args.room)) ts)
    (λ e x vs. Ok (with_item (items c.args.scope.items) (assignment c.args.word.at c.args.word.name x), vs))
    c.closed-value.ensures c.pushed.ensures))

pub statement::word_behind-returns : goal.statement::word_behind-returns
statement::word_behind-returns t c =
    same_rule (λ e ts. (statement_rules_at e c.args.room).word_behind c.args.word.at c.args.word.name
    (items c.args.scope.items) ts)
    (word_behind_by c.args.room c.args.word.at c.args.word.name (items c.args.scope.items))
    (word_behind_is c.args.room c.args.word.at c.args.word.name (items c.args.scope.items))
    (taking (λ e ts. took (is_sign Assign) ts)
    (λ e. by_taken (assigned_by c.args.room c.args.word.at c.args.word.name (items c.args.scope.items) e)
    ((statement_rules_at e c.args.room).call_behind c.args.word.at no_marks c.args.word.name
    (items c.args.scope.items)))
    c.if-takes.false c.takes.ensures
    (by_marks (λ m e ts. (statement_rules_at e c.args.room).call_behind c.args.word.at m c.args.word.name
    (items c.args.scope.items) ts) c.unmarked-marks.ensures c.call.ensures))

pub statement::definition-returns-in-Some : goal.statement::definition-returns-in-Some
statement::definition-returns-in-Some t c =
    same_rule (λ e ts. definition_at e (below_statements e c.args.room) (items c.args.scope.items) ts)
    (definition_by c.args.room (items c.args.scope.items)) (definition_is c.args.room (items c.args.scope.items))
    (opens_statement (is_key Module) (λ e at r. r.module_behind at (items c.args.scope.items))
    (not_module c.args.room (items c.args.scope.items)) c.in-Some.is c.opens_key.ensures.opens
    c.module.ensures)

pub statement::definition-returns-in-Some-opens_key : goal.statement::definition-returns-in-Some-opens_key
statement::definition-returns-in-Some-opens_key t c =
    past_module c.args.room (items c.args.scope.items) c.in_default.is c.opens_key.ensures.opens
    (opens_statement (is_key Function) (λ e at r. r.function_behind at (items c.args.scope.items))
    (λ e. first_at e (below_statements e c.args.room) (items c.args.scope.items)) c.in-Some-opens_key.is
    c.opens_key-2.ensures.opens c.function.ensures)

pub statement::definition-returns : goal.statement::definition-returns
statement::definition-returns t c =
    past_module c.args.room (items c.args.scope.items) c.in_default.is c.opens_key.ensures.opens
    (passes_statement (is_key Function) (λ e at r. r.function_behind at (items c.args.scope.items))
    (λ e. first_at e (below_statements e c.args.room) (items c.args.scope.items)) c.in_default-opens_key.is
    c.opens_key-2.ensures.opens c.first.ensures)

pub instance::first-returns-in-Some : goal.instance::first-returns-in-Some
instance::first-returns-in-Some t c =
    past_files c.args.room (items c.args.scope.items) c.leaves_out.ensures c.leaves_out-2.ensures
    (opens_statement (is_sign Star) (λ e at r. r.marked (starred no_marks) (items c.args.scope.items))
    (not_star c.args.room (items c.args.scope.items)) c.in-Some.is c.opens.ensures.opens (by_marks
    (λ m e ts. (statement_rules_at e c.in-Some.open.room).marked m (items c.args.scope.items) ts)
    (c.starred.ensures ∙ ap starred c.unmarked-none.ensures) c.marked.ensures))

pub instance::first-returns-in-Some-opens : goal.instance::first-returns-in-Some-opens
instance::first-returns-in-Some-opens t c =
    past_files c.args.room (items c.args.scope.items) c.leaves_out.ensures c.leaves_out-2.ensures
    (past_star c.args.room (items c.args.scope.items) c.in_default.is c.opens.ensures.opens
    (opens_statement (is_sign Percent) (λ e at r. r.marked (percented no_marks) (items c.args.scope.items))
    (not_percent c.args.room (items c.args.scope.items)) c.in-Some-opens.is c.opens-2.ensures.opens (by_marks
    (λ m e ts. (statement_rules_at e c.in-Some-opens.open.room).marked m (items c.args.scope.items) ts)
    (c.percented.ensures ∙ ap percented c.unmarked-none.ensures) c.marked-in-Some-opens.ensures)))

pub instance::first-returns-in-Some-opens-2 : goal.instance::first-returns-in-Some-opens-2
instance::first-returns-in-Some-opens-2 t c =
    past_files c.args.room (items c.args.scope.items) c.leaves_out.ensures c.leaves_out-2.ensures
    (past_star c.args.room (items c.args.scope.items) c.in_default.is c.opens.ensures.opens
    (past_percent c.args.room (items c.args.scope.items) c.in_default-opens.is c.opens-2.ensures.opens
    (opens_statement (is_sign Hash) (λ e at r. r.marked (hashed no_marks) (items c.args.scope.items))
    (not_hash c.args.room (items c.args.scope.items)) c.in-Some-opens-2.is c.opens-3.ensures.opens (by_marks
    (λ m e ts. (statement_rules_at e c.in-Some-opens-2.open.room).marked m (items c.args.scope.items) ts)
    (c.hashed.ensures ∙ ap hashed c.unmarked-none.ensures) c.marked-in-Some-opens-2.ensures))))

pub instance::first-returns-in-Some-opens_key : goal.instance::first-returns-in-Some-opens_key
instance::first-returns-in-Some-opens_key t c =
    past_files c.args.room (items c.args.scope.items) c.leaves_out.ensures c.leaves_out-2.ensures
    (past_star c.args.room (items c.args.scope.items) c.in_default.is c.opens.ensures.opens
    (past_percent c.args.room (items c.args.scope.items) c.in_default-opens.is c.opens-2.ensures.opens
    (past_hash c.args.room (items c.args.scope.items) c.in_default-opens-2.is c.opens-3.ensures.opens
    (past_root c.args.room (items c.args.scope.items) c.leaves_out_sign.ensures
    (opens_statement (is_key If) (λ e at r. r.choice_behind at no_marks (items c.args.scope.items))
    (λ e. call_at e (below_statements e c.args.room) (items c.args.scope.items)) c.in-Some-opens_key.is
    c.opens_key.ensures.opens (by_marks
    (λ m e ts. (statement_rules_at e c.in-Some-opens_key.open.room).choice_behind c.in-Some-opens_key.open.at m
    (items c.args.scope.items) ts) c.unmarked-none.ensures c.choice.ensures))))))

pub instance::first-returns : goal.instance::first-returns
instance::first-returns t c =
    past_files c.args.room (items c.args.scope.items) c.leaves_out.ensures c.leaves_out-2.ensures
    (past_star c.args.room (items c.args.scope.items) c.in_default.is c.opens.ensures.opens
    (past_percent c.args.room (items c.args.scope.items) c.in_default-opens.is c.opens-2.ensures.opens
    (past_hash c.args.room (items c.args.scope.items) c.in_default-opens-2.is c.opens-3.ensures.opens
    (past_root c.args.room (items c.args.scope.items) c.leaves_out_sign.ensures
    (passes_statement (is_key If) (λ e at r. r.choice_behind at no_marks (items c.args.scope.items))
    (λ e. call_at e (below_statements e c.args.room) (items c.args.scope.items)) c.in_default-opens_key.is
    c.opens_key.ensures.opens c.called_first.ensures)))))

pub instance::marked-returns : goal.instance::marked-returns
instance::marked-returns t c =
    same_rule (λ e ts. (statement_rules_at e c.args.room).marked (marks_of c.args.so_far) (items c.args.scope.items) ts)
    (marked_by c.args.room (marks_of c.args.so_far) (items c.args.scope.items))
    (marked_is c.args.room (marks_of c.args.so_far) (items c.args.scope.items))
    (follows (λ e ts. marks_here (marks_of c.args.so_far) ts)
    (λ e m. unmarked_of e (rules_at e c.args.room) (below_statements e c.args.room) m (items c.args.scope.items))
    c.marks-marks.ensures c.run.ensures)

pub instance::run-returns-in-Some : goal.instance::run-returns-in-Some
instance::run-returns-in-Some t c =
    same_rule (λ e ts. unmarked_of e (rules_at e c.args.room) (below_statements e c.args.room)
    (marks_of c.args.before.marks) (items c.args.before.scope.items) ts)
    (run_by c.args.room (marks_of c.args.before.marks) (items c.args.before.scope.items))
    (run_is c.args.room (marks_of c.args.before.marks) (items c.args.before.scope.items))
    (follows (λ e ts. left_out (is_sign Bang) Root ts)
    (λ e _. not_left_out c.args.room (marks_of c.args.before.marks) (items c.args.before.scope.items) e)
    c.leaves_out_sign.ensures
    (taking (λ e ts. took_at (is_key If) ts) (λ e. by_place
    (λ at. (statement_rules_at e c.args.room).choice_behind at (marks_of c.args.before.marks)
    (items c.args.before.scope.items))
    (called_by c.args.room (marks_of c.args.before.marks) (items c.args.before.scope.items) e))
    c.in-Some.is c.takes_key.ensures c.choice.ensures))

pub instance::run-returns : goal.instance::run-returns
instance::run-returns t c =
    same_rule (λ e ts. unmarked_of e (rules_at e c.args.room) (below_statements e c.args.room)
    (marks_of c.args.before.marks) (items c.args.before.scope.items) ts)
    (run_by c.args.room (marks_of c.args.before.marks) (items c.args.before.scope.items))
    (run_is c.args.room (marks_of c.args.before.marks) (items c.args.before.scope.items))
    (follows (λ e ts. left_out (is_sign Bang) Root ts)
    (λ e _. not_left_out c.args.room (marks_of c.args.before.marks) (items c.args.before.scope.items) e)
    c.leaves_out_sign.ensures
    (taking (λ e ts. took_at (is_key If) ts) (λ e. by_place
    (λ at. (statement_rules_at e c.args.room).choice_behind at (marks_of c.args.before.marks)
    (items c.args.before.scope.items))
    (called_by c.args.room (marks_of c.args.before.marks) (items c.args.before.scope.items) e))
    c.in_default.is c.takes_key.ensures
    (follows callee_here (λ e w. (statement_rules_at e c.args.room).call_behind w.0 (marks_of c.args.before.marks) w.1
    (items c.args.before.scope.items)) c.callee-word.ensures c.call.ensures)))

pub instance::call-returns : goal.instance::call-returns
instance::call-returns t c =
    follows (λ e ts. (rules_at e c.args.room).round_args ts)
    (λ e args us. then_read (child_of e (below_statements e c.args.room) us)
    (λ inside vs. Ok (
      with_statement (marks_of c.args.before.marks) (items c.args.before.scope.items)
          (call_of c.args.word.at c.args.before.marks.percent c.args.before.marks.hash c.args.word.name args inside),
      vs,
    )))
    c.round_arguments-args.ensures
    (follows (λ e ts. child_of e (below_statements e c.args.room) ts)
    (λ e inside vs. Ok (
      with_statement (marks_of c.args.before.marks) (items c.args.before.scope.items)
          (call_of c.args.word.at c.args.before.marks.percent c.args.before.marks.hash c.args.word.name
          (arguments_seen c.round_arguments-args.result) inside),
      vs,
    ))
    c.child-inside.ensures c.called.ensures)

pub instance::choice-returns : goal.instance::choice-returns
instance::choice-returns t c =
    follows (λ e ts. (rules_at e c.args.room).round_expr ts)
    (λ e x us. then_read (child_of e (below_statements e c.args.room) us)
    (otherwise_of e (below_statements e c.args.room) c.args.at (marks_of c.args.before.marks) x
    (items c.args.before.scope.items))) c.round_expression-test.ensures
    (follows (λ e ts. child_of e (below_statements e c.args.room) ts)
    (λ e. otherwise_of e (below_statements e c.args.room) c.args.at (marks_of c.args.before.marks)
    (expression_of c.round_expression-test.result)
    (items c.args.before.scope.items)) c.child-held.ensures
    (same_rule (λ e ts. otherwise_of e (below_statements e c.args.room) c.args.at (marks_of c.args.before.marks)
    (expression_of c.round_expression-test.result)
    (items c.args.before.scope.items) (items c.child-held.result.items) ts)
    (λ e ts. then_read (other_of e (below_statements e c.args.room) ts)
    (λ other us. Ok (
      with_statement (marks_of c.args.before.marks) (items c.args.before.scope.items)
          (choice c.args.at c.args.before.marks.percent c.args.before.marks.hash
          (expression_of c.round_expression-test.result)
          (items c.child-held.result.items) other),
      us,
    )))
    (λ e ts. otherwise_other e (below_statements e c.args.room) c.args.at (marks_of c.args.before.marks)
    (expression_of c.round_expression-test.result)
    (items c.args.before.scope.items) (items c.child-held.result.items) ts)
    (follows (λ e ts. other_of e (below_statements e c.args.room) ts)
    (λ e other us. Ok (
      with_statement (marks_of c.args.before.marks) (items c.args.before.scope.items)
          (choice c.args.at c.args.before.marks.percent c.args.before.marks.hash
          (expression_of c.round_expression-test.result)
          (items c.child-held.result.items) other),
      us,
    ))
    c.otherwise-other.ensures c.chosen.ensures)))

pub instance::otherwise-returns-in_default : goal.instance::otherwise-returns-in_default
instance::otherwise-returns-in_default t c =
    same_rule (λ e ts. other_of e (below_statements e c.args.room) ts) (other_by c.args.room) (other_is c.args.room)
    (taking (λ e ts. took_at (is_key Else) ts)
    (λ e. by_place (λ at. child_of e (below_statements e c.args.room)) (λ us. Ok (no_items, us)))
    c.in_default.is c.takes_key.ensures (made_as (ap items c.new.ensures.items)))

pub instance::otherwise-returns : goal.instance::otherwise-returns
instance::otherwise-returns t c =
    same_rule (λ e ts. other_of e (below_statements e c.args.room) ts) (other_by c.args.room) (other_is c.args.room)
    (taking (λ e ts. took_at (is_key Else) ts)
    (λ e. by_place (λ at. child_of e (below_statements e c.args.room)) (λ us. Ok (no_items, us)))
    c.in-Some.is c.takes_key.ensures c.child.ensures)

pub instance::child-returns-then-takes : goal.instance::child-returns-then-takes
instance::child-returns-then-takes t c =
    same_rule (λ e ts. child_of e (below_statements e c.args.room) ts)
    (child_by c.args.room (items c.new-none.result.items))
    (child_is c.args.room c.new-none.result.items c.new-none.ensures.items)
    (taking (λ e ts. took (is_sign Semicolon) ts)
    (λ e. by_taken (λ us. Ok (items c.new-none.result.items, us))
    (not_ended c.args.room (items c.new-none.result.items) e))
    c.if-takes.true c.takes.ensures stay)

pub instance::child-returns-in-Some : goal.instance::child-returns-in-Some
instance::child-returns-in-Some t c =
    same_rule (λ e ts. child_of e (below_statements e c.args.room) ts)
    (child_by c.args.room (items c.new-none.result.items))
    (child_is c.args.room c.new-none.result.items c.new-none.ensures.items)
    (taking (λ e ts. took (is_sign Semicolon) ts)
    (λ e. by_taken (λ us. Ok (items c.new-none.result.items, us))
    (not_ended c.args.room (items c.new-none.result.items) e))
    c.if-takes.false c.takes.ensures
    (opens_statement (is_sign OpenCurly) (λ e at r. r.group false (items c.new-none.result.items))
    (λ e. first_at e (below_statements e c.args.room) (items c.new-none.result.items))
    c.in-Some.is c.opens.ensures.opens
    (given_as (ap items c.shrink_to_fit.ensures.items) c.group-inside.ensures)))

pub instance::child-returns : goal.instance::child-returns
instance::child-returns t c =
    same_rule (λ e ts. child_of e (below_statements e c.args.room) ts)
    (child_by c.args.room (items c.new-none.result.items))
    (child_is c.args.room c.new-none.result.items c.new-none.ensures.items)
    (taking (λ e ts. took (is_sign Semicolon) ts)
    (λ e. by_taken (λ us. Ok (items c.new-none.result.items, us))
    (not_ended c.args.room (items c.new-none.result.items) e))
    c.if-takes.false c.takes.ensures
    (passes_statement (is_sign OpenCurly) (λ e at r. r.group false (items c.new-none.result.items))
    (λ e. first_at e (below_statements e c.args.room) (items c.new-none.result.items))
    c.in_default.is c.opens.ensures.opens c.first.ensures))

pub definition::module-returns : goal.definition::module-returns
definition::module-returns t c =
    same_rule (λ e ts. (statement_rules_at e c.args.open.room).module_behind c.args.open.at
    (items c.args.scope.items) ts)
    (module_by c.args.open.room c.args.open.at (items c.args.scope.items) (items c.new-none.result.items))
    (module_is c.args.open.room c.args.open.at (items c.args.scope.items) c.new-none.result.items
    c.new-none.ensures.items)
    (follows (λ e ts. heading_read e (below_statements e c.args.open.room) ts)
    (λ e h us. then_read (statement_of e (below_statements e c.args.open.room) true (items c.new-none.result.items) us)
    (λ body vs. Ok (with_item (items c.args.scope.items) (module_of c.args.open.at h.0 h.1 body), vs)))
    c.heading-head.ensures
    (follows (λ e ts. statement_of e (below_statements e c.args.open.room) true (items c.new-none.result.items) ts)
    (λ e body vs. Ok (
      with_item (items c.args.scope.items) (module_of c.args.open.at c.heading-head.result.name
          (parameters_seen c.heading-head.result.params) body),
      vs,
    )) (given_as (ap items c.shrink_to_fit.ensures.items) c.statement-body.ensures)
    (made_same (ap (with_item (items c.args.scope.items)) (module_view c.heading-head.result.name
    c.heading-head.result.params c.shrink_to_fit.new.self c.args.open.at)) c.pushed.ensures)))
