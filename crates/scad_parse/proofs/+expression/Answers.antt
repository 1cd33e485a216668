use Rattle.std.proofs.Common.{◌-◌, length, ap, sym, ◌∙◌, Ok, option_map}
use Rattle.std.specs.Prelude.{is_some}
use Rattle.scad_lex.specs.declared.token.Sign.TheVariants.{OpenRound, OpenSquare, CloseRound, CloseSquare, Question}
use Rattle.scad_lex.specs.declared.token.Sign.TheVariants.{Colon, Bang, Plus, Minus, Dot, Caret, Semicolon}
use Rattle.scad_lex.specs.declared.token.Key.TheVariants.{If, Else, For, Let, Assert, Echo, Each}
use Rattle.scad_ast.specs.declared.operator.UnOp.TheVariants.{Not, Plus as UnaryPlus, Minus as UnaryMinus}
use Rattle.scad_ast.specs.Tree.{no_arguments, name, call, choose, index, member, range, stepped, unary, binary, item}
use Rattle.scad_ast.specs.Tree.{each, if_element, if_else}
use Rattle.scad_ast.specs.View.{expression_of, element_of, elements}
use Rattle.scad_grammar.specs.Tokens.{is_sign, is_key, operator}
use Rattle.scad_grammar.specs.Lists.{let_of}
use Rattle.scad_grammar.specs.Behind.{letting, asserting, echoing, keyed_tree}
use Rattle.scad_grammar.specs.Rules.{then_read, expr_of, operand_of, unary_of, posts_of, links_of, choice_of, expr_to}
use Rattle.scad_grammar.specs.Rules.{args_of, args_closed_of, elem_of, else_of, range_end, head_end, for_all, for_steps}
use Rattle.scad_grammar.specs.Rules.{headed as grammar_headed}
use Rattle.scad_parse.specs.declared.fault.Form.TheVariants.{Power}
use Rattle.scad_parse.specs.Heads.{head_of}
use Rattle.scad_parse.specs.Reading.{below, rules_at, keyed, bound_by, prefixed_by, prim_at, name_at, name_before}
use Rattle.scad_parse.specs.Reading.{argument_of, arguments_seen, round_head_of, chain_of}
use Rattle.scad_parse.specs.Standing.{standing, operator_at, left_out, took, word_here, literal_here}
use Rattle.scad_parse.proofs.loops.Arguments.{arguments_go, arguments_fewer, arguments_end}
use Rattle.scad_parse.proofs.loops.Elements.{elements_go_on, elements_fewer_come, elements_ranged, elements_ended}
use Rattle.scad_parse.proofs.rules.Steps.{follows, same_rule, same_rule_here, stay, made_as, made_then, expected}
use Rattle.scad_parse.proofs.rules.Steps.{closed_by, taking, by_taken, round_opens, round_stops, goes_in, no_room}
use Rattle.scad_parse.proofs.rules.Expressions.{no_rules, more_rules, opens_rule, passes_rule, past_function, past_let}
use Rattle.scad_parse.proofs.rules.Expressions.{past_assert, past_bang, past_plus, past_round, past_bracket, past_for}
use Rattle.scad_parse.proofs.rules.Expressions.{past_each, past_if, not_assert, not_echo, unbound, chosen, choice_by}
use Rattle.scad_parse.proofs.rules.Expressions.{choice_is, operand_is, operand_by, alone, chain_ends, chain_looser}
use Rattle.scad_parse.proofs.rules.Expressions.{chain_by, one_less, links_by, link_by, links_are, linked, unary_by}
use Rattle.scad_parse.proofs.rules.Expressions.{unary_is, not_bang, not_plus, unprefixed, posts_by, posts_is, index_by}
use Rattle.scad_parse.proofs.rules.Expressions.{not_square, member_by_word, not_dot, primary_by, primary_is, not_round}
use Rattle.scad_parse.proofs.rules.Expressions.{not_bracket, by_literal, named_by, named_is, behind_name, call_by}
use Rattle.scad_parse.proofs.rules.Expressions.{ranged_by, ranged_is, stepping, ended, element_by, element_is, not_for}
use Rattle.scad_parse.proofs.rules.Expressions.{not_each, not_if, plain, each_by, if_by, let_by, else_by, else_is}
use Rattle.scad_parse.proofs.rules.Expressions.{other_by, head_by, head_is, in_parts, steps_by, argument_by}
use Rattle.scad_parse.proofs.rules.Expressions.{argument_is, range_reads, range_refused}
use Rattle.scad_parse.proofs.+expression.Goals as goal

pub expression::expression-returns-in-Some : goal.expression::expression-returns-in-Some
expression::expression-returns-in-Some t c =
    past_function c.args.room c.leaves_out.ensures
    (opens_rule (is_key Let) (λ e. bound_by letting) (λ e. not_assert e c.args.room) c.in-Some.is
    c.opens_key.ensures.opens
    c.bound.ensures)

pub expression::expression-returns-in-Some-opens_key : goal.expression::expression-returns-in-Some-opens_key
expression::expression-returns-in-Some-opens_key t c =
    past_function c.args.room c.leaves_out.ensures
    (past_let c.args.room c.in_default.is c.opens_key.ensures.opens
    (opens_rule (is_key Assert) (λ e. bound_by asserting) (λ e. not_echo e c.args.room) c.in-Some-opens_key.is
    c.opens_key-2.ensures.opens
    c.bound-in-Some-opens_key.ensures))

pub expression::expression-returns-in-Some-opens_key-2 : goal.expression::expression-returns-in-Some-opens_key-2
expression::expression-returns-in-Some-opens_key-2 t c =
    past_function c.args.room c.leaves_out.ensures
    (past_let c.args.room c.in_default.is c.opens_key.ensures.opens
    (past_assert c.args.room c.in_default-opens_key.is c.opens_key-2.ensures.opens
    (opens_rule (is_key Echo) (λ e. bound_by echoing) (λ e. unbound e c.args.room) c.in-Some-opens_key-2.is
    c.opens_key-3.ensures.opens
    c.bound-in-Some-opens_key-2.ensures)))

pub expression::expression-returns : goal.expression::expression-returns
expression::expression-returns t c =
    past_function c.args.room c.leaves_out.ensures
    (past_let c.args.room c.in_default.is c.opens_key.ensures.opens
    (past_assert c.args.room c.in_default-opens_key.is c.opens_key-2.ensures.opens
    (passes_rule (is_key Echo) (λ e. bound_by echoing) (λ e. unbound e c.args.room) c.in_default-opens_key-2.is
    c.opens_key-3.ensures.opens
    (follows (λ e ts. operand_of e (below e c.args.room) 6 ts) (λ e. choice_of e (below e c.args.room))
    c.operand-test.ensures c.choice.ensures))))

pub expression::bound-returns : goal.expression::bound-returns
expression::bound-returns t c =
    follows (λ e ts. (rules_at e c.args.open.room).round_args ts)
    (λ e all us. then_read ((rules_at e c.args.open.room).expr us)
    (λ x vs. Ok (keyed_tree (keyed c.args.binder) c.args.open.at all x, vs))) c.round_arguments-args.ensures
    (follows (λ e ts. (rules_at e c.args.open.room).expr ts)
    (λ e x vs. Ok (
      keyed_tree (keyed c.args.binder) c.args.open.at
          (arguments_seen c.round_arguments-args.result) x,
      vs,
    ))
    c.expression-body.ensures c.bound.ensures)

pub expression::choice-returns-in_default : goal.expression::choice-returns-in_default
expression::choice-returns-in_default t c =
    same_rule (λ e ts. choice_of e (below e c.args.room) (expression_of c.args.test) ts)
    (chosen c.args.room (expression_of c.args.test)) (choice_is c.args.room (expression_of c.args.test))
    (passes_rule (is_sign Question) (choice_by (expression_of c.args.test))
    (λ e us. Ok (expression_of c.args.test, us)) c.in_default.is
    c.opens.ensures.opens stay)

pub expression::choice-returns : goal.expression::choice-returns
expression::choice-returns t c =
    same_rule (λ e ts. choice_of e (below e c.args.room) (expression_of c.args.test) ts)
    (chosen c.args.room (expression_of c.args.test)) (choice_is c.args.room (expression_of c.args.test))
    (opens_rule (is_sign Question) (choice_by (expression_of c.args.test))
    (λ e us. Ok (expression_of c.args.test, us)) c.in-Some.is
    c.opens.ensures.opens
    (follows (λ e ts. expr_to e Colon (expr_of e (below e c.in-Some.open.room)) ts)
    (λ e b us. then_read (expr_of e (below e c.in-Some.open.room) us)
    (λ x vs. Ok (choose c.in-Some.open.at (expression_of c.args.test) b x, vs))) c.closed-chosen.ensures
    (follows (λ e ts. expr_of e (below e c.in-Some.open.room) ts)
    (λ e x vs. Ok (choose c.in-Some.open.at (expression_of c.args.test) (expression_of c.closed-chosen.result) x, vs))
    c.expression-other.ensures c.choose.ensures)))

pub expression::closed-returns : goal.expression::closed-returns
expression::closed-returns t c =
    closed_by c.args.sign (λ e ts. expr_of e (below e c.args.room) ts) c.expression-value.ensures c.expect.ensures

pub expression::round_expression-returns-in_default : goal.expression::round_expression-returns-in_default
expression::round_expression-returns-in_default t c =
    round_stops below rules_at no_rules more_rules
    (λ e r us. expr_to e CloseRound r.expr us) c.needs.ensures c.in_default.is c.open.ensures.opens

pub expression::round_expression-returns : goal.expression::round_expression-returns
expression::round_expression-returns t c =
    round_opens below rules_at no_rules more_rules
    (λ e r us. expr_to e CloseRound r.expr us) c.needs.ensures c.in-Some.is c.open.ensures.opens
    c.closed.ensures

pub argument::round_arguments-returns-in_default : goal.argument::round_arguments-returns-in_default
argument::round_arguments-returns-in_default t c =
    round_stops below rules_at no_rules more_rules
    (λ e r us. r.args_closed us) c.needs.ensures c.in_default.is c.open.ensures.opens

pub argument::round_arguments-returns : goal.argument::round_arguments-returns
argument::round_arguments-returns t c =
    round_opens below rules_at no_rules more_rules
    (λ e r us. r.args_closed us) c.needs.ensures c.in-Some.is c.open.ensures.opens
    c.closed_arguments.ensures

pub element::round_head-returns-in_default : goal.element::round_head-returns-in_default
element::round_head-returns-in_default t c =
    round_stops below rules_at no_rules more_rules
    (λ e r us. r.for_head us) c.needs.ensures c.in_default.is c.open.ensures.opens

pub element::round_head-returns : goal.element::round_head-returns
element::round_head-returns t c =
    round_opens below rules_at no_rules more_rules
    (λ e r us. r.for_head us) c.needs.ensures c.in-Some.is c.open.ensures.opens
    c.for_head.ensures

pub argument::closed_arguments-returns : goal.argument::closed_arguments-returns
argument::closed_arguments-returns t c =
    closed_by CloseRound (λ e ts. args_of e (below e c.args.room) (length ts) no_arguments ts) c.arguments-args.ensures
    c.expect.ensures

pub argument::argument-returns : goal.argument::argument-returns
argument::argument-returns t c =
    same_rule (λ e ts. argument_of e (below e c.args.room) ts) (argument_by c.args.room) (argument_is c.args.room)
    (follows (λ e ts. name_before ts)
    (λ e name us. then_read (expr_of e (below e c.args.room) us) (λ x vs. Ok ((name, x), vs)))
    c.argument_name-name.ensures
    (follows (λ e ts. expr_of e (below e c.args.room) ts) (λ e x vs. Ok ((c.argument_name-name.result, x), vs))
    c.expression-value.ensures stay))

pub argument::arguments-members-preserved : goal.argument::arguments-members-preserved
argument::arguments-members-preserved t c =
    arguments_go c.args.room c.members.args.items c.push_lone.new.all.items c.argument-arg.result c.members.invariant
    (sym c.lacks_end_of_arguments.ensures ∙ c.members-test.true) c.argument-arg.ensures c.push_lone.ensures
    c.behind_argument.ensures

pub argument::arguments-members-smaller : goal.argument::arguments-members-smaller
argument::arguments-members-smaller t c =
    arguments_fewer c.args.room c.members.args.items c.push_lone.new.all.items c.argument-arg.result c.members.invariant
    (sym c.lacks_end_of_arguments.ensures ∙ c.members-test.true) c.argument-arg.ensures c.push_lone.ensures
    c.behind_argument.ensures

pub argument::arguments-returns : goal.argument::arguments-returns
argument::arguments-returns t c =
    arguments_end c.args.room c.members.args.items c.shrink_to_fit.new.self.items c.members.invariant
    (sym c.lacks_end_of_arguments.ensures ∙ c.members-test.false) c.shrink_to_fit.ensures.items

pub operand::operand-returns-then-not-begins_with_operator :
    goal.operand::operand-returns-then-not-begins_with_operator
operand::operand-returns-then-not-begins_with_operator t c =
    same_rule (λ e ts. operand_of e (below e c.args.room) c.args.lines ts) (operand_by c.args.room c.args.lines)
    (operand_is c.args.room c.args.lines)
    (follows (λ e ts. unary_of e (below e c.args.room) ts) (λ e. chain_of (below e c.args.room) c.args.lines)
    c.unary-first.ensures
    (alone c.args.room c.args.lines (expression_of c.unary-first.result)
    (sym c.begins_with_operator.ensures ∙ c.if-not-begins_with_operator.true)))

pub operand::operand-returns : goal.operand::operand-returns
operand::operand-returns t c =
    same_rule (λ e ts. operand_of e (below e c.args.room) c.args.lines ts) (operand_by c.args.room c.args.lines)
    (operand_is c.args.room c.args.lines)
    (follows (λ e ts. unary_of e (below e c.args.room) ts) (λ e. chain_of (below e c.args.room) c.args.lines)
    c.unary-first.ensures c.chain.ensures)

pub operand::chain-returns-then-lines-eq0 : goal.operand::chain-returns-then-lines-eq0
operand::chain-returns-then-lines-eq0 t c =
    same_rule (λ e ts. chain_of (below e c.args.room) c.args.lines (expression_of c.args.first) ts)
    (λ e us. Ok (expression_of c.args.first, us))
    (chain_ends c.args.room c.args.lines (expression_of c.args.first) c.if-lines-eq0.true) stay

pub operand::chain-returns : goal.operand::chain-returns
operand::chain-returns t c =
    same_rule (λ e ts. chain_of (below e c.args.room) c.args.lines (expression_of c.args.first) ts)
    (chain_by c.args.room (c.args.lines - 1) (expression_of c.args.first))
    (chain_looser c.args.room c.args.lines (c.args.lines - 1) (expression_of c.args.first)
    (one_less c.args.lines c.if-lines-eq0.false))
    (follows (λ e ts. chain_of (below e c.args.room) (c.args.lines - 1) (expression_of c.args.first) ts)
    (λ e. links_of (below e c.args.room) (c.args.lines - 1)) c.chain-left.ensures c.links.ensures)

pub operand::links-returns-in_default : goal.operand::links-returns-in_default
operand::links-returns-in_default t c =
    same_rule_here (λ e ts. links_of (below e c.args.room) c.args.line (expression_of c.args.left) ts)
    (links_by c.args.room c.args.line (expression_of c.args.left)
    (operator_at c.args.line (standing c.args.reader.now)))
    (links_are c.args.room c.args.line (expression_of c.args.left) (standing c.args.reader.now))
    (passes_rule (λ t. is_some (operator c.args.line t))
    (λ e. link_by c.args.line (expression_of c.args.left) (operator_at c.args.line (standing c.args.reader.now)))
    (λ e us. Ok (expression_of c.args.left, us))
    (ap (option_map (λ link. link.open)) c.in_default.is) c.opens_operator.ensures.opens stay)

pub operand::links-returns : goal.operand::links-returns
operand::links-returns t c =
    same_rule_here (λ e ts. links_of (below e c.args.room) c.args.line (expression_of c.args.left) ts)
    (links_by c.args.room c.args.line (expression_of c.args.left)
    (operator_at c.args.line (standing c.args.reader.now)))
    (links_are c.args.room c.args.line (expression_of c.args.left) (standing c.args.reader.now))
    (opens_rule (λ t. is_some (operator c.args.line t))
    (λ e. link_by c.args.line (expression_of c.args.left) (operator_at c.args.line (standing c.args.reader.now)))
    (λ e us. Ok (expression_of c.args.left, us))
    (ap (option_map (λ link. link.open)) c.in-Some.is) c.opens_operator.ensures.opens
    (linked c.args.line (expression_of c.args.left) c.in-Some.link.open c.in-Some.ensures.op
    (follows (λ e ts. operand_of e (below e c.in-Some.link.open.room) c.args.line ts)
    (λ e b. links_of (below e c.in-Some.link.open.room) c.args.line
    (binary c.in-Some.link.open.at c.in-Some.link.op (expression_of c.args.left) b)) c.operand-right.ensures
    (made_then (λ e a. links_of (below e c.in-Some.link.open.room) c.args.line a) c.binary-both.ensures
    c.links.ensures))))

pub operand::unary-returns-in-Some : goal.operand::unary-returns-in-Some
operand::unary-returns-in-Some t c =
    same_rule (λ e ts. unary_of e (below e c.args.room) ts) (unary_by c.args.room) (unary_is c.args.room)
    (opens_rule (is_sign Bang) (λ e. prefixed_by Not) (λ e. not_bang e c.args.room) c.in-Some.is c.opens.ensures.opens
    c.prefixed.ensures)

pub operand::unary-returns-in-Some-opens : goal.operand::unary-returns-in-Some-opens
operand::unary-returns-in-Some-opens t c =
    past_bang c.args.room c.in_default.is c.opens.ensures.opens
    (opens_rule (is_sign Plus) (λ e. prefixed_by UnaryPlus)
    (λ e. not_plus e c.args.room) c.in-Some-opens.is c.opens-2.ensures.opens
    c.prefixed-in-Some-opens.ensures)

pub operand::unary-returns-in-Some-opens-2 : goal.operand::unary-returns-in-Some-opens-2
operand::unary-returns-in-Some-opens-2 t c =
    past_bang c.args.room c.in_default.is c.opens.ensures.opens
    (past_plus c.args.room c.in_default-opens.is c.opens-2.ensures.opens
    (opens_rule (is_sign Minus) (λ e. prefixed_by UnaryMinus)
    (λ e. unprefixed e c.args.room) c.in-Some-opens-2.is c.opens-3.ensures.opens
    c.prefixed-in-Some-opens-2.ensures))

pub operand::unary-returns : goal.operand::unary-returns
operand::unary-returns t c =
    past_bang c.args.room c.in_default.is c.opens.ensures.opens
    (past_plus c.args.room c.in_default-opens.is c.opens-2.ensures.opens
    (passes_rule (is_sign Minus) (λ e. prefixed_by UnaryMinus)
    (λ e. unprefixed e c.args.room) c.in_default-opens-2.is c.opens-3.ensures.opens
    (follows (λ e ts. prim_at e (below e c.args.room) ts) (λ e. posts_of e (below e c.args.room))
    c.primary-value.ensures
    c.posts.ensures)))

pub operand::prefixed-returns : goal.operand::prefixed-returns
operand::prefixed-returns t c =
    follows (λ e ts. (rules_at e c.args.open.room).unary_rule ts) (λ e x us. Ok (unary c.args.open.at c.args.op x, us))
    c.unary-operand.ensures c.unary.ensures

pub operand::posts-returns-in-Some : goal.operand::posts-returns-in-Some
operand::posts-returns-in-Some t c =
    same_rule (λ e ts. posts_of e (below e c.args.room) (expression_of c.args.value) ts)
    (posts_by c.args.room (expression_of c.args.value)) (posts_is c.args.room (expression_of c.args.value))
    (opens_rule (is_sign OpenSquare) (index_by (expression_of c.args.value))
    (not_square c.args.room (expression_of c.args.value)) c.in-Some.is
    c.opens.ensures.opens
    (follows (λ e ts. (rules_at e c.in-Some.open.room).indexed c.in-Some.open.at ts)
    (λ e i. posts_of e (below e c.in-Some.open.room) (index c.in-Some.open.at (expression_of c.args.value) i))
    c.indexed-i.ensures
    (made_then (λ e a. posts_of e (below e c.in-Some.open.room) a) c.index-whole.ensures c.posts.ensures)))

pub operand::posts-returns-in-Some-opens : goal.operand::posts-returns-in-Some-opens
operand::posts-returns-in-Some-opens t c =
    same_rule (λ e ts. posts_of e (below e c.args.room) (expression_of c.args.value) ts)
    (posts_by c.args.room (expression_of c.args.value)) (posts_is c.args.room (expression_of c.args.value))
    (passes_rule (is_sign OpenSquare) (index_by (expression_of c.args.value))
    (not_square c.args.room (expression_of c.args.value)) c.in_default.is c.opens.ensures.opens
    (opens_rule (is_sign Dot) (member_by_word (expression_of c.args.value))
    (not_dot (expression_of c.args.value)) c.in-Some-opens.is
    c.opens-2.ensures.opens
    (follows word_here
    (λ e w. posts_of e (below e c.in-Some-opens.open.room)
    (member c.in-Some-opens.open.at (expression_of c.args.value) w.1))
    c.word-word.ensures
    (made_then (λ e a. posts_of e (below e c.in-Some-opens.open.room) a) c.member-whole.ensures
    c.posts-in-Some-opens.ensures))))

pub operand::posts-returns : goal.operand::posts-returns
operand::posts-returns t c =
    same_rule (λ e ts. posts_of e (below e c.args.room) (expression_of c.args.value) ts)
    (posts_by c.args.room (expression_of c.args.value)) (posts_is c.args.room (expression_of c.args.value))
    (passes_rule (is_sign OpenSquare) (index_by (expression_of c.args.value))
    (not_square c.args.room (expression_of c.args.value)) c.in_default.is c.opens.ensures.opens
    (passes_rule (is_sign Dot) (member_by_word (expression_of c.args.value))
    (not_dot (expression_of c.args.value)) c.in_default-opens.is
    c.opens-2.ensures.opens
    (follows (λ e ts. left_out (is_sign Caret) Power ts) (λ e _ vs. Ok (expression_of c.args.value, vs))
    c.leaves_out_sign.ensures stay)))

pub operand::indexed-returns-in_default : goal.operand::indexed-returns-in_default
operand::indexed-returns-in_default t c =
    no_room below rules_at no_rules more_rules (λ e r ts. expr_to e CloseSquare r.expr ts) c.in_default.is
    c.deeper.ensures.within

pub operand::indexed-returns : goal.operand::indexed-returns
operand::indexed-returns t c =
    goes_in below rules_at no_rules more_rules (λ e r ts. expr_to e CloseSquare r.expr ts) c.in-Some.is
    c.deeper.ensures.within
    c.closed.ensures

pub primary::primary-returns-in-Some : goal.primary::primary-returns-in-Some
primary::primary-returns-in-Some t c =
    same_rule (λ e ts. prim_at e (below e c.args.room) ts) (primary_by c.args.room) (primary_is c.args.room)
    (opens_rule (is_sign OpenRound) (λ e at r. expr_to e CloseRound r.expr)
    (λ e. not_round e c.args.room) c.in-Some.is c.opens.ensures.opens
    c.closed.ensures)

pub primary::primary-returns-in-Some-opens : goal.primary::primary-returns-in-Some-opens
primary::primary-returns-in-Some-opens t c =
    past_round c.args.room c.in_default.is c.opens.ensures.opens
    (opens_rule (is_sign OpenSquare) (λ e at r. r.brackets at)
    (λ e. not_bracket e c.args.room) c.in-Some-opens.is c.opens-2.ensures.opens
    c.brackets.ensures)

pub primary::primary-returns-in-Some-literal : goal.primary::primary-returns-in-Some-literal
primary::primary-returns-in-Some-literal t c =
    past_round c.args.room c.in_default.is c.opens.ensures.opens
    (past_bracket c.args.room c.in_default-opens.is c.opens-2.ensures.opens
    (taking (λ e ts. literal_here ts) (λ e. by_literal e c.args.room)
    (ap (option_map expression_of) c.in-Some-literal.is) c.literal.ensures stay))

pub primary::primary-returns : goal.primary::primary-returns
primary::primary-returns t c =
    past_round c.args.room c.in_default.is c.opens.ensures.opens
    (past_bracket c.args.room c.in_default-opens.is c.opens-2.ensures.opens
    (taking (λ e ts. literal_here ts) (λ e. by_literal e c.args.room)
    (ap (option_map expression_of) c.in_default-literal.is) c.literal.ensures
    c.named.ensures))

pub primary::named-returns-in_default : goal.primary::named-returns-in_default
primary::named-returns-in_default t c =
    same_rule (λ e ts. name_at e (below e c.args.room) ts) (named_by c.args.room) (named_is c.args.room)
    (follows word_here (λ e. behind_name e c.args.room) c.word-word.ensures
    (passes_rule (is_sign OpenRound) (λ e. call_by (c.word-word.result.at, c.word-word.result.name))
    (λ e us. Ok (name c.word-word.result.at c.word-word.result.name, us)) c.in_default.is c.opens.ensures.opens
    (made_as c.name.ensures)))

pub primary::named-returns : goal.primary::named-returns
primary::named-returns t c =
    same_rule (λ e ts. name_at e (below e c.args.room) ts) (named_by c.args.room) (named_is c.args.room)
    (follows word_here (λ e. behind_name e c.args.room) c.word-word.ensures
    (opens_rule (is_sign OpenRound) (λ e. call_by (c.word-word.result.at, c.word-word.result.name))
    (λ e us. Ok (name c.word-word.result.at c.word-word.result.name, us)) c.in-Some.is c.opens.ensures.opens
    (follows (λ e ts. (rules_at e c.in-Some.open.room).args_closed ts)
    (λ e all us. Ok (call c.word-word.result.at c.word-word.result.name all, us)) c.closed_arguments-args.ensures
    (made_as c.call.ensures))))

pub vector::brackets-members-preserved : goal.vector::brackets-members-preserved
vector::brackets-members-preserved t c =
    elements_go_on c.args.open.room c.args.open.at c.members.all.items c.push.new.all.items c.element-elem.result
    c.members.invariant (sym c.lacks.ensures ∙ c.members-test.true) c.element-elem.ensures
    (sym c.begins_with.ensures ∙ c.if-begins_with.false) c.push.ensures c.behind_member.ensures

pub vector::brackets-members-smaller : goal.vector::brackets-members-smaller
vector::brackets-members-smaller t c =
    elements_fewer_come c.args.open.room c.args.open.at c.members.all.items c.push.new.all.items c.element-elem.result
    c.members.invariant (sym c.lacks.ensures ∙ c.members-test.true) c.element-elem.ensures
    (sym c.begins_with.ensures ∙ c.if-begins_with.false) c.push.ensures c.behind_member.ensures

pub vector::brackets-returns-then-begins_with : goal.vector::brackets-returns-then-begins_with
vector::brackets-returns-then-begins_with t c =
    elements_ranged c.args.open.room c.args.open.at c.members.all.items c.element-elem.result c.members.invariant
    (sym c.lacks.ensures ∙ c.members-test.true) c.element-elem.ensures
    (sym c.begins_with.ensures ∙ c.if-begins_with.true) c.range.ensures

pub vector::brackets-returns : goal.vector::brackets-returns
vector::brackets-returns t c =
    elements_ended c.args.open.room c.args.open.at c.members.all.items c.shrink_to_fit.new.self.items c.vector.ensures
    c.members.invariant (sym c.lacks.ensures ∙ c.members-test.false) c.pass.ensures.end c.pass.ensures.now
    c.shrink_to_fit.ensures.items

pub vector::range-returns-in_default : goal.vector::range-returns-in_default
vector::range-returns-in_default t c =
    range_refused c.args.open.room c.args.open.at (elements c.args.all.now.items) (element_of c.args.first)
    (sym c.range_start.ensures ∙ ap (option_map expression_of) c.in_default.is) c.refuse.ensures

pub vector::range-returns : goal.vector::range-returns
vector::range-returns t c =
    range_reads c.args.open.room c.args.open.at (elements c.args.all.now.items) (element_of c.args.first)
    (sym c.range_start.ensures ∙ ap (option_map expression_of) c.in-Some.is) c.pass.ensures.end c.pass.ensures.now
    c.expression-second.ensures c.ranged.ensures

pub vector::ranged-returns-then-takes : goal.vector::ranged-returns-then-takes
vector::ranged-returns-then-takes t c =
    same_rule (λ e ts. range_end e (below e c.args.open.room) c.args.open.at (expression_of c.args.start)
    (expression_of c.args.second) ts)
    (ranged_by c.args.open.room c.args.open.at (expression_of c.args.start) (expression_of c.args.second))
    (ranged_is c.args.open.room c.args.open.at (expression_of c.args.start) (expression_of c.args.second))
    (taking (λ e ts. took (is_sign Colon) ts)
    (λ e. by_taken (stepping c.args.open.room c.args.open.at (expression_of c.args.start)
    (expression_of c.args.second) e)
    (ended c.args.open.at (expression_of c.args.start) (expression_of c.args.second) e))
    c.if-takes.true c.takes.ensures
    (follows (λ e ts. expr_to e CloseSquare (expr_of e (below e c.args.open.room)) ts)
    (λ e x vs. Ok (stepped c.args.open.at (expression_of c.args.start) (expression_of c.args.second) x, vs))
    c.closed-last.ensures c.stepped.ensures))

pub vector::ranged-returns : goal.vector::ranged-returns
vector::ranged-returns t c =
    same_rule (λ e ts. range_end e (below e c.args.open.room) c.args.open.at (expression_of c.args.start)
    (expression_of c.args.second) ts)
    (ranged_by c.args.open.room c.args.open.at (expression_of c.args.start) (expression_of c.args.second))
    (ranged_is c.args.open.room c.args.open.at (expression_of c.args.start) (expression_of c.args.second))
    (taking (λ e ts. took (is_sign Colon) ts)
    (λ e. by_taken (stepping c.args.open.room c.args.open.at (expression_of c.args.start)
    (expression_of c.args.second) e)
    (ended c.args.open.at (expression_of c.args.start) (expression_of c.args.second) e))
    c.if-takes.false c.takes.ensures
    (expected CloseSquare
    (λ e vs. Ok (range c.args.open.at (expression_of c.args.start) (expression_of c.args.second), vs)) c.expect.ensures
    c.range.ensures))

pub element::element-returns-in-Some : goal.element::element-returns-in-Some
element::element-returns-in-Some t c =
    same_rule (λ e ts. elem_of e (below e c.args.room) ts) (element_by c.args.room) (element_is c.args.room)
    (opens_rule (is_key For) (λ e at r. r.for_behind at) (λ e. not_for e c.args.room) c.in-Some.is
    c.opens_key.ensures.opens
    c.for_element.ensures)

pub element::element-returns-in-Some-opens_key : goal.element::element-returns-in-Some-opens_key
element::element-returns-in-Some-opens_key t c =
    past_for c.args.room c.in_default.is c.opens_key.ensures.opens
    (opens_rule (is_key Each) (λ e. each_by) (λ e. not_each e c.args.room) c.in-Some-opens_key.is
    c.opens_key-2.ensures.opens
    (follows (λ e ts. (rules_at e c.in-Some-opens_key.open.room).elem ts)
    (λ e el us. Ok (each c.in-Some-opens_key.open.at el, us)) c.element-elem.ensures c.each.ensures))

pub element::element-returns-in-Some-opens_key-2 : goal.element::element-returns-in-Some-opens_key-2
element::element-returns-in-Some-opens_key-2 t c =
    past_for c.args.room c.in_default.is c.opens_key.ensures.opens
    (past_each c.args.room c.in_default-opens_key.is c.opens_key-2.ensures.opens
    (opens_rule (is_key If) (λ e. if_by) (λ e. not_if e c.args.room) c.in-Some-opens_key-2.is
    c.opens_key-3.ensures.opens
    (follows (λ e ts. (rules_at e c.in-Some-opens_key-2.open.room).round_expr ts)
    (λ e x us. then_read ((rules_at e c.in-Some-opens_key-2.open.room).elem us)
    ((rules_at e c.in-Some-opens_key-2.open.room).else_end c.in-Some-opens_key-2.open.at x))
    c.round_expression-test.ensures
    (follows (λ e ts. (rules_at e c.in-Some-opens_key-2.open.room).elem ts)
    (λ e. (rules_at e c.in-Some-opens_key-2.open.room).else_end c.in-Some-opens_key-2.open.at
    (expression_of c.round_expression-test.result)) c.element-held.ensures c.otherwise.ensures))))

pub element::element-returns-in-Some-opens_key-3 : goal.element::element-returns-in-Some-opens_key-3
element::element-returns-in-Some-opens_key-3 t c =
    past_for c.args.room c.in_default.is c.opens_key.ensures.opens
    (past_each c.args.room c.in_default-opens_key.is c.opens_key-2.ensures.opens
    (past_if c.args.room c.in_default-opens_key-2.is c.opens_key-3.ensures.opens
    (opens_rule (is_key Let) (λ e. let_by) (λ e. plain e c.args.room) c.in-Some-opens_key-3.is
    c.opens_key-4.ensures.opens
    (follows (λ e ts. (rules_at e c.in-Some-opens_key-3.open.room).round_args ts)
    (λ e all us. then_read ((rules_at e c.in-Some-opens_key-3.open.room).elem us)
    (λ el vs. Ok (let_of c.in-Some-opens_key-3.open.at all el, vs))) c.round_arguments-args.ensures
    (follows (λ e ts. (rules_at e c.in-Some-opens_key-3.open.room).elem ts)
    (λ e el vs. Ok (let_of c.in-Some-opens_key-3.open.at (arguments_seen c.round_arguments-args.result) el, vs))
    c.element-body.ensures c.let_element.ensures)))))

pub element::element-returns : goal.element::element-returns
element::element-returns t c =
    past_for c.args.room c.in_default.is c.opens_key.ensures.opens
    (past_each c.args.room c.in_default-opens_key.is c.opens_key-2.ensures.opens
    (past_if c.args.room c.in_default-opens_key-2.is c.opens_key-3.ensures.opens
    (passes_rule (is_key Let) (λ e. let_by) (λ e. plain e c.args.room) c.in_default-opens_key-3.is
    c.opens_key-4.ensures.opens
    (follows (λ e ts. expr_of e (below e c.args.room) ts) (λ e x us. Ok (item x, us)) c.expression.ensures stay))))

pub element::otherwise-returns-in_default : goal.element::otherwise-returns-in_default
element::otherwise-returns-in_default t c =
    same_rule (λ e ts. else_of (below e c.args.whole.room) c.args.whole.at (expression_of c.args.test)
    (element_of c.args.held) ts)
    (else_by c.args.whole.room c.args.whole.at (expression_of c.args.test) (element_of c.args.held))
    (else_is c.args.whole.room c.args.whole.at (expression_of c.args.test) (element_of c.args.held))
    (passes_rule (is_key Else)
    (λ e. other_by c.args.whole.at (expression_of c.args.test) (element_of c.args.held))
    (λ e us. Ok (if_element c.args.whole.at (expression_of c.args.test) (element_of c.args.held), us))
    c.in_default.is c.opens_key.ensures.opens c.if_element.ensures)

pub element::otherwise-returns : goal.element::otherwise-returns
element::otherwise-returns t c =
    same_rule (λ e ts. else_of (below e c.args.whole.room) c.args.whole.at (expression_of c.args.test)
    (element_of c.args.held) ts)
    (else_by c.args.whole.room c.args.whole.at (expression_of c.args.test) (element_of c.args.held))
    (else_is c.args.whole.room c.args.whole.at (expression_of c.args.test) (element_of c.args.held))
    (opens_rule (is_key Else)
    (λ e. other_by c.args.whole.at (expression_of c.args.test) (element_of c.args.held))
    (λ e us. Ok (if_element c.args.whole.at (expression_of c.args.test) (element_of c.args.held), us))
    c.in-Some.is c.opens_key.ensures.opens
    (follows (λ e ts. (rules_at e c.in-Some.open.room).elem ts)
    (λ e other us. Ok (if_else c.args.whole.at (expression_of c.args.test) (element_of c.args.held) other, us))
    c.element-other.ensures c.if_else.ensures))

pub element::for_element-returns : goal.element::for_element-returns
element::for_element-returns t c =
    follows (λ e ts. round_head_of e (below e c.args.open.room) ts)
    (λ e head us. then_read (elem_of e (below e c.args.open.room) us)
    (λ el vs. Ok (grammar_headed c.args.open.at head el, vs))) c.round_head-head.ensures
    (follows (λ e ts. elem_of e (below e c.args.open.room) ts)
    (λ e el vs. Ok (grammar_headed c.args.open.at (head_of c.round_head-head.result) el, vs)) c.element-elem.ensures
    c.headed.ensures)

pub element::for_head-returns-then-takes : goal.element::for_head-returns-then-takes
element::for_head-returns-then-takes t c =
    follows (λ e ts. args_of e (below e c.args.room) (length ts) no_arguments ts)
    (λ e. head_end e (below e c.args.room))
    c.arguments-init.ensures
    (same_rule (λ e ts. head_end e (below e c.args.room) (arguments_seen c.arguments-init.result) ts)
    (λ e ts. head_by c.args.room e (arguments_seen c.arguments-init.result) ts)
    (λ e ts. head_is c.args.room e (arguments_seen c.arguments-init.result) ts)
    (taking (λ e ts. took (is_sign CloseRound) ts)
    (λ e. by_taken (λ vs. Ok (for_all (arguments_seen c.arguments-init.result), vs))
    (in_parts c.args.room (arguments_seen c.arguments-init.result) e))
    c.if-takes.true c.takes.ensures stay))

pub element::for_head-returns : goal.element::for_head-returns
element::for_head-returns t c =
    follows (λ e ts. args_of e (below e c.args.room) (length ts) no_arguments ts)
    (λ e. head_end e (below e c.args.room))
    c.arguments-init.ensures
    (same_rule (λ e ts. head_end e (below e c.args.room) (arguments_seen c.arguments-init.result) ts)
    (λ e ts. head_by c.args.room e (arguments_seen c.arguments-init.result) ts)
    (λ e ts. head_is c.args.room e (arguments_seen c.arguments-init.result) ts)
    (taking (λ e ts. took (is_sign CloseRound) ts)
    (λ e. by_taken (λ vs. Ok (for_all (arguments_seen c.arguments-init.result), vs))
    (in_parts c.args.room (arguments_seen c.arguments-init.result) e))
    c.if-takes.false c.takes.ensures
    (expected Semicolon (steps_by c.args.room (arguments_seen c.arguments-init.result)) c.expect.ensures
    (follows (λ e ts. expr_to e Semicolon (expr_of e (below e c.args.room)) ts)
    (λ e x us. then_read (args_closed_of e (below e c.args.room) us)
    (λ last vs. Ok (for_steps (arguments_seen c.arguments-init.result) x last, vs))) c.closed-test.ensures
    (follows (λ e ts. args_closed_of e (below e c.args.room) ts)
    (λ e last vs. Ok (for_steps (arguments_seen c.arguments-init.result) (expression_of c.closed-test.result) last, vs))
    c.closed_arguments-step.ensures stay)))))
