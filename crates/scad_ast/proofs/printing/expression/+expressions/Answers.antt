-- Each form is printed part by part.
use Rattle.std.proofs.Common.{codes, ap, ◌∙◌}
use Rattle.scad_ast.specs.declared.expression.Node.{Range}
use Rattle.scad_ast.specs.declared.expression.Elem.{If}
use Rattle.scad_ast.specs.Text.{expression_text, arguments_text, elements_text}
use Rattle.scad_ast.specs.View.{expression_of, arguments, elements}
use Rattle.text_scan.proofs.Printed.{none, two, three, four, behind_three, that, next, last}
use Rattle.scad_ast.proofs.Nodes.{expression_is, element_is, leaf_is, element_leaf_is, enclosed_is}
use Rattle.scad_ast.proofs.Operands.{unary_view, binary_view, choose_view, index_view, member_view}
use Rattle.scad_ast.proofs.Operands.{range_view, stepped_view, if_view, if_else_view}
use Rattle.scad_ast.proofs.Rows.{vector_view, call_view, let_view, assert_view, echo_view}
use Rattle.scad_ast.proofs.Rows.{for_view, loop_view, let_element_view}
use Rattle.scad_ast.proofs.printing.expression.+expressions.Goals as goal

-- ---- expressions
pub write_expression-returns-in-Undef : goal.write_expression-returns-in-Undef
write_expression-returns-in-Undef t c = leaf_is c.args.e.now c.in-Undef.is c.write_token.ensures

pub write_expression-returns-in-Bool : goal.write_expression-returns-in-Bool
write_expression-returns-in-Bool t c = leaf_is c.args.e.now c.in-Bool.is c.write_boolean.ensures

pub write_expression-returns-in-Number : goal.write_expression-returns-in-Number
write_expression-returns-in-Number t c = leaf_is c.args.e.now c.in-Number.is c.write_number.ensures

pub write_expression-returns-in-Str : goal.write_expression-returns-in-Str
write_expression-returns-in-Str t c = leaf_is c.args.e.now c.in-Str.is c.write_string.ensures

pub write_expression-returns-in-Name : goal.write_expression-returns-in-Name
write_expression-returns-in-Name t c = leaf_is c.args.e.now c.in-Name.is c.write_word.ensures

pub write_expression-returns-in-List : goal.write_expression-returns-in-List
write_expression-returns-in-List t c =
    expression_is c.args.e.now c.in-List.is (vector_view _ c.in-List.elems)
    (three c.write_token-in-List.ensures c.write_elements.ensures c.write_token-in-List-2.ensures)

pub write_expression-returns-in-None : goal.write_expression-returns-in-None
write_expression-returns-in-None t c =
    let arm = c.in-Range in
    expression_is c.args.e.now (arm.is ∙ ap (λ step. Range arm.start step arm.end) c.in-None.is)
    (range_view _ arm.start arm.end)
    (three (rw c.deref.ensures at c.write_within.ensures) (rw c.deref-in-None.ensures at c.write_expression.ensures)
    c.write_token-in-None.ensures)

pub write_expression-returns-in-Some : goal.write_expression-returns-in-Some
write_expression-returns-in-Some t c =
    let arm = c.in-Range in
    expression_is c.args.e.now (arm.is ∙ ap (λ step. Range arm.start step arm.end) c.in-Some.is)
    (stepped_view _ arm.start c.in-Some.step arm.end)
    (behind_three (codes ": ") (expression_text (expression_of arm.end.value)) (codes "] ")
    (two (rw c.deref.ensures at c.write_within.ensures)
    (rw c.deref-in-Some.ensures at c.write_expression-in-Some.ensures))
    (rw c.deref-in-Some-2.ensures at c.write_within-in-Some.ensures))

pub write_expression-returns-in-Unary : goal.write_expression-returns-in-Unary
write_expression-returns-in-Unary t c =
    expression_is c.args.e.now c.in-Unary.is (unary_view _ _ c.in-Unary.operand)
    (two c.write_prefix.ensures (rw c.deref-in-Unary.ensures at c.write_operand.ensures))

pub write_expression-returns-in-Binary : goal.write_expression-returns-in-Binary
write_expression-returns-in-Binary t c =
    expression_is c.args.e.now c.in-Binary.is (binary_view _ _ c.in-Binary.left c.in-Binary.right)
    (three (rw c.deref-in-Binary.ensures at c.write_operand-in-Binary.ensures) c.write_operator.ensures
    (rw c.deref-in-Binary-2.ensures at c.write_operand-in-Binary-2.ensures))

pub write_expression-returns-in-Choose : goal.write_expression-returns-in-Choose
write_expression-returns-in-Choose t c =
    expression_is c.args.e.now c.in-Choose.is (choose_view _ c.in-Choose.test c.in-Choose.chosen c.in-Choose.other)
    (two (behind_three (codes "? ") (expression_text (expression_of c.in-Choose.chosen.value)) (codes ": ")
    (rw c.deref-in-Choose.ensures at c.write_operand-in-Choose.ensures)
    (rw c.deref-in-Choose-2.ensures at c.write_within-in-Choose.ensures))
    (rw c.deref-in-Choose-3.ensures at c.write_expression-in-Choose.ensures))

pub write_expression-returns-in-Index : goal.write_expression-returns-in-Index
write_expression-returns-in-Index t c =
    expression_is c.args.e.now c.in-Index.is (index_view _ c.in-Index.base c.in-Index.index)
    (behind_three (codes "[ ") (expression_text (expression_of c.in-Index.index.value)) (codes "] ")
    (rw c.deref-in-Index.ensures at c.write_operand-in-Index.ensures)
    (rw c.deref-in-Index-2.ensures at c.write_within-in-Index.ensures))

pub write_expression-returns-in-Member : goal.write_expression-returns-in-Member
write_expression-returns-in-Member t c =
    expression_is c.args.e.now c.in-Member.is (member_view _ c.in-Member.base c.in-Member.word)
    (three (rw c.deref-in-Member.ensures at c.write_operand-in-Member.ensures) c.write_token-in-Member.ensures
    c.write_word-in-Member.ensures)

pub write_expression-returns-in-Call : goal.write_expression-returns-in-Call
write_expression-returns-in-Call t c =
    expression_is c.args.e.now c.in-Call.is (call_view _ c.in-Call.word c.in-Call.args)
    (rw c.as_slice.ensures at c.write_call.ensures)

pub write_expression-returns-in-Let : goal.write_expression-returns-in-Let
write_expression-returns-in-Let t c =
    expression_is c.args.e.now c.in-Let.is (let_view _ c.in-Let.args c.in-Let.body)
    (two c.write_call-in-Let.ensures (rw c.deref-in-Let.ensures at c.write_expression-in-Let.ensures))

pub write_expression-returns-in-Assert : goal.write_expression-returns-in-Assert
write_expression-returns-in-Assert t c =
    expression_is c.args.e.now c.in-Assert.is (assert_view _ c.in-Assert.args c.in-Assert.body)
    (two c.write_call-in-Assert.ensures (rw c.deref-in-Assert.ensures at c.write_expression-in-Assert.ensures))

pub write_expression-returns-in-Echo : goal.write_expression-returns-in-Echo
write_expression-returns-in-Echo t c =
    expression_is c.args.e.now c.in-Echo.is (echo_view _ c.in-Echo.args c.in-Echo.body)
    (two c.write_call-in-Echo.ensures (rw c.deref-in-Echo.ensures at c.write_expression-in-Echo.ensures))

pub write_within-returns : goal.write_within-returns
write_within-returns t c = three c.write_token.ensures c.write_expression.ensures c.write_token-2.ensures

pub write_call-returns : goal.write_call-returns
write_call-returns t c =
    two c.write_token.ensures
    (three c.write_token-2.ensures c.write_arguments.ensures c.write_token-3.ensures)

pub write_operand-returns-then-may_stand_alone : goal.write_operand-returns-then-may_stand_alone
write_operand-returns-then-may_stand_alone t c =
    enclosed_is (expression_of c.args.e.now) (c.if-may_stand_alone.ensures c.args.e.now.at) c.write_expression.ensures

pub write_operand-returns-else-may_stand_alone : goal.write_operand-returns-else-may_stand_alone
write_operand-returns-else-may_stand_alone t c =
    enclosed_is (expression_of c.args.e.now) (c.if-may_stand_alone.ensures c.args.e.now.at) c.write_within.ensures

pub write_test-returns : goal.write_test-returns
write_test-returns t c = two c.write_token.ensures c.write_within.ensures

-- ---- lists
pub write_arguments-arguments-init : goal.write_arguments-arguments-init
write_arguments-arguments-init t c = λ end rest. rest

pub write_arguments-arguments-preserved : goal.write_arguments-arguments-preserved
write_arguments-arguments-preserved t c = λ end rest.
    c.arguments.invariant end
    (that (next (λ all. arguments_text c.arguments.first (arguments all)) c.deref-arg-items.ensures.value
    c.arguments-test.true c.arg-item.is)
    (four c.write_separator.ensures c.write_argument_name.ensures c.write_expression.ensures rest))

pub write_arguments-returns : goal.write_arguments-returns
write_arguments-returns t c =
    c.arguments.invariant _
    (that (last (λ all. arguments_text c.arguments.first (arguments all)) c.deref-arg-items.ensures.value
    c.arguments-test.false)
    (none c.arguments.out))

pub write_elements-elements-init : goal.write_elements-elements-init
write_elements-elements-init t c = λ end rest. rest

pub write_elements-elements-preserved : goal.write_elements-elements-preserved
write_elements-elements-preserved t c = λ end rest.
    c.elements.invariant end
    (that (next (λ all. elements_text c.elements.first (elements all)) c.deref-elem-items.ensures.value
    c.elements-test.true c.elem-item.is)
    (three c.write_separator.ensures c.write_element.ensures rest))

pub write_elements-returns : goal.write_elements-returns
write_elements-returns t c =
    c.elements.invariant _
    (that (last (λ all. elements_text c.elements.first (elements all)) c.deref-elem-items.ensures.value
    c.elements-test.false)
    (none c.elements.out))

-- ---- elements
pub write_element-returns-in-Item : goal.write_element-returns-in-Item
write_element-returns-in-Item t c = element_leaf_is c.in-Item.is c.write_expression.ensures

pub write_element-returns-in-Each : goal.write_element-returns-in-Each
write_element-returns-in-Each t c =
    element_leaf_is c.in-Each.is (two c.write_token.ensures (rw c.deref.ensures at c.write_element.ensures))

pub write_element-returns-in-For : goal.write_element-returns-in-For
write_element-returns-in-For t c =
    element_is c.in-For.is (for_view c.in-For.args c.in-For.elem c.in-For.field-2)
    (two c.write_call.ensures (rw c.deref-in-For.ensures at c.write_element-in-For.ensures))

pub write_element-returns-in-Let : goal.write_element-returns-in-Let
write_element-returns-in-Let t c =
    element_is c.in-Let.is (let_element_view c.in-Let.args c.in-Let.elem c.in-Let.field-2)
    (two c.write_call-in-Let.ensures (rw c.deref-in-Let.ensures at c.write_element-in-Let.ensures))

pub write_element-returns-in-Loop : goal.write_element-returns-in-Loop
write_element-returns-in-Loop t c =
    element_is c.in-Loop.is
    (loop_view c.in-Loop.starts c.in-Loop.test c.in-Loop.steps c.in-Loop.elem c.in-Loop.field-4)
    (four (three c.put.ensures c.write_arguments.ensures c.write_token-in-Loop.ensures)
    (two c.write_expression-in-Loop.ensures c.write_token-in-Loop-2.ensures)
    (two c.write_arguments-in-Loop.ensures c.write_token-in-Loop-3.ensures)
    (rw c.deref-in-Loop.ensures at c.write_element-in-Loop.ensures))

pub write_element-returns-in-None : goal.write_element-returns-in-None
write_element-returns-in-None t c =
    let arm = c.in-If in
    element_is (arm.is ∙ ap (λ other. If arm.test arm.held other arm.field-3) c.in-None.is)
    (if_view arm.test arm.held arm.field-3)
    (two c.write_test.ensures (rw c.deref-in-If.ensures at c.write_element-in-If.ensures))

pub write_element-returns-in-Some : goal.write_element-returns-in-Some
write_element-returns-in-Some t c =
    let arm = c.in-If in
    element_is (arm.is ∙ ap (λ other. If arm.test arm.held other arm.field-3) c.in-Some.is)
    (if_else_view arm.test arm.held c.in-Some.other arm.field-3)
    (four c.write_test.ensures (rw c.deref-in-If.ensures at c.write_element-in-If.ensures) c.write_token-in-Some.ensures
    (rw c.deref-in-Some.ensures at c.write_element-in-Some.ensures))
