-- Each form is printed part by part.
use Rattle.std.proofs.Common.{codes, true}
use Rattle.scad_ast.specs.Text.{spaced, in_parentheses, expression_text, arguments_text, items_text}
use Rattle.scad_ast.specs.View.{expression_of, arguments}
use Rattle.scad_ast.specs.Scope.{items}
use Rattle.text_scan.proofs.Printed.{none, two, three, behind_two, behind_three, that, next, last}
use Rattle.scad_ast.proofs.Nodes.{item_is, body_is}
use Rattle.scad_ast.proofs.ScopeRows.{assign_view, module_view, function_view, call_view, choice_view}
use Rattle.scad_ast.proofs.ScopeRows.{some_items, no_items}
use Rattle.scad_ast.proofs.printing.statement.+statements.Goals as goal

pub write_items-items-init : goal.write_items-items-init
write_items-items-init t c = λ end rest. rest

pub write_items-items-preserved : goal.write_items-items-preserved
write_items-items-preserved t c = λ end rest.
    c.items.invariant end
    (that (next (λ all. items_text (items all)) c.deref-item-items.ensures.value c.items-test.true c.item-item.is)
    (two c.write_item.ensures rest))

pub write_items-returns : goal.write_items-returns
write_items-returns t c =
    c.items.invariant _
    (that (last (λ all. items_text (items all)) c.deref-item-items.ensures.value c.items-test.false)
    (none c.items.out))

pub write_item-returns-in-Assign : goal.write_item-returns-in-Assign
write_item-returns-in-Assign t c =
    let arm = c.in-Assign in
    item_is arm.is (assign_view arm.word arm.value arm.field-2)
    (behind_three (codes "= ") (expression_text (expression_of arm.value)) (codes ";\n") c.write_word.ensures
    c.write_value.ensures)

pub write_item-returns-in-Module : goal.write_item-returns-in-Module
write_item-returns-in-Module t c =
    let arm = c.in-Module in
    item_is arm.is (module_view arm.word arm.params arm.scope arm.field-3)
    (two c.write_signature.ensures c.write_body.ensures)

pub write_item-returns-in-Function : goal.write_item-returns-in-Function
write_item-returns-in-Function t c =
    let arm = c.in-Function in
    item_is arm.is (function_view arm.word arm.params arm.value arm.field-3)
    (behind_three (codes "= ") (expression_text (expression_of arm.value)) (codes ";\n")
    c.write_signature-in-Function.ensures c.write_value-in-Function.ensures)

pub write_body-returns-then-is_empty : goal.write_body-returns-then-is_empty
write_body-returns-then-is_empty t c =
    rw (no_items c.args.scope.now c.is_empty.ensures c.if-is_empty.true) c.put.ensures

pub write_body-returns-else-is_empty : goal.write_body-returns-else-is_empty
write_body-returns-else-is_empty t c =
    rw (some_items c.args.scope.now c.is_empty.ensures c.if-is_empty.false) c.write_in_braces.ensures

pub write_otherwise-returns-then-not-is_empty : goal.write_otherwise-returns-then-not-is_empty
write_otherwise-returns-then-not-is_empty t c =
    rw (some_items c.args.scope.now c.is_empty.ensures c.if-not-is_empty.true)
    (two c.write_token.ensures c.write_in_braces.ensures)

pub write_statement-returns-in-Call : goal.write_statement-returns-in-Call
write_statement-returns-in-Call t c =
    let s = c.args.statement.now in
    let arm = c.in-Call in
    body_is s.at s.percent s.hash arm.is (call_view s.at s.percent s.hash arm.word arm.args arm.children)
    (two (behind_two (spaced arm.word) (in_parentheses (arguments_text true (arguments arm.args.items)))
    c.write_marks.ensures (rw c.as_slice.ensures at c.write_call.ensures)) c.write_body.ensures)

pub write_statement-returns-in-If : goal.write_statement-returns-in-If
write_statement-returns-in-If t c =
    let s = c.args.statement.now in
    let arm = c.in-If in
    body_is s.at s.percent s.hash arm.is (choice_view s.at s.percent s.hash arm.test arm.held arm.other)
    (three (behind_two (codes "if ") (in_parentheses (expression_text (expression_of arm.test)))
    c.write_marks.ensures c.write_test.ensures) c.write_body-in-If.ensures c.write_otherwise.ensures)
