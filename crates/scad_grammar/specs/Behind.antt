-- What stands open behind a part of a program: the productions that hold it, each at the point where it goes on, with
-- the trees that it has so far.
use Rattle.std.specs.Prelude.{ℕ, Bool, List, Option, ◌+◌}
use Rattle.scad_fault.specs.declared.place.Place.{Place}
use Rattle.scad_ast.specs.declared.operator.UnOp.{UnOp}
use Rattle.scad_ast.specs.declared.operator.BinOp.{BinOp}
use Rattle.scad_ast.specs.Tree.{Expression, let_in, assert_in, echo_in, Arguments, Elements, Element, Parameter}
use Rattle.scad_ast.specs.Tree.{Items}
use Rattle.scad_grammar.specs.Lists.{Marks}

-- `let`, `assert`, `echo` before an expression
pub data Keyed : Type 0 where
  letting asserting echoing : Keyed

abbrev pub keyed_tree : Keyed → Place → Arguments → Expression → Expression
keyed_tree letting at all e = let_in at all e
keyed_tree asserting at all e = assert_in at all e
keyed_tree echoing at all e = echo_in at all e

-- `module`, `function` before a definition
pub data Defined : Type 0 where
  a_module a_function : Defined

-- behind a statement, a group or a child: the scope's items so far stand beside it
pub data BehindItems : Type 0 where
  in_program : BehindItems
  -- in a group, where definitions may stand or not: more statements, or `}`
  in_group : Bool → BehindItems → BehindItems
  -- the items of the scope that holds the module
  module_body : Place → List ℕ → List Parameter → Items → BehindItems → BehindItems
  child_of : Place → Marks → List ℕ → Arguments → Items → BehindItems → BehindItems
  held_child : Place → Marks → Expression → Items → BehindItems → BehindItems
  other_child : Place → Marks → Expression → Items → Items → BehindItems → BehindItems

-- behind `)` of a definition's parameters
pub data BehindParameters : Type 0 where
  defined : Defined → Place → List ℕ → Items → BehindItems → BehindParameters

mutual
  -- behind an operand
  pub data BehindOperand : Type 0 where
    prefixed : Place → UnOp → BehindOperand → BehindOperand
    -- the first operand of a line, which may go on
    first_of : ℕ → BehindOperand → BehindOperand
    -- a further operand of a line: how many operators the chain has, its left side, the operator
    right_of : ℕ → ℕ → Expression → BinOp → Place → BehindOperand → BehindOperand
    -- a whole `or`: `?` may follow
    tested : BehindExpression → BehindOperand

  -- behind an expression
  pub data BehindExpression : Type 0 where
    in_round : BehindOperand → BehindExpression
    -- the operand and how many indices and members it has
    in_index : Place → Expression → ℕ → BehindOperand → BehindExpression
    chosen : Place → Expression → BehindExpression → BehindExpression
    other : Place → Expression → Expression → BehindExpression → BehindExpression
    body_of : Keyed → Place → Arguments → BehindExpression → BehindExpression
    argument_of : Option (List ℕ) → Arguments → BehindArguments → BehindExpression
    plain_item : BehindElement → BehindExpression
    range_second : Place → Expression → BehindOperand → BehindExpression
    range_third : Place → Expression → Expression → BehindOperand → BehindExpression
    loop_test : Place → Arguments → BehindElement → BehindExpression
    element_test : Place → BehindElement → BehindExpression
    default_of : List ℕ → List Parameter → BehindParameters → BehindExpression
    assigned_to : Place → List ℕ → Items → BehindItems → BehindExpression
    function_body : Place → List ℕ → List Parameter → Items → BehindItems → BehindExpression
    statement_test : Place → Marks → Items → BehindItems → BehindExpression

  -- behind an element of a vector
  pub data BehindElement : Type 0 where
    in_vector : Place → Elements → BehindOperand → BehindElement
    each_of : Place → BehindElement → BehindElement
    for_of : Place → Arguments → BehindElement → BehindElement
    loop_of : Place → Arguments → Expression → Arguments → BehindElement → BehindElement
    let_body : Place → Arguments → BehindElement → BehindElement
    held_element : Place → Expression → BehindElement → BehindElement
    other_element : Place → Expression → Element → BehindElement → BehindElement

  -- behind `)` or `;` of arguments
  pub data BehindArguments : Type 0 where
    of_call : Place → List ℕ → BehindOperand → BehindArguments
    of_keyed : Keyed → Place → BehindExpression → BehindArguments
    of_for : Place → BehindElement → BehindArguments
    of_steps : Place → Arguments → Expression → BehindElement → BehindArguments
    of_let : Place → BehindElement → BehindArguments
    of_statement : Place → Marks → List ℕ → Items → BehindItems → BehindArguments

-- How many constructs stand open. A statement, assignment or definition is one from its first token to its last, a
-- bracket until it closes, a prefix operator until its operand ends, `?` and each of `let`, `assert`, `echo`, `for`,
-- `each`, `if`, `else` inside an expression until its expression or element ends, and each binary operator, index and
-- member until its chain of operands ends.
abbrev pub open_items : BehindItems → ℕ
open_items in_program = 0
open_items (in_group d k) = 1 + open_items k
open_items (module_body at w all a k) = 1 + open_items k
open_items (child_of at m w all a k) = 1 + open_items k
open_items (held_child at m e a k) = 1 + open_items k
open_items (other_child at m e held a k) = 1 + open_items k

-- Behind a statement that has ended: what it ends has ended too, but for an `if` that an `else` may follow.
abbrev pub open_ended : BehindItems → ℕ
open_ended in_program = 0
open_ended (in_group d k) = 1 + open_items k
open_ended (module_body at w all a k) = open_ended k
open_ended (child_of at m w all a k) = open_ended k
open_ended (held_child at m e a k) = 1 + open_items k
open_ended (other_child at m e held a k) = open_ended k

abbrev pub open_parameters : BehindParameters → ℕ
open_parameters (defined what at w a k) = 1 + open_items k

abbrev mutual
  pub open_operand : BehindOperand → ℕ
  open_operand (prefixed at op k) = 1 + open_operand k
  open_operand (first_of n k) = open_operand k
  open_operand (right_of n count a op at k) = count + open_operand k
  open_operand (tested k) = open_expression k

  pub open_expression : BehindExpression → ℕ
  open_expression (in_round k) = 1 + open_operand k
  open_expression (in_index at a count k) = 2 + (count + open_operand k)
  open_expression (chosen at a k) = 1 + open_expression k
  open_expression (other at a b k) = 1 + open_expression k
  open_expression (body_of what at all k) = 1 + open_expression k
  open_expression (argument_of name all k) = 1 + open_arguments k
  open_expression (plain_item k) = open_element k
  open_expression (range_second at a k) = 1 + open_operand k
  open_expression (range_third at a b k) = 1 + open_operand k
  open_expression (loop_test at all k) = 2 + open_element k
  open_expression (element_test at k) = 2 + open_element k
  open_expression (default_of w all k) = 1 + open_parameters k
  open_expression (assigned_to at w a k) = 1 + open_items k
  open_expression (function_body at w all a k) = 1 + open_items k
  open_expression (statement_test at m a k) = 2 + open_items k

  pub open_element : BehindElement → ℕ
  open_element (in_vector at all k) = 1 + open_operand k
  open_element (each_of at k) = 1 + open_element k
  open_element (for_of at all k) = 1 + open_element k
  open_element (loop_of at starts e steps k) = 1 + open_element k
  open_element (let_body at all k) = 1 + open_element k
  open_element (held_element at e k) = 1 + open_element k
  open_element (other_element at e held k) = 2 + open_element k

  pub open_arguments : BehindArguments → ℕ
  open_arguments (of_call at w k) = open_operand k
  open_arguments (of_keyed what at k) = 1 + open_expression k
  open_arguments (of_for at k) = 1 + open_element k
  open_arguments (of_steps at starts e k) = 1 + open_element k
  open_arguments (of_let at k) = 1 + open_element k
  open_arguments (of_statement at m w a k) = 1 + open_items k
