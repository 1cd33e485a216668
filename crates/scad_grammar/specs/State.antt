-- Where a reader of tokens stands: what it wants or has just read, and what stands open behind that.
use Rattle.std.specs.Prelude.{ℕ, zero, suc, ◌+◌, Bool, List}
use Rattle.scad_fault.specs.declared.place.Place.{Place}
use Rattle.scad_ast.specs.Tree.{Expression, Arguments, Elements, Element, Parameter, Items}
use Rattle.scad_grammar.specs.Lists.{Marks}
use Rattle.scad_grammar.specs.Behind.{Defined, BehindItems, BehindParameters, BehindOperand, first_of}
use Rattle.scad_grammar.specs.Behind.{BehindExpression, BehindElement, BehindArguments, open_items, open_ended}
use Rattle.scad_grammar.specs.Behind.{open_parameters, open_operand, open_expression, open_element, open_arguments}

pub data State : Type 0 where
  want_expression : BehindExpression → State
  have_expression : Expression → BehindExpression → State
  want_unary : BehindOperand → State
  -- an operand of a line, its posts among it
  have_operand : Expression → BehindOperand → State
  -- a WORD that begins an operand
  have_name : Place → List ℕ → BehindOperand → State
  -- an operand with so many indices and members, of which more may follow
  have_post : ℕ → Expression → BehindOperand → State
  -- a WORD behind `.`
  want_member : Place → Expression → ℕ → BehindOperand → State
  -- the left side of a line with so many operators, of which more may follow
  have_links : ℕ → ℕ → Expression → BehindOperand → State
  -- `(` before arguments
  want_arguments : BehindArguments → State
  -- an argument or the end of the arguments
  in_arguments : Arguments → BehindArguments → State
  -- a WORD that begins an argument
  have_word : Place → List ℕ → Arguments → BehindArguments → State
  -- `,` or the end of the arguments
  after_argument : Arguments → BehindArguments → State
  -- the end of the arguments
  have_arguments : Arguments → BehindArguments → State
  want_element : BehindElement → State
  have_element : Element → BehindElement → State
  -- `(` behind the `if` of an element
  want_test : Place → BehindElement → State
  in_elements : Place → Elements → BehindOperand → State
  after_one : Place → Elements → BehindOperand → State
  -- `]` behind the elements
  have_elements : Place → Elements → BehindOperand → State
  want_statement : Bool → Items → BehindItems → State
  -- a statement, a group or a child has ended: the scope has these items
  have_items : Items → BehindItems → State
  -- a WORD that begins a statement
  have_start : Bool → Place → List ℕ → Items → BehindItems → State
  -- behind marks
  want_marked : Marks → Items → BehindItems → State
  -- `(` behind the `if` of a statement
  want_choice : Place → Marks → Items → BehindItems → State
  want_child : BehindItems → State
  -- the WORD of a definition
  want_defined : Defined → Place → Items → BehindItems → State
  -- `(` before parameters
  want_parameters : BehindParameters → State
  in_parameters : List Parameter → BehindParameters → State
  -- a parameter's WORD: `=` may follow
  have_parameter : List ℕ → List Parameter → BehindParameters → State
  after_parameter : List Parameter → BehindParameters → State
  -- `)` behind the parameters
  have_parameters : List Parameter → BehindParameters → State
  -- `=` of a function
  want_assign : Place → List ℕ → List Parameter → Items → BehindItems → State

-- behind an operand that begins so many lines
abbrev pub opened : ℕ → BehindOperand → BehindOperand
opened zero k = k
opened (suc n) k = opened n (first_of n k)

-- an operand of the lines up to this one
abbrev pub want_operand : ℕ → BehindOperand → State
want_operand n k = want_unary (opened n k)

-- how many constructs stand open
abbrev pub open_count : State → ℕ
open_count (want_expression k) = open_expression k
open_count (have_expression e k) = open_expression k
open_count (want_unary k) = open_operand k
open_count (have_operand e k) = open_operand k
open_count (have_name at w k) = open_operand k
open_count (have_post count e k) = count + open_operand k
open_count (want_member at e count k) = 1 + (count + open_operand k)
open_count (have_links n count e k) = count + open_operand k
open_count (want_arguments k) = open_arguments k
open_count (in_arguments all k) = 1 + open_arguments k
open_count (have_word at w all k) = 1 + open_arguments k
open_count (after_argument all k) = 1 + open_arguments k
open_count (have_arguments all k) = 1 + open_arguments k
open_count (want_element k) = open_element k
open_count (have_element el k) = open_element k
open_count (want_test at k) = 1 + open_element k
open_count (in_elements at all k) = 1 + open_operand k
open_count (after_one at all k) = 1 + open_operand k
open_count (have_elements at all k) = 1 + open_operand k
open_count (want_statement d a k) = open_items k
open_count (have_items a k) = open_ended k
open_count (have_start d at w a k) = 1 + open_items k
open_count (want_marked m a k) = 1 + open_items k
open_count (want_choice at m a k) = 1 + open_items k
open_count (want_child k) = open_items k
open_count (want_defined what at a k) = 1 + open_items k
open_count (want_parameters k) = open_parameters k
open_count (in_parameters all k) = 1 + open_parameters k
open_count (have_parameter w all k) = 1 + open_parameters k
open_count (after_parameter all k) = 1 + open_parameters k
open_count (have_parameters all k) = 1 + open_parameters k
open_count (want_assign at w all a k) = 1 + open_items k
