-- The text of an expression is the spelling of its printed tokens.
use Rattle.std.proofs.Common.{ℕ, Bool, true, false, List, ◌∷◌, Option, Some, None}
use Rattle.scad_lex.specs.declared.token.Token.{Token}
use Rattle.scad_lex.specs.declared.token.Sign.TheVariants.{OpenRound, CloseRound, OpenSquare, CloseSquare, Semicolon}
use Rattle.scad_lex.specs.declared.token.Sign.TheVariants.{Comma, Colon, Question, Assign, Dot}
use Rattle.scad_lex.specs.declared.token.Key.TheVariants.{If, Else, For, Let, Assert, Echo, Each, True, False, Undef}
use Rattle.scad_ast.specs.declared.operator.UnOp.{UnOp}
use Rattle.scad_ast.specs.declared.operator.UnOp.TheVariants.{Not, Plus as UnaryPlus, Minus as UnaryMinus}
use Rattle.scad_ast.specs.declared.operator.BinOp.{BinOp}
use Rattle.scad_ast.specs.declared.operator.BinOp.TheVariants.{Or, And, Eq, Ne, Lt, Le, Gt, Ge, Add, Sub, Mul, Div}
use Rattle.scad_ast.specs.declared.operator.BinOp.TheVariants.{Rem}
use Rattle.scad_ast.specs.Tree.{Expression, undef, boolean, number, string, name, vector, range, stepped, unary}
use Rattle.scad_ast.specs.Tree.{binary, choose, index, member, call, let_in, assert_in, echo_in, Arguments}
use Rattle.scad_ast.specs.Tree.{no_arguments, argument, Elements, no_elements, element, Element, item, each, for_each}
use Rattle.scad_ast.specs.Tree.{for_loop, let_element, if_element, if_else}
use Rattle.scad_ast.specs.Text.{spaced, prefix_text, operator_text, enclosed, separator, argument_name}
use Rattle.scad_ast.specs.Text.{expression_text, arguments_text, elements_text, element_text, stands_alone}
use Rattle.scad_grammar.specs.Tokens.{word, numeral, quoted}
use Rattle.scad_grammar.specs.TreeText.{nowhere, prefix_token, operator_token, enclosed_onto, named_onto, comma_onto}
use Rattle.scad_grammar.specs.TreeText.{expression_onto, arguments_onto, elements_onto, element_onto}
use Rattle.scad_grammar.proofs.printing.Texts.{Prints, none, one, ◌before◌, a_sign, a_key, round}

pub a_word : (w : List ℕ) → Prints (spaced w) (λ us. word w nowhere ∷ us)
a_word w = one (word w nowhere) false

prefix_prints : (op : UnOp) → Prints (spaced (prefix_text op)) (λ us. prefix_token op ∷ us)
prefix_prints Not = one (prefix_token Not) false
prefix_prints UnaryPlus = one (prefix_token UnaryPlus) false
prefix_prints UnaryMinus = one (prefix_token UnaryMinus) false

operator_prints : (op : BinOp) → Prints (spaced (operator_text op)) (λ us. operator_token op ∷ us)
operator_prints Or = one (operator_token Or) false
operator_prints And = one (operator_token And) false
operator_prints Eq = one (operator_token Eq) false
operator_prints Ne = one (operator_token Ne) false
operator_prints Lt = one (operator_token Lt) false
operator_prints Le = one (operator_token Le) false
operator_prints Gt = one (operator_token Gt) false
operator_prints Ge = one (operator_token Ge) false
operator_prints Add = one (operator_token Add) false
operator_prints Sub = one (operator_token Sub) false
operator_prints Mul = one (operator_token Mul) false
operator_prints Div = one (operator_token Div) false
operator_prints Rem = one (operator_token Rem) false

pub comma_prints : (first : Bool) → Prints (separator first) (comma_onto first)
comma_prints true = none
comma_prints false = a_sign Comma

name_prints : (w : Option (List ℕ)) → Prints (argument_name w) (named_onto w)
name_prints None = none
name_prints (Some w) = a_word w before a_sign Assign

-- an operand, alone or in parentheses
operand_prints : (e : Expression) {text : List ℕ} {f : List Token → List Token} → Prints text f →
    Prints (enclosed e text) (enclosed_onto (stands_alone e) f)
operand_prints (undef at) p = p
operand_prints (boolean at b) p = p
operand_prints (number at z) p = p
operand_prints (string at chars) p = p
operand_prints (name at w) p = p
operand_prints (vector at all) p = p
operand_prints (range at a b) p = p
operand_prints (stepped at a b c) p = p
operand_prints (unary at op a) p = round p
operand_prints (binary at op a b) p = round p
operand_prints (choose at a b c) p = round p
operand_prints (index at a i) p = p
operand_prints (member at a w) p = p
operand_prints (call at w all) p = p
operand_prints (let_in at all a) p = round p
operand_prints (assert_in at all a) p = round p
operand_prints (echo_in at all a) p = round p

mutual
  pub expression_prints : (e : Expression) → Prints (expression_text e) (expression_onto e)
  expression_prints (undef at) = a_key Undef
  expression_prints (boolean at true) = a_key True
  expression_prints (boolean at false) = a_key False
  expression_prints (number at z) = one (numeral z nowhere) false
  expression_prints (string at chars) = one (quoted chars nowhere) false
  expression_prints (name at w) = a_word w
  expression_prints (vector at all) = a_sign OpenSquare before elements_print true all before a_sign CloseSquare
  expression_prints (range at a b) =
      a_sign OpenSquare before expression_prints a before a_sign Colon before expression_prints b before a_sign
      CloseSquare
  expression_prints (stepped at a b c) =
      a_sign OpenSquare before expression_prints a before a_sign Colon before expression_prints b before a_sign Colon
      before expression_prints c before a_sign CloseSquare
  expression_prints (unary at op a) = prefix_prints op before operand_prints a (expression_prints a)
  expression_prints (binary at op a b) =
      operand_prints a (expression_prints a) before operator_prints op before operand_prints b (expression_prints b)
  expression_prints (choose at a b c) =
      operand_prints a (expression_prints a) before a_sign Question before expression_prints b before a_sign Colon
      before expression_prints c
  expression_prints (index at a i) =
      operand_prints a (expression_prints a) before a_sign OpenSquare before expression_prints i before a_sign
      CloseSquare
  expression_prints (member at a w) = operand_prints a (expression_prints a) before a_sign Dot before a_word w
  expression_prints (call at w all) = a_word w before round (arguments_print true all)
  expression_prints (let_in at all a) = a_key Let before round (arguments_print true all) before expression_prints a
  expression_prints (assert_in at all a) =
      a_key Assert before round (arguments_print true all) before expression_prints a
  expression_prints (echo_in at all a) = a_key Echo before round (arguments_print true all) before expression_prints a

  pub arguments_print : (first : Bool) (all : Arguments) →
      Prints (arguments_text first all) (arguments_onto first all)
  arguments_print first no_arguments = none
  arguments_print first (argument w e more) =
      comma_prints first before name_prints w before expression_prints e before arguments_print false more

  elements_print : (first : Bool) (all : Elements) → Prints (elements_text first all) (elements_onto first all)
  elements_print first no_elements = none
  elements_print first (element e more) = comma_prints first before element_prints e before elements_print false more

  element_prints : (e : Element) → Prints (element_text e) (element_onto e)
  element_prints (item e) = expression_prints e
  element_prints (each at e) = a_key Each before element_prints e
  element_prints (for_each at all e) = a_key For before round (arguments_print true all) before element_prints e
  element_prints (for_loop at starts test steps e) =
      a_key For before a_sign OpenRound before arguments_print true starts before a_sign Semicolon
      before (expression_prints test before a_sign Semicolon)
      before (arguments_print true steps before a_sign CloseRound) before element_prints e
  element_prints (let_element at all e) = a_key Let before round (arguments_print true all) before element_prints e
  element_prints (if_element at test e) = a_key If before round (expression_prints test) before element_prints e
  element_prints (if_else at test e other) =
      a_key If before round (expression_prints test) before element_prints e before a_key Else before
      element_prints other
