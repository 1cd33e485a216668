-- The text of a program: source that reads as the program again (OpenSCAD User Manual, "The OpenSCAD Language"). A blank
-- stands behind each token, a line feed behind `;`, `{` and `}`. An operand stands in parentheses unless it is a literal, a
-- name, a call, a vector, a range, an index or a member.
use Rattle.std.specs.Prelude.{ℕ, Bool, true, false, if◌then◌else◌, ◌==◌, List, [], ◌∷◌, ◌++◌, Option, Some, None, codes, encode_utf8}
use Rattle.std.specs.List.{flat_map}
pub use Rattle.scad_base.specs.Characters.{quote, backslash}
use Rattle.scad_num.specs.Text.{number_text}
use Rattle.scad_ast.specs.declared.operator.UnOp.{UnOp}
use Rattle.scad_ast.specs.declared.operator.UnOp.TheVariants.{Not, Plus, Minus}
use Rattle.scad_ast.specs.declared.operator.BinOp.{BinOp}
use Rattle.scad_ast.specs.declared.operator.BinOp.TheVariants.{Or, And, Eq, Ne, Lt, Le, Gt, Ge, Add, Sub, Mul, Div, Rem}
use Rattle.scad_ast.specs.Tree.{Expression, undef, boolean, number, string, name, vector, range, stepped, unary, binary, choose, index, member, call, let_in, assert_in, echo_in, Arguments, no_arguments, argument, Elements, no_elements, element, Element, item, each, for_each, for_loop, let_element, if_element, if_else, Parameter, Items, no_items, entry, Item, assignment, module_of, function_of, call_of, choice}

-- ---- tokens
abbrev pub blank : ℕ
blank = 32

-- a token and a blank
abbrev pub spaced : List ℕ → List ℕ
spaced token = token ++ blank ∷ []

-- a character of a string: a quote and a backslash behind a backslash, any other as it is
abbrev pub character_text : ℕ → List ℕ
character_text c = if c == quote then backslash ∷ quote ∷ [] else if c == backslash then backslash ∷ backslash ∷ [] else encode_utf8 c

abbrev pub string_text : List ℕ → List ℕ
string_text chars = quote ∷ flat_map character_text chars ++ quote ∷ []

abbrev pub boolean_text : Bool → List ℕ
boolean_text true = codes "true"
boolean_text false = codes "false"

abbrev pub prefix_text : UnOp → List ℕ
prefix_text Not = codes "!"
prefix_text Plus = codes "+"
prefix_text Minus = codes "-"

abbrev pub operator_text : BinOp → List ℕ
operator_text Or = codes "||"
operator_text And = codes "&&"
operator_text Eq = codes "=="
operator_text Ne = codes "!="
operator_text Lt = codes "<"
operator_text Le = codes "<="
operator_text Gt = codes ">"
operator_text Ge = codes ">="
operator_text Add = codes "+"
operator_text Sub = codes "-"
operator_text Mul = codes "*"
operator_text Div = codes "/"
operator_text Rem = codes "%"

-- ---- expressions
-- whether an expression may be an operand without parentheses
abbrev pub stands_alone : Expression → Bool
stands_alone (unary at op a) = false
stands_alone (binary at op a b) = false
stands_alone (choose at a b c) = false
stands_alone (let_in at args a) = false
stands_alone (assert_in at args a) = false
stands_alone (echo_in at args a) = false
stands_alone _ = true

abbrev pub in_parentheses : List ℕ → List ℕ
in_parentheses text = codes "( " ++ text ++ codes ") "

-- the text of an operand of an operator, an index or a member
abbrev pub enclosed : Expression → List ℕ → List ℕ
enclosed e text = if stands_alone e then text else in_parentheses text

-- a comma before each member of a list but the first
abbrev pub separator : Bool → List ℕ
separator true = []
separator false = codes ", "

abbrev pub argument_name : Option (List ℕ) → List ℕ
argument_name None = []
argument_name (Some word) = spaced word ++ codes "= "

abbrev mutual
  pub expression_text : Expression → List ℕ
  expression_text (undef at) = codes "undef "
  expression_text (boolean at b) = spaced (boolean_text b)
  expression_text (number at z) = spaced (number_text z)
  expression_text (string at chars) = spaced (string_text chars)
  expression_text (name at word) = spaced word
  expression_text (vector at all) = codes "[ " ++ elements_text true all ++ codes "] "
  expression_text (range at start end) = codes "[ " ++ expression_text start ++ codes ": " ++ expression_text end ++ codes "] "
  expression_text (stepped at start step end) =
      codes "[ " ++ expression_text start ++ codes ": " ++ expression_text step ++ codes ": " ++ expression_text end ++ codes "] "
  expression_text (unary at op a) = spaced (prefix_text op) ++ enclosed a (expression_text a)
  expression_text (binary at op a b) = enclosed a (expression_text a) ++ spaced (operator_text op) ++ enclosed b (expression_text b)
  expression_text (choose at test chosen other) =
      enclosed test (expression_text test) ++ codes "? " ++ expression_text chosen ++ codes ": " ++ expression_text other
  expression_text (index at a i) = enclosed a (expression_text a) ++ codes "[ " ++ expression_text i ++ codes "] "
  expression_text (member at a word) = enclosed a (expression_text a) ++ codes ". " ++ spaced word
  expression_text (call at word args) = spaced word ++ in_parentheses (arguments_text true args)
  expression_text (let_in at args a) = codes "let " ++ in_parentheses (arguments_text true args) ++ expression_text a
  expression_text (assert_in at args a) = codes "assert " ++ in_parentheses (arguments_text true args) ++ expression_text a
  expression_text (echo_in at args a) = codes "echo " ++ in_parentheses (arguments_text true args) ++ expression_text a

  -- arguments, the first of them the first of a list or not
  pub arguments_text : Bool → Arguments → List ℕ
  arguments_text first no_arguments = []
  arguments_text first (argument word e more) = separator first ++ argument_name word ++ expression_text e ++ arguments_text false more

  -- the elements of a vector
  pub elements_text : Bool → Elements → List ℕ
  elements_text first no_elements = []
  elements_text first (element e more) = separator first ++ element_text e ++ elements_text false more

  pub element_text : Element → List ℕ
  element_text (item e) = expression_text e
  element_text (each at e) = codes "each " ++ element_text e
  element_text (for_each at args e) = codes "for " ++ in_parentheses (arguments_text true args) ++ element_text e
  element_text (for_loop at starts test steps e) =
      (codes "for ( " ++ arguments_text true starts ++ codes "; ") ++ (expression_text test ++ codes "; ")
      ++ (arguments_text true steps ++ codes ") ") ++ element_text e
  element_text (let_element at args e) = codes "let " ++ in_parentheses (arguments_text true args) ++ element_text e
  element_text (if_element at test e) = codes "if " ++ in_parentheses (expression_text test) ++ element_text e
  element_text (if_else at test e other) =
      codes "if " ++ in_parentheses (expression_text test) ++ element_text e ++ codes "else " ++ element_text other

-- ---- statements
-- a parameter and its default
abbrev pub default_text : Option Expression → List ℕ
default_text None = []
default_text (Some e) = codes "= " ++ expression_text e

abbrev pub parameters_text : Bool → List Parameter → List ℕ
parameters_text first [] = []
parameters_text first (p ∷ more) = separator first ++ spaced p.name ++ default_text p.default ++ parameters_text false more

abbrev pub marks_text : Bool → Bool → List ℕ
marks_text percent hash = (if percent then codes "% " else []) ++ (if hash then codes "# " else [])

abbrev pub has_items : Items → Bool
has_items no_items = false
has_items (entry i more) = true

abbrev pub in_braces : List ℕ → List ℕ
in_braces text = codes "{\n" ++ text ++ codes "}\n"

-- the statements of a scope in braces, or `;` where there are none
abbrev pub body : Items → List ℕ → List ℕ
body all text = if has_items all then in_braces text else codes ";\n"

-- the branch behind an `else`, where there is one
abbrev pub otherwise : Items → List ℕ → List ℕ
otherwise all text = if has_items all then codes "else " ++ in_braces text else []

abbrev mutual
  pub items_text : Items → List ℕ
  items_text no_items = []
  items_text (entry i more) = item_text i ++ items_text more

  pub item_text : Item → List ℕ
  item_text (assignment at word e) = spaced word ++ codes "= " ++ expression_text e ++ codes ";\n"
  item_text (module_of at word parameters all) =
      codes "module " ++ spaced word ++ in_parentheses (parameters_text true parameters) ++ body all (items_text all)
  item_text (function_of at word parameters e) =
      codes "function " ++ spaced word ++ in_parentheses (parameters_text true parameters) ++ codes "= " ++ expression_text e ++ codes ";\n"
  item_text (call_of at percent hash word args all) =
      marks_text percent hash ++ spaced word ++ in_parentheses (arguments_text true args) ++ body all (items_text all)
  item_text (choice at percent hash test held other) =
      marks_text percent hash ++ codes "if " ++ in_parentheses (expression_text test) ++ body held (items_text held)
      ++ otherwise other (items_text other)
