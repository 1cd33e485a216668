-- The tokens of a tree's printed text, in front of further tokens, and the tree without its places. An operand stands
-- in parentheses unless it is a literal, a name, a call, a vector, a range, an index or a member.
use Rattle.std.specs.Prelude.{◌≡◌, ℕ, Bool, true, false, List, ◌∷◌, Option, Some, None}
use Rattle.scad_fault.specs.declared.place.Place.{Place}
use Rattle.scad_lex.specs.declared.token.Token.{Token}
use Rattle.scad_lex.specs.declared.token.Sign.TheVariants.{OpenRound, CloseRound, OpenSquare, CloseSquare, Semicolon}
use Rattle.scad_lex.specs.declared.token.Sign.TheVariants.{Comma, Colon, Question, Assign, Equal, NotEqual, Less}
use Rattle.scad_lex.specs.declared.token.Sign.TheVariants.{LessEqual, Greater, GreaterEqual, Plus, Minus, Star, Slash}
use Rattle.scad_lex.specs.declared.token.Sign.TheVariants.{Percent, Bang, AndAnd, OrOr, Dot}
use Rattle.scad_lex.specs.declared.token.Key.TheVariants.{If, Else, For, Let, Assert, Echo, Each, True, False, Undef}
use Rattle.scad_ast.specs.declared.operator.UnOp.{UnOp}
use Rattle.scad_ast.specs.declared.operator.UnOp.TheVariants.{Not, Plus as UnaryPlus, Minus as UnaryMinus}
use Rattle.scad_ast.specs.declared.operator.BinOp.{BinOp}
use Rattle.scad_ast.specs.declared.operator.BinOp.TheVariants.{Or, And, Eq, Ne, Lt, Le, Gt, Ge, Add, Sub, Mul, Div}
use Rattle.scad_ast.specs.declared.operator.BinOp.TheVariants.{Rem}
use Rattle.scad_ast.specs.Text.{stands_alone}
use Rattle.scad_ast.specs.Tree.{Expression, undef, boolean, number, string, name, vector, range, stepped, unary}
use Rattle.scad_ast.specs.Tree.{binary, choose, index, member, call, let_in, assert_in, echo_in, Arguments}
use Rattle.scad_ast.specs.Tree.{no_arguments, argument, Elements, no_elements, element, Element, item, each, for_each}
use Rattle.scad_ast.specs.Tree.{for_loop, let_element, if_element, if_else}
use Rattle.scad_grammar.specs.Tokens.{sign, key, word, numeral, quoted}

-- no place
abbrev pub nowhere : Place
nowhere = record { line = 0; col = 0 }

abbrev pub boolean_token : Bool → Token
boolean_token true = key True nowhere
boolean_token false = key False nowhere

abbrev pub prefix_token : UnOp → Token
prefix_token Not = sign Bang nowhere
prefix_token UnaryPlus = sign Plus nowhere
prefix_token UnaryMinus = sign Minus nowhere

abbrev pub operator_token : BinOp → Token
operator_token Or = sign OrOr nowhere
operator_token And = sign AndAnd nowhere
operator_token Eq = sign Equal nowhere
operator_token Ne = sign NotEqual nowhere
operator_token Lt = sign Less nowhere
operator_token Le = sign LessEqual nowhere
operator_token Gt = sign Greater nowhere
operator_token Ge = sign GreaterEqual nowhere
operator_token Add = sign Plus nowhere
operator_token Sub = sign Minus nowhere
operator_token Mul = sign Star nowhere
operator_token Div = sign Slash nowhere
operator_token Rem = sign Percent nowhere

-- an operand, which stands alone or in parentheses
abbrev pub enclosed_onto : Bool → (List Token → List Token) → List Token → List Token
enclosed_onto true text us = text us
enclosed_onto false text us = sign OpenRound nowhere ∷ text (sign CloseRound nowhere ∷ us)

abbrev pub in_round_onto : (List Token → List Token) → List Token → List Token
in_round_onto text us = sign OpenRound nowhere ∷ text (sign CloseRound nowhere ∷ us)

abbrev pub named_onto : Option (List ℕ) → List Token → List Token
named_onto None us = us
named_onto (Some w) us = word w nowhere ∷ sign Assign nowhere ∷ us

-- a comma before each member but the first
abbrev pub comma_onto : Bool → List Token → List Token
comma_onto true us = us
comma_onto false us = sign Comma nowhere ∷ us

abbrev mutual
  pub expression_onto : Expression → List Token → List Token
  expression_onto (undef at) us = key Undef nowhere ∷ us
  expression_onto (boolean at b) us = boolean_token b ∷ us
  expression_onto (number at z) us = numeral z nowhere ∷ us
  expression_onto (string at chars) us = quoted chars nowhere ∷ us
  expression_onto (name at w) us = word w nowhere ∷ us
  expression_onto (vector at all) us =
      sign OpenSquare nowhere ∷ elements_onto true all (sign CloseSquare nowhere ∷ us)
  expression_onto (range at a b) us =
      sign OpenSquare nowhere ∷ expression_onto a
      (sign Colon nowhere ∷ expression_onto b (sign CloseSquare nowhere ∷ us))
  expression_onto (stepped at a b c) us =
      sign OpenSquare nowhere ∷ expression_onto a
      (sign Colon nowhere ∷ expression_onto b
      (sign Colon nowhere ∷ expression_onto c (sign CloseSquare nowhere ∷ us)))
  expression_onto (unary at op a) us = prefix_token op ∷ enclosed_onto (stands_alone a) (expression_onto a) us
  expression_onto (binary at op a b) us =
      enclosed_onto (stands_alone a) (expression_onto a)
      (operator_token op ∷ enclosed_onto (stands_alone b) (expression_onto b) us)
  expression_onto (choose at a b c) us =
      enclosed_onto (stands_alone a) (expression_onto a)
      (sign Question nowhere ∷ expression_onto b (sign Colon nowhere ∷ expression_onto c us))
  expression_onto (index at a i) us =
      enclosed_onto (stands_alone a) (expression_onto a)
      (sign OpenSquare nowhere ∷ expression_onto i (sign CloseSquare nowhere ∷ us))
  expression_onto (member at a w) us =
      enclosed_onto (stands_alone a) (expression_onto a) (sign Dot nowhere ∷ word w nowhere ∷ us)
  expression_onto (call at w all) us = word w nowhere ∷ in_round_onto (arguments_onto true all) us
  expression_onto (let_in at all a) us =
      key Let nowhere ∷ in_round_onto (arguments_onto true all) (expression_onto a us)
  expression_onto (assert_in at all a) us =
      key Assert nowhere ∷ in_round_onto (arguments_onto true all) (expression_onto a us)
  expression_onto (echo_in at all a) us =
      key Echo nowhere ∷ in_round_onto (arguments_onto true all) (expression_onto a us)

  pub arguments_onto : Bool → Arguments → List Token → List Token
  arguments_onto first no_arguments us = us
  arguments_onto first (argument w e more) us =
      comma_onto first (named_onto w (expression_onto e (arguments_onto false more us)))

  pub elements_onto : Bool → Elements → List Token → List Token
  elements_onto first no_elements us = us
  elements_onto first (element e more) us = comma_onto first (element_onto e (elements_onto false more us))

  pub element_onto : Element → List Token → List Token
  element_onto (item e) us = expression_onto e us
  element_onto (each at e) us = key Each nowhere ∷ element_onto e us
  element_onto (for_each at all e) us = key For nowhere ∷ in_round_onto (arguments_onto true all) (element_onto e us)
  element_onto (for_loop at starts test steps e) us =
      key For nowhere ∷ sign OpenRound nowhere ∷ arguments_onto true starts
      (sign Semicolon nowhere ∷ expression_onto test (sign Semicolon nowhere
      ∷ arguments_onto true steps (sign CloseRound nowhere ∷ element_onto e us)))
  element_onto (let_element at all e) us =
      key Let nowhere ∷ in_round_onto (arguments_onto true all) (element_onto e us)
  element_onto (if_element at test e) us = key If nowhere ∷ in_round_onto (expression_onto test) (element_onto e us)
  element_onto (if_else at test e other) us =
      key If nowhere ∷ in_round_onto (expression_onto test)
      (element_onto e (key Else nowhere ∷ element_onto other us))

abbrev mutual
  pub unplaced : Expression → Expression
  unplaced (undef at) = undef nowhere
  unplaced (boolean at b) = boolean nowhere b
  unplaced (number at z) = number nowhere z
  unplaced (string at chars) = string nowhere chars
  unplaced (name at w) = name nowhere w
  unplaced (vector at all) = vector nowhere (unplaced_elements all)
  unplaced (range at a b) = range nowhere (unplaced a) (unplaced b)
  unplaced (stepped at a b c) = stepped nowhere (unplaced a) (unplaced b) (unplaced c)
  unplaced (unary at op a) = unary nowhere op (unplaced a)
  unplaced (binary at op a b) = binary nowhere op (unplaced a) (unplaced b)
  unplaced (choose at a b c) = choose nowhere (unplaced a) (unplaced b) (unplaced c)
  unplaced (index at a i) = index nowhere (unplaced a) (unplaced i)
  unplaced (member at a w) = member nowhere (unplaced a) w
  unplaced (call at w all) = call nowhere w (unplaced_arguments all)
  unplaced (let_in at all a) = let_in nowhere (unplaced_arguments all) (unplaced a)
  unplaced (assert_in at all a) = assert_in nowhere (unplaced_arguments all) (unplaced a)
  unplaced (echo_in at all a) = echo_in nowhere (unplaced_arguments all) (unplaced a)

  pub unplaced_arguments : Arguments → Arguments
  unplaced_arguments no_arguments = no_arguments
  unplaced_arguments (argument w e more) = argument w (unplaced e) (unplaced_arguments more)

  pub unplaced_elements : Elements → Elements
  unplaced_elements no_elements = no_elements
  unplaced_elements (element e more) = element (unplaced_element e) (unplaced_elements more)

  pub unplaced_element : Element → Element
  unplaced_element (item e) = item (unplaced e)
  unplaced_element (each at e) = each nowhere (unplaced_element e)
  unplaced_element (for_each at all e) = for_each nowhere (unplaced_arguments all) (unplaced_element e)
  unplaced_element (for_loop at starts test steps e) =
      for_loop nowhere (unplaced_arguments starts) (unplaced test) (unplaced_arguments steps) (unplaced_element e)
  unplaced_element (let_element at all e) = let_element nowhere (unplaced_arguments all) (unplaced_element e)
  unplaced_element (if_element at test e) = if_element nowhere (unplaced test) (unplaced_element e)
  unplaced_element (if_else at test e other) =
      if_else nowhere (unplaced test) (unplaced_element e) (unplaced_element other)

abbrev pub is_item : Element → Bool
is_item (item e) = true
is_item _ = false

-- an `else` behind the element would belong to an `if` in it
abbrev pub takes_else : Element → Bool
takes_else (item e) = false
takes_else (each at e) = takes_else e
takes_else (for_each at all e) = takes_else e
takes_else (for_loop at starts test steps e) = takes_else e
takes_else (let_element at all e) = takes_else e
takes_else (if_element at test e) = true
takes_else (if_else at test e other) = takes_else other

-- trees that tokens can derive: a `let` among elements holds no plain expression, and what stands before an
-- `else` would not take it
abbrev mutual
  pub IsPrintable : Expression → Type 0
  IsPrintable (undef at) = Unit {0}
  IsPrintable (boolean at b) = Unit {0}
  IsPrintable (number at z) = Unit {0}
  IsPrintable (string at chars) = Unit {0}
  IsPrintable (name at w) = Unit {0}
  IsPrintable (vector at all) = ArePrintableElements all
  IsPrintable (range at a b) = IsPrintable a × IsPrintable b
  IsPrintable (stepped at a b c) = IsPrintable a × IsPrintable b × IsPrintable c
  IsPrintable (unary at op a) = IsPrintable a
  IsPrintable (binary at op a b) = IsPrintable a × IsPrintable b
  IsPrintable (choose at a b c) = IsPrintable a × IsPrintable b × IsPrintable c
  IsPrintable (index at a i) = IsPrintable a × IsPrintable i
  IsPrintable (member at a w) = IsPrintable a
  IsPrintable (call at w all) = ArePrintable all
  IsPrintable (let_in at all a) = ArePrintable all × IsPrintable a
  IsPrintable (assert_in at all a) = ArePrintable all × IsPrintable a
  IsPrintable (echo_in at all a) = ArePrintable all × IsPrintable a

  pub ArePrintable : Arguments → Type 0
  ArePrintable no_arguments = Unit {0}
  ArePrintable (argument w e more) = IsPrintable e × ArePrintable more

  pub ArePrintableElements : Elements → Type 0
  ArePrintableElements no_elements = Unit {0}
  ArePrintableElements (element e more) = IsPrintableElement e × ArePrintableElements more

  pub IsPrintableElement : Element → Type 0
  IsPrintableElement (item e) = IsPrintable e
  IsPrintableElement (each at e) = IsPrintableElement e
  IsPrintableElement (for_each at all e) = ArePrintable all × IsPrintableElement e
  IsPrintableElement (for_loop at starts test steps e) = ArePrintable starts × IsPrintable test
      × ArePrintable steps × IsPrintableElement e
  IsPrintableElement (let_element at all e) = ArePrintable all × IsPrintableElement e × (is_item e ≡ false)
  IsPrintableElement (if_element at test e) = IsPrintable test × IsPrintableElement e
  IsPrintableElement (if_else at test e other) =
      IsPrintable test × IsPrintableElement e × IsPrintableElement other × (takes_else e ≡ false)
