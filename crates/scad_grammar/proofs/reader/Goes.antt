-- How tokens go on from where a reader stands to a whole program: the rest of each production that is open.
use Rattle.std.proofs.Common.{ℕ, Bool, true, List, [], ◌∷◌, Option, Some}
use Rattle.scad_fault.specs.declared.place.Place.{Place}
use Rattle.scad_lex.specs.declared.token.Token.{Token}
use Rattle.scad_lex.specs.declared.token.Sign.TheVariants.{OpenRound, CloseRound, CloseSquare, CloseCurly, Semicolon}
use Rattle.scad_lex.specs.declared.token.Sign.TheVariants.{Comma, Colon, Assign}
use Rattle.scad_ast.specs.declared.operator.UnOp.{UnOp}
use Rattle.scad_ast.specs.declared.operator.BinOp.{BinOp}
use Rattle.scad_ast.specs.Tree.{Expression, vector, stepped, unary, binary, choose, index, member, call, Arguments}
use Rattle.scad_ast.specs.Tree.{no_arguments, Elements, no_elements, Element, item, each, for_each, for_loop, if_else}
use Rattle.scad_ast.specs.Tree.{Parameter, Items, no_items, assignment, module_of, function_of, call_of, choice}
use Rattle.scad_grammar.specs.Tokens.{sign, word}
use Rattle.scad_grammar.specs.Lists.{with_argument, with_element, with_parameter, with_item, let_of, Marks}
use Rattle.scad_grammar.specs.Lists.{with_statement}
use Rattle.scad_grammar.specs.Grammar.{Expr, Choice, Operand, Links, Unary, Posts, RangeEnd, Args, MoreArgs, Elems}
use Rattle.scad_grammar.specs.Grammar.{MoreElems, Elem, Else, Default, Params, MoreParams}
use Rattle.scad_grammar.specs.Statements.{Statement, Statements, Inst, Otherwise, Child}
use Rattle.scad_grammar.specs.Behind.{Keyed, keyed_tree, Defined, a_module, a_function, BehindItems, in_program}
use Rattle.scad_grammar.specs.Behind.{in_group, module_body, child_of, held_child, other_child, BehindParameters}
use Rattle.scad_grammar.specs.Behind.{defined, BehindOperand, prefixed, first_of, right_of, tested, BehindExpression}
use Rattle.scad_grammar.specs.Behind.{in_round, in_index, chosen, other, body_of, argument_of, plain_item}
use Rattle.scad_grammar.specs.Behind.{range_second, range_third, loop_test, element_test, default_of, assigned_to}
use Rattle.scad_grammar.specs.Behind.{function_body, statement_test, BehindElement, in_vector, each_of, for_of}
use Rattle.scad_grammar.specs.Behind.{loop_of, let_body, held_element, other_element, BehindArguments, of_call}
use Rattle.scad_grammar.specs.Behind.{of_keyed, of_for, of_steps, of_let, of_statement}
use Rattle.scad_grammar.specs.State.{State, want_expression, have_expression, want_unary, have_operand, have_name}
use Rattle.scad_grammar.specs.State.{have_post, want_member, have_links, want_arguments, in_arguments, have_word}
use Rattle.scad_grammar.specs.State.{after_argument, have_arguments, want_element, have_element, want_test}
use Rattle.scad_grammar.specs.State.{in_elements, after_one, have_elements, want_statement, have_items, have_start}
use Rattle.scad_grammar.specs.State.{want_marked, want_choice, want_child, want_defined, want_parameters}
use Rattle.scad_grammar.specs.State.{in_parameters, have_parameter, after_parameter, have_parameters, want_assign}

-- behind a statement
pub data ItemsGoes : Items → BehindItems → List Token → Items → Type 0 where
  goes_program : {a p : Items} {ts : List Token} → Statements true a ts [] p → ItemsGoes a in_program ts p
  goes_group : {d : Bool} {a b p : Items} {k : BehindItems} {q : Place} {ts us : List Token} →
      Statements d a ts (sign CloseCurly q ∷ us) b → ItemsGoes b k us p → ItemsGoes a (in_group d k) ts p
  goes_module : {at : Place} {w : List ℕ} {all : List Parameter} {a outer p : Items} {k : BehindItems}
      {ts : List Token} →
      ItemsGoes (with_item outer (module_of at w all a)) k ts p → ItemsGoes a (module_body at w all outer k) ts p
  goes_child : {at : Place} {m : Marks} {w : List ℕ} {all : Arguments} {a outer p : Items} {k : BehindItems}
      {ts : List Token} →
      ItemsGoes (with_statement m outer (call_of at m.percent m.hash w all a)) k ts p →
      ItemsGoes a (child_of at m w all outer k) ts p
  goes_held : {at : Place} {m : Marks} {e : Expression} {a other outer p : Items} {k : BehindItems}
      {ts us : List Token} →
      Otherwise ts us other → ItemsGoes (with_statement m outer (choice at m.percent m.hash e a other)) k us p →
      ItemsGoes a (held_child at m e outer k) ts p
  goes_other : {at : Place} {m : Marks} {e : Expression} {a held outer p : Items} {k : BehindItems}
      {ts : List Token} →
      ItemsGoes (with_statement m outer (choice at m.percent m.hash e held a)) k ts p →
      ItemsGoes a (other_child at m e held outer k) ts p

-- at the end of parameters
pub data ParametersGoes : List Parameter → BehindParameters → List Token → Items → Type 0 where
  goes_defined : {at q : Place} {w : List ℕ} {all : List Parameter} {a body p : Items} {k : BehindItems}
      {us vs : List Token} →
      Statement true no_items us vs body → ItemsGoes (with_item a (module_of at w all body)) k vs p →
      ParametersGoes all (defined a_module at w a k) (sign CloseRound q ∷ us) p
  goes_function : {at q r s : Place} {w : List ℕ} {all : List Parameter} {e : Expression} {a p : Items}
      {k : BehindItems} {us vs : List Token} →
      Expr us (sign Semicolon s ∷ vs) e → ItemsGoes (with_item a (function_of at w all e)) k vs p →
      ParametersGoes all (defined a_function at w a k) (sign CloseRound q ∷ sign Assign r ∷ us) p

mutual
  -- behind an operand
  pub data OperandGoes : Expression → BehindOperand → List Token → Items → Type 0 where
    goes_prefixed : {at : Place} {op : UnOp} {e : Expression} {k : BehindOperand} {ts : List Token} {p : Items} →
        OperandGoes (unary at op e) k ts p → OperandGoes e (prefixed at op k) ts p
    goes_first : {n : ℕ} {e x : Expression} {k : BehindOperand} {ts us : List Token} {p : Items} →
        Links n e ts us x → OperandGoes x k us p → OperandGoes e (first_of n k) ts p
    goes_right : {n count : ℕ} {a e x : Expression} {op : BinOp} {at : Place} {k : BehindOperand}
        {ts us : List Token} {p : Items} →
        Links n (binary at op a e) ts us x → OperandGoes x k us p → OperandGoes e (right_of n count a op at k) ts p
    goes_tested : {e x : Expression} {k : BehindExpression} {ts us : List Token} {p : Items} →
        Choice e ts us x → ExpressionGoes x k us p → OperandGoes e (tested k) ts p

  -- behind an expression
  pub data ExpressionGoes : Expression → BehindExpression → List Token → Items → Type 0 where
    goes_round : {q : Place} {e x : Expression} {k : BehindOperand} {us vs : List Token} {p : Items} →
        Posts e us vs x → OperandGoes x k vs p → ExpressionGoes e (in_round k) (sign CloseRound q ∷ us) p
    goes_index : {at q : Place} {count : ℕ} {a e x : Expression} {k : BehindOperand} {us vs : List Token}
        {p : Items} →
        Posts (index at a e) us vs x → OperandGoes x k vs p →
        ExpressionGoes e (in_index at a count k) (sign CloseSquare q ∷ us) p
    goes_chosen : {at q : Place} {a e c : Expression} {k : BehindExpression} {us vs : List Token} {p : Items} →
        Expr us vs c → ExpressionGoes (choose at a e c) k vs p →
        ExpressionGoes e (chosen at a k) (sign Colon q ∷ us) p
    goes_last : {at : Place} {a b e : Expression} {k : BehindExpression} {ts : List Token} {p : Items} →
        ExpressionGoes (choose at a b e) k ts p → ExpressionGoes e (other at a b k) ts p
    goes_body : {what : Keyed} {at : Place} {all : Arguments} {e : Expression} {k : BehindExpression}
        {ts : List Token} {p : Items} →
        ExpressionGoes (keyed_tree what at all e) k ts p → ExpressionGoes e (body_of what at all k) ts p
    goes_argument : {called : Option (List ℕ)} {a all : Arguments} {e : Expression} {k : BehindArguments}
        {ts us : List Token} {p : Items} →
        MoreArgs (with_argument a called e) ts us all → ArgumentsGoes all k us p →
        ExpressionGoes e (argument_of called a k) ts p
    goes_item : {e : Expression} {k : BehindElement} {ts : List Token} {p : Items} →
        ElementGoes (item e) k ts p → ExpressionGoes e (plain_item k) ts p
    goes_second : {at : Place} {a e x y : Expression} {k : BehindOperand} {ts us vs : List Token} {p : Items} →
        RangeEnd at a e ts us x → Posts x us vs y → OperandGoes y k vs p → ExpressionGoes e (range_second at a k) ts p
    goes_third : {at q : Place} {a b e y : Expression} {k : BehindOperand} {us vs : List Token} {p : Items} →
        Posts (stepped at a b e) us vs y → OperandGoes y k vs p →
        ExpressionGoes e (range_third at a b k) (sign CloseSquare q ∷ us) p
    goes_loop : {at q r : Place} {all steps : Arguments} {e : Expression} {el : Element} {k : BehindElement}
        {us ws xs : List Token} {p : Items} →
        Args no_arguments us (sign CloseRound r ∷ ws) steps → Elem ws xs el →
        ElementGoes (for_loop at all e steps el) k xs p →
        ExpressionGoes e (loop_test at all k) (sign Semicolon q ∷ us) p
    goes_test : {at q : Place} {e : Expression} {held x : Element} {k : BehindElement} {us vs ws : List Token}
        {p : Items} →
        Elem us vs held → Else at e held vs ws x → ElementGoes x k ws p →
        ExpressionGoes e (element_test at k) (sign CloseRound q ∷ us) p
    goes_default : {w : List ℕ} {a all : List Parameter} {e : Expression} {k : BehindParameters}
        {ts us : List Token} {p : Items} →
        MoreParams (with_parameter a w (Some e)) ts us all → ParametersGoes all k us p →
        ExpressionGoes e (default_of w a k) ts p
    goes_assigned : {at q : Place} {w : List ℕ} {a p : Items} {e : Expression} {k : BehindItems} {us : List Token} →
        ItemsGoes (with_item a (assignment at w e)) k us p →
        ExpressionGoes e (assigned_to at w a k) (sign Semicolon q ∷ us) p
    goes_result : {at q : Place} {w : List ℕ} {all : List Parameter} {a p : Items} {e : Expression}
        {k : BehindItems} {us : List Token} →
        ItemsGoes (with_item a (function_of at w all e)) k us p →
        ExpressionGoes e (function_body at w all a k) (sign Semicolon q ∷ us) p
    goes_choice : {at q : Place} {m : Marks} {a held other p : Items} {e : Expression} {k : BehindItems}
        {us vs ws : List Token} →
        Child us vs held → Otherwise vs ws other →
        ItemsGoes (with_statement m a (choice at m.percent m.hash e held other)) k ws p →
        ExpressionGoes e (statement_test at m a k) (sign CloseRound q ∷ us) p

  -- behind an element
  pub data ElementGoes : Element → BehindElement → List Token → Items → Type 0 where
    goes_member : {at q : Place} {a all : Elements} {el : Element} {e : Expression} {k : BehindOperand}
        {ts us vs : List Token} {p : Items} →
        MoreElems (with_element a el) ts (sign CloseSquare q ∷ us) all → Posts (vector at all) us vs e →
        OperandGoes e k vs p →
        ElementGoes el (in_vector at a k) ts p
    goes_range : {at q : Place} {x b e y : Expression} {k : BehindOperand} {us vs ws xs : List Token} {p : Items} →
        Expr us vs b → RangeEnd at x b vs ws e → Posts e ws xs y → OperandGoes y k xs p →
        ElementGoes (item x) (in_vector at no_elements k) (sign Colon q ∷ us) p
    goes_each : {at : Place} {el : Element} {k : BehindElement} {ts : List Token} {p : Items} →
        ElementGoes (each at el) k ts p → ElementGoes el (each_of at k) ts p
    goes_for : {at : Place} {all : Arguments} {el : Element} {k : BehindElement} {ts : List Token} {p : Items} →
        ElementGoes (for_each at all el) k ts p → ElementGoes el (for_of at all k) ts p
    goes_turns : {at : Place} {starts steps : Arguments} {e : Expression} {el : Element} {k : BehindElement}
        {ts : List Token} {p : Items} →
        ElementGoes (for_loop at starts e steps el) k ts p → ElementGoes el (loop_of at starts e steps k) ts p
    goes_let : {at : Place} {all : Arguments} {el : Element} {k : BehindElement} {ts : List Token} {p : Items} →
        ElementGoes (let_of at all el) k ts p → ElementGoes el (let_body at all k) ts p
    goes_if : {at : Place} {e : Expression} {el x : Element} {k : BehindElement} {ts us : List Token} {p : Items} →
        Else at e el ts us x → ElementGoes x k us p → ElementGoes el (held_element at e k) ts p
    goes_else : {at : Place} {e : Expression} {held el : Element} {k : BehindElement} {ts : List Token} {p : Items} →
        ElementGoes (if_else at e held el) k ts p → ElementGoes el (other_element at e held k) ts p

  -- at the end of arguments
  pub data ArgumentsGoes : Arguments → BehindArguments → List Token → Items → Type 0 where
    goes_call : {at q : Place} {w : List ℕ} {all : Arguments} {x : Expression} {k : BehindOperand}
        {us vs : List Token} {p : Items} →
        Posts (call at w all) us vs x → OperandGoes x k vs p →
        ArgumentsGoes all (of_call at w k) (sign CloseRound q ∷ us) p
    goes_keyed : {what : Keyed} {at q : Place} {all : Arguments} {e : Expression} {k : BehindExpression}
        {us vs : List Token} {p : Items} →
        Expr us vs e → ExpressionGoes (keyed_tree what at all e) k vs p →
        ArgumentsGoes all (of_keyed what at k) (sign CloseRound q ∷ us) p
    goes_for_each : {at q : Place} {all : Arguments} {el : Element} {k : BehindElement} {us vs : List Token}
        {p : Items} →
        Elem us vs el → ElementGoes (for_each at all el) k vs p →
        ArgumentsGoes all (of_for at k) (sign CloseRound q ∷ us) p
    goes_for_loop : {at q r s : Place} {all steps : Arguments} {e : Expression} {el : Element} {k : BehindElement}
        {us vs ws xs : List Token} {p : Items} →
        Expr us (sign Semicolon r ∷ vs) e → Args no_arguments vs (sign CloseRound s ∷ ws) steps → Elem ws xs el →
        ElementGoes (for_loop at all e steps el) k xs p → ArgumentsGoes all (of_for at k) (sign Semicolon q ∷ us) p
    goes_steps : {at q : Place} {starts all : Arguments} {e : Expression} {el : Element} {k : BehindElement}
        {us vs : List Token} {p : Items} →
        Elem us vs el → ElementGoes (for_loop at starts e all el) k vs p →
        ArgumentsGoes all (of_steps at starts e k) (sign CloseRound q ∷ us) p
    goes_let_args : {at q : Place} {all : Arguments} {el : Element} {k : BehindElement} {us vs : List Token}
        {p : Items} →
        Elem us vs el → ElementGoes (let_of at all el) k vs p →
        ArgumentsGoes all (of_let at k) (sign CloseRound q ∷ us) p
    goes_statement : {at q : Place} {m : Marks} {w : List ℕ} {all : Arguments} {a c p : Items} {k : BehindItems}
        {us vs : List Token} →
        Child us vs c → ItemsGoes (with_statement m a (call_of at m.percent m.hash w all c)) k vs p →
        ArgumentsGoes all (of_statement at m w a k) (sign CloseRound q ∷ us) p

-- an operand of the lines up to one
pub data OperandFrom : ℕ → BehindOperand → List Token → Items → Type 0 where
  operand_from : {n : ℕ} {e : Expression} {k : BehindOperand} {ts us : List Token} {p : Items} →
      Operand n ts us e → OperandGoes e k us p → OperandFrom n k ts p

-- from a state
pub data Goes : State → List Token → Items → Type 0 where
  wants_expression : {e : Expression} {k : BehindExpression} {ts us : List Token} {p : Items} →
      Expr ts us e → ExpressionGoes e k us p → Goes (want_expression k) ts p
  has_expression : {e : Expression} {k : BehindExpression} {ts : List Token} {p : Items} →
      ExpressionGoes e k ts p → Goes (have_expression e k) ts p
  wants_unary : {e : Expression} {k : BehindOperand} {ts us : List Token} {p : Items} →
      Unary ts us e → OperandGoes e k us p → Goes (want_unary k) ts p
  has_operand : {e : Expression} {k : BehindOperand} {ts : List Token} {p : Items} →
      OperandGoes e k ts p → Goes (have_operand e k) ts p
  has_name : {at : Place} {w : List ℕ} {k : BehindOperand} {ts : List Token} {p : Items} →
      Goes (want_unary k) (word w at ∷ ts) p → Goes (have_name at w k) ts p
  has_post : {count : ℕ} {e x : Expression} {k : BehindOperand} {ts us : List Token} {p : Items} →
      Posts e ts us x → OperandGoes x k us p → Goes (have_post count e k) ts p
  wants_member : {at q : Place} {w : List ℕ} {count : ℕ} {e x : Expression} {k : BehindOperand}
      {ts us : List Token} {p : Items} →
      Posts (member at e w) ts us x → OperandGoes x k us p → Goes (want_member at e count k) (word w q ∷ ts) p
  has_links : {n count : ℕ} {e x : Expression} {k : BehindOperand} {ts us : List Token} {p : Items} →
      Links n e ts us x → OperandGoes x k us p → Goes (have_links n count e k) ts p
  wants_arguments : {q : Place} {all : Arguments} {k : BehindArguments} {ts us : List Token} {p : Items} →
      Args no_arguments ts us all → ArgumentsGoes all k us p → Goes (want_arguments k) (sign OpenRound q ∷ ts) p
  is_in_arguments : {a all : Arguments} {k : BehindArguments} {ts us : List Token} {p : Items} →
      Args a ts us all → ArgumentsGoes all k us p → Goes (in_arguments a k) ts p
  has_word : {at : Place} {w : List ℕ} {a : Arguments} {k : BehindArguments} {ts : List Token} {p : Items} →
      Goes (in_arguments a k) (word w at ∷ ts) p → Goes (have_word at w a k) ts p
  is_after_argument : {a all : Arguments} {k : BehindArguments} {ts us : List Token} {p : Items} →
      MoreArgs a ts us all → ArgumentsGoes all k us p → Goes (after_argument a k) ts p
  has_arguments : {all : Arguments} {k : BehindArguments} {ts : List Token} {p : Items} →
      ArgumentsGoes all k ts p → Goes (have_arguments all k) ts p
  wants_element : {el : Element} {k : BehindElement} {ts us : List Token} {p : Items} →
      Elem ts us el → ElementGoes el k us p → Goes (want_element k) ts p
  has_element : {el : Element} {k : BehindElement} {ts : List Token} {p : Items} →
      ElementGoes el k ts p → Goes (have_element el k) ts p
  wants_test : {at q : Place} {e : Expression} {k : BehindElement} {ts us : List Token} {p : Items} →
      Expr ts us e → ExpressionGoes e (element_test at k) us p → Goes (want_test at k) (sign OpenRound q ∷ ts) p
  is_in_elements : {at q : Place} {a all : Elements} {e : Expression} {k : BehindOperand}
      {ts us vs : List Token} {p : Items} →
      Elems a ts (sign CloseSquare q ∷ us) all → Posts (vector at all) us vs e → OperandGoes e k vs p →
      Goes (in_elements at a k) ts p
  is_in_range : {at q : Place} {x b e y : Expression} {k : BehindOperand} {ts us vs ws xs : List Token} {p : Items} →
      Expr ts (sign Colon q ∷ us) x → Expr us vs b → RangeEnd at x b vs ws e → Posts e ws xs y →
      OperandGoes y k xs p →
      Goes (in_elements at no_elements k) ts p
  is_after_one : {at q : Place} {a all : Elements} {e : Expression} {k : BehindOperand} {ts us vs : List Token}
      {p : Items} →
      MoreElems a ts (sign CloseSquare q ∷ us) all → Posts (vector at all) us vs e → OperandGoes e k vs p →
      Goes (after_one at a k) ts p
  -- behind no element at all a comma is followed as the `[` is
  is_after_none : {at c q : Place} {x b e y : Expression} {k : BehindOperand} {ts us vs ws xs : List Token}
      {p : Items} →
      Expr ts (sign Colon q ∷ us) x → Expr us vs b → RangeEnd at x b vs ws e → Posts e ws xs y →
      OperandGoes y k xs p →
      Goes (after_one at no_elements k) (sign Comma c ∷ ts) p
  has_elements : {at q : Place} {all : Elements} {e : Expression} {k : BehindOperand} {us vs : List Token}
      {p : Items} →
      Posts (vector at all) us vs e → OperandGoes e k vs p → Goes (have_elements at all k) (sign CloseSquare q ∷ us) p
  wants_statement : {d : Bool} {a b p : Items} {k : BehindItems} {ts us : List Token} →
      Statement d a ts us b → ItemsGoes b k us p → Goes (want_statement d a k) ts p
  has_items : {a p : Items} {k : BehindItems} {ts : List Token} → ItemsGoes a k ts p → Goes (have_items a k) ts p
  has_start : {d : Bool} {at : Place} {w : List ℕ} {a p : Items} {k : BehindItems} {ts : List Token} →
      Goes (want_statement d a k) (word w at ∷ ts) p → Goes (have_start d at w a k) ts p
  wants_marked : {m : Marks} {a b p : Items} {k : BehindItems} {ts us : List Token} →
      Inst m a ts us b → ItemsGoes b k us p → Goes (want_marked m a k) ts p
  wants_choice : {at q : Place} {m : Marks} {e : Expression} {a p : Items} {k : BehindItems} {ts us : List Token} →
      Expr ts us e → ExpressionGoes e (statement_test at m a k) us p →
      Goes (want_choice at m a k) (sign OpenRound q ∷ ts) p
  wants_child : {a p : Items} {k : BehindItems} {ts us : List Token} →
      Child ts us a → ItemsGoes a k us p → Goes (want_child k) ts p
  wants_defined : {what : Defined} {at q : Place} {w : List ℕ} {a p : Items} {k : BehindItems} {ts : List Token} →
      Goes (want_parameters (defined what at w a k)) ts p → Goes (want_defined what at a k) (word w q ∷ ts) p
  wants_parameters : {q : Place} {all : List Parameter} {k : BehindParameters} {ts us : List Token} {p : Items} →
      Params [] ts us all → ParametersGoes all k us p → Goes (want_parameters k) (sign OpenRound q ∷ ts) p
  is_in_parameters : {a all : List Parameter} {k : BehindParameters} {ts us : List Token} {p : Items} →
      Params a ts us all → ParametersGoes all k us p → Goes (in_parameters a k) ts p
  has_parameter : {w : List ℕ} {d : Option Expression} {a all : List Parameter} {k : BehindParameters}
      {ts us vs : List Token} {p : Items} →
      Default ts us d → MoreParams (with_parameter a w d) us vs all → ParametersGoes all k vs p →
      Goes (have_parameter w a k) ts p
  is_after_parameter : {a all : List Parameter} {k : BehindParameters} {ts us : List Token} {p : Items} →
      MoreParams a ts us all → ParametersGoes all k us p → Goes (after_parameter a k) ts p
  has_parameters : {all : List Parameter} {k : BehindParameters} {ts : List Token} {p : Items} →
      ParametersGoes all k ts p → Goes (have_parameters all k) ts p
  wants_assign : {at r s : Place} {w : List ℕ} {all : List Parameter} {e : Expression} {a p : Items}
      {k : BehindItems} {us vs : List Token} →
      Expr us (sign Semicolon s ∷ vs) e → ItemsGoes (with_item a (function_of at w all e)) k vs p →
      Goes (want_assign at w all a k) (sign Assign r ∷ us) p
