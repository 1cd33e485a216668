-- What the next token does where a statement stands or has ended.
use Rattle.std.specs.Prelude.{ℕ, Bool, true, false, List, Option, Some, None, if◌then◌else◌, codes}
use Rattle.scad_fault.specs.declared.place.Place.{Place}
use Rattle.scad_lex.specs.declared.token.Token.{Token}
use Rattle.scad_lex.specs.declared.token.TokenKind.{TokenKind}
use Rattle.scad_lex.specs.declared.token.TokenKind.TheVariants.{Word, Key}
use Rattle.scad_lex.specs.declared.token.Sign.TheVariants.{OpenRound, CloseRound, OpenCurly, CloseCurly, Semicolon}
use Rattle.scad_lex.specs.declared.token.Sign.TheVariants.{Assign, Star, Percent, Hash, Bang}
use Rattle.scad_lex.specs.declared.token.Key.TheVariants.{Module, Function, If, Else, For, Let, Assert, Echo, Include}
use Rattle.scad_lex.specs.declared.token.Key.TheVariants.{Use}
use Rattle.scad_ast.specs.Tree.{no_arguments, Parameter, Items, no_items, module_of, call_of, choice}
use Rattle.scad_grammar.specs.Tokens.{is_sign, is_key, word_of}
use Rattle.scad_grammar.specs.Lists.{with_item, with_statement, Marks, no_marks, starred, percented, hashed}
use Rattle.scad_grammar.specs.Behind.{a_module, a_function, Defined, BehindItems, in_program, in_group, module_body}
use Rattle.scad_grammar.specs.Behind.{child_of, held_child, other_child, BehindParameters, defined, assigned_to}
use Rattle.scad_grammar.specs.Behind.{of_statement}
use Rattle.scad_grammar.specs.State.{want_expression, want_arguments, in_arguments, have_items, have_start}
use Rattle.scad_grammar.specs.State.{want_marked, want_choice, want_child, want_defined, want_parameters}
use Rattle.scad_grammar.specs.State.{have_parameter}
use Rattle.scad_grammar.specs.Move.{Move, go, left_out, stuck}
use Rattle.scad_grammar.specs.Steps.{only, end_parameters}

-- WORD | "for" | "let" | "echo" | "assert" where a call may stand: the name that it calls
abbrev pub callee_kind : TokenKind → Option (List ℕ)
callee_kind (Word w) = Some w
callee_kind (Key For) = Some (codes "for")
callee_kind (Key Let) = Some (codes "let")
callee_kind (Key Echo) = Some (codes "echo")
callee_kind (Key Assert) = Some (codes "assert")
callee_kind _ = None

abbrev pub callee : Token → Option (List ℕ)
callee t = callee_kind t.kind

abbrev pub call_step : Token → Option (List ℕ) → Marks → Items → BehindItems → Move
call_step t (Some w) m a k = go (want_arguments (of_statement t.at m w a k))
call_step t None m a k = stuck

-- where a mark, a call or an `if` may stand
unfoldable pub marked_step : Token → Marks → Items → BehindItems → Move
marked_step t m a k =
    if is_sign Star t then go (want_marked (starred m) a k)
    else (if is_sign Percent t then go (want_marked (percented m) a k)
    else (if is_sign Hash t then go (want_marked (hashed m) a k)
    else (if is_sign Bang t then left_out (codes "!")
    else (if is_key If t then go (want_choice t.at m a k)
    else call_step t (callee t) m a k))))

-- `include` and `use` are left out; otherwise a call or an `if`
unfoldable pub first_step : Token → Items → BehindItems → Move
first_step t a k =
    if is_key Include t then left_out (codes "include")
    else (if is_key Use t then left_out (codes "use")
    else marked_step t no_marks a k)

-- a definition, which may stand here or not
unfoldable pub definition_step : Bool → Token → Items → BehindItems → Move
definition_step false t a k = first_step t a k
definition_step true t a k =
    if is_key Module t then go (want_defined a_module t.at a k)
    else (if is_key Function t then go (want_defined a_function t.at a k)
    else first_step t a k)

abbrev pub start_step : Bool → Token → Option (List ℕ) → Items → BehindItems → Move
start_step d t (Some w) a k = go (have_start d t.at w a k)
start_step d t None a k = definition_step d t a k

-- where a statement begins
unfoldable pub statement_step : Bool → Token → Items → BehindItems → Move
statement_step d t a k =
    if is_sign Semicolon t then go (have_items a k)
    else (if is_sign OpenCurly t then go (have_items a (in_group d k))
    else start_step d t (word_of t) a k)

-- behind a WORD that begins a statement
unfoldable pub word_statement : Place → List ℕ → Items → BehindItems → Token → Move
word_statement at w a k t =
    if is_sign Assign t then go (want_expression (assigned_to at w a k))
    else only (is_sign OpenRound t) (in_arguments no_arguments (of_statement at no_marks w a k))

-- where a child begins
unfoldable pub child_step : Token → BehindItems → Move
child_step t k =
    if is_sign Semicolon t then go (have_items no_items k)
    else (if is_sign OpenCurly t then go (have_items no_items (in_group false k))
    else first_step t no_items k)

-- behind a statement
unfoldable pub after_items : Items → BehindItems → Token → Move
after_items a in_program t = statement_step true t a in_program
after_items a (in_group d k) t = if is_sign CloseCurly t then go (have_items a k)
    else statement_step d t a (in_group d k)
after_items a (module_body at w all outer k) t = after_items (with_item outer (module_of at w all a)) k t
after_items a (child_of at m w all outer k) t =
    after_items (with_statement m outer (call_of at m.percent m.hash w all a)) k t
after_items a (held_child at m e outer k) t =
    if is_key Else t then go (want_child (other_child at m e a outer k))
    else after_items (with_statement m outer (choice at m.percent m.hash e a no_items)) k t
after_items a (other_child at m e held outer k) t =
    after_items (with_statement m outer (choice at m.percent m.hash e held a)) k t

-- the program that a text is, if it ends behind a statement
unfoldable pub finish_items : Items → BehindItems → Option Items
finish_items a in_program = Some a
finish_items a (in_group d k) = None
finish_items a (module_body at w all outer k) = finish_items (with_item outer (module_of at w all a)) k
finish_items a (child_of at m w all outer k) =
    finish_items (with_statement m outer (call_of at m.percent m.hash w all a)) k
finish_items a (held_child at m e outer k) =
    finish_items (with_statement m outer (choice at m.percent m.hash e a no_items)) k
finish_items a (other_child at m e held outer k) =
    finish_items (with_statement m outer (choice at m.percent m.hash e held a)) k

-- the name that is defined
abbrev pub defined_name : Defined → Place → Option (List ℕ) → Items → BehindItems → Move
defined_name what at (Some w) a k = go (want_parameters (defined what at w a k))
defined_name what at None a k = stuck

abbrev pub parameter_step : Option (List ℕ) → List Parameter → BehindParameters → Move
parameter_step (Some w) all k = go (have_parameter w all k)
parameter_step None all k = stuck

-- where a parameter or the end of the parameters may stand
unfoldable pub parameters_step : Token → List Parameter → BehindParameters → Move
parameters_step t all k =
    if is_sign CloseRound t then end_parameters all k t else parameter_step (word_of t) all k
