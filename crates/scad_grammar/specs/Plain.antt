-- The grammar once more, as it stands on paper: each part may end wherever its production may. Only an `else` belongs
-- to the nearest `if`. The families and alternatives are those of Grammar and Statements.
use Rattle.std.specs.Prelude.{◌≡◌, ℕ, zero, suc, ℤ, Bool, true, false, List, [], ◌∷◌, Option, Some, None}
use Rattle.scad_fault.specs.declared.place.Place.{Place}
use Rattle.scad_lex.specs.declared.token.Token.{Token}
use Rattle.scad_lex.specs.declared.token.Sign.TheVariants.{OpenRound, CloseRound, OpenSquare, CloseSquare, OpenCurly}
use Rattle.scad_lex.specs.declared.token.Sign.TheVariants.{CloseCurly, Semicolon, Comma, Colon, Question, Assign}
use Rattle.scad_lex.specs.declared.token.Sign.TheVariants.{Plus, Minus, Bang, Dot, Star, Percent, Hash}
use Rattle.scad_lex.specs.declared.token.Key.TheVariants.{Module, Function, If, Else as KeyElse, For, Let, Assert}
use Rattle.scad_lex.specs.declared.token.Key.TheVariants.{Echo, Each, True, False, Undef}
use Rattle.scad_ast.specs.declared.operator.UnOp.TheVariants.{Not, Plus as UnaryPlus, Minus as UnaryMinus}
use Rattle.scad_ast.specs.declared.operator.BinOp.{BinOp}
use Rattle.scad_ast.specs.Tree.{Expression, undef, boolean, number, string, name, vector, range, stepped, unary}
use Rattle.scad_ast.specs.Tree.{binary, choose, index, member, call, let_in, assert_in, echo_in, Arguments}
use Rattle.scad_ast.specs.Tree.{no_arguments, Elements, no_elements, Element, item, each, for_each, for_loop}
use Rattle.scad_ast.specs.Tree.{let_element, if_element, if_else, Parameter, Items, no_items, assignment, module_of}
use Rattle.scad_ast.specs.Tree.{function_of, call_of}
use Rattle.scad_ast.specs.Tree.{choice as choice_of}
use Rattle.scad_grammar.specs.Tokens.{sign, key, word, numeral, quoted, begins_with_key, operator}
use Rattle.scad_grammar.specs.Lists.{with_argument, with_element, with_parameter, with_item, with_statement, Marks}
use Rattle.scad_grammar.specs.Lists.{no_marks, starred, percented, hashed}
use Rattle.scad_grammar.specs.Statements.{Callee}

mutual
  -- expr = "let" "(" args ")" expr | "assert" "(" args ")" expr | "echo" "(" args ")" expr
  --      | or ["?" expr ":" expr]
  pub data Expr : List Token → List Token → Expression → Type 0 where
    let_expr : {at p q : Place} {ts us vs : List Token} {all : Arguments} {e : Expression} →
        Args no_arguments ts (sign CloseRound q ∷ us) all → Expr us vs e →
        Expr (key Let at ∷ sign OpenRound p ∷ ts) vs (let_in at all e)
    assert_expr : {at p q : Place} {ts us vs : List Token} {all : Arguments} {e : Expression} →
        Args no_arguments ts (sign CloseRound q ∷ us) all → Expr us vs e →
        Expr (key Assert at ∷ sign OpenRound p ∷ ts) vs (assert_in at all e)
    echo_expr : {at p q : Place} {ts us vs : List Token} {all : Arguments} {e : Expression} →
        Args no_arguments ts (sign CloseRound q ∷ us) all → Expr us vs e →
        Expr (key Echo at ∷ sign OpenRound p ∷ ts) vs (echo_in at all e)
    test : {ts us vs : List Token} {a e : Expression} →
        Operand 6 ts us a → Choice a us vs e → Expr ts vs e

  -- ["?" expr ":" expr] behind a test
  pub data Choice : Expression → List Token → List Token → Expression → Type 0 where
    no_choice : {a : Expression} {ts : List Token} →
        Choice a ts ts a
    choice : {at p : Place} {a b c : Expression} {ts us vs : List Token} →
        Expr ts (sign Colon p ∷ us) b → Expr us vs c →
        Choice a (sign Question at ∷ ts) vs (choose at a b c)

  -- unary, and above it the lines of operators: 1 is mul, 2 add, 3 rel, 4 eq, 5 and, 6 or
  pub data Operand : ℕ → List Token → List Token → Expression → Type 0 where
    tightest : {ts us : List Token} {e : Expression} → Unary ts us e → Operand zero ts us e
    line : {n : ℕ} {ts us vs : List Token} {a e : Expression} →
        Operand n ts us a → Links n a us vs e → Operand (suc n) ts vs e

  -- (operator operand)* behind a left side, grouped to the left
  pub data Links : ℕ → Expression → List Token → List Token → Expression → Type 0 where
    no_link : {n : ℕ} {a : Expression} {ts : List Token} →
        Links n a ts ts a
    link : {n : ℕ} {op : BinOp} {a b e : Expression} {t : Token} {ts us vs : List Token} →
        operator n t ≡ Some op → Operand n ts us b → Links n (binary t.at op a b) us vs e →
        Links n a (t ∷ ts) vs e

  -- unary = ("!"|"+"|"-") unary | post, where post = prim ("[" expr "]" | "." WORD)*
  pub data Unary : List Token → List Token → Expression → Type 0 where
    not_unary : {at : Place} {ts us : List Token} {e : Expression} →
        Unary ts us e → Unary (sign Bang at ∷ ts) us (unary at Not e)
    plus_unary : {at : Place} {ts us : List Token} {e : Expression} →
        Unary ts us e → Unary (sign Plus at ∷ ts) us (unary at UnaryPlus e)
    minus_unary : {at : Place} {ts us : List Token} {e : Expression} →
        Unary ts us e → Unary (sign Minus at ∷ ts) us (unary at UnaryMinus e)
    post : {ts us vs : List Token} {a e : Expression} →
        Prim ts us a → Posts a us vs e → Unary ts vs e

  -- ("[" expr "]" | "." WORD)* behind an operand
  pub data Posts : Expression → List Token → List Token → Expression → Type 0 where
    no_post : {a : Expression} {ts : List Token} →
        Posts a ts ts a
    an_index : {at p : Place} {a i e : Expression} {ts us vs : List Token} →
        Expr ts (sign CloseSquare p ∷ us) i → Posts (index at a i) us vs e →
        Posts a (sign OpenSquare at ∷ ts) vs e
    a_member : {at p : Place} {w : List ℕ} {a e : Expression} {ts us : List Token} →
        Posts (member at a w) ts us e → Posts a (sign Dot at ∷ word w p ∷ ts) us e

  -- prim = NUMBER | STRING | "true" | "false" | "undef" | WORD | WORD "(" args ")" | "(" expr ")" | range | vector
  pub data Prim : List Token → List Token → Expression → Type 0 where
    a_number : {at : Place} {z : ℤ} {ts : List Token} → Prim (numeral z at ∷ ts) ts (number at z)
    a_string : {at : Place} {chars : List ℕ} {ts : List Token} → Prim (quoted chars at ∷ ts) ts (string at chars)
    a_true : {at : Place} {ts : List Token} → Prim (key True at ∷ ts) ts (boolean at true)
    a_false : {at : Place} {ts : List Token} → Prim (key False at ∷ ts) ts (boolean at false)
    an_undef : {at : Place} {ts : List Token} → Prim (key Undef at ∷ ts) ts (undef at)
    a_name : {at : Place} {w : List ℕ} {ts : List Token} →
        Prim (word w at ∷ ts) ts (name at w)
    a_call : {at p q : Place} {w : List ℕ} {all : Arguments} {ts us : List Token} →
        Args no_arguments ts (sign CloseRound q ∷ us) all →
        Prim (word w at ∷ sign OpenRound p ∷ ts) us (call at w all)
    a_group : {p q : Place} {e : Expression} {ts us : List Token} →
        Expr ts (sign CloseRound q ∷ us) e → Prim (sign OpenRound p ∷ ts) us e
    a_range : {at p : Place} {a b e : Expression} {ts us vs ws : List Token} →
        Expr ts (sign Colon p ∷ us) a → Expr us vs b → RangeEnd at a b vs ws e →
        Prim (sign OpenSquare at ∷ ts) ws e
    a_vector : {at q : Place} {all : Elements} {ts us : List Token} →
        Elems no_elements ts (sign CloseSquare q ∷ us) all →
        Prim (sign OpenSquare at ∷ ts) us (vector at all)

  -- [":" expr] "]" behind the first two parts of a range
  pub data RangeEnd : Place → Expression → Expression → List Token → List Token → Expression → Type 0 where
    two_parts : {at q : Place} {a b : Expression} {ts : List Token} →
        RangeEnd at a b (sign CloseSquare q ∷ ts) ts (range at a b)
    three_parts : {at p q : Place} {a b c : Expression} {ts us : List Token} →
        Expr ts (sign CloseSquare q ∷ us) c → RangeEnd at a b (sign Colon p ∷ ts) us (stepped at a b c)

  -- args = list of [WORD "="] expr
  pub data Args : Arguments → List Token → List Token → Arguments → Type 0 where
    no_args : {all : Arguments} {ts : List Token} → Args all ts ts all
    unnamed : {a all : Arguments} {e : Expression} {ts us vs : List Token} →
        Expr ts us e → MoreArgs (with_argument a None e) us vs all → Args a ts vs all
    named : {at p : Place} {w : List ℕ} {a all : Arguments} {e : Expression} {ts us vs : List Token} →
        Expr ts us e → MoreArgs (with_argument a (Some w) e) us vs all →
        Args a (word w at ∷ sign Assign p ∷ ts) vs all

  pub data MoreArgs : Arguments → List Token → List Token → Arguments → Type 0 where
    last_arg : {all : Arguments} {ts : List Token} → MoreArgs all ts ts all
    comma_arg : {p : Place} {a all : Arguments} {ts us : List Token} →
        Args a ts us all → MoreArgs a (sign Comma p ∷ ts) us all

  -- list of elem
  pub data Elems : Elements → List Token → List Token → Elements → Type 0 where
    no_elems : {all : Elements} {ts : List Token} → Elems all ts ts all
    elems : {a all : Elements} {el : Element} {ts us vs : List Token} →
        Elem ts us el → MoreElems (with_element a el) us vs all → Elems a ts vs all

  pub data MoreElems : Elements → List Token → List Token → Elements → Type 0 where
    last_elem : {all : Elements} {ts : List Token} → MoreElems all ts ts all
    comma_elem : {p : Place} {a all : Elements} {ts us : List Token} →
        Elems a ts us all → MoreElems a (sign Comma p ∷ ts) us all

  -- elem = comp | expr
  pub data Elem : List Token → List Token → Element → Type 0 where
    comp : {ts us : List Token} {el : Element} → Comp ts us el → Elem ts us el
    plain : {ts us : List Token} {e : Expression} → Expr ts us e → Elem ts us (item e)

  -- comp = "for" "(" args ")" elem | "for" "(" args ";" expr ";" args ")" elem | "each" elem
  --      | "let" "(" args ")" comp | "if" "(" expr ")" elem ["else" elem]
  pub data Comp : List Token → List Token → Element → Type 0 where
    a_for : {at p q : Place} {all : Arguments} {el : Element} {ts us vs : List Token} →
        Args no_arguments ts (sign CloseRound q ∷ us) all → Elem us vs el →
        Comp (key For at ∷ sign OpenRound p ∷ ts) vs (for_each at all el)
    a_loop : {at p q r s : Place} {starts steps : Arguments} {e : Expression} {el : Element}
        {ts us vs ws xs : List Token} →
        Args no_arguments ts (sign Semicolon q ∷ us) starts → Expr us (sign Semicolon r ∷ vs) e →
        Args no_arguments vs (sign CloseRound s ∷ ws) steps → Elem ws xs el →
        Comp (key For at ∷ sign OpenRound p ∷ ts) xs (for_loop at starts e steps el)
    an_each : {at : Place} {el : Element} {ts us : List Token} →
        Elem ts us el → Comp (key Each at ∷ ts) us (each at el)
    let_comp : {at p q : Place} {all : Arguments} {el : Element} {ts us vs : List Token} →
        Args no_arguments ts (sign CloseRound q ∷ us) all → Comp us vs el →
        Comp (key Let at ∷ sign OpenRound p ∷ ts) vs (let_element at all el)
    an_if : {at p q : Place} {e : Expression} {held el : Element} {ts us vs ws : List Token} →
        Expr ts (sign CloseRound q ∷ us) e → Elem us vs held → Else at e held vs ws el →
        Comp (key If at ∷ sign OpenRound p ∷ ts) ws el

  -- ["else" elem] behind an element that is held by a test
  pub data Else : Place → Expression → Element → List Token → List Token → Element → Type 0 where
    no_else : {at : Place} {e : Expression} {held : Element} {ts : List Token} →
        begins_with_key KeyElse ts ≡ false → Else at e held ts ts (if_element at e held)
    an_else : {at p : Place} {e : Expression} {held other : Element} {ts us : List Token} →
        Elem ts us other → Else at e held (key KeyElse p ∷ ts) us (if_else at e held other)

-- params = list of WORD ["=" expr]
pub data Default : List Token → List Token → Option Expression → Type 0 where
  no_default : {ts : List Token} → Default ts ts None
  default : {p : Place} {e : Expression} {ts us : List Token} →
      Expr ts us e → Default (sign Assign p ∷ ts) us (Some e)

mutual
  pub data Params : List Parameter → List Token → List Token → List Parameter → Type 0 where
    no_params : {all : List Parameter} {ts : List Token} → Params all ts ts all
    params : {at : Place} {w : List ℕ} {d : Option Expression} {a all : List Parameter} {ts us vs : List Token} →
        Default ts us d → MoreParams (with_parameter a w d) us vs all → Params a (word w at ∷ ts) vs all

  pub data MoreParams : List Parameter → List Token → List Token → List Parameter → Type 0 where
    last_param : {all : List Parameter} {ts : List Token} → MoreParams all ts ts all
    comma_param : {p : Place} {a all : List Parameter} {ts us : List Token} →
        Params a ts us all → MoreParams a (sign Comma p ∷ ts) us all

mutual
  -- stmt = ";" | "{" stmt* "}" | assign | module | function | inst, where definitions may stand;
  -- body = ";" | "{" body* "}" | assign | inst, where they may not
  pub data Statement : Bool → Items → List Token → List Token → Items → Type 0 where
    nothing : {d : Bool} {all : Items} {p : Place} {ts : List Token} →
        Statement d all (sign Semicolon p ∷ ts) ts all
    group_statement : {d : Bool} {a all : Items} {p q : Place} {ts us : List Token} →
        Statements d a ts (sign CloseCurly q ∷ us) all → Statement d a (sign OpenCurly p ∷ ts) us all
    -- assign = WORD "=" expr ";"
    assign : {d : Bool} {a : Items} {at p q : Place} {w : List ℕ} {e : Expression} {ts us : List Token} →
        Expr ts (sign Semicolon q ∷ us) e →
        Statement d a (word w at ∷ sign Assign p ∷ ts) us (with_item a (assignment at w e))
    -- module = "module" WORD "(" params ")" stmt
    a_module : {a body : Items} {at o p q : Place} {w : List ℕ} {all : List Parameter} {ts us vs : List Token} →
        Params [] ts (sign CloseRound q ∷ us) all → Statement true no_items us vs body →
        Statement true a (key Module at ∷ word w o ∷ sign OpenRound p ∷ ts) vs (with_item a (module_of at w all body))
    -- function = "function" WORD "(" params ")" "=" expr ";"
    a_function : {a : Items} {at o p q r s : Place} {w : List ℕ} {all : List Parameter} {e : Expression}
        {ts us vs : List Token} →
        Params [] ts (sign CloseRound q ∷ sign Assign r ∷ us) all → Expr us (sign Semicolon s ∷ vs) e →
        Statement true a (key Function at ∷ word w o ∷ sign OpenRound p ∷ ts) vs
        (with_item a (function_of at w all e))
    inst : {d : Bool} {a all : Items} {ts us : List Token} →
        Inst no_marks a ts us all → Statement d a ts us all

  -- stmt*, body*
  pub data Statements : Bool → Items → List Token → List Token → Items → Type 0 where
    no_statement : {d : Bool} {all : Items} {ts : List Token} → Statements d all ts ts all
    statement : {d : Bool} {a b all : Items} {ts us vs : List Token} →
        Statement d a ts us b → Statements d b us vs all → Statements d a ts vs all

  -- inst = mark* (call child | "if" "(" expr ")" child ["else" child]), behind the marks so far
  pub data Inst : Marks → Items → List Token → List Token → Items → Type 0 where
    star_mark : {m : Marks} {a all : Items} {p : Place} {ts us : List Token} →
        Inst (starred m) a ts us all → Inst m a (sign Star p ∷ ts) us all
    percent_mark : {m : Marks} {a all : Items} {p : Place} {ts us : List Token} →
        Inst (percented m) a ts us all → Inst m a (sign Percent p ∷ ts) us all
    hash_mark : {m : Marks} {a all : Items} {p : Place} {ts us : List Token} →
        Inst (hashed m) a ts us all → Inst m a (sign Hash p ∷ ts) us all
    call_statement : {m : Marks} {a children : Items} {t : Token} {w : List ℕ} {p q : Place} {all : Arguments}
        {ts us vs : List Token} →
        Callee t w → Args no_arguments ts (sign CloseRound q ∷ us) all → Child us vs children →
        Inst m a (t ∷ sign OpenRound p ∷ ts) vs (with_statement m a (call_of t.at m.percent m.hash w all children))
    a_choice : {m : Marks} {a held other : Items} {at p q : Place} {e : Expression} {ts us vs ws : List Token} →
        Expr ts (sign CloseRound q ∷ us) e → Child us vs held → Otherwise vs ws other →
        Inst m a (key If at ∷ sign OpenRound p ∷ ts) ws
        (with_statement m a (choice_of at m.percent m.hash e held other))

  -- ["else" child]: it belongs to the nearest `if`
  pub data Otherwise : List Token → List Token → Items → Type 0 where
    no_otherwise : {ts : List Token} → begins_with_key KeyElse ts ≡ false → Otherwise ts ts no_items
    otherwise : {p : Place} {other : Items} {ts us : List Token} →
        Child ts us other → Otherwise (key KeyElse p ∷ ts) us other

  -- child = ";" | "{" body* "}" | inst
  pub data Child : List Token → List Token → Items → Type 0 where
    no_child : {p : Place} {ts : List Token} → Child (sign Semicolon p ∷ ts) ts no_items
    children : {p q : Place} {all : Items} {ts us : List Token} →
        Statements false no_items ts (sign CloseCurly q ∷ us) all → Child (sign OpenCurly p ∷ ts) us all
    one_child : {all : Items} {ts us : List Token} → Inst no_marks no_items ts us all → Child ts us all

-- program = stmt*: these tokens derive this program
pub data Derives : List Token → Items → Type 0 where
  program : {ts : List Token} {all : Items} → Statements true no_items ts [] all → Derives ts all
