-- The grammar of statements. Each family relates the items of a scope so far, tokens, the tokens behind what is
-- read, and the scope's items then. A group joins the scope that holds it; a statement marked by `*` joins none.
use Rattle.std.specs.Prelude.{◌≡◌, ℕ, Bool, true, false, List, [], ◌∷◌, ◌++◌, codes}
use Rattle.scad_fault.specs.declared.place.Place.{Place}
use Rattle.scad_lex.specs.declared.token.Token.{Token}
use Rattle.scad_lex.specs.declared.token.Sign.TheVariants.{OpenRound, CloseRound, OpenCurly, CloseCurly, Semicolon}
use Rattle.scad_lex.specs.declared.token.Sign.TheVariants.{Assign, Star, Percent, Hash}
use Rattle.scad_lex.specs.declared.token.Key.TheVariants.{Module, Function, If, Else, For, Let, Assert, Echo}
use Rattle.scad_ast.specs.Tree.{Expression, Arguments, no_arguments, Parameter, Items, no_items, assignment}
use Rattle.scad_ast.specs.Tree.{module_of, function_of, call_of, choice}
use Rattle.scad_grammar.specs.Tokens.{sign, key, word, begins_with_key}
use Rattle.scad_grammar.specs.Lists.{with_item, with_statement, Marks, no_marks, starred, percented, hashed}
use Rattle.scad_grammar.specs.Grammar.{Expr, Args, Params}

-- WORD | "for" | "let" | "echo" | "assert" where a call may stand, and the name that it calls
pub data Callee : Token → List ℕ → Type 0 where
  call_word : {at : Place} {w : List ℕ} → Callee (word w at) w
  call_for : {at : Place} → Callee (key For at) (codes "for")
  call_let : {at : Place} → Callee (key Let at) (codes "let")
  call_echo : {at : Place} → Callee (key Echo at) (codes "echo")
  call_assert : {at : Place} → Callee (key Assert at) (codes "assert")

mutual
  -- stmt = ";" | "{" stmt* "}" | assign | module | function | inst, where definitions may stand;
  -- body = ";" | "{" body* "}" | assign | inst, where they may not
  pub data Statement : Bool → Items → List Token → List Token → Items → Type 0 where
    nothing : {d : Bool} {all : Items} {p : Place} {ts : List Token} →
        Statement d all (sign Semicolon p ∷ ts) ts all
    a_group : {d : Bool} {a all : Items} {p q : Place} {ts us : List Token} →
        Statements d a ts (sign CloseCurly q ∷ us) all → Statement d a (sign OpenCurly p ∷ ts) us all
    -- assign = WORD "=" expr ";"
    assign : {d : Bool} {a : Items} {at p q : Place} {w : List ℕ} {e : Expression} {ts us : List Token} →
        Expr ts (sign Semicolon q ∷ us) e →
        Statement d a (word w at ∷ sign Assign p ∷ ts) us (with_item a (assignment at w e))
    -- module = "module" WORD "(" params ")" stmt
    a_module : {a body : Items} {at o p q : Place} {w : List ℕ} {all : List Parameter} {ts us vs : List Token} →
        Params [] ts (sign CloseRound q ∷ us) all → Statement true no_items us vs body →
        Statement true a (key Module at ∷ word w o ∷ sign OpenRound p ∷ ts) vs (with_item a (module_of at w all body))
    -- function = "function" WORD "(" params ")" "=" expr ";"
    a_function : {a : Items} {at o p q r s : Place} {w : List ℕ} {all : List Parameter} {e : Expression}
        {ts us vs : List Token} →
        Params [] ts (sign CloseRound q ∷ sign Assign r ∷ us) all → Expr us (sign Semicolon s ∷ vs) e →
        Statement true a (key Function at ∷ word w o ∷ sign OpenRound p ∷ ts) vs
        (with_item a (function_of at w all e))
    inst : {d : Bool} {a all : Items} {ts us : List Token} →
        Inst no_marks a ts us all → Statement d a ts us all

  -- stmt*, body*
  pub data Statements : Bool → Items → List Token → List Token → Items → Type 0 where
    no_statement : {d : Bool} {all : Items} {ts : List Token} → Statements d all ts ts all
    statement : {d : Bool} {a b all : Items} {ts us vs : List Token} →
        Statement d a ts us b → Statements d b us vs all → Statements d a ts vs all

  -- inst = mark* (call child | "if" "(" expr ")" child ["else" child]), behind the marks so far
  pub data Inst : Marks → Items → List Token → List Token → Items → Type 0 where
    star_mark : {m : Marks} {a all : Items} {p : Place} {ts us : List Token} →
        Inst (starred m) a ts us all → Inst m a (sign Star p ∷ ts) us all
    percent_mark : {m : Marks} {a all : Items} {p : Place} {ts us : List Token} →
        Inst (percented m) a ts us all → Inst m a (sign Percent p ∷ ts) us all
    hash_mark : {m : Marks} {a all : Items} {p : Place} {ts us : List Token} →
        Inst (hashed m) a ts us all → Inst m a (sign Hash p ∷ ts) us all
    a_call : {m : Marks} {a children : Items} {t : Token} {w : List ℕ} {p q : Place} {all : Arguments}
        {ts us vs : List Token} →
        Callee t w → Args no_arguments ts (sign CloseRound q ∷ us) all → Child us vs children →
        Inst m a (t ∷ sign OpenRound p ∷ ts) vs (with_statement m a (call_of t.at m.percent m.hash w all children))
    a_choice : {m : Marks} {a held other : Items} {at p q : Place} {e : Expression} {ts us vs ws : List Token} →
        Expr ts (sign CloseRound q ∷ us) e → Child us vs held → Otherwise vs ws other →
        Inst m a (key If at ∷ sign OpenRound p ∷ ts) ws
        (with_statement m a (choice at m.percent m.hash e held other))

  -- ["else" child]: it belongs to the nearest `if`
  pub data Otherwise : List Token → List Token → Items → Type 0 where
    no_otherwise : {ts : List Token} → begins_with_key Else ts ≡ false → Otherwise ts ts no_items
    otherwise : {p : Place} {other : Items} {ts us : List Token} →
        Child ts us other → Otherwise (key Else p ∷ ts) us other

  -- child = ";" | "{" body* "}" | inst
  pub data Child : List Token → List Token → Items → Type 0 where
    no_child : {p : Place} {ts : List Token} → Child (sign Semicolon p ∷ ts) ts no_items
    children : {p q : Place} {all : Items} {ts us : List Token} →
        Statements false no_items ts (sign CloseCurly q ∷ us) all → Child (sign OpenCurly p ∷ ts) us all
    one_child : {all : Items} {ts us : List Token} → Inst no_marks no_items ts us all → Child ts us all

-- program = stmt*: these tokens derive this program
pub data Derives : List Token → Items → Type 0 where
  program : {ts : List Token} {all : Items} → Statements true no_items ts [] all → Derives ts all

-- some program begins with these tokens
abbrev pub Begins : List Token → Type 0
Begins ts = (more : List Token) × (all : Items) × Derives (ts ++ more) all
