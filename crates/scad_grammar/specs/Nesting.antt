-- The constructs of a derivation, and how many of them stand open behind tokens with which a program begins.
--
-- Each of these is a construct: a statement, assignment or definition, with its marks, call or `if`; an open `(`, `[`
-- or `{`; a prefix operator, with its operand; `?`, with its expression; `let`, `assert`, `echo`, `for`, `each`, `if`
-- and `else` within an expression, with its expression or element; and a binary operator, an index and a member, from
-- its token to the end of its chain of operands. A statement that stands as a child of another is one beside it. A
-- group is its `{` alone, and `;` is none.
use Rattle.std.specs.Prelude.{◌≡◌, ℕ, ◌≤◌, ◌&&◌, Bool, List, [], ◌∷◌, ◌++◌, Option, length, nat_lt}
use Rattle.std.specs.List.{count_by}
use Rattle.scad_fault.specs.declared.place.Place.{Place}
use Rattle.scad_lex.specs.declared.token.Token.{Token}
use Rattle.scad_lex.specs.declared.token.Sign.TheVariants.{OpenRound, OpenSquare, OpenCurly, Question, Assign, Plus}
use Rattle.scad_lex.specs.declared.token.Sign.TheVariants.{Minus, Bang, Dot}
use Rattle.scad_lex.specs.declared.token.Key.TheVariants.{Module, Function, If, Else as KeyElse, For, Let, Assert}
use Rattle.scad_lex.specs.declared.token.Key.TheVariants.{Echo, Each}
use Rattle.scad_ast.specs.Tree.{Expression, Arguments, Elements, Element, Parameter, Items}
use Rattle.scad_grammar.specs.Tokens.{sign, key, word}
use Rattle.scad_grammar.specs.Lists.{Marks}
use Rattle.scad_grammar.specs.Grammar.{Expr, let_expr, assert_expr, echo_expr, test, Choice, no_choice, choice}
use Rattle.scad_grammar.specs.Grammar.{Operand, tightest, line, Links, no_link, link, Unary, not_unary, plus_unary}
use Rattle.scad_grammar.specs.Grammar.{minus_unary, post, Posts, no_post, an_index, a_member, Prim, a_number}
use Rattle.scad_grammar.specs.Grammar.{a_string, a_true, a_false, an_undef, a_name, a_call, a_group, a_range}
use Rattle.scad_grammar.specs.Grammar.{a_vector, RangeEnd, two_parts, three_parts, Args, no_args, unnamed, named}
use Rattle.scad_grammar.specs.Grammar.{MoreArgs, last_arg, comma_arg, Elems, no_elems, elems, MoreElems, last_elem}
use Rattle.scad_grammar.specs.Grammar.{comma_elem, Elem, comp, plain, Comp, a_for, a_loop, an_each, let_comp, an_if}
use Rattle.scad_grammar.specs.Grammar.{Else, no_else, an_else, Default, no_default, default, Params, no_params}
use Rattle.scad_grammar.specs.Grammar.{params, MoreParams, last_param, comma_param}
use Rattle.scad_grammar.specs.Statements.{Statement, nothing, a_group as group, assign, a_module, a_function, inst}
use Rattle.scad_grammar.specs.Statements.{Statements, no_statement, statement, Inst, star_mark, percent_mark}
use Rattle.scad_grammar.specs.Statements.{hash_mark, a_call as call, a_choice, Otherwise, no_otherwise, otherwise}
use Rattle.scad_grammar.specs.Statements.{Child, no_child, children, one_child, Derives, program}

-- how many tokens are left before the first token of a construct, and how many behind its last one
pub record Construct : Type 0 where
  pub before : ℕ
  pub behind : ℕ

-- the construct of the tokens from here on to there, and those within it
abbrev pub construct : List Token → List Token → List Construct → List Construct
construct from to within = record { before = length from; behind = length to } ∷ within

abbrev mutual
  pub in_expr : {ts us : List Token} {e : Expression} → Expr ts us e → List Construct
  in_expr (let_expr {at = at} {p = p} {ts = ts} {us = us} {vs = vs} d b) =
      construct (key Let at ∷ sign OpenRound p ∷ ts) vs
      (construct (sign OpenRound p ∷ ts) us (in_args d) ++ in_expr b)
  in_expr (assert_expr {at = at} {p = p} {ts = ts} {us = us} {vs = vs} d b) =
      construct (key Assert at ∷ sign OpenRound p ∷ ts) vs
      (construct (sign OpenRound p ∷ ts) us (in_args d) ++ in_expr b)
  in_expr (echo_expr {at = at} {p = p} {ts = ts} {us = us} {vs = vs} d b) =
      construct (key Echo at ∷ sign OpenRound p ∷ ts) vs
      (construct (sign OpenRound p ∷ ts) us (in_args d) ++ in_expr b)
  in_expr (test d c) = in_operand d ++ in_choice c

  pub in_choice : {a e : Expression} {ts us : List Token} → Choice a ts us e → List Construct
  in_choice (no_choice h) = []
  in_choice (choice {at = at} {ts = ts} {vs = vs} d e) =
      construct (sign Question at ∷ ts) vs (in_expr d ++ in_expr e)

  pub in_operand : {n : ℕ} {ts us : List Token} {e : Expression} → Operand n ts us e → List Construct
  in_operand (tightest d) = in_unary d
  in_operand (line d l) = in_operand d ++ in_links l

  pub in_links : {n : ℕ} {a e : Expression} {ts us : List Token} → Links n a ts us e → List Construct
  in_links (no_link h) = []
  in_links (link {t = t} {ts = ts} {vs = vs} h d l) = construct (t ∷ ts) vs (in_operand d ++ in_links l)

  pub in_unary : {ts us : List Token} {e : Expression} → Unary ts us e → List Construct
  in_unary (not_unary {at = at} {ts = ts} {us = us} d) = construct (sign Bang at ∷ ts) us (in_unary d)
  in_unary (plus_unary {at = at} {ts = ts} {us = us} d) = construct (sign Plus at ∷ ts) us (in_unary d)
  in_unary (minus_unary {at = at} {ts = ts} {us = us} d) = construct (sign Minus at ∷ ts) us (in_unary d)
  in_unary (post d l) = in_prim d ++ in_posts l

  pub in_posts : {a e : Expression} {ts us : List Token} → Posts a ts us e → List Construct
  in_posts (no_post h₁ h₂ h₃) = []
  in_posts (an_index {at = at} {ts = ts} {us = us} {vs = vs} d l) =
      construct (sign OpenSquare at ∷ ts) vs (construct (sign OpenSquare at ∷ ts) us (in_expr d) ++ in_posts l)
  in_posts (a_member {at = at} {p = p} {w = w} {ts = ts} {us = us} l) =
      construct (sign Dot at ∷ word w p ∷ ts) us (in_posts l)

  pub in_prim : {ts us : List Token} {e : Expression} → Prim ts us e → List Construct
  in_prim a_number = []
  in_prim a_string = []
  in_prim a_true = []
  in_prim a_false = []
  in_prim an_undef = []
  in_prim (a_name h) = []
  in_prim (a_call {p = p} {ts = ts} {us = us} d) = construct (sign OpenRound p ∷ ts) us (in_args d)
  in_prim (a_group {p = p} {ts = ts} {us = us} d) = construct (sign OpenRound p ∷ ts) us (in_expr d)
  in_prim (a_range {at = at} {ts = ts} {ws = ws} d e r) =
      construct (sign OpenSquare at ∷ ts) ws (in_expr d ++ (in_expr e ++ in_range r))
  in_prim (a_vector {at = at} {ts = ts} {us = us} d) = construct (sign OpenSquare at ∷ ts) us (in_elems d)

  pub in_range : {at : Place} {a b e : Expression} {ts us : List Token} → RangeEnd at a b ts us e →
      List Construct
  in_range two_parts = []
  in_range (three_parts d) = in_expr d

  pub in_args : {a all : Arguments} {ts us : List Token} → Args a ts us all → List Construct
  in_args (no_args h) = []
  in_args (unnamed h d m) = in_expr d ++ in_more_args m
  in_args (named d m) = in_expr d ++ in_more_args m

  pub in_more_args : {a all : Arguments} {ts us : List Token} → MoreArgs a ts us all → List Construct
  in_more_args (last_arg h) = []
  in_more_args (comma_arg d) = in_args d

  pub in_elems : {a all : Elements} {ts us : List Token} → Elems a ts us all → List Construct
  in_elems no_elems = []
  in_elems (elems d m) = in_elem d ++ in_more_elems m

  pub in_more_elems : {a all : Elements} {ts us : List Token} → MoreElems a ts us all → List Construct
  in_more_elems last_elem = []
  in_more_elems (comma_elem d) = in_elems d

  pub in_elem : {ts us : List Token} {el : Element} → Elem ts us el → List Construct
  in_elem (comp d) = in_comp d
  in_elem (plain d) = in_expr d

  pub in_comp : {ts us : List Token} {el : Element} → Comp ts us el → List Construct
  in_comp (a_for {at = at} {p = p} {ts = ts} {us = us} {vs = vs} d b) =
      construct (key For at ∷ sign OpenRound p ∷ ts) vs
      (construct (sign OpenRound p ∷ ts) us (in_args d) ++ in_elem b)
  in_comp (a_loop {at = at} {p = p} {ts = ts} {ws = ws} {xs = xs} d t s b) =
      construct (key For at ∷ sign OpenRound p ∷ ts) xs
      (construct (sign OpenRound p ∷ ts) ws (in_args d ++ (in_expr t ++ in_args s)) ++ in_elem b)
  in_comp (an_each {at = at} {ts = ts} {us = us} d) = construct (key Each at ∷ ts) us (in_elem d)
  in_comp (let_comp {at = at} {p = p} {ts = ts} {us = us} {vs = vs} d b) =
      construct (key Let at ∷ sign OpenRound p ∷ ts) vs
      (construct (sign OpenRound p ∷ ts) us (in_args d) ++ in_comp b)
  in_comp (an_if {at = at} {p = p} {ts = ts} {us = us} {ws = ws} d b o) =
      construct (key If at ∷ sign OpenRound p ∷ ts) ws
      (construct (sign OpenRound p ∷ ts) us (in_expr d) ++ (in_elem b ++ in_else o))

  pub in_else : {at : Place} {e : Expression} {held el : Element} {ts us : List Token} →
      Else at e held ts us el → List Construct
  in_else (no_else h) = []
  in_else (an_else {p = p} {ts = ts} {us = us} d) = construct (key KeyElse p ∷ ts) us (in_elem d)

abbrev pub in_default : {ts us : List Token} {d : Option Expression} → Default ts us d → List Construct
in_default (no_default h) = []
in_default (default d) = in_expr d

abbrev mutual
  pub in_params : {a all : List Parameter} {ts us : List Token} → Params a ts us all → List Construct
  in_params no_params = []
  in_params (params d m) = in_default d ++ in_more_params m

  pub in_more_params : {a all : List Parameter} {ts us : List Token} → MoreParams a ts us all → List Construct
  in_more_params last_param = []
  in_more_params (comma_param d) = in_params d

abbrev mutual
  pub in_statement : {d : Bool} {a all : Items} {ts us : List Token} → Statement d a ts us all → List Construct
  in_statement nothing = []
  in_statement (group {p = p} {ts = ts} {us = us} s) = construct (sign OpenCurly p ∷ ts) us (in_statements s)
  in_statement (assign {at = at} {p = p} {w = w} {ts = ts} {us = us} e) =
      construct (word w at ∷ sign Assign p ∷ ts) us (in_expr e)
  in_statement (a_module {at = at} {o = o} {p = p} {w = w} {ts = ts} {us = us} {vs = vs} d s) =
      construct (key Module at ∷ word w o ∷ sign OpenRound p ∷ ts) vs
      (construct (sign OpenRound p ∷ ts) us (in_params d) ++ in_statement s)
  in_statement (a_function {at = at} {o = o} {p = p} {r = r} {w = w} {ts = ts} {us = us} {vs = vs} d e) =
      construct (key Function at ∷ word w o ∷ sign OpenRound p ∷ ts) vs
      (construct (sign OpenRound p ∷ ts) (sign Assign r ∷ us) (in_params d) ++ in_expr e)
  in_statement (inst {ts = ts} {us = us} i) = construct ts us (in_inst i)

  pub in_statements : {d : Bool} {a all : Items} {ts us : List Token} → Statements d a ts us all →
      List Construct
  in_statements no_statement = []
  in_statements (statement s l) = in_statement s ++ in_statements l

  -- within a statement that is a call or an `if`
  pub in_inst : {m : Marks} {a all : Items} {ts us : List Token} → Inst m a ts us all → List Construct
  in_inst (star_mark i) = in_inst i
  in_inst (percent_mark i) = in_inst i
  in_inst (hash_mark i) = in_inst i
  in_inst (call {p = p} {ts = ts} {us = us} n d c) = construct (sign OpenRound p ∷ ts) us (in_args d) ++ in_child c
  in_inst (a_choice {p = p} {ts = ts} {us = us} d c o) =
      construct (sign OpenRound p ∷ ts) us (in_expr d) ++ (in_child c ++ in_otherwise o)

  pub in_otherwise : {other : Items} {ts us : List Token} → Otherwise ts us other → List Construct
  in_otherwise (no_otherwise h) = []
  in_otherwise (otherwise c) = in_child c

  pub in_child : {all : Items} {ts us : List Token} → Child ts us all → List Construct
  in_child no_child = []
  in_child (children {p = p} {ts = ts} {us = us} s) = construct (sign OpenCurly p ∷ ts) us (in_statements s)
  in_child (one_child {ts = ts} {us = us} i) = construct ts us (in_inst i)

abbrev pub constructs_of : {ts : List Token} {all : Items} → Derives ts all → List Construct
constructs_of (program s) = in_statements s

-- where so many tokens are left the construct has begun and hasn't ended
abbrev pub is_open : ℕ → Construct → Bool
is_open left c = nat_lt left c.before && nat_lt c.behind left

-- how many of these constructs are open where so many tokens are left
abbrev pub open_at : ℕ → List Construct → ℕ
open_at left constructs = count_by (is_open left) constructs

-- a program that begins with these tokens has a derivation that has so many constructs open behind them
abbrev pub CanHaveOpen : List Token → ℕ → Type 0
CanHaveOpen ts n =
    (more : List Token) × (all : Items) × (d : Derives (ts ++ more) all)
    × (open_at (length more) (constructs_of d) ≡ n)

-- Behind these tokens so many constructs stand open: the most that a derivation has open. What has ended by one
-- derivation and not by another is open, until a token shows that it has ended.
pub record Opens (ts : List Token) (n : ℕ) : Type 0 where
  pub some : CanHaveOpen ts n
  pub most : (m : ℕ) → CanHaveOpen ts m → m ≤ n
