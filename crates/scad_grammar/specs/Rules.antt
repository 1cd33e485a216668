-- The rules of expressions as a descent reads them: each gives its tree and the tokens behind it, or the first fault.
--
-- A rule is given the rules for one construct less, or none where no more may open. So it ends.
use Rattle.std.specs.Prelude.{ℕ, zero, suc, List, [], ◌∷◌, Option, Some, None, Ok, Err, length, if◌then◌else◌}
use Rattle.std.specs.Prelude.{codes}
use Rattle.scad_fault.specs.declared.place.Place.{Place}
use Rattle.scad_lex.specs.declared.token.Token.{Token}
use Rattle.scad_lex.specs.declared.token.Sign.{Sign as SignName}
use Rattle.scad_lex.specs.declared.token.Sign.TheVariants.{OpenRound, CloseRound, OpenSquare, CloseSquare, Semicolon}
use Rattle.scad_lex.specs.declared.token.Sign.TheVariants.{Comma, Colon, Question, Assign, Plus, Minus, Caret, Bang}
use Rattle.scad_lex.specs.declared.token.Sign.TheVariants.{Dot}
use Rattle.scad_lex.specs.declared.token.Key.TheVariants.{Function, If, Else, For, Let, Assert, Echo, Each}
use Rattle.scad_ast.specs.declared.operator.UnOp.{UnOp}
use Rattle.scad_ast.specs.declared.operator.UnOp.TheVariants.{Not, Plus as UnaryPlus, Minus as UnaryMinus}
use Rattle.scad_ast.specs.declared.operator.BinOp.{BinOp}
use Rattle.scad_ast.specs.Tree.{Expression, name, vector, range, stepped, unary, binary, choose, index, member, call}
use Rattle.scad_ast.specs.Tree.{Arguments, no_arguments, Elements, no_elements, Element, item, each, for_each}
use Rattle.scad_ast.specs.Tree.{for_loop, if_element, if_else}
use Rattle.scad_grammar.specs.Tokens.{is_sign, is_key, word_of, operator}
use Rattle.scad_grammar.specs.Lists.{with_argument, with_element, let_of}
use Rattle.scad_grammar.specs.Grammar.{ends_arguments}
use Rattle.scad_grammar.specs.Behind.{Keyed, letting, asserting, echoing, keyed_tree}
use Rattle.scad_grammar.specs.Steps.{literal, range_start}
use Rattle.scad_grammar.specs.Machine.{syntax_at, nesting_at, left_out_at}
pub use Rattle.scad_grammar.specs.Reads.{Read, then_read, behind_sign}

-- the head of a `for` among elements: its arguments, or its three parts
pub data Head : Type 0 where
  for_all : Arguments → Head
  for_steps : Arguments → Expression → Arguments → Head

abbrev pub headed : Place → Head → Element → Element
headed at (for_all all) el = for_each at all el
headed at (for_steps starts e all) el = for_loop at starts e all el

-- the rules, where so many more constructs may open
pub record Rules : Type 0 where
  pub expr : List Token → Read Expression
  -- an operand of the lines up to one
  pub operand : ℕ → List Token → Read Expression
  -- (operator operand)* behind a left side
  pub links : ℕ → Expression → List Token → Read Expression
  pub unary_rule : List Token → Read Expression
  -- ("[" expr "]" | "." WORD)* behind an operand
  pub posts : Expression → List Token → Read Expression
  -- expr "]" behind the `[` of an index, which stands there
  pub indexed : Place → List Token → Read Expression
  -- elements or a range behind the `[` of an operand, which stands there, and "]"
  pub brackets : Place → List Token → Read Expression
  -- args ")"
  pub args_closed : List Token → Read Arguments
  -- "(" args ")"
  pub round_args : List Token → Read Arguments
  -- "(" expr ")"
  pub round_expr : List Token → Read Expression
  pub elem : List Token → Read Element
  -- behind the "(" of a `for`
  pub for_head : List Token → Read Head
  -- behind a `for`, which stands there
  pub for_behind : Place → List Token → Read Element
  -- ["else" elem] behind an element that is held by a test
  pub else_end : Place → Expression → Element → List Token → Read Element

-- a construct opens with the token that stands there
abbrev pub deeper : {R A : Type 0} → Option R → Place → (R → Read A) → Read A
deeper None at f = Err (nesting_at at)
deeper (Some r) at f = f r

-- expr, and this sign behind it
abbrev pub expr_to : Place → SignName → (List Token → Read Expression) → List Token → Read Expression
expr_to end s expr ts = then_read (expr ts) (λ e us. behind_sign end s us (λ vs. Ok (e, vs)))

-- WORD | WORD "(" args ")"
abbrev pub call_or_name : Option Rules → Place → List ℕ → List Token → Read Expression
call_or_name below at w [] = Ok (name at w, [])
call_or_name below at w (t ∷ ts) =
    if is_sign OpenRound t then deeper below t.at
    (λ r. then_read (r.args_closed ts) (λ all us. Ok (call at w all, us)))
    else Ok (name at w, t ∷ ts)

abbrev pub word_rule : Option Rules → Token → Option (List ℕ) → List Token → Read Expression
word_rule below t (Some w) ts = call_or_name below t.at w ts
word_rule below t None ts = Err (syntax_at t.at)

abbrev pub literal_rule : Option Rules → Token → Option Expression → List Token → Read Expression
literal_rule below t (Some e) ts = Ok (e, ts)
literal_rule below t None ts = word_rule below t (word_of t) ts

-- prim = NUMBER | STRING | "true" | "false" | "undef" | WORD | WORD "(" args ")" | "(" expr ")" | range | vector
unfoldable pub prim_of : Place → Option Rules → Token → List Token → Read Expression
prim_of end below t ts =
    if is_sign OpenRound t then deeper below t.at (λ r. expr_to end CloseRound r.expr ts)
    else (if is_sign OpenSquare t then deeper below t.at (λ r. r.brackets t.at ts)
    else literal_rule below t (literal t) ts)

-- WORD behind `.`
abbrev pub member_by : Rules → Place → Expression → Token → List Token → Option (List ℕ) → Read Expression
member_by r at e t ts (Some w) = r.posts (member at e w) ts
member_by r at e t ts None = Err (syntax_at t.at)

abbrev pub member_of : Place → Rules → Place → Expression → List Token → Read Expression
member_of end r at e [] = Err (syntax_at end)
member_of end r at e (t ∷ ts) = member_by r at e t ts (word_of t)

unfoldable pub posts_of : Place → Option Rules → Expression → List Token → Read Expression
posts_of end below e [] = Ok (e, [])
posts_of end below e (t ∷ ts) =
    if is_sign OpenSquare t then
    deeper below t.at (λ r. then_read (r.indexed t.at ts) (λ i us. r.posts (index t.at e i) us))
    else (if is_sign Dot t then deeper below t.at (λ r. member_of end r t.at e ts)
    else (if is_sign Caret t then Err (left_out_at t.at (codes "^"))
    else Ok (e, t ∷ ts)))

-- a prefix operator and its operand
abbrev pub prefixed_of : Option Rules → Place → UnOp → List Token → Read Expression
prefixed_of below at op ts = deeper below at (λ r. then_read (r.unary_rule ts) (λ e us. Ok (unary at op e, us)))

-- unary = ("!"|"+"|"-") unary | post
unfoldable pub unary_of : Place → Option Rules → List Token → Read Expression
unary_of end below [] = Err (syntax_at end)
unary_of end below (t ∷ ts) =
    if is_sign Bang t then prefixed_of below t.at Not ts
    else (if is_sign Plus t then prefixed_of below t.at UnaryPlus ts
    else (if is_sign Minus t then prefixed_of below t.at UnaryMinus ts
    else then_read (prim_of end below t ts) (posts_of end below)))

abbrev pub link_of : Option Rules → ℕ → Expression → Token → List Token → Option BinOp → Read Expression
link_of below line a t ts None = Ok (a, t ∷ ts)
link_of below line a t ts (Some op) =
    deeper below t.at (λ r. then_read (r.operand line ts) (λ b us. r.links line (binary t.at op a b) us))

unfoldable pub links_of : Option Rules → ℕ → Expression → List Token → Read Expression
links_of below line a [] = Ok (a, [])
links_of below line a (t ∷ ts) = link_of below line a t ts (operator line t)

-- or = and ("||" and)*, and so on down to mul = unary (("*"|"/"|"%") unary)*
unfoldable pub operand_of : Place → Option Rules → ℕ → List Token → Read Expression
operand_of end below zero ts = unary_of end below ts
operand_of end below (suc line) ts = then_read (operand_of end below line ts) (links_of below line)

-- ["?" expr ":" expr] behind a test
unfoldable pub choice_of : Place → Option Rules → Expression → List Token → Read Expression
choice_of end below a [] = Ok (a, [])
choice_of end below a (t ∷ ts) =
    if is_sign Question t then
    deeper below t.at (λ r.
    then_read (expr_to end Colon r.expr ts)
    (λ b us. then_read (r.expr us) (λ c vs. Ok (choose t.at a b c, vs))))
    else Ok (a, t ∷ ts)

-- ("let" | "assert" | "echo") "(" args ")" expr
abbrev pub keyed_of : Option Rules → Keyed → Place → List Token → Read Expression
keyed_of below what at ts =
    deeper below at (λ r. then_read (r.round_args ts)
    (λ all us. then_read (r.expr us) (λ e vs. Ok (keyed_tree what at all e, vs))))

unfoldable pub expr_of : Place → Option Rules → List Token → Read Expression
expr_of end below [] = Err (syntax_at end)
expr_of end below (t ∷ ts) =
    if is_key Function t then Err (left_out_at t.at (codes "function"))
    else (if is_key Let t then keyed_of below letting t.at ts
    else (if is_key Assert t then keyed_of below asserting t.at ts
    else (if is_key Echo t then keyed_of below echoing t.at ts
    else then_read (operand_of end below 6 (t ∷ ts)) (choice_of end below))))

-- ---- arguments
-- args = list of [WORD "="] expr, up to `)` or `;`; each turn takes a token, so there are no more turns than tokens
abbrev pub named_by : Place → Option Rules → Token → List Token → Option (List ℕ) →
    (Option (List ℕ) → Expression → List Token → Read Arguments) → Read Arguments
named_by end below t ts None f = then_read (expr_of end below (t ∷ ts)) (f None)
named_by end below t [] (Some w) f = then_read (expr_of end below (t ∷ [])) (f None)
named_by end below t (u ∷ us) (Some w) f =
    if is_sign Assign u then then_read (expr_of end below us) (f (Some w))
    else then_read (expr_of end below (t ∷ u ∷ us)) (f None)

-- "," or the end of the arguments
abbrev pub more_args : Place → (List Token → Read Arguments) → Arguments → List Token → Read Arguments
more_args end go_on all [] = Err (syntax_at end)
more_args end go_on all (t ∷ ts) =
    if is_sign Comma t then go_on ts else (if ends_arguments t then Ok (all, t ∷ ts) else Err (syntax_at t.at))

unfoldable pub args_of : Place → Option Rules → ℕ → Arguments → List Token → Read Arguments
args_of end below turns all [] = Err (syntax_at end)
args_of end below zero all (t ∷ ts) = if ends_arguments t then Ok (all, t ∷ ts) else Err (syntax_at t.at)
args_of end below (suc turns) all (t ∷ ts) =
    if ends_arguments t then Ok (all, t ∷ ts)
    else named_by end below t ts (word_of t) (λ called e us.
    more_args end (args_of end below turns (with_argument all called e)) (with_argument all called e) us)

abbrev pub args_closed_of : Place → Option Rules → List Token → Read Arguments
args_closed_of end below ts =
    then_read (args_of end below (length ts) no_arguments ts)
    (λ all us. behind_sign end CloseRound us (λ vs. Ok (all, vs)))

-- "(" and what stands behind it
abbrev pub in_round_of : {R A : Type 0} → Place → Option R → (R → List Token → Read A) → List Token → Read A
in_round_of end below f [] = Err (syntax_at end)
in_round_of end below f (t ∷ ts) =
    if is_sign OpenRound t then deeper below t.at (λ r. f r ts) else Err (syntax_at t.at)

-- ---- vectors and ranges
-- [":" expr] "]" behind the first two parts of a range
abbrev pub range_end : Place → Option Rules → Place → Expression → Expression → List Token → Read Expression
range_end end below at a b [] = Err (syntax_at end)
range_end end below at a b (t ∷ ts) =
    if is_sign Colon t then
    then_read (expr_to end CloseSquare (expr_of end below) ts) (λ c us. Ok (stepped at a b c, us))
    else (if is_sign CloseSquare t then Ok (range at a b, ts) else Err (syntax_at t.at))

abbrev pub range_by : Place → Option Rules → Place → Place → Option Expression → List Token → Read Expression
range_by end below at colon (Some a) ts = then_read (expr_of end below ts) (range_end end below at a)
range_by end below at colon None ts = Err (syntax_at colon)

-- ":" of a range, "," or "]" behind an element
abbrev pub more_elements : Place → Option Rules → (List Token → Read Expression) → Place → Elements → Element →
    List Token → Read Expression
more_elements end below go_on at all el [] = Err (syntax_at end)
more_elements end below go_on at all el (t ∷ ts) =
    if is_sign Colon t then range_by end below at t.at (range_start all el) ts
    else (if is_sign Comma t then go_on ts
    else (if is_sign CloseSquare t then Ok (vector at (with_element all el), ts) else Err (syntax_at t.at)))

-- ---- elements
abbrev pub else_of : Option Rules → Place → Expression → Element → List Token → Read Element
else_of below at e held [] = Ok (if_element at e held, [])
else_of below at e held (t ∷ ts) =
    if is_key Else t then deeper below t.at
    (λ r. then_read (r.elem ts) (λ other us. Ok (if_else at e held other, us)))
    else Ok (if_element at e held, t ∷ ts)

-- elem = comp | expr
unfoldable pub elem_of : Place → Option Rules → List Token → Read Element
elem_of end below [] = Err (syntax_at end)
elem_of end below (t ∷ ts) =
    if is_key For t then deeper below t.at (λ r. r.for_behind t.at ts)
    else (if is_key Each t then deeper below t.at (λ r. then_read (r.elem ts) (λ el us. Ok (each t.at el, us)))
    else (if is_key If t then
    deeper below t.at (λ r. then_read (r.round_expr ts) (λ e us. then_read (r.elem us) (r.else_end t.at e)))
    else (if is_key Let t then
    deeper below t.at (λ r. then_read (r.round_args ts)
    (λ all us. then_read (r.elem us) (λ el vs. Ok (let_of t.at all el, vs))))
    else then_read (expr_of end below (t ∷ ts)) (λ e us. Ok (item e, us)))))

unfoldable pub elements_of : Place → Option Rules → ℕ → Place → Elements → List Token → Read Expression
elements_of end below turns at all [] = Err (syntax_at end)
elements_of end below zero at all (t ∷ ts) =
    if is_sign CloseSquare t then Ok (vector at all, ts) else Err (syntax_at t.at)
elements_of end below (suc turns) at all (t ∷ ts) =
    if is_sign CloseSquare t then Ok (vector at all, ts)
    else then_read (elem_of end below (t ∷ ts)) (λ el us.
    more_elements end below (elements_of end below turns at (with_element all el)) at all el us)

-- behind the arguments that begin a `for`: `)`, or `;` and two more parts
abbrev pub head_end : Place → Option Rules → Arguments → List Token → Read Head
head_end end below all [] = Err (syntax_at end)
head_end end below all (t ∷ ts) =
    if is_sign CloseRound t then Ok (for_all all, ts)
    else (if is_sign Semicolon t then
    then_read (expr_to end Semicolon (expr_of end below) ts) (λ e us.
    then_read (args_closed_of end below us) (λ last vs. Ok (for_steps all e last, vs)))
    else Err (syntax_at t.at))

abbrev pub for_head_of : Place → Option Rules → List Token → Read Head
for_head_of end below ts = then_read (args_of end below (length ts) no_arguments ts) (head_end end below)

abbrev pub for_behind_of : Place → Option Rules → Place → List Token → Read Element
for_behind_of end below at ts =
    then_read (in_round_of end below (λ r us. r.for_head us) ts) (λ head us.
    then_read (elem_of end below us) (λ el vs. Ok (headed at head el, vs)))

-- the rules above those for one construct less
abbrev pub above : Place → Option Rules → Rules
above end below = record {
  expr = expr_of end below;
  operand = operand_of end below;
  links = links_of below;
  unary_rule = unary_of end below;
  posts = posts_of end below;
  indexed = λ at ts. deeper below at (λ r. expr_to end CloseSquare r.expr ts);
  brackets = λ at ts. elements_of end below (length ts) at no_elements ts;
  args_closed = args_closed_of end below;
  round_args = in_round_of end below (λ r us. r.args_closed us);
  round_expr = in_round_of end below (λ r us. expr_to end CloseRound r.expr us);
  elem = elem_of end below;
  for_head = for_head_of end below;
  for_behind = for_behind_of end below;
  else_end = else_of below;
}

-- the rules where so many constructs may open, in a text that ends at this place
abbrev pub rules : Place → ℕ → Rules
rules end zero = above end None
rules end (suc n) = above end (Some (rules end n))
