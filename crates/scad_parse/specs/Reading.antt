-- What the answers of the descent say: what a rule of the grammar gives, where so many more constructs may open.
use Rattle.std.specs.Prelude.{ℕ, zero, suc, Bool, false, List, [], ◌∷◌, Option, Some, None, Ok, Err}
use Rattle.std.specs.Prelude.{if◌then◌else◌, is_some}
use Rattle.std.specs.Global.{Vec}
use Rattle.scad_fault.specs.declared.place.Place.{Place}
use Rattle.scad_lex.specs.declared.token.Token.{Token}
use Rattle.scad_lex.specs.declared.token.TokenKind.{TokenKind}
use Rattle.scad_lex.specs.declared.token.TokenKind.TheVariants.{Sign}
use Rattle.scad_lex.specs.declared.token.Sign.TheVariants.{Comma}
use Rattle.scad_ast.specs.Tree.{Expression, Arguments, Elements, Element, unary}
use Rattle.scad_ast.specs.declared.operator.UnOp.{UnOp}
use Rattle.scad_ast.specs.View.{expression_of, arguments}
use Rattle.scad_ast.specs.declared.expression.Arg.{Arg}
use Rattle.scad_parse.specs.declared.fault.ParseFault.{ParseFault}
use Rattle.scad_parse.specs.declared.fault.ParseFault.TheVariants.{Memory, Syntax, Nesting, LeftOut}
use Rattle.scad_parse.specs.declared.node.Binder.{Binder}
use Rattle.scad_parse.specs.declared.node.Binder.TheVariants.{Let, Assert, Echo}
use Rattle.scad_grammar.specs.Behind.{Keyed, letting, asserting, echoing, keyed_tree}
use Rattle.scad_grammar.specs.Tokens.{word_of, is_sign, operator_sign}
use Rattle.scad_grammar.specs.Grammar.{begins_named}
use Rattle.scad_grammar.specs.Machine.{Refusal, syntax_at, nesting_at, left_out_at}
use Rattle.scad_grammar.specs.Rules.{Read, then_read, Rules, above, expr_of, prim_of, word_rule, range_by, in_round_of}
use Rattle.scad_grammar.specs.Rules.{links_of}
use Rattle.scad_grammar.specs.Rules.{Head}
use Rattle.scad_grammar.specs.Steps.{range_start}

-- the place of the first token, or that behind the text
abbrev pub place_of : Place → List Token → Place
place_of end [] = end
place_of end (t ∷ ts) = t.at

-- what stands behind the first token
abbrev pub behind : List Token → List Token
behind [] = []
behind (t ∷ ts) = ts

abbrev pub first_word : List Token → Option (List ℕ)
first_word [] = None
first_word (t ∷ ts) = word_of t

abbrev pub keyed : Binder → Keyed
keyed Let = letting
keyed Assert = asserting
keyed Echo = echoing

-- the refusal that a fault is; no rule is answered by want of memory
abbrev pub refusal : ParseFault → Refusal
refusal Memory = syntax_at (record { line = 0; col = 0 })
refusal (Syntax at) = syntax_at at
refusal (Nesting at) = nesting_at at
refusal (LeftOut at name) = left_out_at at name

-- the rules for one construct less than these, where one may open
unfoldable pub below : Place → ℕ → Option Rules
below end zero = None
below end (suc room) = Some (above end (below end room))

-- the rules where so many more constructs may open
abbrev pub rules_at : Place → ℕ → Rules
rules_at end room = above end (below end room)

-- [WORD "="] before an argument
abbrev pub name_before : List Token → Read (Option (List ℕ))
name_before ts = if begins_named ts then Ok (first_word ts, behind (behind ts)) else Ok (None, ts)

-- [WORD "="] expr
unfoldable pub argument_of : Place → Option Rules → List Token → Read (Option (List ℕ) × Expression)
argument_of end lower ts =
    if begins_named ts then then_read (expr_of end lower (behind (behind ts))) (λ e us. Ok ((first_word ts, e), us))
    else then_read (expr_of end lower ts) (λ e us. Ok ((None, e), us))

-- "(" args ")" expr behind "let", "assert" or "echo"
abbrev pub bound_by : Keyed → Place → Rules → List Token → Read Expression
bound_by what at r ts = then_read (r.round_args ts)
    (λ all us. then_read (r.expr us) (λ e vs. Ok (keyed_tree what at all e, vs)))

-- an operand behind a prefix operator
abbrev pub prefixed_by : UnOp → Place → Rules → List Token → Read Expression
prefixed_by op at r ts = then_read (r.unary_rule ts) (λ e us. Ok (unary at op e, us))

-- the token is an operator of some line
abbrev pub is_operator_kind : TokenKind → Bool
is_operator_kind (Sign s) = is_some (operator_sign s)
is_operator_kind _ = false

abbrev pub is_operator : Token → Bool
is_operator t = is_operator_kind t.kind

-- (operator operand)* of the so many tightest lines one after the other, behind the first operand
unfoldable pub chain_of : Option Rules → ℕ → Expression → List Token → Read Expression
chain_of lower zero a ts = Ok (a, ts)
chain_of lower (suc line) a ts = then_read (chain_of lower line a ts) (links_of lower line)

-- the rules of an operand without operators, of which no token is given apart
unfoldable pub prim_at : Place → Option Rules → List Token → Read Expression
prim_at end lower [] = Err (syntax_at end)
prim_at end lower (t ∷ ts) = prim_of end lower t ts

unfoldable pub name_at : Place → Option Rules → List Token → Read Expression
name_at end lower [] = Err (syntax_at end)
name_at end lower (t ∷ ts) = word_rule lower t (word_of t) ts

-- a range, before its first `:`
abbrev pub range_at : Place → Option Rules → Place → Elements → Element → List Token → Read Expression
range_at end lower at all first ts = range_by end lower at (place_of end ts) (range_start all first) (behind ts)

-- the head of a `for` among elements
abbrev pub round_head_of : Place → Option Rules → List Token → Read Head
round_head_of end lower ts = in_round_of end lower (λ r us. r.for_head us) ts

-- `,` behind a member of a list, or the end of the list, which stays
abbrev pub comma_or : {A : Type 0} → (Token → Bool) → Place → A → List Token → Read A
comma_or ends end a [] = Err (syntax_at end)
comma_or ends end a (t ∷ ts) =
    if is_sign Comma t then Ok (a, ts) else (if ends t then Ok (a, t ∷ ts) else Err (syntax_at t.at))

-- an argument as it is seen
abbrev pub argument_seen : Arg → Option (List ℕ) × Expression
argument_seen a = (a.name, expression_of a.value)

abbrev pub arguments_seen : Vec Arg → Arguments
arguments_seen all = arguments all.items

-- where nothing but the tokens behind is given
abbrev pub no_value : Unit {0}
no_value = tt
