-- What the answers of the descent say where it reads statements and definitions.
use Rattle.std.specs.Prelude.{ℕ, zero, suc, Bool, true, List, [], ◌∷◌, Option, Some, None, Ok, Err, option_map, map}
use Rattle.std.specs.Prelude.{if◌then◌else◌, codes}
use Rattle.std.specs.Global.{Vec}
use Rattle.scad_fault.specs.declared.place.Place.{Place}
use Rattle.scad_lex.specs.declared.token.Token.{Token}
use Rattle.scad_lex.specs.declared.token.Sign.TheVariants.{Star, Percent, Hash, Bang, Assign}
use Rattle.scad_lex.specs.declared.token.Key.TheVariants.{If, Else}
use Rattle.scad_ast.specs.Tree.{Expression, Parameter, Items, no_items}
use Rattle.scad_ast.specs.View.{expression_of}
use Rattle.scad_ast.specs.Scope.{items, parameter}
use Rattle.scad_ast.specs.declared.expression.Expr.{Expr}
use Rattle.scad_ast.specs.declared.statement.Item.{Item}
use Rattle.scad_ast.specs.declared.statement.Param.{Param}
use Rattle.scad_parse.specs.declared.definition.Signature.{Signature}
use Rattle.scad_parse.specs.declared.mark.Marked.{Marked}
use Rattle.scad_grammar.specs.Tokens.{is_sign, is_key, word_of, begins_with}
use Rattle.scad_grammar.specs.Lists.{Marks, no_marks, starred, percented, hashed}
use Rattle.scad_grammar.specs.StatementSteps.{callee}
use Rattle.scad_grammar.specs.Machine.{syntax_at, left_out_at}
use Rattle.scad_grammar.specs.Rules.{Read, then_read, deeper, Rules, expr_of}
use Rattle.scad_grammar.specs.StatementRules.{StatementRules, above_statements, heading_of, choice_behind_of, call_by}
use Rattle.scad_grammar.specs.StatementRules.{child_of, first_of, definition_of}
use Rattle.scad_parse.specs.Reading.{rules_at}
use Rattle.scad_parse.specs.Standing.{word_here, word_by}

-- the rules of statements for one construct less than these, where one may open
unfoldable pub below_statements : Place → ℕ → Option StatementRules
below_statements end zero = None
below_statements end (suc room) = Some (above_statements end (rules_at end room) (below_statements end room))

-- the rules of statements where so many more constructs may open
abbrev pub statement_rules_at : Place → ℕ → StatementRules
statement_rules_at end room = above_statements end (rules_at end room) (below_statements end room)

-- a scope, and parameters, as they are seen
abbrev pub scope_seen : Vec Item → Items
scope_seen all = items all.items

abbrev pub parameters_seen : Vec Param → List Parameter
parameters_seen all = map parameter all.items

abbrev pub default_seen : Option Expr → Option Expression
default_seen e = option_map expression_of e

abbrev pub heading_seen : Signature → List ℕ × List Parameter
heading_seen h = (h.name, parameters_seen h.params)

-- the marks that stand before a statement
abbrev pub marks_of : Marked → Marks
marks_of m = record { star = m.star; percent = m.percent; hash = m.hash }

-- where a statement begins with this token
unfoldable pub first_at : Place → Option StatementRules → Items → List Token → Read Items
first_at end lower all [] = Err (syntax_at end)
first_at end lower all (t ∷ ts) = first_of lower t all ts

unfoldable pub definition_at : Place → Option StatementRules → Items → List Token → Read Items
definition_at end lower all [] = Err (syntax_at end)
definition_at end lower all (t ∷ ts) = definition_of true lower t all ts

-- where a statement begins with a word
abbrev pub word_at : Place → Option StatementRules → Items → List Token → Read Items
word_at end lower all ts =
    then_read (word_here end ts) (λ w us. deeper lower w.0 (λ r. r.word_behind w.0 w.1 all us))

-- the name that is called, which is to come
abbrev pub callee_here : Place → List Token → Read (Place × List ℕ)
callee_here end [] = Err (syntax_at end)
callee_here end (t ∷ ts) = word_by t ts (callee t)

-- where a statement begins with a call
abbrev pub call_at : Place → Option StatementRules → Items → List Token → Read Items
call_at end lower all ts =
    then_read (callee_here end ts) (λ w us. deeper lower w.0 (λ r. r.call_behind w.0 no_marks w.1 all us))

-- the marks that come, with those so far
unfoldable pub marks_here : Marks → List Token → Read Marks
marks_here m [] = Ok (m, [])
marks_here m (t ∷ ts) = if is_sign Star t then marks_here (starred m) ts
    else (if is_sign Percent t then marks_here (percented m) ts
    else (if is_sign Hash t then marks_here (hashed m) ts else Ok (m, t ∷ ts)))

-- the tokens begin with a mark
abbrev pub begins_with_mark : List Token → Bool
begins_with_mark ts = if begins_with Star ts then true
    else (if begins_with Percent ts then true else begins_with Hash ts)

-- the marks and the one with which the tokens begin
abbrev pub with_first_mark : Marks → List Token → Marks
with_first_mark m ts = if begins_with Star ts then starred m
    else (if begins_with Percent ts then percented m else hashed m)

-- behind the last mark
unfoldable pub unmarked_of : Place → Rules → Option StatementRules → Marks → Items → List Token → Read Items
unmarked_of end same lower m all [] = Err (syntax_at end)
unmarked_of end same lower m all (t ∷ ts) =
    if is_sign Bang t then Err (left_out_at t.at (codes "!"))
    else (if is_key If t then choice_behind_of end same lower t.at m all ts
    else call_by end same lower t (callee t) m all ts)

-- ["else" child]
unfoldable pub other_of : Place → Option StatementRules → List Token → Read Items
other_of end lower [] = Ok (no_items, [])
other_of end lower (t ∷ ts) = if is_key Else t then child_of end lower ts else Ok (no_items, t ∷ ts)

-- WORD "(" params ")"
unfoldable pub heading_read : Place → Option StatementRules → List Token → Read (List ℕ × List Parameter)
heading_read end lower ts = heading_of end lower (λ w params us. Ok ((w, params), us)) ts

-- ["=" expr]
unfoldable pub default_of : Place → Option Rules → List Token → Read (Option Expression)
default_of end lower [] = Ok (None, [])
default_of end lower (t ∷ ts) =
    if is_sign Assign t then then_read (expr_of end lower ts) (λ e us. Ok (Some e, us)) else Ok (None, t ∷ ts)

abbrev pub parameter_by : Place → Option Rules → Place → Option (List ℕ) → List Token → Read Parameter
parameter_by end lower at None ts = Err (syntax_at at)
parameter_by end lower at (Some w) ts =
    then_read (default_of end lower ts) (λ d us. Ok (record { name = w; default = d }, us))

-- WORD ["=" expr]
unfoldable pub parameter_of : Place → Option Rules → List Token → Read Parameter
parameter_of end lower [] = Err (syntax_at end)
parameter_of end lower (t ∷ ts) = parameter_by end lower t.at (word_of t) ts
