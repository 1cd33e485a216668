-- The rules of statements and of a whole program as a descent reads them.
use Rattle.std.specs.Prelude.{ℕ, zero, suc, Bool, true, false, List, [], ◌∷◌, Option, Some, None, Result, Ok, Err}
use Rattle.std.specs.Prelude.{length, if◌then◌else◌, codes}
use Rattle.scad_fault.specs.declared.place.Place.{Place}
use Rattle.scad_lex.specs.declared.token.Token.{Token}
use Rattle.scad_lex.specs.declared.token.Sign.TheVariants.{CloseRound, OpenCurly, CloseCurly, Semicolon, Comma}
use Rattle.scad_lex.specs.declared.token.Sign.TheVariants.{Assign, Star, Percent, Hash, Bang}
use Rattle.scad_lex.specs.declared.token.Key.TheVariants.{Module, Function, If, Else, Include, Use}
use Rattle.scad_ast.specs.Tree.{Expression, Parameter, Items, no_items, assignment, module_of, function_of, call_of}
use Rattle.scad_ast.specs.Tree.{choice}
use Rattle.scad_grammar.specs.Tokens.{is_sign, is_key, word_of}
use Rattle.scad_grammar.specs.Lists.{with_parameter, with_item, with_statement, Marks, no_marks, starred, percented}
use Rattle.scad_grammar.specs.Lists.{hashed}
use Rattle.scad_grammar.specs.StatementSteps.{callee}
use Rattle.scad_grammar.specs.Machine.{Refusal, syntax_at, left_out_at, most_open}
use Rattle.scad_grammar.specs.Rules.{Read, then_read, behind_sign, Rules, deeper, expr_to, in_round_of, rules}

-- the rules of statements, where so many more constructs may open; what is read joins the scope's items so far
pub record StatementRules : Type 0 where
  pub statement : Bool → Items → List Token → Read Items
  -- statements of a group, and "}"
  pub group : Bool → Items → List Token → Read Items
  -- behind a WORD that begins a statement, which stands there
  pub word_behind : Place → List ℕ → Items → List Token → Read Items
  -- mark* (call child | "if" "(" expr ")" child ["else" child]) behind the marks so far
  pub marked : Marks → Items → List Token → Read Items
  -- "(" args ")" child behind the name of a call, which stands there
  pub call_behind : Place → Marks → List ℕ → Items → List Token → Read Items
  -- "(" expr ")" child ["else" child] behind an `if`, which stands there
  pub choice_behind : Place → Marks → Items → List Token → Read Items
  -- behind `module` and `function`, which stand there
  pub module_behind : Place → Items → List Token → Read Items
  pub function_behind : Place → Items → List Token → Read Items
  -- params ")"
  pub params_closed : List Token → Read (List Parameter)

-- ---- parameters
abbrev pub more_params : Place → (List Token → Read (List Parameter)) → List Parameter → List Token →
    Read (List Parameter)
more_params end go_on all [] = Err (syntax_at end)
more_params end go_on all (t ∷ ts) =
    if is_sign Comma t then go_on ts else (if is_sign CloseRound t then Ok (all, ts) else Err (syntax_at t.at))

-- ["=" expr] behind a parameter's WORD
abbrev pub param_of : Place → Rules → (Option Expression → List Token → Read (List Parameter)) → List Token →
    Read (List Parameter)
param_of end same f [] = Err (syntax_at end)
param_of end same f (t ∷ ts) =
    if is_sign Assign t then then_read (same.expr ts) (λ e us. f (Some e) us) else f None (t ∷ ts)

abbrev pub param_by : Place → Rules → Place → Option (List ℕ) →
    (List ℕ → Option Expression → List Token → Read (List Parameter)) →
    List Token → Read (List Parameter)
param_by end same at (Some w) f ts = param_of end same (f w) ts
param_by end same at None f ts = Err (syntax_at at)

-- params = list of WORD ["=" expr], and ")"
unfoldable pub params_of : Place → Rules → ℕ → List Parameter → List Token → Read (List Parameter)
params_of end same left all [] = Err (syntax_at end)
params_of end same zero all (t ∷ ts) = if is_sign CloseRound t then Ok (all, ts) else Err (syntax_at t.at)
params_of end same (suc left) all (t ∷ ts) =
    if is_sign CloseRound t then Ok (all, ts)
    else param_by end same t.at (word_of t) (λ w d us.
    more_params end (params_of end same left (with_parameter all w d)) (with_parameter all w d) us) ts

-- ---- calls and `if`
-- where a mark, a call or an `if` begins a statement
abbrev pub call_first : Option StatementRules → Token → Option (List ℕ) → Items → List Token → Read Items
call_first below t (Some w) all ts = deeper below t.at (λ r. r.call_behind t.at no_marks w all ts)
call_first below t None all ts = Err (syntax_at t.at)

unfoldable pub marked_first : Option StatementRules → Token → Items → List Token → Read Items
marked_first below t all ts =
    if is_sign Star t then deeper below t.at (λ r. r.marked (starred no_marks) all ts)
    else (if is_sign Percent t then deeper below t.at (λ r. r.marked (percented no_marks) all ts)
    else (if is_sign Hash t then deeper below t.at (λ r. r.marked (hashed no_marks) all ts)
    else (if is_sign Bang t then Err (left_out_at t.at (codes "!"))
    else (if is_key If t then deeper below t.at (λ r. r.choice_behind t.at no_marks all ts)
    else call_first below t (callee t) all ts))))

unfoldable pub first_of : Option StatementRules → Token → Items → List Token → Read Items
first_of below t all ts =
    if is_key Include t then Err (left_out_at t.at (codes "include"))
    else (if is_key Use t then Err (left_out_at t.at (codes "use"))
    else marked_first below t all ts)

-- child = ";" | "{" body* "}" | inst
unfoldable pub child_of : Place → Option StatementRules → List Token → Read Items
child_of end below [] = Err (syntax_at end)
child_of end below (t ∷ ts) =
    if is_sign Semicolon t then Ok (no_items, ts)
    else (if is_sign OpenCurly t then deeper below t.at (λ r. r.group false no_items ts)
    else first_of below t no_items ts)

abbrev pub call_behind_of : Place → Rules → Option StatementRules → Place → Marks → List ℕ → Items → List Token →
    Read Items
call_behind_of end same below at m w all ts =
    then_read (same.round_args ts) (λ args us. then_read (child_of end below us) (λ c vs.
    Ok (with_statement m all (call_of at m.percent m.hash w args c), vs)))

-- ["else" child]
abbrev pub otherwise_of : Place → Option StatementRules → Place → Marks → Expression → Items → Items → List Token →
    Read Items
otherwise_of end below at m e all held [] = Ok (with_statement m all (choice at m.percent m.hash e held no_items), [])
otherwise_of end below at m e all held (t ∷ ts) =
    if is_key Else t then
    then_read (child_of end below ts)
    (λ other us. Ok (with_statement m all (choice at m.percent m.hash e held other), us))
    else Ok (with_statement m all (choice at m.percent m.hash e held no_items), t ∷ ts)

abbrev pub choice_behind_of : Place → Rules → Option StatementRules → Place → Marks → Items → List Token → Read Items
choice_behind_of end same below at m all ts =
    then_read (same.round_expr ts) (λ e us. then_read (child_of end below us) (otherwise_of end below at m e all))

abbrev pub call_by : Place → Rules → Option StatementRules → Token → Option (List ℕ) → Marks → Items → List Token →
    Read Items
call_by end same below t (Some w) m all ts = call_behind_of end same below t.at m w all ts
call_by end same below t None m all ts = Err (syntax_at t.at)

unfoldable pub marked_of : Place → Rules → Option StatementRules → Marks → Items → List Token → Read Items
marked_of end same below m all [] = Err (syntax_at end)
marked_of end same below m all (t ∷ ts) =
    if is_sign Star t then marked_of end same below (starred m) all ts
    else (if is_sign Percent t then marked_of end same below (percented m) all ts
    else (if is_sign Hash t then marked_of end same below (hashed m) all ts
    else (if is_sign Bang t then Err (left_out_at t.at (codes "!"))
    else (if is_key If t then choice_behind_of end same below t.at m all ts
    else call_by end same below t (callee t) m all ts))))

-- ---- statements
-- assign = WORD "=" expr ";", or a call
abbrev pub word_behind_of : Place → Rules → Option StatementRules → Place → List ℕ → Items → List Token → Read Items
word_behind_of end same below at w all [] = Err (syntax_at end)
word_behind_of end same below at w all (t ∷ ts) =
    if is_sign Assign t then
    then_read (expr_to end Semicolon same.expr ts) (λ e us. Ok (with_item all (assignment at w e), us))
    else call_behind_of end same below at no_marks w all (t ∷ ts)

unfoldable pub definition_of : Bool → Option StatementRules → Token → Items → List Token → Read Items
definition_of false below t all ts = first_of below t all ts
definition_of true below t all ts =
    if is_key Module t then deeper below t.at (λ r. r.module_behind t.at all ts)
    else (if is_key Function t then deeper below t.at (λ r. r.function_behind t.at all ts)
    else first_of below t all ts)

abbrev pub start_of : Bool → Option StatementRules → Token → Option (List ℕ) → Items → List Token → Read Items
start_of d below t (Some w) all ts = deeper below t.at (λ r. r.word_behind t.at w all ts)
start_of d below t None all ts = definition_of d below t all ts

-- stmt = ";" | "{" stmt* "}" | assign | module | function | inst
unfoldable pub statement_of : Place → Option StatementRules → Bool → Items → List Token → Read Items
statement_of end below d all [] = Err (syntax_at end)
statement_of end below d all (t ∷ ts) =
    if is_sign Semicolon t then Ok (all, ts)
    else (if is_sign OpenCurly t then deeper below t.at (λ r. r.group d all ts)
    else start_of d below t (word_of t) all ts)

unfoldable pub group_of : Place → Option StatementRules → ℕ → Bool → Items → List Token → Read Items
group_of end below left d all [] = Err (syntax_at end)
group_of end below zero d all (t ∷ ts) = if is_sign CloseCurly t then Ok (all, ts) else Err (syntax_at t.at)
group_of end below (suc left) d all (t ∷ ts) =
    if is_sign CloseCurly t then Ok (all, ts)
    else then_read (statement_of end below d all (t ∷ ts)) (group_of end below left d)

-- WORD "(" params ")" of a definition, and what stands behind it
abbrev pub heading_by : {A : Type 0} → Place → Option StatementRules → Place → Option (List ℕ) →
    (List ℕ → List Parameter → List Token → Read A) → List Token → Read A
heading_by end below at (Some w) f ts = then_read (in_round_of end below (λ r us. r.params_closed us) ts) (f w)
heading_by end below at None f ts = Err (syntax_at at)

abbrev pub heading_of : {A : Type 0} → Place → Option StatementRules →
    (List ℕ → List Parameter → List Token → Read A) →
    List Token → Read A
heading_of end below f [] = Err (syntax_at end)
heading_of end below f (t ∷ ts) = heading_by end below t.at (word_of t) f ts

abbrev pub above_statements : Place → Rules → Option StatementRules → StatementRules
above_statements end same below = record {
  statement = statement_of end below;
  group = λ d all ts. group_of end below (length ts) d all ts;
  word_behind = word_behind_of end same below;
  marked = marked_of end same below;
  call_behind = call_behind_of end same below;
  choice_behind = choice_behind_of end same below;
  module_behind = λ at all ts. heading_of end below (λ w params us.
      then_read (statement_of end below true no_items us)
      (λ body vs. Ok (with_item all (module_of at w params body), vs))) ts;
  function_behind = λ at all ts. heading_of end below (λ w params us.
      behind_sign end Assign us (λ vs.
      then_read (expr_to end Semicolon same.expr vs)
      (λ e ws. Ok (with_item all (function_of at w params e), ws)))) ts;
  params_closed = λ ts. params_of end same (length ts) [] ts;
}

abbrev pub statement_rules : Place → ℕ → StatementRules
statement_rules end zero = above_statements end (rules end zero) None
statement_rules end (suc n) = above_statements end (rules end (suc n)) (Some (statement_rules end n))

-- program = stmt*
unfoldable pub program_from : Place → ℕ → Items → List Token → Result Items Refusal
program_from end left all [] = Ok all
program_from end zero all (t ∷ ts) = Err (syntax_at t.at)
program_from end (suc left) all (t ∷ ts) =
    elim ((statement_rules end most_open).statement true all (t ∷ ts))
    [ Ok r ↦ program_from end left r.0 r.1 | Err fault ↦ Err fault ]

-- the program that tokens are, or their first fault, as a descent reads them
abbrev pub descent : List Token → Place → Result Items Refusal
descent ts end = program_from end (length ts) no_items ts
