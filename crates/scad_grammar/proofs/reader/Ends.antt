-- Tokens go on behind a statement, a parameter or an argument as the move there does.
use Rattle.std.proofs.Common.{◌≡◌, ℕ, Bool, true, false, List, ◌∷◌, Option, Some, None, refl, subst}
use Rattle.scad_fault.specs.declared.place.Place.{Place}
use Rattle.scad_lex.specs.declared.token.Token.{Token}
use Rattle.scad_lex.specs.declared.token.TokenKind.{TokenKind}
use Rattle.scad_lex.specs.declared.token.TokenKind.TheVariants.{Number, Str, Word, Sign, Key}
use Rattle.scad_lex.specs.declared.token.Sign.TheVariants.{CloseRound, OpenCurly, CloseCurly, Semicolon, Comma, Star}
use Rattle.scad_lex.specs.declared.token.Sign.TheVariants.{Percent, Hash, Bang}
use Rattle.scad_lex.specs.declared.token.Key.TheVariants.{Module, Function, If, Else, For, Let, Echo, Assert, Include}
use Rattle.scad_lex.specs.declared.token.Key.TheVariants.{Use}
use Rattle.scad_ast.specs.Tree.{Expression, Items, no_items, Parameter, module_of, call_of, choice}
use Rattle.scad_grammar.specs.Tokens.{sign, key, word, word_of}
use Rattle.scad_grammar.specs.Lists.{with_item, with_statement, Marks, no_marks, starred, percented, hashed}
use Rattle.scad_grammar.specs.Grammar.{comma_param, last_param, no_params}
use Rattle.scad_grammar.specs.Statements.{Callee, call_word, call_for, call_let, call_echo, call_assert, nothing}
use Rattle.scad_grammar.specs.Statements.{a_group, inst, a_module, a_function, no_statement, statement, star_mark}
use Rattle.scad_grammar.specs.Statements.{percent_mark, hash_mark, a_call, a_choice, no_otherwise, otherwise}
use Rattle.scad_grammar.specs.Statements.{no_child, children, one_child}
use Rattle.scad_grammar.specs.Behind.{a_module as the_module, a_function as the_function, BehindItems, in_program}
use Rattle.scad_grammar.specs.Behind.{in_group, module_body, child_of, held_child, other_child, BehindParameters}
use Rattle.scad_grammar.specs.Behind.{defined, of_statement}
use Rattle.scad_grammar.specs.State.{have_items, want_marked, want_choice, want_arguments, want_defined}
use Rattle.scad_grammar.specs.State.{want_statement, have_start, want_child, want_assign, in_parameters}
use Rattle.scad_grammar.specs.State.{after_parameter}
use Rattle.scad_grammar.specs.Steps.{end_parameters, after_parameter_step}
use Rattle.scad_grammar.specs.StatementSteps.{callee, callee_kind, call_step, marked_step, first_step}
use Rattle.scad_grammar.specs.StatementSteps.{definition_step, start_step, statement_step, child_step, after_items}
use Rattle.scad_grammar.proofs.reader.Goes.{Goes, has_items, wants_marked, wants_choice, wants_arguments}
use Rattle.scad_grammar.proofs.reader.Goes.{wants_defined, wants_parameters, wants_statement, has_start, wants_child}
use Rattle.scad_grammar.proofs.reader.Goes.{wants_assign, is_in_parameters, is_after_parameter, ItemsGoes}
use Rattle.scad_grammar.proofs.reader.Goes.{goes_program, goes_group, goes_module, goes_child, goes_held, goes_other}
use Rattle.scad_grammar.proofs.reader.Goes.{ParametersGoes, goes_defined, goes_function, goes_choice, goes_statement}
use Rattle.scad_grammar.proofs.reader.Tests.{MoveGoes, by_sign, by_key, by_only, by_word}
use Rattle.std.proofs.lemmas.Option.{same_Some, none-some}

-- a call begins
callee_is : (kind : TokenKind) (at : Place) (w : List ℕ) → callee_kind kind ≡ Some w →
    let t : Token = record { kind = kind; at = at } in Callee t w
callee_is (Word found) at w h = subst (Callee (word found at)) (same_Some _ w h) call_word
callee_is (Key For) at w h = subst (Callee (key For at)) (same_Some _ w h) call_for
callee_is (Key Let) at w h = subst (Callee (key Let at)) (same_Some _ w h) call_let
callee_is (Key Echo) at w h = subst (Callee (key Echo at)) (same_Some _ w h) call_echo
callee_is (Key Assert) at w h = subst (Callee (key Assert at)) (same_Some _ w h) call_assert
callee_is (Key _) at w h = absurd (none-some _ h)
callee_is (Number z) at w h = absurd (none-some _ h)
callee_is (Str chars) at w h = absurd (none-some _ h)
callee_is (Sign s) at w h = absurd (none-some _ h)

from_star : {m : Marks} {a : Items} {k : BehindItems} {q : Place} {ts : List Token} {p : Items} →
    Goes (want_marked (starred m) a k) ts p → Goes (want_marked m a k) (sign Star q ∷ ts) p
from_star (wants_marked i g) = wants_marked (star_mark i) g

from_percent : {m : Marks} {a : Items} {k : BehindItems} {q : Place} {ts : List Token} {p : Items} →
    Goes (want_marked (percented m) a k) ts p → Goes (want_marked m a k) (sign Percent q ∷ ts) p
from_percent (wants_marked i g) = wants_marked (percent_mark i) g

from_hash : {m : Marks} {a : Items} {k : BehindItems} {q : Place} {ts : List Token} {p : Items} →
    Goes (want_marked (hashed m) a k) ts p → Goes (want_marked m a k) (sign Hash q ∷ ts) p
from_hash (wants_marked i g) = wants_marked (hash_mark i) g

from_choice : {m : Marks} {a : Items} {k : BehindItems} {q : Place} {ts : List Token} {p : Items} →
    Goes (want_choice q m a k) ts p → Goes (want_marked m a k) (key If q ∷ ts) p
from_choice (wants_choice e (goes_choice c o g)) = wants_marked (a_choice e c o) g

from_call : {m : Marks} {a : Items} {k : BehindItems} {t : Token} {w : List ℕ} {ts : List Token} {p : Items} →
    Callee t w →
    Goes (want_arguments (of_statement t.at m w a k)) ts p → Goes (want_marked m a k) (t ∷ ts) p
from_call n (wants_arguments d (goes_statement c g)) = wants_marked (a_call n d c) g

by_call : (t : Token) (m : Marks) (a : Items) (k : BehindItems) (ts : List Token) (p : Items) (o : Option (List ℕ)) →
    callee t ≡ o → MoveGoes (call_step t o m a k) ts p → Goes (want_marked m a k) (t ∷ ts) p
by_call t m a k ts p (Some w) h g = from_call (callee_is t.kind t.at w h) g
by_call t m a k ts p None h g = absurd g

pub by_marked : (t : Token) (m : Marks) (a : Items) (k : BehindItems) (ts : List Token) (p : Items) →
    MoveGoes (marked_step t m a k) ts p → Goes (want_marked m a k) (t ∷ ts) p
unfolding marked_step
by_marked t m a k ts p =
    let G = λ (u : Token). Goes (want_marked m a k) (u ∷ ts) p in
    by_sign Star t _ _ ts p G from_star (λ _.
    by_sign Percent t _ _ ts p G from_percent (λ _.
    by_sign Hash t _ _ ts p G from_hash (λ _.
    by_sign Bang t _ _ ts p G absurd (λ _.
    by_key If t _ _ ts p G from_choice (λ _.
    by_call t m a k ts p (callee t) refl)))))

by_first : (t : Token) (a : Items) (k : BehindItems) (ts : List Token) (p : Items) →
    MoveGoes (first_step t a k) ts p → Goes (want_marked no_marks a k) (t ∷ ts) p
unfolding first_step
by_first t a k ts p =
    let G = λ (u : Token). Goes (want_marked no_marks a k) (u ∷ ts) p in
    by_key Include t _ _ ts p G absurd (λ _. by_key Use t _ _ ts p G absurd (λ _. by_marked t no_marks a k ts p))

from_inst : {d : Bool} {a : Items} {k : BehindItems} {ts : List Token} {p : Items} →
    Goes (want_marked no_marks a k) ts p → Goes (want_statement d a k) ts p
from_inst (wants_marked i g) = wants_statement (inst i) g

from_module : {a : Items} {k : BehindItems} {q : Place} {ts : List Token} {p : Items} →
    Goes (want_defined the_module q a k) ts p → Goes (want_statement true a k) (key Module q ∷ ts) p
from_module (wants_defined (wants_parameters d (goes_defined s g))) = wants_statement (a_module d s) g

from_function : {a : Items} {k : BehindItems} {q : Place} {ts : List Token} {p : Items} →
    Goes (want_defined the_function q a k) ts p → Goes (want_statement true a k) (key Function q ∷ ts) p
from_function (wants_defined (wants_parameters d (goes_function e g))) = wants_statement (a_function d e) g

by_definition : (d : Bool) (t : Token) (a : Items) (k : BehindItems) (ts : List Token) (p : Items) →
    MoveGoes (definition_step d t a k) ts p → Goes (want_statement d a k) (t ∷ ts) p
unfolding definition_step
by_definition false t a k ts p m = from_inst (by_first t a k ts p m)
by_definition true t a k ts p m =
    let G = λ (u : Token). Goes (want_statement true a k) (u ∷ ts) p in
    by_key Module t _ _ ts p G from_module (λ _.
    by_key Function t _ _ ts p G from_function (λ _ n. from_inst (by_first t a k ts p n))) m

from_start : {d : Bool} {at : Place} {w : List ℕ} {a : Items} {k : BehindItems} {ts : List Token} {p : Items} →
    Goes (have_start d at w a k) ts p → Goes (want_statement d a k) (word w at ∷ ts) p
from_start (has_start g) = g

by_start : (d : Bool) (t : Token) (a : Items) (k : BehindItems) (ts : List Token) (p : Items) (o : Option (List ℕ)) →
    word_of t ≡ o → MoveGoes (start_step d t o a k) ts p → Goes (want_statement d a k) (t ∷ ts) p
by_start d t a k ts p (Some w) h m =
    by_word t w h (λ (u : Token). Goes (want_statement d a k) (u ∷ ts) p) (from_start m)
by_start d t a k ts p None h m = by_definition d t a k ts p m

from_nothing : {d : Bool} {a : Items} {k : BehindItems} {q : Place} {ts : List Token} {p : Items} →
    Goes (have_items a k) ts p → Goes (want_statement d a k) (sign Semicolon q ∷ ts) p
from_nothing (has_items g) = wants_statement nothing g

from_group : {d : Bool} {a : Items} {k : BehindItems} {q : Place} {ts : List Token} {p : Items} →
    Goes (have_items a (in_group d k)) ts p → Goes (want_statement d a k) (sign OpenCurly q ∷ ts) p
from_group (has_items (goes_group s g)) = wants_statement (a_group s) g

pub by_statement : (d : Bool) (t : Token) (a : Items) (k : BehindItems) (ts : List Token) (p : Items) →
    MoveGoes (statement_step d t a k) ts p → Goes (want_statement d a k) (t ∷ ts) p
unfolding statement_step
by_statement d t a k ts p =
    let G = λ (u : Token). Goes (want_statement d a k) (u ∷ ts) p in
    by_sign Semicolon t _ _ ts p G from_nothing (λ _.
    by_sign OpenCurly t _ _ ts p G from_group (λ _.
    by_start d t a k ts p (word_of t) refl))

from_no_child : {k : BehindItems} {q : Place} {ts : List Token} {p : Items} →
    Goes (have_items no_items k) ts p → Goes (want_child k) (sign Semicolon q ∷ ts) p
from_no_child (has_items g) = wants_child no_child g

from_children : {k : BehindItems} {q : Place} {ts : List Token} {p : Items} →
    Goes (have_items no_items (in_group false k)) ts p → Goes (want_child k) (sign OpenCurly q ∷ ts) p
from_children (has_items (goes_group s g)) = wants_child (children s) g

from_one : {k : BehindItems} {ts : List Token} {p : Items} →
    Goes (want_marked no_marks no_items k) ts p → Goes (want_child k) ts p
from_one (wants_marked i g) = wants_child (one_child i) g

pub by_child : (t : Token) (k : BehindItems) (ts : List Token) (p : Items) →
    MoveGoes (child_step t k) ts p → Goes (want_child k) (t ∷ ts) p
unfolding child_step
by_child t k ts p =
    let G = λ (u : Token). Goes (want_child k) (u ∷ ts) p in
    by_sign Semicolon t _ _ ts p G from_no_child (λ _.
    by_sign OpenCurly t _ _ ts p G from_children (λ _ m. from_one (by_first t no_items k ts p m)))

into_program : {a : Items} {ts : List Token} {p : Items} → Goes (want_statement true a in_program) ts p →
    ItemsGoes a in_program ts p
into_program (wants_statement s (goes_program l)) = goes_program (statement s l)

into_group : {d : Bool} {a : Items} {k : BehindItems} {ts : List Token} {p : Items} →
    Goes (want_statement d a (in_group d k)) ts p → ItemsGoes a (in_group d k) ts p
into_group (wants_statement s (goes_group l g)) = goes_group (statement s l) g

from_end : {d : Bool} {a : Items} {k : BehindItems} {q : Place} {ts : List Token} {p : Items} →
    Goes (have_items a k) ts p → ItemsGoes a (in_group d k) (sign CloseCurly q ∷ ts) p
from_end (has_items g) = goes_group no_statement g

from_else : {at q : Place} {m : Marks} {e : Expression} {a outer : Items} {k : BehindItems} {ts : List Token}
    {p : Items} →
    Goes (want_child (other_child at m e a outer k)) ts p →
    ItemsGoes a (held_child at m e outer k) (key Else q ∷ ts) p
from_else (wants_child c (goes_other g)) = goes_held (otherwise c) g

pub by_items : (a : Items) (k : BehindItems) (t : Token) (ts : List Token) (p : Items) →
    MoveGoes (after_items a k t) ts p → ItemsGoes a k (t ∷ ts) p
unfolding after_items
by_items a in_program t ts p m = into_program (by_statement true t a in_program ts p m)
by_items a (in_group d k) t ts p m =
    by_sign CloseCurly t _ _ ts p (λ (u : Token). ItemsGoes a (in_group d k) (u ∷ ts) p) from_end
    (λ _ n. into_group (by_statement d t a (in_group d k) ts p n)) m
by_items a (module_body at w all outer k) t ts p m =
    goes_module (by_items (with_item outer (module_of at w all a)) k t ts p m)
by_items a (child_of at n w all outer k) t ts p m =
    goes_child (by_items (with_statement n outer (call_of at n.percent n.hash w all a)) k t ts p m)
by_items a (held_child at n e outer k) t ts p m =
    by_key Else t _ _ ts p (λ (u : Token). ItemsGoes a (held_child at n e outer k) (u ∷ ts) p) from_else
    (λ h x. goes_held (no_otherwise h)
    (by_items (with_statement n outer (choice at n.percent n.hash e a no_items)) k t ts p x)) m
by_items a (other_child at n e held outer k) t ts p m =
    goes_other (by_items (with_statement n outer (choice at n.percent n.hash e held a)) k t ts p m)

-- parameters
from_module_body : {at q : Place} {w : List ℕ} {all : List Parameter} {a : Items} {k : BehindItems}
    {ts : List Token} {p : Items} →
    Goes (want_statement true no_items (module_body at w all a k)) ts p →
    ParametersGoes all (defined the_module at w a k) (sign CloseRound q ∷ ts) p
from_module_body (wants_statement s (goes_module g)) = goes_defined s g

from_assign : {at q : Place} {w : List ℕ} {all : List Parameter} {a : Items} {k : BehindItems} {ts : List Token}
    {p : Items} →
    Goes (want_assign at w all a k) ts p →
    ParametersGoes all (defined the_function at w a k) (sign CloseRound q ∷ ts) p
from_assign (wants_assign e g) = goes_function e g

pub by_end_parameters : (all : List Parameter) (k : BehindParameters) (t : Token) (ts : List Token) (p : Items) →
    MoveGoes (end_parameters all k t) ts p → ParametersGoes all k (t ∷ ts) p
unfolding end_parameters
by_end_parameters all (defined the_module at w a k) t ts p =
    by_only CloseRound t _ ts p (λ (u : Token). ParametersGoes all (defined the_module at w a k) (u ∷ ts) p)
    from_module_body
by_end_parameters all (defined the_function at w a k) t ts p =
    by_only CloseRound t _ ts p (λ (u : Token). ParametersGoes all (defined the_function at w a k) (u ∷ ts) p)
    from_assign

pub into_parameters : {all : List Parameter} {k : BehindParameters} {ts : List Token} {p : Items} →
    ParametersGoes all k ts p → Goes (in_parameters all k) ts p
into_parameters (goes_defined s g) = is_in_parameters no_params (goes_defined s g)
into_parameters (goes_function e g) = is_in_parameters no_params (goes_function e g)

into_last : {all : List Parameter} {k : BehindParameters} {ts : List Token} {p : Items} →
    ParametersGoes all k ts p → Goes (after_parameter all k) ts p
into_last (goes_defined s g) = is_after_parameter last_param (goes_defined s g)
into_last (goes_function e g) = is_after_parameter last_param (goes_function e g)

from_comma : {all : List Parameter} {k : BehindParameters} {q : Place} {ts : List Token} {p : Items} →
    Goes (in_parameters all k) ts p → Goes (after_parameter all k) (sign Comma q ∷ ts) p
from_comma (is_in_parameters d g) = is_after_parameter (comma_param d) g

pub by_parameter : (all : List Parameter) (k : BehindParameters) (t : Token) (ts : List Token) (p : Items) →
    MoveGoes (after_parameter_step all k t) ts p → Goes (after_parameter all k) (t ∷ ts) p
unfolding after_parameter_step
by_parameter all k t ts p =
    by_sign Comma t _ _ ts p (λ (u : Token). Goes (after_parameter all k) (u ∷ ts) p) from_comma
    (λ _ m. into_last (by_end_parameters all k t ts p m))
