-- The rules of expressions, step by step as the descent takes them.
use Rattle.std.proofs.Common.{◌≡◌, ℕ, zero, suc, Bool, true, false, List, [], ◌∷◌, Option, Some, None, Ok, Err, refl}
use Rattle.std.proofs.Common.{sym, ap, subst, ◌∙◌, ◌-◌, arith}
use Rattle.std.specs.Prelude.{if◌then◌else◌, codes, is_some, ◌≢◌}
use Rattle.scad_fault.specs.declared.place.Place.{Place}
use Rattle.scad_lex.specs.declared.token.Token.{Token}
use Rattle.scad_lex.specs.declared.token.TokenKind.{TokenKind}
use Rattle.scad_lex.specs.declared.token.TokenKind.TheVariants.{Number as NumberKind, Str as StrKind, Word as WordKind}
use Rattle.scad_lex.specs.declared.token.TokenKind.TheVariants.{Sign as SignKind, Key as KeyKind}
use Rattle.scad_lex.specs.declared.token.Sign.TheVariants.{OpenRound, OpenSquare, CloseRound, CloseSquare, Question}
use Rattle.scad_lex.specs.declared.token.Sign.TheVariants.{Colon, Bang, Plus, Minus, Dot, Caret, Semicolon}
use Rattle.scad_lex.specs.declared.token.Key.TheVariants.{Function, If, Else, For, Let, Assert, Echo, Each}
use Rattle.scad_ast.specs.declared.operator.UnOp.TheVariants.{Not, Plus as UnaryPlus, Minus as UnaryMinus}
use Rattle.scad_ast.specs.declared.operator.BinOp.{BinOp}
use Rattle.scad_ast.specs.Tree.{Expression, name, call, choose, index, member, range, stepped, binary, Element, item}
use Rattle.scad_ast.specs.Tree.{each, Elements, if_element, if_else, Arguments}
use Rattle.scad_grammar.specs.Tokens.{is_sign, is_key, word_of, operator, operator_kind, operator_sign, on_line}
use Rattle.scad_grammar.specs.Lists.{let_of}
use Rattle.scad_grammar.specs.Behind.{letting, asserting, echoing}
use Rattle.scad_grammar.specs.Steps.{literal, range_start}
use Rattle.scad_grammar.specs.Grammar.{begins_named}
use Rattle.scad_grammar.specs.Machine.{syntax_at, left_out_at}
use Rattle.scad_grammar.specs.Rules.{Read, Rules, then_read, behind_sign, deeper, expr_of, operand_of, unary_of}
use Rattle.scad_grammar.specs.Rules.{prim_of, posts_of, links_of, link_of, choice_of, expr_to, word_rule, call_or_name}
use Rattle.scad_grammar.specs.Rules.{literal_rule, member_by, member_of, elem_of, else_of, range_by, range_end}
use Rattle.scad_grammar.specs.Rules.{head_end, Head, for_all, for_steps, args_closed_of}
use Rattle.scad_parse.specs.declared.fault.Form.TheVariants.{Function as FunctionForm, Power}
use Rattle.scad_parse.specs.Reading.{below, rules_at, bound_by, prefixed_by, prim_at, name_at, no_value, behind}
use Rattle.scad_parse.specs.Reading.{place_of, is_operator, is_operator_kind, chain_of, range_at, name_before}
use Rattle.scad_parse.specs.Reading.{first_word, argument_of}
use Rattle.scad_parse.specs.declared.reader.Reader.{Reader}
use Rattle.scad_parse.specs.declared.reader.Open.{Open}
use Rattle.scad_parse.specs.Standing.{Standing, Turn, Reads, Opens, standing, passed, operator_at, left_out, stands_at}
use Rattle.scad_parse.specs.Standing.{literal_here, literal_by, word_here, word_by, took}
use Rattle.scad_parse.proofs.rules.Steps.{opened_or, opens, passes, follows, same_rule, turn_refused, out, by_taken}
use Rattle.scad_parse.proofs.rules.Steps.{taken}

pub no_rules : (e : Place) → below e 0 ≡ None
unfolding below
no_rules e = refl

pub more_rules : (e : Place) (n : ℕ) → below e (suc n) ≡ Some (rules_at e n)
unfolding below
more_rules e n = refl

module _ {B : Type 0} where
  pub opens_rule : (test : Token → Bool) (k : Place → Place → Rules → List Token → Read B)
      (rest : Place → List Token → Read B) {room : ℕ} {o : Open} {q r s : Reader} {b : B}
      {found : Option Open} → found ≡ Some o → Opens test room q r found → Reads
      (λ e. k e o.at (rules_at e o.room)) r s b →
      Reads (λ e. opened_or test (below e room) (k e) (rest e)) q s b
  opens_rule test k rest is x y = opens below rules_at no_rules more_rules test k rest is x y

  pub passes_rule : (test : Token → Bool) (k : Place → Place → Rules → List Token → Read B)
      (rest : Place → List Token → Read B) {room : ℕ} {q r s : Reader} {b : B} {found : Option Open} →
      found ≡ None → Opens test room q r found → Reads rest r s b → Reads
      (λ e. opened_or test (below e room) (k e) (rest e)) q s b
  passes_rule test k rest is x y = passes below rules_at no_rules more_rules test k rest is x y

-- ---- expressions
abbrev pub unbound : Place → ℕ → List Token → Read Expression
unbound e room us = then_read (operand_of e (below e room) 6 us) (choice_of e (below e room))

abbrev pub not_echo : Place → ℕ → List Token → Read Expression
not_echo e room = opened_or (is_key Echo) (below e room) (bound_by echoing) (unbound e room)

abbrev pub not_assert : Place → ℕ → List Token → Read Expression
not_assert e room = opened_or (is_key Assert) (below e room) (bound_by asserting) (not_echo e room)

abbrev pub not_function : Place → ℕ → List Token → Read Expression
not_function e room = opened_or (is_key Let) (below e room) (bound_by letting) (not_assert e room)

abbrev pub expression_by : ℕ → Place → List Token → Read Expression
expression_by room e ts = then_read (left_out (is_key Function) FunctionForm ts) (λ _. not_function e room)

pub expression_is : (room : ℕ) (e : Place) (ts : List Token) → expr_of e (below e room) ts ≡ expression_by room e ts
unfolding expr_of operand_of unary_of
expression_is room e [] = refl
expression_is room e (t ∷ ts) = out (is_key Function) FunctionForm t ts (not_function e room)

-- what doesn't come at the front is passed over
module _ (room : ℕ) {q r s : Reader} {b : Expression} where
  pub past_function : Reads (λ e ts. left_out (is_key Function) FunctionForm ts) q r no_value →
      Reads (λ e. not_function e room) r s b → Reads (λ e ts. expr_of e (below e room) ts) q s b
  past_function x y = same_rule (λ e ts. expr_of e (below e room) ts) (expression_by room) (expression_is room)
      (follows (λ e ts. left_out (is_key Function) FunctionForm ts) (λ e _. not_function e room) x y)

  pub past_let : {found : Option Open} → found ≡ None → Opens (is_key Let) room q r found →
      Reads (λ e. not_assert e room) r s b → Reads (λ e. not_function e room) q s b
  past_let is x y = passes_rule (is_key Let) (λ e. bound_by letting) (λ e. not_assert e room) is x y

  pub past_assert : {found : Option Open} → found ≡ None → Opens (is_key Assert) room q r found →
      Reads (λ e. not_echo e room) r s b → Reads (λ e. not_assert e room) q s b
  past_assert is x y = passes_rule (is_key Assert) (λ e. bound_by asserting) (λ e. not_echo e room) is x y

-- ---- a choice
abbrev pub choice_by : Expression → Place → Place → Rules → List Token → Read Expression
choice_by a e at r ts = then_read (expr_to e Colon r.expr ts)
    (λ b us. then_read (r.expr us) (λ c vs. Ok (choose at a b c, vs)))

abbrev pub chosen : ℕ → Expression → Place → List Token → Read Expression
chosen room a e = opened_or (is_sign Question) (below e room) (choice_by a e) (λ us. Ok (a, us))

pub choice_is : (room : ℕ) (a : Expression) (e : Place) (ts : List Token) →
    choice_of e (below e room) a ts ≡ chosen room a e ts
unfolding choice_of
choice_is room a e [] = refl
choice_is room a e (t ∷ ts) = refl

-- ---- operands
one_after_another : {A B C : Type 0} (x : Read A) (f : A → List Token → Read B) (g : B → List Token → Read C) →
    then_read (then_read x f) g ≡ then_read x (λ a ts. then_read (f a ts) g)
one_after_another (Ok (a, ts)) f g = refl
one_after_another (Err fault) f g = refl

then_as_it_is : {A : Type 0} (x : Read A) → x ≡ then_read x (λ a ts. Ok (a, ts))
then_as_it_is (Ok (a, ts)) = refl
then_as_it_is (Err fault) = refl

-- an operand of some lines is its first operand and their chain
abbrev pub operand_by : ℕ → ℕ → Place → List Token → Read Expression
operand_by room lines e ts = then_read (unary_of e (below e room) ts) (chain_of (below e room) lines)

pub operand_is : (room lines : ℕ) (e : Place) (ts : List Token) →
    operand_of e (below e room) lines ts ≡ operand_by room lines e ts
unfolding operand_of chain_of
operand_is room zero e ts = then_as_it_is (unary_of e (below e room) ts)
operand_is room (suc line) e ts =
    ap (λ x. then_read x (links_of (below e room) line)) (operand_is room line e ts)
    ∙ one_after_another (unary_of e (below e room) ts) (chain_of (below e room) line) (links_of (below e room) line)

-- and where no operator comes it is the first
no_operator : (line : ℕ) (k : TokenKind) → is_operator_kind k ≡ false → operator_kind line k ≡ None
no_operator line (SignKind s) h = by (operator_sign s) h
  where
    by : (op : Option BinOp) → is_some op ≡ false → on_line line op ≡ None
    by None h = refl
    by (Some op) h = absurd (cc)
no_operator line (NumberKind n) h = refl
no_operator line (StrKind chars) h = refl
no_operator line (WordKind word) h = refl
no_operator line (KeyKind key) h = refl

no_link : (lower : Option Rules) (line : ℕ) (a : Expression) (ts : List Token) →
    stands_at is_operator (Ok ts) ≡ false → links_of lower line a ts ≡ Ok (a, ts)
unfolding links_of
no_link lower line a [] h = refl
no_link lower line a (t ∷ ts) h = ap (link_of lower line a t ts) (no_operator line t.kind h)

no_chain : (lower : Option Rules) (lines : ℕ) (a : Expression) (ts : List Token) →
    stands_at is_operator (Ok ts) ≡ false → chain_of lower lines a ts ≡ Ok (a, ts)
unfolding chain_of
no_chain lower zero a ts h = refl
no_chain lower (suc line) a ts h =
    ap (λ x. then_read x (links_of lower line)) (no_chain lower line a ts h) ∙ no_link lower line a ts h

turn_alone : (lower : Option Rules) (lines : ℕ) (a : Expression) (s : Standing) → stands_at is_operator s ≡ false →
    Turn (chain_of lower lines a) s s a
turn_alone lower lines a (Ok ts) h = no_chain lower lines a ts h
turn_alone lower lines a (Err fault) h = refl

pub alone : (room lines : ℕ) (a : Expression) {r : Reader} → stands_at is_operator (standing r) ≡ false →
    Reads (λ e ts. chain_of (below e room) lines a ts) r r a
alone room lines a {r} h =
    record { ends = refl; turn = turn_alone (below r.end room) lines a (standing r) h }

pub one_less : (n : ℕ) → n ≢ 0 → n ≡ suc (n - 1)
one_less zero h = absurd (h refl)
one_less (suc n) h = omega arith

pub chain_ends : (room lines : ℕ) (a : Expression) → lines ≡ 0 → (e : Place) (ts : List Token) →
    chain_of (below e room) lines a ts ≡ Ok (a, ts)
unfolding chain_of
chain_ends room zero a h e ts = refl
chain_ends room (suc line) a h e ts = absurd (cc)

abbrev pub chain_by : ℕ → ℕ → Expression → Place → List Token → Read Expression
chain_by room line a e ts = then_read (chain_of (below e room) line a ts) (links_of (below e room) line)

pub chain_looser : (room lines line : ℕ) (a : Expression) → lines ≡ suc line → (e : Place) (ts : List Token) →
    chain_of (below e room) lines a ts ≡ chain_by room line a e ts
unfolding chain_of
chain_looser room lines line a h e ts = ap (λ n. chain_of (below e room) n a ts) h

-- ---- links between operands
abbrev pub link_by : ℕ → Expression → Option BinOp → Place → Rules → List Token → Read Expression
link_by line a (Some op) at r ts = then_read (r.operand line ts) (λ b. r.links line (binary at op a b))
link_by line a None at r ts = Ok (a, ts)

abbrev pub links_by : ℕ → ℕ → Expression → Option BinOp → Place → List Token → Read Expression
links_by room line a op e =
    opened_or (λ t. is_some (operator line t)) (below e room) (link_by line a op) (λ us. Ok (a, us))

link_is : (lower : Option Rules) (line : ℕ) (a : Expression) (t : Token) (ts : List Token) (o : Option BinOp) →
    link_of lower line a t ts o
    ≡ (if is_some o then deeper lower t.at (λ r. link_by line a o t.at r ts) else Ok (a, t ∷ ts))
link_is lower line a t ts None = refl
link_is lower line a t ts (Some op) = refl

pub links_are : (room line : ℕ) (a : Expression) (s : Standing) (e : Place) (ts : List Token) → s ≡ Ok ts →
    links_of (below e room) line a ts ≡ links_by room line a (operator_at line s) e ts
unfolding links_of
links_are room line a s e [] here = refl
links_are room line a s e (t ∷ ts) here =
    link_is (below e room) line a t ts (operator line t)
    ∙ ap (λ s. links_by room line a (operator_at line s) e (t ∷ ts)) (sym here)

pub linked : (line : ℕ) (a : Expression) (o : Open) {op : Option BinOp} {p : Option BinOp} {r s : Reader}
    {b : Expression} → p ≡ op → Reads (λ e. link_by line a p o.at (rules_at e o.room)) r s b →
    Reads (λ e. link_by line a op o.at (rules_at e o.room)) r s b
linked line a o {r = r} {s} {b} same x =
    subst (λ op. Reads (λ e. link_by line a op o.at (rules_at e o.room)) r s b) same x

-- ---- prefix operators
abbrev pub unprefixed : Place → ℕ → List Token → Read Expression
unprefixed e room us = then_read (prim_at e (below e room) us) (posts_of e (below e room))

abbrev pub not_plus : Place → ℕ → List Token → Read Expression
not_plus e room = opened_or (is_sign Minus) (below e room) (prefixed_by UnaryMinus) (unprefixed e room)

abbrev pub not_bang : Place → ℕ → List Token → Read Expression
not_bang e room = opened_or (is_sign Plus) (below e room) (prefixed_by UnaryPlus) (not_plus e room)

abbrev pub unary_by : ℕ → Place → List Token → Read Expression
unary_by room e = opened_or (is_sign Bang) (below e room) (prefixed_by Not) (not_bang e room)

pub unary_is : (room : ℕ) (e : Place) (ts : List Token) → unary_of e (below e room) ts ≡ unary_by room e ts
unfolding unary_of prim_at
unary_is room e [] = refl
unary_is room e (t ∷ ts) = refl

module _ (room : ℕ) {q r s : Reader} {b : Expression} {found : Option Open} where
  pub past_bang : found ≡ None → Opens (is_sign Bang) room q r found → Reads (λ e. not_bang e room) r s b →
      Reads (λ e ts. unary_of e (below e room) ts) q s b
  past_bang is x y = same_rule (λ e ts. unary_of e (below e room) ts) (unary_by room) (unary_is room)
      (passes_rule (is_sign Bang) (λ e. prefixed_by Not) (λ e. not_bang e room) is x y)

  pub past_plus : found ≡ None → Opens (is_sign Plus) room q r found → Reads (λ e. not_plus e room) r s b →
      Reads (λ e. not_bang e room) q s b
  past_plus is x y = passes_rule (is_sign Plus) (λ e. prefixed_by UnaryPlus) (λ e. not_plus e room) is x y

-- ---- operands without operators
abbrev pub by_literal : Place → ℕ → Option Expression → List Token → Read Expression
by_literal e room (Some v) us = Ok (v, us)
by_literal e room None us = name_at e (below e room) us

abbrev pub not_bracket : Place → ℕ → List Token → Read Expression
not_bracket e room us = then_read (literal_here us) (by_literal e room)

abbrev pub not_round : Place → ℕ → List Token → Read Expression
not_round e room = opened_or (is_sign OpenSquare) (below e room) (λ at r. r.brackets at) (not_bracket e room)

abbrev pub primary_by : ℕ → Place → List Token → Read Expression
primary_by room e =
    opened_or (is_sign OpenRound) (below e room) (λ at r. expr_to e CloseRound r.expr) (not_round e room)

by_literal_is : (e : Place) (room : ℕ) (t : Token) (ts : List Token) (o : Option Expression) →
    literal_rule (below e room) t o ts ≡ then_read (literal_by t ts o) (by_literal e room)
unfolding name_at
by_literal_is e room t ts (Some v) = refl
by_literal_is e room t ts None = refl

pub primary_is : (room : ℕ) (e : Place) (ts : List Token) → prim_at e (below e room) ts ≡ primary_by room e ts
unfolding prim_at prim_of name_at
primary_is room e [] = refl
primary_is room e (t ∷ ts) = ap (λ r. if is_sign OpenRound t then deeper (below e room) t.at
    (λ r. expr_to e CloseRound r.expr ts)
    else (if is_sign OpenSquare t then deeper (below e room) t.at (λ r. r.brackets t.at ts) else r))
    (by_literal_is e room t ts (literal t))

module _ (room : ℕ) {q r s : Reader} {b : Expression} {found : Option Open} where
  pub past_round : found ≡ None → Opens (is_sign OpenRound) room q r found → Reads (λ e. not_round e room) r s b →
      Reads (λ e ts. prim_at e (below e room) ts) q s b
  past_round is x y = same_rule (λ e ts. prim_at e (below e room) ts) (primary_by room) (primary_is room)
      (passes_rule (is_sign OpenRound) (λ e at r. expr_to e CloseRound r.expr) (λ e. not_round e room) is x y)

  pub past_bracket : found ≡ None → Opens (is_sign OpenSquare) room q r found →
      Reads (λ e. not_bracket e room) r s b → Reads (λ e. not_round e room) q s b
  past_bracket is x y = passes_rule (is_sign OpenSquare) (λ e at r. r.brackets at) (λ e. not_bracket e room) is x y

-- ---- names and calls
abbrev pub call_by : Place × List ℕ → Place → Rules → List Token → Read Expression
call_by w at r ts = then_read (r.args_closed ts) (λ all us. Ok (call w.0 w.1 all, us))

abbrev pub behind_name : Place → ℕ → Place × List ℕ → List Token → Read Expression
behind_name e room w = opened_or (is_sign OpenRound) (below e room) (call_by w) (λ us. Ok (name w.0 w.1, us))

abbrev pub named_by : ℕ → Place → List Token → Read Expression
named_by room e ts = then_read (word_here e ts) (behind_name e room)

behind_name_is : (e : Place) (room : ℕ) (at : Place) (w : List ℕ) (ts : List Token) →
    call_or_name (below e room) at w ts ≡ behind_name e room (at, w) ts
behind_name_is e room at w [] = refl
behind_name_is e room at w (t ∷ ts) = refl

word_is : (e : Place) (room : ℕ) (t : Token) (ts : List Token) (o : Option (List ℕ)) →
    word_rule (below e room) t o ts ≡ then_read (word_by t ts o) (behind_name e room)
word_is e room t ts (Some w) = behind_name_is e room t.at w ts
word_is e room t ts None = refl

pub named_is : (room : ℕ) (e : Place) (ts : List Token) → name_at e (below e room) ts ≡ named_by room e ts
unfolding name_at
named_is room e [] = refl
named_is room e (t ∷ ts) = word_is e room t ts (word_of t)

-- ---- what stands behind an operand
abbrev pub index_by : Expression → Place → Place → Rules → List Token → Read Expression
index_by a e at r ts = then_read (r.indexed at ts) (λ i. r.posts (index at a i))

abbrev pub member_by_word : Expression → Place → Place → Rules → List Token → Read Expression
member_by_word a e at r ts = then_read (word_here e ts) (λ w. r.posts (member at a w.1))

abbrev pub not_dot : Expression → Place → List Token → Read Expression
not_dot a e us = then_read (left_out (is_sign Caret) Power us) (λ _ vs. Ok (a, vs))

abbrev pub not_square : ℕ → Expression → Place → List Token → Read Expression
not_square room a e = opened_or (is_sign Dot) (below e room) (member_by_word a e) (not_dot a e)

abbrev pub posts_by : ℕ → Expression → Place → List Token → Read Expression
posts_by room a e = opened_or (is_sign OpenSquare) (below e room) (index_by a e) (not_square room a e)

member_of_is : (r : Rules) (at : Place) (a : Expression) (t : Token) (ts : List Token) (o : Option (List ℕ)) →
    member_by r at a t ts o ≡ then_read (word_by t ts o) (λ w. r.posts (member at a w.1))
member_of_is r at a t ts (Some w) = refl
member_of_is r at a t ts None = refl

dotted : (lower : Option Rules) (e at : Place) (a : Expression) (ts : List Token) →
    deeper lower at (λ r. member_of e r at a ts)
    ≡ deeper lower at (λ r. member_by_word a e at r ts)
dotted None e at a ts = refl
dotted (Some r) e at a [] = refl
dotted (Some r) e at a (t ∷ ts) = member_of_is r at a t ts (word_of t)

pub posts_is : (room : ℕ) (a : Expression) (e : Place) (ts : List Token) →
    posts_of e (below e room) a ts ≡ posts_by room a e ts
unfolding posts_of
posts_is room a e [] = refl
posts_is room a e (t ∷ ts) =
    ap (λ d. if is_sign OpenSquare t then deeper (below e room) t.at (λ r. index_by a e t.at r ts)
    else (if is_sign Dot t then d
    else (if is_sign Caret t then Err (left_out_at t.at (codes "^")) else Ok (a, t ∷ ts))))
    (dotted (below e room) e t.at a ts)
    ∙ ap (λ d. if is_sign OpenSquare t then deeper (below e room) t.at (λ r. index_by a e t.at r ts)
    else (if is_sign Dot t then deeper (below e room) t.at (λ r. member_by_word a e t.at r ts) else d))
    (out (is_sign Caret) Power t ts (λ vs. Ok (a, vs)))

-- ---- ranges
abbrev pub ended : Place → Expression → Expression → Place → List Token → Read Expression
ended at a b e us = behind_sign e CloseSquare us (λ vs. Ok (range at a b, vs))

abbrev pub stepping : ℕ → Place → Expression → Expression → Place → List Token → Read Expression
stepping room at a b e us =
    then_read (expr_to e CloseSquare (expr_of e (below e room)) us) (λ c vs. Ok (stepped at a b c, vs))

abbrev pub ranged_by : ℕ → Place → Expression → Expression → Place → List Token → Read Expression
ranged_by room at a b e ts =
    then_read (took (is_sign Colon) ts) (by_taken (stepping room at a b e) (ended at a b e))

pub ranged_is : (room : ℕ) (at : Place) (a b : Expression) (e : Place) (ts : List Token) →
    range_end e (below e room) at a b ts ≡ ranged_by room at a b e ts
ranged_is room at a b e [] = refl
ranged_is room at a b e (t ∷ ts) = taken (is_sign Colon) (stepping room at a b e) (ended at a b e) t ts

abbrev pub behind_start : ℕ → Place → Expression → Place → List Token → Read Expression
behind_start room at a e ts = then_read (expr_of e (below e room) ts) (range_end e (below e room) at a)

range_turn : (room : ℕ) (e at : Place) (a : Expression) (s s1 t : Standing) (b : Expression) → s1 ≡ passed s →
    Turn (behind_start room at a e) s1 t b →
    Turn (λ ts. range_by e (below e room) at (place_of e ts) (Some a) (behind ts)) s t b
range_turn room e at a (Ok ts) s1 t b now y = subst (λ s. Turn (behind_start room at a e) s t b) now y
range_turn room e at a (Err fault) s1 t b now y = subst (λ s. Turn (behind_start room at a e) s t b) now y

pub range_reads : (room : ℕ) (at : Place) (all : Elements) (first : Element) {q r1 r2 s : Reader}
    {start second b : Expression} → range_start all first ≡ Some start → r1.end ≡ q.end →
    standing r1 ≡ passed (standing q) → Reads (λ e ts. expr_of e (below e room) ts) r1 r2 second →
    Reads (λ e ts. range_end e (below e room) at start second ts) r2 s b →
    Reads (λ e ts. range_at e (below e room) at all first ts) q s b
range_reads room at all first {q} {r1} {r2} {s} {start} {second} {b} is ends now y z =
    let w = follows (λ e ts. expr_of e (below e room) ts) (λ e. range_end e (below e room) at start) y z in record {
      ends = w.ends ∙ ends;
      turn = subst (λ o. Turn (λ ts. range_by q.end (below q.end room) at (place_of q.end ts) o (behind ts))
          (standing q)
          (standing s) b) (sym is) (range_turn room q.end at start (standing q) (standing r1) (standing s) b now
          (subst (λ e. Turn (behind_start room at start e) (standing r1) (standing s) b) ends w.turn));
    }

pub range_refused : (room : ℕ) (at : Place) (all : Elements) (first : Element) {q r : Reader} {b : Expression} →
    range_start all first ≡ None → Reads (λ e ts. Err (syntax_at (place_of e ts))) q r no_value →
    Reads (λ e ts. range_at e (below e room) at all first ts) q r b
range_refused room at all first {q} {r} {b} is x = record {
  ends = x.ends;
  turn = subst (λ o. Turn (λ ts. range_by q.end (below q.end room) at (place_of q.end ts) o (behind ts)) (standing q)
      (standing r) b) (sym is) (turn_refused (λ ts. syntax_at (place_of q.end ts)) (standing q) (standing r) no_value b
      x.turn);
}

-- ---- arguments
abbrev pub argument_by : ℕ → Place → List Token → Read (Option (List ℕ) × Expression)
argument_by room e ts = then_read (name_before ts)
    (λ name us. then_read (expr_of e (below e room) us) (λ x vs. Ok ((name, x), vs)))

pub argument_is : (room : ℕ) (e : Place) (ts : List Token) → argument_of e (below e room) ts ≡ argument_by room e ts
unfolding argument_of
argument_is room e ts = by (begins_named ts)
  where
    by : (b : Bool) →
        (if b then then_read {B = Option (List ℕ) × Expression} (expr_of e (below e room) (behind (behind ts)))
        (λ x us. Ok ((first_word ts, x), us))
        else then_read {B = Option (List ℕ) × Expression} (expr_of e (below e room) ts) (λ x us. Ok ((None, x), us)))
        ≡ then_read (if b then Ok (first_word ts, behind (behind ts)) else Ok (None, ts))
        (λ name us. then_read {B = Option (List ℕ) × Expression} (expr_of e (below e room) us)
        (λ x vs. Ok ((name, x), vs)))
    by true = refl
    by false = refl

-- ---- elements
abbrev pub plain : Place → ℕ → List Token → Read Element
plain e room us = then_read (expr_of e (below e room) us) (λ x vs. Ok (item x, vs))

abbrev pub let_by : Place → Rules → List Token → Read Element
let_by at r ts = then_read (r.round_args ts) (λ all us. then_read (r.elem us) (λ el vs. Ok (let_of at all el, vs)))

abbrev pub if_by : Place → Rules → List Token → Read Element
if_by at r ts = then_read (r.round_expr ts) (λ x us. then_read (r.elem us) (r.else_end at x))

abbrev pub each_by : Place → Rules → List Token → Read Element
each_by at r ts = then_read (r.elem ts) (λ el us. Ok (each at el, us))

abbrev pub not_if : Place → ℕ → List Token → Read Element
not_if e room = opened_or (is_key Let) (below e room) let_by (plain e room)

abbrev pub not_each : Place → ℕ → List Token → Read Element
not_each e room = opened_or (is_key If) (below e room) if_by (not_if e room)

abbrev pub not_for : Place → ℕ → List Token → Read Element
not_for e room = opened_or (is_key Each) (below e room) each_by (not_each e room)

abbrev pub element_by : ℕ → Place → List Token → Read Element
element_by room e = opened_or (is_key For) (below e room) (λ at r. r.for_behind at) (not_for e room)

pub element_is : (room : ℕ) (e : Place) (ts : List Token) → elem_of e (below e room) ts ≡ element_by room e ts
unfolding elem_of expr_of
element_is room e [] = refl
element_is room e (t ∷ ts) = refl

module _ (room : ℕ) {q r s : Reader} {b : Element} {found : Option Open} where
  pub past_for : found ≡ None → Opens (is_key For) room q r found → Reads (λ e. not_for e room) r s b →
      Reads (λ e ts. elem_of e (below e room) ts) q s b
  past_for is x y = same_rule (λ e ts. elem_of e (below e room) ts) (element_by room) (element_is room)
      (passes_rule (is_key For) (λ e at r. r.for_behind at) (λ e. not_for e room) is x y)

  pub past_each : found ≡ None → Opens (is_key Each) room q r found → Reads (λ e. not_each e room) r s b →
      Reads (λ e. not_for e room) q s b
  past_each is x y = passes_rule (is_key Each) (λ e. each_by) (λ e. not_each e room) is x y

  pub past_if : found ≡ None → Opens (is_key If) room q r found → Reads (λ e. not_if e room) r s b →
      Reads (λ e. not_each e room) q s b
  past_if is x y = passes_rule (is_key If) (λ e. if_by) (λ e. not_if e room) is x y

abbrev pub other_by : Place → Expression → Element → Place → Rules → List Token → Read Element
other_by at x held at' r ts = then_read (r.elem ts) (λ other us. Ok (if_else at x held other, us))

abbrev pub else_by : ℕ → Place → Expression → Element → Place → List Token → Read Element
else_by room at x held e =
    opened_or (is_key Else) (below e room) (other_by at x held) (λ us. Ok (if_element at x held, us))

pub else_is : (room : ℕ) (at : Place) (x : Expression) (held : Element) (e : Place) (ts : List Token) →
    else_of (below e room) at x held ts ≡ else_by room at x held e ts
else_is room at x held e [] = refl
else_is room at x held e (t ∷ ts) = refl

-- ---- the head of a `for`
abbrev pub steps_by : ℕ → Arguments → Place → List Token → Read Head
steps_by room all e ts =
    then_read (expr_to e Semicolon (expr_of e (below e room)) ts) (λ x us.
    then_read (args_closed_of e (below e room) us) (λ last vs. Ok (for_steps all x last, vs)))

abbrev pub in_parts : ℕ → Arguments → Place → List Token → Read Head
in_parts room all e ts = behind_sign e Semicolon ts (steps_by room all e)

abbrev pub head_by : ℕ → Place → Arguments → List Token → Read Head
head_by room e all us =
    then_read (took (is_sign CloseRound) us) (by_taken (λ vs. Ok (for_all all, vs)) (in_parts room all e))

pub head_is : (room : ℕ) (e : Place) (all : Arguments) (ts : List Token) →
    head_end e (below e room) all ts ≡ head_by room e all ts
head_is room e all [] = refl
head_is room e all (t ∷ ts) =
    taken (is_sign CloseRound) (λ vs. Ok (for_all all, vs)) (in_parts room all e) t ts
