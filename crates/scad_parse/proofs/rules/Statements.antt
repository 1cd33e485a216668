-- The rules of statements and definitions, step by step as the descent takes them.
use Rattle.std.proofs.Common.{◌≡◌, ℕ, suc, ◌++◌, Bool, true, false, List, [], ◌∷◌, Option, Some, None, Ok, Err, refl}
use Rattle.std.proofs.Common.{sym, ap, subst, ◌∙◌, length, ◌<◌, arith}
use Rattle.std.specs.Prelude.{if◌then◌else◌, codes, is_some}
use Rattle.scad_fault.specs.declared.place.Place.{Place}
use Rattle.scad_lex.specs.declared.token.Token.{Token}
use Rattle.scad_lex.specs.declared.token.Sign.TheVariants.{Star, Percent, Hash, Bang, Semicolon, OpenCurly, Assign}
use Rattle.scad_lex.specs.declared.token.Key.TheVariants.{Else, If, Include, Use, Module, Function}
use Rattle.scad_ast.specs.Tree.{Expression, Parameter, Items, no_items, entry, choice, assignment, module_of}
use Rattle.scad_ast.specs.Tree.{function_of}
use Rattle.scad_ast.specs.Scope.{item_of, items}
use Rattle.scad_ast.specs.declared.statement.Item.{Item}
use Rattle.scad_grammar.specs.Tokens.{is_sign, is_key, word_of}
use Rattle.scad_grammar.specs.Lists.{with_item, with_statement, Marks, no_marks, starred, percented, hashed}
use Rattle.scad_grammar.specs.StatementSteps.{callee}
use Rattle.scad_grammar.specs.Machine.{left_out_at}
use Rattle.scad_grammar.specs.Rules.{Read, then_read, behind_sign, deeper, expr_of, expr_to, in_round_of}
use Rattle.scad_grammar.specs.StatementRules.{StatementRules, statement_of, start_of, definition_of, first_of}
use Rattle.scad_grammar.specs.StatementRules.{marked_first, call_first, call_by, child_of, otherwise_of, heading_of}
use Rattle.scad_grammar.specs.StatementRules.{heading_by, marked_of, choice_behind_of}
use Rattle.scad_parse.specs.declared.fault.Form.TheVariants.{Include as IncludeForm, Use as UseForm, Root}
use Rattle.scad_parse.specs.declared.reader.Reader.{Reader}
use Rattle.scad_parse.specs.declared.reader.Open.{Open}
use Rattle.scad_parse.specs.Reading.{below, rules_at, behind, no_value}
use Rattle.scad_parse.specs.ReadingStatements.{below_statements, statement_rules_at, heading_read, other_of}
use Rattle.scad_parse.specs.ReadingStatements.{unmarked_of, begins_with_mark, with_first_mark, marks_here, first_at}
use Rattle.scad_parse.specs.ReadingStatements.{definition_at, word_at, call_at, callee_here, default_of, parameter_of}
use Rattle.scad_parse.specs.ReadingStatements.{parameter_by}
use Rattle.scad_parse.specs.Standing.{Standing, Given, Turn, Reads, Opens, standing, stands_at, left_out, took, took_at}
use Rattle.scad_parse.specs.Standing.{word_here, word_by, standing_of}
use Rattle.scad_parse.specs.declared.fault.Fault.{Fault}
use Rattle.scad_parse.proofs.rules.Steps.{opened_or, opens, passes, follows, same_rule, taking, out, by_taken, taken}
use Rattle.scad_parse.proofs.rules.Steps.{by_place, taken_at}

pub no_statements : (e : Place) → below_statements e 0 ≡ None
unfolding below_statements
no_statements e = refl

pub more_statements : (e : Place) (n : ℕ) → below_statements e (suc n) ≡ Some (statement_rules_at e n)
unfolding below_statements
more_statements e n = refl

module _ {B : Type 0} where
  pub opens_statement : (test : Token → Bool) (k : Place → Place → StatementRules → List Token → Read B)
      (rest : Place → List Token → Read B) {room : ℕ} {o : Open} {q r s : Reader} {b : B}
      {found : Option Open} → found ≡ Some o → Opens test room q r found →
      Reads (λ e. k e o.at (statement_rules_at e o.room)) r s b →
      Reads (λ e. opened_or test (below_statements e room) (k e) (rest e)) q s b
  opens_statement test k rest is x y =
      opens below_statements statement_rules_at no_statements more_statements test k rest is x y

  pub passes_statement : (test : Token → Bool) (k : Place → Place → StatementRules → List Token → Read B)
      (rest : Place → List Token → Read B) {room : ℕ} {q r s : Reader} {b : B} {found : Option Open} →
      found ≡ None → Opens test room q r found → Reads rest r s b →
      Reads (λ e. opened_or test (below_statements e room) (k e) (rest e)) q s b
  passes_statement test k rest is x y =
      passes below_statements statement_rules_at no_statements more_statements test k rest is x y

pub by_marks : (f : Marks → Place → List Token → Read Items) {m n : Marks} {q s : Reader} {b : Items} → m ≡ n →
    Reads (f m) q s b → Reads (f n) q s b
by_marks f {q = q} {s} {b} same x = subst (λ m. Reads (f m) q s b) same x

-- ---- what stands at the front decides
abbrev pub either_at : {B : Type 0} → (Token → Bool) → (List Token → Read B) → (List Token → Read B) → List Token →
    Read B
either_at test here other [] = other []
either_at test here other (t ∷ ts) = if test t then here (t ∷ ts) else other (t ∷ ts)

turn_yes : {B : Type 0} (test : Token → Bool) (here other : List Token → Read B) (s t : Standing) (b : B) →
    stands_at test s ≡ true → Turn here s t b → Turn (either_at test here other) s t b
turn_yes test here other (Ok []) t b h x = absurd (cc)
turn_yes test here other (Ok (u ∷ us)) t b h x =
    subst (λ c. Given (if c then here (u ∷ us) else other (u ∷ us)) t b) (sym h) x
turn_yes test here other (Err fault) t b h x = x

turn_no : {B : Type 0} (test : Token → Bool) (here other : List Token → Read B) (s t : Standing) (b : B) →
    stands_at test s ≡ false → Turn other s t b → Turn (either_at test here other) s t b
turn_no test here other (Ok []) t b h x = x
turn_no test here other (Ok (u ∷ us)) t b h x =
    subst (λ c. Given (if c then here (u ∷ us) else other (u ∷ us)) t b) (sym h) x
turn_no test here other (Err fault) t b h x = x

pub when_at : {B : Type 0} (test : Token → Bool) (here other : Place → List Token → Read B) {q s : Reader} {b : B} →
    stands_at test (standing q) ≡ true → Reads here q s b → Reads (λ e. either_at test (here e) (other e)) q s b
when_at test here other {q} {s} {b} h x =
    record { ends = x.ends; turn = turn_yes test (here q.end) (other q.end) (standing q) (standing s) b h x.turn }

pub unless_at : {B : Type 0} (test : Token → Bool) (here other : Place → List Token → Read B) {q s : Reader} {b : B} →
    stands_at test (standing q) ≡ false → Reads other q s b → Reads (λ e. either_at test (here e) (other e)) q s b
unless_at test here other {q} {s} {b} h x =
    record { ends = x.ends; turn = turn_no test (here q.end) (other q.end) (standing q) (standing s) b h x.turn }

-- ---- statements
abbrev pub is_word : Token → Bool
is_word t = is_some (word_of t)

abbrev pub not_word : Bool → ℕ → Items → Place → List Token → Read Items
not_word true room all e = definition_at e (below_statements e room) all
not_word false room all e = first_at e (below_statements e room) all

abbrev pub not_curly : Bool → ℕ → Items → Place → List Token → Read Items
not_curly d room all e = either_at is_word (word_at e (below_statements e room) all) (not_word d room all e)

abbrev pub not_semicolon : Bool → ℕ → Items → Place → List Token → Read Items
not_semicolon d room all e =
    opened_or (is_sign OpenCurly) (below_statements e room) (λ at r. r.group d all) (not_curly d room all e)

abbrev pub statement_by : Bool → ℕ → Items → Place → List Token → Read Items
statement_by d room all e ts =
    then_read (took (is_sign Semicolon) ts) (by_taken (λ us. Ok (all, us)) (not_semicolon d room all e))

start_is : (d : Bool) (room : ℕ) (all : Items) (e : Place) (t : Token) (ts : List Token) (o : Option (List ℕ)) →
    start_of d (below_statements e room) t o all ts
    ≡ (if is_some o then then_read (word_by t ts o)
    (λ w us. deeper (below_statements e room) w.0 (λ r. r.word_behind w.0 w.1 all us))
    else not_word d room all e (t ∷ ts))
unfolding definition_at first_at definition_of
start_is d room all e t ts (Some w) = refl
start_is true room all e t ts None = refl
start_is false room all e t ts None = refl

pub statement_is : (d : Bool) (room : ℕ) (all : Items) (e : Place) (ts : List Token) →
    statement_of e (below_statements e room) d all ts ≡ statement_by d room all e ts
unfolding statement_of definition_at first_at
statement_is true room all e [] = refl
statement_is false room all e [] = refl
statement_is d room all e (t ∷ ts) =
    ap (λ x. if is_sign Semicolon t then Ok (all, ts)
    else (if is_sign OpenCurly t then deeper (below_statements e room) t.at (λ r. r.group d all ts) else x))
    (start_is d room all e t ts (word_of t))
    ∙ taken (is_sign Semicolon) (λ us. Ok (all, us)) (not_semicolon d room all e) t ts

not_word_as : (d c : Bool) (room : ℕ) (all : Items) {q s : Reader} {b : Items} → d ≡ c →
    Reads (not_word c room all) q s b → Reads (not_word d room all) q s b
not_word_as d c room all {q} {s} {b} same x = subst (λ c. Reads (not_word c room all) q s b) (sym same) x

-- what doesn't come at the front is passed over
module _ (d : Bool) (room : ℕ) (all : Items) {q r s : Reader} {b : Items} where
  pub past_semicolon : {x : Bool} → x ≡ false → Reads (λ e ts. took (is_sign Semicolon) ts) q r x →
      Reads (not_semicolon d room all) r s b →
      Reads (λ e ts. statement_of e (below_statements e room) d all ts) q s b
  past_semicolon is x y =
      same_rule (λ e ts. statement_of e (below_statements e room) d all ts) (statement_by d room all)
      (statement_is d room all)
      (taking (λ e ts. took (is_sign Semicolon) ts)
      (λ e. by_taken (λ us. Ok (all, us)) (not_semicolon d room all e)) is x y)

  pub past_curly : {found : Option Open} → found ≡ None → Opens (is_sign OpenCurly) room q r found →
      Reads (not_curly d room all) r s b → Reads (not_semicolon d room all) q s b
  past_curly is x y =
      passes_statement (is_sign OpenCurly) (λ e at r. r.group d all) (not_curly d room all) is x y

pub past_word : (d c : Bool) (room : ℕ) (all : Items) {q s : Reader} {b : Items} → d ≡ c →
    stands_at is_word (standing q) ≡ false → Reads (not_word c room all) q s b → Reads (not_curly d room all) q s b
past_word d c room all same none x =
    unless_at is_word (λ e. word_at e (below_statements e room) all) (not_word d room all) none
    (not_word_as d c room all same x)

-- ---- definitions
abbrev pub not_module : ℕ → Items → Place → List Token → Read Items
not_module room all e =
    opened_or (is_key Function) (below_statements e room) (λ at r. r.function_behind at all)
    (first_at e (below_statements e room) all)

abbrev pub definition_by : ℕ → Items → Place → List Token → Read Items
definition_by room all e =
    opened_or (is_key Module) (below_statements e room) (λ at r. r.module_behind at all) (not_module room all e)

pub definition_is : (room : ℕ) (all : Items) (e : Place) (ts : List Token) →
    definition_at e (below_statements e room) all ts ≡ definition_by room all e ts
unfolding definition_at first_at definition_of
definition_is room all e [] = refl
definition_is room all e (t ∷ ts) = refl

module _ (room : ℕ) (all : Items) {q r s : Reader} {b : Items} where
  pub past_module : {found : Option Open} → found ≡ None → Opens (is_key Module) room q r found →
      Reads (not_module room all) r s b →
      Reads (λ e ts. definition_at e (below_statements e room) all ts) q s b
  past_module is x y =
      same_rule (λ e ts. definition_at e (below_statements e room) all ts) (definition_by room all)
      (definition_is room all)
      (passes_statement (is_key Module) (λ e at r. r.module_behind at all) (not_module room all) is x y)

-- ---- what a statement runs
abbrev pub not_root : ℕ → Items → Place → List Token → Read Items
not_root room all e = opened_or (is_key If) (below_statements e room) (λ at r. r.choice_behind at no_marks all)
    (call_at e (below_statements e room) all)

abbrev pub not_hash : ℕ → Items → Place → List Token → Read Items
not_hash room all e us = then_read (left_out (is_sign Bang) Root us) (λ _. not_root room all e)

abbrev pub not_percent : ℕ → Items → Place → List Token → Read Items
not_percent room all e = opened_or (is_sign Hash) (below_statements e room) (λ at r. r.marked (hashed no_marks) all)
    (not_hash room all e)

abbrev pub not_star : ℕ → Items → Place → List Token → Read Items
not_star room all e = opened_or (is_sign Percent) (below_statements e room)
    (λ at r. r.marked (percented no_marks) all) (not_percent room all e)

abbrev pub not_use : ℕ → Items → Place → List Token → Read Items
not_use room all e = opened_or (is_sign Star) (below_statements e room) (λ at r. r.marked (starred no_marks) all)
    (not_star room all e)

abbrev pub not_include : ℕ → Items → Place → List Token → Read Items
not_include room all e us = then_read (left_out (is_key Use) UseForm us) (λ _. not_use room all e)

abbrev pub first_by : ℕ → Items → Place → List Token → Read Items
first_by room all e ts = then_read (left_out (is_key Include) IncludeForm ts) (λ _. not_include room all e)

call_first_is : (lower : Option StatementRules) (all : Items) (t : Token) (ts : List Token) (o : Option (List ℕ)) →
    call_first lower t o all ts
    ≡ then_read (word_by t ts o) (λ w us. deeper lower w.0 (λ r. r.call_behind w.0 no_marks w.1 all us))
call_first_is lower all t ts (Some w) = refl
call_first_is lower all t ts None = refl

not_use_is : (room : ℕ) (all : Items) (e : Place) (t : Token) (ts : List Token) →
    marked_first (below_statements e room) t all ts ≡ not_use room all e (t ∷ ts)
unfolding marked_first
not_use_is room all e t ts =
    ap (λ x. if is_sign Star t then deeper (below_statements e room) t.at (λ r. r.marked (starred no_marks) all ts)
    else (if is_sign Percent t then deeper (below_statements e room) t.at (λ r. r.marked (percented no_marks) all ts)
    else (if is_sign Hash t then deeper (below_statements e room) t.at (λ r. r.marked (hashed no_marks) all ts)
    else x)))
    (ap (λ x. if is_sign Bang t then Err (left_out_at t.at (codes "!"))
    else (if is_key If t then deeper (below_statements e room) t.at (λ r. r.choice_behind t.at no_marks all ts) else x))
    (call_first_is (below_statements e room) all t ts (callee t))
    ∙ out (is_sign Bang) Root t ts (not_root room all e))

pub first_is : (room : ℕ) (all : Items) (e : Place) (ts : List Token) →
    first_at e (below_statements e room) all ts ≡ first_by room all e ts
unfolding first_at first_of
first_is room all e [] = refl
first_is room all e (t ∷ ts) =
    ap (λ x. if is_key Include t then Err (left_out_at t.at (codes "include"))
    else (if is_key Use t then Err (left_out_at t.at (codes "use")) else x)) (not_use_is room all e t ts)
    ∙ (ap (λ x. if is_key Include t then Err (left_out_at t.at (codes "include")) else x)
    (out (is_key Use) UseForm t ts (not_use room all e))
    ∙ out (is_key Include) IncludeForm t ts (not_include room all e))

module _ (room : ℕ) (all : Items) {q r s : Reader} {b : Items} where
  pub past_files : {p : Reader} → Reads (λ e ts. left_out (is_key Include) IncludeForm ts) q p no_value →
      Reads (λ e ts. left_out (is_key Use) UseForm ts) p r no_value → Reads (not_use room all) r s b →
      Reads (λ e ts. first_at e (below_statements e room) all ts) q s b
  past_files x y z =
      same_rule (λ e ts. first_at e (below_statements e room) all ts) (first_by room all) (first_is room all)
      (follows (λ e ts. left_out (is_key Include) IncludeForm ts) (λ e _. not_include room all e) x
      (follows (λ e ts. left_out (is_key Use) UseForm ts) (λ e _. not_use room all e) y z))

  pub past_star : {found : Option Open} → found ≡ None → Opens (is_sign Star) room q r found →
      Reads (not_star room all) r s b → Reads (not_use room all) q s b
  past_star is x y =
      passes_statement (is_sign Star) (λ e at r. r.marked (starred no_marks) all) (not_star room all) is x y

  pub past_percent : {found : Option Open} → found ≡ None → Opens (is_sign Percent) room q r found →
      Reads (not_percent room all) r s b → Reads (not_star room all) q s b
  past_percent is x y =
      passes_statement (is_sign Percent) (λ e at r. r.marked (percented no_marks) all) (not_percent room all) is x y

  pub past_hash : {found : Option Open} → found ≡ None → Opens (is_sign Hash) room q r found →
      Reads (not_hash room all) r s b → Reads (not_percent room all) q s b
  past_hash is x y =
      passes_statement (is_sign Hash) (λ e at r. r.marked (hashed no_marks) all) (not_hash room all) is x y

  pub past_root : Reads (λ e ts. left_out (is_sign Bang) Root ts) q r no_value → Reads (not_root room all) r s b →
      Reads (not_hash room all) q s b
  past_root x y = follows (λ e ts. left_out (is_sign Bang) Root ts) (λ e _. not_root room all e) x y

-- ---- behind marks
abbrev pub called_by : ℕ → Marks → Items → Place → List Token → Read Items
called_by room m all e us =
    then_read (callee_here e us) (λ w. (statement_rules_at e room).call_behind w.0 m w.1 all)

abbrev pub not_left_out : ℕ → Marks → Items → Place → List Token → Read Items
not_left_out room m all e us = then_read (took_at (is_key If) us)
    (by_place (λ at. (statement_rules_at e room).choice_behind at m all) (called_by room m all e))

abbrev pub run_by : ℕ → Marks → Items → Place → List Token → Read Items
run_by room m all e ts = then_read (left_out (is_sign Bang) Root ts) (λ _. not_left_out room m all e)

call_by_is : (room : ℕ) (m : Marks) (all : Items) (e : Place) (t : Token) (ts : List Token) (o : Option (List ℕ)) →
    call_by e (rules_at e room) (below_statements e room) t o m all ts
    ≡ then_read (word_by t ts o) (λ w. (statement_rules_at e room).call_behind w.0 m w.1 all)
call_by_is room m all e t ts (Some w) = refl
call_by_is room m all e t ts None = refl

pub run_is : (room : ℕ) (m : Marks) (all : Items) (e : Place) (ts : List Token) →
    unmarked_of e (rules_at e room) (below_statements e room) m all ts ≡ run_by room m all e ts
unfolding unmarked_of
run_is room m all e [] = refl
run_is room m all e (t ∷ ts) =
    ap (λ x. if is_sign Bang t then Err (left_out_at t.at (codes "!")) else x)
    (ap (λ x. if is_key If t then choice_behind_of e (rules_at e room) (below_statements e room) t.at m all ts else x)
    (call_by_is room m all e t ts (callee t))
    ∙ taken_at (is_key If) (λ at. (statement_rules_at e room).choice_behind at m all) (called_by room m all e) t ts)
    ∙ out (is_sign Bang) Root t ts (not_left_out room m all e)

-- ---- marks
abbrev pub marked_by : ℕ → Marks → Items → Place → List Token → Read Items
marked_by room m all e ts = then_read (marks_here m ts)
    (λ m. unmarked_of e (rules_at e room) (below_statements e room) m all)

pub marked_is : (room : ℕ) (m : Marks) (all : Items) (e : Place) (ts : List Token) →
    marked_of e (rules_at e room) (below_statements e room) m all ts ≡ marked_by room m all e ts
unfolding marked_of marks_here unmarked_of
marked_is room m all e [] = refl
marked_is room m all e (t ∷ ts) =
    by (is_sign Star t) (is_sign Percent t) (is_sign Hash t) (marks_here (starred m) ts) (marks_here (percented m) ts)
    (marks_here (hashed m) ts) (Ok (m, t ∷ ts)) (marked_is room (starred m) all e ts)
    (marked_is room (percented m) all e ts) (marked_is room (hashed m) all e ts) refl
  where
    f : Marks → List Token → Read Items
    f m = unmarked_of e (rules_at e room) (below_statements e room) m all

    by : (b p h : Bool) {x y z w : Read Items} (x' y' z' w' : Read Marks) → x ≡ then_read x' f → y ≡ then_read y' f →
        z ≡ then_read z' f → w ≡ then_read w' f → (if b then x else (if p then y else (if h then z else w)))
        ≡ then_read (if b then x' else (if p then y' else (if h then z' else w'))) f
    by true p h x' y' z' w' xs ys zs ws = xs
    by false true h x' y' z' w' xs ys zs ws = ys
    by false false true x' y' z' w' xs ys zs ws = zs
    by false false false x' y' z' w' xs ys zs ws = ws

mark_by : (b p h : Bool) (m : Marks) (ts : List Token) (w : Read Marks) →
    (if b then true else (if p then true else h)) ≡ true →
    (if b then marks_here (starred m) ts
    else (if p then marks_here (percented m) ts else (if h then marks_here (hashed m) ts else w)))
    ≡ marks_here (if b then starred m else (if p then percented m else hashed m)) ts
mark_by true p h m ts w e = refl
mark_by false true h m ts w e = refl
mark_by false false true m ts w e = refl
mark_by false false false m ts w e = absurd (cc)

pub mark_here : (m : Marks) (ts : List Token) → begins_with_mark ts ≡ true →
    marks_here m ts ≡ marks_here (with_first_mark m ts) (behind ts)
unfolding marks_here
mark_here m [] e = absurd (cc)
mark_here m (t ∷ ts) e = mark_by (is_sign Star t) (is_sign Percent t) (is_sign Hash t) m ts _ e

unmarked_by : (b p h : Bool) (x y z w : Read Marks) → (if b then true else (if p then true else h)) ≡ false →
    (if b then x else (if p then y else (if h then z else w))) ≡ w
unmarked_by true p h x y z w e = absurd (cc)
unmarked_by false true h x y z w e = absurd (cc)
unmarked_by false false true x y z w e = absurd (cc)
unmarked_by false false false x y z w e = refl

pub no_mark : (m : Marks) (ts : List Token) → begins_with_mark ts ≡ false → marks_here m ts ≡ Ok (m, ts)
unfolding marks_here
no_mark m [] e = refl
no_mark m (t ∷ ts) e = unmarked_by (is_sign Star t) (is_sign Percent t) (is_sign Hash t) _ _ _ _ e

pub mark_fewer : (ts : List Token) → begins_with_mark ts ≡ true → length (behind ts) < length ts
mark_fewer [] e = absurd (cc)
mark_fewer (t ∷ ts) e = omega arith

pub marks_read : (m n : Marks) (ts us : List Token) (first now : Option Fault) → now ≡ first →
    marks_here m ts ≡ marks_here n us → begins_with_mark us ≡ false →
    Turn (marks_here m) (standing_of ts first) (standing_of us now) n
marks_read m n ts us None now same is last =
    subst (λ f. Given (marks_here m ts) (standing_of us f) n) (sym same) (is ∙ no_mark n us last)
marks_read m n ts us (Some fault) now same is last = ap (standing_of us) same

-- ---- `else`
abbrev pub other_by : ℕ → Place → List Token → Read Items
other_by room e ts = then_read (took_at (is_key Else) ts)
    (by_place (λ at. child_of e (below_statements e room)) (λ us. Ok (no_items, us)))

pub other_is : (room : ℕ) (e : Place) (ts : List Token) → other_of e (below_statements e room) ts ≡ other_by room e ts
unfolding other_of
other_is room e [] = refl
other_is room e (t ∷ ts) =
    taken_at (is_key Else) (λ at. child_of e (below_statements e room)) (λ us. Ok (no_items, us)) t ts

-- ["else" child], and the `if` that it ends
pub otherwise_other : (end : Place) (lower : Option StatementRules) (at : Place) (m : Marks) (e : Expression)
    (all held : Items) (ts : List Token) → otherwise_of end lower at m e all held ts
    ≡ then_read (other_of end lower ts)
    (λ other us. Ok (with_statement m all (choice at m.percent m.hash e held other), us))
unfolding other_of
otherwise_other end lower at m e all held [] = refl
otherwise_other end lower at m e all held (t ∷ ts) = by (is_key Else t)
  where
    by : (b : Bool) →
        (if b then then_read (child_of end lower ts)
        (λ other us. Ok (with_statement m all (choice at m.percent m.hash e held other), us))
        else Ok (with_statement m all (choice at m.percent m.hash e held no_items), t ∷ ts))
        ≡ then_read (if b then child_of end lower ts else Ok (no_items, t ∷ ts))
        (λ other us. Ok (with_statement m all (choice at m.percent m.hash e held other), us))
    by true = refl
    by false = refl

-- ---- children
abbrev pub not_ended : ℕ → Items → Place → List Token → Read Items
not_ended room all e = opened_or (is_sign OpenCurly) (below_statements e room) (λ at r. r.group false all)
    (first_at e (below_statements e room) all)

abbrev pub child_by : ℕ → Items → Place → List Token → Read Items
child_by room all e ts =
    then_read (took (is_sign Semicolon) ts) (by_taken (λ us. Ok (all, us)) (not_ended room all e))

child_empty : (room : ℕ) (e : Place) (ts : List Token) →
    child_of e (below_statements e room) ts ≡ child_by room no_items e ts
unfolding child_of first_at
child_empty room e [] = refl
child_empty room e (t ∷ ts) = taken (is_sign Semicolon) (λ us. Ok (no_items, us)) (not_ended room no_items e) t ts

pub child_is : (room : ℕ) (all : List Item) → all ≡ [] → (e : Place) (ts : List Token) →
    child_of e (below_statements e room) ts ≡ child_by room (items all) e ts
child_is room all none e ts = child_empty room e ts ∙ ap (λ xs. child_by room (items xs) e ts) (sym none)

-- ---- behind a word
abbrev pub assigned_by : ℕ → Place → List ℕ → Items → Place → List Token → Read Items
assigned_by room at w all e us = then_read (expr_to e Semicolon (expr_of e (below e room)) us)
    (λ x vs. Ok (with_item all (assignment at w x), vs))

abbrev pub word_behind_by : ℕ → Place → List ℕ → Items → Place → List Token → Read Items
word_behind_by room at w all e ts = then_read (took (is_sign Assign) ts)
    (by_taken (assigned_by room at w all e) ((statement_rules_at e room).call_behind at no_marks w all))

pub word_behind_is : (room : ℕ) (at : Place) (w : List ℕ) (all : Items) (e : Place) (ts : List Token) →
    (statement_rules_at e room).word_behind at w all ts ≡ word_behind_by room at w all e ts
word_behind_is room at w all e [] = refl
word_behind_is room at w all e (t ∷ ts) = taken (is_sign Assign) (assigned_by room at w all e)
    ((statement_rules_at e room).call_behind at no_marks w all) t ts

-- ---- headings
-- the word and the parameters of a heading
abbrev pub with_word : List ℕ → List Parameter → List Token → Read (List ℕ × List Parameter)
with_word w params us = Ok ((w, params), us)

-- a heading, and what stands behind it
pub headed : {A : Type 0} (end : Place) (lower : Option StatementRules)
    (f : List ℕ → List Parameter → List Token → Read A) (ts : List Token) →
    heading_of end lower f ts ≡ then_read (heading_read end lower ts) (λ h us. f h.0 h.1 us)
unfolding heading_read
headed end lower f [] = refl
headed end lower f (t ∷ ts) = by (word_of t)
  where
    inside : (w : List ℕ) (r : Read (List Parameter)) →
        then_read r (f w) ≡ then_read (then_read r (with_word w)) (λ h us. f h.0 h.1 us)
    inside w (Ok r) = refl
    inside w (Err fault) = refl

    by : (o : Option (List ℕ)) → heading_by end lower t.at o f ts
        ≡ then_read (heading_by end lower t.at o with_word ts) (λ h us. f h.0 h.1 us)
    by None = refl
    by (Some w) = inside w _

abbrev pub params_round : ℕ → Place → List Token → Read (List Parameter)
params_round room e ts = in_round_of e (below_statements e room) (λ r us. r.params_closed us) ts

abbrev pub heading_by_word : ℕ → Place → List Token → Read (List ℕ × List Parameter)
heading_by_word room e ts =
    then_read (word_here e ts) (λ w us. then_read (params_round room e us) (λ params vs. Ok ((w.1, params), vs)))

pub heading_is : (room : ℕ) (e : Place) (ts : List Token) →
    heading_read e (below_statements e room) ts ≡ heading_by_word room e ts
unfolding heading_read
heading_is room e [] = refl
heading_is room e (t ∷ ts) = by (word_of t)
  where
    by : (o : Option (List ℕ)) → heading_by e (below_statements e room) t.at o with_word ts
        ≡ then_read (word_by t ts o)
        (λ w us. then_read (params_round room e us) (λ params vs. Ok ((w.1, params), vs)))
    by None = refl
    by (Some w) = refl

-- the heading of a module and its scope, which is empty at first
abbrev pub module_by : ℕ → Place → Items → Items → Place → List Token → Read Items
module_by room at all inside e ts =
    then_read (heading_read e (below_statements e room) ts) (λ h us.
    then_read (statement_of e (below_statements e room) true inside us)
    (λ body vs. Ok (with_item all (module_of at h.0 h.1 body), vs)))

pub module_is : (room : ℕ) (at : Place) (all : Items) (inside : List Item) → inside ≡ [] → (e : Place)
    (ts : List Token) → (statement_rules_at e room).module_behind at all ts ≡ module_by room at all (items inside) e ts
module_is room at all inside none e ts =
    headed e (below_statements e room) (λ w params us. then_read
    (statement_of e (below_statements e room) true no_items us)
    (λ body vs. Ok (with_item all (module_of at w params body), vs))) ts
    ∙ ap (λ xs. module_by room at all (items xs) e ts) (sym none)

abbrev pub function_value : ℕ → Place → Items → List ℕ × List Parameter → Place → List Token → Read Items
function_value room at all h e us = then_read (expr_to e Semicolon (expr_of e (below e room)) us)
    (λ x vs. Ok (with_item all (function_of at h.0 h.1 x), vs))

abbrev pub function_by : ℕ → Place → Items → Place → List Token → Read Items
function_by room at all e ts = then_read (heading_read e (below_statements e room) ts)
    (λ h us. behind_sign e Assign us (function_value room at all h e))

pub function_is : (room : ℕ) (at : Place) (all : Items) (e : Place) (ts : List Token) →
    (statement_rules_at e room).function_behind at all ts ≡ function_by room at all e ts
function_is room at all e ts = headed e (below_statements e room)
    (λ w params us. behind_sign e Assign us (function_value room at all (w, params) e)) ts

-- ---- parameters
abbrev pub default_by : ℕ → Place → List Token → Read (Option Expression)
default_by room e ts = then_read (took (is_sign Assign) ts)
    (by_taken (λ us. then_read (expr_of e (below e room) us) (λ x vs. Ok (Some x, vs))) (λ us. Ok (None, us)))

pub default_is : (room : ℕ) (e : Place) (ts : List Token) → default_of e (below e room) ts ≡ default_by room e ts
unfolding default_of
default_is room e [] = refl
default_is room e (t ∷ ts) = taken (is_sign Assign)
    (λ us. then_read (expr_of e (below e room) us) (λ x vs. Ok (Some x, vs))) (λ us. Ok (None, us)) t ts

abbrev pub parameter_by_word : ℕ → Place → List Token → Read Parameter
parameter_by_word room e ts = then_read (word_here e ts) (λ w us.
    then_read (default_of e (below e room) us) (λ d vs. Ok (record { name = w.1; default = d }, vs)))

pub parameter_is : (room : ℕ) (e : Place) (ts : List Token) →
    parameter_of e (below e room) ts ≡ parameter_by_word room e ts
unfolding parameter_of
parameter_is room e [] = refl
parameter_is room e (t ∷ ts) = by (word_of t)
  where
    by : (o : Option (List ℕ)) → parameter_by e (below e room) t.at o ts
        ≡ then_read (word_by t ts o) (λ w us.
        then_read (default_of e (below e room) us) (λ d vs. Ok (record { name = w.1; default = d }, vs)))
    by None = refl
    by (Some w) = refl

-- a list of items with one more
pub items_push : (xs : List Item) (i : Item) → items (xs ++ (i ∷ [])) ≡ with_item (items xs) (item_of i)
items_push [] i = refl
items_push (x ∷ xs) i = ap (entry (item_of x)) (items_push xs i)
