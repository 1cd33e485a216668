-- The reader's count is the most that a derivation has open.
use Rattle.std.proofs.Common.{◌≡◌, ℕ, ◌<◌, ◌≤◌, List, [], ◌∷◌, ◌++◌, true, Some, length, length-append, refl, sym}
use Rattle.std.proofs.Common.{◌∙◌, arith, ◌⊎◌, inl, inr}
use Rattle.std.proofs.lemmas.Bool.{cases_lt}
use Rattle.scad_lex.specs.declared.token.Token.{Token}
use Rattle.scad_lex.specs.declared.token.Sign.TheVariants.{Semicolon, Dot}
use Rattle.scad_lex.specs.declared.token.Key.TheVariants.{Else}
use Rattle.scad_ast.specs.Tree.{name, member, Items, no_items, module_of, call_of, choice}
use Rattle.scad_grammar.specs.Tokens.{sign, key, word}
use Rattle.scad_grammar.specs.Lists.{with_item, with_statement}
use Rattle.scad_grammar.specs.Grammar.{post, a_name, a_member}
use Rattle.scad_grammar.specs.Statements.{otherwise, no_child, Statements, Derives, program}
use Rattle.scad_grammar.specs.Behind.{BehindItems, in_program, in_group, module_body, child_of, held_child}
use Rattle.scad_grammar.specs.Behind.{other_child, open_ended}
use Rattle.scad_grammar.specs.State.{State, want_expression, want_unary, have_name, have_post, want_member}
use Rattle.scad_grammar.specs.State.{want_arguments, in_arguments, have_word, want_element, want_test, in_elements}
use Rattle.scad_grammar.specs.State.{want_statement, have_items, have_start, want_marked, want_choice, want_child}
use Rattle.scad_grammar.specs.State.{want_defined, want_parameters, in_parameters, have_parameter, want_assign}
use Rattle.scad_grammar.specs.State.{open_count, have_expression, have_operand, have_links, after_argument}
use Rattle.scad_grammar.specs.State.{have_arguments, have_element, after_one, have_elements, after_parameter}
use Rattle.scad_grammar.specs.State.{have_parameters}
use Rattle.scad_grammar.specs.Machine.{start, reach}
use Rattle.scad_grammar.specs.Nesting.{constructs_of, open_at, CanHaveOpen, Opens}
use Rattle.scad_grammar.proofs.reader.Goes
use Rattle.scad_grammar.proofs.reader.Goes.{ItemsGoes, goes_module, goes_child, goes_held, goes_other}
use Rattle.scad_grammar.proofs.reader.Shortest.{here, quiet_posts, end_items, end_operand}
use Rattle.scad_grammar.proofs.reader.Viable.{viable}
use Rattle.scad_grammar.proofs.reader.Prefix.{reached_goes}
use Rattle.scad_grammar.proofs.reader.Sound.{into_program}
use Rattle.scad_grammar.proofs.nesting.OpenRest.{kept, kept_items, kept-le}
use Rattle.scad_grammar.proofs.nesting.Statements.{over_statements}
use Rattle.scad_grammar.proofs.nesting.Real.{IsReal}
use Rattle.scad_grammar.proofs.nesting.RealSteps.{reached_real}
use Rattle.scad_grammar.proofs.nesting.Places.{kept_at, at_start, none_open, kept_reached}
use Rattle.scad_grammar.proofs.nesting.Tracks.{Tracks}

-- ---- tokens behind which all that stands open stays open
record Continues (s : State) : Type 0 where
  ts : List Token
  p : Items
  goes : Goes.Goes s ts p
  all_open : kept s ts ≡ open_count s

record ItemsContinue (a : Items) (k : BehindItems) : Type 0 where
  ts : List Token
  p : Items
  goes : ItemsGoes a k ts p
  all_open : kept_items k ts ≡ open_ended k

items_continue : (k : BehindItems) (a : Items) → ItemsContinue a k
items_continue in_program a =
    let r = end_items in_program a in record { ts = r.ts; p = r.p; goes = r.goes; all_open = refl }
items_continue (in_group d k) a =
    let r = end_items (in_group d k) a in record { ts = r.ts; p = r.p; goes = r.goes; all_open = refl }
items_continue (module_body at w all outer k) a =
    let r = items_continue k (with_item outer (module_of at w all a)) in
    record { ts = r.ts; p = r.p; goes = goes_module r.goes; all_open = r.all_open }
items_continue (child_of at m w all outer k) a =
    let r = items_continue k (with_statement m outer (call_of at m.percent m.hash w all a)) in
    record { ts = r.ts; p = r.p; goes = goes_child r.goes; all_open = r.all_open }
items_continue (held_child at m e outer k) a =
    let r = end_items k (with_statement m outer (choice at m.percent m.hash e a no_items)) in
    record {
      ts = key Else here ∷ sign Semicolon here ∷ r.ts;
      p = r.p;
      goes = goes_held (otherwise no_child) r.goes;
      all_open = refl;
    }
items_continue (other_child at m e held outer k) a =
    let r = items_continue k (with_statement m outer (choice at m.percent m.hash e held a)) in
    record { ts = r.ts; p = r.p; goes = goes_other r.goes; all_open = r.all_open }

any_way : (s : State) → ((us : List Token) → kept s us ≡ open_count s) → Continues s
any_way s same = let r = viable s in record { ts = r.ts; p = r.p; goes = r.goes; all_open = same r.ts }

continues : (s : State) → IsReal s → Continues s
continues (have_name at w k) real =
    let r = end_operand k (member here (name at w) []) in
    record {
      ts = sign Dot here ∷ word [] here ∷ r.ts;
      p = r.p;
      goes = Goes.has_name (Goes.wants_unary
          (post (a_name refl) (a_member (quiet_posts (member here (name at w) []) r.quiet))) r.goes);
      all_open = omega arith;
    }
continues (have_post count e k) real =
    let r = end_operand k (member here e []) in
    record {
      ts = sign Dot here ∷ word [] here ∷ r.ts;
      p = r.p;
      goes = Goes.has_post (a_member (quiet_posts (member here e []) r.quiet)) r.goes;
      all_open = refl;
    }
continues (have_items a k) real =
    let r = items_continue k a in
    record { ts = r.ts; p = r.p; goes = Goes.has_items r.goes; all_open = r.all_open }
continues (want_expression k) real = any_way (want_expression k) (λ us. refl)
continues (want_unary k) real = any_way (want_unary k) (λ us. refl)
continues (want_member at e count k) real = any_way (want_member at e count k) (λ us. refl)
continues (want_arguments k) real = any_way (want_arguments k) (λ us. refl)
continues (in_arguments a k) real = any_way (in_arguments a k) (λ us. refl)
continues (have_word at w a k) real = any_way (have_word at w a k) (λ us. refl)
continues (want_element k) real = any_way (want_element k) (λ us. refl)
continues (want_test at k) real = any_way (want_test at k) (λ us. refl)
continues (in_elements at a k) real = any_way (in_elements at a k) (λ us. refl)
continues (want_statement d a k) real = any_way (want_statement d a k) (λ us. refl)
continues (have_start d at w a k) real = any_way (have_start d at w a k) (λ us. refl)
continues (want_marked m a k) real = any_way (want_marked m a k) (λ us. refl)
continues (want_choice at m a k) real = any_way (want_choice at m a k) (λ us. refl)
continues (want_child k) real = any_way (want_child k) (λ us. refl)
continues (want_defined what at a k) real = any_way (want_defined what at a k) (λ us. refl)
continues (want_parameters k) real = any_way (want_parameters k) (λ us. refl)
continues (in_parameters a k) real = any_way (in_parameters a k) (λ us. refl)
continues (have_parameter w a k) real = any_way (have_parameter w a k) (λ us. refl)
continues (want_assign at w all a k) real = any_way (want_assign at w all a k) (λ us. refl)
continues (have_expression e k) real = absurd real
continues (have_operand e k) real = absurd real
continues (have_links n count e k) real = absurd real
continues (after_argument all k) real = absurd real
continues (have_arguments all k) real = absurd real
continues (have_element el k) real = absurd real
continues (after_one at all k) real = absurd real
continues (have_elements at all k) real = absurd real
continues (after_parameter all k) real = absurd real
continues (have_parameters all k) real = absurd real

-- ---- a whole derivation
over_program : {ts : List Token} {all : Items} → (s : Statements true no_items ts [] all) → (v : ℕ) → v ≤ length ts →
    open_at v (constructs_of (program s)) ≡ kept_at start ts v
over_program {ts = ts} {all = all} s v h = by_place (cases_lt 0 v) (cases_lt v (length ts))
  where
    tracks : Tracks start ts [] (have_items all in_program) (constructs_of (program s)) 0
    tracks = over_statements s

    by_place : (0 < v) ⊎ (v ≤ 0) → (v < length ts) ⊎ (length ts ≤ v) →
        open_at v (constructs_of (program s)) ≡ kept_at start ts v
    by_place (inl some) (inl before) = let there = tracks.part.inside v some before in omega (arith, there)
    by_place (inl some) (inr late) =
        none_open 0 (length ts) v (constructs_of (program s)) tracks.part.bounds (inr late)
        ∙ sym (at_start start ts v late)
    by_place (inr none) other =
        none_open 0 (length ts) v (constructs_of (program s)) tracks.part.bounds (inl none)
        ∙ sym (tracks.part.behind v none ∙ at_start (have_items all in_program) [] v (omega arith))

derived_open : {ts : List Token} {all : Items} → (d : Derives ts all) → (v : ℕ) → v ≤ length ts →
    open_at v (constructs_of d) ≡ kept_at start ts v
derived_open (program s) v h = over_program s v h

-- where the reader stands behind tokens a derivation has open what it keeps
stays_open : (ts more : List Token) (s : State) {all : Items} (d : Derives (ts ++ more) all) →
    reach start ts ≡ Some s →
    open_at (length more) (constructs_of d) ≡ kept s more
stays_open ts more s d e = derived_open d (length more) (omega (arith, length-append ts more))
    ∙ kept_reached ts more start s e

pub counts_what_is_open : (ts : List Token) (s : State) → reach start ts ≡ Some s → Opens ts (open_count s)
counts_what_is_open ts s e = record { some = some; most = most }
  where
    c : Continues s
    c = continues s (reached_real ts start s tt e)

    d : Derives (ts ++ c.ts) c.p
    d = into_program (reached_goes ts c.ts c.p start s e c.goes)

    some : CanHaveOpen ts (open_count s)
    some = (c.ts, c.p, d, stays_open ts c.ts s d e ∙ c.all_open)

    most : (m : ℕ) → CanHaveOpen ts m → m ≤ open_count s
    most m x =
        let kept_there = stays_open ts x.0 s x.2 e in
        let few = kept-le s x.0 in
        omega (arith, kept_there, few, x.3)
