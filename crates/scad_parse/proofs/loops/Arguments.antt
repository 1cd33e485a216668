-- The turns of the loop over arguments.
use Rattle.std.proofs.Common.{◌≡◌, ℕ, zero, suc, ◌<◌, ◌≤◌, Bool, true, false, List, [], ◌∷◌, Option, Some, None, Ok}
use Rattle.std.proofs.Common.{Err, length, refl, sym, ap, subst, ◌∙◌, ◌++◌, arith}
use Rattle.std.specs.Prelude.{if◌then◌else◌}
use Rattle.std.proofs.lemmas.Bool.{cond-true, cond-false}
use Rattle.scad_fault.specs.declared.place.Place.{Place}
use Rattle.scad_lex.specs.declared.token.Token.{Token}
use Rattle.scad_lex.specs.declared.token.Sign.TheVariants.{Comma, Assign}
use Rattle.scad_ast.specs.Tree.{Expression, Arguments}
use Rattle.scad_grammar.specs.Tokens.{is_sign, word_of}
use Rattle.scad_grammar.specs.Lists.{with_argument}
use Rattle.scad_grammar.specs.Grammar.{begins_named, named_by as is_named_by, at_end_of_arguments, ends_arguments}
use Rattle.scad_grammar.specs.Machine.{Refusal, syntax_at}
use Rattle.scad_grammar.specs.Rules.{Read, then_read, Rules, expr_of, args_of, named_by, more_args}
use Rattle.scad_grammar.proofs.rules.Fewer.{Leaves, wider, then_leaves, either}
use Rattle.scad_ast.specs.Tree.{no_arguments}
use Rattle.scad_ast.specs.View.{arguments}
use Rattle.scad_ast.specs.declared.expression.Arg.{Arg}
use Rattle.scad_parse.specs.declared.reader.Reader.{Reader}
use Rattle.scad_parse.specs.Reading.{below, behind, argument_of, argument_seen, comma_or, no_value}
use Rattle.scad_parse.specs.Standing.{Reads, Turn, standing, nothing_read, lacks}
use Rattle.scad_parse.proofs.loops.Going.{Going, going_begins, going_on, going_ends, fewer_to_come, more_arguments}
use Rattle.scad_parse.proofs.loops.Going.{last_argument}
use Rattle.scad_parse.proofs.loops.Pushes.{arguments_push}
use Rattle.scad_parse.proofs.rules.Steps.{turn_stay}
use Rattle.scad_parse.proofs.loops.Turns.{leaves, comma_leaves, fewer, less, Goes, goes_on, stops, to_come}

behind_leaves : (ts : List Token) → length (behind (behind ts)) ≤ length ts
behind_leaves [] = omega arith
behind_leaves (t ∷ []) = omega arith
behind_leaves (t ∷ u ∷ us) = omega arith

argument_leaves : (end : Place) (room : ℕ) (ts : List Token) → Leaves (length ts) (argument_of end (below end room) ts)
unfolding argument_of
argument_leaves end room ts =
    either (length ts) (begins_named ts) _ _
    (wider (length (behind (behind ts))) (length ts) _ (behind_leaves ts)
    (then_leaves _ _ (expr_of end (below end room) (behind (behind ts))) _ ((fewer end room).expr (behind (behind ts)))
    (λ e us h. h)))
    (then_leaves _ _ (expr_of end (below end room) ts) _ ((fewer end room).expr ts) (λ e us h. h))

more_same : (end : Place) (lower : Option Rules) (n : ℕ) (all : Arguments) (us : List Token) →
    more_args end (args_of end lower n all) all us
    ≡ then_read (comma_or ends_arguments end no_value us) (λ _ vs. args_of end lower n all vs)
unfolding args_of
more_same end lower n all [] = refl
more_same end lower n all (t ∷ us) = by n (is_sign Comma t) (ends_arguments t) refl
  where
    by : (n : ℕ) (comma ends : Bool) → ends_arguments t ≡ ends →
        (if comma then args_of end lower n all us else (if ends then Ok (all, t ∷ us) else Err (syntax_at t.at)))
        ≡ then_read
        (if comma then Ok (no_value, us) else (if ends then Ok (no_value, t ∷ us) else Err (syntax_at t.at)))
        (λ _ vs. args_of end lower n all vs)
    by n true ends h = refl
    by zero false true h = sym (cond-true _ _ _ h)
    by (suc n) false true h = sym (cond-true _ _ _ h)
    by n false false h = refl

-- a value that is paired and then used
paired : {A B C : Type 0} (r : Read A) (pair : A → B) (f : A → List Token → Read C) (g : B → List Token → Read C) →
    ((a : A) (us : List Token) → f a us ≡ g (pair a) us) →
    then_read r f ≡ then_read (then_read r (λ a us. Ok (pair a, us))) g
paired (Ok r) pair f g same = same r.0 r.1
paired (Err fault) pair f g same = refl

module _ (end : Place) (lower : Option Rules) where
  abbrev pub behind_one : ℕ → Arguments → Option (List ℕ) × Expression → List Token → Read Arguments
  behind_one n all a us = then_read (comma_or ends_arguments end no_value us)
      (λ _ vs. args_of end lower n (with_argument all a.0 a.1) vs)

  named_same : (n : ℕ) (all : Arguments) (t : Token) (o : Option (List ℕ)) (ts : List Token) →
      named_by end lower t ts o (λ called e us.
      more_args end (args_of end lower n (with_argument all called e)) (with_argument all called e) us)
      ≡ then_read (if is_named_by o ts then then_read (expr_of end lower (behind ts)) (λ e us. Ok ((o, e), us))
      else then_read (expr_of end lower (t ∷ ts)) (λ e us. Ok ((None, e), us))) (behind_one n all)
  named_same n all t None ts = paired (expr_of end lower (t ∷ ts)) (λ e. (None, e)) _ (behind_one n all)
      (λ e us. more_same end lower n (with_argument all None e) us)
  named_same n all t (Some w) [] = paired (expr_of end lower (t ∷ [])) (λ e. (None, e)) _ (behind_one n all)
      (λ e us. more_same end lower n (with_argument all None e) us)
  named_same n all t (Some w) (u ∷ us) = by (is_sign Assign u)
    where
      by : (b : Bool) →
          (if b then then_read (expr_of end lower us) (λ e vs.
          more_args end (args_of end lower n (with_argument all (Some w) e)) (with_argument all (Some w) e) vs)
          else then_read (expr_of end lower (t ∷ u ∷ us)) (λ e vs.
          more_args end (args_of end lower n (with_argument all None e)) (with_argument all None e) vs))
          ≡ then_read (if b then then_read (expr_of end lower us) (λ e vs. Ok ((Some w, e), vs))
          else then_read (expr_of end lower (t ∷ u ∷ us)) (λ e vs. Ok ((None, e), vs))) (behind_one n all)
      by true = paired (expr_of end lower us) (λ e. (Some w, e)) _ (behind_one n all)
          (λ e vs. more_same end lower n (with_argument all (Some w) e) vs)
      by false = paired (expr_of end lower (t ∷ u ∷ us)) (λ e. (None, e)) _ (behind_one n all)
          (λ e vs. more_same end lower n (with_argument all None e) vs)

  args_turn : (all : Arguments) (ts : List Token) → at_end_of_arguments ts ≡ false → (n : ℕ) → length ts ≤ n →
      args_of end lower n all ts ≡ then_read (argument_of end lower ts) (behind_one (less n) all)
  unfolding args_of argument_of expr_of
  args_turn all [] h zero enough = refl
  args_turn all [] h (suc n) enough = refl
  args_turn all (t ∷ ts) h zero enough = absurd (let no : ⊥ = omega (arith, enough) in no)
  args_turn all (t ∷ ts) h (suc n) enough = cond-false _ _ _ h ∙ named_same n all t (word_of t) ts

  args_last : (all : Arguments) (ts : List Token) → at_end_of_arguments ts ≡ true → (n : ℕ) → length ts ≤ n →
      args_of end lower n all ts ≡ Ok (all, ts)
  unfolding args_of
  args_last all [] h n enough = absurd (cc)
  args_last all (t ∷ ts) h zero enough = cond-true _ _ _ h
  args_last all (t ∷ ts) h (suc n) enough = cond-true _ _ _ h

-- an argument and what stands behind it take tokens
pub args_fewer : (end : Place) (room : ℕ) (ts us vs : List Token) (a : Option (List ℕ) × Expression) →
    argument_of end (below end room) ts ≡ Ok (a, us) → comma_or ends_arguments end no_value us ≡ Ok (no_value, vs) →
    length vs < length ts
args_fewer end room ts us vs a read comma =
    leaves (length ts) _ no_value vs comma (comma_leaves ends_arguments end no_value us (length ts)
    (leaves (length ts) _ a us read (argument_leaves end room ts)))

pub args_go : (end : Place) (room : ℕ) (whole : Read Arguments) (all : Arguments) (ts us vs : List Token)
    (a : Option (List ℕ) × Expression) → at_end_of_arguments ts ≡ false →
    argument_of end (below end room) ts ≡ Ok (a, us) → comma_or ends_arguments end no_value us ≡ Ok (no_value, vs) →
    Goes (args_of end (below end room)) whole all ts →
    Goes (args_of end (below end room)) whole (with_argument all a.0 a.1) vs
args_go end room whole all ts us vs a h read comma =
    goes_on (args_of end (below end room)) whole all (with_argument all a.0 a.1) ts vs
    (λ n enough. args_turn end (below end room) all ts h n enough
    ∙ (ap (λ r. then_read r (behind_one end (below end room) (less n) all)) read
    ∙ ap (λ r. then_read r (λ _ ws. args_of end (below end room) (less n) (with_argument all a.0 a.1) ws)) comma))
    (args_fewer end room ts us vs a read comma)

pub args_stop : (end : Place) (room : ℕ) (whole : Read Arguments) (all : Arguments) (ts : List Token)
    (fault : Refusal) → at_end_of_arguments ts ≡ false → argument_of end (below end room) ts ≡ Err fault →
    Goes (args_of end (below end room)) whole all ts → whole ≡ Err fault
args_stop end room whole all ts fault h read =
    stops (args_of end (below end room)) whole (Err fault) all ts
    (λ n enough. args_turn end (below end room) all ts h n enough
    ∙ ap (λ r. then_read r (behind_one end (below end room) (less n) all)) read)

pub args_stop_behind : (end : Place) (room : ℕ) (whole : Read Arguments) (all : Arguments) (ts us : List Token)
    (a : Option (List ℕ) × Expression) (fault : Refusal) → at_end_of_arguments ts ≡ false →
    argument_of end (below end room) ts ≡ Ok (a, us) → comma_or ends_arguments end no_value us ≡ Err fault →
    Goes (args_of end (below end room)) whole all ts → whole ≡ Err fault
args_stop_behind end room whole all ts us a fault h read comma =
    stops (args_of end (below end room)) whole (Err fault) all ts
    (λ n enough. args_turn end (below end room) all ts h n enough
    ∙ (ap (λ r. then_read r (behind_one end (below end room) (less n) all)) read
    ∙ ap (λ r. then_read r (λ _ ws. args_of end (below end room) (less n) (with_argument all a.0 a.1) ws)) comma))

pub args_end : (end : Place) (room : ℕ) (whole : Read Arguments) (all : Arguments) (ts : List Token) →
    at_end_of_arguments ts ≡ true → Goes (args_of end (below end room)) whole all ts → whole ≡ Ok (all, ts)
args_end end room whole all ts h =
    stops (args_of end (below end room)) whole (Ok (all, ts)) all ts (args_last end (below end room) all ts h)

-- ---- the loop, as its reader goes on
pub record ArgumentsGo (room : ℕ) (q r : Reader) (items : List Arg) : Type 0 where
  pub ends : r.end ≡ q.end
  pub going : Going (args_of q.end (below q.end room)) no_arguments (standing q) (arguments items) (standing r)

pub arguments_begin : (room : ℕ) (q : Reader) (items : List Arg) → items ≡ [] → ArgumentsGo room q q items
arguments_begin room q items none =
    record {
      ends = refl;
      going = going_begins (args_of q.end (below q.end room)) no_arguments (arguments items)
          (standing q) (ap arguments none);
    }

module _ (room : ℕ) {q r r1 r2 r3 : Reader} (items after : List Arg) (x : Arg) (g : ArgumentsGo room q r items)
    (more : lacks ends_arguments (standing r) ≡ true)
    (read : Reads (λ e ts. argument_of e (below e room) ts) r r1 (argument_seen x))
    (push : Reads (nothing_read (items ++ (x ∷ []))) r1 r2 after)
    (comma : Reads (λ e ts. comma_or ends_arguments e no_value ts) r2 r3 no_value) where
  abbrev read_here : Turn (argument_of q.end (below q.end room)) (standing r) (standing r1) (argument_seen x)
  read_here =
      subst (λ e. Turn (argument_of e (below e room)) (standing r) (standing r1) (argument_seen x)) g.ends read.turn

  abbrev comma_here : Turn (comma_or ends_arguments q.end no_value) (standing r2) (standing r3) no_value
  comma_here = subst (λ e. Turn (comma_or ends_arguments e no_value) (standing r2) (standing r3) no_value)
      (push.ends ∙ (read.ends ∙ g.ends)) comma.turn

  pub arguments_go : ArgumentsGo room q r3 after
  arguments_go = record {
    ends = comma.ends ∙ (push.ends ∙ (read.ends ∙ g.ends));
    going = going_on (args_of q.end (below q.end room)) no_arguments arguments (argument_of q.end (below q.end room))
        (comma_or ends_arguments q.end no_value) items (items ++ (x ∷ [])) after (argument_seen x) (standing q)
        (standing r)
        (standing r1) (standing r2) (standing r3) g.going read_here push.turn comma_here
        (λ ts0 ts us ws here there is end h. subst (λ all. Goes (args_of q.end (below q.end room))
        (args_of q.end (below q.end room) (length ts0) no_arguments ts0) all ws) (sym (arguments_push items x))
        (args_go q.end room (args_of q.end (below q.end room) (length ts0) no_arguments ts0) (arguments items) ts us ws
        (argument_seen x) (more_arguments (standing r) ts more here) is end h))
        (λ ts0 ts fault here is h. args_stop q.end room
        (args_of q.end (below q.end room) (length ts0) no_arguments ts0) (arguments items) ts fault
        (more_arguments (standing r) ts more here) is h)
        (λ ts0 ts us fault here there is end h. args_stop_behind q.end room
        (args_of q.end (below q.end room) (length ts0) no_arguments ts0) (arguments items) ts us (argument_seen x) fault
        (more_arguments (standing r) ts more here) is end h);
  }

  pub arguments_fewer : to_come (standing r3) < to_come (standing r)
  arguments_fewer = fewer_to_come (args_of q.end (below q.end room)) no_arguments arguments
      (argument_of q.end (below q.end room)) (comma_or ends_arguments q.end no_value) items (items ++ (x ∷ [])) after
      (argument_seen x) ends_arguments (standing r) (standing r1) (standing r2) (standing r3) more read_here push.turn
      comma_here (λ ts us ws is end. args_fewer q.end room ts us ws (argument_seen x) is end)

pub arguments_end : (room : ℕ) {q r : Reader} (items after : List Arg) → ArgumentsGo room q r items →
    lacks ends_arguments (standing r) ≡ false → after ≡ items →
    Reads (λ e ts. args_of e (below e room) (length ts) no_arguments ts) q r (arguments after)
arguments_end room {q} {r} items after g last same = record {
  ends = g.ends;
  turn = subst (λ all. Turn (λ ts. args_of q.end (below q.end room) (length ts) no_arguments ts) (standing q)
      (standing r)
      (arguments all)) (sym same) (going_ends (args_of q.end (below q.end room)) no_arguments (arguments items)
      (λ ts. Ok (arguments items, ts)) (standing q) (standing r) (standing r) (arguments items) g.going
      (turn_stay (standing r) (arguments items)) (λ ts0 ts here h. args_end q.end room _ (arguments items) ts
      (last_argument (standing r) ts last here) h));
}
