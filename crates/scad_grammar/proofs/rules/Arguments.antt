-- The rules of arguments give the reader's outcome.
use Rattle.std.proofs.Common.{◌≡◌, ℕ, zero, suc, ◌+◌, ◌<◌, ◌≤◌, Bool, true, false, if◌then◌else◌, List, [], ◌∷◌}
use Rattle.std.proofs.Common.{Option, Some, None, Result, Ok, Err, length, refl, ap, sym, ◌∙◌, arith}
use Rattle.std.proofs.lemmas.Bool.{cond-false}
use Rattle.scad_fault.specs.declared.place.Place.{Place}
use Rattle.scad_lex.specs.declared.token.Token.{Token}
use Rattle.scad_lex.specs.declared.token.TokenKind.{TokenKind}
use Rattle.scad_lex.specs.declared.token.TokenKind.TheVariants.{Sign}
use Rattle.scad_lex.specs.declared.token.Sign.TheVariants.{CloseRound, Semicolon, Comma, Assign}
use Rattle.scad_ast.specs.Tree.{Expression, Arguments, no_arguments, Items}
use Rattle.scad_grammar.specs.Tokens.{is_sign, is_sign_kind, word_of, word}
use Rattle.scad_grammar.specs.Lists.{with_argument}
use Rattle.scad_grammar.specs.Grammar.{ends_arguments, ends_arguments_kind}
use Rattle.scad_grammar.specs.Behind.{tested, argument_of, BehindArguments, of_call, of_keyed, of_for, of_steps}
use Rattle.scad_grammar.specs.Behind.{of_let, of_statement, open_arguments}
use Rattle.scad_grammar.specs.State.{State, open_count, want_expression, have_expression, have_name, in_arguments}
use Rattle.scad_grammar.specs.State.{have_word, have_arguments, opened}
use Rattle.scad_grammar.specs.Move.{stuck}
use Rattle.scad_grammar.specs.Steps.{only, expression_step, end_arguments, after_argument_step, argument_step}
use Rattle.scad_grammar.specs.Steps.{arguments_step, after_expression, word_argument, unary_step, prim_step}
use Rattle.scad_grammar.specs.Machine.{step, finish, Refusal, syntax_at, most_open, outcome}
use Rattle.scad_grammar.specs.Rules.{Read, then_read, Rules, expr_of, named_by, more_args, args_of, args_closed_of}
use Rattle.scad_grammar.proofs.reader.TokenTests.{is_the_word}
use Rattle.scad_grammar.proofs.rules.Turns.{follow, answered, by_outcome, goes, goes_nowhere, ends_none, if_gives}
use Rattle.scad_grammar.proofs.rules.Turns.{then_gives, sign_gives}
use Rattle.scad_grammar.proofs.rules.Fewer.{Leaves, BelowFewer, expr_leaves}
use Rattle.scad_grammar.proofs.rules.Outcome.{Below}
use Rattle.scad_grammar.proofs.rules.Operands.{over_expr}
use Rattle.scad_grammar.proofs.faults.Foreign.{only_false}

-- one rule and another behind it, which has fewer tokens
pub then_gives_on : {A B : Type 0} (n : ℕ) (x : Result Items Refusal) (r : Read A) (f : A → List Token → Read B)
    (mid : A → List Token → Result Items Refusal) (next : B → List Token → Result Items Refusal) → Leaves n r →
    x ≡ follow r mid → ((a : A) (us : List Token) → length us < n → mid a us ≡ follow (f a us) next) →
    x ≡ follow (then_read r f) next
then_gives_on n x (Ok r) f mid next few h g = h ∙ g r.0 r.1 few
then_gives_on n x (Err fault) f mid next few h g = h

-- neither `)` nor `;` ends arguments
no_round : (kind : TokenKind) → ends_arguments_kind kind ≡ false → is_sign_kind CloseRound kind ≡ false
no_round (Sign CloseRound) h = h
no_round (Sign Semicolon) h = refl
no_round (Sign _) h = refl
no_round _ h = refl

no_semicolon : (kind : TokenKind) → ends_arguments_kind kind ≡ false → is_sign_kind Semicolon kind ≡ false
no_semicolon (Sign CloseRound) h = refl
no_semicolon (Sign Semicolon) h = h
no_semicolon (Sign _) h = refl
no_semicolon _ h = refl

no_end : (all : Arguments) (k : BehindArguments) (t : Token) → ends_arguments t ≡ false →
    end_arguments all k t ≡ stuck
unfolding end_arguments
no_end all (of_call at w k) t h = only_false _ (no_round t.kind h)
no_end all (of_keyed what at k) t h = only_false _ (no_round t.kind h)
no_end all (of_for at k) t h =
    cond-false _ _ _ (no_round t.kind h) ∙ only_false _ (no_semicolon t.kind h)
no_end all (of_steps at starts e k) t h = only_false _ (no_round t.kind h)
no_end all (of_let at k) t h = only_false _ (no_round t.kind h)
no_end all (of_statement at m w a k) t h = only_false _ (no_round t.kind h)

module _ (end : Place) (n : ℕ) (below : Option Rules) (linked : Below end n below) (few : BelowFewer below) where
  -- behind `,` or at the end of the arguments
  more_gives : (all : Arguments) (called : Option (List ℕ)) (e : Expression) (us : List Token) (k : BehindArguments)
      (go_on : List Token → Read Arguments) → (1 + open_arguments k) + n ≡ most_open →
      ((vs : List Token) → length vs < length us → outcome (in_arguments (with_argument all called e) k) vs end
      ≡ follow (go_on vs) (λ x ws. outcome (have_arguments x k) ws end)) →
      outcome (have_expression e (argument_of called all k)) us end
      ≡ follow (more_args end go_on (with_argument all called e) us) (λ x ws. outcome (have_arguments x k) ws end)
  unfolding step finish after_expression after_argument_step
  more_gives all called e [] k go_on room later = ends_none (have_expression e (argument_of called all k)) end refl
  more_gives all called e (t ∷ us) k go_on room later =
      by_outcome (have_expression e (argument_of called all k)) t us end
      ∙ if_gives (is_sign Comma t) _ _ _ _ _ end t.at us
      (goes (in_arguments (with_argument all called e) k) t.at us end (omega (arith, room)) ∙ later us (omega arith))
      (by_end (ends_arguments t) refl)
    where
      by_end : (b : Bool) → ends_arguments t ≡ b →
          answered end t.at us (end_arguments (with_argument all called e) k t)
          ≡ follow (if b then Ok (with_argument all called e, t ∷ us) else Err (syntax_at t.at))
          (λ x ws. outcome (have_arguments x k) ws end)
      by_end true h = sym (by_outcome (have_arguments (with_argument all called e) k) t us end)
      by_end false h = ap (answered end t.at us) (no_end (with_argument all called e) k t h)
          ∙ goes_nowhere t.at us end

  -- an unnamed argument that begins with a WORD
  word_alike : (w : List ℕ) (all : Arguments) (at : Place) (us : List Token) (k : BehindArguments) →
      (1 + open_arguments k) + n ≡ most_open →
      outcome (want_expression (argument_of None all k)) (word w at ∷ us) end
      ≡ outcome (have_name at w (opened 6 (tested (argument_of None all k)))) us end
  unfolding step expression_step unary_step prim_step
  word_alike w all at us k room =
      by_outcome (want_expression (argument_of None all k)) (word w at) us end
      ∙ goes (have_name at w (opened 6 (tested (argument_of None all k)))) at us end (omega (arith, room))

  abbrev Later : ℕ → BehindArguments → Type 0
  Later turns k =
      (all : Arguments) (vs : List Token) → length vs ≤ turns →
      outcome (in_arguments all k) vs end ≡ follow (args_of end below turns all vs)
      (λ x ws. outcome (have_arguments x k) ws end)

  -- an argument that is an expression, and what stands behind it
  plain_gives : (turns : ℕ) (all : Arguments) (called : Option (List ℕ)) (ts : List Token) (k : BehindArguments) →
      length ts ≤ suc turns →
      (1 + open_arguments k) + n ≡ most_open → Later turns k →
      outcome (want_expression (argument_of called all k)) ts end
      ≡ follow (then_read (expr_of end below ts) (λ e us.
      more_args end (args_of end below turns (with_argument all called e)) (with_argument all called e) us))
      (λ x ws. outcome (have_arguments x k) ws end)
  plain_gives turns all called ts k long room later =
      then_gives_on (length ts) _ (expr_of end below ts) _
      (λ e us. outcome (have_expression e (argument_of called all k)) us end) _
      (expr_leaves end below few ts) (over_expr end n below linked ts (argument_of called all k) room)
      (λ e us h. more_gives all called e us k _ room
      (λ vs g. later (with_argument all called e) vs (omega (arith, long, h, g))))

  word_gives : (turns : ℕ) (all : Arguments) (t : Token) (w : List ℕ) (ts : List Token) (k : BehindArguments) →
      word_of t ≡ Some w →
      length ts ≤ turns → (1 + open_arguments k) + n ≡ most_open → Later turns k →
      outcome (have_word t.at w all k) ts end
      ≡ follow (named_by end below t ts (Some w) (λ called e us.
      more_args end (args_of end below turns (with_argument all called e)) (with_argument all called e) us))
      (λ x ws. outcome (have_arguments x k) ws end)
  unfolding step finish word_argument outcome
  word_gives turns all t w [] k is long room later =
      sym (ap (λ (x : Token). outcome (want_expression (argument_of None all k)) (x ∷ []) end) (is_the_word w t is)
      ∙ word_alike w all t.at [] k room)
      ∙ plain_gives turns all None (t ∷ []) k (omega arith) room later
  word_gives turns all t w (u ∷ us) k is long room later =
      by_outcome (have_word t.at w all k) u us end
      ∙ if_gives (is_sign Assign u) _ _ _ _ _ end u.at us
      (goes (want_expression (argument_of (Some w) all k)) u.at us end (omega (arith, room))
      ∙ plain_gives turns all (Some w) us k (omega (arith, long)) room later)
      (sym (by_outcome (have_name t.at w (opened 6 (tested (argument_of None all k)))) u us end)
      ∙ (sym (ap (λ (x : Token). outcome (want_expression (argument_of None all k)) (x ∷ u ∷ us) end)
      (is_the_word w t is)
      ∙ word_alike w all t.at (u ∷ us) k room)
      ∙ plain_gives turns all None (t ∷ u ∷ us) k (omega (arith, long)) room later))

  argument_gives : (turns : ℕ) (all : Arguments) (t : Token) (o : Option (List ℕ)) (ts : List Token)
      (k : BehindArguments) → word_of t ≡ o →
      length ts ≤ turns → (1 + open_arguments k) + n ≡ most_open → Later turns k →
      answered end t.at ts (argument_step t o all k)
      ≡ follow (named_by end below t ts o (λ called e us.
      more_args end (args_of end below turns (with_argument all called e)) (with_argument all called e) us))
      (λ x ws. outcome (have_arguments x k) ws end)
  unfolding step
  argument_gives turns all t (Some w) ts k is long room later =
      goes (have_word t.at w all k) t.at ts end (omega (arith, room))
      ∙ word_gives turns all t w ts k is long room later
  argument_gives turns all t None ts k is long room later =
      sym (by_outcome (want_expression (argument_of None all k)) t ts end)
      ∙ plain_gives turns all None (t ∷ ts) k (omega (arith, long)) room later

  pub over_args : (turns : ℕ) (k : BehindArguments) → (1 + open_arguments k) + n ≡ most_open → Later turns k
  unfolding step arguments_step args_of finish
  over_args zero k room all [] long = ends_none (in_arguments all k) end refl
  over_args (suc turns) k room all [] long = ends_none (in_arguments all k) end refl
  over_args zero k room all (t ∷ ts) long = absurd (omega arith)
  over_args (suc turns) k room all (t ∷ ts) long =
      by_outcome (in_arguments all k) t ts end
      ∙ if_gives (ends_arguments t) _ _ _ _ _ end t.at ts (sym (by_outcome (have_arguments all k) t ts end))
      (argument_gives turns all t (word_of t) ts k refl (omega (arith, long)) room (over_args turns k room))

  pub over_closed : (ts : List Token) (k : BehindArguments) (next : Arguments → State) →
      ((all : Arguments) (t : Token) → end_arguments all k t ≡ only (is_sign CloseRound t) (next all)) →
      ((all : Arguments) → open_count (next all) ≤ most_open) → (1 + open_arguments k) + n ≡ most_open →
      outcome (in_arguments no_arguments k) ts end ≡ follow (args_closed_of end below ts)
      (λ all us. outcome (next all) us end)
  unfolding step finish
  over_closed ts k next closes fits room =
      then_gives _ (args_of end below (length ts) no_arguments ts) _
      (λ all us. outcome (have_arguments all k) us end) _
      (over_args (length ts) k room no_arguments ts (omega arith))
      (λ all us. sign_gives CloseRound (have_arguments all k) (next all) us (λ vs. Ok (all, vs))
      (λ x vs. outcome (next x) vs end) end refl (closes all) (fits all) (λ vs. refl))
