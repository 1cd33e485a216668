-- The rules of calls, `if` and children give the reader's outcome.
use Rattle.std.proofs.Common.{◌≡◌, ℕ, ◌+◌, false, List, [], ◌∷◌, Option}
use Rattle.std.proofs.Common.{Some, None, refl, sym, ◌∙◌, arith}
use Rattle.std.specs.Prelude.{codes}
use Rattle.scad_fault.specs.declared.place.Place.{Place}
use Rattle.scad_lex.specs.declared.token.Token.{Token}
use Rattle.scad_lex.specs.declared.token.Sign.TheVariants.{OpenCurly, Semicolon}
use Rattle.scad_lex.specs.declared.token.Sign.TheVariants.{Star, Percent, Hash, Bang}
use Rattle.scad_lex.specs.declared.token.Key.TheVariants.{If, Else, Include, Use}
use Rattle.scad_ast.specs.Tree.{Expression, Items, no_items, call_of}
use Rattle.scad_ast.specs.Tree.{choice}
use Rattle.scad_grammar.specs.Tokens.{is_sign, is_key}
use Rattle.scad_grammar.specs.Lists.{with_statement, Marks, no_marks, starred, percented}
use Rattle.scad_grammar.specs.Lists.{hashed}
use Rattle.scad_grammar.specs.Behind.{BehindItems, in_group}
use Rattle.scad_grammar.specs.Behind.{child_of as behind_child, held_child, other_child}
use Rattle.scad_grammar.specs.Behind.{statement_test, of_statement}
use Rattle.scad_grammar.specs.Behind.{open_items}
use Rattle.scad_grammar.specs.State.{want_arguments}
use Rattle.scad_grammar.specs.State.{have_items, want_marked, want_choice, want_child}
use Rattle.scad_grammar.specs.Steps.{end_arguments, after_expression}
use Rattle.scad_grammar.specs.StatementSteps.{callee, call_step, marked_step, first_step}
use Rattle.scad_grammar.specs.StatementSteps.{child_step, after_items, finish_items}
use Rattle.scad_grammar.specs.Machine.{step, finish, most_open, outcome}
use Rattle.scad_grammar.specs.Rules.{Rules}
use Rattle.scad_grammar.specs.StatementRules.{StatementRules, call_first}
use Rattle.scad_grammar.specs.StatementRules.{marked_first, first_of, child_of, call_behind_of, otherwise_of}
use Rattle.scad_grammar.specs.StatementRules.{choice_behind_of, call_by, marked_of}
use Rattle.scad_grammar.proofs.nesting.OpenRest.{ended-le}
use Rattle.scad_grammar.proofs.rules.Turns.{follow, answered, by_outcome, goes, goes_nowhere, leaves_out}
use Rattle.scad_grammar.proofs.rules.Turns.{ends_none, if_gives, then_gives, settle}
use Rattle.scad_grammar.proofs.rules.Outcome.{Linked}
use Rattle.scad_grammar.proofs.rules.LinkedStatements.{BelowStatements, deeper_gives}

module _ (end : Place) (n : ℕ) (same : Rules) (linked : Linked end n same) (below : Option StatementRules)
    (lower : BelowStatements end n below) where
  call_gives : (t : Token) (o : Option (List ℕ)) (all : Items) (ts : List Token) (k : BehindItems) →
      open_items k + n ≡ most_open →
      answered end t.at ts (call_step t o no_marks all k) ≡ follow (call_first below t o all ts)
      (λ b us. outcome (have_items b k) us end)
  call_gives t (Some w) all ts k room =
      deeper_gives end n below lower (want_arguments (of_statement t.at no_marks w all k)) t.at ts
      (λ r. r.call_behind t.at no_marks w all ts) _
      (open_items k) room refl (λ m r l fits. l.call_behind t.at no_marks w all ts k fits)
  call_gives t None all ts k room = goes_nowhere t.at ts end

  pub first_gives : (t : Token) (all : Items) (ts : List Token) (k : BehindItems) → open_items k + n ≡ most_open →
      answered end t.at ts (first_step t all k) ≡ follow (first_of below t all ts)
      (λ b us. outcome (have_items b k) us end)
  unfolding first_step marked_step first_of marked_first
  first_gives t all ts k room =
      if_gives (is_key Include t) _ _ _ _ _ end t.at ts (leaves_out (codes "include") t.at ts end)
      (if_gives (is_key Use t) _ _ _ _ _ end t.at ts (leaves_out (codes "use") t.at ts end)
      (if_gives (is_sign Star t) _ _ _ _ _ end t.at ts
      (deeper_gives end n below lower (want_marked (starred no_marks) all k) t.at ts
      (λ r. r.marked (starred no_marks) all ts) _ (open_items k) room refl
      (λ m r l fits. l.marked (starred no_marks) all ts k fits))
      (if_gives (is_sign Percent t) _ _ _ _ _ end t.at ts
      (deeper_gives end n below lower (want_marked (percented no_marks) all k) t.at ts
      (λ r. r.marked (percented no_marks) all ts) _ (open_items k) room refl
      (λ m r l fits. l.marked (percented no_marks) all ts k fits))
      (if_gives (is_sign Hash t) _ _ _ _ _ end t.at ts
      (deeper_gives end n below lower (want_marked (hashed no_marks) all k) t.at ts
      (λ r. r.marked (hashed no_marks) all ts) _ (open_items k) room refl
      (λ m r l fits. l.marked (hashed no_marks) all ts k fits))
      (if_gives (is_sign Bang t) _ _ _ _ _ end t.at ts (leaves_out (codes "!") t.at ts end)
      (if_gives (is_key If t) _ _ _ _ _ end t.at ts
      (deeper_gives end n below lower (want_choice t.at no_marks all k) t.at ts
      (λ r. r.choice_behind t.at no_marks all ts) _ (open_items k) room refl
      (λ m r l fits. l.choice_behind t.at no_marks all ts k fits))
      (call_gives t (callee t) all ts k room)))))))

  pub over_child : (ts : List Token) (k : BehindItems) → open_items k + n ≡ most_open →
      outcome (want_child k) ts end ≡ follow (child_of end below ts) (λ c us. outcome (have_items c k) us end)
  unfolding step child_step child_of finish
  over_child [] k room = ends_none (want_child k) end refl
  over_child (t ∷ ts) k room =
      by_outcome (want_child k) t ts end
      ∙ if_gives (is_sign Semicolon t) _ _ _ _ _ end t.at ts
      (goes (have_items no_items k) t.at ts end (omega (arith, room, ended-le k)))
      (if_gives (is_sign OpenCurly t) _ _ _ _ _ end t.at ts
      (deeper_gives end n below lower (have_items no_items (in_group false k)) t.at ts
      (λ r. r.group false no_items ts) _ (open_items k) room refl
      (λ m r l fits. l.group false no_items ts k fits))
      (first_gives t no_items ts k room))

  pub over_call : (at : Place) (m : Marks) (w : List ℕ) (all : Items) (ts : List Token) (k : BehindItems) →
      (1 + open_items k) + n ≡ most_open →
      outcome (want_arguments (of_statement at m w all k)) ts end
      ≡ follow (call_behind_of end same below at m w all ts) (λ b us. outcome (have_items b k) us end)
  unfolding step finish end_arguments after_items finish_items
  over_call at m w all ts k room =
      then_gives _ (same.round_args ts) _ (λ args us. outcome (want_child (behind_child at m w args all k)) us end) _
      (linked.round_args ts (of_statement at m w all k) (λ args. want_child (behind_child at m w args all k))
      (λ args t. refl) (λ args. omega (arith, room)) room)
      (λ args us. then_gives _ (child_of end below us) _
      (λ c vs. outcome (have_items c (behind_child at m w args all k)) vs end) _
      (over_child us (behind_child at m w args all k) room)
      (λ c vs. settle (have_items c (behind_child at m w args all k))
      (have_items (with_statement m all (call_of at m.percent m.hash w args c)) k) (λ t. refl) refl vs end))

  over_otherwise : (at : Place) (m : Marks) (e : Expression) (all held : Items) (ts : List Token) (k : BehindItems) →
      (1 + open_items k) + n ≡ most_open →
      outcome (have_items held (held_child at m e all k)) ts end
      ≡ follow (otherwise_of end below at m e all held ts) (λ b us. outcome (have_items b k) us end)
  unfolding step finish after_items finish_items outcome
  over_otherwise at m e all held [] k room = refl
  over_otherwise at m e all held (t ∷ ts) k room =
      by_outcome (have_items held (held_child at m e all k)) t ts end
      ∙ if_gives (is_key Else t) _ _ _ _ _ end t.at ts
      (goes (want_child (other_child at m e held all k)) t.at ts end (omega (arith, room))
      ∙ then_gives _ (child_of end below ts) _
      (λ o us. outcome (have_items o (other_child at m e held all k)) us end) _
      (over_child ts (other_child at m e held all k) room)
      (λ o us. settle (have_items o (other_child at m e held all k))
      (have_items (with_statement m all (choice at m.percent m.hash e held o)) k) (λ t. refl) refl us end))
      (sym (by_outcome (have_items (with_statement m all (choice at m.percent m.hash e held no_items)) k) t ts end))

  pub over_choice : (at : Place) (m : Marks) (all : Items) (ts : List Token) (k : BehindItems) →
      (1 + open_items k) + n ≡ most_open →
      outcome (want_choice at m all k) ts end ≡ follow (choice_behind_of end same below at m all ts)
      (λ b us. outcome (have_items b k) us end)
  unfolding step finish after_expression
  over_choice at m all ts k room =
      then_gives _ (same.round_expr ts) _ (λ e us. outcome (want_child (held_child at m e all k)) us end) _
      (linked.round_expr ts (want_choice at m all k) (statement_test at m all k)
      (λ e. want_child (held_child at m e all k)) refl (λ t. refl) (λ e t. refl)
      (λ e. omega (arith, room)) (omega arith) room)
      (λ e us. then_gives _ (child_of end below us) (otherwise_of end below at m e all)
      (λ held vs. outcome (have_items held (held_child at m e all k)) vs end) _
      (over_child us (held_child at m e all k) room) (λ held vs. over_otherwise at m e all held vs k room))

  call_by_gives : (t : Token) (o : Option (List ℕ)) (m : Marks) (all : Items) (ts : List Token) (k : BehindItems) →
      (1 + open_items k) + n ≡ most_open →
      answered end t.at ts (call_step t o m all k) ≡ follow (call_by end same below t o m all ts)
      (λ b us. outcome (have_items b k) us end)
  call_by_gives t (Some w) m all ts k room =
      goes (want_arguments (of_statement t.at m w all k)) t.at ts end (omega (arith, room))
      ∙ over_call t.at m w all ts k room
  call_by_gives t None m all ts k room = goes_nowhere t.at ts end

  pub over_marked : (m : Marks) (all : Items) (ts : List Token) (k : BehindItems) →
      (1 + open_items k) + n ≡ most_open →
      outcome (want_marked m all k) ts end ≡ follow (marked_of end same below m all ts)
      (λ b us. outcome (have_items b k) us end)
  unfolding step marked_step marked_of finish
  over_marked m all [] k room = ends_none (want_marked m all k) end refl
  over_marked m all (t ∷ ts) k room =
      by_outcome (want_marked m all k) t ts end
      ∙ if_gives (is_sign Star t) _ _ _ _ _ end t.at ts
      (goes (want_marked (starred m) all k) t.at ts end (omega (arith, room))
      ∙ over_marked (starred m) all ts k room)
      (if_gives (is_sign Percent t) _ _ _ _ _ end t.at ts
      (goes (want_marked (percented m) all k) t.at ts end (omega (arith, room))
      ∙ over_marked (percented m) all ts k room)
      (if_gives (is_sign Hash t) _ _ _ _ _ end t.at ts
      (goes (want_marked (hashed m) all k) t.at ts end (omega (arith, room))
      ∙ over_marked (hashed m) all ts k room)
      (if_gives (is_sign Bang t) _ _ _ _ _ end t.at ts (leaves_out (codes "!") t.at ts end)
      (if_gives (is_key If t) _ _ _ _ _ end t.at ts
      (goes (want_choice t.at m all k) t.at ts end (omega (arith, room)) ∙ over_choice t.at m all ts k room)
      (call_by_gives t (callee t) m all ts k room)))))
