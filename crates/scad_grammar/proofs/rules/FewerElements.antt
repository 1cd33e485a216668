-- And so do the rules of vectors, ranges and elements.
use Rattle.std.proofs.Common.{ℕ, zero, suc, ◌<◌, List, [], ◌∷◌, Option, Some}
use Rattle.std.proofs.Common.{None, length, arith}
use Rattle.scad_fault.specs.declared.place.Place.{Place}
use Rattle.scad_lex.specs.declared.token.Token.{Token}
use Rattle.scad_lex.specs.declared.token.Sign.TheVariants.{CloseRound, CloseSquare, Semicolon}
use Rattle.scad_lex.specs.declared.token.Sign.TheVariants.{Comma, Colon}
use Rattle.scad_lex.specs.declared.token.Key.TheVariants.{If, Else, For, Let, Each}
use Rattle.scad_ast.specs.Tree.{Expression, Arguments, no_arguments, Elements, no_elements, Element}
use Rattle.scad_grammar.specs.Tokens.{is_sign, is_key}
use Rattle.scad_grammar.specs.Lists.{with_element}
use Rattle.scad_grammar.specs.Steps.{range_start}
use Rattle.scad_grammar.specs.Rules.{Read, Rules, expr_to}
use Rattle.scad_grammar.specs.Rules.{expr_of}
use Rattle.scad_grammar.specs.Rules.{args_of, args_closed_of, in_round_of, range_end, range_by, more_elements}
use Rattle.scad_grammar.specs.Rules.{else_of, elem_of, elements_of, head_end, for_head_of, for_behind_of, above}
use Rattle.scad_grammar.specs.Rules.{rules}
use Rattle.scad_grammar.proofs.rules.Fewer.{Leaves, wider, then_leaves, either, Fewer, BelowFewer, deeper_leaves}
use Rattle.scad_grammar.proofs.rules.Fewer.{expr_to_leaves, expr_leaves, args_leave, closed_leaves, unary_leaves}
use Rattle.scad_grammar.proofs.rules.Fewer.{operand_leaves, links_leave, posts_leave, round_leaves}

module _ (end : Place) (below : Option Rules) (few : BelowFewer below) where
  range_end_leaves : (at : Place) (a b : Expression) (ts : List Token) →
      Leaves (length ts) (range_end end below at a b ts)
  range_end_leaves at a b [] = tt
  range_end_leaves at a b (t ∷ ts) =
      either _ (is_sign Colon t) _ _
      (then_leaves (length ts) _ (expr_to end CloseSquare (expr_of end below) ts) _
      (expr_to_leaves end CloseSquare (expr_of end below) ts (expr_leaves end below few ts))
      (λ c us h. omega (arith, h)))
      (either _ (is_sign CloseSquare t) _ _ (omega arith) tt)

  range_leaves : (at colon : Place) (o : Option Expression) (ts : List Token) →
      Leaves (length ts) (range_by end below at colon o ts)
  range_leaves at colon (Some a) ts =
      then_leaves (length ts) _ (expr_of end below ts) _ (expr_leaves end below few ts)
      (λ b us h. wider (length us) _ _ (omega (arith, h)) (range_end_leaves at a b us))
  range_leaves at colon None ts = tt

  more_elements_leave : (n : ℕ) (go_on : List Token → Read Expression) (at : Place) (all : Elements) (el : Element)
      (us : List Token) →
      length us < n → ((vs : List Token) → length vs < n → Leaves n (go_on vs)) →
      Leaves n (more_elements end below go_on at all el us)
  more_elements_leave n go_on at all el [] h later = tt
  more_elements_leave n go_on at all el (t ∷ us) h later =
      either n (is_sign Colon t) _ _
      (wider (length us) n _ (omega arith) (range_leaves at t.at (range_start all el) us))
      (either n (is_sign Comma t) _ _ (later us (omega arith))
      (either n (is_sign CloseSquare t) _ _ (omega arith) tt))

  else_leaves : (at : Place) (e : Expression) (held : Element) (ts : List Token) →
      Leaves (suc (length ts)) (else_of below at e held ts)
  else_leaves at e held [] = omega arith
  else_leaves at e held (t ∷ ts) =
      either _ (is_key Else t) _ _
      (deeper_leaves _ below few t.at _
      (λ r h. then_leaves (length ts) _ (r.elem ts) _ (h.elem ts) (λ o us g. omega (arith, g))))
      (omega arith)

  pub elem_leaves : (ts : List Token) → Leaves (length ts) (elem_of end below ts)
  unfolding elem_of
  elem_leaves [] = tt
  elem_leaves (t ∷ ts) =
      either _ (is_key For t) _ _
      (deeper_leaves _ below few t.at _ (λ r h. wider (length ts) _ _ (omega arith) (h.for_behind t.at ts)))
      (either _ (is_key Each t) _ _
      (deeper_leaves _ below few t.at _
      (λ r h. then_leaves (length ts) _ (r.elem ts) _ (h.elem ts) (λ el us g. omega (arith, g))))
      (either _ (is_key If t) _ _
      (deeper_leaves _ below few t.at _ (λ r h. then_leaves (length ts) _ (r.round_expr ts) _ (h.round_expr ts)
      (λ e us g. then_leaves (length us) _ (r.elem us) _ (h.elem us)
      (λ held vs f. wider (suc (length vs)) _ _ (omega (arith, g, f)) (h.else_end t.at e held vs)))))
      (either _ (is_key Let t) _ _
      (deeper_leaves _ below few t.at _ (λ r h. then_leaves (length ts) _ (r.round_args ts) _ (h.round_args ts)
      (λ all us g. then_leaves (length us) _ (r.elem us) _ (h.elem us) (λ el vs f. omega (arith, g, f)))))
      (then_leaves (suc (length ts)) _ (expr_of end below (t ∷ ts)) _ (expr_leaves end below few (t ∷ ts))
      (λ e us h. h)))))

  elements_leave : (turns : ℕ) (at : Place) (all : Elements) (ts : List Token) →
      Leaves (length ts) (elements_of end below turns at all ts)
  unfolding elements_of
  elements_leave zero at all [] = tt
  elements_leave (suc turns) at all [] = tt
  elements_leave zero at all (t ∷ ts) = either _ (is_sign CloseSquare t) _ _ (omega arith) tt
  elements_leave (suc turns) at all (t ∷ ts) =
      either _ (is_sign CloseSquare t) _ _ (omega arith)
      (then_leaves (suc (length ts)) _ (elem_of end below (t ∷ ts)) _ (elem_leaves (t ∷ ts))
      (λ el us h. more_elements_leave (suc (length ts)) _ at all el us h
      (λ vs g. wider (length vs) _ _ (omega arith) (elements_leave turns at (with_element all el) vs))))

  head_leaves : (all : Arguments) (ts : List Token) → Leaves (length ts) (head_end end below all ts)
  head_leaves all [] = tt
  head_leaves all (t ∷ ts) =
      either _ (is_sign CloseRound t) _ _ (omega arith)
      (either _ (is_sign Semicolon t) _ _
      (then_leaves (length ts) _ (expr_to end Semicolon (expr_of end below) ts) _
      (expr_to_leaves end Semicolon (expr_of end below) ts (expr_leaves end below few ts))
      (λ e us h. then_leaves (suc (length us)) _ (args_closed_of end below us) _ (closed_leaves end below few us)
      (λ last vs g. omega (arith, h, g))))
      tt)

  for_head_leaves : (ts : List Token) → Leaves (suc (length ts)) (for_head_of end below ts)
  for_head_leaves ts =
      then_leaves (suc (length ts)) _ (args_of end below (length ts) no_arguments ts) _
      (args_leave end below few (length ts) no_arguments ts)
      (λ all us h. wider (length us) _ _ (omega (arith, h)) (head_leaves all us))

  for_leaves : (at : Place) (ts : List Token) → Leaves (length ts) (for_behind_of end below at ts)
  for_leaves at ts =
      then_leaves (length ts) _ (in_round_of end below (λ r us. r.for_head us) ts) _
      (round_leaves end below few (λ r us. r.for_head us) (λ r h us. h.for_head us) ts)
      (λ head us h. then_leaves (length us) _ (elem_of end below us) _ (elem_leaves us)
      (λ el vs g. omega (arith, h, g)))

  above_fewer : Fewer (above end below)
  above_fewer = record {
    expr = expr_leaves end below few;
    operand = operand_leaves end below few;
    links = links_leave end below few;
    unary_rule = unary_leaves end below few;
    posts = posts_leave end below few;
    indexed = λ at ts. deeper_leaves _ below few at _ (λ r h. expr_to_leaves end CloseSquare r.expr ts (h.expr ts));
    brackets = λ at ts. elements_leave (length ts) at no_elements ts;
    args_closed = closed_leaves end below few;
    round_args = round_leaves end below few (λ r us. r.args_closed us) (λ r h us. h.args_closed us);
    round_expr = round_leaves end below few (λ r us. expr_to end CloseRound r.expr us)
        (λ r h us. wider (length us) _ _ (omega arith) (expr_to_leaves end CloseRound r.expr us (h.expr us)));
    elem = elem_leaves;
    for_head = for_head_leaves;
    for_behind = for_leaves;
    else_end = else_leaves;
  }

pub rules_fewer : (end : Place) (n : ℕ) → Fewer (rules end n)
rules_fewer end zero = above_fewer end None tt
rules_fewer end (suc n) = above_fewer end (Some (rules end n)) (rules_fewer end n)
