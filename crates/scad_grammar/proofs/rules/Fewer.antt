-- A rule leaves fewer tokens than it begins with.
use Rattle.std.proofs.Common.{ℕ, zero, suc, ◌<◌, ◌≤◌, Bool, true, false, if◌then◌else◌, List, [], ◌∷◌, Option, Some}
use Rattle.std.proofs.Common.{None, Ok, Err, length, arith}
use Rattle.scad_fault.specs.declared.place.Place.{Place}
use Rattle.scad_lex.specs.declared.token.Token.{Token}
use Rattle.scad_lex.specs.declared.token.Sign.{Sign as SignName}
use Rattle.scad_lex.specs.declared.token.Sign.TheVariants.{OpenRound, CloseRound, OpenSquare}
use Rattle.scad_lex.specs.declared.token.Sign.TheVariants.{Comma, Colon, Question, Assign, Plus, Minus, Caret, Bang}
use Rattle.scad_lex.specs.declared.token.Sign.TheVariants.{Dot}
use Rattle.scad_lex.specs.declared.token.Key.TheVariants.{Function, Let, Assert, Echo}
use Rattle.scad_ast.specs.declared.operator.UnOp.{UnOp}
use Rattle.scad_ast.specs.declared.operator.UnOp.TheVariants.{Not, Plus as UnaryPlus, Minus as UnaryMinus}
use Rattle.scad_ast.specs.declared.operator.BinOp.{BinOp}
use Rattle.scad_ast.specs.Tree.{Expression, Arguments, no_arguments, Element}
use Rattle.scad_grammar.specs.Tokens.{is_sign, is_key, word_of, operator}
use Rattle.scad_grammar.specs.Lists.{with_argument}
use Rattle.scad_grammar.specs.Grammar.{ends_arguments}
use Rattle.scad_grammar.specs.Behind.{Keyed, letting, asserting, echoing}
use Rattle.scad_grammar.specs.Steps.{literal}
use Rattle.scad_grammar.specs.Rules.{Read, then_read, behind_sign, Rules, deeper, expr_to, call_or_name, word_rule}
use Rattle.scad_grammar.specs.Rules.{literal_rule, prim_of, member_by, member_of, posts_of, prefixed_of, unary_of}
use Rattle.scad_grammar.specs.Rules.{link_of, links_of, operand_of, choice_of, keyed_of, expr_of, named_by, more_args}
use Rattle.scad_grammar.specs.Rules.{args_of, args_closed_of, in_round_of}

-- where something is read, fewer tokens than n are left
abbrev pub Leaves : {A : Type 0} → ℕ → Read A → Type 0
Leaves n (Ok r) = length r.1 < n
Leaves n (Err fault) = Unit {0}

pub wider : {A : Type 0} (n m : ℕ) (r : Read A) → n ≤ m → Leaves n r → Leaves m r
wider n m (Ok r) h few = omega arith
wider n m (Err fault) h few = tt

pub then_leaves : {A B : Type 0} (n m : ℕ) (r : Read A) (f : A → List Token → Read B) → Leaves n r →
    ((a : A) (us : List Token) → length us < n → Leaves m (f a us)) → Leaves m (then_read r f)
then_leaves n m (Ok r) f few go_on = go_on r.0 r.1 few
then_leaves n m (Err fault) f few go_on = tt

pub either : {A : Type 0} (n : ℕ) (b : Bool) (x y : Read A) → Leaves n x → Leaves n y → Leaves n (if b then x else y)
either n true x y h g = h
either n false x y h g = g

pub sign_leaves : {A : Type 0} (end : Place) (n : ℕ) (s : SignName) (us : List Token) (f : List Token → Read A) →
    ((vs : List Token) → length vs < length us → Leaves n (f vs)) → Leaves n (behind_sign end s us f)
sign_leaves end n s [] f go_on = tt
sign_leaves end n s (t ∷ us) f go_on = either n (is_sign s t) (f us) _ (go_on us (omega arith)) tt

-- each rule leaves no more, and those that give a tree of their own leave fewer
pub record Fewer (r : Rules) : Type 0 where
  pub expr : (ts : List Token) → Leaves (length ts) (r.expr ts)
  pub operand : (line : ℕ) (ts : List Token) → Leaves (length ts) (r.operand line ts)
  pub links : (line : ℕ) (a : Expression) (ts : List Token) → Leaves (suc (length ts)) (r.links line a ts)
  pub unary_rule : (ts : List Token) → Leaves (length ts) (r.unary_rule ts)
  pub posts : (e : Expression) (ts : List Token) → Leaves (suc (length ts)) (r.posts e ts)
  pub indexed : (at : Place) (ts : List Token) → Leaves (length ts) (r.indexed at ts)
  pub brackets : (at : Place) (ts : List Token) → Leaves (length ts) (r.brackets at ts)
  pub args_closed : (ts : List Token) → Leaves (suc (length ts)) (r.args_closed ts)
  pub round_args : (ts : List Token) → Leaves (length ts) (r.round_args ts)
  pub round_expr : (ts : List Token) → Leaves (length ts) (r.round_expr ts)
  pub elem : (ts : List Token) → Leaves (length ts) (r.elem ts)
  pub for_head : (ts : List Token) → Leaves (suc (length ts)) (r.for_head ts)
  pub for_behind : (at : Place) (ts : List Token) → Leaves (length ts) (r.for_behind at ts)
  pub else_end : (at : Place) (e : Expression) (held : Element) (ts : List Token) →
      Leaves (suc (length ts)) (r.else_end at e held ts)

abbrev pub BelowFewer : Option Rules → Type 0
BelowFewer None = Unit {0}
BelowFewer (Some r) = Fewer r

pub deeper_leaves : {A : Type 0} (n : ℕ) (below : Option Rules) → BelowFewer below →
    (at : Place) (f : Rules → Read A) →
    ((r : Rules) → Fewer r → Leaves n (f r)) → Leaves n (deeper below at f)
deeper_leaves n None few at f go_on = tt
deeper_leaves n (Some r) few at f go_on = go_on r few

pub expr_to_leaves : (end : Place) (s : SignName) (expr : List Token → Read Expression) (ts : List Token) →
    Leaves (length ts) (expr ts) →
    Leaves (length ts) (expr_to end s expr ts)
expr_to_leaves end s expr ts few =
    then_leaves (length ts) (length ts) (expr ts) _ few
    (λ e us h. sign_leaves end (length ts) s us _ (λ vs g. omega (arith, h, g)))

module _ (end : Place) (below : Option Rules) (few : BelowFewer below) where
  name_leaves : (at : Place) (w : List ℕ) (ts : List Token) → Leaves (suc (length ts)) (call_or_name below at w ts)
  name_leaves at w [] = omega arith
  name_leaves at w (t ∷ ts) =
      either (suc (suc (length ts))) (is_sign OpenRound t) _ _
      (deeper_leaves _ below few t.at _
      (λ r h. then_leaves (suc (length ts)) _ (r.args_closed ts) _ (h.args_closed ts)
      (λ all us g. omega (arith, g))))
      (omega arith)

  word_leaves : (t : Token) (o : Option (List ℕ)) (ts : List Token) →
      Leaves (suc (length ts)) (word_rule below t o ts)
  word_leaves t (Some w) ts = name_leaves t.at w ts
  word_leaves t None ts = tt

  literal_leaves : (t : Token) (o : Option Expression) (ts : List Token) →
      Leaves (suc (length ts)) (literal_rule below t o ts)
  literal_leaves t (Some e) ts = omega arith
  literal_leaves t None ts = word_leaves t (word_of t) ts

  prim_leaves : (t : Token) (ts : List Token) → Leaves (suc (length ts)) (prim_of end below t ts)
  unfolding prim_of
  prim_leaves t ts =
      either _ (is_sign OpenRound t) _ _
      (deeper_leaves _ below few t.at _
      (λ r h. wider (length ts) _ _ (omega arith) (expr_to_leaves end CloseRound r.expr ts (h.expr ts))))
      (either _ (is_sign OpenSquare t) _ _
      (deeper_leaves _ below few t.at _ (λ r h. wider (length ts) _ _ (omega arith) (h.brackets t.at ts)))
      (literal_leaves t (literal t) ts))

  member_leaves : (r : Rules) → Fewer r →
      (at : Place) (e : Expression) (t : Token) (o : Option (List ℕ)) (ts : List Token) →
      Leaves (suc (length ts)) (member_by r at e t ts o)
  member_leaves r h at e t (Some w) ts = h.posts _ ts
  member_leaves r h at e t None ts = tt

  dot_leaves : (r : Rules) → Fewer r → (at : Place) (e : Expression) (ts : List Token) →
      Leaves (suc (length ts)) (member_of end r at e ts)
  dot_leaves r h at e [] = tt
  dot_leaves r h at e (t ∷ ts) = wider (suc (length ts)) _ _ (omega arith) (member_leaves r h at e t (word_of t) ts)

  pub posts_leave : (e : Expression) (ts : List Token) → Leaves (suc (length ts)) (posts_of end below e ts)
  unfolding posts_of
  posts_leave e [] = omega arith
  posts_leave e (t ∷ ts) =
      either _ (is_sign OpenSquare t) _ _
      (deeper_leaves _ below few t.at _ (λ r h. then_leaves (length ts) _ (r.indexed t.at ts) _ (h.indexed t.at ts)
      (λ i us g. wider (suc (length us)) _ _ (omega (arith, g)) (h.posts _ us))))
      (either _ (is_sign Dot t) _ _
      (deeper_leaves _ below few t.at _ (λ r h. wider (suc (length ts)) _ _ (omega arith) (dot_leaves r h t.at e ts)))
      (either _ (is_sign Caret t) _ _ tt (omega arith)))

  prefix_leaves : (op : UnOp) (at : Place) (ts : List Token) → Leaves (suc (length ts)) (prefixed_of below at op ts)
  prefix_leaves op at ts =
      deeper_leaves _ below few at _
      (λ r h. then_leaves (length ts) _ (r.unary_rule ts) _ (h.unary_rule ts) (λ e us g. omega (arith, g)))

  pub unary_leaves : (ts : List Token) → Leaves (length ts) (unary_of end below ts)
  unfolding unary_of
  unary_leaves [] = tt
  unary_leaves (t ∷ ts) =
      either _ (is_sign Bang t) _ _ (prefix_leaves Not t.at ts)
      (either _ (is_sign Plus t) _ _ (prefix_leaves UnaryPlus t.at ts)
      (either _ (is_sign Minus t) _ _ (prefix_leaves UnaryMinus t.at ts)
      (then_leaves (suc (length ts)) _ (prim_of end below t ts) _ (prim_leaves t ts)
      (λ e us g. wider (suc (length us)) _ _ (omega (arith, g)) (posts_leave e us)))))

  link_leaves : (line : ℕ) (a : Expression) (t : Token) (ts : List Token) (o : Option BinOp) →
      Leaves (suc (suc (length ts))) (link_of below line a t ts o)
  link_leaves line a t ts None = omega arith
  link_leaves line a t ts (Some op) =
      deeper_leaves _ below few t.at _ (λ r h. then_leaves (length ts) _ (r.operand line ts) _ (h.operand line ts)
      (λ b us g. wider (suc (length us)) _ _ (omega (arith, g)) (h.links line _ us)))

  pub links_leave : (line : ℕ) (a : Expression) (ts : List Token) →
      Leaves (suc (length ts)) (links_of below line a ts)
  unfolding links_of
  links_leave line a [] = omega arith
  links_leave line a (t ∷ ts) = link_leaves line a t ts (operator line t)

  pub operand_leaves : (line : ℕ) (ts : List Token) → Leaves (length ts) (operand_of end below line ts)
  unfolding operand_of
  operand_leaves zero ts = unary_leaves ts
  operand_leaves (suc line) ts =
      then_leaves (length ts) _ (operand_of end below line ts) _ (operand_leaves line ts)
      (λ a us g. wider (suc (length us)) _ _ (omega (arith, g)) (links_leave line a us))

  choice_leaves : (a : Expression) (ts : List Token) → Leaves (suc (length ts)) (choice_of end below a ts)
  unfolding choice_of
  choice_leaves a [] = omega arith
  choice_leaves a (t ∷ ts) =
      either _ (is_sign Question t) _ _
      (deeper_leaves _ below few t.at _
      (λ r h. then_leaves (length ts) _ (expr_to end Colon r.expr ts) _
      (expr_to_leaves end Colon r.expr ts (h.expr ts))
      (λ b us g. then_leaves (length us) _ (r.expr us) _ (h.expr us) (λ c vs f. omega (arith, g, f)))))
      (omega arith)

  keyed_leaves : (what : Keyed) (at : Place) (ts : List Token) → Leaves (suc (length ts)) (keyed_of below what at ts)
  keyed_leaves what at ts =
      deeper_leaves _ below few at _ (λ r h. then_leaves (length ts) _ (r.round_args ts) _ (h.round_args ts)
      (λ all us g. then_leaves (length us) _ (r.expr us) _ (h.expr us) (λ e vs f. omega (arith, g, f))))

  pub expr_leaves : (ts : List Token) → Leaves (length ts) (expr_of end below ts)
  unfolding expr_of
  expr_leaves [] = tt
  expr_leaves (t ∷ ts) =
      either _ (is_key Function t) _ _ tt
      (either _ (is_key Let t) _ _ (keyed_leaves letting t.at ts)
      (either _ (is_key Assert t) _ _ (keyed_leaves asserting t.at ts)
      (either _ (is_key Echo t) _ _ (keyed_leaves echoing t.at ts)
      (then_leaves (suc (length ts)) _ (operand_of end below 6 (t ∷ ts)) _ (operand_leaves 6 (t ∷ ts))
      (λ a us g. wider (suc (length us)) _ _ (omega (arith, g)) (choice_leaves a us))))))

  more_args_leave : (n : ℕ) (go_on : List Token → Read Arguments) (all : Arguments) (us : List Token) →
      length us < n →
      ((vs : List Token) → length vs < n → Leaves n (go_on vs)) → Leaves n (more_args end go_on all us)
  more_args_leave n go_on all [] h later = tt
  more_args_leave n go_on all (t ∷ us) h later =
      either n (is_sign Comma t) _ _ (later us (omega arith)) (either n (ends_arguments t) _ _ (omega arith) tt)

  pub args_leave : (turns : ℕ) (all : Arguments) (ts : List Token) →
      Leaves (suc (length ts)) (args_of end below turns all ts)
  unfolding args_of
  args_leave zero all [] = tt
  args_leave (suc turns) all [] = tt
  args_leave zero all (t ∷ ts) = either _ (ends_arguments t) _ _ (omega arith) tt
  args_leave (suc turns) all (t ∷ ts) =
      either _ (ends_arguments t) _ _ (omega arith) (by_word (word_of t) ts (λ all vs. args_leave turns all vs))
    where
      Later : Type 0
      Later = (all : Arguments) (vs : List Token) → Leaves (suc (length vs)) (args_of end below turns all vs)

      more : (n : ℕ) → Later → (called : Option (List ℕ)) (e : Expression) (us : List Token) → length us < n →
          Leaves n (more_args end (args_of end below turns (with_argument all called e))
          (with_argument all called e) us)
      more n later called e us h =
          more_args_leave n _ (with_argument all called e) us h
          (λ vs g. wider (suc (length vs)) n _ (omega arith) (later (with_argument all called e) vs))

      by_word : (o : Option (List ℕ)) (ts : List Token) → Later →
          Leaves (suc (suc (length ts))) (named_by end below t ts o (λ called e us.
          more_args end (args_of end below turns (with_argument all called e)) (with_argument all called e) us))
      by_word None ts later =
          then_leaves (suc (length ts)) _ (expr_of end below (t ∷ ts)) _ (expr_leaves (t ∷ ts))
          (λ e us h. more (suc (suc (length ts))) later None e us (omega arith))
      by_word (Some w) [] later =
          then_leaves 1 _ (expr_of end below (t ∷ [])) _ (expr_leaves (t ∷ []))
          (λ e us h. more 2 later None e us (omega arith))
      by_word (Some w) (u ∷ us) later =
          either _ (is_sign Assign u) _ _
          (then_leaves (length us) _ (expr_of end below us) _ (expr_leaves us)
          (λ e vs h. more (suc (suc (suc (length us)))) later (Some w) e vs (omega arith)))
          (then_leaves (suc (suc (length us))) _ (expr_of end below (t ∷ u ∷ us)) _ (expr_leaves (t ∷ u ∷ us))
          (λ e vs h. more (suc (suc (suc (length us)))) later None e vs (omega arith)))

  pub closed_leaves : (ts : List Token) → Leaves (suc (length ts)) (args_closed_of end below ts)
  closed_leaves ts =
      then_leaves (suc (length ts)) _ (args_of end below (length ts) no_arguments ts) _
      (args_leave (length ts) no_arguments ts)
      (λ all us h. sign_leaves end _ CloseRound us _ (λ vs g. omega (arith, h, g)))

  pub round_leaves : {A : Type 0} (f : Rules → List Token → Read A) →
      ((r : Rules) → Fewer r → (us : List Token) → Leaves (suc (length us)) (f r us)) → (ts : List Token) →
      Leaves (length ts) (in_round_of end below f ts)
  round_leaves f inside [] = tt
  round_leaves f inside (t ∷ ts) =
      either _ (is_sign OpenRound t) _ _ (deeper_leaves _ below few t.at _ (λ r h. inside r h ts)) tt
