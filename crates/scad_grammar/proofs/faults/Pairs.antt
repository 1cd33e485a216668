-- Tokens of forms that are left out, each with one that stands where it could.
use Rattle.std.proofs.Common.{◌≡◌, ℕ, true, false, List, refl, ap, sym, ◌∙◌, codes}
use Rattle.scad_fault.specs.declared.place.Place.{Place}
use Rattle.scad_lex.specs.declared.token.Token.{Token}
use Rattle.scad_lex.specs.declared.token.Sign.TheVariants.{OpenCurly, Bang, Caret, Hash, Dot}
use Rattle.scad_lex.specs.declared.token.Key.TheVariants.{Function, Echo, Include, Use}
use Rattle.scad_ast.specs.Tree.{Items, no_items, module_of, call_of, choice}
use Rattle.scad_grammar.specs.Tokens.{sign, key}
use Rattle.scad_grammar.specs.Lists.{with_item, with_statement}
use Rattle.scad_grammar.specs.Behind.{BehindItems, in_program, in_group, module_body, child_of, held_child}
use Rattle.scad_grammar.specs.Behind.{other_child}
use Rattle.scad_grammar.specs.Move.{Move, go, left_out, stuck}
use Rattle.scad_grammar.specs.StatementSteps.{marked_step, first_step, definition_step, statement_step}
use Rattle.scad_grammar.specs.StatementSteps.{after_items}
use Rattle.scad_grammar.proofs.faults.Foreign.{Foreign, foreign_include, foreign_use, foreign_curly, foreign_bang}
use Rattle.scad_grammar.proofs.faults.Foreign.{foreign_hash, foreign_caret, foreign_dot}

-- a form with the token that stands for its place
pub data Pair : Token → Token → List ℕ → Type 0 where
  pair_include : {at : Place} → Pair (key Include at) (sign OpenCurly at) (codes "include")
  pair_use : {at : Place} → Pair (key Use at) (sign OpenCurly at) (codes "use")
  pair_mark : {at : Place} → Pair (sign Bang at) (sign Hash at) (codes "!")
  pair_operator : {at : Place} → Pair (sign Caret at) (sign Dot at) (codes "^")

pub pair_first : {t u : Token} {w : List ℕ} → Pair t u w → Foreign t
pair_first pair_include = foreign_include
pair_first pair_use = foreign_use
pair_first pair_mark = foreign_bang
pair_first pair_operator = foreign_caret

pub pair_second : {t u : Token} {w : List ℕ} → Pair t u w → Foreign u
pair_second pair_include = foreign_curly
pair_second pair_use = foreign_curly
pair_second pair_mark = foreign_hash
pair_second pair_operator = foreign_dot

-- only what is left out of a move
abbrev pub left_part : Move → Move
left_part (go s) = stuck
left_part (left_out w) = left_out w
left_part stuck = stuck

-- what a move tells of a form's place
abbrev pub told : Move → List ℕ → Move
told (go s) w = left_out w
told (left_out v) w = stuck
told stuck w = stuck

-- where an expression may begin and no mark
abbrev pub told_only : Move → Move → List ℕ → Move
told_only (go s) stuck w = left_out w
told_only (go s) (go r) w = stuck
told_only (go s) (left_out v) w = stuck
told_only (left_out v) m w = stuck
told_only stuck m w = stuck

pub both_stuck : {x y : Move} (w : List ℕ) → x ≡ stuck → y ≡ stuck → left_part x ≡ told y w
both_stuck w hx hy = ap left_part hx ∙ sym (ap (λ (m : Move). told m w) hy)

pub stuck_function : {x y : Move} (z : Move) (w : List ℕ) → x ≡ stuck → y ≡ stuck → left_part x ≡ told_only y z w
stuck_function z w hx hy = ap left_part hx ∙ sym (ap (λ (m : Move). told_only m z w) hy)

pub items_pair : (a : Items) (k : BehindItems) {t u : Token} {w : List ℕ} → Pair t u w →
    left_part (after_items a k t) ≡ told (after_items a k u) w
unfolding after_items statement_step definition_step first_step marked_step
items_pair a in_program pair_include = refl
items_pair a in_program pair_use = refl
items_pair a in_program pair_mark = refl
items_pair a in_program pair_operator = refl
items_pair a (in_group false k) pair_include = refl
items_pair a (in_group false k) pair_use = refl
items_pair a (in_group false k) pair_mark = refl
items_pair a (in_group false k) pair_operator = refl
items_pair a (in_group true k) pair_include = refl
items_pair a (in_group true k) pair_use = refl
items_pair a (in_group true k) pair_mark = refl
items_pair a (in_group true k) pair_operator = refl
items_pair a (module_body at n all outer k) pair_include =
    items_pair (with_item outer (module_of at n all a)) k pair_include
items_pair a (child_of at m n all outer k) pair_include =
    items_pair (with_statement m outer (call_of at m.percent m.hash n all a)) k pair_include
items_pair a (held_child at m e outer k) pair_include =
    items_pair (with_statement m outer (choice at m.percent m.hash e a no_items)) k pair_include
items_pair a (other_child at m e held outer k) pair_include =
    items_pair (with_statement m outer (choice at m.percent m.hash e held a)) k pair_include
items_pair a (module_body at n all outer k) pair_use = items_pair (with_item outer (module_of at n all a)) k pair_use
items_pair a (child_of at m n all outer k) pair_use =
    items_pair (with_statement m outer (call_of at m.percent m.hash n all a)) k pair_use
items_pair a (held_child at m e outer k) pair_use =
    items_pair (with_statement m outer (choice at m.percent m.hash e a no_items)) k pair_use
items_pair a (other_child at m e held outer k) pair_use =
    items_pair (with_statement m outer (choice at m.percent m.hash e held a)) k pair_use
items_pair a (module_body at n all outer k) pair_mark =
    items_pair (with_item outer (module_of at n all a)) k pair_mark
items_pair a (child_of at m n all outer k) pair_mark =
    items_pair (with_statement m outer (call_of at m.percent m.hash n all a)) k pair_mark
items_pair a (held_child at m e outer k) pair_mark =
    items_pair (with_statement m outer (choice at m.percent m.hash e a no_items)) k pair_mark
items_pair a (other_child at m e held outer k) pair_mark =
    items_pair (with_statement m outer (choice at m.percent m.hash e held a)) k pair_mark
items_pair a (module_body at n all outer k) pair_operator =
    items_pair (with_item outer (module_of at n all a)) k pair_operator
items_pair a (child_of at m n all outer k) pair_operator =
    items_pair (with_statement m outer (call_of at m.percent m.hash n all a)) k pair_operator
items_pair a (held_child at m e outer k) pair_operator =
    items_pair (with_statement m outer (choice at m.percent m.hash e a no_items)) k pair_operator
items_pair a (other_child at m e held outer k) pair_operator =
    items_pair (with_statement m outer (choice at m.percent m.hash e held a)) k pair_operator

pub items_function : (a : Items) (k : BehindItems) (at : Place) →
    left_part (after_items a k (key Function at))
    ≡ told_only (after_items a k (key Echo at)) (after_items a k (sign Hash at)) (codes "function")
unfolding after_items statement_step definition_step first_step marked_step
items_function a in_program q = refl
items_function a (in_group false k) q = refl
items_function a (in_group true k) q = refl
items_function a (module_body at n all outer k) q = items_function (with_item outer (module_of at n all a)) k q
items_function a (child_of at m n all outer k) q =
    items_function (with_statement m outer (call_of at m.percent m.hash n all a)) k q
items_function a (held_child at m e outer k) q =
    items_function (with_statement m outer (choice at m.percent m.hash e a no_items)) k q
items_function a (other_child at m e held outer k) q =
    items_function (with_statement m outer (choice at m.percent m.hash e held a)) k q
