-- Each derivation of the grammar on paper of a whole program is one in which each part is as long as it can be.
use Rattle.std.proofs.Common.{◌≡◌, ℕ, suc, Bool, true, false, List, ◌∷◌, Option, refl, sym, ◌∙◌, arith}
use Rattle.std.proofs.lemmas.Bool.{false≢true, false_from_ne_true}
use Rattle.scad_fault.specs.declared.place.Place.{Place}
use Rattle.scad_lex.specs.declared.token.Token.{Token}
use Rattle.scad_lex.specs.declared.token.Sign.TheVariants.{OpenRound, CloseRound, CloseSquare, Assign}
use Rattle.scad_ast.specs.Tree.{Expression, Arguments, Elements, Element, Parameter, Items}
use Rattle.scad_grammar.specs.Tokens.{sign, begins_with}
use Rattle.scad_grammar.specs.Lists.{Marks}
use Rattle.scad_grammar.specs.Grammar
use Rattle.scad_grammar.specs.Statements
use Rattle.scad_grammar.specs.Plain
use Rattle.scad_grammar.specs.Grammar.{at_end_of_arguments, begins_named}
use Rattle.scad_grammar.proofs.grammar.Follow.{closes, ending_closes, closes_no_question, closes_no_assign}
use Rattle.scad_grammar.proofs.grammar.Follow.{operator_is_no_assign, Follows, by_question, by_operator}
use Rattle.scad_grammar.proofs.grammar.Follow.{follows_closing, looser, follows_no_operator, follows_no_square}
use Rattle.scad_grammar.proofs.grammar.Follow.{follows_no_dot, follows_no_caret, follows_no_round}

-- an expression that begins with WORD `=` ends behind that WORD
named_prim : {ts us : List Token} {e : Expression} → Plain.Prim ts us e → begins_named ts ≡ true →
    begins_with Assign us ≡ true
named_prim Plain.a_number h = absurd (false≢true h)
named_prim Plain.a_string h = absurd (false≢true h)
named_prim Plain.a_true h = absurd (false≢true h)
named_prim Plain.a_false h = absurd (false≢true h)
named_prim Plain.an_undef h = absurd (false≢true h)
named_prim Plain.a_name h = h
named_prim (Plain.a_call d) h = absurd (false≢true h)
named_prim (Plain.a_group d) h = absurd (false≢true h)
named_prim (Plain.a_range d e r) h = absurd (false≢true h)
named_prim (Plain.a_vector d) h = absurd (false≢true h)

named_posts : {a e : Expression} {ts us : List Token} → Plain.Posts a ts us e → begins_with Assign ts ≡ true →
    begins_with Assign us ≡ true
named_posts Plain.no_post h = h
named_posts (Plain.an_index d l) h = absurd (false≢true h)
named_posts (Plain.a_member l) h = absurd (false≢true h)

named_unary : {ts us : List Token} {e : Expression} → Plain.Unary ts us e → begins_named ts ≡ true →
    begins_with Assign us ≡ true
named_unary (Plain.not_unary d) h = absurd (false≢true h)
named_unary (Plain.plus_unary d) h = absurd (false≢true h)
named_unary (Plain.minus_unary d) h = absurd (false≢true h)
named_unary (Plain.post d l) h = named_posts l (named_prim d h)

named_links : {n : ℕ} {a e : Expression} {ts us : List Token} → Plain.Links n a ts us e → begins_with Assign ts
    ≡ true → begins_with Assign us ≡ true
named_links Plain.no_link h = h
named_links (Plain.link {n = n} {op = op} {t = t} o d l) h =
    absurd (false≢true (sym (operator_is_no_assign n op t o) ∙ h))

named_operand : {n : ℕ} {ts us : List Token} {e : Expression} → Plain.Operand n ts us e → begins_named ts ≡ true
    → begins_with Assign us ≡ true
named_operand (Plain.tightest d) h = named_unary d h
named_operand (Plain.line d l) h = named_links l (named_operand d h)

named_choice : {a e : Expression} {ts us : List Token} → Plain.Choice a ts us e → begins_with Assign ts ≡ true →
    begins_with Assign us ≡ true
named_choice Plain.no_choice h = h
named_choice (Plain.choice d e) h = absurd (false≢true h)

named_expr : {ts us : List Token} {e : Expression} → Plain.Expr ts us e → begins_named ts ≡ true →
    begins_with Assign us ≡ true
named_expr (Plain.let_expr d b) h = absurd (false≢true h)
named_expr (Plain.assert_expr d b) h = absurd (false≢true h)
named_expr (Plain.echo_expr d b) h = absurd (false≢true h)
named_expr (Plain.test d c) h = named_choice c (named_operand d h)

not_named : {ts us : List Token} {e : Expression} → Plain.Expr ts us e → closes us ≡ true → begins_named ts ≡ false
not_named {ts = ts} {us = us} d q =
    false_from_ne_true (begins_named ts) (λ h. false≢true (sym (closes_no_assign us q) ∙ named_expr d h))

-- what stands behind the parts
data Square : List Token → Type 0 where
  is_square : {q : Place} {ts : List Token} → Square (sign CloseSquare q ∷ ts)

data Round : List Token → Type 0 where
  is_round : {q : Place} {ts : List Token} → Round (sign CloseRound q ∷ ts)

square_closes : {ts : List Token} → Square ts → closes ts ≡ true
square_closes is_square = refl

round_closes : {ts : List Token} → Round ts → closes ts ≡ true
round_closes is_round = refl

choice_follows : {a e : Expression} {ts us : List Token} → Plain.Choice a ts us e → closes us ≡ true → Follows 6 ts
choice_follows {ts = ts} Plain.no_choice q = follows_closing 6 ts q
choice_follows (Plain.choice d e) q = by_question

links_follow : {n : ℕ} {a e : Expression} {ts us : List Token} → Plain.Links n a ts us e → Follows (suc n) us →
    Follows n ts
links_follow Plain.no_link f = looser f
links_follow (Plain.link {n = n} h d l) f = by_operator n (omega arith) h

posts_no_round : {a e : Expression} {ts us : List Token} → Plain.Posts a ts us e → Follows 0 us →
    begins_with OpenRound ts ≡ false
posts_no_round Plain.no_post f = follows_no_round f
posts_no_round (Plain.an_index d l) f = refl
posts_no_round (Plain.a_member l) f = refl

range_closes : {at : Place} {a b e : Expression} {ts us : List Token} → Plain.RangeEnd at a b ts us e →
    closes ts ≡ true
range_closes Plain.two_parts = refl
range_closes (Plain.three_parts d) = refl

args_close : {a all : Arguments} {ts us : List Token} → Plain.MoreArgs a ts us all → at_end_of_arguments us
    ≡ true → closes ts ≡ true
args_close {us = us} Plain.last_arg h = ending_closes us h
args_close (Plain.comma_arg d) h = refl

elems_close : {a all : Elements} {ts us : List Token} → Plain.MoreElems a ts us all → Square us → closes ts ≡ true
elems_close Plain.last_elem s = square_closes s
elems_close (Plain.comma_elem d) s = refl

else_closes : {at : Place} {e : Expression} {held el : Element} {ts us : List Token} →
    Plain.Else at e held ts us el → closes us ≡ true → closes ts ≡ true
else_closes (Plain.no_else h) q = q
else_closes (Plain.an_else d) q = refl

params_close : {a all : List Parameter} {ts us : List Token} → Plain.MoreParams a ts us all → Round us →
    closes ts ≡ true
params_close Plain.last_param s = round_closes s
params_close (Plain.comma_param d) s = refl

mutual
  tight_expr : {ts us : List Token} {e : Expression} → Plain.Expr ts us e → closes us ≡ true → Grammar.Expr ts us e
  tight_expr (Plain.let_expr d b) q = Grammar.let_expr (tight_args d refl) (tight_expr b q)
  tight_expr (Plain.assert_expr d b) q = Grammar.assert_expr (tight_args d refl) (tight_expr b q)
  tight_expr (Plain.echo_expr d b) q = Grammar.echo_expr (tight_args d refl) (tight_expr b q)
  tight_expr (Plain.test d c) q = Grammar.test (tight_operand d (choice_follows c q)) (tight_choice c q)

  tight_choice : {a e : Expression} {ts us : List Token} → Plain.Choice a ts us e → closes us ≡ true →
      Grammar.Choice a ts us e
  tight_choice {ts = ts} Plain.no_choice q = Grammar.no_choice (closes_no_question ts q)
  tight_choice (Plain.choice d e) q = Grammar.choice (tight_expr d refl) (tight_expr e q)

  tight_operand : {n : ℕ} {ts us : List Token} {e : Expression} → Plain.Operand n ts us e → Follows n us →
      Grammar.Operand n ts us e
  tight_operand (Plain.tightest d) f = Grammar.tightest (tight_unary d f)
  tight_operand (Plain.line d l) f = Grammar.line (tight_operand d (links_follow l f)) (tight_links l f)

  tight_links : {n : ℕ} {a e : Expression} {ts us : List Token} → Plain.Links n a ts us e → Follows (suc n) us →
      Grammar.Links n a ts us e
  tight_links Plain.no_link f = Grammar.no_link (follows_no_operator f)
  tight_links (Plain.link h d l) f = Grammar.link h (tight_operand d (links_follow l f)) (tight_links l f)

  tight_unary : {ts us : List Token} {e : Expression} → Plain.Unary ts us e → Follows 0 us → Grammar.Unary ts us e
  tight_unary (Plain.not_unary d) f = Grammar.not_unary (tight_unary d f)
  tight_unary (Plain.plus_unary d) f = Grammar.plus_unary (tight_unary d f)
  tight_unary (Plain.minus_unary d) f = Grammar.minus_unary (tight_unary d f)
  tight_unary (Plain.post d l) f = Grammar.post (tight_prim d (posts_no_round l f)) (tight_posts l f)

  tight_posts : {a e : Expression} {ts us : List Token} → Plain.Posts a ts us e → Follows 0 us →
      Grammar.Posts a ts us e
  tight_posts Plain.no_post f = Grammar.no_post (follows_no_square f) (follows_no_dot f) (follows_no_caret f)
  tight_posts (Plain.an_index d l) f = Grammar.an_index (tight_expr d refl) (tight_posts l f)
  tight_posts (Plain.a_member l) f = Grammar.a_member (tight_posts l f)

  tight_prim : {ts us : List Token} {e : Expression} → Plain.Prim ts us e → begins_with OpenRound us ≡ false →
      Grammar.Prim ts us e
  tight_prim Plain.a_number h = Grammar.a_number
  tight_prim Plain.a_string h = Grammar.a_string
  tight_prim Plain.a_true h = Grammar.a_true
  tight_prim Plain.a_false h = Grammar.a_false
  tight_prim Plain.an_undef h = Grammar.an_undef
  tight_prim Plain.a_name h = Grammar.a_name h
  tight_prim (Plain.a_call d) h = Grammar.a_call (tight_args d refl)
  tight_prim (Plain.a_group d) h = Grammar.a_group (tight_expr d refl)
  tight_prim (Plain.a_range d e r) h =
      Grammar.a_range (tight_expr d refl) (tight_expr e (range_closes r)) (tight_range r)
  tight_prim (Plain.a_vector d) h = Grammar.a_vector (tight_elems d is_square)

  tight_range : {at : Place} {a b e : Expression} {ts us : List Token} → Plain.RangeEnd at a b ts us e →
      Grammar.RangeEnd at a b ts us e
  tight_range Plain.two_parts = Grammar.two_parts
  tight_range (Plain.three_parts d) = Grammar.three_parts (tight_expr d refl)

  tight_args : {a all : Arguments} {ts us : List Token} → Plain.Args a ts us all → at_end_of_arguments us ≡ true
      → Grammar.Args a ts us all
  tight_args Plain.no_args h = Grammar.no_args h
  tight_args (Plain.unnamed d m) h =
      Grammar.unnamed (not_named d (args_close m h)) (tight_expr d (args_close m h)) (tight_more_args m h)
  tight_args (Plain.named d m) h = Grammar.named (tight_expr d (args_close m h)) (tight_more_args m h)

  tight_more_args : {a all : Arguments} {ts us : List Token} → Plain.MoreArgs a ts us all →
      at_end_of_arguments us ≡ true → Grammar.MoreArgs a ts us all
  tight_more_args Plain.last_arg h = Grammar.last_arg h
  tight_more_args (Plain.comma_arg d) h = Grammar.comma_arg (tight_args d h)

  tight_elems : {a all : Elements} {ts us : List Token} → Plain.Elems a ts us all → Square us →
      Grammar.Elems a ts us all
  tight_elems Plain.no_elems is_square = Grammar.no_elems
  tight_elems (Plain.elems d m) s = Grammar.elems (tight_elem d (elems_close m s)) (tight_more_elems m s)

  tight_more_elems : {a all : Elements} {ts us : List Token} → Plain.MoreElems a ts us all → Square us →
      Grammar.MoreElems a ts us all
  tight_more_elems Plain.last_elem is_square = Grammar.last_elem
  tight_more_elems (Plain.comma_elem d) s = Grammar.comma_elem (tight_elems d s)

  tight_elem : {ts us : List Token} {el : Element} → Plain.Elem ts us el → closes us ≡ true → Grammar.Elem ts us el
  tight_elem (Plain.comp d) q = Grammar.comp (tight_comp d q)
  tight_elem (Plain.plain d) q = Grammar.plain (tight_expr d q)

  tight_comp : {ts us : List Token} {el : Element} → Plain.Comp ts us el → closes us ≡ true → Grammar.Comp ts us el
  tight_comp (Plain.a_for d b) q = Grammar.a_for (tight_args d refl) (tight_elem b q)
  tight_comp (Plain.a_loop d t s b) q =
      Grammar.a_loop (tight_args d refl) (tight_expr t refl) (tight_args s refl) (tight_elem b q)
  tight_comp (Plain.an_each d) q = Grammar.an_each (tight_elem d q)
  tight_comp (Plain.let_comp d b) q = Grammar.let_comp (tight_args d refl) (tight_comp b q)
  tight_comp (Plain.an_if d b o) q =
      Grammar.an_if (tight_expr d refl) (tight_elem b (else_closes o q)) (tight_else o q)

  tight_else : {at : Place} {e : Expression} {held el : Element} {ts us : List Token} →
      Plain.Else at e held ts us el → closes us ≡ true →
      Grammar.Else at e held ts us el
  tight_else (Plain.no_else h) q = Grammar.no_else h
  tight_else (Plain.an_else d) q = Grammar.an_else (tight_elem d q)

tight_default : {ts us : List Token} {d : Option Expression} → Plain.Default ts us d → closes us ≡ true →
    Grammar.Default ts us d
tight_default {us = us} Plain.no_default q = Grammar.no_default (closes_no_assign us q)
tight_default (Plain.default d) q = Grammar.default (tight_expr d q)

mutual
  tight_params : {a all : List Parameter} {ts us : List Token} → Plain.Params a ts us all → Round us →
      Grammar.Params a ts us all
  tight_params Plain.no_params is_round = Grammar.no_params
  tight_params (Plain.params d m) s = Grammar.params (tight_default d (params_close m s)) (tight_more_params m s)

  tight_more_params : {a all : List Parameter} {ts us : List Token} → Plain.MoreParams a ts us all → Round us →
      Grammar.MoreParams a ts us all
  tight_more_params Plain.last_param is_round = Grammar.last_param
  tight_more_params (Plain.comma_param d) s = Grammar.comma_param (tight_params d s)

mutual
  tight_statement : {d : Bool} {a b : Items} {ts us : List Token} → Plain.Statement d a ts us b →
      Statements.Statement d a ts us b
  tight_statement Plain.nothing = Statements.nothing
  tight_statement (Plain.group_statement s) = Statements.a_group (tight_statements s)
  tight_statement (Plain.assign e) = Statements.assign (tight_expr e refl)
  tight_statement (Plain.a_module p s) = Statements.a_module (tight_params p is_round) (tight_statement s)
  tight_statement (Plain.a_function p e) = Statements.a_function (tight_params p is_round) (tight_expr e refl)
  tight_statement (Plain.inst i) = Statements.inst (tight_inst i)

  tight_statements : {d : Bool} {a b : Items} {ts us : List Token} → Plain.Statements d a ts us b →
      Statements.Statements d a ts us b
  tight_statements Plain.no_statement = Statements.no_statement
  tight_statements (Plain.statement s l) = Statements.statement (tight_statement s) (tight_statements l)

  tight_inst : {m : Marks} {a b : Items} {ts us : List Token} → Plain.Inst m a ts us b → Statements.Inst m a ts us b
  tight_inst (Plain.star_mark i) = Statements.star_mark (tight_inst i)
  tight_inst (Plain.percent_mark i) = Statements.percent_mark (tight_inst i)
  tight_inst (Plain.hash_mark i) = Statements.hash_mark (tight_inst i)
  tight_inst (Plain.call_statement n d c) = Statements.a_call n (tight_args d refl) (tight_child c)
  tight_inst (Plain.a_choice e c o) = Statements.a_choice (tight_expr e refl) (tight_child c) (tight_otherwise o)

  tight_otherwise : {other : Items} {ts us : List Token} → Plain.Otherwise ts us other →
      Statements.Otherwise ts us other
  tight_otherwise (Plain.no_otherwise h) = Statements.no_otherwise h
  tight_otherwise (Plain.otherwise c) = Statements.otherwise (tight_child c)

  tight_child : {all : Items} {ts us : List Token} → Plain.Child ts us all → Statements.Child ts us all
  tight_child Plain.no_child = Statements.no_child
  tight_child (Plain.children s) = Statements.children (tight_statements s)
  tight_child (Plain.one_child i) = Statements.one_child (tight_inst i)

pub tight_program : {ts : List Token} {all : Items} → Plain.Derives ts all → Statements.Derives ts all
tight_program (Plain.program s) = Statements.program (tight_statements s)
