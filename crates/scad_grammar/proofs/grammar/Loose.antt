-- Each derivation in which each part is as long as it can be is one of the grammar on paper.
use Rattle.std.proofs.Common.{ℕ, Bool, List, Option}
use Rattle.scad_fault.specs.declared.place.Place.{Place}
use Rattle.scad_lex.specs.declared.token.Token.{Token}
use Rattle.scad_ast.specs.Tree.{Expression, Arguments, Elements, Element, Parameter, Items}
use Rattle.scad_grammar.specs.Lists.{Marks}
use Rattle.scad_grammar.specs.Grammar
use Rattle.scad_grammar.specs.Statements
use Rattle.scad_grammar.specs.Plain

mutual
  loose_expr : {ts us : List Token} {e : Expression} → Grammar.Expr ts us e → Plain.Expr ts us e
  loose_expr (Grammar.let_expr d b) = Plain.let_expr (loose_args d) (loose_expr b)
  loose_expr (Grammar.assert_expr d b) = Plain.assert_expr (loose_args d) (loose_expr b)
  loose_expr (Grammar.echo_expr d b) = Plain.echo_expr (loose_args d) (loose_expr b)
  loose_expr (Grammar.test d c) = Plain.test (loose_operand d) (loose_choice c)

  loose_choice : {a e : Expression} {ts us : List Token} → Grammar.Choice a ts us e → Plain.Choice a ts us e
  loose_choice (Grammar.no_choice h) = Plain.no_choice
  loose_choice (Grammar.choice d e) = Plain.choice (loose_expr d) (loose_expr e)

  loose_operand : {n : ℕ} {ts us : List Token} {e : Expression} → Grammar.Operand n ts us e → Plain.Operand n ts us e
  loose_operand (Grammar.tightest d) = Plain.tightest (loose_unary d)
  loose_operand (Grammar.line d l) = Plain.line (loose_operand d) (loose_links l)

  loose_links : {n : ℕ} {a e : Expression} {ts us : List Token} → Grammar.Links n a ts us e → Plain.Links n a ts us e
  loose_links (Grammar.no_link h) = Plain.no_link
  loose_links (Grammar.link h d l) = Plain.link h (loose_operand d) (loose_links l)

  loose_unary : {ts us : List Token} {e : Expression} → Grammar.Unary ts us e → Plain.Unary ts us e
  loose_unary (Grammar.not_unary d) = Plain.not_unary (loose_unary d)
  loose_unary (Grammar.plus_unary d) = Plain.plus_unary (loose_unary d)
  loose_unary (Grammar.minus_unary d) = Plain.minus_unary (loose_unary d)
  loose_unary (Grammar.post d l) = Plain.post (loose_prim d) (loose_posts l)

  loose_posts : {a e : Expression} {ts us : List Token} → Grammar.Posts a ts us e → Plain.Posts a ts us e
  loose_posts (Grammar.no_post h₁ h₂ h₃) = Plain.no_post
  loose_posts (Grammar.an_index d l) = Plain.an_index (loose_expr d) (loose_posts l)
  loose_posts (Grammar.a_member l) = Plain.a_member (loose_posts l)

  loose_prim : {ts us : List Token} {e : Expression} → Grammar.Prim ts us e → Plain.Prim ts us e
  loose_prim Grammar.a_number = Plain.a_number
  loose_prim Grammar.a_string = Plain.a_string
  loose_prim Grammar.a_true = Plain.a_true
  loose_prim Grammar.a_false = Plain.a_false
  loose_prim Grammar.an_undef = Plain.an_undef
  loose_prim (Grammar.a_name h) = Plain.a_name
  loose_prim (Grammar.a_call d) = Plain.a_call (loose_args d)
  loose_prim (Grammar.a_group d) = Plain.a_group (loose_expr d)
  loose_prim (Grammar.a_range d e r) = Plain.a_range (loose_expr d) (loose_expr e) (loose_range r)
  loose_prim (Grammar.a_vector d) = Plain.a_vector (loose_elems d)

  loose_range : {at : Place} {a b e : Expression} {ts us : List Token} → Grammar.RangeEnd at a b ts us e →
      Plain.RangeEnd at a b ts us e
  loose_range Grammar.two_parts = Plain.two_parts
  loose_range (Grammar.three_parts d) = Plain.three_parts (loose_expr d)

  loose_args : {a all : Arguments} {ts us : List Token} → Grammar.Args a ts us all → Plain.Args a ts us all
  loose_args (Grammar.no_args h) = Plain.no_args
  loose_args (Grammar.unnamed h d m) = Plain.unnamed (loose_expr d) (loose_more_args m)
  loose_args (Grammar.named d m) = Plain.named (loose_expr d) (loose_more_args m)

  loose_more_args : {a all : Arguments} {ts us : List Token} → Grammar.MoreArgs a ts us all →
      Plain.MoreArgs a ts us all
  loose_more_args (Grammar.last_arg h) = Plain.last_arg
  loose_more_args (Grammar.comma_arg d) = Plain.comma_arg (loose_args d)

  loose_elems : {a all : Elements} {ts us : List Token} → Grammar.Elems a ts us all → Plain.Elems a ts us all
  loose_elems Grammar.no_elems = Plain.no_elems
  loose_elems (Grammar.elems d m) = Plain.elems (loose_elem d) (loose_more_elems m)

  loose_more_elems : {a all : Elements} {ts us : List Token} → Grammar.MoreElems a ts us all →
      Plain.MoreElems a ts us all
  loose_more_elems Grammar.last_elem = Plain.last_elem
  loose_more_elems (Grammar.comma_elem d) = Plain.comma_elem (loose_elems d)

  loose_elem : {ts us : List Token} {el : Element} → Grammar.Elem ts us el → Plain.Elem ts us el
  loose_elem (Grammar.comp d) = Plain.comp (loose_comp d)
  loose_elem (Grammar.plain d) = Plain.plain (loose_expr d)

  loose_comp : {ts us : List Token} {el : Element} → Grammar.Comp ts us el → Plain.Comp ts us el
  loose_comp (Grammar.a_for d b) = Plain.a_for (loose_args d) (loose_elem b)
  loose_comp (Grammar.a_loop d t s b) = Plain.a_loop (loose_args d) (loose_expr t) (loose_args s) (loose_elem b)
  loose_comp (Grammar.an_each d) = Plain.an_each (loose_elem d)
  loose_comp (Grammar.let_comp d b) = Plain.let_comp (loose_args d) (loose_comp b)
  loose_comp (Grammar.an_if d b o) = Plain.an_if (loose_expr d) (loose_elem b) (loose_else o)

  loose_else : {at : Place} {e : Expression} {held el : Element} {ts us : List Token} →
      Grammar.Else at e held ts us el → Plain.Else at e held ts us el
  loose_else (Grammar.no_else h) = Plain.no_else h
  loose_else (Grammar.an_else d) = Plain.an_else (loose_elem d)

loose_default : {ts us : List Token} {d : Option Expression} → Grammar.Default ts us d → Plain.Default ts us d
loose_default (Grammar.no_default h) = Plain.no_default
loose_default (Grammar.default d) = Plain.default (loose_expr d)

mutual
  loose_params : {a all : List Parameter} {ts us : List Token} → Grammar.Params a ts us all → Plain.Params a ts us all
  loose_params Grammar.no_params = Plain.no_params
  loose_params (Grammar.params d m) = Plain.params (loose_default d) (loose_more_params m)

  loose_more_params : {a all : List Parameter} {ts us : List Token} → Grammar.MoreParams a ts us all →
      Plain.MoreParams a ts us all
  loose_more_params Grammar.last_param = Plain.last_param
  loose_more_params (Grammar.comma_param d) = Plain.comma_param (loose_params d)

mutual
  loose_statement : {d : Bool} {a b : Items} {ts us : List Token} → Statements.Statement d a ts us b →
      Plain.Statement d a ts us b
  loose_statement Statements.nothing = Plain.nothing
  loose_statement (Statements.a_group s) = Plain.group_statement (loose_statements s)
  loose_statement (Statements.assign e) = Plain.assign (loose_expr e)
  loose_statement (Statements.a_module p s) = Plain.a_module (loose_params p) (loose_statement s)
  loose_statement (Statements.a_function p e) = Plain.a_function (loose_params p) (loose_expr e)
  loose_statement (Statements.inst i) = Plain.inst (loose_inst i)

  loose_statements : {d : Bool} {a b : Items} {ts us : List Token} → Statements.Statements d a ts us b →
      Plain.Statements d a ts us b
  loose_statements Statements.no_statement = Plain.no_statement
  loose_statements (Statements.statement s l) = Plain.statement (loose_statement s) (loose_statements l)

  loose_inst : {m : Marks} {a b : Items} {ts us : List Token} → Statements.Inst m a ts us b → Plain.Inst m a ts us b
  loose_inst (Statements.star_mark i) = Plain.star_mark (loose_inst i)
  loose_inst (Statements.percent_mark i) = Plain.percent_mark (loose_inst i)
  loose_inst (Statements.hash_mark i) = Plain.hash_mark (loose_inst i)
  loose_inst (Statements.a_call n d c) = Plain.call_statement n (loose_args d) (loose_child c)
  loose_inst (Statements.a_choice e c o) = Plain.a_choice (loose_expr e) (loose_child c) (loose_otherwise o)

  loose_otherwise : {other : Items} {ts us : List Token} → Statements.Otherwise ts us other →
      Plain.Otherwise ts us other
  loose_otherwise (Statements.no_otherwise h) = Plain.no_otherwise h
  loose_otherwise (Statements.otherwise c) = Plain.otherwise (loose_child c)

  loose_child : {all : Items} {ts us : List Token} → Statements.Child ts us all → Plain.Child ts us all
  loose_child Statements.no_child = Plain.no_child
  loose_child (Statements.children s) = Plain.children (loose_statements s)
  loose_child (Statements.one_child i) = Plain.one_child (loose_inst i)

pub loose_program : {ts : List Token} {all : Items} → Statements.Derives ts all → Plain.Derives ts all
loose_program (Statements.program s) = Plain.program (loose_statements s)
