-- Each tree that tokens derive can be printed.
use Rattle.std.proofs.Common.{◌≡◌, ℕ, true, false, List, Option, refl, sym, ◌∙◌}
use Rattle.std.proofs.lemmas.Bool.{false≢true}
use Rattle.scad_fault.specs.declared.place.Place.{Place}
use Rattle.scad_lex.specs.declared.token.Token.{Token}
use Rattle.scad_lex.specs.declared.token.Key.TheVariants.{Else}
use Rattle.scad_ast.specs.Tree.{Expression, Arguments, no_arguments, argument, Elements, no_elements, element}
use Rattle.scad_ast.specs.Tree.{Element}
use Rattle.scad_grammar.specs.Tokens.{begins_with_key}
use Rattle.scad_grammar.specs.Lists.{with_argument, with_element}
use Rattle.scad_grammar.specs.Plain
use Rattle.scad_grammar.specs.TreeText.{is_item, takes_else, IsPrintable, ArePrintable, ArePrintableElements}
use Rattle.scad_grammar.specs.TreeText.{IsPrintableElement}

with_printable : (a : Arguments) (w : Option (List ℕ)) (e : Expression) → ArePrintable a → IsPrintable e →
    ArePrintable (with_argument a w e)
with_printable no_arguments w e h k = (k, tt)
with_printable (argument v x rest) w e h k = (h.0, with_printable rest w e h.1 k)

with_printable_element : (a : Elements) (e : Element) → ArePrintableElements a → IsPrintableElement e →
    ArePrintableElements (with_element a e)
with_printable_element no_elements e h k = (k, tt)
with_printable_element (element x rest) e h k = (h.0, with_printable_element rest e h.1 k)

comp_no_item : {ts us : List Token} {el : Element} → Plain.Comp ts us el → is_item el ≡ false
comp_no_item (Plain.a_for d b) = refl
comp_no_item (Plain.a_loop d t s b) = refl
comp_no_item (Plain.an_each d) = refl
comp_no_item (Plain.let_comp d b) = refl
comp_no_item (Plain.an_if d b (Plain.no_else h)) = refl
comp_no_item (Plain.an_if d b (Plain.an_else c)) = refl

-- an element before an `else` would not take it
mutual
  elem_no_else : {ts us : List Token} {el : Element} → Plain.Elem ts us el → begins_with_key Else us ≡ true →
      takes_else el ≡ false
  elem_no_else (Plain.comp d) h = comp_no_else d h
  elem_no_else (Plain.plain d) h = refl

  comp_no_else : {ts us : List Token} {el : Element} → Plain.Comp ts us el → begins_with_key Else us ≡ true →
      takes_else el ≡ false
  comp_no_else (Plain.a_for d b) h = elem_no_else b h
  comp_no_else (Plain.a_loop d t s b) h = elem_no_else b h
  comp_no_else (Plain.an_each d) h = elem_no_else d h
  comp_no_else (Plain.let_comp d b) h = comp_no_else b h
  comp_no_else (Plain.an_if d b (Plain.no_else n)) h = absurd (false≢true (sym n ∙ h))
  comp_no_else (Plain.an_if d b (Plain.an_else c)) h = elem_no_else c h

mutual
  pub printable : {ts us : List Token} {e : Expression} → Plain.Expr ts us e → IsPrintable e
  printable (Plain.let_expr d b) = (printable_args d tt, printable b)
  printable (Plain.assert_expr d b) = (printable_args d tt, printable b)
  printable (Plain.echo_expr d b) = (printable_args d tt, printable b)
  printable (Plain.test d c) = printable_choice c (printable_operand d)

  printable_choice : {ts us : List Token} {a e : Expression} → Plain.Choice a ts us e → IsPrintable a → IsPrintable e
  printable_choice Plain.no_choice h = h
  printable_choice (Plain.choice d e) h = (h, printable d, printable e)

  printable_operand : {n : ℕ} {ts us : List Token} {e : Expression} → Plain.Operand n ts us e → IsPrintable e
  printable_operand (Plain.tightest d) = printable_unary d
  printable_operand (Plain.line d l) = printable_links l (printable_operand d)

  printable_links : {n : ℕ} {ts us : List Token} {a e : Expression} → Plain.Links n a ts us e → IsPrintable a →
      IsPrintable e
  printable_links Plain.no_link h = h
  printable_links (Plain.link o d l) h = printable_links l (h, printable_operand d)

  printable_unary : {ts us : List Token} {e : Expression} → Plain.Unary ts us e → IsPrintable e
  printable_unary (Plain.not_unary d) = printable_unary d
  printable_unary (Plain.plus_unary d) = printable_unary d
  printable_unary (Plain.minus_unary d) = printable_unary d
  printable_unary (Plain.post d l) = printable_posts l (printable_prim d)

  printable_posts : {ts us : List Token} {a e : Expression} → Plain.Posts a ts us e → IsPrintable a → IsPrintable e
  printable_posts Plain.no_post h = h
  printable_posts (Plain.an_index d l) h = printable_posts l (h, printable d)
  printable_posts (Plain.a_member l) h = printable_posts l h

  printable_prim : {ts us : List Token} {e : Expression} → Plain.Prim ts us e → IsPrintable e
  printable_prim Plain.a_number = tt
  printable_prim Plain.a_string = tt
  printable_prim Plain.a_true = tt
  printable_prim Plain.a_false = tt
  printable_prim Plain.an_undef = tt
  printable_prim Plain.a_name = tt
  printable_prim (Plain.a_call d) = printable_args d tt
  printable_prim (Plain.a_group d) = printable d
  printable_prim (Plain.a_range d e r) = printable_range r (printable d) (printable e)
  printable_prim (Plain.a_vector d) = printable_elems d tt

  printable_range : {at : Place} {ts us : List Token} {a b e : Expression} → Plain.RangeEnd at a b ts us e →
      IsPrintable a → IsPrintable b → IsPrintable e
  printable_range Plain.two_parts h k = (h, k)
  printable_range (Plain.three_parts d) h k = (h, k, printable d)

  pub printable_args : {a all : Arguments} {ts us : List Token} → Plain.Args a ts us all → ArePrintable a →
      ArePrintable all
  printable_args Plain.no_args h = h
  printable_args (Plain.unnamed {a = a} {e = e} d m) h = printable_more m (with_printable a _ e h (printable d))
  printable_args (Plain.named {a = a} {e = e} d m) h = printable_more m (with_printable a _ e h (printable d))

  printable_more : {a all : Arguments} {ts us : List Token} → Plain.MoreArgs a ts us all → ArePrintable a →
      ArePrintable all
  printable_more Plain.last_arg h = h
  printable_more (Plain.comma_arg d) h = printable_args d h

  printable_elems : {a all : Elements} {ts us : List Token} → Plain.Elems a ts us all → ArePrintableElements a →
      ArePrintableElements all
  printable_elems Plain.no_elems h = h
  printable_elems (Plain.elems {a = a} {el = el} d m) h =
      printable_more_elems m (with_printable_element a el h (printable_elem d))

  printable_more_elems : {a all : Elements} {ts us : List Token} → Plain.MoreElems a ts us all →
      ArePrintableElements a → ArePrintableElements all
  printable_more_elems Plain.last_elem h = h
  printable_more_elems (Plain.comma_elem d) h = printable_elems d h

  printable_elem : {ts us : List Token} {el : Element} → Plain.Elem ts us el → IsPrintableElement el
  printable_elem (Plain.comp d) = printable_comp d
  printable_elem (Plain.plain d) = printable d

  printable_comp : {ts us : List Token} {el : Element} → Plain.Comp ts us el → IsPrintableElement el
  printable_comp (Plain.a_for d b) = (printable_args d tt, printable_elem b)
  printable_comp (Plain.a_loop d t s b) = (printable_args d tt, printable t, printable_args s tt, printable_elem b)
  printable_comp (Plain.an_each d) = printable_elem d
  printable_comp (Plain.let_comp d b) = (printable_args d tt, printable_comp b, comp_no_item b)
  printable_comp (Plain.an_if d b (Plain.no_else h)) = (printable d, printable_elem b)
  printable_comp (Plain.an_if d b (Plain.an_else c)) =
      (printable d, printable_elem b, printable_elem c, elem_no_else b refl)
