-- Printed tokens that can be spelled, by the tokens that derive what is printed.
use Rattle.std.proofs.Common.{ℕ, Bool, true, false, List, ◌∷◌, Option, Some, None}
use Rattle.scad_fault.specs.declared.place.Place.{Place}
use Rattle.scad_lex.specs.declared.token.Token.{Token}
use Rattle.scad_lex.specs.declared.token.TokenKind.TheVariants.{Word}
use Rattle.scad_lex.specs.declared.token.Sign.{Sign as SignName}
use Rattle.scad_lex.specs.declared.token.Sign.TheVariants.{OpenRound, CloseRound, OpenSquare, CloseSquare, Semicolon}
use Rattle.scad_lex.specs.declared.token.Sign.TheVariants.{Comma, Colon, Question, Assign, Plus, Minus, Bang, Dot}
use Rattle.scad_lex.specs.declared.token.Key.{Key as KeyName}
use Rattle.scad_lex.specs.declared.token.Key.TheVariants.{If, Else, For, Let, Assert, Echo, Each, True, False, Undef}
use Rattle.scad_lex.specs.Spelling.{CanBeSpelled, HaveSpellings}
use Rattle.scad_ast.specs.declared.operator.BinOp.{BinOp}
use Rattle.scad_ast.specs.declared.operator.BinOp.TheVariants.{Or, And, Eq, Ne, Lt, Le, Gt, Ge, Add, Sub, Mul, Div}
use Rattle.scad_ast.specs.declared.operator.BinOp.TheVariants.{Rem}
use Rattle.scad_ast.specs.Tree.{Expression, Arguments, no_arguments, argument, Elements, no_elements, element}
use Rattle.scad_ast.specs.Tree.{Element}
use Rattle.scad_grammar.specs.Tokens.{sign, key, word, numeral, quoted}
use Rattle.scad_grammar.specs.Lists.{with_argument, with_element}
use Rattle.scad_grammar.specs.Plain
use Rattle.scad_ast.specs.Text.{stands_alone}
use Rattle.scad_grammar.specs.TreeText.{nowhere, operator_token, enclosed_onto, in_round_onto, named_onto, comma_onto}
use Rattle.scad_grammar.specs.TreeText.{expression_onto, arguments_onto, elements_onto, element_onto}

-- tokens before others that can be spelled, so that all can
pub record Spellable (onto : List Token → List Token) : Type 0 where
  pub can : (us : List Token) → HaveSpellings us → HaveSpellings (onto us)

pub none : Spellable (λ us. us)
none = record { can = λ us h. h }

pub one : (t : Token) → CanBeSpelled t.kind → Spellable (λ us. t ∷ us)
one t c = record { can = λ us h. (c, h) }

infixl 60 ◌before◌
pub ◌before◌ : {f g : List Token → List Token} → Spellable f → Spellable g → Spellable (λ us. f (g us))
◌before◌ {g = g} p q = record { can = λ us h. p.can (g us) (q.can us h) }

pub a_sign : (s : SignName) → Spellable (λ us. sign s nowhere ∷ us)
a_sign s = one (sign s nowhere) tt

pub a_key : (k : KeyName) → Spellable (λ us. key k nowhere ∷ us)
a_key k = one (key k nowhere) tt

pub a_word : (w : List ℕ) → CanBeSpelled (Word w) → Spellable (λ us. word w nowhere ∷ us)
a_word w c = one (word w nowhere) c

pub round : {f : List Token → List Token} → Spellable f → Spellable (in_round_onto f)
round p = a_sign OpenRound before p before a_sign CloseRound

pub comma : (first : Bool) → Spellable (comma_onto first)
comma true = none
comma false = a_sign Comma

operand : (alone : Bool) {f : List Token → List Token} → Spellable f → Spellable (enclosed_onto alone f)
operand true p = p
operand false p = round p

operator : (op : BinOp) → Spellable (λ us. operator_token op ∷ us)
operator Or = one (operator_token Or) tt
operator And = one (operator_token And) tt
operator Eq = one (operator_token Eq) tt
operator Ne = one (operator_token Ne) tt
operator Lt = one (operator_token Lt) tt
operator Le = one (operator_token Le) tt
operator Gt = one (operator_token Gt) tt
operator Ge = one (operator_token Ge) tt
operator Add = one (operator_token Add) tt
operator Sub = one (operator_token Sub) tt
operator Mul = one (operator_token Mul) tt
operator Div = one (operator_token Div) tt
operator Rem = one (operator_token Rem) tt

-- ---- lists
abbrev NameCan : Option (List ℕ) → Type 0
NameCan None = Unit {0}
NameCan (Some w) = CanBeSpelled (Word w)

name_before : (w : Option (List ℕ)) → NameCan w → Spellable (named_onto w)
name_before None c = none
name_before (Some w) c = a_word w c before a_sign Assign

abbrev pub ArgumentsCan : Arguments → Type 0
ArgumentsCan no_arguments = Unit {0}
ArgumentsCan (argument w e more) = NameCan w × Spellable (expression_onto e) × ArgumentsCan more

with_argument_can : (a : Arguments) (w : Option (List ℕ)) (e : Expression) → ArgumentsCan a → NameCan w →
    Spellable (expression_onto e) →
    ArgumentsCan (with_argument a w e)
with_argument_can no_arguments w e c n k = (n, k, tt)
with_argument_can (argument v x rest) w e c n k = (c.0, c.1, with_argument_can rest w e c.2 n k)

pub arguments : (first : Bool) (all : Arguments) → ArgumentsCan all → Spellable (arguments_onto first all)
arguments first no_arguments c = none
arguments first (argument w e more) c =
    comma first before name_before w c.0 before c.1 before arguments false more c.2

abbrev ElementsCan : Elements → Type 0
ElementsCan no_elements = Unit {0}
ElementsCan (element e more) = Spellable (element_onto e) × ElementsCan more

with_element_can : (a : Elements) (e : Element) → ElementsCan a → Spellable (element_onto e) →
    ElementsCan (with_element a e)
with_element_can no_elements e c k = (k, tt)
with_element_can (element x rest) e c k = (c.0, with_element_can rest e c.1 k)

elements : (first : Bool) (all : Elements) → ElementsCan all → Spellable (elements_onto first all)
elements first no_elements c = none
elements first (element e more) c = comma first before c.0 before elements false more c.1

-- ---- derivations: what is read can be spelled, and so can what stands behind it
mutual
  pub expr : {ts us : List Token} {e : Expression} → Plain.Expr ts us e → HaveSpellings ts →
      Spellable (expression_onto e) × HaveSpellings us
  expr (Plain.let_expr {all = all} d b) h =
      let p = args d tt h.1.1 in let q = expr b p.1.1 in
      (a_key Let before round (arguments true all p.0) before q.0, q.1)
  expr (Plain.assert_expr {all = all} d b) h =
      let p = args d tt h.1.1 in let q = expr b p.1.1 in
      (a_key Assert before round (arguments true all p.0) before q.0, q.1)
  expr (Plain.echo_expr {all = all} d b) h =
      let p = args d tt h.1.1 in let q = expr b p.1.1 in
      (a_key Echo before round (arguments true all p.0) before q.0, q.1)
  expr (Plain.test d c) h = let p = operand_of d h in choice c p.0 p.1

  choice : {ts us : List Token} {a e : Expression} → Plain.Choice a ts us e → Spellable (expression_onto a) →
      HaveSpellings ts →
      Spellable (expression_onto e) × HaveSpellings us
  choice Plain.no_choice c h = (c, h)
  choice (Plain.choice {a = a} d e) c h =
      let p = expr d h.1 in let q = expr e p.1.1 in
      (operand (stands_alone a) c before a_sign Question before p.0 before a_sign Colon before q.0, q.1)

  operand_of : {n : ℕ} {ts us : List Token} {e : Expression} → Plain.Operand n ts us e → HaveSpellings ts →
      Spellable (expression_onto e) × HaveSpellings us
  operand_of (Plain.tightest d) h = unary_of d h
  operand_of (Plain.line d l) h = let p = operand_of d h in links l p.0 p.1

  links : {n : ℕ} {ts us : List Token} {a e : Expression} → Plain.Links n a ts us e → Spellable (expression_onto a) →
      HaveSpellings ts →
      Spellable (expression_onto e) × HaveSpellings us
  links Plain.no_link c h = (c, h)
  links (Plain.link {op = op} {a = a} {b = b} o d l) c h =
      let p = operand_of d h.1 in links l
      (operand (stands_alone a) c before operator op before operand (stands_alone b) p.0) p.1

  unary_of : {ts us : List Token} {e : Expression} → Plain.Unary ts us e → HaveSpellings ts →
      Spellable (expression_onto e) × HaveSpellings us
  unary_of (Plain.not_unary {e = e} d) h = let p =
      unary_of d h.1 in (a_sign Bang before operand (stands_alone e) p.0, p.1)
  unary_of (Plain.plus_unary {e = e} d) h = let p =
      unary_of d h.1 in (a_sign Plus before operand (stands_alone e) p.0, p.1)
  unary_of (Plain.minus_unary {e = e} d) h = let p =
      unary_of d h.1 in (a_sign Minus before operand (stands_alone e) p.0, p.1)
  unary_of (Plain.post d l) h = let p = prim d h in posts l p.0 p.1

  posts : {ts us : List Token} {a e : Expression} → Plain.Posts a ts us e → Spellable (expression_onto a) →
      HaveSpellings ts →
      Spellable (expression_onto e) × HaveSpellings us
  posts Plain.no_post c h = (c, h)
  posts (Plain.an_index {a = a} d l) c h =
      let p = expr d h.1 in
      posts l (operand (stands_alone a) c before a_sign OpenSquare before p.0 before a_sign CloseSquare) p.1.1
  posts (Plain.a_member {w = w} {a = a} l) c h =
      posts l (operand (stands_alone a) c before a_sign Dot before a_word w h.1.0) h.1.1

  prim : {ts us : List Token} {e : Expression} → Plain.Prim ts us e → HaveSpellings ts →
      Spellable (expression_onto e) × HaveSpellings us
  prim (Plain.a_number {z = z}) h = (one (numeral z nowhere) h.0, h.1)
  prim (Plain.a_string {chars = chars}) h = (one (quoted chars nowhere) h.0, h.1)
  prim Plain.a_true h = (a_key True, h.1)
  prim Plain.a_false h = (a_key False, h.1)
  prim Plain.an_undef h = (a_key Undef, h.1)
  prim (Plain.a_name {w = w}) h = (a_word w h.0, h.1)
  prim (Plain.a_call {w = w} {all = all} d) h =
      let p = args d tt h.1.1 in (a_word w h.0 before round (arguments true all p.0), p.1.1)
  prim (Plain.a_group d) h = let p = expr d h.1 in (p.0, p.1.1)
  prim (Plain.a_range d e r) h = let p = expr d h.1 in let q = expr e p.1.1 in range_end r p.0 q.0 q.1
  prim (Plain.a_vector {all = all} d) h =
      let p = elems d tt h.1 in (a_sign OpenSquare before elements true all p.0 before a_sign CloseSquare, p.1.1)

  range_end : {at : Place} {ts us : List Token} {a b e : Expression} → Plain.RangeEnd at a b ts us e →
      Spellable (expression_onto a) →
      Spellable (expression_onto b) → HaveSpellings ts → Spellable (expression_onto e) × HaveSpellings us
  range_end Plain.two_parts c k h =
      (a_sign OpenSquare before c before a_sign Colon before k before a_sign CloseSquare, h.1)
  range_end (Plain.three_parts d) c k h =
      let p = expr d h.1 in (
        a_sign OpenSquare before c before a_sign Colon before k before a_sign Colon before p.0
            before a_sign CloseSquare,
        p.1.1,
      )

  pub args : {a all : Arguments} {ts us : List Token} → Plain.Args a ts us all → ArgumentsCan a → HaveSpellings ts →
      ArgumentsCan all × HaveSpellings us
  args Plain.no_args c h = (c, h)
  args (Plain.unnamed {a = a} {e = e} d m) c h = let p =
      expr d h in more_args m (with_argument_can a None e c tt p.0) p.1
  args (Plain.named {w = w} {a = a} {e = e} d m) c h =
      let p = expr d h.1.1 in more_args m (with_argument_can a (Some w) e c h.0 p.0) p.1

  more_args : {a all : Arguments} {ts us : List Token} → Plain.MoreArgs a ts us all → ArgumentsCan a →
      HaveSpellings ts → ArgumentsCan all × HaveSpellings us
  more_args Plain.last_arg c h = (c, h)
  more_args (Plain.comma_arg d) c h = args d c h.1

  elems : {a all : Elements} {ts us : List Token} → Plain.Elems a ts us all → ElementsCan a → HaveSpellings ts →
      ElementsCan all × HaveSpellings us
  elems Plain.no_elems c h = (c, h)
  elems (Plain.elems {a = a} {el = el} d m) c h = let p = elem d h in more_elems m (with_element_can a el c p.0) p.1

  more_elems : {a all : Elements} {ts us : List Token} → Plain.MoreElems a ts us all → ElementsCan a →
      HaveSpellings ts → ElementsCan all × HaveSpellings us
  more_elems Plain.last_elem c h = (c, h)
  more_elems (Plain.comma_elem d) c h = elems d c h.1

  elem : {ts us : List Token} {el : Element} → Plain.Elem ts us el → HaveSpellings ts →
      Spellable (element_onto el) × HaveSpellings us
  elem (Plain.comp d) h = comp d h
  elem (Plain.plain d) h = expr d h

  comp : {ts us : List Token} {el : Element} → Plain.Comp ts us el → HaveSpellings ts →
      Spellable (element_onto el) × HaveSpellings us
  comp (Plain.a_for {all = all} d b) h =
      let p = args d tt h.1.1 in let q = elem b p.1.1 in
      (a_key For before round (arguments true all p.0) before q.0, q.1)
  comp (Plain.a_loop {starts = starts} {steps = steps} d t s b) h =
      let p = args d tt h.1.1 in let q = expr t p.1.1 in let r = args s tt q.1.1 in let el = elem b r.1.1 in (
        a_key For before a_sign OpenRound before arguments true starts p.0 before a_sign Semicolon
            before q.0 before a_sign Semicolon
            before arguments true steps r.0 before a_sign CloseRound before el.0,
        el.1,
      )
  comp (Plain.an_each d) h = let p = elem d h.1 in (a_key Each before p.0, p.1)
  comp (Plain.let_comp {all = all} d b) h =
      let p = args d tt h.1.1 in let q = comp b p.1.1 in
      (a_key Let before round (arguments true all p.0) before q.0, q.1)
  comp (Plain.an_if d b o) h = let p = expr d h.1.1 in let q = elem b p.1.1 in else_of o p.0 q.0 q.1

  else_of : {at : Place} {e : Expression} {held el : Element} {ts us : List Token} → Plain.Else at e held ts us el →
      Spellable (expression_onto e) →
      Spellable (element_onto held) → HaveSpellings ts → Spellable (element_onto el) × HaveSpellings us
  else_of (Plain.no_else n) c k h = (a_key If before round c before k, h)
  else_of (Plain.an_else d) c k h =
      let p = elem d h.1 in (a_key If before round c before k before a_key Else before p.0, p.1)
