-- What tokens derive, tokens of the same kinds derive too, places aside: expressions.
use Rattle.std.proofs.Common.{◌≡◌, ℕ, Bool, List, [], ◌∷◌, Option, map, refl, sym, ap, ap₂, ◌∙◌, subst}
use Rattle.scad_fault.specs.declared.place.Place.{Place}
use Rattle.scad_lex.specs.declared.token.Token.{Token}
use Rattle.scad_lex.specs.declared.token.TokenKind.{TokenKind}
use Rattle.scad_lex.specs.declared.token.Key.{Key as KeyName}
use Rattle.scad_lex.specs.declared.token.Key.TheVariants.{Else}
use Rattle.scad_ast.specs.declared.operator.UnOp.TheVariants.{Not, Plus as UnaryPlus, Minus as UnaryMinus}
use Rattle.scad_ast.specs.Tree.{Expression, vector, range, stepped, unary, binary, choose, index, member, call}
use Rattle.scad_ast.specs.Tree.{let_in, assert_in, echo_in, Arguments, no_arguments, argument, Elements, no_elements}
use Rattle.scad_ast.specs.Tree.{element, Element, item, each, for_each, for_loop, let_element, if_element, if_else}
use Rattle.scad_grammar.specs.Tokens.{begins_with_key}
use Rattle.scad_grammar.specs.Lists.{with_argument, with_element}
use Rattle.scad_grammar.specs.Plain
use Rattle.scad_grammar.specs.TreeText.{nowhere, unplaced, unplaced_arguments, unplaced_elements, unplaced_element}

-- tokens of the same kinds, wherever they stand
pub data Alike : List Token → List Token → Type 0 where
  none : Alike [] []
  one : {k : TokenKind} {p q : Place} {ts us : List Token} →
      Alike ts us → Alike (record { kind = k; at = p } ∷ ts) (record { kind = k; at = q } ∷ us)

-- tokens whose kinds are those of other tokens are alike
pub alike_of_kinds : (ts us : List Token) → map (λ t. t.kind) ts ≡ map (λ t. t.kind) us → Alike ts us
alike_of_kinds [] [] h = none
alike_of_kinds [] (u ∷ us) h = cc
alike_of_kinds (t ∷ ts) [] h = cc
alike_of_kinds (t ∷ ts) (u ∷ us) h =
    let same : t.kind ≡ u.kind = cc in
    let more : map (λ x. x.kind) ts ≡ map (λ x. x.kind) us = cc in
    subst (λ k. Alike (t ∷ ts) (record { kind = k; at = u.at } ∷ us)) same (one (alike_of_kinds ts us more))

-- from tokens `vs` the family derives the same tree, its places aside, and leaves tokens like `us`
pub data Also {T : Type 0} (bare : T → T) (F : List Token → List Token → T →
    Type 0) (us vs : List Token) (e : T) : Type 0 where
  also : {ws : List Token} {d : T} → Alike us ws → F vs ws d → bare d ≡ bare e → Also bare F us vs e

pub keeps_key : (k : KeyName) {b : Bool} {ts us : List Token} → Alike ts us → begins_with_key k ts ≡ b →
    begins_with_key k us ≡ b
keeps_key k none h = h
keeps_key k (one a) h = h

pub ap₃ : {A B C D : Type 0} (f : A → B → C → D) {a b : A} {c d : B} {x y : C} →
    a ≡ b → c ≡ d → x ≡ y → f a c x ≡ f b d y
ap₃ f h k m = ap₂ (λ g z. g z) (ap₂ f h k) m

ap₄ : {A B C D E : Type 0} (f : A → B → C → D → E) {a b : A} {c d : B} {x y : C} {v w : D} →
    a ≡ b → c ≡ d → x ≡ y → v ≡ w → f a c x v ≡ f b d y w
ap₄ f h k m n = ap₂ (λ g z. g z) (ap₃ f h k m) n

-- one more member
bare_argument : (a : Arguments) (w : Option (List ℕ)) (e : Expression) →
    unplaced_arguments (with_argument a w e) ≡ with_argument (unplaced_arguments a) w (unplaced e)
bare_argument no_arguments w e = refl
bare_argument (argument v x rest) w e = ap (argument v (unplaced x)) (bare_argument rest w e)

bare_element : (a : Elements) (e : Element) →
    unplaced_elements (with_element a e) ≡ with_element (unplaced_elements a) (unplaced_element e)
bare_element no_elements e = refl
bare_element (element x rest) e = ap (element (unplaced_element x)) (bare_element rest e)

same_argument : (a b : Arguments) (w : Option (List ℕ)) (d e : Expression) →
    unplaced_arguments a ≡ unplaced_arguments b → unplaced d ≡ unplaced e →
    unplaced_arguments (with_argument a w d) ≡ unplaced_arguments (with_argument b w e)
same_argument a b w d e h k = bare_argument a w d ∙ ap₂ (λ x y. with_argument x w y) h k ∙ sym (bare_argument b w e)

same_element : (a b : Elements) (d e : Element) → unplaced_elements a ≡ unplaced_elements b → unplaced_element d
    ≡ unplaced_element e →
    unplaced_elements (with_element a d) ≡ unplaced_elements (with_element b e)
same_element a b d e h k = bare_element a d ∙ ap₂ with_element h k ∙ sym (bare_element b e)

-- a family with a tree so far goes on from any that is the same, its places aside
mutual
  pub alike_expr : {ts us vs : List Token} {e : Expression} → Plain.Expr ts us e → Alike ts vs →
      Also unplaced Plain.Expr us vs e
  alike_expr (Plain.let_expr d b) (one (one a)) = elim (alike_args d refl a) [
    | also (one x) f h ↦
        elim (alike_expr b x) [ also y g k ↦ also y (Plain.let_expr f g) (ap₂ (let_in nowhere) h k) ]
  ]
  alike_expr (Plain.assert_expr d b) (one (one a)) = elim (alike_args d refl a) [
    | also (one x) f h ↦
        elim (alike_expr b x) [ also y g k ↦ also y (Plain.assert_expr f g) (ap₂ (assert_in nowhere) h k) ]
  ]
  alike_expr (Plain.echo_expr d b) (one (one a)) = elim (alike_args d refl a) [
    | also (one x) f h ↦
        elim (alike_expr b x) [ also y g k ↦ also y (Plain.echo_expr f g) (ap₂ (echo_in nowhere) h k) ]
  ]
  alike_expr (Plain.test d c) a = elim (alike_operand d a) [
    | also x f h ↦
        elim (alike_choice c h x) [ also y g k ↦ also y (Plain.test f g) k ]
  ]

  alike_choice : {ts us vs : List Token} {a b e : Expression} → Plain.Choice a ts us e →
      unplaced b ≡ unplaced a → Alike ts vs → Also unplaced (Plain.Choice b) us vs e
  alike_choice Plain.no_choice s a = also a Plain.no_choice s
  alike_choice (Plain.choice d e) s (one a) = elim (alike_expr d a) [
    | also (one x) f h ↦
        elim (alike_expr e x) [ also y g k ↦ also y (Plain.choice f g) (ap₃ (choose nowhere) s h k) ]
  ]

  alike_operand : {n : ℕ} {ts us vs : List Token} {e : Expression} → Plain.Operand n ts us e → Alike ts vs →
      Also unplaced (Plain.Operand n) us vs e
  alike_operand (Plain.tightest d) a = elim (alike_unary d a) [ also x f h ↦ also x (Plain.tightest f) h ]
  alike_operand (Plain.line d l) a = elim (alike_operand d a) [
    | also x f h ↦
        elim (alike_links l h x) [ also y g k ↦ also y (Plain.line f g) k ]
  ]

  alike_links : {n : ℕ} {ts us vs : List Token} {a b e : Expression} → Plain.Links n a ts us e →
      unplaced b ≡ unplaced a → Alike ts vs → Also unplaced (Plain.Links n b) us vs e
  alike_links Plain.no_link s a = also a Plain.no_link s
  alike_links (Plain.link {op = op} o d l) s (one a) = elim (alike_operand d a) [
    | also x f h ↦
        elim (alike_links l (ap₂ (binary nowhere op) s h) x) [ also y g k ↦ also y (Plain.link o f g) k ]
  ]

  alike_unary : {ts us vs : List Token} {e : Expression} → Plain.Unary ts us e → Alike ts vs →
      Also unplaced Plain.Unary us vs e
  alike_unary (Plain.not_unary d) (one a) = elim (alike_unary d a) [
    | also x f h ↦
        also x (Plain.not_unary f) (ap (unary nowhere Not) h)
  ]
  alike_unary (Plain.plus_unary d) (one a) = elim (alike_unary d a) [
    | also x f h ↦
        also x (Plain.plus_unary f) (ap (unary nowhere UnaryPlus) h)
  ]
  alike_unary (Plain.minus_unary d) (one a) = elim (alike_unary d a) [
    | also x f h ↦
        also x (Plain.minus_unary f) (ap (unary nowhere UnaryMinus) h)
  ]
  alike_unary (Plain.post d l) a = elim (alike_prim d a) [
    | also x f h ↦
        elim (alike_posts l h x) [ also y g k ↦ also y (Plain.post f g) k ]
  ]

  alike_posts : {ts us vs : List Token} {a b e : Expression} → Plain.Posts a ts us e →
      unplaced b ≡ unplaced a → Alike ts vs → Also unplaced (Plain.Posts b) us vs e
  alike_posts Plain.no_post s a = also a Plain.no_post s
  alike_posts (Plain.an_index d l) s (one a) = elim (alike_expr d a) [
    | also (one x) f h ↦
        elim (alike_posts l (ap₂ (index nowhere) s h) x) [ also y g k ↦ also y (Plain.an_index f g) k ]
  ]
  alike_posts (Plain.a_member {w = w} l) s (one (one a)) =
      elim (alike_posts l (ap (λ e. member nowhere e w) s) a) [ also x f h ↦ also x (Plain.a_member f) h ]

  alike_prim : {ts us vs : List Token} {e : Expression} → Plain.Prim ts us e → Alike ts vs →
      Also unplaced Plain.Prim us vs e
  alike_prim Plain.a_number (one a) = also a Plain.a_number refl
  alike_prim Plain.a_string (one a) = also a Plain.a_string refl
  alike_prim Plain.a_true (one a) = also a Plain.a_true refl
  alike_prim Plain.a_false (one a) = also a Plain.a_false refl
  alike_prim Plain.an_undef (one a) = also a Plain.an_undef refl
  alike_prim Plain.a_name (one a) = also a Plain.a_name refl
  alike_prim (Plain.a_call {w = w} d) (one (one a)) = elim (alike_args d refl a) [
    | also (one x) f h ↦
        also x (Plain.a_call f) (ap (call nowhere w) h)
  ]
  alike_prim (Plain.a_group d) (one a) = elim (alike_expr d a) [ also (one x) f h ↦ also x (Plain.a_group f) h ]
  alike_prim (Plain.a_range d e r) (one a) = elim (alike_expr d a) [
    | also (one x) f h ↦
        elim (alike_expr e x) [
          | also y g k ↦
              elim (alike_range r h k y) [ also z i m ↦ also z (Plain.a_range f g i) m ]
        ]
  ]
  alike_prim (Plain.a_vector d) (one a) = elim (alike_elems d refl a) [
    | also (one x) f h ↦
        also x (Plain.a_vector f) (ap (vector nowhere) h)
  ]

  alike_range : {at to : Place} {ts us vs : List Token} {a b c d e : Expression} → Plain.RangeEnd at a b ts us e →
      unplaced c ≡ unplaced a → unplaced d ≡ unplaced b → Alike ts vs → Also unplaced (Plain.RangeEnd to c d) us vs e
  alike_range Plain.two_parts s t (one a) = also a Plain.two_parts (ap₂ (range nowhere) s t)
  alike_range (Plain.three_parts d) s t (one a) = elim (alike_expr d a) [
    | also (one x) f h ↦
        also x (Plain.three_parts f) (ap₃ (stepped nowhere) s t h)
  ]

  pub alike_args : {ts us vs : List Token} {a b all : Arguments} → Plain.Args a ts us all →
      unplaced_arguments b ≡ unplaced_arguments a → Alike ts vs → Also unplaced_arguments (Plain.Args b) us vs all
  alike_args Plain.no_args s a = also a Plain.no_args s
  alike_args (Plain.unnamed d m) s a = elim (alike_expr d a) [
    | also x f h ↦
        elim (alike_more_args m (same_argument _ _ _ _ _ s h) x) [ also y g k ↦ also y (Plain.unnamed f g) k ]
  ]
  alike_args (Plain.named d m) s (one (one a)) = elim (alike_expr d a) [
    | also x f h ↦
        elim (alike_more_args m (same_argument _ _ _ _ _ s h) x) [ also y g k ↦ also y (Plain.named f g) k ]
  ]

  alike_more_args : {ts us vs : List Token} {a b all : Arguments} → Plain.MoreArgs a ts us all →
      unplaced_arguments b ≡ unplaced_arguments a → Alike ts vs → Also unplaced_arguments (Plain.MoreArgs b) us vs all
  alike_more_args Plain.last_arg s a = also a Plain.last_arg s
  alike_more_args (Plain.comma_arg d) s (one a) =
      elim (alike_args d s a) [ also x f h ↦ also x (Plain.comma_arg f) h ]

  alike_elems : {ts us vs : List Token} {a b all : Elements} → Plain.Elems a ts us all →
      unplaced_elements b ≡ unplaced_elements a → Alike ts vs → Also unplaced_elements (Plain.Elems b) us vs all
  alike_elems Plain.no_elems s a = also a Plain.no_elems s
  alike_elems (Plain.elems d m) s a = elim (alike_elem d a) [
    | also x f h ↦
        elim (alike_more_elems m (same_element _ _ _ _ s h) x) [ also y g k ↦ also y (Plain.elems f g) k ]
  ]

  alike_more_elems : {ts us vs : List Token} {a b all : Elements} → Plain.MoreElems a ts us all →
      unplaced_elements b ≡ unplaced_elements a → Alike ts vs → Also unplaced_elements (Plain.MoreElems b) us vs all
  alike_more_elems Plain.last_elem s a = also a Plain.last_elem s
  alike_more_elems (Plain.comma_elem d) s (one a) =
      elim (alike_elems d s a) [ also x f h ↦ also x (Plain.comma_elem f) h ]

  alike_elem : {ts us vs : List Token} {el : Element} → Plain.Elem ts us el → Alike ts vs →
      Also unplaced_element Plain.Elem us vs el
  alike_elem (Plain.comp d) a = elim (alike_comp d a) [ also x f h ↦ also x (Plain.comp f) h ]
  alike_elem (Plain.plain d) a = elim (alike_expr d a) [ also x f h ↦ also x (Plain.plain f) (ap item h) ]

  alike_comp : {ts us vs : List Token} {el : Element} → Plain.Comp ts us el → Alike ts vs →
      Also unplaced_element Plain.Comp us vs el
  alike_comp (Plain.a_for d b) (one (one a)) = elim (alike_args d refl a) [
    | also (one x) f h ↦
        elim (alike_elem b x) [ also y g k ↦ also y (Plain.a_for f g) (ap₂ (for_each nowhere) h k) ]
  ]
  alike_comp (Plain.a_loop d t s b) (one (one a)) = elim (alike_args d refl a) [
    | also (one x) f h ↦
        elim (alike_expr t x) [
          | also (one y) g k ↦
              elim (alike_args s refl y) [
                | also (one z) i m ↦
                    elim (alike_elem b z) [
                      | also v j n
                          ↦ also v (Plain.a_loop f g i j) (ap₄ (for_loop nowhere) h k m n)
                    ]
              ]
        ]
  ]
  alike_comp (Plain.an_each d) (one a) =
      elim (alike_elem d a) [ also x f h ↦ also x (Plain.an_each f) (ap (each nowhere) h) ]
  alike_comp (Plain.let_comp d b) (one (one a)) = elim (alike_args d refl a) [
    | also (one x) f h ↦
        elim (alike_comp b x) [ also y g k ↦ also y (Plain.let_comp f g) (ap₂ (let_element nowhere) h k) ]
  ]
  alike_comp (Plain.an_if d b o) (one (one a)) = elim (alike_expr d a) [
    | also (one x) f h ↦
        elim (alike_elem b x) [
          | also y g k ↦
              elim (alike_else o h k y) [ also z i m ↦ also z (Plain.an_if f g i) m ]
        ]
  ]

  alike_else : {at to : Place} {ts us vs : List Token} {d e : Expression} {held kept el : Element} →
      Plain.Else at e held ts us el →
      unplaced d ≡ unplaced e → unplaced_element kept ≡ unplaced_element held → Alike ts vs →
      Also unplaced_element (Plain.Else to d kept) us vs el
  alike_else (Plain.no_else n) s t a = also a (Plain.no_else (keeps_key Else a n)) (ap₂ (if_element nowhere) s t)
  alike_else (Plain.an_else d) s t (one a) = elim (alike_elem d a) [
    | also x f h ↦
        also x (Plain.an_else f) (ap₃ (if_else nowhere) s t h)
  ]
