-- Operands, and operators between them, as the grammar on paper has them.
use Rattle.std.proofs.Common.{ℕ, zero, suc, List, ◌∷◌, refl}
use Rattle.scad_lex.specs.declared.token.Token.{Token}
use Rattle.scad_ast.specs.declared.operator.BinOp.{BinOp}
use Rattle.scad_ast.specs.declared.operator.BinOp.TheVariants.{Or, And, Eq, Ne, Lt, Le, Gt, Ge, Add, Sub, Mul, Div}
use Rattle.scad_ast.specs.declared.operator.BinOp.TheVariants.{Rem}
use Rattle.scad_ast.specs.Tree.{Expression}
use Rattle.scad_ast.specs.Tree.{binary}
use Rattle.scad_grammar.specs.Plain
use Rattle.scad_grammar.specs.TreeText.{nowhere, operator_token}

-- a `prim` and its posts
pub record Posted (ts us : List Token) (e : Expression) : Type 0 where
  pub mid : List Token
  pub head : Expression
  pub prim : Plain.Prim ts mid head
  pub posts : Plain.Posts head mid us e

pub posts_then : {a b e : Expression} {ts us vs : List Token} → Plain.Posts a ts us b → Plain.Posts b us vs e →
    Plain.Posts a ts vs e
posts_then Plain.no_post m = m
posts_then (Plain.an_index d l) m = Plain.an_index d (posts_then l m)
posts_then (Plain.a_member l) m = Plain.a_member (posts_then l m)

pub unary_of : {ts us : List Token} {e : Expression} → Posted ts us e → Plain.Unary ts us e
unary_of p = Plain.post p.prim p.posts

pub raise : {n : ℕ} {ts us : List Token} {e : Expression} → Plain.Operand n ts us e → Plain.Operand (suc n) ts us e
raise d = Plain.line d Plain.no_link

pub up : (n : ℕ) {ts us : List Token} {e : Expression} → Plain.Unary ts us e → Plain.Operand n ts us e
up zero d = Plain.tightest d
up (suc n) d = raise (up n d)

pub of_operand : {ts us : List Token} {e : Expression} → Plain.Operand 6 ts us e → Plain.Expr ts us e
of_operand d = Plain.test d Plain.no_choice

pub of_unary : {ts us : List Token} {e : Expression} → Plain.Unary ts us e → Plain.Expr ts us e
of_unary d = of_operand (up 6 d)

-- an operator between two operands
pub linked : {ts us vs : List Token} {a b : Expression} (n : ℕ) (op : BinOp) → Posted ts (operator_token op ∷ us) a
    → Posted us vs b →
    Plain.Links n a (operator_token op ∷ us) vs (binary nowhere op a b) →
    Plain.Operand (suc n) ts vs (binary nowhere op a b)
linked n op p q l = Plain.line (up n (unary_of p)) l

pub binary_of : (op : BinOp) {ts us vs : List Token} {a b : Expression} → Posted ts (operator_token op ∷ us) a →
    Posted us vs b →
    Plain.Expr ts vs (binary nowhere op a b)
binary_of Or p q = of_operand (linked 5 Or p q (Plain.link refl (up 5 (unary_of q)) Plain.no_link))
binary_of And p q = of_operand (raise (linked 4 And p q (Plain.link refl (up 4 (unary_of q)) Plain.no_link)))
binary_of Eq p q = of_operand (raise (raise (linked 3 Eq p q (Plain.link refl (up 3 (unary_of q)) Plain.no_link))))
binary_of Ne p q = of_operand (raise (raise (linked 3 Ne p q (Plain.link refl (up 3 (unary_of q)) Plain.no_link))))
binary_of Lt p q = of_operand
    (raise (raise (raise (linked 2 Lt p q (Plain.link refl (up 2 (unary_of q)) Plain.no_link)))))
binary_of Le p q = of_operand
    (raise (raise (raise (linked 2 Le p q (Plain.link refl (up 2 (unary_of q)) Plain.no_link)))))
binary_of Gt p q = of_operand
    (raise (raise (raise (linked 2 Gt p q (Plain.link refl (up 2 (unary_of q)) Plain.no_link)))))
binary_of Ge p q = of_operand
    (raise (raise (raise (linked 2 Ge p q (Plain.link refl (up 2 (unary_of q)) Plain.no_link)))))
binary_of Add p q = of_operand
    (raise (raise (raise (raise (linked 1 Add p q (Plain.link refl (up 1 (unary_of q)) Plain.no_link))))))
binary_of Sub p q = of_operand
    (raise (raise (raise (raise (linked 1 Sub p q (Plain.link refl (up 1 (unary_of q)) Plain.no_link))))))
binary_of Mul p q = of_operand
    (raise (raise (raise (raise (raise (linked 0 Mul p q (Plain.link refl (up 0 (unary_of q)) Plain.no_link)))))))
binary_of Div p q = of_operand
    (raise (raise (raise (raise (raise (linked 0 Div p q (Plain.link refl (up 0 (unary_of q)) Plain.no_link)))))))
binary_of Rem p q = of_operand
    (raise (raise (raise (raise (raise (linked 0 Rem p q (Plain.link refl (up 0 (unary_of q)) Plain.no_link)))))))
