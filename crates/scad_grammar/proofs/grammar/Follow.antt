-- What may stand behind a part of an expression, and that none of it goes on with the part.
use Rattle.std.proofs.Common.{◌≡◌, ℕ, suc, ◌<◌, ◌≤◌, ◌==◌, Bool, true, false, if◌then◌else◌, List, [], ◌∷◌, Option}
use Rattle.std.proofs.Common.{Some, None, refl, ap, arith}
use Rattle.std.proofs.lemmas.Bool.{eqb-true, false≢true, false_from_ne_true}
use Rattle.scad_fault.specs.declared.place.Place.{Place}
use Rattle.scad_lex.specs.declared.token.Token.{Token}
use Rattle.scad_lex.specs.declared.token.TokenKind.{TokenKind}
use Rattle.scad_lex.specs.declared.token.TokenKind.TheVariants.{Number, Str, Word, Sign, Key}
use Rattle.scad_lex.specs.declared.token.Sign.TheVariants.{OpenRound, CloseRound, OpenSquare, CloseSquare, Semicolon}
use Rattle.scad_lex.specs.declared.token.Sign.TheVariants.{Comma, Colon, Question, Assign, Caret, Dot}
use Rattle.scad_lex.specs.declared.token.Key.TheVariants.{Else}
use Rattle.scad_ast.specs.declared.operator.BinOp.{BinOp}
use Rattle.scad_grammar.specs.Tokens.{sign, is_sign_kind, operator_sign, line_of, on_line, operator_kind, operator}
use Rattle.scad_grammar.specs.Tokens.{first_operator, begins_with}
use Rattle.scad_grammar.specs.Grammar.{ends_arguments_kind, at_end_of_arguments}
use Rattle.std.proofs.lemmas.Option.{none-some}

-- a token behind an expression
abbrev pub closing_kind : TokenKind → Bool
closing_kind (Sign CloseRound) = true
closing_kind (Sign CloseSquare) = true
closing_kind (Sign Semicolon) = true
closing_kind (Sign Comma) = true
closing_kind (Sign Colon) = true
closing_kind (Key Else) = true
closing_kind _ = false

abbrev pub closes : List Token → Bool
closes [] = false
closes (t ∷ ts) = closing_kind t.kind

pub ending_closes : (ts : List Token) → at_end_of_arguments ts ≡ true → closes ts ≡ true
ending_closes [] h = h
ending_closes (t ∷ ts) h = ending_kind t.kind h
  where
    ending_kind : (kind : TokenKind) → ends_arguments_kind kind ≡ true → closing_kind kind ≡ true
    ending_kind (Sign CloseRound) h = refl
    ending_kind (Sign Semicolon) h = refl
    ending_kind (Sign _) h = absurd (false≢true h)
    ending_kind _ h = absurd (false≢true h)

closing_no_square : (kind : TokenKind) → closing_kind kind ≡ true → is_sign_kind OpenSquare kind ≡ false
closing_no_square (Sign OpenSquare) h = absurd (false≢true h)
closing_no_square (Sign _) h = refl
closing_no_square _ h = refl

closing_no_dot : (kind : TokenKind) → closing_kind kind ≡ true → is_sign_kind Dot kind ≡ false
closing_no_dot (Sign Dot) h = absurd (false≢true h)
closing_no_dot (Sign _) h = refl
closing_no_dot _ h = refl

closing_no_caret : (kind : TokenKind) → closing_kind kind ≡ true → is_sign_kind Caret kind ≡ false
closing_no_caret (Sign Caret) h = absurd (false≢true h)
closing_no_caret (Sign _) h = refl
closing_no_caret _ h = refl

closing_no_round : (kind : TokenKind) → closing_kind kind ≡ true → is_sign_kind OpenRound kind ≡ false
closing_no_round (Sign OpenRound) h = absurd (false≢true h)
closing_no_round (Sign _) h = refl
closing_no_round _ h = refl

closing_no_question : (kind : TokenKind) → closing_kind kind ≡ true → is_sign_kind Question kind ≡ false
closing_no_question (Sign Question) h = absurd (false≢true h)
closing_no_question (Sign _) h = refl
closing_no_question _ h = refl

closing_no_assign : (kind : TokenKind) → closing_kind kind ≡ true → is_sign_kind Assign kind ≡ false
closing_no_assign (Sign Assign) h = absurd (false≢true h)
closing_no_assign (Sign _) h = refl
closing_no_assign _ h = refl

operator_no_square : (n : ℕ) (op : BinOp) (kind : TokenKind) → operator_kind n kind ≡ Some op →
    is_sign_kind OpenSquare kind ≡ false
operator_no_square n op (Sign OpenSquare) h = absurd (none-some _ h)
operator_no_square n op (Sign _) h = refl
operator_no_square n op _ h = refl

operator_no_dot : (n : ℕ) (op : BinOp) (kind : TokenKind) → operator_kind n kind ≡ Some op →
    is_sign_kind Dot kind ≡ false
operator_no_dot n op (Sign Dot) h = absurd (none-some _ h)
operator_no_dot n op (Sign _) h = refl
operator_no_dot n op _ h = refl

operator_no_caret : (n : ℕ) (op : BinOp) (kind : TokenKind) → operator_kind n kind ≡ Some op →
    is_sign_kind Caret kind ≡ false
operator_no_caret n op (Sign Caret) h = absurd (none-some _ h)
operator_no_caret n op (Sign _) h = refl
operator_no_caret n op _ h = refl

operator_no_round : (n : ℕ) (op : BinOp) (kind : TokenKind) → operator_kind n kind ≡ Some op →
    is_sign_kind OpenRound kind ≡ false
operator_no_round n op (Sign OpenRound) h = absurd (none-some _ h)
operator_no_round n op (Sign _) h = refl
operator_no_round n op _ h = refl

operator_no_assign : (n : ℕ) (op : BinOp) (kind : TokenKind) → operator_kind n kind ≡ Some op →
    is_sign_kind Assign kind ≡ false
operator_no_assign n op (Sign Assign) h = absurd (none-some _ h)
operator_no_assign n op (Sign _) h = refl
operator_no_assign n op _ h = refl

pub closes_no_square : (ts : List Token) → closes ts ≡ true → begins_with OpenSquare ts ≡ false
closes_no_square [] h = refl
closes_no_square (t ∷ ts) h = closing_no_square t.kind h

pub closes_no_dot : (ts : List Token) → closes ts ≡ true → begins_with Dot ts ≡ false
closes_no_dot [] h = refl
closes_no_dot (t ∷ ts) h = closing_no_dot t.kind h

pub closes_no_caret : (ts : List Token) → closes ts ≡ true → begins_with Caret ts ≡ false
closes_no_caret [] h = refl
closes_no_caret (t ∷ ts) h = closing_no_caret t.kind h

pub closes_no_round : (ts : List Token) → closes ts ≡ true → begins_with OpenRound ts ≡ false
closes_no_round [] h = refl
closes_no_round (t ∷ ts) h = closing_no_round t.kind h

pub closes_no_question : (ts : List Token) → closes ts ≡ true → begins_with Question ts ≡ false
closes_no_question [] h = refl
closes_no_question (t ∷ ts) h = closing_no_question t.kind h

pub closes_no_assign : (ts : List Token) → closes ts ≡ true → begins_with Assign ts ≡ false
closes_no_assign [] h = refl
closes_no_assign (t ∷ ts) h = closing_no_assign t.kind h

pub operator_is_no_assign : (n : ℕ) (op : BinOp) (t : Token) → operator n t ≡ Some op →
    is_sign_kind Assign t.kind ≡ false
operator_is_no_assign n op t h = operator_no_assign n op t.kind h

closing_no_operator : (n : ℕ) (kind : TokenKind) → closing_kind kind ≡ true → operator_kind n kind ≡ None
closing_no_operator n (Sign CloseRound) h = refl
closing_no_operator n (Sign CloseSquare) h = refl
closing_no_operator n (Sign Semicolon) h = refl
closing_no_operator n (Sign Comma) h = refl
closing_no_operator n (Sign Colon) h = refl
closing_no_operator n (Sign _) h = absurd (false≢true h)
closing_no_operator n _ h = refl

-- an operator stands on one line
one_line : (n m : ℕ) (x op : BinOp) → n < m → (b : Bool) → line_of x == m ≡ b → (if b then Some x else None)
    ≡ Some op →
    on_line n (Some x) ≡ None
one_line n m x op lt true h e =
    ap (λ (b : Bool). if b then Some x else None)
    (false_from_ne_true (line_of x == n) (λ k.
    let at_m : line_of x ≡ m = eqb-true (line_of x) m h in
    let at_n : line_of x ≡ n = eqb-true (line_of x) n k in
    omega (arith, at_m, at_n, lt)))
one_line n m x op lt false h e = absurd (none-some _ e)

other_line : (n m : ℕ) (o : Option BinOp) (op : BinOp) → n < m → on_line m o ≡ Some op → on_line n o ≡ None
other_line n m (Some x) op lt h = one_line n m x op lt (line_of x == m) refl h
other_line n m None op lt h = refl

other_line_kind : (n m : ℕ) (op : BinOp) (kind : TokenKind) → n < m → operator_kind m kind ≡ Some op →
    operator_kind n kind ≡ None
other_line_kind n m op (Sign s) lt h = other_line n m (operator_sign s) op lt h
other_line_kind n m op (Number z) lt h = refl
other_line_kind n m op (Str chars) lt h = refl
other_line_kind n m op (Word w) lt h = refl
other_line_kind n m op (Key k) lt h = refl

-- what may stand behind an operand of the lines up to one: what stands behind an expression, `?`, an operator of that
-- line or of a looser one
pub data Follows : ℕ → List Token → Type 0 where
  by_closing : {n : ℕ} {t : Token} {ts : List Token} → closing_kind t.kind ≡ true → Follows n (t ∷ ts)
  by_question : {n : ℕ} {at : Place} {ts : List Token} → Follows n (sign Question at ∷ ts)
  by_operator : {n : ℕ} {op : BinOp} {t : Token} {ts : List Token} (m : ℕ) → n ≤ m → operator m t ≡ Some op →
      Follows n (t ∷ ts)

pub follows_closing : (n : ℕ) (ts : List Token) → closes ts ≡ true → Follows n ts
follows_closing n [] h = absurd (false≢true h)
follows_closing n (t ∷ ts) h = by_closing h

pub looser : {n : ℕ} {ts : List Token} → Follows (suc n) ts → Follows n ts
looser (by_closing h) = by_closing h
looser by_question = by_question
looser (by_operator m le h) = by_operator m (omega (arith, le)) h

pub follows_no_operator : {n : ℕ} {ts : List Token} → Follows (suc n) ts → first_operator n ts ≡ None
follows_no_operator {n = n} (by_closing {t = t} h) = closing_no_operator n t.kind h
follows_no_operator by_question = refl
follows_no_operator {n = n} (by_operator {op = op} {t = t} m le h) =
    other_line_kind n m op t.kind (omega (arith, le)) h

pub follows_no_square : {n : ℕ} {ts : List Token} → Follows n ts → begins_with OpenSquare ts ≡ false
follows_no_square (by_closing {t = t} h) = closing_no_square t.kind h
follows_no_square by_question = refl
follows_no_square (by_operator {op = op} {t = t} m le h) = operator_no_square m op t.kind h

pub follows_no_dot : {n : ℕ} {ts : List Token} → Follows n ts → begins_with Dot ts ≡ false
follows_no_dot (by_closing {t = t} h) = closing_no_dot t.kind h
follows_no_dot by_question = refl
follows_no_dot (by_operator {op = op} {t = t} m le h) = operator_no_dot m op t.kind h

pub follows_no_caret : {n : ℕ} {ts : List Token} → Follows n ts → begins_with Caret ts ≡ false
follows_no_caret (by_closing {t = t} h) = closing_no_caret t.kind h
follows_no_caret by_question = refl
follows_no_caret (by_operator {op = op} {t = t} m le h) = operator_no_caret m op t.kind h

pub follows_no_round : {n : ℕ} {ts : List Token} → Follows n ts → begins_with OpenRound ts ≡ false
follows_no_round (by_closing {t = t} h) = closing_no_round t.kind h
follows_no_round by_question = refl
follows_no_round (by_operator {op = op} {t = t} m le h) = operator_no_round m op t.kind h
