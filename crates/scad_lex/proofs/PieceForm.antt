-- What is found in front of a text is a piece.
use Rattle.std.proofs.Common.{◌≡◌, ℕ, suc, ◌+◌, ◌<◌, ◌≤◌, Bool, true, false, cond, ◌&&◌, ◌==◌, List, [], ◌∷◌, length}
use Rattle.std.proofs.Common.{take, drop, Option, Some, None, Result, Ok, Err, refl, ap, sym, subst, ◌∙◌, arith}
use Rattle.std.specs.Prelude.{slice_index, nat_lt, ℤ}
use Rattle.std.specs.List.{prefix_len}
use Rattle.std.proofs.lemmas.Bool.{and_parts, eqb-true}
use Rattle.std.proofs.lemmas.Bool.Decides.{nat_tests}
use Rattle.std.proofs.lemmas.List.{length-take}
use Rattle.scad_num.specs.declared.fault.NumFault.{NumFault}
use Rattle.scad_num.specs.Literal.{literal_len}
use Rattle.scad_num.proofs.Recognition.{literals_are_longest}
use Rattle.scad_lex.specs.declared.token.Key.{Key as KeyName}
use Rattle.scad_lex.specs.declared.token.Sign.{Sign as SignName}
use Rattle.scad_lex.specs.declared.token.Sign.TheVariants.{OpenRound, CloseRound, OpenSquare, CloseSquare, OpenCurly}
use Rattle.scad_lex.specs.declared.token.Sign.TheVariants.{CloseCurly, Semicolon, Comma, Colon, Question, Assign}
use Rattle.scad_lex.specs.declared.token.Sign.TheVariants.{Equal, NotEqual, Less, LessEqual, Greater, GreaterEqual}
use Rattle.scad_lex.specs.declared.token.Sign.TheVariants.{Plus, Minus, Star, Slash, Percent, Caret, Bang, AndAnd}
use Rattle.scad_lex.specs.declared.token.Sign.TheVariants.{OrOr, Hash, Dot}
use Rattle.scad_lex.specs.declared.front.Front.{Front}
use Rattle.scad_lex.specs.declared.front.Front.TheVariants.{Gap, Cut, Bad, TooLarge}
use Rattle.scad_lex.specs.declared.string_body.Quoted.{Quoted}
use Rattle.scad_lex.specs.declared.string_body.Quoted.TheVariants.{Closed, Unclosed, Broken}
use Rattle.scad_lex.specs.declared.gap.Class.TheVariants.{Blank, WithinLine}
use Rattle.scad_lex.specs.Gap.{is_blank, closed_len}
use Rattle.scad_lex.specs.Classes.{is_of}
use Rattle.scad_lex.specs.Front.{front_of, comment_of, string_of, numeral_of, word_of, sign_of}
use Rattle.scad_lex.specs.StringLiteral.{quoted, quoted_from}
use Rattle.scad_lex.specs.Signs.{two_byte_sign, one_byte_sign, mark_sign, operator_sign, first_some}
use Rattle.scad_lex.specs.Spelling.{sign_spelling}
use Rattle.scad_lex.specs.Words.{word_len}
use Rattle.scad_lex.specs.Longest.{IsPiece, blanks, line_comment, comment, string, number, name, sign}
use Rattle.scad_lex.proofs.CommentEnd.{comments_are_longest, first-end}
use Rattle.scad_lex.proofs.Longest.{front-all, prefix_len-le, name-front}
use Rattle.scad_lex.proofs.LongestString.{quoted-formed}

-- so many bytes in front are a piece
pub record IsFound (bytes : List ℕ) (n : ℕ) : Type 0 where
  pub some : 0 < n
  pub within : n ≤ length bytes
  pub formed : IsPiece (take n bytes)

abbrev pub Formed : List ℕ → Front → Type 0
Formed bytes (Gap n) = IsFound bytes n
Formed bytes (Cut kind n) = IsFound bytes n
Formed bytes TooLarge = IsFound bytes (literal_len bytes)
Formed bytes (Bad n) = Unit {0}

either-formed : (bytes : List ℕ) (t : Bool) (x y : Front) → (t ≡ true → Formed bytes x) →
    (t ≡ false → Formed bytes y) → Formed bytes (cond t x y)
either-formed bytes true x y a b = a refl
either-formed bytes false x y a b = b refl

-- the first two bytes are these
abbrev StartsWith : List ℕ → ℕ → ℕ → Type 0
StartsWith bytes x y = (zs : List ℕ) × (bytes ≡ x ∷ y ∷ zs)

starts-with : (bytes : List ℕ) (x y : ℕ) → 0 < x → 0 < y →
    (slice_index bytes 0 == x && slice_index bytes 1 == y) ≡ true → StartsWith bytes x y
starts-with [] x y px py e = absurd (let a = eqb-true 0 x (and_parts (0 == x) (0 == y) e).0 in omega arith)
starts-with (a ∷ []) x y px py e = absurd (let b = eqb-true 0 y (and_parts (a == x) (0 == y) e).1 in omega arith)
starts-with (a ∷ b ∷ zs) x y px py e =
    let both = and_parts (a == x) (b == y) e in
    (zs, ap (λ c. c ∷ b ∷ zs) (eqb-true a x both.0) ∙ ap (λ c. x ∷ c ∷ zs) (eqb-true b y both.1))

blanks-formed : (bytes : List ℕ) → is_blank (slice_index bytes 0) ≡ true →
    IsFound bytes (prefix_len (is_of Blank) bytes)
blanks-formed [] e = absurd cc
blanks-formed (c ∷ zs) e =
    let some : 0 < prefix_len (is_of Blank) (c ∷ zs) =
    omega (arith, ap (λ t. cond t (1 + prefix_len (is_of Blank) zs) 0) e) in
    let within = prefix_len-le (is_of Blank) (c ∷ zs) in
    record {
      some = some;
      within = within;
      formed =
          blanks (take (prefix_len (is_of Blank) (c ∷ zs)) (c ∷ zs))
          (omega (arith, some, within, length-take (prefix_len (is_of Blank) (c ∷ zs)) (c ∷ zs)))
          (front-all (is_of Blank) (c ∷ zs));
    }

line-formed : (bytes : List ℕ) → StartsWith bytes 47 47 → IsFound bytes (prefix_len (is_of WithinLine) bytes)
line-formed bytes starts =
    subst (λ b. IsFound b (prefix_len (is_of WithinLine) b)) (sym starts.1)
    (subst (IsFound (47 ∷ 47 ∷ starts.0)) (sym size) there)
  where
    size : prefix_len (is_of WithinLine) (47 ∷ 47 ∷ starts.0) ≡ suc (suc (prefix_len (is_of WithinLine) starts.0))
    size = omega arith

    there : IsFound (47 ∷ 47 ∷ starts.0) (suc (suc (prefix_len (is_of WithinLine) starts.0)))
    there = record {
      some = omega arith;
      within = omega (arith, prefix_len-le (is_of WithinLine) starts.0);
      formed = line_comment (take (prefix_len (is_of WithinLine) starts.0) starts.0)
          (front-all (is_of WithinLine) starts.0);
    }

comment-formed : (bytes : List ℕ) → StartsWith bytes 47 42 → Formed bytes (comment_of (closed_len (drop 2 bytes)))
unfolding comment_of
comment-formed bytes starts =
    subst (λ b. Formed b (comment_of (closed_len (drop 2 b)))) (sym starts.1) (by_end (closed_len starts.0) refl)
  where
    by_end : (o : Option ℕ) → closed_len starts.0 ≡ o → Formed (47 ∷ 42 ∷ starts.0) (comment_of o)
    by_end None e = tt
    by_end (Some n) e =
        let longest = comments_are_longest starts.0 n e in
        let some : 0 < n = omega (arith, (first-end starts.0 n e).long) in
        let size : suc (suc n) ≡ n + 2 = omega arith in
        subst (IsFound (47 ∷ 42 ∷ starts.0)) size
        (record {
          some = omega arith;
          within = omega (arith, longest.within);
          formed =
              comment (take n starts.0) (longest.formed some);
        })

string-formed : (bytes : List ℕ) → (slice_index bytes 0 == 34) ≡ true →
    Formed bytes (string_of (quoted (drop 1 bytes)))
unfolding string_of
string-formed [] e = absurd cc
string-formed (c ∷ zs) e = subst (λ b. Formed (b ∷ zs) (string_of (quoted_from 0 zs))) (sym (eqb-true c 34 e))
    (by_end (quoted_from 0 zs) refl)
  where
    by_end : (q : Quoted) → quoted_from 0 zs ≡ q → Formed (34 ∷ zs) (string_of q)
    by_end Unclosed is = tt
    by_end (Broken n) is = tt
    by_end (Closed chars n) is =
        let there = quoted-formed zs chars n is in
        let size : suc n ≡ n + 1 = omega arith in
        subst (IsFound (34 ∷ zs)) size
        (record { some = omega arith; within = omega (arith, there.0); formed = string (take n zs) there.1 })

literal-found : (bytes : List ℕ) → 0 < literal_len bytes → IsFound bytes (literal_len bytes)
literal-found bytes some =
    let longest = literals_are_longest bytes in
    record {
      some = some;
      within = longest.within;
      formed =
          number (take (literal_len bytes) bytes) (longest.literal some);
    }

number-formed : (bytes : List ℕ) (l : ℕ) (r : Result ℤ NumFault) → l ≡ literal_len bytes → IsFound bytes l →
    Formed bytes (numeral_of (take l bytes) r)
unfolding numeral_of
number-formed bytes l (Err fault) e found = subst (IsFound bytes) e found
number-formed bytes l (Ok z) e found =
    let size : l ≡ length (take l bytes) =
    omega (arith, found.within, length-take l bytes) in subst (IsFound bytes) size found

word-formed : (bytes : List ℕ) (w : ℕ) (k : Option KeyName) → IsFound bytes w →
    Formed bytes (word_of (take w bytes) k)
unfolding word_of
word-formed bytes w (Some key) found = let size : w ≡ length (take w bytes) =
    omega (arith, found.within, length-take w bytes) in subst (IsFound bytes) size found
word-formed bytes w None found = let size : w ≡ length (take w bytes) =
    omega (arith, found.within, length-take w bytes) in subst (IsFound bytes) size found

name-found : (bytes : List ℕ) → 0 < word_len bytes → IsFound bytes (word_len bytes)
name-found bytes some =
    let there = name-front bytes some in record
    { some = some; within = there.0; formed = name (take (word_len bytes) bytes) there.1 }

-- ---- signs
module _ (a b : ℕ) where
  -- a sign, where it is one, is spelled by both bytes
  abbrev IsTwo : Option SignName → Type 0
  IsTwo None = Unit {0}
  IsTwo (Some s) = (sign_spelling s ≡ a ∷ b ∷ []) × (0 < a) × (0 < b)

  two-first : (x y : ℕ) (s : SignName) (other : Option SignName) → sign_spelling s ≡ x ∷ y ∷ [] → 0 < x → 0 < y →
      IsTwo other
      → IsTwo (cond (a == x && b == y) (Some s) other)
  two-first x y s other spelled px py next = by_test (a == x && b == y) refl
    where
      by_test : (t : Bool) → (a == x && b == y) ≡ t → IsTwo (cond t (Some s) other)
      by_test false e = next
      by_test true e =
          let both = and_parts (a == x) (b == y) e in
          let first = eqb-true a x both.0 in
          let second = eqb-true b y both.1 in
          (spelled ∙ ap (λ c. c ∷ y ∷ []) (sym first) ∙ ap (λ c. a ∷ c ∷ []) (sym second), omega arith, omega arith)

  two-spelled : IsTwo (two_byte_sign a b)
  unfolding two_byte_sign
  two-spelled =
      two-first 61 61 Equal _ refl (omega arith) (omega arith)
      (two-first 33 61 NotEqual _ refl (omega arith) (omega arith)
      (two-first 60 61 LessEqual _ refl (omega arith) (omega arith)
      (two-first 62 61 GreaterEqual _ refl (omega arith) (omega arith)
      (two-first 38 38 AndAnd _ refl (omega arith) (omega arith)
      (two-first 124 124 OrOr _ refl (omega arith) (omega arith) tt)))))

  -- a sign, where it is one, is spelled by the first byte
  abbrev IsOne : Option SignName → Type 0
  IsOne None = Unit {0}
  IsOne (Some s) = (sign_spelling s ≡ a ∷ []) × (0 < a)

  one-first : (x : ℕ) (s : SignName) (other : Option SignName) → sign_spelling s ≡ x ∷ [] → 0 < x → IsOne other →
      IsOne (cond (a == x) (Some s) other)
  one-first x s other spelled px next = by_test (a == x) refl
    where
      by_test : (t : Bool) → (a == x) ≡ t → IsOne (cond t (Some s) other)
      by_test false e = next
      by_test true e = let first = eqb-true a x e in (spelled ∙ ap (λ c. c ∷ []) (sym first), omega arith)

  either-one : (o other : Option SignName) → IsOne o → IsOne other → IsOne (first_some o other)
  either-one None other first second = second
  either-one (Some s) other first second = first

  one-spelled : IsOne (one_byte_sign a)
  unfolding one_byte_sign mark_sign operator_sign
  one-spelled = either-one _ _
      (one-first 40 OpenRound _ refl (omega arith)
      (one-first 41 CloseRound _ refl (omega arith) (one-first 91 OpenSquare _ refl (omega arith)
      (one-first 93 CloseSquare _ refl (omega arith)
      (one-first 123 OpenCurly _ refl (omega arith) (one-first 125 CloseCurly _ refl (omega arith)
      (one-first 59 Semicolon _ refl (omega arith)
      (one-first 44 Comma _ refl (omega arith) (one-first 58 Colon _ refl (omega arith)
      (one-first 63 Question _ refl (omega arith) tt))))))))))
      (one-first 61 Assign _ refl (omega arith)
      (one-first 60 Less _ refl (omega arith) (one-first 62 Greater _ refl (omega arith)
      (one-first 43 Plus _ refl (omega arith)
      (one-first 45 Minus _ refl (omega arith) (one-first 42 Star _ refl (omega arith)
      (one-first 47 Slash _ refl (omega arith)
      (one-first 37 Percent _ refl (omega arith) (one-first 94 Caret _ refl (omega arith)
      (one-first 33 Bang _ refl (omega arith)
      (one-first 35 Hash _ refl (omega arith) (one-first 46 Dot _ refl (omega arith) tt))))))))))))

sign-formed : (bytes : List ℕ) (long short : Option SignName) → IsTwo (slice_index bytes 0) (slice_index bytes 1) long
    → IsOne (slice_index bytes 0) (slice_index bytes 1) short → Formed bytes (sign_of long short)
unfolding sign_of
sign-formed bytes None None two one = tt
sign-formed [] None (Some s) two one = absurd (omega (arith, one.1))
sign-formed (a ∷ zs) None (Some s) two one =
    record { some = omega arith; within = omega arith; formed = subst IsPiece one.0 (sign s) }
sign-formed [] (Some s) short two one = absurd (omega (arith, two.1))
sign-formed (a ∷ []) (Some s) short two one = absurd (omega (arith, two.2))
sign-formed (a ∷ b ∷ zs) (Some s) short two one =
    record { some = omega arith; within = omega arith; formed = subst IsPiece two.0 (sign s) }

pub front-formed : (bytes : List ℕ) → Formed bytes (front_of bytes)
unfolding front_of
front-formed bytes =
    either-formed bytes (is_blank (slice_index bytes 0)) _ _ (λ is. blanks-formed bytes is)
    (λ no_blank. either-formed bytes (slice_index bytes 0 == 47 && slice_index bytes 1 == 47) _ _
    (λ is. line-formed bytes (starts-with bytes 47 47 (omega arith) (omega arith) is))
    (λ no_line. either-formed bytes (slice_index bytes 0 == 47 && slice_index bytes 1 == 42) _ _
    (λ is. comment-formed bytes (starts-with bytes 47 42 (omega arith) (omega arith) is))
    (λ no_comment. either-formed bytes (slice_index bytes 0 == 34) _ _ (λ is. string-formed bytes is)
    (λ no_string. either-formed bytes (nat_lt 0 (literal_len bytes)) _ _
    (λ is. number-formed bytes (literal_len bytes) _ refl (literal-found bytes (grind (arith, nat_tests))))
    (λ no_number. either-formed bytes (nat_lt 0 (word_len bytes)) _ _
    (λ is. word-formed bytes (word_len bytes) _ (name-found bytes (grind (arith, nat_tests))))
    (λ no_name. sign-formed bytes _ _ (two-spelled (slice_index bytes 0) (slice_index bytes 1))
    (one-spelled (slice_index bytes 0) (slice_index bytes 1))))))))
