-- No piece that a text begins with is longer than what is found in front of it.
use Rattle.std.proofs.Common.{◌≡◌, ℕ, zero, suc, ◌+◌, ◌<◌, ◌≤◌, Bool, true, false, cond, ◌&&◌, ◌||◌, ◌==◌, List, []}
use Rattle.std.proofs.Common.{◌∷◌, ◌++◌, length, take, Option, Some, None, Result, Ok, Err, refl, ap, sym, subst, ◌∙◌}
use Rattle.std.proofs.Common.{arith, ◌⊎◌, inl, inr, length-append}
use Rattle.std.specs.Prelude.{slice_index, nat_lt, option_map, codes, ℤ}
use Rattle.std.specs.Char.{is_ascii_digit}
use Rattle.std.specs.List.{prefix_len}
use Rattle.std.proofs.Math.Seq.{take-append_seam}
use Rattle.std.proofs.lemmas.Bool.{cases_lt, eqb-true}
use Rattle.std.proofs.lemmas.Bool.Decides.{nat_tests}
use Rattle.std.proofs.lemmas.List.{length-take, get_or_past, get_or_append_left}
use Rattle.scad_num.specs.declared.fault.NumFault.{NumFault}
use Rattle.scad_num.specs.Literal.{Literal, literal_len, mantissa_len, exponent_len, literal_number, is_literal}
use Rattle.scad_num.proofs.Recognition.{literals_are_longest, literals_are_recognised}
use Rattle.scad_lex.specs.declared.token.Key.{Key as KeyName}
use Rattle.scad_lex.specs.declared.token.Sign.{Sign as SignName}
use Rattle.scad_lex.specs.declared.token.Sign.TheVariants.{OpenRound, CloseRound, OpenSquare, CloseSquare, OpenCurly}
use Rattle.scad_lex.specs.declared.token.Sign.TheVariants.{CloseCurly, Semicolon, Comma, Colon, Question, Assign}
use Rattle.scad_lex.specs.declared.token.Sign.TheVariants.{Equal, NotEqual, Less, LessEqual, Greater, GreaterEqual}
use Rattle.scad_lex.specs.declared.token.Sign.TheVariants.{Plus, Minus, Star, Slash, Percent, Caret, Bang, AndAnd}
use Rattle.scad_lex.specs.declared.token.Sign.TheVariants.{OrOr, Hash, Dot}
use Rattle.scad_lex.specs.declared.front.Front.{Front}
use Rattle.scad_lex.specs.declared.front.Front.TheVariants.{Gap, Cut, Bad, TooLarge}
use Rattle.scad_lex.specs.declared.gap.Class.TheVariants.{Blank, WithinLine}
use Rattle.scad_lex.specs.declared.gap.Class.{Class}
use Rattle.scad_lex.specs.Gap.{is_blank, closed_len, closes_at}
use Rattle.scad_lex.specs.Classes.{is_of}
use Rattle.scad_lex.specs.Front.{front_of, comment_of, string_of, numeral_of, word_of, sign_of}
use Rattle.scad_lex.specs.Keys.{key_of}
use Rattle.scad_lex.specs.StringLiteral.{quoted_from}
use Rattle.scad_lex.specs.Signs.{two_byte_sign, one_byte_sign, mark_sign, operator_sign}
use Rattle.scad_lex.specs.Spelling.{sign_spelling}
use Rattle.scad_lex.specs.Words.{begins_word, word_len}
use Rattle.scad_lex.specs.Longest.{AreOf, IsClosed, IsName, IsQuoted, IsPiece, blanks, line_comment, comment, string}
use Rattle.scad_lex.specs.Longest.{number, name, sign}
use Rattle.scad_lex.proofs.CommentEnd.{comments_are_longest, closes-next, closes-within}
use Rattle.scad_lex.proofs.Fronts.{IsPlain, front_by, front_plain, no_literal, given, name_plain}
use Rattle.scad_lex.proofs.Longest.{front-longest, name-longest, names_are_longest}
use Rattle.scad_lex.proofs.LongestString.{quoted-read}

-- a piece of m bytes is no longer than what is found, or is the `/` of a comment that isn't closed
abbrev pub Fits : List ℕ → ℕ → Front → Type 0
Fits bytes m (Gap n) = m ≤ n
Fits bytes m (Cut kind n) = m ≤ n
Fits bytes m TooLarge = m ≤ literal_len bytes
Fits bytes m (Bad n) = (take m bytes ≡ codes "/") × (take 2 bytes ≡ codes "/*")

-- ---- blanks and comments
run-fits : (class : Class) (xs ys : List ℕ) → AreOf class xs → length xs ≤ prefix_len (is_of class) (xs ++ ys)
run-fits class xs ys all =
    front-longest (is_of class) (xs ++ ys) (length xs) (omega (arith, length-append xs ys))
    (subst (AreOf class) (sym (take-append_seam xs ys)) all)

blanks-front : (c : ℕ) (zs : List ℕ) → is_blank c ≡ true → front_of (c ∷ zs) ≡ Gap (prefix_len (is_of Blank) (c ∷ zs))
unfolding front_of
blanks-front c zs is = given (is_blank c) (Gap (prefix_len (is_of Blank) (c ∷ zs))) _ is

line-front : (zs : List ℕ) → front_of (47 ∷ 47 ∷ zs) ≡ Gap (1 + (1 + prefix_len (is_of WithinLine) zs))
unfolding front_of
line-front zs = refl

comment-front : (zs : List ℕ) → front_of (47 ∷ 42 ∷ zs) ≡ comment_of (closed_len zs)
unfolding front_of
comment-front zs = refl

-- where it closes an end is found
closing-found : (bytes : List ℕ) (i : ℕ) → closes_at bytes i ≡ true → closed_len bytes ≡ None → ⊥
closing-found [] i closes none = never (slice_index [] i) (get_or_past [] i 0 (omega arith)) closes
  where
    never : (x : ℕ) → x ≡ 0 → (x == 42 && slice_index [] (i + 1) == 47) ≡ true → ⊥
    never x e t = absurd (grind (arith, nat_tests))
closing-found (a ∷ bytes) i closes none = by_first (closes_at (a ∷ bytes) 0) refl none (λ j. closing-found bytes j)
  where
    Later : Type 0
    Later = (j : ℕ) → closes_at bytes j ≡ true → closed_len bytes ≡ None → ⊥

    shorter : (o : Option ℕ) → option_map suc o ≡ None → o ≡ None
    shorter None e = refl
    shorter (Some m) e = absurd cc

    by_place : (j : ℕ) → j ≡ i → closes_at (a ∷ bytes) 0 ≡ false → option_map suc (closed_len bytes) ≡ None → Later →
        ⊥
    by_place zero e first left later = absurd (let t = ap (closes_at (a ∷ bytes)) e ∙ closes in cc)
    by_place (suc j) e first left later =
        later j (sym (closes-next a bytes j) ∙ ap (closes_at (a ∷ bytes)) e ∙ closes)
        (shorter (closed_len bytes) left)

    by_first : (t : Bool) → closes_at (a ∷ bytes) 0 ≡ t → cond t (Some 2) (option_map suc (closed_len bytes)) ≡ None →
        Later → ⊥
    by_first true e left later = absurd cc
    by_first false e left later = by_place i refl e left later

closed-fits : (bytes ys : List ℕ) (o : Option ℕ) → IsClosed bytes → closed_len (bytes ++ ys) ≡ o
    → Fits (47 ∷ 42 ∷ (bytes ++ ys)) (suc (suc (length bytes))) (comment_of o)
unfolding comment_of
closed-fits bytes ys (Some n) is e =
    let there = (comments_are_longest (bytes ++ ys) n e).longest (length bytes)
    (omega (arith, length-append bytes ys)) (subst IsClosed (sym (take-append_seam bytes ys)) is) in
    omega (arith, there)
closed-fits bytes ys None is e =
    absurd (closing-found (bytes ++ ys) is.ends.0 (closes-longer bytes ys is.ends.0 is.ends.2) e)
  where
    closes-longer : (bytes ys : List ℕ) (i : ℕ) → closes_at bytes i ≡ true → closes_at (bytes ++ ys) i ≡ true
    closes-longer bytes ys i t =
        let inside = closes-within bytes i t in
        ap (λ x. x == 42 && slice_index (bytes ++ ys) (i + 1) == 47) (get_or_append_left bytes ys 0 i (omega arith))
        ∙ ap (λ x. slice_index bytes i == 42 && x == 47) (get_or_append_left bytes ys 0 (i + 1) (omega arith)) ∙ t

-- ---- strings
string-front : (zs : List ℕ) → front_of (34 ∷ zs) ≡ string_of (quoted_from 0 zs)
unfolding front_of
string-front zs = refl

string-fits : (bytes ys : List ℕ) → IsQuoted bytes →
    Fits (34 ∷ (bytes ++ ys)) (suc (length bytes)) (front_of (34 ∷ (bytes ++ ys)))
unfolding string_of
string-fits bytes ys is =
    let there = quoted-read bytes is ys in
    subst (Fits (34 ∷ (bytes ++ ys)) (suc (length bytes))) (sym (string-front (bytes ++ ys) ∙ ap string_of there.1))
    (omega arith)

-- ---- numbers
number-first : (c : ℕ) (zs : List ℕ) → 0 < literal_len (c ∷ zs) → (is_ascii_digit c || c == 46) ≡ true
number-first c zs some = by_tests (is_ascii_digit c) (c == 46) refl refl
  where
    by_tests : (t u : Bool) → is_ascii_digit c ≡ t → (c == 46) ≡ u → (t || u) ≡ true
    by_tests true u e f = refl
    by_tests false true e f = refl
    by_tests false false e f = absurd (omega (arith, some, no_literal c zs e f))

number-plain : (c : ℕ) → (is_ascii_digit c || c == 46) ≡ true → IsPlain c
number-plain c h = record
    { blank = grind (arith, nat_tests); slash = grind (arith, nat_tests); quote = grind (arith, nat_tests) }

no_number : (is_literal [] ≡ true) → ⊥
unfolding is_literal literal_len mantissa_len
no_number e = absurd cc

numeral-fits : (bytes : List ℕ) (m l : ℕ) (r : Result ℤ NumFault) → l ≡ literal_len bytes → l ≤ length bytes → m ≤ l →
    Fits bytes m (numeral_of (take l bytes) r)
unfolding numeral_of
numeral-fits bytes m l (Ok z) e within h = omega (arith, length-take l bytes)
numeral-fits bytes m l (Err fault) e within h = omega (arith, e)

number-fits : (c : ℕ) (zs : List ℕ) (m : ℕ) → 0 < literal_len (c ∷ zs) → m ≤ literal_len (c ∷ zs) →
    Fits (c ∷ zs) m (front_of (c ∷ zs))
number-fits c zs m some h =
    let bytes : List ℕ = c ∷ zs in
    let l : ℕ = literal_len (c ∷ zs) in
    let long : nat_lt 0 (literal_len (c ∷ zs)) ≡ true = grind (arith, nat_tests) in
    subst (Fits (c ∷ zs) m)
    (sym (front_plain c zs (number-plain c (number-first c zs some))
    ∙ given (nat_lt 0 (literal_len (c ∷ zs)))
    (numeral_of (take (literal_len (c ∷ zs)) (c ∷ zs)) (literal_number (take (literal_len (c ∷ zs)) (c ∷ zs)))) _
    long))
    (numeral-fits (c ∷ zs) m (literal_len (c ∷ zs)) _ refl (literals_are_longest (c ∷ zs)).within h)

-- ---- names
name-first : (c : ℕ) (cs : List ℕ) → IsName (c ∷ cs) → (c == 36 || begins_word c) ≡ true
name-first c cs (inl is) = let t = is.0 in grind (arith, nat_tests)
name-first c cs (inr is) = let t = is.0 in grind (arith, nat_tests)

word-fits : (bytes : List ℕ) (m w : ℕ) (k : Option KeyName) → w ≤ length bytes → m ≤ w →
    Fits bytes m (word_of (take w bytes) k)
unfolding word_of
word-fits bytes m w (Some key) within h = omega (arith, length-take w bytes)
word-fits bytes m w None within h = omega (arith, length-take w bytes)

name-fits : (c : ℕ) (cs ys : List ℕ) → IsName (c ∷ cs) →
    Fits (c ∷ (cs ++ ys)) (suc (length cs)) (front_of (c ∷ (cs ++ ys)))
name-fits c cs ys is =
    let zs : List ℕ = c ∷ (cs ++ ys) in
    let plain = name_plain c (name-first c cs is) in
    let h : suc (length cs) ≤ word_len (c ∷ (cs ++ ys)) =
    name-longest (c ∷ (cs ++ ys)) (suc (length cs)) (omega (arith, length-append cs ys))
    (subst IsName (sym (take-append_seam (c ∷ cs) ys)) is) in
    let long : nat_lt 0 (word_len (c ∷ (cs ++ ys))) ≡ true = grind (arith, nat_tests) in
    subst (Fits (c ∷ (cs ++ ys)) (suc (length cs)))
    (sym (front_plain c (cs ++ ys) plain.0
    ∙ ap (λ l. front_by (c ∷ (cs ++ ys)) false false false l (word_len (c ∷ (cs ++ ys))))
    (no_literal c (cs ++ ys) plain.1 plain.2)
    ∙ given (nat_lt 0 (word_len (c ∷ (cs ++ ys))))
    (word_of (take (word_len (c ∷ (cs ++ ys))) (c ∷ (cs ++ ys)))
    (key_of (take (word_len (c ∷ (cs ++ ys))) (c ∷ (cs ++ ys))))) _ long))
    (word-fits (c ∷ (cs ++ ys)) (suc (length cs)) (word_len (c ∷ (cs ++ ys))) _
    (names_are_longest (c ∷ (cs ++ ys))).within h)

-- ---- signs
one-fits : (bytes : List ℕ) (long : Option SignName) (s : SignName) → Fits bytes 1 (sign_of long (Some s))
unfolding sign_of
one-fits bytes (Some l) s = omega arith
one-fits bytes None s = omega arith

either-fits : (bytes : List ℕ) (m : ℕ) (t : Bool) (x y : Front) → (t ≡ true → Fits bytes m x) →
    (t ≡ false → Fits bytes m y) → Fits bytes m (cond t x y)
either-fits bytes m true x y a b = a refl
either-fits bytes m false x y a b = b refl

open-fits : (y : ℕ) (ys : List ℕ) (o : Option ℕ) → (y == 42) ≡ true → Fits (47 ∷ y ∷ ys) 1 (comment_of o)
unfolding comment_of
open-fits y ys (Some n) is = omega arith
open-fits y ys None is = (refl, ap (λ x. 47 ∷ x ∷ []) (eqb-true y 42 is))

slash-fits : (ys : List ℕ) → Fits (47 ∷ ys) 1 (front_of (47 ∷ ys))
unfolding front_of literal_len mantissa_len exponent_len word_len two_byte_sign one_byte_sign mark_sign operator_sign
    sign_of
slash-fits [] = omega arith
slash-fits (y ∷ ys) =
    either-fits (47 ∷ y ∷ ys) 1 (y == 47) _ _ (λ line. omega arith)
    (λ other. either-fits (47 ∷ y ∷ ys) 1 (y == 42) _ _ (λ is. open-fits y ys (closed_len ys) is)
    (λ none. omega arith))

point-fits : (ys : List ℕ) → Fits (46 ∷ ys) 1 (front_of (46 ∷ ys))
unfolding word_len two_byte_sign one_byte_sign mark_sign operator_sign sign_of
point-fits ys = by_number (cases_lt 0 (literal_len (46 ∷ ys)))
  where
    none : literal_len (46 ∷ ys) ≡ 0 → Fits (46 ∷ ys) 1 (front_of (46 ∷ ys))
    none e =
        subst (Fits (46 ∷ ys) 1)
        (sym (front_plain 46 ys (record { blank = refl; slash = refl; quote = refl })
        ∙ ap (λ l. front_by (46 ∷ ys) false false false l (word_len (46 ∷ ys))) e))
        (one-fits (46 ∷ ys) (two_byte_sign 46 (slice_index ys 0)) Dot)

    by_number : (0 < literal_len (46 ∷ ys)) ⊎ (literal_len (46 ∷ ys) ≤ 0) → Fits (46 ∷ ys) 1 (front_of (46 ∷ ys))
    by_number (inl some) = number-fits 46 ys 1 some (omega arith)
    by_number (inr h) = none (omega arith)

sign-fits : (s : SignName) (ys : List ℕ) →
    Fits (sign_spelling s ++ ys) (length (sign_spelling s)) (front_of (sign_spelling s ++ ys))
unfolding front_of literal_len mantissa_len exponent_len word_len two_byte_sign one_byte_sign mark_sign operator_sign
    sign_of
sign-fits OpenRound ys = one-fits (40 ∷ ys) (two_byte_sign 40 (slice_index ys 0)) OpenRound
sign-fits CloseRound ys = one-fits (41 ∷ ys) (two_byte_sign 41 (slice_index ys 0)) CloseRound
sign-fits OpenSquare ys = one-fits (91 ∷ ys) (two_byte_sign 91 (slice_index ys 0)) OpenSquare
sign-fits CloseSquare ys = one-fits (93 ∷ ys) (two_byte_sign 93 (slice_index ys 0)) CloseSquare
sign-fits OpenCurly ys = one-fits (123 ∷ ys) (two_byte_sign 123 (slice_index ys 0)) OpenCurly
sign-fits CloseCurly ys = one-fits (125 ∷ ys) (two_byte_sign 125 (slice_index ys 0)) CloseCurly
sign-fits Semicolon ys = one-fits (59 ∷ ys) (two_byte_sign 59 (slice_index ys 0)) Semicolon
sign-fits Comma ys = one-fits (44 ∷ ys) (two_byte_sign 44 (slice_index ys 0)) Comma
sign-fits Colon ys = one-fits (58 ∷ ys) (two_byte_sign 58 (slice_index ys 0)) Colon
sign-fits Question ys = one-fits (63 ∷ ys) (two_byte_sign 63 (slice_index ys 0)) Question
sign-fits Assign ys = one-fits (61 ∷ ys) (two_byte_sign 61 (slice_index ys 0)) Assign
sign-fits Less ys = one-fits (60 ∷ ys) (two_byte_sign 60 (slice_index ys 0)) Less
sign-fits Greater ys = one-fits (62 ∷ ys) (two_byte_sign 62 (slice_index ys 0)) Greater
sign-fits Plus ys = one-fits (43 ∷ ys) (two_byte_sign 43 (slice_index ys 0)) Plus
sign-fits Minus ys = one-fits (45 ∷ ys) (two_byte_sign 45 (slice_index ys 0)) Minus
sign-fits Star ys = one-fits (42 ∷ ys) (two_byte_sign 42 (slice_index ys 0)) Star
sign-fits Percent ys = one-fits (37 ∷ ys) (two_byte_sign 37 (slice_index ys 0)) Percent
sign-fits Caret ys = one-fits (94 ∷ ys) (two_byte_sign 94 (slice_index ys 0)) Caret
sign-fits Bang ys = one-fits (33 ∷ ys) (two_byte_sign 33 (slice_index ys 0)) Bang
sign-fits Hash ys = one-fits (35 ∷ ys) (two_byte_sign 35 (slice_index ys 0)) Hash
sign-fits Equal ys = omega arith
sign-fits NotEqual ys = omega arith
sign-fits LessEqual ys = omega arith
sign-fits GreaterEqual ys = omega arith
sign-fits AndAnd ys = omega arith
sign-fits OrOr ys = omega arith
sign-fits Slash ys = slash-fits ys
sign-fits Dot ys = point-fits ys

-- ---- all of them
pub piece-fits : (xs : List ℕ) → IsPiece xs → (ys : List ℕ) → Fits (xs ++ ys) (length xs) (front_of (xs ++ ys))
piece-fits _ (blanks [] some all) ys = absurd (omega (arith, some))
piece-fits _ (blanks (c ∷ cs) some all) ys =
    subst (Fits (c ∷ (cs ++ ys)) (suc (length cs))) (sym (blanks-front c (cs ++ ys) all.0))
    (run-fits Blank (c ∷ cs) ys all)
piece-fits _ (line_comment bytes all) ys =
    subst (Fits (47 ∷ 47 ∷ (bytes ++ ys)) (suc (suc (length bytes)))) (sym (line-front (bytes ++ ys)))
    (omega (arith, run-fits WithinLine bytes ys all))
piece-fits _ (comment bytes closed) ys =
    subst (Fits (47 ∷ 42 ∷ (bytes ++ ys)) (suc (suc (length bytes)))) (sym (comment-front (bytes ++ ys)))
    (closed-fits bytes ys (closed_len (bytes ++ ys)) closed refl)
piece-fits _ (string bytes quoted) ys = string-fits bytes ys quoted
piece-fits _ (number [] is) ys = absurd (no_number ((literals_are_recognised []).1 is))
piece-fits _ (number (c ∷ cs) is) ys =
    let long = (literals_are_longest (c ∷ (cs ++ ys))).longest (suc (length cs)) (omega (arith, length-append cs ys))
    (subst Literal (sym (take-append_seam (c ∷ cs) ys)) is) in
    number-fits c (cs ++ ys) (suc (length cs)) (omega (arith, long)) long
piece-fits _ (name [] (inl is)) ys = absurd is
piece-fits _ (name [] (inr is)) ys = absurd is
piece-fits _ (name (c ∷ cs) is) ys = name-fits c cs ys is
piece-fits _ (sign s) ys = sign-fits s ys
