-- The text of tokens, each as it is spelled and a blank behind it, is cut into these tokens.
use Rattle.std.proofs.Common.{◌≡◌, ◌≢◌, ℕ, suc, ◌+◌, ◌<◌, Bool, true, false, cond, List, [], ◌∷◌, ◌++◌, length, drop}
use Rattle.std.proofs.Common.{Ok, refl, ap, sym, ◌∙◌, arith, length-append, ◌⊎◌, inl, inr}
use Rattle.std.specs.List.{prefix_len}
use Rattle.std.proofs.Math.Seq.{take-append_seam, drop-append_seam}
use Rattle.std.proofs.lemmas.Bool.{cases_eq, ne_eqb}
use Rattle.scad_fault.specs.declared.place.Place.{Place}
use Rattle.scad_num.specs.Literal.{literal_len, mantissa_len}
use Rattle.scad_lex.specs.declared.token.Token.{Token}
use Rattle.scad_lex.specs.declared.token.TokenKind.{TokenKind}
use Rattle.scad_lex.specs.declared.token.TokenKind.TheVariants.{Number, Str, Word, Sign, Key}
use Rattle.scad_lex.specs.declared.front.Front.{Front}
use Rattle.scad_lex.specs.declared.front.Front.TheVariants.{Gap, Cut, Bad, TooLarge}
use Rattle.scad_lex.specs.declared.gap.Class.TheVariants.{Blank}
use Rattle.scad_lex.specs.Classes.{is_of}
use Rattle.scad_lex.specs.Gap.{is_blank}
use Rattle.scad_lex.specs.Front.{front_of, sign_of}
use Rattle.scad_lex.specs.Signs.{two_byte_sign, one_byte_sign, mark_sign, operator_sign}
use Rattle.scad_lex.specs.Words.{word_len}
use Rattle.scad_lex.specs.Tokens.{next, after, onto, others, led_by, tokens_from, start, without_mark}
use Rattle.scad_lex.specs.Spelling.{spelling, Spaced, blank_behind, spelled, placed, CanBeSpelled, CanAllBeSpelled}
use Rattle.scad_lex.specs.Spelling.{SpelledTokensAreRead}
use Rattle.scad_lex.proofs.Fronts.{given}
use Rattle.scad_lex.proofs.Pieces.{cut_at}
use Rattle.scad_lex.proofs.SpelledSigns.{sign_front, key_front}
use Rattle.scad_lex.proofs.SpelledWords.{word_front}
use Rattle.scad_lex.proofs.SpelledStrings.{string_front}
use Rattle.scad_lex.proofs.SpelledNumbers.{number_front}

-- a token before a blank is cut as it is spelled
kind_front : (k : TokenKind) (b : Bool) (rest : List ℕ) → CanBeSpelled k →
    front_of (spelling k ++ blank_behind b ∷ rest) ≡ Cut k (length (spelling k))
kind_front (Number z) b rest (n, is, small) = number_front z n b rest is small
kind_front (Str chars) b rest can = string_front chars b rest can
kind_front (Word word) b rest (some, whole, other) = word_front word b rest some whole other
kind_front (Sign sign) b rest can = sign_front sign b rest
kind_front (Key key) b rest can = key_front key b rest

-- ---- blanks
front_gap : (c : ℕ) (cs : List ℕ) → is_blank c ≡ true → front_of (c ∷ cs) ≡ Gap (suc (prefix_len (is_of Blank) cs))
unfolding front_of
front_gap c cs h =
    given (is_blank c) (Gap (prefix_len (is_of Blank) (c ∷ cs))) _ h
    ∙ ap Gap (ap (λ t. cond t (1 + prefix_len (is_of Blank) cs) 0) h ∙ omega arith)

-- a run of blanks may be gone over or read
run_over : (at : Place) (rest : List ℕ) → tokens_from (prefix_len (is_of Blank) rest) at rest ≡ tokens_from 0 at rest
run_over at [] = refl
run_over at (c ∷ cs) = by_blank (is_blank c) refl
  where
    by_blank : (t : Bool) → is_blank c ≡ t →
        tokens_from (cond t (1 + prefix_len (is_of Blank) cs) 0) at (c ∷ cs) ≡ tokens_from 0 at (c ∷ cs)
    by_blank false h = refl
    by_blank true h =
        let one_more : 1 + prefix_len (is_of Blank) cs ≡ suc (prefix_len (is_of Blank) cs) = omega arith in
        ap (λ n. tokens_from n at (c ∷ cs)) one_more
        ∙ sym (ap (λ piece. led_by piece at (c ∷ cs) (tokens_from (others piece) (next at c) cs)) (front_gap c cs h))

blank_is_blank : (b : Bool) → is_blank (blank_behind b) ≡ true
blank_is_blank true = refl
blank_is_blank false = refl

blank_read : (at : Place) (b : Bool) (rest : List ℕ) →
    tokens_from 0 at (blank_behind b ∷ rest) ≡ tokens_from 0 (next at (blank_behind b)) rest
blank_read at b rest =
    ap (λ piece. led_by piece at (blank_behind b ∷ rest) (tokens_from (others piece) (next at (blank_behind b)) rest))
    (front_gap (blank_behind b) rest (blank_is_blank b))
    ∙ run_over (next at (blank_behind b)) rest

-- ---- tokens
abbrev cut_or_not : Front → ℕ
cut_or_not (Cut kind n) = 1
cut_or_not (Gap n) = 0
cut_or_not (Bad n) = 0
cut_or_not TooLarge = 0

some_spelling : (word : List ℕ) (b : Bool) (rest : List ℕ) (kind : TokenKind) (n : ℕ) →
    front_of (word ++ blank_behind b ∷ rest) ≡ Cut kind n → 0 < length word
some_spelling [] b rest kind n is =
    absurd (omega (arith, ap cut_or_not (sym (front_gap (blank_behind b) rest (blank_is_blank b)) ∙ is)))
some_spelling (c ∷ cs) b rest kind n is = omega arith

after-append : (at : Place) (xs ys : List ℕ) → after at (xs ++ ys) ≡ after (after at xs) ys
after-append at [] ys = refl
after-append at (x ∷ xs) ys = after-append (next at x) xs ys

read_from : (at : Place) (all : List Spaced) → CanAllBeSpelled all →
    tokens_from 0 at (spelled all) ≡ Ok (placed at all, after at (spelled all))
read_from at [] can = refl
read_from at (k ∷ more) (can, can_more) =
    cut_at at text k.0 (length word) (omega (arith, length-append word (blank ∷ spelled more)))
    (some_spelling word k.1 (spelled more) k.0 (length word) front) front
    ∙ ap (λ t. onto (token ∷ []) (tokens_from 0 (after at t) (drop (length word) text)))
    (take-append_seam word (blank ∷ spelled more))
    ∙ ap (λ t. onto (token ∷ []) (tokens_from 0 (after at word) t)) (drop-append_seam word (blank ∷ spelled more))
    ∙ ap (onto (token ∷ []))
    (blank_read (after at word) k.1 (spelled more) ∙ read_from (next (after at word) blank) more can_more)
    ∙ ap (λ a. Ok (token ∷ placed a more, after (next (after at word) blank) (spelled more)))
    (sym (after-append at word (blank ∷ [])))
    ∙ ap (λ a. Ok (token ∷ placed (after at (word ++ blank ∷ [])) more, a))
    (sym (after-append at word (blank ∷ spelled more)))
  where
    word : List ℕ
    word = spelling k.0

    blank : ℕ
    blank = blank_behind k.1

    text : List ℕ
    text = word ++ blank ∷ spelled more

    token : Token
    token = record { kind = k.0; at = at }

    front : front_of (word ++ blank ∷ spelled more) ≡ Cut k.0 (length word)
    front = kind_front k.0 k.1 (spelled more) can

-- ---- the byte order mark
front_mark : (rest : List ℕ) → front_of (0xEF ∷ rest) ≡ Bad 0
unfolding front_of literal_len mantissa_len word_len two_byte_sign one_byte_sign mark_sign operator_sign sign_of
front_mark rest = refl

no_mark : (bytes : List ℕ) (kind : TokenKind) (n : ℕ) → front_of bytes ≡ Cut kind n → without_mark bytes ≡ bytes
no_mark [] kind n is = refl
no_mark (c ∷ cs) kind n is = by_first (cases_eq c 0xEF)
  where
    by_first : (c ≡ 0xEF) ⊎ (c ≢ 0xEF) → without_mark (c ∷ cs) ≡ c ∷ cs
    by_first (inl e) = absurd
        (omega (arith, ap cut_or_not (sym (front_mark cs) ∙ ap (λ x. front_of (x ∷ cs)) (sym e) ∙ is)))
    by_first (inr ne) = grind (arith, ne_eqb c 0xEF ne)

spelled_begins : (all : List Spaced) → CanAllBeSpelled all → without_mark (spelled all) ≡ spelled all
spelled_begins [] can = refl
spelled_begins (k ∷ more) (can, can_more) =
    no_mark (spelling k.0 ++ blank_behind k.1 ∷ spelled more) k.0 (length (spelling k.0))
    (kind_front k.0 k.1 (spelled more) can)

pub spelled_tokens_are_read : SpelledTokensAreRead
spelled_tokens_are_read all can = ap (tokens_from 0 start) (spelled_begins all can) ∙ read_from start all can
