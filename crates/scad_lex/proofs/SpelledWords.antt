-- A name before a blank is cut as it is spelled.
use Rattle.std.proofs.Common.{◌≡◌, ℕ, suc, ◌+◌, ◌<◌, Bool, true, false, cond, ◌==◌, ◌||◌, List, [], ◌∷◌, ◌++◌, length}
use Rattle.std.proofs.Common.{drop, None, refl, ap, ◌∙◌, arith}
use Rattle.std.specs.Prelude.{slice_index}
use Rattle.std.specs.List.{prefix_len}
use Rattle.std.proofs.Math.Seq.{take-append_seam}
use Rattle.scad_lex.specs.declared.token.TokenKind.TheVariants.{Word}
use Rattle.scad_lex.specs.declared.front.Front.TheVariants.{Cut}
use Rattle.scad_lex.specs.Front.{front_of, word_of}
use Rattle.scad_lex.specs.Keys.{key_of}
use Rattle.scad_lex.specs.Words.{begins_word, goes_on_word, word_len}
use Rattle.scad_lex.specs.Spelling.{blank_behind}
use Rattle.scad_lex.proofs.Fronts.{front_word, name_plain}

counted : (t : Bool) (p q n : ℕ) → cond t (1 + p) 0 ≡ suc n → (p ≡ n → q ≡ n) → cond t (1 + q) 0 ≡ suc n
counted true p q n h same = let e : p ≡ n = omega (arith, h) in let f : q ≡ n = same e in omega (arith, f)
counted false p q n h same = absurd (omega (arith, h))

-- a run that takes a whole list ends before what doesn't go on with it
prefix_len-before : (f : ℕ → Bool) (xs : List ℕ) (b : ℕ) (rest : List ℕ) → f b ≡ false → prefix_len f xs ≡ length xs →
    prefix_len f (xs ++ b ∷ rest) ≡ length xs
prefix_len-before f [] b rest ends whole = ap (λ t. cond t (1 + prefix_len f rest) 0) ends
prefix_len-before f (x ∷ xs) b rest ends whole =
    counted (f x) (prefix_len f xs) (prefix_len f (xs ++ b ∷ rest)) (length xs) whole
    (prefix_len-before f xs b rest ends)

-- how long a name is whose first letter stands behind so many bytes
abbrev len_from : ℕ → List ℕ → ℕ
len_from d bytes = cond (begins_word (slice_index bytes d)) (d + prefix_len goes_on_word (drop d bytes)) 0

chosen : (t : Bool) (p q n : ℕ) → cond t p 0 ≡ suc n → (p ≡ suc n → q ≡ suc n) → cond t q 0 ≡ suc n
chosen true p q n h same = same h
chosen false p q n h same = absurd (omega (arith, h))

len_from-before : (dollar : Bool) (c : ℕ) (cs : List ℕ) (b : ℕ) (rest : List ℕ) → goes_on_word b ≡ false
    → len_from (cond dollar 1 0) (c ∷ cs) ≡ suc (length cs) →
    len_from (cond dollar 1 0) (c ∷ cs ++ b ∷ rest) ≡ suc (length cs)
len_from-before false c cs b rest ends whole =
    chosen (begins_word c) (0 + prefix_len goes_on_word (c ∷ cs)) (0 + prefix_len goes_on_word (c ∷ cs ++ b ∷ rest))
    (length cs) whole
    (λ e. let all : prefix_len goes_on_word (c ∷ cs) ≡ length (c ∷ cs) = omega (arith, e) in
    let more : prefix_len goes_on_word (c ∷ cs ++ b ∷ rest) ≡ length (c ∷ cs) =
    prefix_len-before goes_on_word (c ∷ cs) b rest ends all in
    omega (arith, more))
len_from-before true c [] b rest ends whole = absurd (omega (arith, whole))
len_from-before true c (d ∷ ds) b rest ends whole =
    chosen (begins_word d) (1 + prefix_len goes_on_word (d ∷ ds)) (1 + prefix_len goes_on_word (d ∷ ds ++ b ∷ rest))
    (suc (length ds)) whole
    (λ e. let all : prefix_len goes_on_word (d ∷ ds) ≡ length (d ∷ ds) = omega (arith, e) in
    let more : prefix_len goes_on_word (d ∷ ds ++ b ∷ rest) ≡ length (d ∷ ds) =
    prefix_len-before goes_on_word (d ∷ ds) b rest ends all in
    omega (arith, more))

blank_ends : (b : Bool) → goes_on_word (blank_behind b) ≡ false
blank_ends true = refl
blank_ends false = refl

word_len-before : (c : ℕ) (cs : List ℕ) (b : Bool) (rest : List ℕ) → word_len (c ∷ cs) ≡ suc (length cs) →
    word_len (c ∷ cs ++ blank_behind b ∷ rest) ≡ suc (length cs)
unfolding word_len
word_len-before c cs b rest whole = len_from-before (c == 36) c cs (blank_behind b) rest (blank_ends b) whole

-- a name begins with `$`, a letter or `_`
first_of : (c : ℕ) (rest : List ℕ) (n : ℕ) → word_len (c ∷ rest) ≡ suc n → (c == 36 || begins_word c) ≡ true
unfolding word_len
first_of c rest n whole = by_dollar (c == 36) whole
  where
    by_letter : (t : Bool) (p : ℕ) → cond t p 0 ≡ suc n → t ≡ true
    by_letter true p h = refl
    by_letter false p h = absurd (omega (arith, h))

    by_dollar : (t : Bool) → len_from (cond t 1 0) (c ∷ rest) ≡ suc n → (t || begins_word c) ≡ true
    by_dollar true h = refl
    by_dollar false h = by_letter (begins_word c) (0 + prefix_len goes_on_word (c ∷ rest)) h

pub word_front : (word : List ℕ) (b : Bool) (rest : List ℕ) → 0 < length word → word_len word ≡ length word →
    key_of word ≡ None
    → front_of (word ++ blank_behind b ∷ rest) ≡ Cut (Word word) (length word)
unfolding word_of
word_front [] b rest some whole other = absurd (omega (arith, some))
word_front (c ∷ cs) b rest some whole other =
    let plain = name_plain c (first_of c cs (length cs) whole) in
    front_word c (cs ++ blank_behind b ∷ rest) (length cs) plain.0 plain.1 plain.2 (word_len-before c cs b rest whole)
    ∙ ap (λ w. word_of w (key_of w)) (take-append_seam (c ∷ cs) (blank_behind b ∷ rest))
    ∙ ap (word_of (c ∷ cs)) other
