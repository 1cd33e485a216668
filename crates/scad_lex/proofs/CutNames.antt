-- A name that is cut off in front is one.
use Rattle.std.proofs.Common.{◌≡◌, ℕ, suc, ◌+◌, ◌<◌, Bool, true, false, cond, ◌==◌, List, [], ◌∷◌, length}
use Rattle.std.proofs.Common.{take, drop, refl, ap, sym, subst, ◌∙◌, arith}
use Rattle.std.specs.Prelude.{slice_index}
use Rattle.std.specs.List.{prefix_len}
use Rattle.std.proofs.lemmas.List.Folds.{length-prefix_len}
use Rattle.scad_lex.specs.Words.{begins_word, goes_on_word, word_len}
use Rattle.scad_lex.proofs.Longest.{begins-goes_on}

prefix_len-whole : (f : ℕ → Bool) (xs : List ℕ) → prefix_len f (take (prefix_len f xs) xs) ≡ prefix_len f xs
prefix_len-whole f [] = refl
prefix_len-whole f (x ∷ xs) = by_test (f x) refl (prefix_len-whole f xs)
  where
    by_test : (t : Bool) → f x ≡ t → prefix_len f (take (prefix_len f xs) xs) ≡ prefix_len f xs →
        prefix_len f (take (cond t (1 + prefix_len f xs) 0) (x ∷ xs)) ≡ cond t (1 + prefix_len f xs) 0
    by_test true h later =
        let more : 1 + prefix_len f xs ≡ suc (prefix_len f xs) = omega arith in
        ap (λ n. prefix_len f (take n (x ∷ xs))) more
        ∙ ap (λ t. cond t (1 + prefix_len f (take (prefix_len f xs) xs)) 0) h
        ∙ ap (λ n. 1 + n) later
    by_test false h later = refl

abbrev len_from : ℕ → List ℕ → ℕ
len_from d bytes = cond (begins_word (slice_index bytes d)) (d + prefix_len goes_on_word (drop d bytes)) 0

abbrev pub IsName : List ℕ → Type 0
IsName word = (0 < length word) × (word_len word ≡ length word)

plain_name : (c : ℕ) (ys : List ℕ) → (c == 36) ≡ false → begins_word c ≡ true →
    prefix_len goes_on_word (c ∷ ys) ≡ length (c ∷ ys) → IsName (c ∷ ys)
unfolding word_len
plain_name c ys plain letter all = (
  omega arith,
  ap (λ t. len_from (cond t 1 0) (c ∷ ys)) plain ∙ ap (λ t. cond t (0 + prefix_len goes_on_word (c ∷ ys)) 0) letter
      ∙ omega (arith, all),
)

dollar_name : (c d : ℕ) (ys : List ℕ) → (c == 36) ≡ true → begins_word d ≡ true →
    prefix_len goes_on_word (d ∷ ys) ≡ length (d ∷ ys) → IsName (c ∷ d ∷ ys)
unfolding word_len
dollar_name c d ys dollar letter all = (
  omega arith,
  ap (λ t. len_from (cond t 1 0) (c ∷ d ∷ ys)) dollar
      ∙ ap (λ t. cond t (1 + prefix_len goes_on_word (d ∷ ys)) 0) letter ∙ omega (arith, all),
)

run_len : (d : ℕ) (es : List ℕ) → goes_on_word d ≡ true →
    prefix_len goes_on_word (d ∷ es) ≡ suc (prefix_len goes_on_word es)
run_len d es goes = ap (λ t. cond t (1 + prefix_len goes_on_word es) 0) goes ∙ omega arith

first_kept : (d : ℕ) (es : List ℕ) → goes_on_word d ≡ true →
    take (prefix_len goes_on_word (d ∷ es)) (d ∷ es) ≡ d ∷ take (prefix_len goes_on_word es) es
first_kept d es goes = ap (λ n. take n (d ∷ es)) (run_len d es goes)

run_is : (d : ℕ) (es : List ℕ) → goes_on_word d ≡ true
    → prefix_len goes_on_word (d ∷ take (prefix_len goes_on_word es) es)
    ≡ length (d ∷ take (prefix_len goes_on_word es) es)
run_is d es goes =
    subst (λ w. prefix_len goes_on_word w ≡ length w) (first_kept d es goes)
    (prefix_len-whole goes_on_word (d ∷ es) ∙ sym (length-prefix_len goes_on_word (d ∷ es)))

name_from : (t : Bool) (c : ℕ) (cs : List ℕ) → (c == 36) ≡ t → 0 < len_from (cond t 1 0) (c ∷ cs) →
    IsName (take (len_from (cond t 1 0) (c ∷ cs)) (c ∷ cs))
name_from false c cs plain some = by_letter (begins_word c) refl some
  where
    by_letter : (t : Bool) → begins_word c ≡ t → 0 < cond t (0 + prefix_len goes_on_word (c ∷ cs)) 0 →
        IsName (take (len_from 0 (c ∷ cs)) (c ∷ cs))
    by_letter false letter fact = absurd (omega (arith, fact))
    by_letter true letter fact =
        let goes : goes_on_word c ≡ true = begins-goes_on c letter in
        let long : len_from 0 (c ∷ cs) ≡ prefix_len goes_on_word (c ∷ cs) =
        ap (λ t. cond t (0 + prefix_len goes_on_word (c ∷ cs)) 0) letter ∙ omega arith in
        subst IsName (sym (ap (λ n. take n (c ∷ cs)) long ∙ first_kept c cs goes))
        (plain_name c (take (prefix_len goes_on_word cs) cs) plain letter (run_is c cs goes))
name_from true c [] dollar some = absurd (omega (arith, some))
name_from true c (e ∷ es) dollar some = by_letter (begins_word e) refl some
  where
    by_letter : (t : Bool) → begins_word e ≡ t → 0 < cond t (1 + prefix_len goes_on_word (e ∷ es)) 0 →
        IsName (take (len_from 1 (c ∷ e ∷ es)) (c ∷ e ∷ es))
    by_letter false letter fact = absurd (omega (arith, fact))
    by_letter true letter fact =
        let goes : goes_on_word e ≡ true = begins-goes_on e letter in
        let long : len_from 1 (c ∷ e ∷ es) ≡ suc (prefix_len goes_on_word (e ∷ es)) =
        ap (λ t. cond t (1 + prefix_len goes_on_word (e ∷ es)) 0) letter ∙ omega arith in
        subst IsName (sym (ap (λ n. take n (c ∷ e ∷ es)) long ∙ ap (λ w. c ∷ w) (first_kept e es goes)))
        (dollar_name c e (take (prefix_len goes_on_word es) es) dollar letter (run_is e es goes))

pub word_name : (bytes : List ℕ) → 0 < word_len bytes → IsName (take (word_len bytes) bytes)
unfolding word_len
word_name [] some = absurd (omega (arith, some))
word_name (c ∷ cs) some = name_from (c == 36) c cs refl some
