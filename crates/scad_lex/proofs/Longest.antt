-- Runs and names are cut off as far as they go.
use Rattle.std.proofs.Common.{◌≡◌, ℕ, zero, suc, ◌+◌, ◌<◌, ◌≤◌, Bool, true, false, cond, List, [], ◌∷◌, length, take}
use Rattle.std.proofs.Common.{drop, refl, sym, ap, subst, arith, ◌∙◌, ◌⊎◌, inl, inr}
use Rattle.std.specs.Prelude.{slice_index, ◌==◌}
use Rattle.std.specs.List.{prefix_len, AllByRecursion}
use Rattle.std.proofs.lemmas.Bool.{cases_Bool}
use Rattle.std.proofs.lemmas.Bool.Decides.{nat_tests}
use Rattle.scad_lex.specs.Classes.{is_of}
use Rattle.scad_lex.specs.Longest.{IsPlainName, IsName, RunsAreLongest, NamesAreLongest}
use Rattle.scad_lex.specs.Words.{begins_word, goes_on_word, dollar_len, word_len}

pub prefix_len-le : (p : ℕ → Bool) (xs : List ℕ) → prefix_len p xs ≤ length xs
prefix_len-le p [] = omega arith
prefix_len-le p (x ∷ xs) = by_test (p x) (prefix_len-le p xs)
  where
    by_test : (b : Bool) → prefix_len p xs ≤ length xs → cond b (1 + prefix_len p xs) 0 ≤ suc (length xs)
    by_test true h = omega arith
    by_test false h = omega arith

pub front-all : (p : ℕ → Bool) (xs : List ℕ) → AllByRecursion (λ x. p x ≡ true) (take (prefix_len p xs) xs)
front-all p [] = tt
front-all p (x ∷ xs) = by_test (p x) refl (front-all p xs)
  where
    by_test : (b : Bool) → p x ≡ b → AllByRecursion (λ y. p y ≡ true) (take (prefix_len p xs) xs) →
        AllByRecursion (λ y. p y ≡ true) (take (cond b (1 + prefix_len p xs) 0) (x ∷ xs))
    by_test true e h = let up : suc (prefix_len p xs) ≡ 1 + prefix_len p xs =
        omega arith in subst (λ n. AllByRecursion (λ y. p y ≡ true) (take n (x ∷ xs))) up (e, h)
    by_test false e h = tt

pub front-longest : (p : ℕ → Bool) (xs : List ℕ) (m : ℕ) → m ≤ length xs →
    AllByRecursion (λ x. p x ≡ true) (take m xs) → m ≤ prefix_len p xs
front-longest p xs zero h all = omega arith
front-longest p [] (suc m) h all = absurd (omega arith)
front-longest p (x ∷ xs) (suc m) h all =
    let rest = front-longest p xs m (omega arith) all.1 in
    let more : prefix_len p (x ∷ xs) ≡ 1 + prefix_len p xs = ap (λ b. cond b (1 + prefix_len p xs) 0) all.0 in
    omega arith

pub runs_are_longest : RunsAreLongest
runs_are_longest class bytes = record {
  within = prefix_len-le (is_of class) bytes;
  formed = λ some. front-all (is_of class) bytes;
  longest = front-longest (is_of class) bytes;
}

begins-no_dollar : (b : ℕ) → begins_word b ≡ true → (b == 36) ≡ false
begins-no_dollar b e = grind (arith, nat_tests)

pub begins-goes_on : (b : ℕ) → begins_word b ≡ true → goes_on_word b ≡ true
begins-goes_on b e = grind (arith, nat_tests)

dollar-is : (b : ℕ) → (b == 36) ≡ true → b ≡ 36
dollar-is b e = grind (arith, nat_tests)

-- the length of a name behind so many bytes
abbrev len_behind : List ℕ → ℕ → ℕ
len_behind bytes d = cond (begins_word (slice_index bytes d)) (d + prefix_len goes_on_word (drop d bytes)) 0

word_len-by_dollar : (bytes : List ℕ) → word_len bytes ≡ len_behind bytes (dollar_len bytes)
unfolding word_len
word_len-by_dollar bytes = refl

plain-len : (b : ℕ) (bytes : List ℕ) → (b == 36) ≡ false →
    word_len (b ∷ bytes) ≡ cond (begins_word b) (0 + prefix_len goes_on_word (b ∷ bytes)) 0
plain-len b bytes e = word_len-by_dollar (b ∷ bytes) ∙ ap (λ t. len_behind (b ∷ bytes) (cond t 1 0)) e

special-len : (b : ℕ) (bytes : List ℕ) → (b == 36) ≡ true →
    word_len (b ∷ bytes) ≡ cond (begins_word (slice_index bytes 0)) (1 + prefix_len goes_on_word bytes) 0
special-len b bytes e = word_len-by_dollar (b ∷ bytes) ∙ ap (λ t. len_behind (b ∷ bytes) (cond t 1 0)) e

-- a plain name in front is no longer than the run of bytes that go on a name
plain-longest : (bytes : List ℕ) (m : ℕ) → m ≤ length bytes → IsPlainName (take m bytes) →
    (begins_word (slice_index bytes 0) ≡ true) × (m ≤ prefix_len goes_on_word bytes)
plain-longest bytes zero h is = absurd is
plain-longest [] (suc m) h is = absurd is
plain-longest (b ∷ bytes) (suc m) h is =
    (is.0, front-longest goes_on_word (b ∷ bytes) (suc m) h (begins-goes_on b is.0, is.1))

-- a run that begins as a name is one
plain-formed : (bytes : List ℕ) → begins_word (slice_index bytes 0) ≡ true →
    IsPlainName (take (prefix_len goes_on_word bytes) bytes)
plain-formed [] e = absurd cc
plain-formed (b ∷ bytes) e =
    let long : prefix_len goes_on_word (b ∷ bytes) ≡ suc (prefix_len goes_on_word bytes) =
    ap (λ t. cond t (1 + prefix_len goes_on_word bytes) 0) (begins-goes_on b e) ∙ omega arith in
    subst (λ n. IsPlainName (take n (b ∷ bytes))) (sym long) (e, front-all goes_on_word bytes)

pub name-longest : (bytes : List ℕ) (m : ℕ) → m ≤ length bytes → IsName (take m bytes) → m ≤ word_len bytes
name-longest bytes zero h is = omega arith
name-longest [] (suc m) h is = absurd (omega arith)
name-longest (b ∷ bytes) (suc m) h (inl is) =
    let there = plain-longest (b ∷ bytes) (suc m) h is in
    let long = plain-len b bytes (begins-no_dollar b there.0)
    ∙ ap (λ t. cond t (0 + prefix_len goes_on_word (b ∷ bytes)) 0) there.0 in
    omega (arith, long, there.1)
name-longest (b ∷ bytes) (suc m) h (inr is) =
    let there = plain-longest bytes m (omega arith) is.1 in
    let long = special-len b bytes (ap (λ c. c == 36) is.0)
    ∙ ap (λ t. cond t (1 + prefix_len goes_on_word bytes) 0) there.0 in
    omega (arith, long, there.1)

begun : (t : Bool) (n : ℕ) → 0 < cond t n 0 → t ≡ true
begun true n h = refl
begun false n h = absurd (omega arith)

pub name-front : (bytes : List ℕ) → 0 < word_len bytes → (word_len bytes ≤ length bytes)
    × IsName (take (word_len bytes) bytes)
name-front [] some = absurd (omega (arith, word_len-by_dollar []))
name-front (b ∷ bytes) some = by_dollar (cases_Bool (b == 36))
  where
    by_dollar : ((b == 36) ≡ true) ⊎ ((b == 36) ≡ false) → (word_len (b ∷ bytes) ≤ suc (length bytes))
        × IsName (take (word_len (b ∷ bytes)) (b ∷ bytes))
    by_dollar (inl e) =
        let first = begun (begins_word (slice_index bytes 0)) (1 + prefix_len goes_on_word bytes)
        (omega (arith, special-len b bytes e)) in
        let long : word_len (b ∷ bytes) ≡ suc (prefix_len goes_on_word bytes) =
        special-len b bytes e ∙ ap (λ t. cond t (1 + prefix_len goes_on_word bytes) 0) first ∙ omega arith in
        let inside = prefix_len-le goes_on_word bytes in (
          omega (arith, long),
          subst (λ n. IsName (take n (b ∷ bytes))) (sym long)
              (inr (dollar-is b e, plain-formed bytes first)),
        )
    by_dollar (inr e) =
        let first = begun (begins_word b) (0 + prefix_len goes_on_word (b ∷ bytes))
        (omega (arith, plain-len b bytes e)) in
        let long : word_len (b ∷ bytes) ≡ prefix_len goes_on_word (b ∷ bytes) =
        plain-len b bytes e ∙ ap (λ t. cond t (0 + prefix_len goes_on_word (b ∷ bytes)) 0) first ∙ omega arith in
        let inside = prefix_len-le goes_on_word (b ∷ bytes) in (
          omega (arith, long),
          subst (λ n. IsName (take n (b ∷ bytes))) (sym long)
              (inl (plain-formed (b ∷ bytes) first)),
        )

name-within : (bytes : List ℕ) (n : ℕ) → word_len bytes ≡ n → word_len bytes ≤ length bytes
name-within bytes zero e = omega arith
name-within bytes (suc n) e = (name-front bytes (omega arith)).0

pub names_are_longest : NamesAreLongest
names_are_longest bytes = record {
  within = name-within bytes (word_len bytes) refl;
  formed = λ some. (name-front bytes some).1;
  longest = name-longest bytes;
}
