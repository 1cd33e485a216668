-- What stands behind a quote, element by element.
use Rattle.std.proofs.Common.{◌≡◌, ◌≢◌, ℕ, zero, suc, ◌+◌, List, [], ◌∷◌, ◌++◌, Option, Some, None, refl, ap, sym}
use Rattle.std.proofs.Common.{◌∙◌, arith, drop, append_assoc, length, ◌<◌, get_or, ◌==◌, cond, false, ◌≤◌}
use Rattle.std.proofs.Common.{length-drop, add-zero}
use Rattle.std.proofs.lemmas.List.{drop-drop, drop_all, append-nil}
use Rattle.std.proofs.lemmas.Bool.{ne_eqb}
use Rattle.scad_lex.specs.StringLiteral.{behind, others, begun, quoted_from, element_at}
use Rattle.scad_lex.specs.declared.string_body.Quoted.{Quoted}
use Rattle.scad_lex.specs.declared.string_body.Quoted.TheVariants.{Closed, Unclosed, Broken}

pub behind-behind : (xs ys : List ℕ) (m n : ℕ) (q : Quoted) →
    behind xs m (behind ys n q) ≡ behind (xs ++ ys) (m + n) q
behind-behind xs ys m n (Closed zs k) = ap (λ ws. Closed ws (m + (n + k))) (sym (append_assoc xs ys zs))
    ∙ ap (λ k. Closed ((xs ++ ys) ++ zs) k) (omega arith)
behind-behind xs ys m n Unclosed = refl
behind-behind xs ys m n (Broken k) = ap Broken (omega arith)

pub behind-nothing : (q : Quoted) → behind [] 0 q ≡ q
behind-nothing (Closed zs k) = ap (λ k. Closed zs k) (omega arith)
behind-nothing Unclosed = refl
behind-nothing (Broken k) = ap Broken (omega arith)

-- the bytes of an element that has begun are gone over
pub quoted_from-skip : (n : ℕ) (bytes : List ℕ) → quoted_from n bytes ≡ behind [] n (quoted_from 0 (drop n bytes))
quoted_from-skip zero [] = refl
quoted_from-skip zero (b ∷ bytes) = sym (behind-nothing (quoted_from 0 (b ∷ bytes)))
quoted_from-skip (suc n) [] = refl
quoted_from-skip (suc n) (b ∷ bytes) =
    ap (behind [] 1) (quoted_from-skip n bytes) ∙ behind-behind [] [] 1 n (quoted_from 0 (drop n bytes))
    ∙ ap (λ k. behind [] k (quoted_from 0 (drop n bytes))) (omega arith)

-- one element at the front
pub quoted_from-element : (b : ℕ) (bytes : List ℕ) (c n : ℕ) → element_at (b ∷ bytes) ≡ Some (c, suc n) →
    (b == 34) ≡ false → quoted_from 0 (b ∷ bytes) ≡ behind (c ∷ []) (suc n) (quoted_from 0 (drop n bytes))
quoted_from-element b bytes c n is other =
    ap (λ e. begun b e (quoted_from (others e) bytes)) is
    ∙ ap (λ t. cond t (Closed [] 1) (behind (c ∷ []) 1 (quoted_from n bytes))) other
    ∙ ap (behind (c ∷ []) 1) (quoted_from-skip n bytes)
    ∙ behind-behind (c ∷ []) [] 1 n (quoted_from 0 (drop n bytes))
    ∙ ap (λ k. behind (c ∷ []) k (quoted_from 0 (drop n bytes))) (omega arith)

-- no element at the front
pub quoted_from-broken : (b : ℕ) (bytes : List ℕ) → element_at (b ∷ bytes) ≡ None → (b == 34) ≡ false →
    quoted_from 0 (b ∷ bytes) ≡ Broken 0
quoted_from-broken b bytes is other =
    ap (λ e. begun b e (quoted_from (others e) bytes)) is
    ∙ ap (λ t. cond t (Closed [] 1) (Broken 0)) other

-- the closing quote at the front
pub quoted_from-closed : (bytes : List ℕ) → quoted_from 0 (34 ∷ bytes) ≡ Closed [] 1
quoted_from-closed bytes = closed (element_at (34 ∷ bytes)) (quoted_from (others (element_at (34 ∷ bytes))) bytes)
  where
    closed : (e : Option (ℕ × ℕ)) (later : Quoted) → begun 34 e later ≡ Closed [] 1
    closed None later = refl
    closed (Some (c, n)) later = refl

-- the element at the front of what is left
at_element : (rest : List ℕ) (c n : ℕ) → 0 < length rest → get_or rest 0 0 ≢ 34 → element_at rest ≡ Some (c, n) →
    0 < n → quoted_from 0 rest ≡ behind (c ∷ []) n (quoted_from 0 (drop n rest))
at_element [] c n some_byte other is some = absurd (omega arith)
at_element (b ∷ rest) c zero some_byte other is some = absurd (omega arith)
at_element (b ∷ rest) c (suc m) some_byte other is some = quoted_from-element b rest c m is (ne_eqb b 34 other)

at_broken : (rest : List ℕ) → 0 < length rest → get_or rest 0 0 ≢ 34 → element_at rest ≡ None →
    quoted_from 0 rest ≡ Broken 0
at_broken [] some_byte other is = absurd (omega arith)
at_broken (b ∷ rest) some_byte other is = quoted_from-broken b rest is (ne_eqb b 34 other)

at_quote : (rest : List ℕ) → 0 < length rest → get_or rest 0 0 ≡ 34 → quoted_from 0 rest ≡ Closed [] 1
at_quote [] some_byte is = absurd (omega arith)
at_quote (b ∷ rest) some_byte is = ap (λ x. quoted_from 0 (x ∷ rest)) is ∙ quoted_from-closed rest

-- Steps of a reader that has read these characters from the first i bytes, and has the rest before it.
module _ (bytes chars rest : List ℕ) (i : ℕ) (whole : Quoted) (at : rest ≡ drop i bytes)
    (so_far : behind chars i (quoted_from 0 (drop i bytes)) ≡ whole) where
  pub element_read : (c n : ℕ) → i < length bytes → get_or rest 0 0 ≢ 34 → element_at rest ≡ Some (c, n) → 0 < n →
      behind (chars ++ c ∷ []) (i + n) (quoted_from 0 (drop (i + n) bytes)) ≡ whole
  element_read c n below other is some =
      sym (behind-behind chars (c ∷ []) i n (quoted_from 0 (drop (i + n) bytes)))
      ∙ ap (λ r. behind chars i (behind (c ∷ []) n (quoted_from 0 r)))
      (sym (drop-drop n i bytes) ∙ ap (drop n) (sym at))
      ∙ ap (behind chars i)
      (sym (at_element rest c n (omega (arith, length-drop i bytes, ap length at)) other is some))
      ∙ ap (λ r. behind chars i (quoted_from 0 r)) at
      ∙ so_far

  pub none_read : i < length bytes → get_or rest 0 0 ≢ 34 → element_at rest ≡ None → Broken i ≡ whole
  none_read below other is =
      ap Broken (sym (add-zero i))
      ∙ ap (behind chars i) (sym (at_broken rest (omega (arith, length-drop i bytes, ap length at)) other is))
      ∙ ap (λ r. behind chars i (quoted_from 0 r)) at
      ∙ so_far

  pub quote_read : i < length bytes → get_or rest 0 0 ≡ 34 → Closed chars (i + 1) ≡ whole
  quote_read below is =
      ap (λ cs. Closed cs (i + 1)) (sym (append-nil chars))
      ∙ ap (behind chars i) (sym (at_quote rest (omega (arith, length-drop i bytes, ap length at)) is))
      ∙ ap (λ r. behind chars i (quoted_from 0 r)) at
      ∙ so_far

-- the end of the text
pub end_read : (bytes chars : List ℕ) (i : ℕ) (whole : Quoted) → length bytes ≤ i →
    behind chars i (quoted_from 0 (drop i bytes)) ≡ whole → Unclosed ≡ whole
end_read bytes chars i whole past so_far = ap (λ r. behind chars i (quoted_from 0 r)) (sym (drop_all i bytes past))
    ∙ so_far
