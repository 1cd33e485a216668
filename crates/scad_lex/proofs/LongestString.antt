-- A string is cut off at its closing quote, and no more bytes are one string.
use Rattle.std.proofs.Common.{◌≡◌, ℕ, zero, suc, ◌+◌, ◌<◌, ◌≤◌, true, false, ◌==◌, List, [], ◌∷◌, ◌++◌, length, take}
use Rattle.std.proofs.Common.{drop, Option, Some, None, refl, ap, sym, subst, ◌∙◌, arith, ◌⊎◌, inl, inr, append_assoc}
use Rattle.std.proofs.Common.{length-append, length-drop}
use Rattle.std.proofs.Math.Seq.{drop-append_seam, take-add}
use Rattle.std.proofs.lemmas.Bool.{cases_Bool, ne_eqb}
use Rattle.std.proofs.lemmas.Bool.Decides.{nat_tests}
use Rattle.std.proofs.lemmas.List.{length-take}
use Rattle.scad_lex.specs.declared.string_body.Quoted.{Quoted}
use Rattle.scad_lex.specs.declared.string_body.Quoted.TheVariants.{Closed, Unclosed, Broken}
use Rattle.scad_lex.specs.StringLiteral.{element_at, behind, quoted_from}
use Rattle.scad_lex.specs.Longest.{IsElement, IsQuoted, closing, element}
use Rattle.scad_lex.proofs.Elements.{element-some, element-take, element-append}
use Rattle.scad_lex.proofs.Quotes.{quoted_from-element, quoted_from-broken, quoted_from-closed}

-- what has the form of a string is read to its end, whatever stands behind it
pub quoted-read : (xs : List ℕ) → IsQuoted xs → (ys : List ℕ) → (chars : List ℕ)
    × (quoted_from 0 (xs ++ ys) ≡ Closed chars (length xs))
quoted-read _ closing ys = ([], quoted_from-closed ys)
quoted-read _ (element [] more first rest) ys = absurd (omega (arith, element-some [] first.char 0 first.whole))
quoted-read _ (element (b ∷ bs) more first rest) ys =
    let there = quoted-read more rest ys in
    let whole : element_at (b ∷ (bs ++ (more ++ ys))) ≡ Some (first.char, suc (length bs)) =
    element-append (b ∷ bs) (more ++ ys) first.char first.whole in (
      first.char ∷ there.0,
      ap (λ zs. quoted_from 0 (b ∷ zs)) (append_assoc bs more ys)
          ∙ quoted_from-element b (bs ++ (more ++ ys)) first.char (length bs) whole (ne_eqb b 34 first.no_quote)
          ∙ ap (λ zs. behind (first.char ∷ []) (suc (length bs)) (quoted_from 0 zs))
          (drop-append_seam bs (more ++ ys))
          ∙ ap (behind (first.char ∷ []) (suc (length bs))) there.1
          ∙ ap (Closed (first.char ∷ there.0)) (omega (arith, length-append bs more)),
    )

-- so many bytes in front have the form of a string
record IsFormed (bytes : List ℕ) (n : ℕ) : Type 0 where
  some : 0 < n
  within : n ≤ length bytes
  formed : IsQuoted (take n bytes)

closed-later : (c k : ℕ) (q : Quoted) (chars : List ℕ) (n : ℕ) → behind (c ∷ []) k q ≡ Closed chars n → (cs : List ℕ)
    × (m : ℕ) × (q ≡ Closed cs m) × (n ≡ k + m)
closed-later c k (Closed cs m) chars n e = (cs, m, refl, cc)
closed-later c k Unclosed chars n e = absurd cc
closed-later c k (Broken m) chars n e = absurd cc

-- what is read as a string has its form
read-formed : (long : ℕ) (bytes chars : List ℕ) (n : ℕ) → length bytes ≤ long → quoted_from 0 bytes ≡ Closed chars n →
    IsFormed bytes n
read-formed long [] chars n h e = absurd cc
read-formed zero (b ∷ rest) chars n h e = absurd (omega arith)
read-formed (suc long) (b ∷ rest) chars n h e = by_quote (cases_Bool (b == 34)) (λ xs cs m. read-formed long xs cs m)
  where
    Later : Type 0
    Later = (xs cs : List ℕ) (m : ℕ) → length xs ≤ long → quoted_from 0 xs ≡ Closed cs m → IsFormed xs m

    by_element : Later → (o : Option (ℕ × ℕ)) → element_at (b ∷ rest) ≡ o → (b == 34) ≡ false → IsFormed (b ∷ rest) n
    by_element later_formed None is other = absurd (let e2 = sym (quoted_from-broken b rest is other) ∙ e in cc)
    by_element later_formed (Some (c, zero)) is other = absurd (omega (arith, element-some (b ∷ rest) c 0 is))
    by_element later_formed (Some (c, suc k)) is other =
        let later = closed-later c (suc k) (quoted_from 0 (drop k rest)) chars n
        (sym (quoted_from-element b rest c k is other) ∙ e) in
        let there = later_formed (drop k rest) later.0 later.1 (omega (arith, length-drop k rest)) later.2 in
        let size : n ≡ suc (k + later.1) = omega (arith, later.3) in
        let inside : suc k ≤ length rest = omega (arith, there.some, there.within, length-drop k rest) in
        let long_enough : length (take k rest) ≡ k = omega (arith, length-take k rest, inside) in
        let first : IsElement (b ∷ take k rest) =
        record {
          char = c;
          whole = element-take (suc k) (b ∷ rest) c is ∙ ap (λ l. Some (c, suc l)) (sym long_enough);
          no_quote = λ quote. grind (arith, nat_tests, quote, other);
        } in
        record {
          some = omega (arith, size);
          within = omega (arith, size, there.within, length-drop k rest, inside);
          formed =
              subst IsQuoted (sym (ap (λ l. take l (b ∷ rest)) size ∙ ap (λ l. b ∷ l) (take-add k later.1 rest)))
              (element (b ∷ take k rest) (take later.1 (drop k rest)) first there.formed);
        }

    by_quote : ((b == 34) ≡ true) ⊎ ((b == 34) ≡ false) → Later → IsFormed (b ∷ rest) n
    by_quote (inr other) later_formed = by_element later_formed (element_at (b ∷ rest)) refl other
    by_quote (inl is) later_formed =
        let same : b ≡ 34 = grind (arith, nat_tests) in
        let one : Closed [] 1 ≡ Closed chars n = sym (quoted_from-closed rest)
        ∙ ap (λ x. quoted_from 0 (x ∷ rest)) (sym same) ∙ e in
        let size : n ≡ 1 = cc in
        record {
          some = omega (arith, size);
          within = omega (arith, size);
          formed = subst IsQuoted (ap (λ x. x ∷ []) (sym same) ∙ ap (λ l. take l (b ∷ rest)) (sym size)) closing;
        }

pub quoted-formed : (bytes chars : List ℕ) (n : ℕ) → quoted_from 0 bytes ≡ Closed chars n → (n ≤ length bytes)
    × IsQuoted (take n bytes)
quoted-formed bytes chars n e = let there =
    read-formed (length bytes) bytes chars n (omega arith) e in (there.within, there.formed)
