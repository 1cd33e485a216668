-- Which character or escape bytes begin with depends on no byte behind it.
use Rattle.std.proofs.Common.{◌≡◌, ℕ, suc, ◌<◌, Bool, true, false, cond, ◌&&◌, ◌==◌, List, ◌++◌, length, take, Option}
use Rattle.std.proofs.Common.{Some, None, refl, ap, sym, subst, ◌∙◌, arith}
use Rattle.std.specs.Prelude.{slice_index, option_and_then, nat_lt, nat_le}
use Rattle.std.proofs.lemmas.List.{get_or-take, get_or_append_left}
use Rattle.scad_lex.specs.Character.{is_scalar, tail_at, two_tails_at, form_of, two_bytes, three_bytes, four_bytes}
use Rattle.scad_lex.specs.Character.{character_at}
use Rattle.scad_lex.specs.Escape.{digit_at, two_digits, four_digits, six_digits, coded, escape_at}
use Rattle.scad_lex.specs.StringLiteral.{element_at}

-- an element, where there is one, has so many bytes
abbrev HasSize : ℕ → Option (ℕ × ℕ) → Type 0
HasSize m None = Unit {0}
HasSize m (Some (c, n)) = n ≡ m

either_sized : (m : ℕ) (t : Bool) (c n : ℕ) → n ≡ m → HasSize m (cond t (Some (c, n)) None)
either_sized m true c n e = e
either_sized m false c n e = tt

form_sized : (least m c : ℕ) → HasSize m (form_of least m c)
unfolding form_of
form_sized least m c = either_sized m (nat_le least c && is_scalar c) c m refl

coded_sized : (limit m c : ℕ) → HasSize m (coded limit m c)
unfolding coded
coded_sized limit m c = either_sized m (nat_lt 0 c && (nat_lt c limit && is_scalar c)) c m refl

then_sized : (m : ℕ) (f : ℕ → Option (ℕ × ℕ)) (o : Option ℕ) → ((x : ℕ) → HasSize m (f x)) →
    HasSize m (option_and_then f o)
then_sized m f None all = tt
then_sized m f (Some x) all = all x

two_sized : (xs : List ℕ) → HasSize 2 (two_bytes xs)
unfolding two_bytes
two_sized xs = then_sized 2 _ (tail_at xs 1) (λ low. form_sized 0x80 2 _)

three_sized : (xs : List ℕ) → HasSize 3 (three_bytes xs)
unfolding three_bytes
three_sized xs = then_sized 3 _ (two_tails_at xs 1) (λ low. form_sized 0x800 3 _)

four_sized : (xs : List ℕ) → HasSize 4 (four_bytes xs)
unfolding four_bytes
four_sized xs = then_sized 4 _ (tail_at xs 1)
    (λ high. then_sized 4 _ (two_tails_at xs 2) (λ low. form_sized 0x1_0000 4 _))

-- the first n bytes of both are the same
abbrev pub AgreeTo : List ℕ → List ℕ → ℕ → Type 0
AgreeTo xs ys n = (k : ℕ) → k < n → slice_index xs k ≡ slice_index ys k

module _ (xs ys : List ℕ) where
  -- an element of the first, where there is one, has more than k bytes, and the second has it too if its bytes are
  -- the same
  abbrev Follows : ℕ → Option (ℕ × ℕ) → Option (ℕ × ℕ) → Type 0
  Follows k None other = Unit {0}
  Follows k (Some (c, n)) other = (k < n) × (AgreeTo xs ys n → other ≡ Some (c, n))

  lower : (k : ℕ) (o other : Option (ℕ × ℕ)) → Follows (suc k) o other → Follows k o other
  lower k None other h = tt
  lower k (Some (c, n)) other h = (omega (arith, h.0), h.1)

  sized : (k m : ℕ) (o other : Option (ℕ × ℕ)) → k < m → HasSize m o → (AgreeTo xs ys m → o ≡ other) →
      Follows k o other
  sized k m None other low size same = tt
  sized k m (Some (c, n)) other low size same =
      (omega (arith, low, size), λ agree. sym (same (subst (AgreeTo xs ys) size agree)))

  either : (k : ℕ) (t u : Bool) (o p other another : Option (ℕ × ℕ)) → ((n : ℕ) → k < n → AgreeTo xs ys n → t ≡ u)
      → Follows k o other → Follows k p another → Follows k (cond t o p) (cond u other another)
  either k true u None p other another same a b = tt
  either k true u (Some (c, n)) p other another same a b =
      (a.0, λ agree. ap (λ t. cond t other another) (sym (same n a.0 agree)) ∙ a.1 agree)
  either k false u o None other another same a b = tt
  either k false u o (Some (c, n)) other another same a b =
      (b.0, λ agree. ap (λ t. cond t other another) (sym (same n b.0 agree)) ∙ b.1 agree)

  two_same : AgreeTo xs ys 2 → two_bytes xs ≡ two_bytes ys
  unfolding two_bytes tail_at
  two_same agree = rw (agree 0 (omega arith), agree 1 (omega arith)) refl

  three_same : AgreeTo xs ys 3 → three_bytes xs ≡ three_bytes ys
  unfolding three_bytes two_tails_at tail_at
  three_same agree = rw (agree 0 (omega arith), agree 1 (omega arith), agree 2 (omega arith)) refl

  four_same : AgreeTo xs ys 4 → four_bytes xs ≡ four_bytes ys
  unfolding four_bytes two_tails_at tail_at
  four_same agree = rw (agree 0 (omega arith), agree 1 (omega arith), agree 2 (omega arith), agree 3 (omega arith))
      refl

  by_first : (n k : ℕ) (test : ℕ → Bool) → k < n → AgreeTo xs ys n → test (slice_index xs k) ≡ test (slice_index ys k)
  by_first n k test low agree = ap test (agree k low)

  character_follows : Follows 0 (character_at xs) (character_at ys)
  unfolding character_at
  character_follows =
      either 0 (nat_lt (slice_index xs 0) 0x80) (nat_lt (slice_index ys 0) 0x80) _ _ _ _
      (λ n low agree. ap (λ b. nat_lt b 0x80) (agree 0 low))
      (omega arith, λ agree. ap (λ b. Some (b, 1)) (sym (agree 0 (omega arith))))
      (either 0 (nat_lt (slice_index xs 0) 0xC0) (nat_lt (slice_index ys 0) 0xC0) _ _ _ _
      (λ n low agree. ap (λ b. nat_lt b 0xC0) (agree 0 low)) tt
      (either 0 (nat_lt (slice_index xs 0) 0xE0) (nat_lt (slice_index ys 0) 0xE0) _ _ _ _
      (λ n low agree. ap (λ b. nat_lt b 0xE0) (agree 0 low))
      (sized 0 2 (two_bytes xs) (two_bytes ys) (omega arith) (two_sized xs) two_same)
      (either 0 (nat_lt (slice_index xs 0) 0xF0) (nat_lt (slice_index ys 0) 0xF0) _ _ _ _
      (λ n low agree. ap (λ b. nat_lt b 0xF0) (agree 0 low))
      (sized 0 3 (three_bytes xs) (three_bytes ys) (omega arith) (three_sized xs) three_same)
      (either 0 (nat_lt (slice_index xs 0) 0xF8) (nat_lt (slice_index ys 0) 0xF8) _ _ _ _
      (λ n low agree. ap (λ b. nat_lt b 0xF8) (agree 0 low))
      (sized 0 4 (four_bytes xs) (four_bytes ys) (omega arith) (four_sized xs) four_same) tt))))

  two_digits_same : AgreeTo xs ys 4 → two_digits xs 2 ≡ two_digits ys 2
  unfolding two_digits digit_at
  two_digits_same agree = rw (agree 2 (omega arith), agree 3 (omega arith)) refl

  four_digits_same : AgreeTo xs ys 6 → four_digits xs 2 ≡ four_digits ys 2
  unfolding four_digits two_digits digit_at
  four_digits_same agree =
      rw (agree 2 (omega arith), agree 3 (omega arith), agree 4 (omega arith), agree 5 (omega arith)) refl

  six_digits_same : AgreeTo xs ys 8 → six_digits xs 2 ≡ six_digits ys 2
  unfolding six_digits four_digits two_digits digit_at
  six_digits_same agree =
      rw (
        agree 2 (omega arith),
        agree 3 (omega arith),
        agree 4 (omega arith),
        agree 5 (omega arith),
        agree 6
            (omega arith),
        agree 7 (omega arith),
      ) refl

  letter : (code : ℕ) (o p other another : Option (ℕ × ℕ)) → Follows 1 o other → Follows 1 p another
      → Follows 1 (cond (slice_index xs 1 == code) o p) (cond (slice_index ys 1 == code) other another)
  letter code o p other another a b =
      either 1 (slice_index xs 1 == code) (slice_index ys 1 == code) o p other another
      (λ n low agree. ap (λ b. b == code) (agree 1 low)) a b

  simple : (c : ℕ) → Follows 1 (Some (c, 2)) (Some (c, 2))
  simple c = (omega arith, λ agree. refl)

  escape_follows : Follows 1 (escape_at xs) (escape_at ys)
  unfolding escape_at
  escape_follows =
      letter 110 _ _ _ _ (simple 10)
      (letter 116 _ _ _ _ (simple 9)
      (letter 114 _ _ _ _ (simple 13) (letter 92 _ _ _ _ (simple 92) (letter 34 _ _ _ _ (simple 34)
      (letter 120 _ _ _ _
      (sized 1 4 (option_and_then (coded 128 4) (two_digits xs 2)) _ (omega arith)
      (then_sized 4 (coded 128 4) (two_digits xs 2) (coded_sized 128 4))
      (λ agree. ap (option_and_then (coded 128 4)) (two_digits_same agree)))
      (letter 117 _ _ _ _
      (sized 1 6 (option_and_then (coded 0x11_0000 6) (four_digits xs 2)) _ (omega arith)
      (then_sized 6 (coded 0x11_0000 6) (four_digits xs 2) (coded_sized 0x11_0000 6))
      (λ agree. ap (option_and_then (coded 0x11_0000 6)) (four_digits_same agree)))
      (letter 85 _ _ _ _
      (sized 1 8 (option_and_then (coded 0x11_0000 8) (six_digits xs 2)) _ (omega arith)
      (then_sized 8 (coded 0x11_0000 8) (six_digits xs 2) (coded_sized 0x11_0000 8))
      (λ agree. ap (option_and_then (coded 0x11_0000 8)) (six_digits_same agree))) tt)))))))

  element_follows : Follows 0 (element_at xs) (element_at ys)
  unfolding element_at
  element_follows =
      either 0 (slice_index xs 0 == 92) (slice_index ys 0 == 92) _ _ _ _
      (λ n low agree. ap (λ b. b == 92) (agree 0 low))
      (lower 0 (escape_at xs) (escape_at ys) escape_follows) character_follows

-- an element has a byte at least
pub element-some : (xs : List ℕ) (c n : ℕ) → element_at xs ≡ Some (c, n) → 0 < n
element-some xs c n e = (subst (λ o. Follows xs xs 0 o (element_at xs)) e (element_follows xs xs)).0

-- and stands in front of each text that has its bytes
pub element-same : (xs ys : List ℕ) (c n : ℕ) → element_at xs ≡ Some (c, n) → AgreeTo xs ys n →
    element_at ys ≡ Some (c, n)
element-same xs ys c n e agree = (subst (λ o. Follows xs ys 0 o (element_at ys)) e (element_follows xs ys)).1 agree

pub element-take : (n : ℕ) (xs : List ℕ) (c : ℕ) → element_at xs ≡ Some (c, n) → element_at (take n xs) ≡ Some (c, n)
element-take n xs c e = element-same xs (take n xs) c n e (λ k h. sym (get_or-take n xs k 0 h))

pub element-append : (xs ys : List ℕ) (c : ℕ) → element_at xs ≡ Some (c, length xs) →
    element_at (xs ++ ys) ≡ Some (c, length xs)
element-append xs ys c e = element-same xs (xs ++ ys) c (length xs) e (λ k h. sym (get_or_append_left xs ys 0 k h))
