-- What is found in front of a text is the longest piece that it begins with.
use Rattle.std.proofs.Common.{◌≡◌, ℕ, zero, suc, ◌≤◌, List, [], ◌∷◌, length, take, drop, Some, None, refl, ap, sym}
use Rattle.std.proofs.Common.{subst, ◌∙◌, arith}
use Rattle.std.proofs.lemmas.List.{take-append-drop, length-take}
use Rattle.scad_num.specs.Literal.{literal_len}
use Rattle.scad_lex.specs.declared.front.Front.{Front}
use Rattle.scad_lex.specs.declared.front.Front.TheVariants.{Gap, Cut, Bad, TooLarge}
use Rattle.scad_lex.specs.Front.{front_of}
use Rattle.scad_lex.specs.Longest.{IsPiece, taken, PiecesAreLongest, NoPieceIsMissed}
use Rattle.scad_lex.proofs.PieceFits.{Fits, piece-fits}
use Rattle.scad_lex.proofs.PieceForm.{Formed, IsFound, front-formed}

found : (bytes : List ℕ) (front : Front) (n : ℕ) → Formed bytes front → taken bytes front ≡ Some n → IsFound bytes n
found bytes (Gap m) n is e = let same : m ≡ n = cc in subst (IsFound bytes) same is
found bytes (Cut kind m) n is e = let same : m ≡ n = cc in subst (IsFound bytes) same is
found bytes TooLarge n is e = let same : literal_len bytes ≡ n = cc in subst (IsFound bytes) same is
found bytes (Bad m) n is e = absurd cc

no_longer : (bytes : List ℕ) (front : Front) (m n : ℕ) → Fits bytes m front → taken bytes front ≡ Some n → m ≤ n
no_longer bytes (Gap k) m n fits e = let same : k ≡ n = cc in omega arith
no_longer bytes (Cut kind k) m n fits e = let same : k ≡ n = cc in omega arith
no_longer bytes TooLarge m n fits e = let same : literal_len bytes ≡ n = cc in omega arith
no_longer bytes (Bad k) m n fits e = absurd cc

fits-in_front : (bytes : List ℕ) (m : ℕ) → IsPiece (take m bytes) →
    Fits bytes (length (take m bytes)) (front_of bytes)
fits-in_front bytes m is =
    subst (λ b. Fits b (length (take m bytes)) (front_of b)) (take-append-drop m bytes)
    (piece-fits (take m bytes) is (drop m bytes))

pub pieces_are_longest : PiecesAreLongest
pieces_are_longest bytes n e =
    let there = found bytes (front_of bytes) n (front-formed bytes) e in (
      there.some,
      record {
        within = there.within;
        formed = λ some. there.formed;
        longest = λ m h is. let fits =
            no_longer bytes (front_of bytes) (length (take m bytes)) n (fits-in_front bytes m is) e in omega
            (arith, fits, length-take m bytes);
      },
    )

missed : (bytes : List ℕ) (front : Front) (m : ℕ) → taken bytes front ≡ None →
    Fits bytes (length (take m bytes)) front
    → (take (length (take m bytes)) bytes ≡ 47 ∷ []) × (take 2 bytes ≡ 47 ∷ 42 ∷ [])
missed bytes (Gap k) m e fits = absurd cc
missed bytes (Cut kind k) m e fits = absurd cc
missed bytes TooLarge m e fits = absurd cc
missed bytes (Bad k) m e fits = fits

-- as many bytes as the first m bytes are are they
same : (m : ℕ) (bytes : List ℕ) → take (length (take m bytes)) bytes ≡ take m bytes
same zero bytes = refl
same (suc m) [] = refl
same (suc m) (b ∷ bytes) = ap (λ bs. b ∷ bs) (same m bytes)

pub no_piece_is_missed : NoPieceIsMissed
no_piece_is_missed bytes e m is =
    let there = missed bytes (front_of bytes) m e (fits-in_front bytes m is) in
    (sym (same m bytes) ∙ there.0, there.1)
