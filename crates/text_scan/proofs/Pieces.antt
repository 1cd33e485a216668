-- Pieces of a text, one by one.
use Rattle.std.proofs.Common.{◌≡◌, ℕ, ◌+◌, ◌<◌, ◌≤◌, List, [], ◌∷◌, length, take, drop, get_or, ◌==◌, arith}
use Rattle.std.proofs.lemmas.Bool.Decides.{nat_tests}
use Rattle.std.proofs.lemmas.List.Splits.{slice_split_first, slice_split_none}
use Rattle.std.proofs.lemmas.List.Sums.{passes_at_first, fails_before_first}
use Rattle.text_scan.specs.Marks.{pieces, first_at}

-- without a mark there is one piece
pub one_piece : (mark : ℕ) (text : List ℕ) → length text ≤ first_at mark text → pieces mark text ≡ text ∷ []
one_piece mark text h = slice_split_none (λ (b : ℕ). b == mark) text (λ k d l. fails_before_first (λ (b : ℕ). b == mark) text k d (omega arith))

-- the piece in front of the first mark
pub first_piece : (mark : ℕ) (text : List ℕ) → first_at mark text < length text →
    pieces mark text ≡ take (first_at mark text) text ∷ pieces mark (drop (first_at mark text + 1) text)
first_piece mark text h = slice_split_first (λ (b : ℕ). b == mark) text 0 h

-- the first mark is one
pub mark_there : (mark : ℕ) (text : List ℕ) → first_at mark text < length text → get_or text (first_at mark text) 0 ≡ mark
mark_there mark text h = let e = passes_at_first (λ (b : ℕ). b == mark) text 0 h in grind (arith, nat_tests)
