-- Lines of a text, one by one.
use Rattle.std.proofs.Common.{◌≡◌, ℕ, Bool, false, cond, ◌+◌, ◌-◌, ◌<◌, ◌≤◌, List, [], ◌∷◌, ◌++◌, length, take, drop, ◌==◌, refl, ap, ◌∙◌, sym, subst, arith}
use Rattle.std.specs.Str.Lines.{lines, lines_of_parts, strip_carriage_return}
use Rattle.std.proofs.lemmas.Bool.Decides.{nat_tests}
use Rattle.std.proofs.lemmas.List.Splits.{length-slice_split, slice_split_at}
use Rattle.std.proofs.lemmas.List.{take_all, length-drop}
use Rattle.std.proofs.Math.ListN.{drop_of_length-le}
use Rattle.text_scan.specs.Marks.{pieces, first_at}
use Rattle.text_scan.proofs.Pieces.{one_piece, first_piece}
use Rattle.cli_read.proofs.Numbers.{Lacks}

abbrev pub feed : ℕ
feed = 10

parts_more : (line : List ℕ) (parts : List (List ℕ)) → 0 < length parts → lines_of_parts (line ∷ parts)
    ≡ strip_carriage_return line ∷ lines_of_parts parts
parts_more line [] h = absurd (omega arith)
parts_more line (next ∷ parts) h = refl

lines_more : (line rest : List ℕ) → lines_of_parts (line ∷ pieces feed rest) ≡ strip_carriage_return line ∷ lines rest
lines_more line rest = parts_more line (pieces feed rest)
    (omega (arith, length-slice_split (λ (b : ℕ). b == feed) rest))

-- a text from a place on, as code writes it
pub rest_of : (at : ℕ) (text : List ℕ) → take (length text - at) (drop at text) ≡ drop at text
rest_of at text = take_all (length text - at) (drop at text) (omega (arith, length-drop at text))

-- the line in front of the first line feed
pub first_line : (text : List ℕ) (at : ℕ) → at ≡ first_at feed text → at < length text
    → lines text ≡ strip_carriage_return (take at text) ∷ lines (drop (at + 1) text)
first_line text at is h =
    subst (λ (k : ℕ). lines text ≡ strip_carriage_return (take k text) ∷ lines (drop (k + 1) text)) (sym is)
    (ap lines_of_parts (first_piece feed text (omega arith)) ∙ lines_more (take (first_at feed text) text)
    (drop (first_at feed text + 1) text))

-- the last line, without a line feed behind it
pub last_line : (text : List ℕ) (at : ℕ) → at ≡ first_at feed text → 0 < length text → length text ≤ at
    → lines text ≡ text ∷ lines (drop at text)
last_line [] at is some h = absurd (omega arith)
last_line (c ∷ cs) at is some h =
    let longer : (length (c ∷ cs) == 0) ≡ false = grind (arith, nat_tests) in
    ap lines_of_parts (one_piece feed (c ∷ cs) (omega arith))
    ∙ ap (λ (b : Bool). cond b [] ((c ∷ cs) ∷ [])) longer
    ∙ ap (λ (rest : List ℕ). (c ∷ cs) ∷ lines rest) (sym (drop_of_length-le (c ∷ cs) h))

-- a line that ends with a line feed alone
pub line_fed : (line rest : List ℕ) → Lacks feed line → strip_carriage_return line ≡ line → lines (line ++ feed ∷ rest)
    ≡ line ∷ lines rest
line_fed line rest lacks kept =
    ap lines_of_parts (slice_split_at (λ (b : ℕ). b == feed) line feed rest lacks refl)
    ∙ lines_more line rest
    ∙ ap (λ (l : List ℕ). l ∷ lines rest) kept
