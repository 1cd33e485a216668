-- The first line of a text, and what stands behind it.
use Rattle.std.proofs.Common.{◌≡◌, ℕ, ◌+◌, ◌-◌, ◌<◌, List, ◌∷◌, length, take, drop, ap, sym, ◌∙◌, arith, length-drop}
use Rattle.std.proofs.lemmas.List.{take_all}
use Rattle.text_scan.specs.Marks.{first_at}
use Rattle.text_scan.proofs.Pieces.{first_piece}
use Rattle.gcode_text.specs.Reading.{lines, line_feed}

pub line_there : (at : ℕ) (text : List ℕ) → at ≡ first_at line_feed text → at < length text
    → lines text ≡ take at text ∷ lines (take (length text - (at + 1)) (drop (at + 1) text))
line_there at text is more =
    let less : first_at line_feed text < length text = omega (arith, is, more) in
    let long = length-drop (at + 1) text in
    first_piece line_feed text less
    ∙ ap (λ (n : ℕ). take n text ∷ lines (drop (n + 1) text)) (sym is)
    ∙ ap (λ (rest : List ℕ). take at text ∷ lines rest)
    (sym (take_all (length text - (at + 1)) (drop (at + 1) text) (omega (arith, long))))
