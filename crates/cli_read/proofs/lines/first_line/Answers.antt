use Rattle.std.proofs.Common.{ℕ, ◌+◌, ◌<◌, List, ◌∷◌, length, ap, ap₂, sym, ◌∙◌, arith}
use Rattle.std.specs.Str.Lines.{lines}
use Rattle.std.proofs.lemmas.Bool.Decides.{nat_tests}
use Rattle.cli_read.proofs.TextLines.{first_line, last_line, rest_of}
use Rattle.cli_read.proofs.lines.first_line.Goals as goal

pub returns-then-at-text-clause-line : goal.returns-then-at-text-clause-line
returns-then-at-text-clause-line c =
    first_line c.args.text.now c.first_at-at.result c.first_at-at.ensures.value c.if-at-text.true
    ∙ ap₂ (λ (line rest : List ℕ). line ∷ lines rest) (sym c.without_return.ensures)
    (sym (rest_of (c.first_at-at.result + 1) c.args.text.now))

pub returns-else-at-text-clause-line : goal.returns-else-at-text-clause-line
returns-else-at-text-clause-line c =
    let some : 0 < length c.args.text.now = grind (arith, nat_tests) in
    last_line c.args.text.now c.first_at-at.result c.first_at-at.ensures.value some c.if-at-text.false
    ∙ ap (λ (rest : List ℕ). c.args.text.now ∷ lines rest) (sym (rest_of c.first_at-at.result c.args.text.now))
