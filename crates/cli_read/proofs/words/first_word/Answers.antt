use Rattle.std.proofs.Common.{ℕ, List, ◌∷◌, take, ap, sym, ◌∙◌}
use Rattle.cli_read.specs.Reading.{words_behind}
use Rattle.cli_read.proofs.CommaWords.{first_word}
use Rattle.cli_read.proofs.TextLines.{rest_of}
use Rattle.cli_read.proofs.words.first_word.Goals as goal

pub returns-clause-words : goal.returns-clause-words
returns-clause-words c =
    first_word c.args.text.now c.first_at-at.result c.first_at-at.ensures.value c.first_at-at.ensures.within
    ∙ ap (λ (rest : List ℕ). take c.first_at-at.result c.args.text.now ∷ words_behind rest)
    (sym (rest_of c.first_at-at.result c.args.text.now))
