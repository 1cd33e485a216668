use Rattle.std.proofs.Common.{◌<◌, ℕ, List, length, arith, sym, ap, ◌∙◌}
use Rattle.std.proofs.lemmas.List.{take_rest}
use Rattle.gcode_text.specs.Reading.{words}
use Rattle.gcode_text.specs.Machine.{limited, with_words}
use Rattle.gcode_text.proofs.Words.{refused_word, accepted_word, no_word}
use Rattle.gcode_text.proofs.statement.with_words.Goals as goal

pub returns-in-Err : goal.returns-in-Err
returns-in-Err c =
    let some : 0 < length c.words.rest.now = omega arith in
    sym (refused_word limited c.args.n c.args.command c.words.rest.now c.words.given c.in-Err.fault
    c.first_at-len.result some
    (c.words.invariant.word some) c.first_at-len.ensures.value (sym c.with_word.ensures ∙ c.in-Err.is))
    ∙ c.words.invariant.same

pub words-preserved : goal.words-preserved
words-preserved c =
    let some : 0 < length c.words.rest.now = omega arith in
    record {
      same =
          ap (λ (ws : List (List ℕ)). with_words limited c.args.n c.args.command ws c.in-Ok.next)
          (c.skip_spaces-rest-in-words.ensures.words ∙ ap words (take_rest c.words.rest.now c.first_at-len.result))
          ∙ sym (accepted_word limited c.args.n c.args.command c.words.rest.now c.words.given c.in-Ok.next
          c.first_at-len.result some
          (c.words.invariant.word some) c.first_at-len.ensures.value (sym c.with_word.ensures ∙ c.in-Ok.is))
          ∙ c.words.invariant.same;
      word = c.skip_spaces-rest-in-words.ensures.word;
    }

pub returns : goal.returns
returns c = sym (no_word limited c.args.n c.args.command c.words.rest.now c.words.given (omega arith)) ∙
    c.words.invariant.same
