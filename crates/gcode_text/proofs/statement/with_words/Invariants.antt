use Rattle.std.proofs.Common.{◌≡◌, ◌<◌, length}
use Rattle.text_scan.specs.Marks.{first_at}
use Rattle.gcode_text.specs.Reading.{words}
use Rattle.gcode_text.specs.Machine.{limited, with_words, nothing_given}
use Rattle.gcode_text.proofs.statement.with_words.Given as goal

abbrev pub invariant-words : goal.invariant-words
invariant-words l = record {
  same : with_words limited l.n l.command (words l.rest) l.given ≡ with_words limited l.n l.command (words l.fn.text)
      nothing_given;
  word : 0 < length l.rest → 0 < first_at 32 l.rest;
}

abbrev pub decreases-words : goal.decreases-words
decreases-words l = length l.rest
