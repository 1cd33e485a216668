use Rattle.std.proofs.Common.{ℕ, List, length, arith, sym, ap, ◌∙◌}
use Rattle.std.proofs.lemmas.List.{length-drop}
use Rattle.gcode_text.specs.Reading.{words}
use Rattle.gcode_text.proofs.Words.{words_behind_space}
use Rattle.gcode_text.proofs.scan.skip_spaces.Goals as goal

pub spaces-preserved : goal.spaces-preserved
spaces-preserved c = record {
  words = ap words c.behind_first-rest.ensures ∙ words_behind_space c.spaces.rest.now
      (sym c.byte_at.ensures ∙ c.spaces-test.true) ∙ c.spaces.invariant.words;
  shorter =
      let e = ap (λ (xs : List ℕ). length xs) c.behind_first-rest.ensures in
      let l = length-drop 1 c.spaces.rest.now in
      omega (arith, c.spaces.invariant.shorter);
}
