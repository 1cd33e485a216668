-- By its own outlines the moves of a print that extrude stay inside.
use Rattle.std.proofs.Common.{◌≡◌, ◌⊎◌, inl, inr, ℕ, ◌*◌, ◌≤◌, true, List, length, refl, sym, ap, ◌∙◌, subst, arith, Result, Ok, Err}
use Rattle.std.specs.List.{AllByRecursion}
use Rattle.std.proofs.lemmas.List.{length-map}
use Rattle.std.proofs.lemmas.List.Elements.{All-from_recursion, All-weaker, recursion_from_All}
use Rattle.scad_geom.specs.Limits.{coordinate_limit}
use Rattle.plan_layer.specs.Clearance.{PlansKeepClear}
use Rattle.scad_words.specs.declared.settings.Settings.{Settings}
use Rattle.scad_words.specs.Settings.{AreInRange}
use Rattle.scad_tree.specs.Solid.{Solid}
use Rattle.scad_tree.specs.Solids.{AreSolids}
use Rattle.slice_work.specs.Part.{Layout}
use Rattle.slice_work.specs.Rates.{rates_of}
use Rattle.cli_text.specs.Cli.{Layer}
use Rattle.cli_read.specs.Form.{Reads}
use Rattle.cli_read.specs.Laws.{TextsSayOneList}
use Rattle.gcode_text.specs.declared.machine.Move.{Move}
use Rattle.gcode_text.specs.Machine.{machine}
use Rattle.plan_verify.specs.declared.verdict.Verdict.{Verdict}
use Rattle.plan_verify.specs.declared.verdict.Verdict.TheVariants.{Inside}
use Rattle.plan_verify.specs.declared.verdict.VerifyFault.{VerifyFault}
use Rattle.plan_verify.specs.declared.verdict.VerifyFault.TheVariants.{Memory, UnknownWord, BadNumber}
use Rattle.plan_verify.specs.Stays.{Stays}
use Rattle.plan_verify.specs.Verdict as told
use Rattle.plan_verify.specs.Verdict.{Told, AllDo, program_moves}
use Rattle.print_laws.specs.Print.{all_outlines, all_printed, written, extruding, sides_from, StaysInside, IsPrintOf}
use Rattle.print_laws.specs.Laws.{PlansArePrintable}
use Rattle.print_laws.proofs.Prints.{are_planned}
use Rattle.print_laws.proofs.Supports.{SupportLaws}
use Rattle.verdict_laws.specs.Opinion.{Opinion, IsOpinion, Answers}
use Rattle.verdict_laws.specs.Laws.{VerdictsAreOpinions}
use Rattle.verdict_laws.specs.OwnOutlines.{file_limit, plan_moves, PrintsStayInside, PrintsAreAnsweredInside}
use Rattle.verdict_laws.proofs.Heights.{layers_in_range}
use Rattle.verdict_laws.proofs.Programs.{HasRange}
use Rattle.verdict_laws.proofs.MoveLines.{program_told}
use Rattle.verdict_laws.proofs.Extruding.{moves_in, all_do, extruding_told, along_length, sides_length}
use Rattle.verdict_laws.proofs.Inside.{stays}
use Rattle.verdict_laws.proofs.Ranges.{has_range}

-- ---- what is told of a print's program
module _ (laws : SupportLaws) (clear : PlansKeepClear) (printable : PlansArePrintable) (s : Settings) (tree : Solid)
    (cli gcode : List ℕ) (print : IsPrintOf s tree cli gcode) (solids : AreSolids tree) (range : AreInRange s)
    (short : length gcode ≤ file_limit) where
  some : 1 ≤ s.layer_height
  some = let least = range.layer_height.least in omega (arith, least)

  high : length print.layers * s.layer_height ≤ coordinate_limit
  high = subst (λ (n : ℕ). n * s.layer_height ≤ coordinate_limit) (sym print.planned.number)
      (layers_in_range tree s.layer_height solids some range.layer_height.most)

  known : HasRange (rates_of s) s.hot_end s.bed (all_printed print.layers)
  known = has_range clear s range print.layers printable (are_planned laws s tree print.layers solids range print.planned)
      high (subst (λ (bytes : List ℕ). length bytes ≤ file_limit) print.program.text short)

  pub told_moves : (ts : List Told) × (program_moves gcode ≡ Ok ts) × (moves_in ts ≡ print.program.moves)
  told_moves =
      let its = program_told (rates_of s) s.hot_end s.bed (all_printed print.layers) print.program.moves known
      (ap machine (sym print.program.text) ∙ print.program.made) in
      (its.0, ap program_moves print.program.text ∙ its.1, its.2)

  -- those that extrude are those of the print
  pub told_extruding : moves_in (told.extruding told_moves.0) ≡ extruding print.program.moves
  told_extruding = extruding_told told_moves.0 ∙ ap extruding told_moves.2

-- an opinion by the layers that are read is one by those that are written
pub by_written : TextsSayOneList → (s : Settings) (tree : Solid) (cli gcode : List ℕ)
    (print : IsPrintOf s tree cli gcode) (layers : List Layer) (opinion : Opinion) → Reads cli layers
    → IsOpinion (written s.layer_height print.layers) s.line_width gcode opinion
    → IsOpinion layers s.line_width gcode opinion
by_written one s tree cli gcode print layers opinion reads is =
    subst (λ (ls : List Layer). IsOpinion ls s.line_width gcode opinion)
    (one cli (written s.layer_height print.layers) layers print.outlines.read reads) is

-- ---- without support lines
pub prints_stay_inside : SupportLaws → PlansKeepClear → PlansArePrintable → TextsSayOneList → PrintsStayInside
prints_stay_inside laws clear printable one s tree cli gcode print layers solids range none short reads =
    by_written one s tree cli gcode print layers (Ok (Inside (plan_moves print.layers))) reads
    (told_ms.0, told_ms.1, (do_all, number))
  where
    laid : List Layout
    laid = print.layers

    told_ms : (ts : List Told) × (program_moves gcode ≡ Ok ts) × (moves_in ts ≡ print.program.moves)
    told_ms = told_moves laws clear printable s tree cli gcode print solids range short

    StaysIfExtruding : Move → Type 0
    StaysIfExtruding m = m.extruding ≡ true → Stays (written s.layer_height laid) s.line_width m

    inside : AllByRecursion StaysIfExtruding (moves_in told_ms.0)
    inside =
        subst (AllByRecursion StaysIfExtruding) (sym told_ms.2)
        (recursion_from_All StaysIfExtruding print.program.moves
        (All-weaker (λ (m : Move). m.extruding ≡ true → StaysInside s (all_outlines laid) m) StaysIfExtruding
        (λ m p extrudes. stays s laid m (p extrudes)) print.program.moves (print.program.inside none)))

    do_all : AllDo (Stays (written s.layer_height laid) s.line_width) (told.extruding told_ms.0)
    do_all = All-from_recursion (λ (t : Told). Stays (written s.layer_height laid) s.line_width t.move)
        (told.extruding told_ms.0) (all_do (Stays (written s.layer_height laid) s.line_width) told_ms.0 inside)

    number : plan_moves laid ≡ length (told.extruding told_ms.0)
    number =
        sym (sym (length-map (told.extruding told_ms.0) (λ (t : Told). t.move))
        ∙ ap length (told_extruding laws clear printable s tree cli gcode print solids range short
        ∙ print.program.extruded)
        ∙ along_length (rates_of s) 0 (sides_from s.layer_height 0 (all_printed laid))
        ∙ sides_length s.layer_height 0 (all_printed laid))

-- the verdict of an opinion that has one
abbrev verdict_or : Verdict → Opinion → Verdict
verdict_or other (Ok verdict) = verdict
verdict_or other (Err fault) = other

-- so what a judgement answers is this, unless memory is wanting
pub answered_so : (verdict : Verdict) (r : Result Verdict VerifyFault) → Answers r (Ok verdict)
    → (r ≡ Err Memory) ⊎ (r ≡ Ok verdict)
answered_so verdict r answer = by_answer r answer
  where
    opinion : Opinion
    opinion = Ok verdict

    other : (fault : VerifyFault) → (fault ≡ Memory → ⊥) → Answers (Err fault) opinion → ⊥
    other fault known answer =
        let why = answer known in let refused : opinion ≡ Err why.0 = why.1 in let never : ⊥ = cc in never

    by_answer : (r : Result Verdict VerifyFault) → Answers r opinion → (r ≡ Err Memory) ⊎ (r ≡ Ok verdict)
    by_answer (Ok v) answer = inr (ap Ok (ap (verdict_or v) (sym answer)))
    by_answer (Err Memory) answer = inl refl
    by_answer (Err (UnknownWord line)) answer = absurd (other (UnknownWord line) (λ e. absurd (cc)) answer)
    by_answer (Err (BadNumber line)) answer = absurd (other (BadNumber line) (λ e. absurd (cc)) answer)

pub prints_are_answered : VerdictsAreOpinions → PrintsStayInside → PrintsAreAnsweredInside
prints_are_answered answered inside s tree cli gcode print layers verdict solids range none short reads judged =
    answered_so (Inside (plan_moves print.layers)) verdict
    (answered layers s.line_width gcode verdict (Ok (Inside (plan_moves print.layers))) judged
    (inside s tree cli gcode print layers solids range none short reads))
