-- What a report has when its last line comes, and the statuses that answer.
use Rattle.std.proofs.Common.{◌≡◌, ◌+◌, ◌≤◌, ◌++◌, List, [], ℕ, false, Result, inl, inr, refl, sym, ap, ◌∙◌, subst, length, take, arith, length-append}
use Rattle.std.proofs.lemmas.List.{append-nil}
use Rattle.std.proofs.Math.Seq.{take-append-add}
use Rattle.scad_fault.specs.declared.status.Status.TheVariants.{Done}
use Rattle.scad_fault.specs.Line.{line_of}
use Rattle.scad_io.specs.Desk.{View, sent}
use Rattle.scad_io.specs.Output.{SentPartly}
use Rattle.scad_io.specs.declared.desk.Out.TheVariants.{Report, Cli, Gcode}
use Rattle.scad_script.specs.declared.refusal.Refusal.{Refusal}
use Rattle.scad_script.specs.declared.stop.Stop.{Stop}
use Rattle.scad_script.specs.Steps.{Step, text_of}
use Rattle.scad_script.specs.Script.{Script, Ending, Finishes, Refuses, ends, refused, expected_echoes}
use Rattle.scad_script.specs.Names.{Given, IsOrderly}
use Rattle.scad_script.specs.Play.{Went, Left, EndsIn}
use Rattle.scad_script.specs.Promises.{Adds, IsAnswered, IsFaultLine, IsReport, CutReport, Promised}
use Rattle.scad_script.proofs.Effects.{adds_then}
use Rattle.scad_script.proofs.Fronts.{went_adds, ends_front, echoes_are}

-- What the report has before its last line.

-- a front of the echo lines is there
pub record Echoed (whole : Script) (count : ℕ) (old now : View) : Type 0 where
  pub within : count ≤ length (expected_echoes whole)
  pub part : Adds (take count (expected_echoes whole)) old.report now.report

pub echoed : (given : Given) (whole : Script) (ended : Result (List ℕ) Stop) (old now : View) → IsOrderly given whole
    → old.report.failed ≡ false → EndsIn whole ended old now → (n : ℕ) × Echoed whole n old now
echoed given whole ended old now orderly sound ends =
    let front = ends_front Report whole ended old now ends sound in
    let same = echoes_are whole.steps whole.ending orderly.lacks in (
      front.count,
      record {
        within = subst (λ (text : List ℕ). front.count ≤ length text) same front.within;
        part = subst (λ (text : List ℕ). Adds (take front.count text) old.report now.report) same front.part;
      },
    )

-- a line went to the report in part, behind what it had
cut : (whole : Script) (before line : List ℕ) (old mid new : View) → IsReport whole (before ++ line)
    → Adds before old.report mid.report → SentPartly Report line mid new → CutReport whole old new
cut whole before line old mid new meant had partly =
    let n = partly.count in
    let long = length-append before line in
    let short = partly.proper in
    record {
      text = before ++ line;
      meant = meant;
      count = length before + n;
      proper = omega (arith, long, short);
      part = subst (λ (text : List ℕ). Adds text old.report new.report) (sym (take-append-add before line n))
          (adds_then before (take n line) old.report mid.report new.report had (ap (λ v. v.report.bytes) partly.view));
      failed = ap (λ v. v.report.failed) partly.view;
    }

pub cut_line : (whole : Script) (n : ℕ) (line : List ℕ) (old mid new : View) → IsFaultLine line → Echoed whole n old mid
    → SentPartly Report line mid new → CutReport whole old new
cut_line whole n line old mid new fault had partly =
    cut whole (take n (expected_echoes whole)) line old mid new (inr (n, line, fault, refl)) had.part partly

-- Every status but Read, Write and Memory.

-- where nothing is left, all steps were taken
all_went : {whole : Script} {ending : Ending} {old now : View} (left : Left whole (ends ending) old now)
    → Went (left.done ++ []) old now
all_went {old = old} {now = now} left = subst (λ (steps : List Step). Went steps old now) (sym (append-nil left.done))
    left.went

pub finished : (whole : Script) (line : List ℕ) (old mid new : View) → Left whole (ends (Finishes line)) old mid
    → new ≡ sent Report line false mid → IsAnswered whole Done old new
finished whole line old mid new left went =
    let steps = left.done ++ [] in
    let all = all_went left in
    subst (λ (w : Script). IsAnswered w Done old new) left.parts (
      refl,
      adds_then (text_of Report steps) line old.report mid.report new.report (went_adds Report steps old mid all)
          (ap (λ v. v.report.bytes) went),
      ap (λ v. v.cli.bytes) went ∙ went_adds Cli steps old mid all,
      ap (λ v. v.gcode.bytes) went ∙ went_adds Gcode steps old mid all,
    )

pub refused_whole : (whole : Script) (why : Refusal) (old mid new : View) → Left whole (ends (Refuses why)) old mid
    → new ≡ sent Report (line_of (refused why)) false mid → IsAnswered whole (refused why) old new
refused_whole whole why old mid new left went =
    let steps = left.done ++ [] in
    let all = all_went left in
    subst (λ (w : Script). IsAnswered w (refused why) old new) left.parts (
      refl,
      adds_then (text_of Report steps) (line_of (refused why)) old.report mid.report new.report
          (went_adds Report steps old mid all) (ap (λ v. v.report.bytes) went),
      ap (λ v. v.cli.bytes) went ∙ went_adds Cli steps old mid all,
      ap (λ v. v.gcode.bytes) went ∙ went_adds Gcode steps old mid all,
    )

pub finished_cut : (whole : Script) (line : List ℕ) (old mid new : View) → Left whole (ends (Finishes line)) old mid
    → SentPartly Report line mid new → CutReport whole old new
finished_cut whole line old mid new left partly =
    let steps = left.done ++ [] in
    subst (λ (w : Script). CutReport w old new) left.parts
    (cut (record { steps = steps; ending = Finishes line }) (text_of Report steps) line old mid new (inl refl)
    (went_adds Report steps old mid (all_went left)) partly)

pub refused_cut : (whole : Script) (why : Refusal) (old mid new : View) → Left whole (ends (Refuses why)) old mid
    → SentPartly Report (line_of (refused why)) mid new → CutReport whole old new
refused_cut whole why old mid new left partly =
    let steps = left.done ++ [] in
    subst (λ (w : Script). CutReport w old new) left.parts
    (cut (record { steps = steps; ending = Refuses why }) (text_of Report steps) (line_of (refused why)) old mid new
    (inl refl)
    (went_adds Report steps old mid (all_went left)) partly)

pub promised_answer : (given : Given) (whole : Script) (why : Refusal) (old new : View) → IsAnswered whole (refused why)
    old new → Promised given whole (refused why) old new
promised_answer given whole (Refusal.Source fault) old new answered = answered
promised_answer given whole Refusal.Usage old new answered = answered
promised_answer given whole (Refusal.Settings fault) old new answered = answered
promised_answer given whole (Refusal.Over budget) old new answered = answered
promised_answer given whole (Refusal.Outside number line) old new answered = answered
promised_answer given whole (Refusal.BadFile kind first second) old new answered = answered
