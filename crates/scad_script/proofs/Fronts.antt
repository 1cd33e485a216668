-- At every status both files hold a front of the answer's bytes.
use Rattle.std.proofs.Common.{◌≡◌, ◌++◌, List, [], ◌∷◌, ℕ, false, Result, Ok, Err, inl, inr, refl, sym, ap, ◌∙◌, subst}
use Rattle.std.specs.Option.{option_map_or}
use Rattle.std.proofs.lemmas.Grind.{flat_map-append}
use Rattle.scad_fault.specs.declared.status.Status.{Status}
use Rattle.scad_io.specs.Desk.{View, side}
use Rattle.scad_io.specs.declared.desk.Out.{Out}
use Rattle.scad_io.specs.declared.desk.Out.TheVariants.{Report, Cli, Gcode}
use Rattle.scad_script.specs.declared.stop.Stop.{Stop}
use Rattle.scad_script.specs.Steps.{Step, piece_for, text_of, reading, echoing, drawing}
use Rattle.scad_script.specs.Script.{Script, Ending, Finishes, Refuses, Lacks, answer_by}
use Rattle.scad_script.specs.Names.{OnlyReads}
use Rattle.scad_script.specs.Play.{Went, Left, StopsAt, EndsIn}
use Rattle.scad_script.specs.Run.{Tells, Reports}
use Rattle.scad_script.specs.Promises.{Adds, IsFront}
use Rattle.scad_script.specs.Laws.{FilesAreFronts}
use Rattle.scad_script.proofs.Effects.{adds_nothing, adds_then, takes_adds, takes_sound, front_stands, fails_front, front_after}
use Rattle.scad_script.proofs.Order.{reading_text}

pub went_adds : (out : Out) (steps : List Step) (old now : View) → Went steps old now
    → Adds (text_of out steps) (side out old) (side out now)
went_adds out [] old now same = adds_nothing (side out old) (side out now) (ap (λ v. (side out v).bytes) same)
went_adds out (s ∷ ss) old now (mid, takes, went) =
    adds_then (piece_for out s) (text_of out ss) (side out old) (side out mid) (side out now)
    (takes_adds out s old mid takes) (went_adds out ss mid now went)

pub went_sound : (out : Out) (steps : List Step) (old now : View) → Went steps old now → (side out old).failed ≡ false
    → (side out now).failed ≡ false
went_sound out [] old now same sound = ap (λ v. (side out v).failed) same ∙ sound
went_sound out (s ∷ ss) old now (mid, takes, went) sound = went_sound out ss mid now went
    (takes_sound out s old mid takes sound)

-- a script's text is that of the steps that were taken and that of the rest
pub text_parts : (out : Out) {whole rest : Script} {old now : View} (left : Left whole rest old now)
    → text_of out left.done ++ text_of out rest.steps ≡ text_of out whole.steps
text_parts out {rest = rest} left =
    sym (flat_map-append (piece_for out) left.done rest.steps) ∙ ap (λ s. text_of out s.steps) left.parts

pub left_front : (out : Out) {whole rest : Script} {old now : View} → Left whole rest old now → (side out old).failed
    ≡ false → IsFront (text_of out whole.steps) (side out old) (side out now)
left_front out {rest = rest} {old = old} {now = now} left sound =
    let still = went_sound out left.done old now left.went sound in
    subst (λ (text : List ℕ). IsFront text (side out old) (side out now)) (text_parts out left)
    (front_after (text_of out left.done) [] (text_of out rest.steps) (side out old) (side out now) (side out now)
    (went_adds out left.done old now left.went) (front_stands [] (side out now) (side out now) still refl))

stops_front : (out : Out) (at : ℕ) (whole : Script) (old new : View) → StopsAt at whole old new → (side out old).failed
    ≡ false → IsFront (text_of out whole.steps) (side out old) (side out new)
stops_front out at whole old new (step, rest, mid, same, left, fails) sound =
    let still = went_sound out left.done old mid left.went sound in
    subst (λ (text : List ℕ). IsFront text (side out old) (side out new)) (text_parts out left)
    (front_after (text_of out left.done) (piece_for out step) (text_of out rest.steps) (side out old) (side out mid)
    (side out new)
    (went_adds out left.done old mid left.went) (fails_front out step mid new fails still))

pub ends_front : (out : Out) (whole : Script) (ended : Result (List ℕ) Stop) (old new : View)
    → EndsIn whole ended old new → (side out old).failed ≡ false → IsFront (text_of out whole.steps) (side out old)
    (side out new)
ends_front out whole (Ok line) old new left sound = left_front out left sound
ends_front out whole (Err (Stop.Ends refusal)) old new left sound = left_front out left sound
ends_front out whole (Err Stop.Read) old new stops sound = stops_front out reading whole old new stops sound
ends_front out whole (Err Stop.Silent) old new stops sound = stops_front out echoing whole old new stops sound
ends_front out whole (Err Stop.Write) old new stops sound = stops_front out drawing whole old new stops sound
ends_front out whole (Err Stop.Memory) old new (rest, left) sound = left_front out left sound

-- The last line changes the report alone.

-- a view with the report of another
abbrev pub with_report : View → View → View
with_report v other = record v { report = other.report }

tells_only : (line : List ℕ) (status result : Status) (old new : View) → Tells line status result old new
    → new ≡ with_report old new
tells_only line status result old new (inl (same, went)) = went ∙ ap (with_report old) (sym went)
tells_only line status result old new (inr (same, partly)) = partly.view ∙ ap (with_report old) (sym partly.view)

pub reports_only : (ended : Result (List ℕ) Stop) (result : Status) (old new : View) → Reports ended result old new
    → new ≡ with_report old new
reports_only (Ok line) result old new tells = tells_only _ _ result old new tells
reports_only (Err (Stop.Ends refusal)) result old new (inl tells) = tells_only _ _ result old new tells
reports_only (Err (Stop.Ends refusal)) result old new (inr tells) = tells_only _ _ result old new tells
reports_only (Err Stop.Read) result old new tells = tells_only _ _ result old new tells
reports_only (Err Stop.Silent) result old new (status, same) = same ∙ ap (with_report old) (sym same)
reports_only (Err Stop.Write) result old new tells = tells_only _ _ result old new tells
reports_only (Err Stop.Memory) result old new tells = tells_only _ _ result old new tells

-- What an orderly script's answer has is what its steps write.

pub echoes_are : (steps : List Step) (ending : Ending) → OnlyReads steps ending → text_of Report steps ≡ option_map_or
    (λ whole. whole.echoes) (answer_by steps ending) []
echoes_are steps (Finishes line) only = refl
echoes_are steps (Refuses refusal) only = refl
echoes_are steps Lacks only = reading_text Report steps only

pub cli_is : (steps : List Step) (ending : Ending) → OnlyReads steps ending → text_of Cli steps ≡ option_map_or
    (λ whole. whole.cli) (answer_by steps ending) []
cli_is steps (Finishes line) only = refl
cli_is steps (Refuses refusal) only = refl
cli_is steps Lacks only = reading_text Cli steps only

pub gcode_is : (steps : List Step) (ending : Ending) → OnlyReads steps ending → text_of Gcode steps ≡ option_map_or
    (λ whole. whole.gcode) (answer_by steps ending) []
gcode_is steps (Finishes line) only = refl
gcode_is steps (Refuses refusal) only = refl
gcode_is steps Lacks only = reading_text Gcode steps only

pub files_are_fronts : FilesAreFronts
files_are_fronts given whole status old new orderly ready (ended, mid, ends, reports) =
    let only = reports_only ended status mid new reports in
    record {
      cli = subst (λ (text : List ℕ). IsFront text old.cli new.cli) (cli_is whole.steps whole.ending orderly.lacks)
          (subst (λ v. IsFront (text_of Cli whole.steps) old.cli v) (sym (ap (λ v. v.cli) only))
          (ends_front Cli whole ended old mid ends ready.sound.cli));
      gcode = subst (λ (text : List ℕ). IsFront text old.gcode new.gcode) (gcode_is whole.steps whole.ending
          orderly.lacks)
          (subst (λ v. IsFront (text_of Gcode whole.steps) old.gcode v) (sym (ap (λ v. v.gcode) only))
          (ends_front Gcode whole ended old mid ends ready.sound.gcode));
    }
