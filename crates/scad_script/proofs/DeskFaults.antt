-- The statuses Read and Write: which object has failed, and what the report has.
use Rattle.std.proofs.Common.{◌≡◌, ◌≢◌, ◌≤◌, ◌++◌, List, [], ◌∷◌, ℕ, true, false, Option, Some, Result, Ok, Err, inl, inr, refl, sym, ap, ◌∙◌, subst, length, arith, length-append}
use Rattle.std.specs.Prelude.{IfSome, option_map}
use Rattle.std.proofs.lemmas.List.{append-nil, take_all, take-append-le}
use Rattle.scad_fault.specs.declared.status.Status.TheVariants.{Read, Write, Memory}
use Rattle.scad_fault.specs.Line.{line_of}
use Rattle.scad_io.specs.Desk.{Side, View, side, sent, Creates}
use Rattle.scad_io.specs.Output.{SentPartly}
use Rattle.scad_io.specs.declared.desk.Failed.{Failed}
use Rattle.scad_io.specs.declared.desk.Out.{Out}
use Rattle.scad_io.specs.declared.desk.Out.TheVariants.{Report, Cli, Gcode}
use Rattle.scad_io.proofs.Output.{side-put}
use Rattle.scad_script.specs.declared.stop.Stop.{Stop}
use Rattle.scad_script.specs.Steps.{Step, Reads, Makes, Sends, stage, text_of, reading, echoing, drawing}
use Rattle.scad_script.specs.Script.{Script, first, expected_echoes}
use Rattle.scad_script.specs.Names.{Given, name_for, IsAmong, AllFrom, AllStand, IsOrderly}
use Rattle.scad_script.specs.Play.{Fails, Left, StopsAt, EndsIn}
use Rattle.scad_script.specs.Run.{IsReady}
use Rattle.scad_script.specs.Promises.{Adds, IsReadFault, HasFailed, CutReport, IsWriteFault}
use Rattle.scad_script.proofs.Effects.{adds_then}
use Rattle.scad_script.proofs.Order.{stands_at, drawing_echoes}
use Rattle.scad_script.proofs.Fronts.{went_adds, went_sound, text_parts, with_report, echoes_are}
use Rattle.scad_script.proofs.HandOver.{IsMade, went_made, left_uses, cli_drawn, gcode_drawn}
use Rattle.scad_script.proofs.Creation.{stops_reading}
use Rattle.scad_script.proofs.AnswerStatuses.{echoed}

-- Status 4.

-- the input that failed was asked for by a name that was given
reading_fails : (given : Given) (step : Step) (rest whole : Script) (old mid now : View) → stage step ≡ reading
    → AllStand given whole.steps → Left whole (first (step ∷ []) rest) old mid → Fails step mid now
    → (now.input.failed ≡ true) × ((name : List ℕ) × IsAmong name given.input × IfSome now.input.name
    (λ told. told ≡ name))
reading_fails given (Reads name) rest whole old mid now same all left fails =
    let here = stands_at given left.done (Reads name) rest.steps (subst (λ (s : Script). AllStand given s.steps)
    (sym left.parts) all) in
    (ap (λ v. v.input.failed) fails.only, (name, here.name, fails.named))
reading_fails given (Makes o name) rest whole old mid now same all left fails = let never : ⊥ = cc in absurd never
reading_fails given (Sends Report piece) rest whole old mid now same all left fails = let never : ⊥ = cc in absurd never
reading_fails given (Sends Cli piece) rest whole old mid now same all left fails = let never : ⊥ = cc in absurd never
reading_fails given (Sends Gcode piece) rest whole old mid now same all left fails = let never : ⊥ = cc in absurd never

pub read_fault : (given : Given) (whole : Script) (old mid new : View) → AllStand given whole.steps
    → StopsAt reading whole old mid → new ≡ sent Report (line_of Read) false mid → IsReadFault given old new
read_fault given whole old mid new all stops went =
    let input = reading_fails given stops.0 stops.1 whole old stops.2 mid stops.3 all stops.4 stops.5 in
    record {
      failed = ap (λ v. v.input.failed) went ∙ input.0;
      name = input.1.0;
      meant = input.1.1;
      named = subst (λ (told : Option (List ℕ)). IfSome told (λ known. known ≡ input.1.0))
          (sym (ap (λ v. v.input.name) went)) input.1.2;
      line = ap (λ v. v.report.bytes) went ∙ ap (λ s. option_map (λ before. before ++ line_of Read) s.bytes)
          (stops_reading Report given whole old mid all stops);
      cli = ap (λ v. v.cli) went ∙ stops_reading Cli given whole old mid all stops;
      gcode = ap (λ v. v.gcode) went ∙ stops_reading Gcode given whole old mid all stops;
    }

-- Status 5.

failed_at : (given : Given) (out : Out) (name : List ℕ) (mid new : View) → new ≡ with_report mid new
    → name_for out given ≡ Some name → (side out mid).failed ≡ true → IfSome (side out mid).name (λ told. told ≡ name)
    → HasFailed given new
failed_at given Report name mid new only meant failed named = let never : ⊥ = cc in absurd never
failed_at given Cli name mid new only meant failed named =
    record {
      out = Cli;
      name = name;
      meant = meant;
      failed = ap (λ v. v.cli.failed) only ∙ failed;
      named = subst (λ (told : Option (List ℕ)). IfSome told (λ known. known ≡ name)) (sym (ap (λ v. v.cli.name) only))
          named;
    }
failed_at given Gcode name mid new only meant failed named =
    record {
      out = Gcode;
      name = name;
      meant = meant;
      failed = ap (λ v. v.gcode.failed) only ∙ failed;
      named = subst (λ (told : Option (List ℕ)). IfSome told (λ known. known ≡ name))
          (sym (ap (λ v. v.gcode.name) only)) named;
    }

-- what was sent in part had been created, under the name that was given
sends_failed : (given : Given) (o : Out) (piece : List ℕ) (start : Side) (mid now new : View)
    → new ≡ with_report now new → start.created ≡ false → (side o mid).created ≡ true → SentPartly o piece mid now
    → IsMade given o start (side o mid) → HasFailed given new
sends_failed given o piece start mid now new only absent there partly (inl stands) =
    let not_made : (side o mid).created ≡ false = ap (λ s. s.created) stands ∙ absent in let never : ⊥ = cc in absurd never
sends_failed given o piece start mid now new only absent there partly (inr (name, meant, made, named)) =
    let after = ap (side o) partly.view ∙ side-put o _ mid in
    failed_at given o name now new only meant (ap (λ s. s.failed) after)
    (subst (λ (told : Option (List ℕ)). IfSome told (λ known. known ≡ name)) (sym (ap (λ s. s.name) after)) named)

-- a step that draws failed: its output has failed, and the report stands
pub record DrawingFailed (given : Given) (step : Step) (mid now new : View) : Type 0 where
  pub failed : HasFailed given new
  pub silent : (rest : List Step) → text_of Report (step ∷ rest) ≡ text_of Report rest
  pub report : now.report ≡ mid.report

report_kept : (given : Given) (o : Out) (name : List ℕ) (r : Result (Unit {0}) Failed) (mid now : View)
    → name_for o given ≡ Some name → Creates o name r mid now → now.report ≡ mid.report
report_kept given Report name r mid now meant creates = let never : ⊥ = cc in absurd never
report_kept given Cli name r mid now meant creates = ap (λ v. v.report) creates.only
report_kept given Gcode name r mid now meant creates = ap (λ v. v.report) creates.only

pub drawing_fails : (given : Given) (step : Step) (rest whole : Script) (old mid now new : View) → stage step ≡ drawing
    → AllStand given whole.steps → IsReady old → new ≡ with_report now new → Left whole (first (step ∷ []) rest) old mid
    → Fails step mid now → DrawingFailed given step mid now new
drawing_fails given (Reads name) rest whole old mid now new same all ready only left fails = let never : ⊥ = cc in absurd never
drawing_fails given (Makes o name) rest whole old mid now new same all ready only left (e, creates) =
    let here = stands_at given left.done (Makes o name) rest.steps (subst (λ (s : Script). AllStand given s.steps)
    (sym left.parts) all) in
    record {
      failed = failed_at given o name now new only here.name
          (ap (λ s. s.failed) (ap (side o) creates.only ∙ side-put o _ mid)) creates.named;
      silent = λ rest. refl;
      report = report_kept given o name (Err e) mid now here.name creates;
    }
drawing_fails given (Sends Report piece) rest whole old mid now new same all ready only left fails = let never : ⊥ = cc in absurd never
drawing_fails given (Sends Cli piece) rest whole old mid now new same all ready only left (there, partly) =
    let made = went_made given Cli old.cli left.done old mid cli_drawn ready.cli left.went (left_uses given all left)
    (inl refl) in
    record {
      failed = sends_failed given Cli piece old.cli mid now new only ready.cli (there cli_drawn) partly made;
      silent = λ rest. refl;
      report = ap (λ v. v.report) partly.view;
    }
drawing_fails given (Sends Gcode piece) rest whole old mid now new same all ready only left (there, partly) =
    let made = went_made given Gcode old.gcode left.done old mid gcode_drawn ready.gcode left.went
    (left_uses given all left) (inl refl) in
    record {
      failed = sends_failed given Gcode piece old.gcode mid now new only ready.gcode (there gcode_drawn) partly made;
      silent = λ rest. refl;
      report = ap (λ v. v.report) partly.view;
    }

pub write_fault : (given : Given) (whole : Script) (old mid new : View) → IsOrderly given whole → IsReady old
    → StopsAt drawing whole old mid → new ≡ sent Report (line_of Write) false mid → IsWriteFault given whole old new
write_fault given whole old now new orderly ready (step, rest, mid, same, left, fails) went =
    let only : new ≡ with_report now new = went ∙ ap (with_report now) (sym went) in
    let drew = drawing_fails given step rest whole old mid now new same orderly.steps ready only left fails in
    let here = stands_at given left.done step rest.steps (subst (λ (s : Script). AllStand given s.steps)
    (sym left.parts) orderly.steps) in
    let behind : text_of Report rest.steps ≡ [] =
    drawing_echoes rest.steps (subst (λ (n : ℕ). AllFrom n rest.steps) same here.order)
    in
    let all : text_of Report left.done ≡ expected_echoes whole =
    sym (append-nil (text_of Report left.done))
    ∙ ap (λ text. text_of Report left.done ++ text) (sym (drew.silent rest.steps ∙ behind))
    ∙ text_parts Report left
    ∙ echoes_are whole.steps whole.ending orderly.lacks
    in
    let had : Adds (expected_echoes whole) old.report now.report =
    subst (λ (text : List ℕ). Adds text old.report now.report) all (ap (λ s. s.bytes) drew.report ∙ went_adds Report
    left.done old mid left.went)
    in
    inl (
      drew.failed,
      adds_then (expected_echoes whole) (line_of Write) old.report now.report new.report had
          (ap (λ v. v.report.bytes) went),
      ap (λ v. v.report.failed) went,
    )

-- the report failed within its echo lines
echo_failed : (step : Step) (mid now : View) → stage step ≡ echoing → Fails step mid now → now.report.failed ≡ true
echo_failed (Reads name) mid now same fails = let never : ⊥ = cc in absurd never
echo_failed (Makes o name) mid now same fails = let never : ⊥ = cc in absurd never
echo_failed (Sends Report piece) mid now same (there, partly) = ap (λ v. v.report.failed) partly.view
echo_failed (Sends Cli piece) mid now same fails = let never : ⊥ = cc in absurd never
echo_failed (Sends Gcode piece) mid now same fails = let never : ⊥ = cc in absurd never

pub silent_fault : (given : Given) (whole : Script) (old now : View) → IsOrderly given whole → old.report.failed ≡ false
    → StopsAt echoing whole old now → CutReport whole old now
silent_fault given whole old now orderly sound stops =
    let had = echoed given whole (Err Stop.Silent) old now orderly sound stops in
    let echoes = expected_echoes whole in
    let all = take_all (length echoes) echoes (omega arith) in
    let inside : had.0 ≤ length echoes = had.1.within in
    let long = length-append echoes (line_of Memory) in
    let line : length (line_of Memory) ≡ 14 = refl in
    record {
      text = echoes ++ line_of Memory;
      meant = inr (length echoes, line_of Memory, inr (inr refl), ap (λ text. text ++ line_of Memory) (sym all));
      count = had.0;
      proper = omega (arith, long, line, inside);
      part = subst (λ (text : List ℕ). Adds text old.report now.report)
          (sym (take-append-le had.0 echoes (line_of Memory) inside)) had.1.part;
      failed = echo_failed stops.0 stops.2 now stops.3 stops.5;
    }

-- A report that has not failed, unless the script stopped at it.

left_sound : (whole rest : Script) (old now : View) → old.report.failed ≡ false → Left whole rest old now
    → now.report.failed ≡ false
left_sound whole rest old now sound left = went_sound Report left.done old now left.went sound

drawing_sound : (given : Given) (whole : Script) (old now : View) → AllStand given whole.steps → IsReady old
    → StopsAt drawing whole old now → now.report.failed ≡ false
drawing_sound given whole old now all ready (step, rest, mid, same, left, fails) =
    let drew = drawing_fails given step rest whole old mid now now same all ready refl left fails in
    ap (λ s. s.failed) drew.report ∙ left_sound whole (first (step ∷ []) rest) old mid ready.sound.report left

pub report_sound : (given : Given) (whole : Script) (ended : Result (List ℕ) Stop) (old now : View)
    → IsOrderly given whole → IsReady old → EndsIn whole ended old now → ended ≢ Err Stop.Silent → now.report.failed
    ≡ false
report_sound given whole (Ok line) old now orderly ready left said = left_sound whole _ old now ready.sound.report left
report_sound given whole (Err (Stop.Ends why)) old now orderly ready left said = left_sound whole _ old now
    ready.sound.report left
report_sound given whole (Err Stop.Read) old now orderly ready stops said =
    ap (λ s. s.failed) (stops_reading Report given whole old now orderly.steps stops) ∙ ready.sound.report
report_sound given whole (Err Stop.Silent) old now orderly ready stops said = absurd (said refl)
report_sound given whole (Err Stop.Write) old now orderly ready stops said = drawing_sound given whole old now
    orderly.steps ready stops
report_sound given whole (Err Stop.Memory) old now orderly ready (rest, left) said = left_sound whole rest old now
    ready.sound.report left
