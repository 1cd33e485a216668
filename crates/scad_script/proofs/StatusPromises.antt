-- Each status keeps its promise.
use Rattle.std.proofs.Common.{◌≡◌, List, ℕ, true, false, Result, Ok, Err, inl, inr, refl, sym, ap, subst, take}
use Rattle.scad_fault.specs.declared.status.Status.{Status}
use Rattle.scad_fault.specs.declared.status.Status.TheVariants.{Done, Read, Write, Memory}
use Rattle.scad_fault.specs.Line.{line_of}
use Rattle.scad_io.specs.Desk.{View, sent}
use Rattle.scad_io.specs.Output.{SentPartly}
use Rattle.scad_io.specs.declared.desk.Out.TheVariants.{Report}
use Rattle.scad_script.specs.declared.stop.Stop.{Stop}
use Rattle.scad_script.specs.Script.{Script, ends, refused, expected_echoes}
use Rattle.scad_script.specs.Names.{Given, IsOrderly}
use Rattle.scad_script.specs.Play.{EndsIn}
use Rattle.scad_script.specs.Run.{IsReady, Tells, Reports}
use Rattle.scad_script.specs.Promises.{IsFaultLine, CutReport, IsMemoryLine, Promised}
use Rattle.scad_script.specs.Laws.{StatusesKeepPromises, FailedReportsAreWrite}
use Rattle.scad_script.proofs.Effects.{adds_then}
use Rattle.scad_script.proofs.AnswerStatuses.{echoed, cut_line, finished, refused_whole, finished_cut, refused_cut, promised_answer}
use Rattle.scad_script.proofs.DeskFaults.{read_fault, write_fault, silent_fault}

-- Status 7.

memory_line : (given : Given) (whole : Script) (ended : Result (List ℕ) Stop) (old mid new : View)
    → IsOrderly given whole → old.report.failed ≡ false → EndsIn whole ended old mid
    → new ≡ sent Report (line_of Memory) false mid → IsMemoryLine whole old new
memory_line given whole ended old mid new orderly sound ends went =
    let had = echoed given whole ended old mid orderly sound ends in
    record {
      count = had.0;
      within = had.1.within;
      line = adds_then (take had.0 (expected_echoes whole)) (line_of Memory) old.report mid.report new.report had.1.part
          (ap (λ v. v.report.bytes) went);
    }

-- All statuses.

-- a promise under the status that it is about
told : (given : Given) (whole : Script) (is status : Status) (old new : View) → status ≡ is
    → Promised given whole is old new → Promised given whole status old new
told given whole is status old new same promised = subst (λ (s : Status). Promised given whole s old new) (sym same)
    promised

-- a line in place of the answer's was cut short
fault_cut : (given : Given) (whole : Script) (ended : Result (List ℕ) Stop) (line : List ℕ) (old mid new : View)
    → IsOrderly given whole → old.report.failed ≡ false → EndsIn whole ended old mid → IsFaultLine line
    → SentPartly Report line mid new → CutReport whole old new
fault_cut given whole ended line old mid new orderly sound ends fault partly =
    let had = echoed given whole ended old mid orderly sound ends in
    cut_line whole had.0 line old mid new fault had.1 partly

promised : (given : Given) (whole : Script) (ended : Result (List ℕ) Stop) (status : Status) (old mid new : View)
    → IsOrderly given whole → IsReady old → EndsIn whole ended old mid → Reports ended status mid new
    → Promised given whole status old new
promised given whole (Ok line) status old mid new orderly ready left (inl (same, went)) =
    told given whole Done status old new same (finished whole line old mid new left went)
promised given whole (Ok line) status old mid new orderly ready left (inr (same, partly)) =
    told given whole Write status old new same (inr (finished_cut whole line old mid new left partly))
promised given whole (Err (Stop.Ends why)) status old mid new orderly ready left (inl (inl (same, went))) =
    told given whole (refused why) status old new same (promised_answer given whole why old new
    (refused_whole whole why old mid new left went))
promised given whole (Err (Stop.Ends why)) status old mid new orderly ready left (inl (inr (same, partly))) =
    told given whole Write status old new same (inr (refused_cut whole why old mid new left partly))
promised given whole (Err (Stop.Ends why)) status old mid new orderly ready left (inr (inl (same, went))) =
    told given whole Memory status old new same (memory_line given whole (Err (Stop.Ends why)) old mid new orderly
    ready.sound.report left went)
promised given whole (Err (Stop.Ends why)) status old mid new orderly ready left (inr (inr (same, partly))) =
    told given whole Write status old new same (inr (fault_cut given whole (Err (Stop.Ends why)) _ old mid new orderly
    ready.sound.report left (inr (inr refl)) partly))
promised given whole (Err Stop.Read) status old mid new orderly ready stops (inl (same, went)) =
    told given whole Read status old new same (read_fault given whole old mid new orderly.steps stops went)
promised given whole (Err Stop.Read) status old mid new orderly ready stops (inr (same, partly)) =
    told given whole Write status old new same (inr (fault_cut given whole (Err Stop.Read) _ old mid new orderly
    ready.sound.report stops (inl refl) partly))
promised given whole (Err Stop.Write) status old mid new orderly ready stops (inl (same, went)) =
    told given whole Write status old new same (write_fault given whole old mid new orderly ready stops went)
promised given whole (Err Stop.Write) status old mid new orderly ready stops (inr (same, partly)) =
    told given whole Write status old new same (inr (fault_cut given whole (Err Stop.Write) _ old mid new orderly
    ready.sound.report stops (inr (inl refl)) partly))
promised given whole (Err Stop.Silent) status old mid new orderly ready stops (same, went) =
    told given whole Write status old new same
    (inr (subst (λ (v : View). CutReport whole old v) (sym went) (silent_fault given whole old mid orderly
    ready.sound.report stops)))
promised given whole (Err Stop.Memory) status old mid new orderly ready stops (inl (same, went)) =
    told given whole Memory status old new same (memory_line given whole (Err Stop.Memory) old mid new orderly
    ready.sound.report stops went)
promised given whole (Err Stop.Memory) status old mid new orderly ready stops (inr (same, partly)) =
    told given whole Write status old new same (inr (fault_cut given whole (Err Stop.Memory) _ old mid new orderly
    ready.sound.report stops (inr (inr refl)) partly))

pub statuses_keep_promises : StatusesKeepPromises
statuses_keep_promises given whole status old new orderly ready (ended, mid, ends, reports) =
    promised given whole ended status old mid new orderly ready ends reports

-- A report that has failed.

tells_write : (line : List ℕ) (is status : Status) (old new : View) → Tells line is status old new → new.report.failed
    ≡ true → status ≡ Write
tells_write line is status old new (inl (same, went)) failed =
    let sound : new.report.failed ≡ false = ap (λ v. v.report.failed) went in let never : ⊥ = cc in absurd never
tells_write line is status old new (inr (same, partly)) failed = same

reports_write : (ended : Result (List ℕ) Stop) (status : Status) (old new : View) → Reports ended status old new
    → new.report.failed ≡ true → status ≡ Write
reports_write (Ok line) status old new tells failed = tells_write _ _ status old new tells failed
reports_write (Err (Stop.Ends why)) status old new (inl tells) failed = tells_write _ _ status old new tells failed
reports_write (Err (Stop.Ends why)) status old new (inr tells) failed = tells_write _ _ status old new tells failed
reports_write (Err Stop.Read) status old new tells failed = tells_write _ _ status old new tells failed
reports_write (Err Stop.Silent) status old new (same, went) failed = same
reports_write (Err Stop.Write) status old new tells failed = tells_write _ _ status old new tells failed
reports_write (Err Stop.Memory) status old new tells failed = tells_write _ _ status old new tells failed

pub failed_reports_are_write : FailedReportsAreWrite
failed_reports_are_write given whole status old new orderly ready (ended, mid, ends, reports) = reports_write ended
    status mid new reports
