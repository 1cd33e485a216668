-- What playing the steps of a script does to a desk, and what is left of the script then.
use Rattle.std.specs.Prelude.{◌≡◌, ◌≢◌, ◌<◌, ℕ, Bool, true, false, List, [], ◌∷◌, IfSome, IfErr, Result, Ok, Err}
use Rattle.scad_io.specs.Desk.{View, side, sent, Creates}
use Rattle.scad_io.specs.Output.{SentPartly}
use Rattle.scad_io.specs.declared.desk.Out.{Out}
use Rattle.scad_io.specs.declared.desk.Out.TheVariants.{Report, Cli, Gcode}
use Rattle.scad_io.specs.declared.desk.Failed.{Failed}
use Rattle.scad_script.specs.declared.stop.Stop.{Stop}
use Rattle.scad_script.specs.Steps.{Step, Reads, Makes, Sends, stage, reading, echoing, drawing}
use Rattle.scad_script.specs.Script.{Script, Finishes, Refuses, ends, first}

-- the input was asked for by this name, and has this mark of failure; nothing else of the desk changed
pub record UsesInput (name : List ℕ) (failed : Bool) (old new : View) : Type 0 where
  pub only : new ≡ record old { input = record new.input { created = old.input.created; failed = failed } }
  pub named : IfSome new.input.name (λ told. told ≡ name)

-- an output other than the report was created
abbrev pub IsThere : Out → View → Type 0
IsThere out v = out ≢ Report → (side out v).created ≡ true

-- a step was taken
abbrev pub Takes : Step → View → View → Type 0
Takes (Reads name) old new = UsesInput name false old new
Takes (Makes out name) old new = Creates out name (Ok tt) old new
Takes (Sends out piece) old new = IsThere out old × (new ≡ sent out piece false old)

-- a step failed
abbrev pub Fails : Step → View → View → Type 0
Fails (Reads name) old new = UsesInput name true old new
Fails (Makes out name) old new = (e : Failed) × Creates out name (Err e) old new
Fails (Sends out piece) old new = IsThere out old × SentPartly out piece old new

-- the steps were taken, one after the other
abbrev pub Went : List Step → View → View → Type 0
Went [] old now = now ≡ old
Went (step ∷ steps) old now = (mid : View) × Takes step old mid × Went steps mid now

-- of a whole script this rest is left
pub record Left (whole rest : Script) (old now : View) : Type 0 where
  pub done : List Step
  pub parts : first done rest ≡ whole
  pub went : Went done old now

-- why a script stops where this output failed
abbrev pub stop_of : Out → Stop
stop_of Report = Stop.Silent
stop_of Cli = Stop.Write
stop_of Gcode = Stop.Write

-- a script stops so because an object failed
abbrev pub is_fault : Stop → Bool
is_fault (Stop.Ends refusal) = false
is_fault Stop.Read = true
is_fault Stop.Write = true
is_fault Stop.Silent = true
is_fault Stop.Memory = false

-- the next step was one of this stage, and failed
abbrev pub StopsAt : ℕ → Script → View → View → Type 0
StopsAt at whole old new =
    (step : Step) × (rest : Script) × (mid : View)
    × (stage step ≡ at) × Left whole (first (step ∷ []) rest) old mid × Fails step mid new

-- A script stopped before its end: a step failed, there was no memory for the next one, or it is refused.
abbrev pub Stops : Script → Stop → View → View → Type 0
Stops whole (Stop.Ends refusal) old new = Left whole (ends (Refuses refusal)) old new
Stops whole Stop.Read old new = StopsAt reading whole old new
Stops whole Stop.Silent old new = StopsAt echoing whole old new
Stops whole Stop.Write old new = StopsAt drawing whole old new
Stops whole Stop.Memory old new = (rest : Script) × Left whole rest old new

-- a part of a script was played, and this rest is left, or it stopped
abbrev pub Plays : {T : Type 0} → Script → Script → Result T Stop → View → View → Type 0
Plays whole rest (Ok _) old new = Left whole rest old new
Plays whole rest (Err stop) old new = Stops whole stop old new

-- In every script in which this part comes next it brings what is behind it next, or stops the script.
abbrev pub Carries : {T : Type 0} → (Script → Script) → Result T Stop → View → View → Type 0
Carries part result old new =
    (whole rest : Script) (start : View) → Left whole (part rest) start old → Plays whole rest result start new

-- the steps of a script were played to their end, with this last line to come, or it stopped
abbrev pub EndsIn : Script → Result (List ℕ) Stop → View → View → Type 0
EndsIn whole (Ok line) old new = Left whole (ends (Finishes line)) old new
EndsIn whole (Err stop) old new = Stops whole stop old new

-- In every script of which this is left it was played to its end, or stopped.
abbrev pub Completes : Script → Result (List ℕ) Stop → View → View → Type 0
Completes part result old new = (whole : Script) (start : View) → Left whole part start old → EndsIn whole result start new

-- the count of faults rose where a script stopped because an object failed
abbrev pub HasRisen : {T : Type 0} → Result T Stop → ℕ → ℕ → Type 0
HasRisen result before now = IfErr result (λ stop. is_fault stop ≡ true → before < now)
