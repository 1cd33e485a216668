-- An output is created only where it gets bytes.
use Rattle.std.proofs.Common.{◌≡◌, ◌≢◌, ◌++◌, List, [], ◌∷◌, ℕ, Bool, true, false, Option, Result, Ok, Err, inl, inr, refl, sym, ap, ◌∙◌, subst}
use Rattle.std.specs.Prelude.{if◌then◌else◌}
use Rattle.std.proofs.lemmas.List.{append-nil}
use Rattle.scad_fault.specs.declared.status.Status.{Status}
use Rattle.scad_fault.specs.declared.status.Status.TheVariants.{Done, Read, Write, Memory}
use Rattle.scad_io.specs.Desk.{Side, View, side, added}
use Rattle.scad_io.specs.declared.desk.Out.{Out}
use Rattle.scad_io.specs.declared.desk.Out.TheVariants.{Report, Cli, Gcode}
use Rattle.scad_script.specs.declared.refusal.Refusal.{Refusal}
use Rattle.scad_script.specs.declared.stop.Stop.{Stop}
use Rattle.scad_script.specs.Steps.{Step, Reads, Makes, Sends, is_same, piece_for, text_of, stage, reading}
use Rattle.scad_script.specs.Script.{Script, Ending, first, ends, refused}
use Rattle.scad_script.specs.Names.{Given, AllStand}
use Rattle.scad_script.specs.Play.{Takes, Fails, Went, Left, StopsAt, EndsIn}
use Rattle.scad_script.specs.Run.{Tells, Reports}
use Rattle.scad_script.specs.Promises.{HasBytes, CreatesForBytes}
use Rattle.scad_script.specs.Laws.{CreatedForBytes}
use Rattle.scad_script.proofs.Effects.{same_is, asked, sent_each, created_each, read_each}
use Rattle.scad_script.proofs.Order.{all_before, reading_stands}
use Rattle.scad_script.proofs.Fronts.{went_adds, with_report, reports_only}

behind_nothing : (a b : List ℕ) → b ≢ [] → a ++ b ≢ []
behind_nothing [] b some none = some none
behind_nothing (x ∷ xs) b some none = let never : ⊥ = cc in absurd never

-- an output is created by a step only where it was before, or the step creates it
marked_if : (b : Bool) (one s new : Side) → new ≡ (if b then one else s) → one.created ≡ s.created
    → new.created ≡ s.created
marked_if true one s new same first = ap (λ x. x.created) same ∙ first
marked_if false one s new same first = ap (λ x. x.created) same

sends_mark : (out o : Out) (piece : List ℕ) (old new : View) → Takes (Sends o piece) old new → (side out new).created
    ≡ (side out old).created
sends_mark out o piece old new (there, went) =
    marked_if (is_same o out) (added piece false (side out old)) (side out old) (side out new)
    (ap (side out) went ∙ sent_each out o piece false old) refl

-- a step that creates an output has its bytes behind it; a step that creates another leaves it absent
makes_filled : (out o : Out) (rest : List Step) (s new : Side) (name : Option (List ℕ)) (b : Bool) → is_same o out ≡ b
    → new ≡ (if b then asked name true false s else s) → s.created ≡ false → text_of o rest ≢ []
    → (new.created ≡ false → text_of out rest ≢ []) → text_of out rest ≢ []
makes_filled out o rest s new name true same is absent filled later = subst (λ (x : Out). text_of x rest ≢ [])
    (same_is o out same) filled
makes_filled out o rest s new name false same is absent filled later = later (ap (λ x. x.created) is ∙ absent)

-- steps that leave an output created write to it
pub went_filled : (given : Given) (out : Out) (steps : List Step) (old now : View) → AllStand given steps
    → Went steps old now → (side out old).created ≡ false → (side out now).created ≡ true → text_of out steps ≢ []
went_filled given out [] old now all same absent made =
    let was : (side out old).created ≡ true = sym (ap (λ v. (side out v).created) same) ∙ made in let never : ⊥ = cc in absurd never
went_filled given out (Reads name ∷ ss) old now all (mid, takes, went) absent made =
    went_filled given out ss mid now all.1 went (ap (λ s. s.created) (read_each out takes) ∙ absent) made
went_filled given out (Makes o name ∷ ss) old now all (mid, takes, went) absent made =
    makes_filled out o ss (side out old) (side out mid) (side out mid).name (is_same o out) refl
    (created_each out o name (Ok tt) old mid takes) absent all.0.filled
    (λ still. went_filled given out ss mid now all.1 went still made)
went_filled given out (Sends o piece ∷ ss) old now all (mid, takes, went) absent made =
    behind_nothing (piece_for out (Sends o piece)) (text_of out ss)
    (went_filled given out ss mid now all.1 went (sends_mark out o piece old mid takes ∙ absent) made)

has_bytes : (given : Given) (out : Out) (steps : List Step) (old now : View) → AllStand given steps → Went steps old now
    → (side out old).created ≡ false → HasBytes (side out old) (side out now)
has_bytes given out steps old now all went absent made =
    (text_of out steps, went_filled given out steps old now all went absent made, went_adds out steps old now went)

-- an output that was not created and stands as it was is not created
stands_absent : (old new : Side) → old.created ≡ false → new ≡ old → HasBytes old new
stands_absent old new absent same made =
    let was : old.created ≡ true = sym (ap (λ s. s.created) same) ∙ made in let never : ⊥ = cc in absurd never

-- both outputs, where all steps were taken
abbrev BothHaveBytes : View → View → Type 0
BothHaveBytes old new = HasBytes old.cli new.cli × HasBytes old.gcode new.gcode

all_filled : (given : Given) (whole : Script) (ending : Ending) (old now : View) → AllStand given whole.steps
    → old.cli.created ≡ false → old.gcode.created ≡ false → Left whole (ends ending) old now → BothHaveBytes old now
all_filled given whole ending old now all no_cli no_gcode left =
    let mine = subst (λ (s : Script). AllStand given s.steps) (sym left.parts) all in
    let went : Went (left.done ++ []) old now = subst (λ (steps : List Step). Went steps old now)
    (sym (append-nil left.done)) left.went in (
      has_bytes given Cli (left.done ++ []) old now mine went no_cli,
      has_bytes given Gcode (left.done ++ []) old now
          mine went no_gcode,
    )

-- a failed read is reported by another status than Write and Memory, and before it nothing is created
read_stands : (out : Out) (given : Given) (step : Step) (rest whole : Script) (old mid now : View)
    → stage step ≡ reading → AllStand given whole.steps → (left : Left whole (first (step ∷ []) rest) old mid)
    → Fails step mid now → side out now ≡ side out old
read_stands out given (Reads name) rest whole old mid now same all left fails =
    let before = all_before given left.done (Reads name) rest.steps (subst (λ (s : Script). AllStand given s.steps)
    (sym left.parts) all) in
    read_each out fails ∙ reading_stands out left.done old mid before left.went
read_stands out given (Makes o name) rest whole old mid now same all left fails = let never : ⊥ = cc in absurd never
read_stands out given (Sends Report piece) rest whole old mid now same all left fails = let never : ⊥ = cc in absurd never
read_stands out given (Sends Cli piece) rest whole old mid now same all left fails = let never : ⊥ = cc in absurd never
read_stands out given (Sends Gcode piece) rest whole old mid now same all left fails = let never : ⊥ = cc in absurd never

pub stops_reading : (out : Out) (given : Given) (whole : Script) (old now : View) → AllStand given whole.steps
    → StopsAt reading whole old now → side out now ≡ side out old
stops_reading out given whole old now all (step, rest, mid, same, left, fails) = read_stands out given step rest whole
    old mid now same all left fails

-- the property of a status, where the status is another
at_write : (status : Status) (old new : View) → status ≡ Write → CreatesForBytes status old new
at_write status old new same = subst (λ (s : Status). CreatesForBytes s old new) (sym same) tt

at_memory : (status : Status) (old new : View) → status ≡ Memory → CreatesForBytes status old new
at_memory status old new same = subst (λ (s : Status). CreatesForBytes s old new) (sym same) tt

at_refusal : (why : Refusal) (old new : View) → BothHaveBytes old new → CreatesForBytes (refused why) old new
at_refusal (Refusal.Source fault) old new both = both
at_refusal Refusal.Usage old new both = both
at_refusal (Refusal.Settings fault) old new both = both
at_refusal (Refusal.Over budget) old new both = both
at_refusal (Refusal.Outside number line) old new both = both
at_refusal (Refusal.BadFile kind first second) old new both = both

tells_filled : (line : List ℕ) (is status : Status) (old mid new : View) → CreatesForBytes is old new
    → Tells line is status mid new → CreatesForBytes status old new
tells_filled line is status old mid new filled (inl (same, went)) = subst (λ (s : Status). CreatesForBytes s old new)
    (sym same) filled
tells_filled line is status old mid new filled (inr (same, partly)) = at_write status old new same

-- what the last line leaves
both_after : (old mid new : View) → new ≡ with_report mid new → BothHaveBytes old mid → BothHaveBytes old new
both_after old mid new only both = (
  subst (HasBytes old.cli) (sym (ap (λ v. v.cli) only)) both.0,
  subst (HasBytes old.gcode) (sym (ap (λ v. v.gcode) only)) both.1,
)

filled : (given : Given) (whole : Script) (ended : Result (List ℕ) Stop) (status : Status) (old mid new : View)
    → AllStand given whole.steps → old.cli.created ≡ false → old.gcode.created ≡ false → new ≡ with_report mid new
    → EndsIn whole ended old mid → Reports ended status mid new → CreatesForBytes status old new
filled given whole (Ok line) status old mid new all no_cli no_gcode only left tells =
    tells_filled line Done status old mid new (both_after old mid new only (all_filled given whole _ old mid all no_cli
    no_gcode left)) tells
filled given whole (Err (Stop.Ends why)) status old mid new all no_cli no_gcode only left (inl tells) =
    tells_filled _ (refused why) status old mid new
    (at_refusal why old new (both_after old mid new only (all_filled given whole _ old mid all no_cli no_gcode left)))
    tells
filled given whole (Err (Stop.Ends why)) status old mid new all no_cli no_gcode only left (inr tells) =
    tells_filled _ Memory status old mid new tt tells
filled given whole (Err Stop.Read) status old mid new all no_cli no_gcode only stops tells =
    tells_filled _ Read status old mid new
    (both_after old mid new only (
      stands_absent old.cli mid.cli no_cli (stops_reading Cli given whole old mid all stops),
      stands_absent old.gcode mid.gcode no_gcode (stops_reading Gcode given whole old mid all stops),
    )) tells
filled given whole (Err Stop.Silent) status old mid new all no_cli no_gcode only stops (same, went) = at_write status
    old new same
filled given whole (Err Stop.Write) status old mid new all no_cli no_gcode only stops tells = tells_filled _ Write
    status old mid new tt tells
filled given whole (Err Stop.Memory) status old mid new all no_cli no_gcode only stops tells = tells_filled _ Memory
    status old mid new tt tells

pub created_for_bytes : CreatedForBytes
created_for_bytes given whole status old new orderly ready (ended, mid, ends, reports) =
    filled given whole ended status old mid new orderly.steps ready.cli ready.gcode (reports_only ended status mid new
    reports) ends reports
