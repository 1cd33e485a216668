-- What one step does to one output.
use Rattle.std.proofs.Common.{◌≡◌, ◌+◌, ◌≤◌, ◌<◌, ◌++◌, List, [], ℕ, Bool, true, false, Option, Result, Ok, Err, is_ok, is_err, refl, sym, ap, ◌∙◌, subst, length, take, arith, length-append}
use Rattle.std.specs.Prelude.{if◌then◌else◌, option_map}
use Rattle.std.proofs.lemmas.List.{take-append-le}
use Rattle.std.proofs.Math.Seq.{take-append-add}
use Rattle.scad_io.specs.Desk.{Side, View, side, added, sent, Creates}
use Rattle.scad_io.specs.declared.desk.Failed.{Failed}
use Rattle.scad_io.specs.declared.desk.Out.{Out}
use Rattle.scad_io.specs.declared.desk.Out.TheVariants.{Report, Cli, Gcode}
use Rattle.scad_script.specs.Steps.{Step, Reads, Makes, Sends, is_same, piece_for}
use Rattle.scad_script.specs.Play.{UsesInput, Takes, Fails}
use Rattle.scad_script.specs.Promises.{Adds, IsFront}
use Rattle.scad_io.proofs.Output.{appended-nothing, appended-twice}

pub same_is : (o out : Out) → is_same o out ≡ true → o ≡ out
same_is Report Report same = refl
same_is Report Cli same = let never : ⊥ = cc in absurd never
same_is Report Gcode same = let never : ⊥ = cc in absurd never
same_is Cli Report same = let never : ⊥ = cc in absurd never
same_is Cli Cli same = refl
same_is Cli Gcode same = let never : ⊥ = cc in absurd never
same_is Gcode Report same = let never : ⊥ = cc in absurd never
same_is Gcode Cli same = let never : ⊥ = cc in absurd never
same_is Gcode Gcode same = refl

-- An output after each call, by whether the call was on it.

pub sent_each : (out o : Out) (piece : List ℕ) (failed : Bool) (v : View) → side out (sent o piece failed v)
    ≡ (if is_same o out then added piece failed (side out v) else side out v)
sent_each Report Report piece failed v = refl
sent_each Report Cli piece failed v = refl
sent_each Report Gcode piece failed v = refl
sent_each Cli Report piece failed v = refl
sent_each Cli Cli piece failed v = refl
sent_each Cli Gcode piece failed v = refl
sent_each Gcode Report piece failed v = refl
sent_each Gcode Cli piece failed v = refl
sent_each Gcode Gcode piece failed v = refl

-- an output that was asked for by a name, with these marks
abbrev pub asked : Option (List ℕ) → Bool → Bool → Side → Side
asked name created failed s = record s { name = name; created = created; failed = failed }

pub created_each : (out o : Out) (name : List ℕ) (r : Result (Unit {0}) Failed) (old new : View)
    → Creates o name r old new → side out new ≡ (if is_same o out then asked (side out new).name (is_ok r) (is_err r)
    (side out old) else side out old)
created_each Report Report name r old new creates = ap (λ v. v.report) creates.only
created_each Report Cli name r old new creates = ap (λ v. v.report) creates.only
created_each Report Gcode name r old new creates = ap (λ v. v.report) creates.only
created_each Cli Report name r old new creates = ap (λ v. v.cli) creates.only
created_each Cli Cli name r old new creates = ap (λ v. v.cli) creates.only
created_each Cli Gcode name r old new creates = ap (λ v. v.cli) creates.only
created_each Gcode Report name r old new creates = ap (λ v. v.gcode) creates.only
created_each Gcode Cli name r old new creates = ap (λ v. v.gcode) creates.only
created_each Gcode Gcode name r old new creates = ap (λ v. v.gcode) creates.only

pub read_each : (out : Out) {name : List ℕ} {failed : Bool} {old new : View} → UsesInput name failed old new
    → side out new ≡ side out old
read_each Report uses = ap (λ v. v.report) uses.only
read_each Cli uses = ap (λ v. v.cli) uses.only
read_each Gcode uses = ap (λ v. v.gcode) uses.only

-- Bytes after bytes.

pub adds_nothing : (old new : Side) → new.bytes ≡ old.bytes → Adds [] old new
adds_nothing old new same = same ∙ sym (appended-nothing old.bytes)

pub adds_then : (a b : List ℕ) (old mid new : Side) → Adds a old mid → Adds b mid new → Adds (a ++ b) old new
adds_then a b old mid new first next = next ∙ ap (option_map (λ before. before ++ b)) first ∙ appended-twice a b
    old.bytes

adds_if : (b : Bool) (piece : List ℕ) (failed : Bool) (s new : Side) → new ≡ (if b then added piece failed s else s)
    → Adds (if b then piece else []) s new
adds_if true piece failed s new same = ap (λ x. x.bytes) same
adds_if false piece failed s new same = adds_nothing s new (ap (λ x. x.bytes) same)

pub kept_if : (b : Bool) (name : Option (List ℕ)) (created failed : Bool) (s new : Side)
    → new ≡ (if b then asked name created failed s else s) → new.bytes ≡ s.bytes
kept_if true name created failed s new same = ap (λ x. x.bytes) same
kept_if false name created failed s new same = ap (λ x. x.bytes) same

pub takes_adds : (out : Out) (step : Step) (old new : View) → Takes step old new
    → Adds (piece_for out step) (side out old) (side out new)
takes_adds out (Reads name) old new uses = adds_nothing (side out old) (side out new)
    (ap (λ s. s.bytes) (read_each out uses))
takes_adds out (Makes o name) old new creates =
    adds_nothing (side out old) (side out new)
    (kept_if (is_same o out) (side out new).name true false (side out old) (side out new)
    (created_each out o name (Ok tt) old new creates))
takes_adds out (Sends o piece) old new (there, went) =
    adds_if (is_same o out) piece false (side out old) (side out new) (ap (side out) went ∙ sent_each out o piece false
    old)

-- An output that has not failed has not after a step.

sound_if : (b : Bool) (one s new : Side) → new ≡ (if b then one else s) → one.failed ≡ false → s.failed ≡ false
    → new.failed ≡ false
sound_if true one s new same first second = ap (λ x. x.failed) same ∙ first
sound_if false one s new same first second = ap (λ x. x.failed) same ∙ second

pub takes_sound : (out : Out) (step : Step) (old new : View) → Takes step old new → (side out old).failed ≡ false
    → (side out new).failed ≡ false
takes_sound out (Reads name) old new uses sound = ap (λ s. s.failed) (read_each out uses) ∙ sound
takes_sound out (Makes o name) old new creates sound =
    sound_if (is_same o out) (asked (side out new).name true false (side out old)) (side out old) (side out new)
    (created_each out o name (Ok tt) old new creates) refl sound
takes_sound out (Sends o piece) old new (there, went) sound =
    sound_if (is_same o out) (added piece false (side out old)) (side out old) (side out new)
    (ap (side out) went ∙ sent_each out o piece false old) refl sound

-- Fronts of a text.

pub front_nothing : (text : List ℕ) (old new : Side) → new.bytes ≡ old.bytes → (new.failed ≡ true → new.created ≡ true
    → ⊥) → IsFront text old new
front_nothing text old new same sound =
    record {
      count = 0;
      within = omega arith;
      part = adds_nothing old new same;
      proper = λ failed created. absurd (sound failed created);
    }

pub front_stands : (text : List ℕ) (old new : Side) → old.failed ≡ false → new ≡ old → IsFront text old new
front_stands text old new sound same =
    front_nothing text old new (ap (λ s. s.bytes) same)
    (λ failed created. let was : old.failed ≡ true = sym (ap (λ s. s.failed) same) ∙ failed in cc)

made_front : (b : Bool) (name : Option (List ℕ)) (s new : Side) → new ≡ (if b then asked name false true s else s)
    → s.failed ≡ false → IsFront [] s new
made_front true name s new same sound =
    front_nothing [] s new (ap (λ x. x.bytes) same) (λ failed created. let absent = ap (λ x. x.created) same in cc)
made_front false name s new same sound = front_stands [] s new sound same

sent_front : (b : Bool) (piece : List ℕ) (count : ℕ) (s new : Side) → count < length piece
    → new ≡ (if b then added (take count piece) true s else s) → s.failed ≡ false → IsFront (if b then piece else []) s
    new
sent_front true piece count s new proper same sound =
    record {
      count = count;
      within = omega (arith, proper);
      part = ap (λ x. x.bytes) same;
      proper = λ failed created.
          proper;
    }
sent_front false piece count s new proper same sound = front_stands [] s new sound same

-- where a step failed, a front of its piece went out
pub fails_front : (out : Out) (step : Step) (old new : View) → Fails step old new → (side out old).failed ≡ false
    → IsFront (piece_for out step) (side out old) (side out new)
fails_front out (Reads name) old new uses sound = front_stands [] (side out old) (side out new) sound
    (read_each out uses)
fails_front out (Makes o name) old new (e, creates) sound =
    made_front (is_same o out) (side out new).name (side out old) (side out new) (created_each out o name (Err e) old
    new creates) sound
fails_front out (Sends o piece) old new (there, partly) sound =
    sent_front (is_same o out) piece partly.count (side out old) (side out new) partly.proper
    (ap (side out) partly.view ∙ sent_each out o (take partly.count piece) true old) sound

-- a front of what comes next, behind what went out already
pub front_after : (a piece b : List ℕ) (old mid new : Side) → Adds a old mid → IsFront piece mid new
    → IsFront (a ++ (piece ++ b)) old new
front_after a piece b old mid new went front =
    let n = front.count in
    let inside : n ≤ length piece = front.within in
    let whole = length-append a (piece ++ b) in
    let more = length-append piece b in
    let part : a ++ take n piece ≡ take (length a + n) (a ++ (piece ++ b)) =
    ap (λ p. a ++ p) (sym (take-append-le n piece b inside)) ∙ sym (take-append-add a (piece ++ b) n)
    in
    record {
      count = length a + n;
      within = omega (arith, whole, more, inside);
      part = subst (λ (text : List ℕ). Adds text old new) part (adds_then a (take n piece) old mid new went front.part);
      proper = λ failed created. let proper = front.proper failed created in omega (arith, whole, more, proper);
    }
