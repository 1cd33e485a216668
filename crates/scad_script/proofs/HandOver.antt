-- At every status the names that were handed in are those that were given.
use Rattle.std.proofs.Common.{◌≡◌, ◌≢◌, ◌⊎◌, List, [], ◌∷◌, ℕ, Bool, true, false, Option, Some, Result, Ok, Err, inl, inr, refl, sym, ap, ◌∙◌, subst}
use Rattle.std.specs.Prelude.{IfSome, if◌then◌else◌}
use Rattle.scad_io.specs.Desk.{Side, View, side, added}
use Rattle.scad_io.specs.declared.desk.Out.{Out}
use Rattle.scad_io.specs.declared.desk.Out.TheVariants.{Report, Cli, Gcode}
use Rattle.scad_io.proofs.Output.{input-put}
use Rattle.scad_script.specs.declared.stop.Stop.{Stop}
use Rattle.scad_script.specs.Steps.{Step, Reads, Makes, Sends, is_same}
use Rattle.scad_script.specs.Script.{Script}
use Rattle.scad_script.specs.Names.{Given, name_for, IsAmong, UsesGiven, AllStand}
use Rattle.scad_script.specs.Play.{IsThere, Takes, Fails, Went, Left, StopsAt, EndsIn}
use Rattle.scad_script.specs.Promises.{IsHanded, HandsIn}
use Rattle.scad_script.specs.Laws.{NamesAreGiven}
use Rattle.scad_script.proofs.Effects.{same_is, asked, sent_each, created_each, read_each}
use Rattle.scad_script.proofs.Order.{AllUseGiven, front_uses, stands_at}
use Rattle.scad_script.proofs.Fronts.{reports_only}

-- an output stands as it was, or was created under the name that was given for it
abbrev pub IsMade : Given → Out → Side → Side → Type 0
IsMade given out start now =
    (now ≡ start) ⊎ ((name : List ℕ) × (name_for out given ≡ Some name) × (now.created ≡ true) × IfSome now.name
    (λ told. told ≡ name))

-- the name that was handed in, at an output that is the same one
same_named : (o out : Out) (name : List ℕ) (v : View) → o ≡ out → IfSome (side o v).name (λ told. told ≡ name)
    → IfSome (side out v).name (λ told. told ≡ name)
same_named o out name v same named = subst (λ (x : Out). IfSome (side x v).name (λ told. told ≡ name)) same named

takes_made_if : (given : Given) (out : Out) (start s new : Side) (name : List ℕ) (b : Bool)
    → new ≡ (if b then asked new.name true false s else s) → (b ≡ true → name_for out given ≡ Some name)
    → (b ≡ true → IfSome new.name (λ told. told ≡ name)) → IsMade given out start s → IsMade given out start new
takes_made_if given out start s new name true same uses named made = inr (
  name,
  uses refl,
  ap (λ x. x.created) same,
  named refl,
)
takes_made_if given out start s new name false same uses named made = subst (IsMade given out start) (sym same) made

sends_made_if : (given : Given) (out : Out) (start s new : Side) (piece : List ℕ) (failed : Bool) (b : Bool)
    → start.created ≡ false → new ≡ (if b then added piece failed s else s) → (b ≡ true → s.created ≡ true)
    → IsMade given out start s → IsMade given out start new
sends_made_if given out start s new piece failed true absent same there (inl stands) =
    let made = there refl in let not_made : s.created ≡ false = ap (λ x. x.created) stands ∙ absent in let never : ⊥ = cc in absurd never
sends_made_if given out start s new piece failed true absent same there (inr (name, uses, made, named)) = inr (
  name,
  uses,
  ap (λ x. x.created) same ∙ made,
  subst (λ (told : Option (List ℕ)). IfSome told (λ known. known ≡ name)) (sym (ap (λ x. x.name) same)) named,
)
sends_made_if given out start s new piece failed false absent same there made = subst (IsMade given out start)
    (sym same) made

-- an output of a piece is there
same_there : (o out : Out) (v : View) → out ≢ Report → IsThere o v → is_same o out ≡ true → (side out v).created ≡ true
same_there o out v drawn there same = subst (λ (x : Out). IsThere x v) (same_is o out same) there drawn

takes_made : (given : Given) (out : Out) (start : Side) (step : Step) (old new : View) → out ≢ Report
    → start.created ≡ false → Takes step old new → UsesGiven given step → IsMade given out start (side out old)
    → IsMade given out start (side out new)
takes_made given out start (Reads name) old new drawn absent takes uses made = subst (IsMade given out start)
    (sym (read_each out takes)) made
takes_made given out start (Makes o name) old new drawn absent takes uses made =
    takes_made_if given out start (side out old) (side out new) name (is_same o out) (created_each out o name (Ok tt)
    old new takes)
    (λ same. ap (λ x. name_for x given) (sym (same_is o out same)) ∙ uses)
    (λ same. same_named o out name new (same_is o out same) takes.named) made
takes_made given out start (Sends o piece) old new drawn absent (there, went) uses made =
    sends_made_if given out start (side out old) (side out new) piece false (is_same o out) absent
    (ap (side out) went ∙ sent_each out o piece false old)
    (same_there o out old drawn there) made

pub went_made : (given : Given) (out : Out) (start : Side) (steps : List Step) (old now : View) → out ≢ Report
    → start.created ≡ false → Went steps old now → AllUseGiven given steps → IsMade given out start (side out old)
    → IsMade given out start (side out now)
went_made given out start [] old now drawn absent same uses made = subst (IsMade given out start)
    (sym (ap (side out) same)) made
went_made given out start (s ∷ ss) old now drawn absent (mid, takes, went) uses made =
    went_made given out start ss mid now drawn absent went uses.1 (takes_made given out start s old mid drawn absent
    takes uses.0 made)

-- an output as the promise has it
handed : (given : Given) (out : Out) (start now : Side) → IsMade given out start now
    → IsHanded (λ name. name_for out given ≡ Some name) start now
handed given out start now (inl same) = inl same
handed given out start now (inr (name, uses, made, named)) = inr (name, uses, named)

asked_if : (given : Given) (out : Out) (start s new : Side) (name : List ℕ) (b : Bool)
    → new ≡ (if b then asked new.name false true s else s) → (b ≡ true → name_for out given ≡ Some name)
    → (b ≡ true → IfSome new.name (λ told. told ≡ name)) → IsMade given out start s
    → IsHanded (λ n. name_for out given ≡ Some n) start new
asked_if given out start s new name true same uses named made = inr (name, uses refl, named refl)
asked_if given out start s new name false same uses named made = handed given out start new
    (subst (IsMade given out start) (sym same) made)

pub fails_handed : (given : Given) (out : Out) (start : Side) (step : Step) (old new : View) → out ≢ Report
    → start.created ≡ false → Fails step old new → UsesGiven given step → IsMade given out start (side out old)
    → IsHanded (λ name. name_for out given ≡ Some name) start (side out new)
fails_handed given out start (Reads name) old new drawn absent fails uses made =
    handed given out start (side out new) (subst (IsMade given out start) (sym (read_each out fails)) made)
fails_handed given out start (Makes o name) old new drawn absent (e, creates) uses made =
    asked_if given out start (side out old) (side out new) name (is_same o out) (created_each out o name (Err e) old new
    creates)
    (λ same. ap (λ x. name_for x given) (sym (same_is o out same)) ∙ uses)
    (λ same. same_named o out name new (same_is o out same) creates.named) made
fails_handed given out start (Sends o piece) old new drawn absent (there, partly) uses made =
    handed given out start (side out new)
    (sends_made_if given out start (side out old) (side out new) _ true (is_same o out) absent
    (ap (side out) partly.view ∙ sent_each out o _ true old)
    (same_there o out old drawn there) made)

-- The input.

abbrev HandsInput : Given → Side → Side → Type 0
HandsInput given start now = IsHanded (λ name. IsAmong name given.input) start now

takes_input : (given : Given) (start : Side) (step : Step) (old new : View) → Takes step old new → UsesGiven given step
    → HandsInput given start old.input → HandsInput given start new.input
takes_input given start (Reads name) old new takes uses asked = inr (name, uses, takes.named)
takes_input given start (Makes o name) old new takes uses asked = subst (HandsInput given start)
    (sym (ap (λ v. v.input) takes.only ∙ input-put o _ old)) asked
takes_input given start (Sends o piece) old new (there, went) uses asked = subst (HandsInput given start)
    (sym (ap (λ v. v.input) went ∙ input-put o _ old)) asked

fails_input : (given : Given) (start : Side) (step : Step) (old new : View) → Fails step old new → UsesGiven given step
    → HandsInput given start old.input → HandsInput given start new.input
fails_input given start (Reads name) old new takes uses asked = inr (name, uses, takes.named)
fails_input given start (Makes o name) old new (e, creates) uses asked = subst (HandsInput given start)
    (sym (ap (λ v. v.input) creates.only ∙ input-put o _ old)) asked
fails_input given start (Sends o piece) old new (there, partly) uses asked = subst (HandsInput given start)
    (sym (ap (λ v. v.input) partly.view ∙ input-put o _ old)) asked

went_input : (given : Given) (start : Side) (steps : List Step) (old now : View) → Went steps old now
    → AllUseGiven given steps → HandsInput given start old.input → HandsInput given start now.input
went_input given start [] old now same uses asked = subst (HandsInput given start) (sym (ap (λ v. v.input) same)) asked
went_input given start (s ∷ ss) old now (mid, takes, went) uses asked =
    went_input given start ss mid now went uses.1 (takes_input given start s old mid takes uses.0 asked)

-- All three.

-- the steps that were taken use the names that were given
pub left_uses : (given : Given) {whole rest : Script} {old now : View} → AllStand given whole.steps
    → (left : Left whole rest old now) → AllUseGiven given left.done
left_uses given {rest = rest} all left =
    front_uses given left.done rest.steps (subst (λ (s : Script). AllStand given s.steps) (sym left.parts) all)

-- no output but the report
pub cli_drawn : Cli ≢ Report
cli_drawn same = let never : ⊥ = cc in absurd never

pub gcode_drawn : Gcode ≢ Report
gcode_drawn same = let never : ⊥ = cc in absurd never

left_hands : (given : Given) (whole rest : Script) (old now : View) → AllStand given whole.steps → old.cli.created
    ≡ false → old.gcode.created ≡ false → Left whole rest old now → HandsIn given old now
left_hands given whole rest old now all no_cli no_gcode left =
    let uses = left_uses given all left in
    record {
      input = went_input given old.input left.done old now left.went uses (inl refl);
      cli = handed given Cli old.cli now.cli (went_made given Cli old.cli left.done old now cli_drawn no_cli left.went
          uses (inl refl));
      gcode = handed given Gcode old.gcode now.gcode (went_made given Gcode old.gcode left.done old now gcode_drawn
          no_gcode left.went uses (inl refl));
    }

stops_hands : (given : Given) (at : ℕ) (whole : Script) (old now : View) → AllStand given whole.steps → old.cli.created
    ≡ false → old.gcode.created ≡ false → StopsAt at whole old now → HandsIn given old now
stops_hands given at whole old now all no_cli no_gcode (step, rest, mid, same, left, fails) =
    let uses = left_uses given all left in
    let here = (stands_at given left.done step rest.steps (subst (λ (s : Script). AllStand given s.steps)
    (sym left.parts) all)).name in
    record {
      input = fails_input given old.input step mid now fails here (went_input given old.input left.done old mid
          left.went uses (inl refl));
      cli = fails_handed given Cli old.cli step mid now cli_drawn no_cli fails here
          (went_made given Cli old.cli left.done old mid cli_drawn no_cli left.went uses (inl refl));
      gcode = fails_handed given Gcode old.gcode step mid now gcode_drawn no_gcode fails here
          (went_made given Gcode old.gcode left.done old mid gcode_drawn no_gcode left.went uses (inl refl));
    }

ends_hands : (given : Given) (whole : Script) (ended : Result (List ℕ) Stop) (old now : View)
    → AllStand given whole.steps → old.cli.created ≡ false → old.gcode.created ≡ false → EndsIn whole ended old now
    → HandsIn given old now
ends_hands given whole (Ok line) old now all no_cli no_gcode left = left_hands given whole _ old now all no_cli no_gcode
    left
ends_hands given whole (Err (Stop.Ends refusal)) old now all no_cli no_gcode left = left_hands given whole _ old now all
    no_cli no_gcode left
ends_hands given whole (Err Stop.Read) old now all no_cli no_gcode stops = stops_hands given _ whole old now all no_cli
    no_gcode stops
ends_hands given whole (Err Stop.Silent) old now all no_cli no_gcode stops = stops_hands given _ whole old now all
    no_cli no_gcode stops
ends_hands given whole (Err Stop.Write) old now all no_cli no_gcode stops = stops_hands given _ whole old now all no_cli
    no_gcode stops
ends_hands given whole (Err Stop.Memory) old now all no_cli no_gcode (rest, left) = left_hands given whole rest old now
    all no_cli no_gcode left

pub names_are_given : NamesAreGiven
names_are_given given whole status old new orderly ready (ended, mid, ends, reports) =
    let only = reports_only ended status mid new reports in
    let hands = ends_hands given whole ended old mid orderly.steps ready.cli ready.gcode ends in
    record {
      input = subst (HandsInput given old.input) (sym (ap (λ v. v.input) only)) hands.input;
      cli = subst (IsHanded (λ name. given.cli ≡ Some name) old.cli) (sym (ap (λ v. v.cli) only)) hands.cli;
      gcode = subst (IsHanded (λ name. given.gcode ≡ Some name) old.gcode) (sym (ap (λ v. v.gcode) only)) hands.gcode;
    }
