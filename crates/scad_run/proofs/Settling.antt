-- Settings are read and judged as the script says.
use Rattle.std.proofs.Common.{◌≡◌, List, [], ◌∷◌, ℕ, Option, Some, None, Result, Ok, Err, refl, sym, ap, ◌∙◌, subst}
use Rattle.std.specs.Prelude.{IfSome, option_map, unwrap_or}
use Rattle.std.specs.Option.{option_and_then}
use Rattle.scad_fault.specs.declared.settings.SetFault.{SetFault}
use Rattle.scad_io.specs.Desk.{Files, View}
use Rattle.scad_words.specs.declared.settings.Settings.{Settings}
use Rattle.scad_words.specs.Settings.{settings_of}
use Rattle.scad_script.specs.declared.loading.Input.{Input}
use Rattle.scad_script.specs.declared.loading.Input.TheVariants.{Whole, Long}
use Rattle.scad_script.specs.declared.stop.Stop.{Stop}
use Rattle.scad_script.specs.Steps.{Step, Reads}
use Rattle.scad_script.specs.Script.{Script, Refuses, first, ends, input_of}
use Rattle.scad_script.specs.Play.{Left, Stops}
use Rattle.scad_script.proofs.Layers.{as_left}
use Rattle.scad_run.specs.Answer.{judged_script, read_script}
use Rattle.scad_run.specs.Playing.{IsJudged, Settled, Settles}

-- A file is named.

-- in every script in which this step comes next this stops it
abbrev pub StopsBefore : Step → Stop → View → View → Type 0
StopsBefore step stop old new =
    (whole rest : Script) (start : View) → Left whole (first (step ∷ []) rest) start old → Stops whole stop start new

told_text : (files : Files) (name text : List ℕ) (input : Input) → input ≡ Whole text
    → IfSome files (λ contents. option_map (input_of None) (contents name) ≡ Some input)
    → IfSome files (λ contents. Some text ≡ option_and_then contents (Some name))
told_text None name text input whole told = tt
told_text (Some contents) name text input whole told = by (contents name) told
  where
    text_of : Input → List ℕ
    text_of (Whole t) = t
    text_of Long = []

    by : (found : Option (List ℕ)) → option_map (input_of None) found ≡ Some input → Some text ≡ found
    by None same = let never : ⊥ = cc in absurd never
    by (Some t) same =
        let one : Whole t ≡ Whole text = ap (λ (o : Option Input). unwrap_or o Long) same ∙ whole in ap Some
        (sym (ap text_of one))

-- what follows the text is played, or is its refusal
judged_so : (meant : Result Settings SetFault) (result : Result Settings Stop) (follows : Settings → Script)
    (whole : Script) (start now : View)
    → IsJudged meant result → Left whole (judged_script meant follows) start now → Settled follows whole result start
    now
judged_so meant (Ok settings) follows whole start now is left = as_left (ap (λ m. judged_script m follows) is) left
judged_so meant (Err (Stop.Ends refusal)) follows whole start now (fault, same, is) left =
    as_left (ap (λ m. judged_script m follows) is ∙ ap (λ r. ends (Refuses r)) (sym same)) left
judged_so meant (Err Stop.Memory) follows whole start now is left = (judged_script meant follows, left)
judged_so meant (Err Stop.Read) follows whole start now is left = absurd is
judged_so meant (Err Stop.Write) follows whole start now is left = absurd is
judged_so meant (Err Stop.Silent) follows whole start now is left = absurd is

-- it was read whole, and judged
pub settles_by_text : (files : Files) (named : Option (List ℕ)) (name text here : List ℕ) (input : Input)
    (result : Result Settings Stop) (old new : View)
    → named ≡ Some name → input ≡ Whole text → here ≡ text
    → IfSome files (λ contents. option_map (input_of None) (contents name) ≡ Some input)
    → ((whole rest : Script) (start : View) → Left whole (first (Reads name ∷ []) rest) start old
    → Left whole rest start new)
    → IsJudged (settings_of here) result → Settles named files result old new
settles_by_text files named name text here input result old new is whole same told reads judged =
    let of_text = subst (λ (t : List ℕ). IsJudged (settings_of t) result) same judged in
    subst (λ (n : Option (List ℕ)). Settles n files result old new) (sym is)
    (record {
      read = Some text;
      told = told_text files name text input whole told;
      goes = λ follows all start left.
          judged_so (settings_of text) result follows all start new of_text
          (reads all (judged_script (settings_of text) follows) start left);
    })

-- what is there to read of a file
abbrev there : List ℕ → Files → Option (List ℕ)
there name None = None
there name (Some contents) = contents name

there_is : (name : List ℕ) (files : Files) → IfSome files (λ contents. there name files ≡ option_and_then contents
    (Some name))
there_is name None = tt
there_is name (Some contents) = refl

-- it wasn't read
pub stops_reading : (files : Files) (named : Option (List ℕ)) (name : List ℕ) (result : Result Settings Stop)
    (stop : Stop) (old new : View)
    → named ≡ Some name → StopsBefore (Reads name) stop old new → result ≡ Err stop → Settles named files result old new
stops_reading files named name result stop old new is stops same =
    subst (λ (n : Option (List ℕ)). Settles n files result old new) (sym is)
    (subst (λ (r : Result Settings Stop). Settles (Some name) files r old new) (sym same)
    (record {
      read = there name files;
      told = there_is name files;
      goes = λ follows whole start left. stops whole (read_script (there name files) follows) start left;
    }))
