-- A property of the script that follows settings, by what was read of them.
use Rattle.std.proofs.Common.{◌≡◌, List, [], ◌∷◌, ℕ, Option, Some, None, Result, Ok, Err, refl, ap}
use Rattle.std.specs.Prelude.{unwrap_or}
use Rattle.scad_fault.specs.declared.settings.SetFault.{SetFault}
use Rattle.scad_words.specs.declared.settings.Settings.{Settings}
use Rattle.scad_words.specs.Settings.{settings_of, default_settings}
use Rattle.scad_script.specs.declared.refusal.Refusal.TheVariants.{Settings as IsSettings}
use Rattle.scad_script.specs.Steps.{Reads}
use Rattle.scad_script.specs.Script.{Script, Refuses, Lacks, first, ends}
use Rattle.scad_run.specs.Answer.{judged_script, settings_script}
use Rattle.scad_run.specs.Inputs.{accepted, settings_found}

judged_has : (P : Script → Type 0) (meant : Result Settings SetFault) (follows : Settings → Script)
    → ((settings : Settings) → accepted meant ≡ Some settings → P (follows settings))
    → ((fault : SetFault) → meant ≡ Err fault → P (ends (Refuses (IsSettings fault)))) → P (judged_script meant follows)
judged_has P (Ok settings) follows found refused = found settings refl
judged_has P (Err fault) follows found refused = refused fault refl

-- what holds where the settings are found, where they are refused or missing, and with one reading more
pub settings_have : (P : Script → Type 0) (name read : Option (List ℕ)) (follows : Settings → Script)
    → ((settings : Settings) → settings_found name read ≡ Some settings → P (follows settings))
    → ((file : List ℕ) (rest : Script) → name ≡ Some file → P rest → P (first (Reads file ∷ []) rest))
    → ((file : List ℕ) → name ≡ Some file → read ≡ None → P (ends Lacks))
    → ((file text : List ℕ) (fault : SetFault) → name ≡ Some file → read ≡ Some text → settings_of text ≡ Err fault
    → P (ends (Refuses (IsSettings fault))))
    → P (settings_script name read follows)
settings_have P None read follows found reads lacks refused = found default_settings refl
settings_have P (Some file) None follows found reads lacks refused = reads file (ends Lacks) refl (lacks file refl refl)
settings_have P (Some file) (Some text) follows found reads lacks refused =
    reads file (judged_script (settings_of text) follows) refl
    (judged_has P (settings_of text) follows found (λ fault is. refused file text fault refl refl is))

judged_one : (meant : Result Settings SetFault) (f g : Settings → Script)
    → ((settings : Settings) → accepted meant ≡ Some settings → f settings ≡ g settings) → judged_script meant f
    ≡ judged_script meant g
judged_one (Ok settings) f g same = same settings refl
judged_one (Err fault) f g same = refl

-- what follows alike gives one script
pub settings_one : (name read : Option (List ℕ)) (f g : Settings → Script)
    → ((settings : Settings) → settings_found name read ≡ Some settings → f settings ≡ g settings)
    → settings_script name read f ≡ settings_script name read g
settings_one None read f g same = same default_settings refl
settings_one (Some file) None f g same = refl
settings_one (Some file) (Some text) f g same = ap (λ s. first (Reads file ∷ []) s) (judged_one (settings_of text) f g
    same)

judged_ends : (meant : Result Settings SetFault) (follows : Settings → Script) (settings : Settings)
    → accepted meant ≡ Some settings
    → (judged_script meant follows).ending ≡ (follows settings).ending
judged_ends (Ok found) follows settings is = ap (λ (o : Option Settings). (follows (unwrap_or o found)).ending) is
judged_ends (Err fault) follows settings is = let never : ⊥ = cc in absurd never

-- the script ends as what follows the settings that are found
pub settings_end : (name read : Option (List ℕ)) (follows : Settings → Script) (settings : Settings)
    → settings_found name read ≡ Some settings
    → (settings_script name read follows).ending ≡ (follows settings).ending
settings_end None read follows settings is =
    ap (λ (o : Option Settings). (follows (unwrap_or o default_settings)).ending) is
settings_end (Some file) None follows settings is = let never : ⊥ = cc in absurd never
settings_end (Some file) (Some text) follows settings is = judged_ends (settings_of text) follows settings is
