-- The settings of a run are in their ranges.
use Rattle.std.proofs.Common.{◌≡◌, List, ℕ, Option, Some, None, Result, Ok, Err, ap, subst}
use Rattle.std.specs.Prelude.{unwrap_or}
use Rattle.scad_fault.specs.declared.settings.SetFault.{SetFault}
use Rattle.scad_words.specs.declared.settings.Settings.{Settings}
use Rattle.scad_words.specs.Settings.{settings_of, default_settings, AreInRange}
use Rattle.scad_words.proofs.Ranges.{defaults_in_range, text_in_range}
use Rattle.scad_run.specs.Inputs.{accepted, settings_found}
use Rattle.verdict_laws.specs.Opinion.{IsWidth}

accepted_is : (meant : Result Settings SetFault) (settings : Settings) → accepted meant ≡ Some settings
    → meant ≡ Ok settings
accepted_is (Ok found) settings is = ap (λ (o : Option Settings). Ok (unwrap_or o found)) is
accepted_is (Err fault) settings is = let never : ⊥ = cc in absurd never

pub found_in_range : (name read : Option (List ℕ)) (settings : Settings) → settings_found name read ≡ Some settings
    → AreInRange settings
found_in_range None read settings is = subst AreInRange (ap (λ (o : Option Settings). unwrap_or o default_settings) is)
    defaults_in_range
found_in_range (Some file) None settings is = let never : ⊥ = cc in absurd never
found_in_range (Some file) (Some text) settings is = text_in_range text settings (accepted_is (settings_of text)
    settings is)

-- so is the width of a line
pub width_in_range : (settings : Settings) → AreInRange settings → IsWidth settings.line_width
width_in_range settings in_range = (in_range.line_width.least, in_range.line_width.most)
