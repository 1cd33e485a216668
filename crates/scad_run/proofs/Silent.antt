-- `slice` writes nothing to the printing program.
use Rattle.std.proofs.Common.{◌≡◌, ◌+◌, ◌++◌, List, [], ℕ, zero, suc, Result, Ok, Err, refl, ap, ◌∙◌, append_assoc}
use Rattle.scad_fault.specs.declared.budget.Budget.{Budget}
use Rattle.scad_io.specs.declared.desk.Out.TheVariants.{Gcode}
use Rattle.scad_words.specs.declared.settings.Settings.{Settings as SettingsOfRun}
use Rattle.scad_script.specs.Steps.{Step, text_of}
use Rattle.scad_tree.specs.Solid.{Solid}
use Rattle.slice_work.specs.declared.want.Want.TheVariants.{Outlines as IsOutlines}
use Rattle.slice_work.specs.Part.{Layout, Part}
use Rattle.slice_work.specs.Script.{volume_below, written_unless, layer_steps}
use Rattle.slice_work.specs.Rates.{rates_of}
use Rattle.gcode_text.specs.declared.rates.Rates.{Rates}
use Rattle.scad_slice.specs.Script.{slice_script}
use Rattle.scad_slice.proofs.Layers.{steps_of, written_from}
use Rattle.scad_slice.proofs.ScriptCourse.{IsCut, slice_creates, slice_line}
use Rattle.scad_slice.proofs.Texts.{text_append}

silent_layer : (rates : Rates) (volume i : ℕ) (layer : Result Layout Budget)
    → text_of Gcode (steps_of (written_unless IsOutlines rates volume i layer)) ≡ []
silent_layer rates volume i (Ok layout) = refl
silent_layer rates volume i (Err budget) = refl

silent_layers : (rates : Rates) (part : Part) (i n : ℕ) (rest : List Step) → text_of Gcode rest ≡ []
    → text_of Gcode (written_from IsOutlines rates part i n ++ rest) ≡ []
silent_layers rates part i zero rest silent = silent
silent_layers rates part i (suc n) rest silent =
    let here = steps_of (layer_steps IsOutlines rates part i) in
    let behind = written_from IsOutlines rates part (i + 1) n in
    ap (text_of Gcode) (append_assoc here behind rest)
    ∙ text_append Gcode here (behind ++ rest)
    ∙ ap (λ text. text ++ text_of Gcode (behind ++ rest)) (silent_layer rates (volume_below IsOutlines rates part i) i
    (part i))
    ∙ silent_layers rates part (i + 1) n rest silent

pub slice_is_silent : (s : SettingsOfRun) (cli : List ℕ) (part : Part) (tree : Solid)
    (cut : IsCut IsOutlines s (slice_creates cli) (slice_line s part tree) part tree)
    → text_of Gcode (slice_script s cli part tree).steps ≡ []
slice_is_silent s cli part tree cut =
    ap (λ script. text_of Gcode script.steps) cut.script ∙ silent_layers (rates_of s) part 0 cut.layer [] refl
