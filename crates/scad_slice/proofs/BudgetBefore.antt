-- A budget that is passed before the first layer ends the script of the layers.
use Rattle.std.proofs.Common.{◌≡◌, ◌<◌, ℕ, zero, suc, ◌+◌, Err, ap, arith}
use Rattle.scad_fault.specs.declared.budget.Budget.{Budget}
use Rattle.scad_io.specs.Desk.{View}
use Rattle.scad_script.specs.declared.stop.Stop.{Stop}
use Rattle.scad_script.specs.declared.refusal.Refusal.TheVariants.{Over}
use Rattle.scad_script.specs.Script.{Script, Refuses, ends, layer_then, layers}
use Rattle.scad_script.specs.Play.{Left, Stops}
use Rattle.scad_script.proofs.Layers.{as_left}
use Rattle.scad_tree.specs.Solid.{Solid}
use Rattle.scad_tree.specs.Solids.{AreSolids}
use Rattle.scad_words.specs.declared.settings.Settings.{Settings}
use Rattle.scad_words.specs.Settings.{AreInRange}
use Rattle.gcode_text.specs.declared.rates.Rates.{Rates}
use Rattle.slice_work.specs.declared.want.Want.{Want}
use Rattle.slice_work.specs.Part.{Part}
use Rattle.slice_work.specs.Script.{written_unless, layer_steps, volume_below}
use Rattle.slice_work.specs.Rates.{rates_of}
use Rattle.scad_slice.specs.Budgets.{layer_count}
use Rattle.scad_slice.specs.Covers.{IsPassedByAll}
use Rattle.scad_slice.specs.Parts.{IsPart}
use Rattle.scad_slice.proofs.ScriptCourse.{passed_by_all}

refused_first : (want : Want) (rates : Rates) (part : Part) (count : ℕ) (rest : Script) (budget : Budget) → 0 < count
    → part 0 ≡ Err budget → layers (layer_steps want rates part) 0 count rest ≡ ends (Refuses (Over budget))
refused_first want rates part zero rest budget some passed = absurd (omega (arith, some))
refused_first want rates part (suc n) rest budget some passed =
    ap (λ l. layer_then (written_unless want rates (volume_below want rates part 0) 0 l)
    (layers (layer_steps want rates part) (0 + 1) n rest)) passed

pub refuses_all : (want : Want) (s : Settings) (tree : Solid) (part : Part) (count : ℕ) (budget : Budget)
    → AreSolids tree → AreInRange s → count ≡ layer_count s.layer_height tree → IsPart want s tree part
    → IsPassedByAll want s tree budget → (whole rest : Script) (start now : View)
    → Left whole (layers (layer_steps want (rates_of s) part) 0 count rest) start now
    → Stops whole (Stop.Ends (Over budget)) start now
refuses_all want s tree part count budget solids range counted of_part by whole rest start now left =
    let some = by.some in
    as_left
    (refused_first want (rates_of s) part count rest budget (omega (arith, some, counted))
    (passed_by_all want s tree part budget solids range of_part by.each 0)) left
