-- The same round, by another spelling of its rates and of its first layer, and the same layer by another of its number.
use Rattle.std.proofs.Common.{◌≡◌, ℕ, Result, sym, subst}
use Rattle.scad_io.specs.Desk.{View}
use Rattle.scad_script.specs.declared.stop.Stop.{Stop}
use Rattle.scad_script.specs.Script.{first, layers}
use Rattle.scad_script.specs.Play.{Carries}
use Rattle.gcode_text.specs.declared.rates.Rates.{Rates}
use Rattle.slice_work.specs.declared.want.Want.{Want}
use Rattle.slice_work.specs.declared.sums.Sums.{Sums}
use Rattle.slice_work.specs.Part.{Layout, Part}
use Rattle.slice_work.specs.Script.{written, layer_steps}
use Rattle.slice_work.specs.Sums.{AreSums}

pub sums_as : (want : Want) (rates given : Rates) (part : Part) (i j : ℕ) (s : Sums) → given ≡ rates → j ≡ i
    → AreSums want rates part i s → AreSums want given part j s
sums_as want rates given part i j s same here are =
    subst (λ (r : Rates). AreSums want r part j s) (sym same)
    (subst (λ (k : ℕ). AreSums want rates part k s) (sym here) are)

pub steps_as : {T : Type 0} (want : Want) (rates given : Rates) (part : Part) (i j n : ℕ) (result : Result T Stop)
    (old new : View) → given ≡ rates → j ≡ i
    → Carries (layers (layer_steps want given part) j n) result old new
    → Carries (layers (layer_steps want rates part) i n) result old new
steps_as {T = T} want rates given part i j n result old new same here carries =
    subst (λ (k : ℕ). Carries {T = T} (layers (layer_steps want rates part) k n) result old new) here
    (subst (λ (r : Rates). Carries {T = T} (layers (layer_steps want r part) j n) result old new) same carries)

pub written_as : {T : Type 0} (want : Want) (rates : Rates) (volume i j : ℕ) (layout : Layout) (result : Result T Stop)
    (old new : View) → j ≡ i
    → Carries (first (written want rates volume j layout)) result old new
    → Carries (first (written want rates volume i layout)) result old new
written_as {T = T} want rates volume i j layout result old new here carries =
    subst (λ (k : ℕ). Carries {T = T} (first (written want rates volume k layout)) result old new) here carries
