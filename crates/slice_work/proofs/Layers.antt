-- The script of layers, written layer by layer and round by round.
use Rattle.std.proofs.Common.{◌≡◌, ◌<◌, ◌≤◌, ◌+◌, ◌-◌, ℕ, zero, suc, List, Result, Ok, Err, sym, ap, ◌∙◌, arith}
use Rattle.scad_fault.specs.declared.budget.Budget.{Budget}
use Rattle.scad_io.specs.Desk.{View}
use Rattle.scad_script.specs.declared.refusal.Refusal.TheVariants.{Over}
use Rattle.scad_script.specs.Steps.{Step}
use Rattle.scad_script.specs.Script.{Script, Refuses, first, ends, layer_then, layers}
use Rattle.scad_script.specs.Play.{Left, Plays, Carries}
use Rattle.scad_script.specs.declared.stop.Stop.{Stop}
use Rattle.scad_script.proofs.Layers.{as_left}
use Rattle.gcode_text.specs.declared.rates.Rates.{Rates}
use Rattle.slice_work.specs.declared.want.Want.{Want}
use Rattle.slice_work.specs.Part.{Layout, Part}
use Rattle.slice_work.specs.declared.sums.Sums.{Sums}
use Rattle.slice_work.specs.Script.{volume_below, written, written_unless, layer_steps}
use Rattle.slice_work.specs.Sums.{AreSums}

-- m layers, and then n more
pub layers_parted : (layer : ℕ → Result (List Step) Budget) (i m n : ℕ) (rest : Script)
    → layers layer i (m + n) rest ≡ layers layer i m (layers layer (i + m) n rest)
layers_parted layer i zero n rest =
    let here : i ≡ i + 0 = omega arith in
    let none : 0 + n ≡ n = omega arith in
    ap (λ k. layers layer i k rest) none ∙ ap (λ k. layers layer k n rest) here
layers_parted layer i (suc m) n rest =
    let behind : (i + 1) + m ≡ i + suc m = omega arith in
    let more : suc m + n ≡ suc (m + n) = omega arith in
    ap (λ k. layers layer i k rest) more
    ∙ ap (layer_then (layer i)) (layers_parted layer (i + 1) m n rest
    ∙ ap (λ k. layers layer (i + 1) m (layers layer k n rest)) behind)

-- the layers of a round, and those behind it
pub round_parted : (layer : ℕ → Result (List Step) Budget) (i count all : ℕ) (rest : Script) → i + count ≤ all
    → layers layer i (all - i) rest ≡ layers layer i count (layers layer (i + count) (all - (i + count)) rest)
round_parted layer i count all rest within =
    let parts : all - i ≡ count + (all - (i + count)) = omega arith in
    ap (λ k. layers layer i k rest) parts ∙ layers_parted layer i count (all - (i + count)) rest

module _ (want : Want) (rates : Rates) (part : Part) where
  -- the next layer is laid out so
  pub laid_next : (i n : ℕ) (volume : ℕ) (layout : Layout) (rest : Script) → 0 < n
      → volume ≡ volume_below want rates part i → part i ≡ Ok layout
      → layers (layer_steps want rates part) i n rest ≡ first (written want rates volume i layout)
      (layers (layer_steps want rates part) (i + 1) (n - 1) rest)
  laid_next i n volume layout rest some volume_is laid =
      let more : n ≡ suc (n - 1) = omega arith in
      ap (λ k. layers (layer_steps want rates part) i k rest) more
      ∙ ap (λ it. layer_then (written_unless want rates (volume_below want rates part i) i it)
      (layers (layer_steps want rates part) (i + 1) (n - 1) rest)) laid
      ∙ ap (λ v. first (written want rates v i layout) (layers (layer_steps want rates part) (i + 1) (n - 1) rest))
      (sym volume_is)

  -- the next layer passes a budget
  pub over_next : (i n : ℕ) (budget : Budget) (rest : Script) → 0 < n → part i ≡ Err budget
      → layers (layer_steps want rates part) i n rest ≡ ends (Refuses (Over budget))
  over_next i n budget rest some over =
      let more : n ≡ suc (n - 1) = omega arith in
      ap (λ k. layers (layer_steps want rates part) i k rest) more
      ∙ ap (λ it. layer_then (written_unless want rates (volume_below want rates part i) i it)
      (layers (layer_steps want rates part) (i + 1) (n - 1) rest)) over

  -- the next layer is played by what writes it
  pub next_written : {T : Type 0} (i n j m : ℕ) (sums : Sums) (layout : Layout) (result : Result T Stop)
      (old new : View) → 0 < n → j ≡ i + 1 → m ≡ n - 1
      → AreSums want rates part i sums → part i ≡ Ok layout → Carries
      (first (written want rates sums.volume i layout)) result old new
      → (whole rest : Script) (start : View) → Left whole (layers (layer_steps want rates part) i n rest) start old
      → Plays whole (layers (layer_steps want rates part) j m rest) result start new
  next_written {T = T} i n j m sums layout result old new some next fewer are laid carries whole rest start left =
      let here = carries whole (layers (layer_steps want rates part) (i + 1) (n - 1) rest) start
      (as_left (laid_next i n sums.volume layout rest some are.volume laid) left) in
      rw (next, fewer) here

  -- the next layers are played by what plays a round of them
  pub round_played : {T : Type 0} (i count all j : ℕ) (result : Result T Stop) (old new : View) → i + count ≤ all
      → j ≡ i + count
      → Carries (layers (layer_steps want rates part) i count) result old new
      → (whole rest : Script) (start : View) → Left whole (layers (layer_steps want rates part) i (all - i) rest)
      start old
      → Plays whole (layers (layer_steps want rates part) j (all - j) rest) result start new
  round_played {T = T} i count all j result old new within next carries whole rest start left =
      let here = carries whole (layers (layer_steps want rates part) (i + count) (all - (i + count)) rest) start
      (as_left (round_parted (layer_steps want rates part) i count all rest within) left)
      in
      rw next here
