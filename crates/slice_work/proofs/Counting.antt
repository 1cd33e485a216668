-- What is counted of layers, with one more.
use Rattle.std.proofs.Common.{◌≡◌, ◌+◌, ℕ, length, Result, Ok, sym, ap, ap₂, ◌∙◌, subst, arith}
use Rattle.std.proofs.lemmas.List.FromFn.{sum_by-map-range_with_len_more}
use Rattle.scad_fault.specs.declared.budget.Budget.{Budget}
use Rattle.scad_io.specs.declared.desk.Out.TheVariants.{Cli, Gcode}
use Rattle.gcode_text.specs.declared.rates.Rates.{Rates}
use Rattle.gcode_text.specs.Amount.{paths_volume}
use Rattle.gcode_text.specs.Gcode.{printed_paths}
use Rattle.slice_work.specs.declared.want.Want.{Want}
use Rattle.slice_work.specs.declared.sums.Sums.{Sums}
use Rattle.slice_work.specs.Part.{Layout, Part, outlines_of, printed_of, move_count}
use Rattle.slice_work.specs.Script.{volume_below, written, written_unless, layer_steps}
use Rattle.slice_work.specs.Sums.{step_size, with_layer, AreSums}

-- the layer i, which is laid out so, is counted
pub one_more : (want : Want) (rates : Rates) (part : Part) (i : ℕ) (layout : Layout) (s : Sums) → part i ≡ Ok layout
    → AreSums want rates part i s
    → AreSums want rates part (i + 1) (with_layer want rates i layout s)
one_more want rates part i layout s laid sums =
    let steps : layer_steps want rates part i ≡ Ok (written want rates s.volume i layout) =
    ap (written_unless want rates (volume_below want rates part i) i) laid
    ∙ ap (λ v. Ok (written want rates v i layout)) (sym sums.volume)
    in
    let moves = λ (it : Result Layout Budget). move_count (printed_paths (printed_of want it)) in
    let volume = λ (it : Result Layout Budget). paths_volume rates (printed_paths (printed_of want it)) in
    record {
      loops = ap₂ (λ a b. a + b) sums.loops (ap (λ it. length (outlines_of it)) (sym laid))
          ∙ sym (sum_by-map-range_with_len_more (λ it. length (outlines_of it)) part 0 i i (omega arith));
      moves = ap₂ (λ a b. a + b) sums.moves (ap moves (sym laid))
          ∙ sym (sum_by-map-range_with_len_more moves part 0 i i (omega arith));
      volume = ap₂ (λ a b. a + b) sums.volume (ap volume (sym laid))
          ∙ sym (sum_by-map-range_with_len_more volume part 0 i i (omega arith));
      cli = ap₂ (λ a b. a + b) sums.cli (ap (step_size Cli) (sym steps))
          ∙ sym (sum_by-map-range_with_len_more (step_size Cli) (layer_steps want rates part) 0 i i (omega arith));
      gcode = ap₂ (λ a b. a + b) sums.gcode (ap (step_size Gcode) (sym steps))
          ∙ sym (sum_by-map-range_with_len_more (step_size Gcode) (layer_steps want rates part) 0 i i (omega arith));
    }

pub next_counted : (want : Want) (rates : Rates) (part : Part) (i j : ℕ) (layout : Layout) (s t : Sums) → j ≡ i + 1
    → t ≡ with_layer want rates i layout s
    → part i ≡ Ok layout → AreSums want rates part i s → AreSums want rates part j t
next_counted want rates part i j layout s t next is laid sums =
    subst (λ (k : ℕ). AreSums want rates part k t) (sym next)
    (subst (AreSums want rates part (i + 1)) (sym is) (one_more want rates part i layout s laid sums))
