-- What the layers write to each file.
use Rattle.std.proofs.Common.{◌≡◌, ◌+◌, ◌*◌, ◌<◌, ◌++◌, List, [], ℕ, zero, suc, Ok, refl, sym, ap}
use Rattle.std.proofs.Common.{◌∙◌, arith, append_assoc}
use Rattle.std.specs.Prelude.{map, flat_map}
use Rattle.std.specs.List.{range_with_len}
use Rattle.std.proofs.lemmas.List.{append-nil}
use Rattle.std.proofs.lemmas.Grind.{flat_map-append}
use Rattle.std.proofs.lemmas.List.FromFn.{length-map-range_with_len, sum_by-map-range_with_len_more}
use Rattle.scad_io.specs.declared.desk.Out.{Out}
use Rattle.scad_io.specs.declared.desk.Out.TheVariants.{Cli, Gcode}
use Rattle.scad_script.specs.Steps.{Step, piece_for, text_of}
use Rattle.scad_words.specs.declared.settings.Settings.{Settings}
use Rattle.scad_tree.specs.Solid.{Solid}
use Rattle.cli_text.specs.Cli as outline
use Rattle.gcode_text.specs.Amount.{paths_volume}
use Rattle.gcode_text.specs.Gcode as program
use Rattle.gcode_text.specs.Gcode.{Printed, printed_paths}
use Rattle.gcode_text.specs.declared.rates.Rates.{Rates}
use Rattle.slice_work.specs.declared.want.Want.{Want}
use Rattle.slice_work.specs.declared.want.Want.TheVariants.{Outlines, Plan}
use Rattle.slice_work.specs.Part.{Layout, Part, outlines_of, hatches_of, printed_of}
use Rattle.slice_work.specs.Script.{layout_lines, written_unless, layer_steps, volume_below}
use Rattle.slice_work.specs.Rates.{rates_of}
use Rattle.scad_slice.specs.Budgets.{layer_count}
use Rattle.scad_slice.specs.Parts.{layer_at, layers_of, plans_of}
use Rattle.scad_slice.specs.Script.{slice_script, plan_script}
use Rattle.scad_slice.specs.Laws.{SlicesAreWhole, PlansAreWhole, ProgramsAreWhole}
use Rattle.scad_slice.proofs.Layers.{steps_of, AreMadeFrom, written_from, made_from}
use Rattle.scad_slice.proofs.ScriptCourse.{IsCut, slice_creates, plan_creates, slice_line, line_of_plan, whole_goes}

pub text_append : (out : Out) (a b : List Step) → text_of out (a ++ b) ≡ text_of out a ++ text_of out b
text_append out a b = flat_map-append (piece_for out) a b

-- the text of steps and those behind them
joined_text : (out : Out) (a b rest : List Step) (here behind : List ℕ) → text_of out a ≡ here
    → text_of out (b ++ rest) ≡ behind → text_of out ((a ++ b) ++ rest) ≡ here ++ behind
joined_text out a b rest here behind is same =
    ap (text_of out) (append_assoc a b rest)
    ∙ text_append out a (b ++ rest)
    ∙ (λ k. is k ++ same k)

made_behind : (part : Part) (i n : ℕ) → AreMadeFrom part i (suc n) → AreMadeFrom part (i + 1) n
made_behind part i n made k inside =
    let less : suc k < suc n = omega (arith, inside) in
    let found = made (suc k) less in
    (found.0, ap part (omega arith) ∙ found.1)

made_here : (part : Part) (i n : ℕ) → AreMadeFrom part i (suc n) → (layout : Layout) × (part i ≡ Ok layout)
made_here part i n made = let found = made 0 (omega arith) in (found.0, ap part (omega arith) ∙ found.1)

-- ---- the outlines

-- the lines of a layer
outline_by : (want : Want) (rates : Rates) (volume i : ℕ) (layout : Layout)
    → text_of Cli (steps_of (written_unless want rates volume i (Ok layout)))
    ≡ layout_lines rates i layout
outline_by Outlines rates volume i layout =
    append-nil (layout_lines rates i layout)
outline_by Plan rates volume i layout =
    append-nil (layout_lines rates i layout)

module _ (want : Want) (s : Settings) (part : Part) where
  outline_here : (i : ℕ) (layout : Layout) → part i ≡ Ok layout
      → text_of Cli (steps_of (layer_steps want (rates_of s) part i))
      ≡ outline.layer_text (layer_at s.layer_height part i)
  outline_here i layout is =
      ap (λ l. text_of Cli (steps_of (written_unless want (rates_of s) (volume_below want (rates_of s) part i) i l))) is
      ∙ outline_by want (rates_of s) (volume_below want (rates_of s) part i) i layout
      ∙ ap (λ l. outline.layer_text (record { z = s.layer_height * (i + 1); loops = outlines_of l; hatches = hatches_of l }))
      (sym is)

  outlines_written : (i n : ℕ) (rest : List Step) → AreMadeFrom part i n
      → text_of Cli (written_from want (rates_of s) part i n ++ rest)
      ≡ flat_map outline.layer_text (map (layer_at s.layer_height part) (range_with_len i n)) ++ text_of Cli rest
  outlines_written i zero rest made = refl
  outlines_written i (suc n) rest made =
      let here = made_here part i n made in
      let some = flat_map outline.layer_text (map (layer_at s.layer_height part) (range_with_len (i + 1) n)) in
      joined_text Cli (steps_of (layer_steps want (rates_of s) part i)) (written_from want (rates_of s) part (i + 1) n)
      rest
      (outline.layer_text (layer_at s.layer_height part i)) (some ++ text_of Cli rest) (outline_here i here.0 here.1)
      (outlines_written (i + 1) n rest (made_behind part i n made))
      ∙ sym (append_assoc (outline.layer_text (layer_at s.layer_height part i)) some (text_of Cli rest))

  -- the head, the first n layers and what follows
  outlines_begun : (count n : ℕ) (rest : List Step) → AreMadeFrom part 0 n
      → outline.head count ++ text_of Cli (written_from want (rates_of s) part 0 n ++ rest) ≡ outline.head count
      ++ (flat_map outline.layer_text (layers_of s.layer_height part n) ++ text_of Cli rest)
  outlines_begun count n rest made = ap (λ text. outline.head count ++ text) (outlines_written 0 n rest made)

  -- a whole file
  outlines_whole : (n : ℕ) → outline.head n
      ++ (flat_map outline.layer_text (layers_of s.layer_height part n) ++ (outline.geometry_end ++ []))
      ≡ outline.cli (layers_of s.layer_height part n)
  outlines_whole n =
      let some = flat_map outline.layer_text (layers_of s.layer_height part n) in
      ap (λ text. outline.head n ++ (some ++ text)) (append-nil outline.geometry_end)
      ∙ sym (append_assoc (outline.head n) some outline.geometry_end)
      ∙ ap (λ k. (outline.head k ++ some) ++ outline.geometry_end)
      (sym (length-map-range_with_len (layer_at s.layer_height part) 0 n))

-- ---- the printing program

module _ (s : Settings) (part : Part) where
  abbrev volume : ℕ → ℕ
  volume n = volume_below Plan (rates_of s) part n

  abbrev printed_at : ℕ → Printed
  printed_at i = printed_of Plan (part i)

  volume_next : (i : ℕ) → volume (i + 1) ≡ volume i + paths_volume (rates_of s) (printed_paths (printed_at i))
  volume_next i =
      sum_by-map-range_with_len_more (λ layer. paths_volume (rates_of s) (printed_paths (printed_of Plan layer))) part 0
      i i (omega arith)

  program_here : (i : ℕ) (layout : Layout) → part i ≡ Ok layout
      → text_of Gcode (steps_of (layer_steps Plan (rates_of s) part i))
      ≡ program.printed_text (rates_of s) (volume i) i (printed_at i)
  program_here i layout is =
      ap (λ l. text_of Gcode (steps_of (written_unless Plan (rates_of s) (volume i) i l))) is
      ∙ append-nil (program.printed_text (rates_of s) (volume i) i (printed_of Plan (Ok layout)))
      ∙ ap (λ l. program.printed_text (rates_of s) (volume i) i (printed_of Plan l)) (sym is)

  program_written : (i n : ℕ) (rest : List Step) → AreMadeFrom part i n
      → text_of Gcode (written_from Plan (rates_of s) part i n ++ rest)
      ≡ program.layers_text (rates_of s) (volume i) i (map printed_at (range_with_len i n)) ++ text_of Gcode rest
  unfolding program.layers_text
  program_written i zero rest made = refl
  program_written i (suc n) rest made =
      let here = made_here part i n made in
      let some =
      program.layers_text (rates_of s) (volume (i + 1)) (i + 1) (map printed_at (range_with_len (i + 1) n)) in
      joined_text Gcode (steps_of (layer_steps Plan (rates_of s) part i))
      (written_from Plan (rates_of s) part (i + 1) n) rest
      (program.printed_text (rates_of s) (volume i) i (printed_at i)) (some ++ text_of Gcode rest)
      (program_here i here.0 here.1)
      (program_written (i + 1) n rest (made_behind part i n made))
      ∙ sym (append_assoc (program.printed_text (rates_of s) (volume i) i (printed_at i)) some (text_of Gcode rest))
      ∙ ap (λ v.
      (program.printed_text (rates_of s) (volume i) i (printed_at i)
      ++ program.layers_text (rates_of s) v (i + 1) (map printed_at (range_with_len (i + 1) n)))
      ++ text_of Gcode rest) (volume_next i)

  program_whole : (n : ℕ) → program.head s.hot_end s.bed
      ++ (program.layers_text (rates_of s) (volume 0) 0 (plans_of part n) ++ (program.end ++ []))
      ≡ program.gcode (rates_of s) s.hot_end s.bed (plans_of part n)
  program_whole n =
      let some = program.layers_text (rates_of s) 0 0 (plans_of part n) in
      ap (λ text. program.head s.hot_end s.bed ++ (some ++ text)) (append-nil program.end)
      ∙ sym (append_assoc (program.head s.hot_end s.bed) some program.end)

-- ---- the laws

pub slices_are_whole : SlicesAreWhole
slices_are_whole s cli part tree whole =
    let n = layer_count s.layer_height tree in
    ap (λ script. text_of Cli script.steps)
    (whole_goes Outlines s (slice_creates cli) (slice_line s part tree) part tree whole)
    ∙ outlines_begun Outlines s part n n _ (made_from part n whole.made)
    ∙ outlines_whole Outlines s part n

pub plans_are_whole : PlansAreWhole
plans_are_whole s cli gcode part tree whole =
    let n = layer_count s.layer_height tree in
    ap (λ script. text_of Cli script.steps)
    (whole_goes Plan s (plan_creates cli gcode) (line_of_plan s part tree) part tree whole)
    ∙ outlines_begun Plan s part n n _ (made_from part n whole.made)
    ∙ outlines_whole Plan s part n

pub programs_are_whole : ProgramsAreWhole
programs_are_whole s cli gcode part tree whole =
    let n = layer_count s.layer_height tree in
    ap (λ script. text_of Gcode script.steps)
    (whole_goes Plan s (plan_creates cli gcode) (line_of_plan s part tree) part tree whole)
    ∙ ap (λ text. program.head s.hot_end s.bed ++ text) (program_written s part 0 n _ (made_from part n whole.made))
    ∙ program_whole s part n

-- ---- files that a budget ends

pub slice_cut : (s : Settings) (cli : List ℕ) (part : Part) (tree : Solid)
    (cut : IsCut Outlines s (slice_creates cli) (slice_line s part tree) part tree)
    → text_of Cli (slice_script s cli part tree).steps ≡ outline.head (layer_count s.layer_height tree)
    ++ flat_map outline.layer_text (layers_of s.layer_height part cut.layer)
slice_cut s cli part tree cut =
    ap (λ script. text_of Cli script.steps) cut.script
    ∙ outlines_begun Outlines s part (layer_count s.layer_height tree) cut.layer [] (made_from part cut.layer cut.made)
    ∙ ap (λ text. outline.head (layer_count s.layer_height tree) ++ text)
    (append-nil (flat_map outline.layer_text (layers_of s.layer_height part cut.layer)))

pub plan_cut : (s : Settings) (cli gcode : List ℕ) (part : Part) (tree : Solid)
    (cut : IsCut Plan s (plan_creates cli gcode) (line_of_plan s part tree) part tree)
    → text_of Cli (plan_script s cli gcode part tree).steps ≡ outline.head (layer_count s.layer_height tree)
    ++ flat_map outline.layer_text (layers_of s.layer_height part cut.layer)
plan_cut s cli gcode part tree cut =
    ap (λ script. text_of Cli script.steps) cut.script
    ∙ outlines_begun Plan s part (layer_count s.layer_height tree) cut.layer [] (made_from part cut.layer cut.made)
    ∙ ap (λ text. outline.head (layer_count s.layer_height tree) ++ text)
    (append-nil (flat_map outline.layer_text (layers_of s.layer_height part cut.layer)))

pub program_cut : (s : Settings) (cli gcode : List ℕ) (part : Part) (tree : Solid)
    (cut : IsCut Plan s (plan_creates cli gcode) (line_of_plan s part tree) part tree)
    → text_of Gcode (plan_script s cli gcode part tree).steps ≡ program.head s.hot_end s.bed
    ++ program.layers_text (rates_of s) 0 0 (plans_of part cut.layer)
program_cut s cli gcode part tree cut =
    ap (λ script. text_of Gcode script.steps) cut.script
    ∙ ap (λ text. program.head s.hot_end s.bed ++ text)
    (program_written s part 0 cut.layer [] (made_from part cut.layer cut.made)
    ∙ append-nil (program.layers_text (rates_of s) 0 0 (plans_of part cut.layer)))
