-- The scripts of both commands only draw, and keep what holds of every command's steps.
use Rattle.std.proofs.Common.{◌≡◌, ◌≢◌, ◌++◌, List, [], ◌∷◌, ℕ, Bool, true, false, Some, Result, Ok, Err}
use Rattle.std.proofs.Common.{nat_lt, arith}
use Rattle.std.specs.Prelude.{IfOk, if◌then◌else◌}
use Rattle.cli_text.specs.Cli as outline
use Rattle.gcode_text.specs.Gcode as program
use Rattle.gcode_text.specs.declared.rates.Rates.{Rates}
use Rattle.scad_fault.specs.declared.budget.Budget.{Budget}
use Rattle.scad_io.specs.declared.desk.Out.{Out}
use Rattle.scad_io.specs.declared.desk.Out.TheVariants.{Cli, Gcode}
use Rattle.scad_script.specs.declared.refusal.Refusal.TheVariants.{Over}
use Rattle.scad_script.specs.Steps.{Step, Makes, text_of, echoing, drawing as drawing_stage}
use Rattle.scad_script.specs.Script.{Script, Refuses, Finishes, Lacks, first, ends, layers}
use Rattle.scad_script.specs.Names.{Given, name_for, AllFrom, Stands, AllStand}
use Rattle.scad_script.proofs.Layers.{OnlySends, Draws, piece_draws, layers_draw, layers_lack}
use Rattle.scad_tree.specs.Solid.{Solid}
use Rattle.scad_words.specs.declared.settings.Settings.{Settings}
use Rattle.slice_work.specs.declared.want.Want.{Want}
use Rattle.slice_work.specs.declared.want.Want.TheVariants.{Outlines, Plan}
use Rattle.slice_work.specs.Part.{Layout, Part, layer_limit}
use Rattle.slice_work.specs.Script.{written_unless, layer_steps, volume_below}
use Rattle.slice_work.specs.Rates.{rates_of}
use Rattle.scad_slice.specs.Budgets.{layer_count, layers_passed}
use Rattle.scad_slice.specs.Script.{tails, files, slice_end, plan_end, slice_script, plan_script}

-- a script that may stand behind the lines of `echo`
pub record DrawsInOrder (given : Given) (s : Script) : Type 0 where
  pub order : AllFrom echoing s.steps
  pub stand : AllStand given s.steps
  pub there : s.ending ≢ Lacks

-- a script that only draws, and ends
record DrawsOn (given : Given) (s : Script) : Type 0 where
  draws : Draws given s.steps
  there : s.ending ≢ Lacks

only_sends : (want : Want) (rates : Rates) (volume i : ℕ) (layer : Result Layout Budget)
    → IfOk (written_unless want rates volume i layer) OnlySends
only_sends Outlines rates volume i (Ok layout) = tt
only_sends Plan rates volume i (Ok layout) = tt
only_sends Outlines rates volume i (Err budget) = tt
only_sends Plan rates volume i (Err budget) = tt

module _ (given : Given) (s : Settings) (part : Part) (count : ℕ) (line : List ℕ) where
  tails_draw : (want : Want) → DrawsOn given (first (tails want) (ends (Finishes line)))
  tails_draw Outlines = record {
    draws = piece_draws given Cli outline.geometry_end [] tt (record { order = tt; stand = tt });
    there = λ same. let never : ⊥ = cc in absurd never;
  }
  tails_draw Plan = record {
    draws =
        piece_draws given Cli outline.geometry_end _ tt
        (piece_draws given Gcode program.end [] tt (record { order = tt; stand = tt }));
    there = λ same. let never : ⊥ = cc in absurd never;
  }

  all_draw : (want : Want) → DrawsOn given
      (layers (layer_steps want (rates_of s) part) 0 count (first (tails want) (ends (Finishes line))))
  all_draw want =
      let end = tails_draw want in
      record {
        draws =
            layers_draw given (layer_steps want (rates_of s) part) 0 count (first (tails want) (ends (Finishes line)))
            (λ k. only_sends want (rates_of s) (volume_below want (rates_of s) part k) k (part k)) end.draws;
        there =
            layers_lack (layer_steps want (rates_of s) part) 0 count (first (tails want) (ends (Finishes line)))
            end.there;
      }

  files_draw : (want : Want) → DrawsOn given (files want s part count (ends (Finishes line)))
  files_draw Outlines =
      let behind = all_draw Outlines in
      record { draws = piece_draws given Cli (outline.head count) _ tt behind.draws; there = behind.there }
  files_draw Plan =
      let behind = all_draw Plan in
      record {
        draws =
            piece_draws given Cli (outline.head count) _ tt
            (piece_draws given Gcode (program.head s.hot_end s.bed) _ tt behind.draws);
        there = behind.there;
      }

-- neither file is ever empty
outlines_some : (count : ℕ) (rest : List ℕ) → outline.head count ++ rest ≢ []
unfolding outline.head_start
outlines_some count rest none = let never : ⊥ = cc in absurd never

program_some : (hot_end bed : ℕ) (rest : List ℕ) → program.head hot_end bed ++ rest ≢ []
unfolding program.setup
program_some hot_end bed rest none = let never : ⊥ = cc in absurd never

from_later : (steps : List Step) → AllFrom drawing_stage steps → AllFrom echoing steps
from_later [] all = tt
from_later (s ∷ ss) all = let late = all.0 in (omega (arith, late), from_later ss all.1)

in_order : (given : Given) (s : Script) → DrawsOn given s → DrawsInOrder given s
in_order given s on = record { order = from_later s.steps on.draws.order; stand = on.draws.stand; there = on.there }

unless_many_draws : (given : Given) (count : ℕ) (script : Script) (many : Bool) → DrawsInOrder given script
    → DrawsInOrder given (if many then ends (Refuses (Over (layers_passed count))) else script)
unless_many_draws given count script true draws =
    record { order = tt; stand = tt; there = λ same. let never : ⊥ = cc in absurd never }
unless_many_draws given count script false draws = draws

-- an output that gets bytes is created first
made_first : (given : Given) (o : Out) (name : List ℕ) (rest : Script) → name_for o given ≡ Some name
    → text_of o rest.steps ≢ [] → DrawsOn given rest → DrawsOn given (first (Makes o name ∷ []) rest)
made_first given o name rest named filled behind =
    let stands : Stands given (Makes o name) rest.steps =
    record { order = behind.draws.order; name = named; filled = filled }
    in
    record {
      draws = record { order = (omega arith, behind.draws.order); stand = (stands, behind.draws.stand) };
      there = behind.there;
    }

pub slice_draws : (s : Settings) (given : Given) (cli : List ℕ) (part : Part) (tree : Solid) → given.cli ≡ Some cli
    → DrawsInOrder given (slice_script s cli part tree)
slice_draws s given cli part tree named =
    let count = layer_count s.layer_height tree in
    let drawn = files Outlines s part count (slice_end part count) in
    let drawn_on = files_draw given s part count _ Outlines in
    let begun = made_first given Cli cli drawn named (outlines_some count _) drawn_on in
    unless_many_draws given count (first (Makes Cli cli ∷ []) drawn) (nat_lt layer_limit count) (in_order given _ begun)

pub plan_draws : (s : Settings) (given : Given) (cli gcode : List ℕ) (part : Part) (tree : Solid)
    → given.cli ≡ Some cli → given.gcode ≡ Some gcode → DrawsInOrder given (plan_script s cli gcode part tree)
plan_draws s given cli gcode part tree named called =
    let count = layer_count s.layer_height tree in
    let drawn = files Plan s part count (plan_end s part count) in
    let program = first (Makes Gcode gcode ∷ []) drawn in
    let drawn_on = files_draw given s part count _ Plan in
    let behind = made_first given Gcode gcode drawn called (program_some s.hot_end s.bed _) drawn_on in
    let begun = made_first given Cli cli program named (outlines_some count _) behind in
    unless_many_draws given count (first (Makes Cli cli ∷ []) program) (nat_lt layer_limit count)
    (in_order given _ begun)
