-- What a run tells of what a source means: the lines of `echo`, and then the end.
use Rattle.std.specs.Prelude.{◌++◌, List, [], ◌∷◌, ℕ, Option, Some, None, codes, decimal, flat_map, nat_lt, if◌then◌else◌}
use Rattle.scad_io.specs.declared.desk.Out.TheVariants.{Report, Cli, Gcode}
use Rattle.scad_script.specs.declared.refusal.Refusal.{Refusal}
use Rattle.scad_script.specs.declared.refusal.Refusal.TheVariants.{Source, Over as IsOver}
use Rattle.scad_script.specs.Steps.{Sends}
use Rattle.scad_script.specs.Script.{Script, Ending, Finishes, Refuses, Lacks, first, ends}
use Rattle.scad_machine.specs.declared.fault.EvalFault.{EvalFault}
use Rattle.scad_machine.specs.declared.fault.EvalFault.TheVariants.{Fault, Over, Memory}
use Rattle.scad_expr.specs.State.{Outcome, gives, refuses}
use Rattle.scad_tree.specs.Solid.{Solid}
use Rattle.scad_tree.specs.Order.{leaves as leaf_count}
use Rattle.scad_tree.specs.Sizes.{triangle_count}
use Rattle.scad_tree.specs.Text.{text_of}
use Rattle.scad_words.specs.declared.settings.Settings.{Settings}
use Rattle.gcode_text.specs.Numeral.{fixed}
use Rattle.slice_work.specs.declared.want.Want.TheVariants.{Plan}
use Rattle.slice_work.specs.Part.{Part, layer_limit}
use Rattle.slice_work.specs.Sums.{loop_count, moves_below}
use Rattle.scad_slice.specs.Budgets.{layer_count, layers_passed}
use Rattle.scad_slice.specs.Script.{files, file_size, amount_below, unless_many}

-- the lines of `echo`, each ended by a line feed
unfoldable pub echo_text : List (List ℕ) → List ℕ
echo_text lines = flat_map (λ line. line ++ codes "\n") lines

-- the refusal for a fault or a budget of evaluation
abbrev pub refusal_of : EvalFault → Option Refusal
refusal_of (Fault fault) = Some (Source fault)
refusal_of (Over budget) = Some (IsOver budget)
refusal_of Memory = None

-- the lines are written as one piece, before what follows them
abbrev pub echoed : List (List ℕ) → Script → Script
echoed lines rest = first (Sends Report (echo_text lines) ∷ []) rest

-- a refusal stands behind the lines of `echo` before it; no source means a want of memory
abbrev pub refusal_told : Option Refusal → List (List ℕ) → Script
refusal_told (Some refusal) lines = echoed lines (ends (Refuses refusal))
refusal_told None lines = ends Lacks

-- what is told of a source, where this follows its tree
abbrev pub told : (Solid → Script) → Outcome Solid → Script
told follows (gives tree s) = echoed s.echoes (follows tree)
told follows (refuses fault s) = refusal_told (refusal_of fault) s.echoes

-- `ok: L leaves, T triangles, N layers`
unfoldable pub ok_line : ℕ → ℕ → ℕ → List ℕ
ok_line leaves triangles count =
    codes "ok: " ++ decimal leaves ++ codes " leaves, " ++ decimal triangles ++ codes " triangles, " ++ decimal count
    ++ codes " layers\n"

-- `check`: the numbers of the tree's leaves, of their triangles and of its layers of the height h in micrometres
abbrev pub check_end : ℕ → ℕ → ℕ → Ending
check_end leaves triangles count =
    if nat_lt layer_limit count then Refuses (IsOver (layers_passed count)) else Finishes
    (ok_line leaves triangles count)

abbrev pub check_script : ℕ → Solid → Script
check_script h tree = ends (check_end (leaf_count tree) (triangle_count tree) (layer_count h tree))

-- `tree`: the text of the tree
abbrev pub tree_script : Solid → Script
tree_script tree = ends (Finishes (text_of tree))

-- `L layers, K loops, M moves, E e`
unfoldable pub counts_text : ℕ → ℕ → ℕ → ℕ → List ℕ
counts_text count loops moves e =
    decimal count ++ codes " layers, " ++ decimal loops ++ codes " loops, " ++ decimal moves ++ codes " moves, E " ++
    fixed 5 e

-- `, C cli bytes, G gcode bytes`
unfoldable pub sizes_text : ℕ → ℕ → List ℕ
sizes_text cli gcode = codes ", " ++ decimal cli ++ codes " cli bytes, " ++ decimal gcode ++ codes " gcode bytes\n"

-- `sample N: L layers, K loops, M moves, E e, C cli bytes, G gcode bytes`
unfoldable pub sample_line : ℕ → ℕ → ℕ → ℕ → ℕ → ℕ → ℕ → List ℕ
sample_line n count loops moves e cli gcode =
    codes "sample " ++ decimal n ++ codes ": " ++ counts_text count loops moves e ++ sizes_text cli gcode

-- what is told of so many layers, and of the sizes of both files
abbrev pub sample_end : ℕ → Settings → Part → ℕ → Script
sample_end n s part count =
    ends (Finishes (sample_line n count (loop_count part count) (moves_below Plan part count)
    (amount_below s part count)
    (file_size Cli Plan s part count) (file_size Gcode Plan s part count)))

-- a script's ending, without its steps
abbrev pub unwritten : Script → Script
unwritten script = ends script.ending

-- `sample`: it ends as the files of the tree's plan, which are not written
abbrev pub sample_script : ℕ → Settings → Part → Solid → Script
sample_script n s part tree =
    let count = layer_count s.layer_height tree in
    unless_many count (unwritten (files Plan s part count (sample_end n s part count)))
