-- What is said of a print by its own outlines.
use Rattle.std.specs.Prelude.{◌≡◌, ◌≤◌, ◌⊎◌, ◌+◌, ℕ, true, false, List, ◌∷◌, ◌++◌, length, flat_map, All, Result, Ok, Err}
use Rattle.scad_words.specs.declared.settings.Settings.{Settings}
use Rattle.scad_words.specs.Settings.{AreInRange}
use Rattle.scad_tree.specs.Solid.{Solid}
use Rattle.scad_tree.specs.Solids.{AreSolids}
use Rattle.plan_layer.specs.Moves.{all_moves}
use Rattle.slice_work.specs.Part.{Layout}
use Rattle.cli_text.specs.Cli.{Layer}
use Rattle.cli_read.specs.Form.{Reads}
use Rattle.plan_verify.specs.declared.verdict.Verdict.{Verdict}
use Rattle.plan_verify.specs.declared.verdict.Verdict.TheVariants.{Inside, Outside}
use Rattle.plan_verify.specs.declared.verdict.VerifyFault.{VerifyFault}
use Rattle.plan_verify.specs.declared.verdict.VerifyFault.TheVariants.{Memory}
use Rattle.plan_verify.specs.Verdict.{IsVerdict}
use Rattle.print_laws.specs.Print.{all_printed, all_paths, PathSide, sides_from, IsPrintOf}
use Rattle.verdict_laws.specs.Opinion.{IsOpinion}

-- the most bytes that a file may have that is judged
abbrev pub file_limit : ℕ
file_limit = 268435456

-- how many moves the plans of layers and their supports have
abbrev pub plan_moves : List Layout → ℕ
plan_moves layers = length (flat_map all_moves (all_paths layers))

-- ---- the laws, of each print of a tree of solids by settings in range whose program is within the limit
-- Without support lines: by the layers that its outlines' file says, the opinion on its program is that all moves that
-- extrude stay inside, and that they are as many as the plans have.
abbrev pub PrintsStayInside : Type 0
PrintsStayInside =
    (s : Settings) (tree : Solid) (cli gcode : List ℕ) (print : IsPrintOf s tree cli gcode) (layers : List Layer)
    → AreSolids tree → AreInRange s → s.support_spacing ≡ 0 → length gcode ≤ file_limit → Reads cli layers
    → IsOpinion layers s.line_width gcode (Ok (Inside (plan_moves print.layers)))

-- So the judgement of its program answers this, unless memory is wanting.
abbrev pub PrintsAreAnsweredInside : Type 0
PrintsAreAnsweredInside =
    (s : Settings) (tree : Solid) (cli gcode : List ℕ) (print : IsPrintOf s tree cli gcode) (layers : List Layer)
    (verdict : Result Verdict VerifyFault)
    → AreSolids tree → AreInRange s → s.support_spacing ≡ 0 → length gcode ≤ file_limit → Reads cli layers
    → IsVerdict layers s.line_width gcode verdict
    → (verdict ≡ Err Memory) ⊎ (verdict ≡ Ok (Inside (plan_moves print.layers)))

-- the side of this number, the first one being 1, is the first that is a support's
pub record IsFirstSupport (sides : List PathSide) (number : ℕ) : Type 0 where
  pub before : List PathSide
  pub first : PathSide
  pub behind : List PathSide
  pub are : sides ≡ before ++ first ∷ behind
  pub others : All (λ side. side.support ≡ false) before
  pub is : first.support ≡ true
  pub is_number : number ≡ length before + 1

-- Where a print has a support, the opinion on its program is that the first move along one goes outside, by its number among
-- the moves that extrude; the moves before it stay inside.
abbrev pub SupportsGoOutside : Type 0
SupportsGoOutside =
    (s : Settings) (tree : Solid) (cli gcode : List ℕ) (print : IsPrintOf s tree cli gcode) (layers : List Layer)
    (number : ℕ)
    → AreSolids tree → AreInRange s → length gcode ≤ file_limit → Reads cli layers
    → IsFirstSupport (sides_from s.layer_height 0 (all_printed print.layers)) number
    → (line : ℕ) × IsOpinion layers s.line_width gcode (Ok (Outside number line))

-- So the judgement of its program answers this, with the line of that move, unless memory is wanting.
abbrev pub PrintsAreAnsweredOutside : Type 0
PrintsAreAnsweredOutside =
    (s : Settings) (tree : Solid) (cli gcode : List ℕ) (print : IsPrintOf s tree cli gcode) (layers : List Layer)
    (number : ℕ) (verdict : Result Verdict VerifyFault)
    → AreSolids tree → AreInRange s → length gcode ≤ file_limit → Reads cli layers
    → IsFirstSupport (sides_from s.layer_height 0 (all_printed print.layers)) number
    → IsVerdict layers s.line_width gcode verdict
    → (verdict ≡ Err Memory) ⊎ ((line : ℕ) × (verdict ≡ Ok (Outside number line)))
