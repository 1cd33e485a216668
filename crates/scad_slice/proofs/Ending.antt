-- The last lines tell what was written.
use Rattle.std.proofs.Common.{◌≡◌, List, ℕ, sym, ap, ◌∙◌}
use Rattle.scad_script.specs.Script.{Finishes, ends}
use Rattle.scad_words.specs.declared.settings.Settings.{Settings}
use Rattle.slice_work.specs.declared.want.Want.TheVariants.{Outlines, Plan}
use Rattle.slice_work.specs.Part.{Part}
use Rattle.scad_slice.specs.declared.summary.Written.{Written}
use Rattle.scad_slice.specs.Script.{done_line, plan_line, slice_end, plan_end, IsWritten}

pub slice_ends : (s : Settings) (part : Part) (count : ℕ) (w : Written) (line : List ℕ)
    → IsWritten Outlines s part count w → line ≡ done_line w.summary.layers w.summary.loops
    → slice_end part count ≡ ends (Finishes line)
slice_ends s part count w line written is =
    ap (λ text. ends (Finishes text)) (sym (is ∙ (λ k. done_line (written.summary.layers k) (written.summary.loops k))))

pub plan_ends : (s : Settings) (part : Part) (count : ℕ) (w : Written) (line : List ℕ) → IsWritten Plan s part count w
    → line ≡ plan_line w.summary.layers w.summary.loops w.summary.moves w.summary.e
    → plan_end s part count ≡ ends (Finishes line)
plan_ends s part count w line written is =
    ap (λ text. ends (Finishes text))
    (sym
    (is
    ∙ (λ k. plan_line (written.summary.layers k) (written.summary.loops k) (written.summary.moves k)
    (written.summary.e k))))
