-- What comes first of heads and ends.
use Rattle.std.proofs.Common.{ℕ, [], ◌∷◌}
use Rattle.scad_io.specs.Desk.{View}
use Rattle.scad_io.specs.declared.desk.Out.TheVariants.{Cli, Gcode}
use Rattle.scad_script.specs.Steps.{Sends}
use Rattle.scad_script.specs.Script.{Script, first}
use Rattle.scad_script.specs.Play.{Left}
use Rattle.scad_words.specs.declared.settings.Settings.{Settings}
use Rattle.cli_text.specs.Cli as outline
use Rattle.gcode_text.specs.Gcode as program
use Rattle.slice_work.specs.declared.want.Want.{Want}
use Rattle.slice_work.specs.declared.want.Want.TheVariants.{Outlines, Plan}
use Rattle.scad_slice.specs.Script.{heads, tails}

-- the head of the outlines
pub head_first : (want : Want) (s : Settings) (count : ℕ) (whole rest : Script) (old now : View)
    → Left whole (first (heads want s count) rest) old now
    → (behind : Script) × Left whole (first (Sends Cli (outline.head count) ∷ []) behind) old now
head_first Outlines s count whole rest old now left = (rest, left)
head_first Plan s count whole rest old now left = (first (Sends Gcode (program.head s.hot_end s.bed) ∷ []) rest, left)

-- their end
pub tail_first : (want : Want) (whole rest : Script) (old now : View) → Left whole (first (tails want) rest) old now
    → (behind : Script) × Left whole (first (Sends Cli outline.geometry_end ∷ []) behind) old now
tail_first Outlines whole rest old now left = (rest, left)
tail_first Plan whole rest old now left = (first (Sends Gcode program.end ∷ []) rest, left)
