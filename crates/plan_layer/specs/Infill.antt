-- The infill of a layer: the runs of its lines, in the order and the direction in which they are printed.
use Rattle.std.specs.Prelude.{◌≡◌, ◌≢◌, Bool, true, false, not, ◌==◌, if◌then◌else◌, ℕ, ◌*◌, ◌%◌, List, [], ◌∷◌}
use Rattle.std.specs.Prelude.{◌++◌, map, reverse, All, Contains, ℤ, ◌<ℤ◌}
use Rattle.scad_geom.specs.declared.point.Pt.{Pt}
use Rattle.plan_infill.specs.declared.line.Line.{Line}
use Rattle.plan_infill.specs.declared.line.Line.TheVariants.{Row, Column}
use Rattle.plan_infill.specs.declared.run.Run.{Run}
use Rattle.plan_infill.specs.Multiple.{IsMultiple}
use Rattle.plan_infill.specs.Runs.{point_on, IsRun, AreRuns}
use Rattle.scad_words.specs.declared.settings.Settings.{Settings}

-- even layers have rows, odd ones columns
abbrev pub has_rows : ℕ → Bool
has_rows layer = layer % 2 == 0

-- the line of a layer at a coordinate
abbrev pub line_at : ℕ → ℤ → Line
line_at layer z = if has_rows layer then Row z else Column z

-- infill lies inside of all walls
abbrev pub depth : Settings → ℕ
depth s = s.walls * s.line_width

-- a run of the line at a coordinate, at least as long as a line is wide
abbrev pub IsLayerRun : List (List Pt) → ℕ → Settings → ℤ → Run → Type 0
IsLayerRun outlines layer s z r = IsRun outlines (depth s) (line_at layer z) s.line_width r

-- the coordinate of a line, and its runs
pub record LineRuns : Type 0 where
  pub at : ℤ
  pub runs : List Run

-- a line of infill, at a whole multiple of the spacing, with all its runs, of which there are some
pub record IsFilled (outlines : List (List Pt)) (layer : ℕ) (s : Settings) (l : LineRuns) : Type 0 where
  pub multiple : IsMultiple s.infill_spacing l.at
  pub runs : AreRuns outlines (depth s) (line_at layer l.at) s.line_width l.runs
  pub some : l.runs ≢ []

-- each line lies below those after it, or to their left
abbrev pub AreUpwards : List LineRuns → Type 0
AreUpwards [] = Unit {0}
AreUpwards (l ∷ ls) = All (λ m. l.at <ℤ m.at) ls × AreUpwards ls

-- all lines that have runs, upwards or to the right
pub record AreFilled (outlines : List (List Pt)) (layer : ℕ) (s : Settings) (lines : List LineRuns) : Type 0 where
  pub upwards : AreUpwards lines
  pub each : All (IsFilled outlines layer s) lines
  pub all : (z : ℤ) (r : Run) → IsMultiple s.infill_spacing z → IsLayerRun outlines layer s z r
      → Contains (map (λ l. l.at) lines) z

-- the line at a coordinate, where it has runs
abbrev pub line_of : ℤ → List Run → List LineRuns
line_of z [] = []
line_of z (r ∷ rs) = record { at = z; runs = r ∷ rs } ∷ []

-- to lines that one is added
pub record AddsLine (outlines : List (List Pt)) (layer : ℕ) (s : Settings) (z : ℤ) (old new : List LineRuns) : Type 0
  where
    pub runs : List Run
    pub are_runs : AreRuns outlines (depth s) (line_at layer z) s.line_width runs
    pub added : new ≡ old ++ line_of z runs

-- a run as a path, upwards or to the right, and the other way
abbrev pub forwards : Line → Run → List Pt
forwards line r = point_on line r.from ∷ point_on line r.to ∷ []

abbrev pub backwards : Line → Run → List Pt
backwards line r = point_on line r.to ∷ point_on line r.from ∷ []

-- the runs of a line as paths, upwards, or from the last on and downwards
abbrev pub line_paths : Bool → Line → List Run → List (List Pt)
line_paths true line rs = map (forwards line) rs
line_paths false line rs = map (backwards line) (reverse rs)

-- those of lines: of the first one the one way, of the second the other way and so on
abbrev pub infill_paths : ℕ → Bool → List LineRuns → List (List Pt)
infill_paths layer up [] = []
infill_paths layer up (l ∷ ls) = line_paths up (line_at layer l.at) l.runs ++ infill_paths layer (not up) ls
