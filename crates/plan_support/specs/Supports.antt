-- Support runs: where a layer has nothing and a higher one has something.
use Rattle.std.specs.Prelude.{◌≡◌, true, false, not, Bool, ℕ, ◌*◌, List, [], ◌∷◌, ◌++◌, map, reverse, ℤ, pos, flat_map, All}
use Rattle.scad_geom.specs.declared.point.Pt.{Pt}
use Rattle.scad_geom.specs.Point.{whole}
use Rattle.scad_geom.specs.Segment.{segments}
use Rattle.scad_geom.specs.Loop.{sides}
use Rattle.scad_geom.specs.Winding.{wind}
use Rattle.scad_geom.specs.Near.{IsClear}
use Rattle.plan_infill.specs.declared.run.Run.{Run}
use Rattle.plan_support.specs.Rows.{Row, runs_at, AreRowsOf}
use Rattle.plan_support.specs.Spans.{point_at, row_of}
use Rattle.plan_support.specs.On.{is_on}

-- outlines don't wind round a whole point, and no point of a side lies within the gap of it along both axes, its border
-- counted
pub record IsFree (outlines : List (List Pt)) (gap : ℕ) (q : Pt) : Type 0 where
  pub outside : wind (whole q) (segments (flat_map sides outlines)) ≡ pos 0
  pub clear : All (λ e. IsClear (pos (2 * gap)) (whole q) (whole e.a) (whole e.b)) (flat_map sides outlines)

-- the point (x, y) is covered, and it is free
pub record IsSupported (outlines : List (List Pt)) (cover : List Row) (gap : ℕ) (x y : ℤ) : Type 0 where
  pub covered : is_on (runs_at y cover) x ≡ true
  pub free : IsFree outlines gap (point_at x y)

-- the point (x, y) lies on one of the runs, and it is free
pub record IsFreeOn (outlines : List (List Pt)) (gap : ℕ) (y : ℤ) (runs : List Run) (x : ℤ) : Type 0 where
  pub on : is_on runs x ≡ true
  pub free : IsFree outlines gap (point_at x y)

-- a run as a path, to the right and to the left
abbrev pub rightwards : ℤ → Run → List Pt
rightwards y r = point_at r.from y ∷ point_at r.to y ∷ []

abbrev pub leftwards : ℤ → Run → List Pt
leftwards y r = point_at r.to y ∷ point_at r.from y ∷ []

-- the runs of a row as paths, to the right, or from the last on and to the left
abbrev pub row_paths : Bool → Row → List (List Pt)
row_paths true r = map (rightwards r.y) r.runs
row_paths false r = map (leftwards r.y) (reverse r.runs)

-- those of rows: of the first one the one way, of the second the other way and so on
abbrev pub paths_of : Bool → List Row → List (List Pt)
paths_of right [] = []
paths_of right (r ∷ rs) = row_paths right r ++ paths_of (not right) rs

-- which way the row behind rows goes
abbrev pub way_behind : Bool → List Row → Bool
way_behind right [] = right
way_behind right (r ∷ rs) = way_behind (not right) rs

-- to paths those of a row are added, where it has runs; then the next row goes this way
pub record AddsRow (right : Bool) (row : Row) (old new : List (List Pt)) (next : Bool) : Type 0 where
  pub added : new ≡ old ++ paths_of right (row_of row.y row.runs)
  pub way : next ≡ way_behind right (row_of row.y row.runs)

-- the support runs of a layer, each at least so long, as paths in their order
pub record AreSupports (outlines : List (List Pt)) (cover : List Row) (gap least : ℕ) (paths : List (List Pt)) : Type 0
  where
    pub rows : List Row
    pub are_rows : AreRowsOf (IsSupported outlines cover gap) least rows
    pub paths_are : paths ≡ paths_of true rows
