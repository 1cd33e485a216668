-- Which places of a row lie near to a side, or are taken.
use Rattle.std.specs.Prelude.{◌≡◌, true, false, Option, option_to_list, ℕ, ◌*◌, List, ◌++◌, ℤ, pos, ◌+ℤ◌, ◌-ℤ◌, ◌*ℤ◌, ◌<ℤ◌, ◌≤ℤ◌, ◌↔◌, unsigned_abs, All}
use Rattle.std.specs.Int.{int_min, int_max}
use Rattle.scad_geom.specs.declared.point.Pt.{Pt}
use Rattle.scad_geom.specs.declared.point.Edge.{Edge}
use Rattle.scad_geom.specs.Point.{whole}
use Rattle.scad_geom.specs.Line.{low, high, rise, run, x_at}
use Rattle.scad_geom.specs.Near.{MeetsBox, IsClear}
use Rattle.plan_infill.specs.declared.run.Run.{Run}
use Rattle.plan_support.specs.declared.reach.Reach.{Reach}
use Rattle.plan_support.specs.Spans.{point_at}
use Rattle.plan_support.specs.On.{is_on}
use Rattle.plan_support.specs.Supports.{IsFree}

-- a place that a run can have
pub record IsPlace (x : ℤ) : Type 0 where
  pub from : (pos 0 -ℤ pos 2147483648) ≤ℤ x
  pub to : x ≤ℤ pos 2147483647

-- the places of the row at a height that lie within the gap of some point of an edge along both axes
pub record AreNear (e : Edge) (y : ℤ) (gap : ℕ) (found : Option Run) : Type 0 where
  pub some : All (λ r. r.from ≤ℤ r.to) (option_to_list found)
  pub meets : (x : ℤ) → IsPlace x → is_on (option_to_list found) x ≡ true
      → MeetsBox (pos (2 * gap)) (whole (point_at x y)) (whole e.a) (whole e.b)
  pub clear : (x : ℤ) → IsPlace x → is_on (option_to_list found) x ≡ false
      → IsClear (pos (2 * gap)) (whole (point_at x y)) (whole e.a) (whole e.b)

-- to runs those places are added
pub record AddsNear (e : Edge) (y : ℤ) (gap : ℕ) (old new : List Run) : Type 0 where
  pub found : Option Run
  pub near : AreNear e y gap found
  pub added : new ≡ old ++ option_to_list found

-- the places of a row that aren't free
pub record AreHoles (outlines : List (List Pt)) (y : ℤ) (gap : ℕ) (holes : List Run) : Type 0 where
  pub free : (x : ℤ) → IsPlace x → is_on holes x ≡ false → IsFree outlines gap (point_at x y)
  pub taken : (x : ℤ) → IsPlace x → is_on holes x ≡ true → IsFree outlines gap (point_at x y) → ⊥

-- a place lies in a reach
pub record IsIn (r : Reach) (x : ℤ) : Type 0 where
  pub from : r.from ≤ℤ x
  pub to : x ≤ℤ r.to

-- at most the gap to the left of both ends of an edge, or to the right
pub record IsBesideEnds (e : Edge) (gap : ℕ) (x : ℤ) : Type 0 where
  pub from : (int_min (low e).x (high e).x -ℤ pos gap) ≤ℤ x
  pub to : x ≤ℤ (int_max (low e).x (high e).x +ℤ pos gap)

-- how far the corners of the square round a place reach to the sides of an edge's line, times the edge's rise
abbrev pub line_reach : Edge → ℕ → ℤ
line_reach e gap = pos gap *ℤ (pos (unsigned_abs (run e)) +ℤ rise e)

-- no farther from the place where an edge's line passes the height
pub record IsBesideLine (e : Edge) (y : ℤ) (gap : ℕ) (x : ℤ) : Type 0 where
  pub from : (x_at e y (pos 1) -ℤ line_reach e gap) ≤ℤ (x *ℤ rise e)
  pub to : (x *ℤ rise e) ≤ℤ (x_at e y (pos 1) +ℤ line_reach e gap)

-- the reach of an edge: places that are beside its ends, and beside its line where it rises
abbrev pub IsReach : Edge → ℤ → ℕ → Reach → Type 0
IsReach e y gap r = (x : ℤ) → IsIn r x ↔ (IsBesideEnds e gap x × (pos 0 <ℤ rise e → IsBesideLine e y gap x))

-- the run of the places that a run can have
pub record IsClipped (from to : ℤ) (found : Option Run) : Type 0 where
  pub some : All (λ r. r.from ≤ℤ r.to) (option_to_list found)
  pub is : (x : ℤ) → IsPlace x → (is_on (option_to_list found) x ≡ true) ↔ ((from ≤ℤ x) × (x ≤ℤ to))

-- the ends of a run are places that a run can have
pub record HasPlaces (r : Run) : Type 0 where
  pub from : IsPlace r.from
  pub to : IsPlace r.to
