-- What support runs keep from their layer's outlines.
use Rattle.std.specs.Prelude.{◌≡◌, ◌-◌, ◌*◌, ◌<◌, ℕ, List, flat_map, pos, ◌<ℤ◌, All}
use Rattle.scad_geom.specs.declared.point.Pt.{Pt}
use Rattle.scad_geom.specs.declared.point.Edge.{Edge}
use Rattle.scad_geom.specs.Point.{Point, whole}
use Rattle.scad_geom.specs.Segment.{segments}
use Rattle.scad_geom.specs.Loop.{sides}
use Rattle.scad_geom.specs.Winding.{wind}
use Rattle.scad_geom.specs.Near.{IsClear}
use Rattle.scad_geom.specs.Within.{IsWithin}
use Rattle.winding_laws.specs.Points.{IsOn}
use Rattle.slice_loops.specs.Lengths.{HasLength}
use Rattle.plan_layer.specs.Moves.{all_moves}
use Rattle.plan_support.specs.Supports.{IsFree}
use Rattle.support_laws.specs.Supports.{AreSupportsBelow}

-- outlines don't wind round q, and no point of a side of them lies within the gap of it along both axes
pub record StandsApart (outlines : List (List Pt)) (gap : ℕ) (q : Point) : Type 0 where
  pub outside : wind q (segments (flat_map sides outlines)) ≡ pos 0
  pub clear : All (λ e. IsClear (pos (2 * gap)) q (whole e.a) (whole e.b)) (flat_map sides outlines)

-- at each whole point of an edge outlines leave it free by the gap; with a gap each exact point of it stands apart from
-- them by one micrometre less
pub record KeepsApart (outlines : List (List Pt)) (gap : ℕ) (e : Edge) : Type 0 where
  pub free : (q : Pt) → IsOn (whole e.a) (whole e.b) (whole q) → IsFree outlines gap q
  pub apart : 0 < gap → (q : Point) → pos 0 <ℤ q.d → IsOn (whole e.a) (whole e.b) q → StandsApart outlines (gap - 1) q

-- ---- the laws
-- Each move along support runs keeps apart from its layer's outlines.
abbrev pub SupportsStandApart : Type 0
SupportsStandApart =
    (above : List (List (List Pt))) (outlines : List (List Pt)) (spacing gap least : ℕ) (paths : List (List Pt))
    → AreSupportsBelow above outlines spacing gap least paths → All (KeepsApart outlines gap) (all_moves paths)

-- It has a length, where each run is to have one.
abbrev pub SupportsHaveLengths : Type 0
SupportsHaveLengths =
    (above : List (List (List Pt))) (outlines : List (List Pt)) (spacing gap least : ℕ) (paths : List (List Pt))
    → 0 < least → AreSupportsBelow above outlines spacing gap least paths → All HasLength (all_moves paths)

-- Support runs lie no farther out than what they stand below.
abbrev pub SupportsLieWithin : Type 0
SupportsLieWithin =
    (above : List (List (List Pt))) (outlines : List (List Pt)) (spacing gap least limit : ℕ) (paths : List (List Pt))
    → All (λ o. All (λ l. All (IsWithin limit) l) o) above → AreSupportsBelow above outlines spacing gap least paths
    → All (λ path. All (IsWithin limit) path) paths
