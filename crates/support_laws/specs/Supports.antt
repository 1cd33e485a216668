-- What stands below the outlines of higher layers on support lines, and the support runs of a layer.
use Rattle.std.specs.Prelude.{◌≡◌, ◌<◌, ◌+◌, ℕ, true, List, [], length, drop, slice_index_or, ℤ, Contains}
use Rattle.scad_geom.specs.declared.point.Pt.{Pt}
use Rattle.plan_infill.specs.Multiple.{IsMultiple}
use Rattle.plan_support.specs.Rows.{Row, AreRowsOf}
use Rattle.plan_support.specs.Spans.{point_at, IsWound}
use Rattle.plan_support.specs.Supports.{IsFree, paths_of}

-- the outlines of some layer of these wind round a whole point
pub record IsBelow (above : List (List (List Pt))) (q : Pt) : Type 0 where
  pub outlines : List (List Pt)
  pub there : Contains above outlines
  pub wound : IsWound outlines q

-- the point (x, y) of a support line stands below something of a higher layer
pub record IsOverhung (above : List (List (List Pt))) (spacing : ℕ) (x y : ℤ) : Type 0 where
  pub line : IsMultiple spacing y
  pub below : IsBelow above (point_at x y)

-- and its own layer's outlines leave it free, by the gap
pub record NeedsSupport (above : List (List (List Pt))) (outlines : List (List Pt)) (spacing gap : ℕ) (x y : ℤ) : Type 0
  where
    pub overhung : IsOverhung above spacing x y
    pub free : IsFree outlines gap (point_at x y)

-- the support runs of a layer, each at least so long, as paths in their order
pub record AreSupportsBelow (above : List (List (List Pt))) (outlines : List (List Pt)) (spacing gap least : ℕ)
    (paths : List (List Pt))
    : Type 0 where
  pub rows : List Row
  pub are_rows : AreRowsOf (NeedsSupport above outlines spacing gap) least rows
  pub paths_are : paths ≡ paths_of true rows

-- of each of all layers, the first one being 0, the stretches of points that stand below higher ones
pub record AreOverhung (all : List (List (List Pt))) (spacing : ℕ) (covers : List (List Row)) : Type 0 where
  pub as_many : length covers ≡ length all
  pub each : (n : ℕ) → n < length all → AreRowsOf (IsOverhung (drop (n + 1) all) spacing) 0 (slice_index_or covers n [])
