-- Laws of what stands below higher layers, and of support runs.
use Rattle.std.specs.Prelude.{◌≡◌, ◌<◌, ◌+◌, ℕ, List, [], length, drop, slice_index_or}
use Rattle.scad_geom.specs.declared.point.Pt.{Pt}
use Rattle.plan_support.specs.Rows.{Row}
use Rattle.plan_support.specs.Spans.{AreSpans}
use Rattle.plan_support.specs.Covers.{AreCovers}
use Rattle.plan_support.specs.Supports.{AreSupports}
use Rattle.support_laws.specs.Supports.{AreOverhung, AreSupportsBelow}

-- the rows of each layer are the stretches of support lines that its outlines wind round
pub record AreSpansOf (all : List (List (List Pt))) (spacing : ℕ) (layers : List (List Row)) : Type 0 where
  pub as_many : length layers ≡ length all
  pub each : (n : ℕ) → n < length all → AreSpans (slice_index_or all n []) spacing (slice_index_or layers n [])

-- layers have stretches below higher ones
pub record HasOverhung (all : List (List (List Pt))) (spacing : ℕ) : Type 0 where
  pub covers : List (List Row)
  pub are_overhung : AreOverhung all spacing covers

-- a layer has support runs
pub record HasSupports (above : List (List (List Pt))) (outlines : List (List Pt)) (spacing gap least : ℕ) : Type 0
  where
    pub paths : List (List Pt)
    pub are_supports : AreSupportsBelow above outlines spacing gap least paths

-- ---- the laws
-- What lies below runs of higher layers, where the runs are all that outlines wind round, stands below the outlines of
-- higher layers.
abbrev pub CoversAreOverhung : Type 0
CoversAreOverhung =
    (all : List (List (List Pt))) (spacing : ℕ) (layers covers : List (List Row)) → 0 < spacing
    → AreSpansOf all spacing layers → AreCovers layers covers → AreOverhung all spacing covers

-- Support runs over what stands below higher layers are a layer's.
abbrev pub RunsAreSupports : Type 0
RunsAreSupports =
    (all : List (List (List Pt))) (spacing gap least n : ℕ) (covers : List (List Row)) (paths : List (List Pt))
    → 0 < spacing → AreOverhung all spacing covers → n < length all
    → AreSupports (slice_index_or all n []) (slice_index_or covers n []) gap least paths
    → AreSupportsBelow (drop (n + 1) all) (slice_index_or all n []) spacing gap least paths

-- Layers have stretches below higher ones,
abbrev pub OverhungAreThere : Type 0
OverhungAreThere = (all : List (List (List Pt))) (spacing : ℕ) → 0 < spacing → HasOverhung all spacing

-- and one list of them for each.
abbrev pub OverhungAreOne : Type 0
OverhungAreOne =
    (all : List (List (List Pt))) (spacing : ℕ) (a b : List (List Row)) → AreOverhung all spacing a
    → AreOverhung all spacing b → a ≡ b

-- A layer has support runs,
abbrev pub SupportsAreThere : Type 0
SupportsAreThere =
    (above : List (List (List Pt))) (outlines : List (List Pt)) (spacing gap least : ℕ) → 0 < spacing
    → HasSupports above outlines spacing gap least

-- and one list of them.
abbrev pub SupportsAreOne : Type 0
SupportsAreOne =
    (above : List (List (List Pt))) (outlines : List (List Pt)) (spacing gap least : ℕ) (a b : List (List Pt))
    → AreSupportsBelow above outlines spacing gap least a → AreSupportsBelow above outlines spacing gap least b → a ≡ b
