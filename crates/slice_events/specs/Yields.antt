-- What the comparison of pairs of edges yields: how many were compared, how many cross, and the heights that are kept.
use Rattle.std.specs.Prelude.{◌≡◌, ◌<◌, ◌≤◌, cond, if◌then◌else◌, List, [], ◌∷◌, ◌++◌, ℕ, ◌+◌, ◌^◌}
use Rattle.scad_geom.specs.declared.point.Edge.{Edge}
use Rattle.scad_geom.specs.declared.level.Level.{Level}
use Rattle.scad_geom.specs.Meeting.{meeting}
use Rattle.slice_events.specs.declared.stay.Stay.{Stay}
use Rattle.slice_events.specs.declared.comparison.Found.{Found}
use Rattle.slice_events.specs.Limits.{crossing_limit}
use Rattle.slice_events.specs.Levels.{crosses}
use Rattle.slice_events.specs.KeptHeights.{is_kept}
use Rattle.slice_events.specs.Boxes.{boxes_meet}
use Rattle.slice_events.specs.Collection.{levels_in}
use Rattle.slice_events.specs.Stays.{edge_at, at_home}

pub record Yield : Type 0 where
  pub tests : ℕ
  pub count : ℕ
  pub levels : List Level

abbrev pub nothing : Yield
nothing = record { tests = 0; count = 0; levels = [] }

abbrev pub and_then : Yield → Yield → Yield
and_then y z = record { tests = y.tests + z.tests; count = y.count + z.count; levels = y.levels ++ z.levels }

-- of one comparison
abbrev pub yield_of : Edge → Edge → Yield
yield_of e f = record {
  tests = 1;
  count = cond (crosses e f) 1 0;
  levels
      = if is_kept e f then meeting e f ∷ [] else [];
}

-- of two stays: the edges are compared where the two are at home and the boxes meet
abbrev pub yield_at : List Edge → Stay → Stay → Yield
yield_at es s t = if at_home boxes_meet es s t then yield_of (edge_at es s.line) (edge_at es t.line) else nothing

-- of a stay with each of a list
abbrev pub yield_with : List Edge → Stay → List Stay → Yield
yield_with es s [] = nothing
yield_with es s (t ∷ ts) = and_then (yield_at es s t) (yield_with es s ts)

-- of all pairs of a list
abbrev pub yield_among : List Edge → List Stay → Yield
yield_among es [] = nothing
yield_among es (s ∷ ss) = and_then (yield_with es s ss) (yield_among es ss)

-- the counts have room for more
pub record HasRoom (found : Found) (y : Yield) : Type 0 where
  pub tests : found.tests + y.tests < 2 ^ 64
  pub count : found.count + y.count < 2 ^ 64

-- what was found grew by this; heights are kept as long as no more cross than is allowed
pub record HasYielded (before after : Found) (y : Yield) : Type 0 where
  pub tests : after.tests ≡ before.tests + y.tests
  pub count : after.count ≡ before.count + y.count
  pub levels : after.count ≤ crossing_limit
      → levels_in after.heights.items ≡ levels_in before.heights.items ++ y.levels

-- what is still to come makes up the whole
pub record IsLeft (before after : Found) (rest whole : Yield) : Type 0 where
  pub tests : after.tests + rest.tests ≡ before.tests + whole.tests
  pub count : after.count + rest.count ≡ before.count + whole.count
  pub levels : after.count ≤ crossing_limit
      → levels_in after.heights.items ++ rest.levels ≡ levels_in before.heights.items ++ whole.levels
