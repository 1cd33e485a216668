-- Lists of segments that are closed: at each point as many start as end.
use Rattle.std.specs.Prelude.{◌≡◌, ℕ, List, pos, ◌<ℤ◌, count_by}
use Rattle.scad_geom.specs.Point.{Point, is_same_point}
use Rattle.scad_geom.specs.Segment.{Segment}

-- how many segments start at a point
abbrev pub starts_at : Point → List Segment → ℕ
starts_at p ss = count_by (λ s. is_same_point p s.from) ss

-- how many end there
abbrev pub ends_at : Point → List Segment → ℕ
ends_at p ss = count_by (λ s. is_same_point p s.to) ss

-- at each point as many segments start as end
pub record IsBalanced (ss : List Segment) : Type 0 where
  pub each : (p : Point) → pos 0 <ℤ p.d → starts_at p ss ≡ ends_at p ss
