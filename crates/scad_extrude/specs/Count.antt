-- How many triangles an extrusion has, as its form alone tells.
use Rattle.std.specs.Prelude.{ℕ, ◌-◌, ◌*◌, ◌≤◌}
use Rattle.scad_cos.specs.Circle.{fragment_limit}
use Rattle.scad_extrude.specs.declared.count.FlatForm.{FlatForm}
use Rattle.scad_extrude.specs.declared.count.FlatForm.TheVariants.{Linear, Turned}

-- the triangles of a prism over an outline of so many points, its top and bottom included, and two for each point of an
-- outline and each turn
abbrev pub triangles_of : FlatForm → ℕ
triangles_of (Linear points) = 4 * points - 4
triangles_of (Turned points turns) = 2 * turns * points

-- three at least, and no more than a circle has fragments
pub record IsPart (n : ℕ) : Type 0 where
  pub some : 3 ≤ n
  pub few : n ≤ fragment_limit

-- so many points, and so many turns where there are some
abbrev pub HasParts : FlatForm → Type 0
HasParts (Linear points) = IsPart points
HasParts (Turned points turns) = IsPart points × IsPart turns
