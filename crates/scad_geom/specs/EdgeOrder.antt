-- The order of edges at a height that they reach; none is flat.
use Rattle.std.specs.Prelude.{◌≡◌, ◌⊎◌, ◌*ℤ◌, ◌<ℤ◌}
use Rattle.scad_geom.specs.declared.point.Edge.{Edge}
use Rattle.scad_geom.specs.declared.level.Level.{Level}
use Rattle.scad_geom.specs.Line.{rise, run, x_at}

-- at a height, e lies to the left of f, or at the same place and on the way up more to the left
abbrev pub IsBefore : Level → Edge → Edge → Type 0
IsBefore at e f = ((x_at e at.n at.d *ℤ rise f) <ℤ (x_at f at.n at.d *ℤ rise e)) ⊎ ((x_at e at.n at.d *ℤ rise f ≡ x_at f at.n at.d *ℤ rise e) × ((run e *ℤ rise f) <ℤ (run f *ℤ rise e)))

-- at a height, e and f lie at the same place, and they are parallel
abbrev pub AreAligned : Level → Edge → Edge → Type 0
AreAligned at e f = (x_at e at.n at.d *ℤ rise f ≡ x_at f at.n at.d *ℤ rise e) × (run e *ℤ rise f ≡ run f *ℤ rise e)
