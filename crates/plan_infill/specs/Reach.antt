-- Where a row lies near to an edge: where the edge comes within the octagon round a point of the row, without its
-- border.
use Rattle.std.specs.Prelude.{◌↔◌, Bool, ◌&&◌, int_lt, ℕ, ℤ, pos, ◌+ℤ◌, ◌-ℤ◌, ◌*ℤ◌, ◌<ℤ◌, ◌≤ℤ◌}
use Rattle.std.specs.Int.{int_min, int_max}
use Rattle.scad_geom.specs.declared.point.Edge.{Edge}
use Rattle.scad_geom.specs.Line.{low, high, rise, run, x_at}
use Rattle.scad_ring.specs.Octagon.{slant, reach}
use Rattle.scad_ring.specs.Tests.{breadth}
use Rattle.plan_infill.specs.declared.stretch.Stretch.{Stretch}

-- the edge with x and y exchanged
abbrev pub exchanged : Edge → Edge
exchanged e = record { a = record { x = e.a.y; y = e.a.x }; b = record { x = e.b.y; y = e.b.x } }

-- whether an edge has a point at a height nearer than c to that of a row; none is nearer than 0
abbrev pub is_beside : ℕ → ℤ → Edge → Bool
is_beside c y e = int_lt (pos 0) (pos c) && (int_lt ((low e).y -ℤ y) (pos c) && int_lt (y -ℤ (high e).y) (pos c))

-- how far along a row the octagon's corners reach from an edge's line, times its rise
abbrev pub line_reach : ℕ → Edge → ℤ
line_reach c e = breadth (pos c) (pos (slant c)) (run e) (rise e)

-- z lies less than w from what lies between a and b
pub record IsAround (w a b z : ℤ) : Type 0 where
  pub from : (int_min a b -ℤ w) <ℤ z
  pub to : z <ℤ (int_max a b +ℤ w)

-- x lies less than the line's reach from the place where an edge's line passes the height y
pub record IsBesideLine (c : ℕ) (y : ℤ) (e : Edge) (x : ℤ) : Type 0 where
  pub from : (x_at e y (pos 1) -ℤ line_reach c e) <ℤ (x *ℤ rise e)
  pub to : (x *ℤ rise e) <ℤ (x_at e y (pos 1) +ℤ line_reach c e)

-- x, x + y and x - y aren't far from those of an edge's ends
pub record IsBesideEnds (c : ℕ) (y : ℤ) (e : Edge) (x : ℤ) : Type 0 where
  pub across : IsAround (pos c) (low e).x (high e).x x
  pub sum : IsAround (pos (reach c)) ((low e).x +ℤ (low e).y) ((high e).x +ℤ (high e).y) (x +ℤ y)
  pub difference : IsAround (pos (reach c)) ((low e).x -ℤ (low e).y) ((high e).x -ℤ (high e).y) (x -ℤ y)

-- an edge that lies beside a row comes near to its point at x: by its ends and, where it isn't flat, by its line
pub record IsInReach (c : ℕ) (y : ℤ) (e : Edge) (x : ℤ) : Type 0 where
  pub ends : IsBesideEnds c y e x
  pub line : pos 0 <ℤ rise e → IsBesideLine c y e x

-- the places of a stretch are those with a property
abbrev pub AreThose : (ℤ → Type 0) → Stretch → Type 0
AreThose P s = (x : ℤ) → ((s.from ≤ℤ x) × (x <ℤ s.until)) ↔ P x

-- the places that, moved on by a way, lie less than w from what lies between a and b
abbrev pub around : ℤ → ℤ → ℤ → ℤ → Stretch
around w a b way = record { from = ((int_min a b -ℤ w) +ℤ pos 1) -ℤ way; until = (int_max a b +ℤ w) -ℤ way }

-- the places of a row to which an edge that lies beside it comes near
abbrev pub IsReached : ℕ → ℤ → Edge → Stretch → Type 0
IsReached c y e s = AreThose (IsInReach c y e) s
