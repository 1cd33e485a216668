-- The line of an edge, read upwards: where the edge passes a height.
use Rattle.std.specs.Prelude.{cond, if◌then◌else◌, ℤ, ◌+ℤ◌, ◌-ℤ◌, ◌*ℤ◌, pos, negsuc, int_lt}
use Rattle.scad_geom.specs.declared.point.Pt.{Pt}
use Rattle.scad_geom.specs.declared.point.Edge.{Edge}

-- the lower end of an edge, the start of a flat one
unfoldable pub low : Edge → Pt
low e = cond (int_lt e.b.y e.a.y) e.b e.a

-- the upper end of an edge, the end of a flat one
unfoldable pub high : Edge → Pt
high e = cond (int_lt e.b.y e.a.y) e.a e.b

-- 1 for an edge that runs upwards or is flat, -1 for one that runs downwards
abbrev pub heading : Edge → ℤ
heading e = if int_lt e.b.y e.a.y then negsuc 0 else pos 1

-- how far an edge rises from its lower to its upper end
unfoldable pub rise : Edge → ℤ
rise e = (high e).y -ℤ (low e).y

-- how far an edge runs to the right on the way up
unfoldable pub run : Edge → ℤ
run e = (high e).x -ℤ (low e).x

-- what places the line of an edge: its points (x, y) are those with rise * x = run * y + offset
unfoldable pub offset : Edge → ℤ
offset e = rise e *ℤ (low e).x -ℤ run e *ℤ (low e).y

-- at the height y / d the line of an edge that isn't flat has the x that is this number over rise * d
unfoldable pub x_at : Edge → ℤ → ℤ → ℤ
x_at e y d = run e *ℤ y +ℤ offset e *ℤ d

-- above 0 where the point (x / d, y / d) lies to the left of an edge's line, 0 on it
unfoldable pub left_of : Edge → ℤ → ℤ → ℤ → ℤ
left_of e x y d = x_at e y d -ℤ rise e *ℤ x

-- above 0 where, on the way up, e runs more to the right than f; 0 where they are parallel
unfoldable pub lean : Edge → Edge → ℤ
lean e f = run e *ℤ rise f -ℤ run f *ℤ rise e

-- at the height y / d the line of e lies to the right of that of f by lean * y + apart * d over the product of the rises and d
unfoldable pub apart : Edge → Edge → ℤ
apart e f = offset e *ℤ rise f -ℤ offset f *ℤ rise e
