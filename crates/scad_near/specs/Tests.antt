-- The tests by which `near` decides. Only the contracts of its parts cite them; what it promises is said in Edges.
use Rattle.std.specs.Prelude.{Bool, ◌&&◌, ◌||◌, ℤ, pos, ◌-ℤ◌, ◌*ℤ◌, int_lt, int_le}
use Rattle.scad_geom.specs.declared.point.Pt.{Pt}
use Rattle.scad_geom.specs.declared.point.Edge.{Edge}

-- how far a point lies to the left of an edge's line, times the edge's length
unfoldable pub offset : Edge → Pt → ℤ
offset e p = (e.b.x -ℤ e.a.x) *ℤ (p.y -ℤ e.a.y) -ℤ (e.b.y -ℤ e.a.y) *ℤ (p.x -ℤ e.a.x)

-- the first two aren't above 0, the last two aren't below it, and the first lies below the third
unfoldable pub is_parted : ℤ → ℤ → ℤ → ℤ → Bool
is_parted to start from end =
    int_lt to from && (int_le to (pos 0) && (int_le start (pos 0) && (int_le (pos 0) from && int_le (pos 0) end)))

-- the ends of each lie on both sides of the other's line, or on it, and the lines aren't parallel
unfoldable pub crosses : Edge → Edge → Bool
crosses e f =
    is_parted (offset f e.b) (offset e f.a) (offset f e.a) (offset e f.b)
    || is_parted (offset f e.a) (offset e f.b) (offset f e.b) (offset e f.a)
