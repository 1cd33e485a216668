-- The boxes of edges, and which pairs of edges are compared: those whose boxes have a common point.
use Rattle.std.specs.Prelude.{Bool, cond, ◌&&◌, List, [], ◌∷◌, ℕ, ◌+◌, ◌-◌, ◌^◌, ℤ, int_lt, int_le, min, count_by}
use Rattle.scad_geom.specs.declared.point.Edge.{Edge}
use Rattle.scad_geom.specs.declared.level.LeafEdge.{LeafEdge}
use Rattle.scad_geom.specs.Line.{low, high}

-- the x of an edge's leftmost point
unfoldable pub left_end : Edge → ℤ
left_end e = cond (int_lt e.b.x e.a.x) e.b.x e.a.x

-- the x of an edge's rightmost point
unfoldable pub right_end : Edge → ℤ
right_end e = cond (int_lt e.b.x e.a.x) e.a.x e.b.x

-- whether the boxes of two edges, borders included, have a common point
unfoldable pub boxes_meet : Edge → Edge → Bool
boxes_meet e f = (int_le (left_end e) (right_end f) && int_le (left_end f) (right_end e))
    && (int_le (low e).y (high f).y && int_le (low f).y (high e).y)

-- how many pairs of edges have such boxes
abbrev pub comparisons : List LeafEdge → ℕ
comparisons [] = 0
comparisons (e ∷ es) = count_by (λ f. boxes_meet e.edge f.edge) es + comparisons es

-- a number of 64 bits raised by another, or the greatest one
abbrev pub raised : ℕ → ℕ → ℕ
raised n by = min (n + by) (2 ^ 64 - 1)
