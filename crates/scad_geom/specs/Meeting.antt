-- Where two edges meet that aren't parallel.
use Rattle.std.specs.Prelude.{Bool, not, ◌&&◌, ◌||◌, if◌then◌else◌, ℤ, pos, neg_ℤ, int_lt, int_le}
use Rattle.scad_geom.specs.declared.point.Edge.{Edge}
use Rattle.scad_geom.specs.declared.level.Level.{Level}
use Rattle.scad_geom.specs.Line.{low, high, left_of, lean, apart}
use Rattle.scad_geom.specs.Sign.{is_zero}

-- whether the ends of f lie on both sides of the line of e, or on it
unfoldable pub straddles : Edge → Edge → Bool
straddles e f =
    let s : ℤ = left_of e (low f).x (low f).y (pos 1) in
    let t : ℤ = left_of e (high f).x (high f).y (pos 1) in
    (int_le s (pos 0) && int_le (pos 0) t) || (int_le (pos 0) s && int_le t (pos 0))

-- whether two edges that aren't parallel have a common point
unfoldable pub meets : Edge → Edge → Bool
meets e f = not (is_zero (lean e f)) && (straddles e f && straddles f e)

-- the height of the common point of the lines of two edges that aren't parallel
unfoldable pub meeting : Edge → Edge → Level
meeting e f = if int_lt (pos 0) (lean e f) then record { n = neg_ℤ (apart e f); d = lean e f } else record { n = apart e f; d = neg_ℤ (lean e f) }
