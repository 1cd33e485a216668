-- Sums over the edges of a list that are left.
use Rattle.std.proofs.Common.{◌≡◌, ◌+◌, ◌<◌, ℕ, ℤ, ◌+ℤ◌, List, drop, get_or, length, ap, sym, ◌∙◌}
use Rattle.std.specs.Prelude.{true}
use Rattle.std.proofs.lemmas.List.{at_drop_more}
use Rattle.std.proofs.Math.IntN.{+ℤ_assoc}
use Rattle.scad_geom.specs.declared.point.Edge.{Edge}
use Rattle.scad_geom.specs.Point.{Point, whole}
use Rattle.scad_geom.specs.Segment.{segments}
use Rattle.scad_geom.specs.Winding.{turn, wind}

-- one more turn goes from what is left to the sum
pub wind_more : (es : List Edge) (i : ℕ) (d : Edge) (p : Point) (sum : ℤ) → i < length es →
    sum +ℤ wind p (segments (drop i es))
    ≡ (sum +ℤ turn true true p (whole (get_or es i d).a) (whole (get_or es i d).b)) +ℤ wind p
    (segments (drop (i + 1) es))
wind_more es i d p sum here =
    ap (λ rest. sum +ℤ rest) (at_drop_more (λ left. wind p (segments left)) es i d here)
    ∙ sym (+ℤ_assoc sum _ _)
