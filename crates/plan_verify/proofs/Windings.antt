-- Winding numbers of two lists, and how large they are.
use Rattle.std.proofs.Common.{◌≡◌, ◌≤◌, Bool, true, false, [], ◌∷◌, ◌++◌, List, length, ap, sym, ◌∙◌, arith, ℤ, pos, ◌+ℤ◌, ◌-ℤ◌, ◌*ℤ◌}
use Rattle.std.specs.Prelude.{unsigned_abs, if◌then◌else◌}
use Rattle.std.proofs.lemmas.Int.{ints}
use Rattle.std.proofs.Math.IntN.{+ℤ_assoc, +ℤ_idl}
use Rattle.scad_geom.specs.declared.point.Edge.{Edge}
use Rattle.scad_geom.specs.Point.{Point, whole}
use Rattle.scad_geom.specs.Segment.{segments}
use Rattle.scad_geom.specs.Winding.{counted, is_over, is_beyond, passage_by, side_by, turn, wind}

pub wind_both : (p : Point) (es fs : List Edge)
    → wind p (segments (es ++ fs)) ≡ wind p (segments es) +ℤ wind p (segments fs)
wind_both p [] fs = sym (+ℤ_idl (wind p (segments fs)))
wind_both p (e ∷ es) fs = ap (λ (z : ℤ). turn true true p (whole e.a) (whole e.b) +ℤ z) (wind_both p es fs)
    ∙ sym
    (+ℤ_assoc (turn true true p (whole e.a) (whole e.b)) (wind p (segments es)) (wind p (segments fs)))

turn_size : (p a b : Point) → unsigned_abs (turn true true p a b) ≤ 1
unfolding turn passage_by
turn_size p a b = by_tests (is_over true p a) (is_over true p b)
    (is_beyond true ((counted (is_over true p b) -ℤ counted (is_over true p a)) *ℤ side_by p a b))
  where
    by_tests : (s t u : Bool) → unsigned_abs (if u then counted t -ℤ counted s else pos 0) ≤ 1
    by_tests true true true = omega arith
    by_tests true true false = omega arith
    by_tests true false true = omega arith
    by_tests true false false = omega arith
    by_tests false true true = omega arith
    by_tests false true false = omega arith
    by_tests false false true = omega arith
    by_tests false false false = omega arith

pub wind_size : (p : Point) (es : List Edge) → unsigned_abs (wind p (segments es)) ≤ length es
wind_size p [] = omega arith
wind_size p (e ∷ es) =
    let t = turn_size p (whole e.a) (whole e.b) in
    let w = wind_size p es in
    omega (arith, ints, t, w)
