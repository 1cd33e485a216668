-- Convex hulls in the plane: the ring round points (x, y), counter-clockwise from the lowest and then leftmost, whose
-- corners are points of them.
use Rattle.std.specs.Prelude.{ℕ, List, length, Bool, true, false, Option, Some, None, Result, Ok, Err, if◌then◌else◌, nat_lt, ℤ}
use Rattle.std.specs.List.{list_all}
use Rattle.std.specs.Ordering.{int_cmp, ordering_then}
use Rattle.std.specs.declared.cmp.Ordering.{Ordering}
use Rattle.scad_geom.specs.Sign.{is_zero}
use Rattle.scad_hull.specs.declared.fault.HullFault.{HullFault}
use Rattle.scad_hull.specs.declared.fault.HullFault.TheVariants.{Points, Memory}
use Rattle.scad_hull.specs.Plane.{left}
use Rattle.scad_hull.specs.Chain.{ring_round}
use Rattle.scad_hull.specs.Distinct.{distinct}

-- the most distinct points of a hull
abbrev pub point_count_limit : ℕ
point_count_limit = 20000

-- the order by y, then x
abbrev pub flat_cmp : ℤ × ℤ → ℤ × ℤ → Ordering
flat_cmp p q = ordering_then (int_cmp p.1 q.1) (int_cmp p.0 q.0)

-- above 0 where r lies to the left of the way from p to q
abbrev pub flat_left : ℤ × ℤ → ℤ × ℤ → ℤ × ℤ → ℤ
flat_left = left (λ p. p.0) (λ p. p.1)

-- any three of the points lie on one line
abbrev pub are_on_line : List (ℤ × ℤ) → Bool
are_on_line ps = list_all (λ p. list_all (λ q. list_all (λ r. is_zero (flat_left p q r)) ps) ps) ps

-- the hull of distinct points: refused past the limit, none where they lie on one line
abbrev pub hull_of_distinct : List (ℤ × ℤ) → Result (Option (List (ℤ × ℤ))) HullFault
hull_of_distinct ps =
    if nat_lt point_count_limit (length ps) then Err (Points (length ps))
    else Ok (if are_on_line ps then None else Some (ring_round flat_left ps))

abbrev pub ring_hull_of : List (ℤ × ℤ) → Result (Option (List (ℤ × ℤ))) HullFault
ring_hull_of points = hull_of_distinct (distinct flat_cmp points)

-- the fault that stands for want of memory
abbrev pub is_memory : HullFault → Bool
is_memory Memory = true
is_memory _ = false
