-- To lie within so many halves along both axes is to differ by a point of a square.
use Rattle.std.proofs.Common.{List, [], ◌∷◌, arith}
use lib.IntN.{ℤ, pos}
use lib.Signed.{◌≤ℤ◌}
use Rattle.std.specs.List.{AllByRecursion}
use Rattle.std.proofs.lemmas.Int.{ints}
use Rattle.scad_geom.specs.Point.{Point}
use Rattle.scad_geom.specs.Segment.{Segment}
use Rattle.scad_geom.specs.Near.{mean, IsHalf, IsClose, IsClear}
use Rattle.winding_laws.specs.Region.{Holds, HoldsOrigin, square}
use Rattle.winding_laws.specs.Nearness.{seen_from, IsNear, IsFar, IsFarSegment, IsClearSegment}

pub held_by : (h : ℤ) (p : Point) → IsHalf h p.x p.d → IsHalf h p.y p.d → Holds (square h) p
held_by h p a b =
    let f = a.from in
    let g = a.to in
    let k = b.from in
    let l = b.to in
    (omega (arith, ints), (omega (arith, ints), (omega (arith, ints), (omega (arith, ints), tt))))

pub half_across : (h : ℤ) (p : Point) → Holds (square h) p → IsHalf h p.x p.d
half_across h p a =
    let f = a.0 in
    let g = a.1.0 in
    record { from = omega (arith, ints); to = omega (arith, ints) }

pub half_along : (h : ℤ) (p : Point) → Holds (square h) p → IsHalf h p.y p.d
half_along h p a =
    let f = a.1.1.0 in
    let g = a.1.1.1.0 in
    record { from = omega (arith, ints); to = omega (arith, ints) }

pub near_by_close : (h : ℤ) (q p : Point) → IsClose h q p → IsNear (square h) q p
near_by_close h q p c = held_by h (seen_from q p) c.across c.along

pub close_by_near : (h : ℤ) (q p : Point) → IsNear (square h) q p → IsClose h q p
close_by_near h q p n = record { across = half_across h (seen_from q p) n; along = half_along h (seen_from q p) n }

pub far_by_clear : (h : ℤ) (q a b : Point) → IsClear h q a b → IsFar (square h) q a b
far_by_clear h q a b c s t hs ht o n = c s t hs ht o (close_by_near h q (mean s t a b) n)

pub clear_by_far : (h : ℤ) (q a b : Point) → IsFar (square h) q a b → IsClear h q a b
clear_by_far h q a b f s t hs ht o = λ c. f s t hs ht o (near_by_close h q (mean s t a b) c)

pub far_segments : (h : ℤ) (q : Point) (ss : List Segment) → AllByRecursion (IsClearSegment h q) ss
    → AllByRecursion (IsFarSegment (square h) q) ss
far_segments h q [] c = tt
far_segments h q (s ∷ ss) c = (
  record { proper = c.0.proper; far = far_by_clear h q s.from s.to c.0.clear },
  far_segments h q ss c.1,
)

pub square_holds_origin : (h : ℤ) → pos 0 ≤ℤ h → HoldsOrigin (square h)
square_holds_origin h l = held_by h (record { x = pos 0; y = pos 0; d = pos 1 })
    (record { from = omega (arith, ints); to = omega (arith, ints) })
    (record { from = omega (arith, ints); to = omega (arith, ints) })
