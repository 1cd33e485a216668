-- Distinct points of points in range are in range, and small enough for what is done with them.
use Rattle.std.proofs.Common.{◌≡◌, ℕ, ◌≤◌, true, ◌&&◌, List, sym, arith, subst, All}
use Rattle.std.specs.Prelude.{IsTrue, nat_le, unsigned_abs}
use Rattle.std.specs.List.{list_all}
use Rattle.std.proofs.lemmas.Bool.{and_parts}
use Rattle.std.proofs.lemmas.Bool.Decides.{nat_tests}
use Rattle.std.proofs.lemmas.List.Elements.{All-from_recursion}
use Rattle.scad_geom.specs.Limits.{point_limit}
use Rattle.scad_geom.specs.PointRange.{is_in_range}
use Rattle.scad_geom.specs.declared.point3.Pt3.{Pt3}
use Rattle.scad_hull.specs.Distinct.{distinct}
use Rattle.scad_hull.specs.Space.{space_cmp, IsSmall, HasRoom}
use Rattle.scad_hull.proofs.Distincts.{distinct_keeps}
use Rattle.scad_hull.proofs.FacePlanes.{all_changed}
use Rattle.scad_hull.proofs.FirstFaces.{told_all}
use Rattle.scad_hull.proofs.Lines.{each_of}

at_most : (a b : ℕ) → nat_le a b ≡ true → a ≤ b
at_most a b e = grind (arith, nat_tests)

small_of : (p : Pt3) → is_in_range p ≡ true → IsSmall p
small_of p e =
    let first = and_parts (nat_le (unsigned_abs p.x) point_limit) (nat_le (unsigned_abs p.y) point_limit && nat_le (unsigned_abs p.z) point_limit) e in
    let rest = and_parts (nat_le (unsigned_abs p.y) point_limit) (nat_le (unsigned_abs p.z) point_limit) first.1 in
    let x = at_most (unsigned_abs p.x) point_limit first.0 in
    let y = at_most (unsigned_abs p.y) point_limit rest.0 in
    let z = at_most (unsigned_abs p.z) point_limit rest.1 in
    record { x = omega arith; y = omega arith; z = omega arith }

room_of : (p : Pt3) → is_in_range p ≡ true → HasRoom p
room_of p e =
    let first = and_parts (nat_le (unsigned_abs p.x) point_limit) (nat_le (unsigned_abs p.y) point_limit && nat_le (unsigned_abs p.z) point_limit) e in
    let x = at_most (unsigned_abs p.x) point_limit first.0 in
    record { x = omega arith }

pub small_all : (qs : List Pt3) → IsTrue (list_all is_in_range qs) → All IsSmall qs
small_all qs e = All-from_recursion IsSmall qs (all_changed small_of qs (each_of is_in_range qs e))

pub room_all : (qs : List Pt3) → IsTrue (list_all is_in_range qs) → All HasRoom qs
room_all qs e = All-from_recursion HasRoom qs (all_changed room_of qs (each_of is_in_range qs e))

pub range_kept : (points qs : List Pt3) → IsTrue (list_all is_in_range points) → qs ≡ distinct space_cmp points
    → IsTrue (list_all is_in_range qs)
range_kept points qs h e =
    subst (λ ps. list_all is_in_range ps ≡ true) (sym e)
    (told_all is_in_range (distinct space_cmp points)
    (distinct_keeps space_cmp (λ p. is_in_range p ≡ true) points (each_of is_in_range points h)))

pub small_kept : (points qs : List Pt3) → IsTrue (list_all is_in_range points) → qs ≡ distinct space_cmp points
    → All IsSmall qs
small_kept points qs h e = small_all qs (range_kept points qs h e)

pub room_kept : (points qs : List Pt3) → IsTrue (list_all is_in_range points) → qs ≡ distinct space_cmp points
    → All HasRoom qs
room_kept points qs h e = room_all qs (range_kept points qs h e)
