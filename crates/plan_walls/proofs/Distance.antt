-- Walls keep their distance from the outlines that they follow: each of their points has a border point of their
-- shape less than one from it, and no side comes near to that.
use Rattle.std.proofs.Common.{◌≡◌, ◌≤◌, arith, true, true≢false, not, List, get_or, flat_map, sym, ◌∙◌, subst, ℤ, pos}
use Rattle.std.specs.Prelude.{All}
use Rattle.std.proofs.lemmas.List.Elements.{All-from_recursion}
use Rattle.scad_geom.specs.declared.point.Edge.{Edge}
use Rattle.scad_geom.specs.declared.shape.Shape.{Shape}
use Rattle.scad_geom.specs.Point.{Point}
use Rattle.scad_geom.specs.Loop.{sides}
use Rattle.scad_geom.specs.Sign.{is_zero}
use Rattle.plan_sides.proofs.Closure.{sides_balanced}
use Rattle.slice_border.proofs.NearBorder.{outlines_are_near_border}
use Rattle.plan_walls.specs.Walls.{with_rings}
use Rattle.plan_walls.specs.Laws.{WallsStayApart, WallsKeepClear}
use Rattle.plan_walls.proofs.Off.{IsOff, held_off}
use Rattle.plan_walls.proofs.Clear.{clear_of}
use Rattle.plan_walls.proofs.Inside.{wound_alike}

no_zero : (z : ℤ) → not (is_zero z) ≡ true → z ≡ pos 0 → ⊥
no_zero z h e = true≢false (sym (subst (λ (y : ℤ). not (is_zero y) ≡ true) e h))

pub walls_stay_apart : WallsStayApart
walls_stay_apart c outlines loops some h =
    let es : List Edge = flat_map sides outlines in
    let shape : Shape = h.shape in
    let near = outlines_are_near_border (with_rings c es) shape loops h.are_outlines in
    λ i d l q dq on.
    let n = near i d l q dq on in
    let b : Point = n.border in
    let k = n.is_border in
    let held = held_off c some k.held_above k.held_right b n.positive es shape h.first_without k.held in
    let off : All (IsOff c b) es = All-from_recursion (IsOff c b) es held.1 in
    λ j f m. clear_of c q b dq n.positive n.near (get_or es j f) (off j f m)

pub walls_keep_clear : WallsKeepClear
walls_keep_clear c outlines loops two h =
    let some : 1 ≤ c = omega (arith, two) in
    let es : List Edge = flat_map sides outlines in
    let shape : Shape = h.shape in
    let near = outlines_are_near_border (with_rings c es) shape loops h.are_outlines in
    λ i d l q dq on.
    let n = near i d l q dq on in
    let b : Point = n.border in
    let k = n.is_border in
    let held = held_off c some k.held_above k.held_right b n.positive es shape h.first_without k.held in
    let off : All (IsOff c b) es = All-from_recursion (IsOff c b) es held.1 in
    let alike = wound_alike c two es (sides_balanced outlines) q b dq n.positive n.near off k.held_above
    k.held_right in
    record {
      clear = walls_stay_apart c outlines loops some h i d l q dq on;
      inside = λ e. no_zero _ held.0 (sym alike ∙ e);
    }
