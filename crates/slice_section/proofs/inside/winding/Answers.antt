use Rattle.std.proofs.Common.{rules, ◌≤◌, ◌^◌, ℤ, unsigned_abs, sym, subst}
use Rattle.std.proofs.lemmas.Int.{to_z-of_z}
use mir.Syntax.{w128}
use Rattle.scad_geom.proofs.Casts.{casts}
use Rattle.slice_section.proofs.Edges.{in_range-here, in_range-later}
use Rattle.slice_section.proofs.WindingSum.{wound_more}
use Rattle.slice_section.proofs.inside.winding.Goals as goal

pub turn_of-requires-clause-in_range : goal.turn_of-requires-clause-in_range
turn_of-requires-clause-in_range c = in_range-here c.args.triangles.now c.triangles.triangle-index _
    c.triangles-test.true c.triangles.invariant.in_range

pub triangles-preserved : goal.triangles-preserved
triangles-preserved c = record {
  small = search (rules, casts);
  sum = search (rules, casts, wound_more);
  in_range = in_range-later c.args.triangles.now c.triangles.triangle-index c.triangles-test.true
      c.triangles.invariant.in_range;
}

pub turn_of-requires-clause-x : goal.turn_of-requires-clause-x
turn_of-requires-clause-x c =
    subst (λ (z : ℤ). unsigned_abs z ≤ 2 ^ 33) (sym (to_z-of_z w128 c.args.x c.ranges.x)) c.requires.x

pub turn_of-requires-clause-y : goal.turn_of-requires-clause-y
turn_of-requires-clause-y c =
    subst (λ (z : ℤ). unsigned_abs z ≤ 2 ^ 33) (sym (to_z-of_z w128 c.args.y c.ranges.y)) c.requires.y
