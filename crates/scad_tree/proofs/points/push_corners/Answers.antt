-- The corners of one triangle more, and of all of them.
use Rattle.std.proofs.Common.{◌∙◌, refl, ap, get_or}
use Rattle.std.specs.List.{list_all}
use Rattle.scad_geom.specs.PointRange.{is_in_range}
use Rattle.scad_solid.specs.declared.triangle.Triangle.{Triangle}
use Rattle.scad_tree.specs.Points.{corners_of}
use Rattle.scad_tree.proofs.TreePoints.{corners-more, corners-end}
use Rattle.scad_tree.proofs.TreePoints.{corners-range, range-both, triangle-at, three-pushed, no_triangle}
use Rattle.scad_tree.proofs.points.push_corners.Goals as goal

pub triangles-preserved : goal.triangles-preserved
triangles-preserved c =
    let triangles = c.args.triangles.now in
    let i = c.triangles.t-index in
    let t : Triangle = get_or triangles i no_triangle in
    let old = c.triangles.out.items in
    let new = c.push-in-triangles-2.new.self.items in
    let all = three-pushed old c.push.new.self.items c.push-in-triangles.new.self.items new t
    c.in_ok-push.ensures.items c.in_ok-push-2.ensures.items c.in_ok-push-3.ensures.items in
    record {
      reached = corners-more triangles i no_triangle old new _ c.triangles-test.true all c.triangles.invariant.reached;
      range = ap (list_all is_in_range) all ∙ range-both old (corners_of t) c.triangles.invariant.range
          (corners-range t (triangle-at triangles i no_triangle c.requires.triangles c.triangles-test.true));
    }

pub triangles-init : goal.triangles-init
triangles-init c = record { reached = refl; range = c.requires.before }

pub returns : goal.returns
returns c = record {
  all = corners-end c.args.triangles.now c.triangles.t-index c.triangles.out.items _ c.triangles-test.false
      c.triangles.invariant.reached;
  range = c.triangles.invariant.range;
}
