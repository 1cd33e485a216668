-- Each turn makes the next ring of the sphere, and at the end none is left.
use Rattle.std.proofs.Common.{◌≡◌, ◌+◌, ◌-◌, ◌/◌, List, [], ◌++◌, map, ap, ap₂, sym, ◌∙◌, arith}
use Rattle.std.specs.List.{list_all, range_with_len}
use Rattle.std.proofs.lemmas.List.{append-nil}
use Rattle.scad_geom.specs.declared.point3.Pt3.{Pt3}
use Rattle.scad_shapes.specs.Pushes.{ring_in_range}
use Rattle.scad_shapes.specs.Rings.{sphere_ring_at, sphere_rings_of}
use Rattle.scad_shapes.proofs.Solids.{made-more, ranged-more, ranged-fails, fails}
use Rattle.scad_shapes.proofs.spheres.rings.Goals as goal

pub rings-preserved : goal.rings-preserved
rings-preserved c =
    let ring = sphere_ring_at c.args.r c.args.n c.args.m.now in
    let all = sphere_rings_of c.args.r c.args.n c.args.m.now in
    record {
      made = made-more ring_in_range ring c.rings.i ((c.args.n + 1) / 2) c.rings-test.true c.rings.rings.items
          c.push_ring.new.out.items all c.rings.invariant.made c.in-Ok.ensures.0;
      ranged = ranged-more ring_in_range ring c.rings.i ((c.args.n + 1) / 2) c.rings-test.true
          (list_all ring_in_range all) c.rings.invariant.ranged c.in-Ok.ensures.1;
    }

pub returns-in-Err : goal.returns-in-Err
returns-in-Err c =
    let ring = sphere_ring_at c.args.r c.args.n c.args.m.now in
    let all = sphere_rings_of c.args.r c.args.n c.args.m.now in
    fails _ ring_in_range c.rings.rings.items c.push_ring.new.out.items all (ring c.rings.i) c.in-Err.end (λ v. v.items)
    c.in-Err.ensures
    (ranged-fails ring_in_range ring c.rings.i ((c.args.n + 1) / 2) c.rings-test.true (list_all ring_in_range all)
    c.rings.invariant.ranged)

pub rings-init : goal.rings-init
rings-init c =
    let ring = sphere_ring_at c.args.r c.args.n c.args.m.now in
    let whole : (c.args.n + 1) / 2 - 0 ≡ (c.args.n + 1) / 2 = omega arith in
    let all : map ring (range_with_len 0 ((c.args.n + 1) / 2 - 0)) ≡ sphere_rings_of c.args.r c.args.n c.args.m.now =
    ap (λ k. map ring (range_with_len 0 k)) whole in
    record {
      made = ap₂ (λ made left. made ++ left) c.new-rings.ensures.items all;
      ranged = ap (list_all ring_in_range) (sym all);
    }

pub returns : goal.returns
returns c =
    let left : List (List Pt3) = map (sphere_ring_at c.args.r c.args.n c.args.m.now)
    (range_with_len c.rings.i ((c.args.n + 1) / 2 - c.rings.i)) in
    let none : (c.args.n + 1) / 2 - c.rings.i ≡ 0 = omega (arith, c.rings-test.false) in
    let nothing : left ≡ [] =
    ap (λ k. map (sphere_ring_at c.args.r c.args.n c.args.m.now) (range_with_len c.rings.i k)) none in (
      sym (append-nil c.rings.rings.items) ∙ ap (λ more. c.rings.rings.items ++ more) (sym nothing)
          ∙ c.rings.invariant.made,
      c.rings.invariant.ranged ∙ ap (list_all ring_in_range) nothing,
    )
