-- The edge that is found is the least of those that start at the point.
use Rattle.std.proofs.Common.{ℕ, List, length, refl, ap, subst, arith}
use Rattle.scad_geom.specs.declared.point.Edge.{Edge}
use Rattle.slice_loops.proofs.LeastEdge.{IsFirstPlace, group_inside, from_inside, finds, is_untaken, takes_least, noted}
use Rattle.slice_loops.proofs.remainder.Remaining.take_from.Goals as goal

pub index-requires : goal.index-requires
index-requires c =
    let point : IsFirstPlace c.args.at c.args.self.now.edges.items c.first_from-group.result = subst (λ (es : List Edge). IsFirstPlace c.args.at es c.first_from-group.result) c.deref.ensures.value c.first_from-group.ensures in
    omega (
      arith,
      group_inside c.args.self.now c.args.at c.first_from-group.result point c.requires.there,
      c.requires.order.notes,
      c.args.self.now.passed.ok.0,
    )

pub untaken_from-place-requires : goal.untaken_from-place-requires
untaken_from-place-requires c =
    let point : IsFirstPlace c.args.at c.args.self.now.edges.items c.first_from-group.result = subst (λ (es : List Edge). IsFirstPlace c.args.at es c.first_from-group.result) c.deref.ensures.value c.first_from-group.ensures in
    from_inside c.args.self.now c.first_from-group.result c.index.result.now c.max.result c.deref-2.result.now
    c.requires.order
    (group_inside c.args.self.now c.args.at c.first_from-group.result point c.requires.there) c.deref-2.ensures.value
    c.index.ensures c.max.ensures

pub take-edge-requires-clause-there : goal.take-edge-requires-clause-there
take-edge-requires-clause-there c =
    is_untaken c.args.self.now c.args.at c.first_from-group.result c.max.result c.untaken_from-place.result
    (finds c.args.self.now c.args.at c.first_from-group.result c.index.result.now c.max.result
    c.untaken_from-place.result
    c.deref.result.now c.deref-2.result.now c.requires.order c.requires.there c.deref.ensures.value
    c.deref-2.ensures.value
    c.first_from-group.ensures c.index.ensures c.max.ensures c.untaken_from-place.ensures)

pub index_mut-requires : goal.index_mut-requires
index_mut-requires c =
    let point : IsFirstPlace c.args.at c.args.self.now.edges.items c.first_from-group.result = subst (λ (es : List Edge). IsFirstPlace c.args.at es c.first_from-group.result) c.deref.ensures.value c.first_from-group.ensures in
    omega (
      arith,
      group_inside c.args.self.now c.args.at c.first_from-group.result point c.requires.there,
      c.requires.order.notes,
      ap (λ (ns : List ℕ). length ns) c.take-edge.ensures.notes,
      c.take-edge.new.self.passed.ok.0,
    )

pub returns-clause-least : goal.returns-clause-least
returns-clause-least c =
    takes_least c.args.self.now c.args.at c.first_from-group.result c.max.result c.untaken_from-place.result
    (finds c.args.self.now c.args.at c.first_from-group.result c.index.result.now c.max.result
    c.untaken_from-place.result
    c.deref.result.now c.deref-2.result.now c.requires.order c.requires.there c.deref.ensures.value
    c.deref-2.ensures.value
    c.first_from-group.ensures c.index.ensures c.max.ensures c.untaken_from-place.ensures)
    c.take-edge.result c.take-edge.new.self c.take-edge.ensures

pub returns-clause-order : goal.returns-clause-order
returns-clause-order c =
    noted c.args.self.now c.args.at c.first_from-group.result c.max.result c.untaken_from-place.result
    (finds c.args.self.now c.args.at c.first_from-group.result c.index.result.now c.max.result
    c.untaken_from-place.result
    c.deref.result.now c.deref-2.result.now c.requires.order c.requires.there c.deref.ensures.value
    c.deref-2.ensures.value
    c.first_from-group.ensures c.index.ensures c.max.ensures c.untaken_from-place.ensures)
    c.take-edge.result c.take-edge.new.self c.take-edge.ensures _ refl refl refl
