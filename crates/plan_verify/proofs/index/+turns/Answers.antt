use Rattle.std.proofs.Common.{List, ap, sym, ◌∙◌, arith, rules, w64, FitsSigned}
use Rattle.std.proofs.lemmas.Int.{to_z-of_z}
use Rattle.scad_geom.specs.declared.point.Edge.{Edge}
use Rattle.scad_geom.specs.declared.half.Half.TheVariants.{Whole}
use Rattle.scad_geom.specs.Limits.{coordinate_limit}
use Rattle.scad_geom.specs.Within.{IsEdgeWithin}
use Rattle.scad_geom.specs.Half.{meant}
use Rattle.scad_geom.specs.Segment.{segments}
use Rattle.scad_geom.specs.Winding.{wind}
use Rattle.plan_verify.specs.Index.{sides_in}
use Rattle.plan_verify.proofs.Indexes.{sides_leaf, first_boxed, second_boxed, all_first, all_second, few_first, few_second, sides_both, fewer_first, fewer_second}
use Rattle.plan_verify.proofs.Searches.{off_tree, sized, wind_of_both}
use Rattle.plan_verify.proofs.index.+turns.Goals as goal

pub returns-then-is_off-clause-value : goal.returns-then-is_off-clause-value
returns-then-is_off-clause-value t c = sym (off_tree c.args.tree.now c.args.p c.extent_in.result c.is_off.result
    c.requires.boxed c.extent_in.ensures c.is_off.ensures c.if-is_off.true)

pub turns-requires : goal.turns-requires
turns-requires t c =
    let m = c.in-Many in
    let tree = c.args.tree.now in
    let first = c.deref-in-Many.result.now in
    let same = c.deref-in-Many.ensures in
    let lower = fewer_first tree first m.field-0 m.first m.second m.is same in (
      omega (arith, c.decreases, lower),
      (
        first_boxed tree first m.field-0 m.first m.second m.is same c.requires.boxed,
        (
          all_first (IsEdgeWithin coordinate_limit) tree first m.field-0 m.first m.second m.is same c.requires.sides,
          (c.requires.point, few_first _ tree first m.field-0 m.first m.second m.is same c.requires.few),
        ),
      ),
    )

pub turns-requires-in-Many : goal.turns-requires-in-Many
turns-requires-in-Many t c =
    let m = c.in-Many in
    let tree = c.args.tree.now in
    let second = c.deref-in-Many-2.result.now in
    let same = c.deref-in-Many-2.ensures in
    let lower = fewer_second tree second m.field-0 m.first m.second m.is same in (
      omega (arith, c.decreases, lower),
      (
        second_boxed tree second m.field-0 m.first m.second m.is same c.requires.boxed,
        (
          all_second (IsEdgeWithin coordinate_limit) tree second m.field-0 m.first m.second m.is same c.requires.sides,
          (c.requires.point, few_second _ tree second m.field-0 m.first m.second m.is same c.requires.few),
        ),
      ),
    )

pub returns-in-Few-clause-size : goal.returns-in-Few-clause-size
returns-in-Few-clause-size t c =
    let fits : FitsSigned w64 c.winding.result = search rules in
    let sides = sides_leaf c.args.tree.now c.in-Few.field-0 c.in-Few.sides c.deref.result.now c.in-Few.is
    c.deref.ensures.value in
    simp to_z-of_z (sized c.winding.result (meant Whole c.args.p) (sides_in c.args.tree.now)
    (c.winding.ensures ∙ ap (λ (es : List Edge). wind (meant Whole c.args.p) (segments es)) (sym sides)))

pub returns-in-Many-clause-value : goal.returns-in-Many-clause-value
returns-in-Many-clause-value t c =
    let m = c.in-Many in
    let first_fits : FitsSigned w64 c.turns.result = search rules in
    let second_fits : FitsSigned w64 c.turns-in-Many.result = search rules in
    let fits : FitsSigned w64 c.plus.result = search rules in
    simp to_z-of_z (wind_of_both c.turns.result c.turns-in-Many.result c.plus.result (meant Whole c.args.p)
    (sides_in c.deref-in-Many.result.now) (sides_in c.deref-in-Many-2.result.now) (sides_in c.args.tree.now)
    (sides_both c.args.tree.now c.deref-in-Many.result.now c.deref-in-Many-2.result.now m.field-0 m.first m.second m.is
    c.deref-in-Many.ensures c.deref-in-Many-2.ensures)
    c.turns.ensures.value c.turns-in-Many.ensures.value (simp to_z-of_z at c.plus.ensures.sum))
