use Rattle.std.proofs.Common.{List, refl, subst}
use Rattle.scad_geom.specs.declared.point.Pt.{Pt}
use Rattle.scad_tree.specs.View.{solid_of}
use Rattle.plan_layer.specs.declared.fault.PlanFault.TheVariants.{Edges, Crossings, Moves}
use Rattle.scad_slice.specs.Budgets.{edges_passed, crossings_passed, moves_passed}
use Rattle.scad_slice.specs.Supports.{AreSupportsOf}
use Rattle.scad_slice.proofs.LayerDrawing.{lays_plan, lays_refused}
use Rattle.scad_slice.proofs.layer.plan_out.Goals as goal

pub returns-in-Ok-clause-end : goal.returns-in-Ok-clause-end
returns-in-Ok-clause-end g c fits =
    let s = c.args.work.now.print.settings in
    let tree = solid_of c.args.work.now.tree.now in
    let supports = c.in_ok-supports.supports.items in
    lays_plan s tree c.args.layer c.deref-2.result.now supports c.args.loops c.in-Ok.plan c.deref-2.ensures.value
    (subst (λ (os : List (List Pt)). AreSupportsOf s tree c.args.layer os supports) c.deref.ensures.value
    (c.in_ok-supports.ensures fits))
    c.in-Ok.ensures.supports c.in-Ok.ensures.plan c.in-Ok.ensures.accepted c.in-Ok.ensures.moves

pub returns-in-Err-Edges-clause-end : goal.returns-in-Err-Edges-clause-end
returns-in-Err-Edges-clause-end g c fits =
    let s = c.args.work.now.print.settings in
    let tree = solid_of c.args.work.now.tree.now in
    let supports = c.in_ok-supports.supports.items in
    lays_refused s tree c.args.layer c.deref-2.result.now supports c.args.loops.items c.in-Err-Edges.field-0
    (Edges c.in-Err-Edges.count) (edges_passed c.args.layer c.in-Err-Edges.count) c.over.result c.deref-2.ensures.value
    (subst (λ (os : List (List Pt)). AreSupportsOf s tree c.args.layer os supports) c.deref.ensures.value
    (c.in_ok-supports.ensures fits))
    c.in-Err-Edges.ensures.refused c.in-Err-Edges.field-0-is (λ e. cc) refl c.over.ensures

pub returns-in-Err-Crossings-clause-end : goal.returns-in-Err-Crossings-clause-end
returns-in-Err-Crossings-clause-end g c fits =
    let s = c.args.work.now.print.settings in
    let tree = solid_of c.args.work.now.tree.now in
    let supports = c.in_ok-supports.supports.items in
    lays_refused s tree c.args.layer c.deref-2.result.now supports c.args.loops.items c.in-Err-Crossings.field-0
    (Crossings c.in-Err-Crossings.count) (crossings_passed c.args.layer c.in-Err-Crossings.count)
    c.over-in-Err-Crossings.result c.deref-2.ensures.value
    (subst (λ (os : List (List Pt)). AreSupportsOf s tree c.args.layer os supports) c.deref.ensures.value
    (c.in_ok-supports.ensures fits))
    c.in-Err-Crossings.ensures.refused c.in-Err-Crossings.field-0-is (λ e. cc) refl c.over-in-Err-Crossings.ensures

pub returns-in-Err-Moves-clause-end : goal.returns-in-Err-Moves-clause-end
returns-in-Err-Moves-clause-end g c fits =
    let s = c.args.work.now.print.settings in
    let tree = solid_of c.args.work.now.tree.now in
    let supports = c.in_ok-supports.supports.items in
    lays_refused s tree c.args.layer c.deref-2.result.now supports c.args.loops.items c.in-Err-Moves.field-0
    (Moves c.in-Err-Moves.count) (moves_passed c.args.layer c.in-Err-Moves.count) c.over-in-Err-Moves.result
    c.deref-2.ensures.value
    (subst (λ (os : List (List Pt)). AreSupportsOf s tree c.args.layer os supports) c.deref.ensures.value
    (c.in_ok-supports.ensures fits))
    c.in-Err-Moves.ensures.refused c.in-Err-Moves.field-0-is (λ e. cc) refl c.over-in-Err-Moves.ensures
