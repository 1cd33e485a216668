-- One more point goes to its place, and in the end the points stand in their order, each once.
use Rattle.std.proofs.Common.{◌≡◌, ◌∙◌, sym, subst}
use Rattle.std.specs.List.Sorted.{IsStrictlySortedBy}
use Rattle.std.proofs.lemmas.Iterator.{items_from_collect}
use Rattle.std.proofs.lemmas.Iterator.Consumers.{YieldsList-from_rest}
use Rattle.std.proofs.lemmas.List.{at_drop_all}
use Rattle.std.proofs.lemmas.Result.{IfOk-weaker}
use Rattle.scad_hull.specs.Distinct.{distinct, with_all}
use Rattle.scad_hull.proofs.Sorting.{put_point, on_no_err}
use Rattle.scad_hull.proofs.distinct.distinct.Goals as goal

pub points-preserved : goal.points-preserved
points-preserved g c =
    put_point g.P.Ord.cmp c.args.points.now c.points.p-index c.p-item.result c.points-test.true c.p-item.is
    c.points.found.keys c.insert.new.self.keys
    (on_no_err c.insert.result c.is_err.result c.is_err.ensures.value c.if-is_err.false c.insert.ensures.keys)
    ∙ c.points.invariant

pub collect-requires-clause-can_collect : goal.collect-requires-clause-can_collect
collect-requires-clause-can_collect g c = λ xs t yields. tt

pub returns-clause-value : goal.returns-clause-value
returns-clause-value g c =
    items_from_collect c.collect.result c.collect.ensures.ran
    (YieldsList-from_rest (distinct g.P.Ord.cmp c.args.points.now)
    (c.into_iter.ensures.into_iter_gives.0
    ∙ sym (at_drop_all (with_all g.P.Ord.cmp c.points.found.keys) c.args.points.now c.points.p-index
    c.points-test.false)
    ∙ c.points.invariant))

pub returns-clause-ordered : goal.returns-clause-ordered
returns-clause-ordered g c =
    IfOk-weaker c.collect.result (λ v. v.items ≡ c.points.found.keys) _
    (λ v e. subst (IsStrictlySortedBy g.P.Ord.cmp) (sym e) c.into_iter.ensures.into_iter_gives.4)
    (items_from_collect c.collect.result c.collect.ensures.ran
    (YieldsList-from_rest c.points.found.keys c.into_iter.ensures.into_iter_gives.0))
