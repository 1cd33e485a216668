-- The steps of a hull go one after the other, and the first that is refused refuses all.
use Rattle.std.proofs.lemmas.Result.{err_from_is_err_and}
use Rattle.scad_machine.specs.Machine.{state_of}
use Rattle.scad_leaves.proofs.Steps.{hull-refused, hull-points-refused, hull-sides-refused, hull-replaced}
use Rattle.scad_leaves.proofs.hulls.hull_profile.Goals as goal

pub returns-in_err-count_leaf-clause-does : goal.returns-in_err-count_leaf-clause-does
returns-in_err-count_leaf-clause-does c =
    let p = err_from_is_err_and c.from_residual.result c.from_residual.ensures.1 in
    rw (p.1, p.2) (λ some. hull-refused _ _ _ _ _ _ _ _ (c.in_err-count_leaf.ensures.does some))

pub returns-in_err-judge_points-clause-does : goal.returns-in_err-judge_points-clause-does
returns-in_err-judge_points-clause-does c =
    let r = c.from_residual-in_err-judge_points in
    let p = err_from_is_err_and r.result r.ensures.1 in
    rw (p.1, p.2) (λ some. hull-points-refused _ _ _ _ _ _ _ _ _ c.in_ok-count_leaf.ensures.does
    (c.in_err-judge_points.ensures.does (state_of c.count_leaf.new.m) some))

pub returns-in_err-judge_sides-clause-does : goal.returns-in_err-judge_sides-clause-does
returns-in_err-judge_sides-clause-does c =
    let r = c.from_residual-in_err-judge_sides in
    let p = err_from_is_err_and r.result r.ensures.1 in
    let s = state_of c.count_leaf.new.m in
    rw (p.1, p.2) (λ some. hull-sides-refused _ _ _ _ _ _ _ _ _ c.in_ok-count_leaf.ensures.does
    (c.in_ok-judge_points.ensures.does s) (c.in_err-judge_sides.ensures s some))

pub returns-clause-does : goal.returns-clause-does
returns-clause-does c =
    let s = state_of c.count_leaf.new.m in
    rw (hull-replaced c.args.stand.at c.args.stand.from c.args.t.now c.args.stand.whole c.args.points.now
    (state_of c.args.m.now) s _ c.in_ok-count_leaf.ensures.does
    (c.in_ok-judge_points.ensures.does s) (c.in_ok-judge_sides.ensures s) c.in_ok-replace_profiles.ensures.does)
    c.swept.ensures.does
