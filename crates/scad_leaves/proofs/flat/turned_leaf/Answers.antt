-- The steps of a leaf go one after the other, and the first that is refused refuses all.
use Rattle.std.proofs.lemmas.Result.{err_from_is_err_and}
use Rattle.scad_modules.specs.View.{outline}
use Rattle.scad_machine.specs.Machine.{state_of}
use Rattle.scad_leaves.proofs.Steps.{leaf-refused, points-refused, outline-refused, leaf-placed}
use Rattle.scad_leaves.proofs.flat.turned_leaf.Goals as goal

pub profile_made-requires : goal.profile_made-requires
profile_made-requires c = c.requires

pub returns-in_err-count_leaf-clause-does : goal.returns-in_err-count_leaf-clause-does
returns-in_err-count_leaf-clause-does c =
    let p = err_from_is_err_and c.from_residual.result c.from_residual.ensures.1 in
    rw (p.1, p.2) (λ some. leaf-refused _ _ _ _ _ _ _ _ (c.in_err-count_leaf.ensures.does some))

pub returns-in_err-judge_points-clause-does : goal.returns-in_err-judge_points-clause-does
returns-in_err-judge_points-clause-does c =
    let r = c.from_residual-in_err-judge_points in
    let p = err_from_is_err_and r.result r.ensures.1 in
    rw (p.1, p.2) (λ some. points-refused _ _ _ _ _ _ _ _ _ _ c.in_ok-count_leaf.ensures.does
    (c.in_err-judge_points.ensures.does (state_of c.count_leaf.new.m) some) (cc))

pub returns-in_err-profile-clause-does : goal.returns-in_err-profile-clause-does
returns-in_err-profile-clause-does c =
    let r = c.from_residual-in_err-profile in
    let p = err_from_is_err_and r.result r.ensures.1 in
    let s = state_of c.count_leaf.new.m in
    rw (p.1, p.2) (λ some. outline-refused _ _ _ _ _ _ _ _ _ _ c.in_ok-count_leaf.ensures.does
    (c.in_ok-judge_points.ensures.does s) (c.in_err-profile.ensures.does s some) (cc))

pub returns-clause-does : goal.returns-clause-does
returns-clause-does c =
    let s = state_of c.count_leaf.new.m in
    rw (
      leaf-placed c.args.leaf.at c.args.name.now (outline c.args.leaf.shape.now) c.args.t.now c.args.leaf.whole.now
          (state_of c.args.m.now) s _ c.in_ok-profile.profile.items c.in_ok-count_leaf.ensures.does
          (c.in_ok-judge_points.ensures.does s) (c.in_ok-profile.ensures.does s) (cc),
      ← c.deref.ensures.value,
    )
    c.profile_turned.ensures.does
