-- The steps of a placed profile go one after the other, and the first that is refused refuses all.
use Rattle.std.proofs.lemmas.Result.{err_from_is_err_and}
use Rattle.scad_machine.specs.Machine.{state_of}
use Rattle.scad_leaves.proofs.Steps.{sides-refused, keeping-refused, profile-kept}
use Rattle.scad_leaves.proofs.flat.profile_turned.Goals as goal

pub returns-in_err-judge_sides-clause-does : goal.returns-in_err-judge_sides-clause-does
returns-in_err-judge_sides-clause-does c =
    let p = err_from_is_err_and c.from_residual.result c.from_residual.ensures.1 in
    rw (p.1, p.2) (λ some. sides-refused _ _ _ _ _ _ _ (c.in_err-judge_sides.ensures (state_of c.args.m.now) some))

pub returns-in_err-keep_profile-clause-does : goal.returns-in_err-keep_profile-clause-does
returns-in_err-keep_profile-clause-does c =
    let r = c.from_residual-in_err-keep_profile in
    let p = err_from_is_err_and r.result r.ensures.1 in
    rw (p.1, p.2) (λ some. keeping-refused _ _ _ _ _ _ _ (c.in_ok-judge_sides.ensures (state_of c.args.m.now))
    (c.in_err-keep_profile.ensures.does some))

pub returns-clause-does : goal.returns-clause-does
returns-clause-does c =
    rw (profile-kept c.args.at c.args.ring.now c.args.t.now c.args.whole.now (state_of c.args.m.now) _
    (c.in_ok-judge_sides.ensures (state_of c.args.m.now)) c.in_ok-keep_profile.ensures.does) c.swept.ensures.does
