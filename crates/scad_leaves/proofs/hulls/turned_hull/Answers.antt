-- A ring is a profile; without one there is nothing.
use Rattle.std.proofs.lemmas.Result.{err_from_is_err_and}
use Rattle.scad_machine.specs.Machine.{state_of}
use Rattle.scad_leaves.specs.Hulls.{turned_hull, hull_profile}
use Rattle.scad_leaves.proofs.hulls.turned_hull.Goals as goal

pub hull_profile-requires : goal.hull_profile-requires
hull_profile-requires c = rw c.as_slice.ensures (rw c.in-Some.is at c.in_ok-ring.ensures.three)

pub returns-in_err-ring-clause-does : goal.returns-in_err-ring-clause-does
unfolding turned_hull state_of
returns-in_err-ring-clause-does c =
    let p = err_from_is_err_and c.from_residual.result c.from_residual.ensures.1 in
    rw (p.1, p.2) (λ some. rw (c.in_err-ring.ensures.does (state_of c.args.m.now) some))

pub returns-in-Some-clause-does : goal.returns-in-Some-clause-does
unfolding turned_hull state_of
returns-in-Some-clause-does c =
    rw (c.in_ok-ring.ensures.does (state_of c.args.m.now), c.in-Some.is, ← c.as_slice.ensures)
    c.hull_profile.ensures.does

pub returns-in-None-clause-does : goal.returns-in-None-clause-does
unfolding turned_hull state_of hull_profile
returns-in-None-clause-does c =
    rw (c.in_ok-ring.ensures.does (state_of c.args.m.now), c.in-None.is, c.empty.ensures)
