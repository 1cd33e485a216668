use Rattle.std.proofs.Common.{◌+◌, drop, ap, sym, ◌∙◌}
use Rattle.std.proofs.lemmas.Result.{err_from_is_err_and}
use Rattle.scad_modules.specs.Profile.{profile_onto}
use Rattle.scad_modules.proofs.Onto.{one-more}
use Rattle.scad_modules.proofs.Profiles.{profile-goes, profile-stops, profile-ends}
use Rattle.scad_modules.proofs.profile.profile_of.Goals as goal

pub returns-in_err-placed-clause-reads : goal.returns-in_err-placed-clause-reads
returns-in_err-placed-clause-reads c =
    let p = err_from_is_err_and c.from_residual.result c.from_residual.ensures.1 in
    rw (p.1, p.2) (λ some. sym c.points.invariant.onto ∙ profile-stops c.args.m.now c.points.profile.items
    c.args.ring.now c.points.point-index c.point-item.result _ c.points-test.true c.point-item.is
    c.in_err-placed.ensures)

pub points-preserved : goal.points-preserved
points-preserved c = record {
  onto =
      ap (λ so_far. profile_onto c.args.m.now so_far (drop (c.points.point-index + 1) c.args.ring.now))
      c.in_ok-push.ensures.items
      ∙ profile-goes c.args.m.now c.points.profile.items c.args.ring.now c.points.point-index c.point-item.result _
      c.points-test.true c.point-item.is c.in_ok-placed.ensures
      ∙ c.points.invariant.onto;
  count = one-more _ c.points.profile.items _ _ c.in_ok-push.ensures.items c.points.invariant.count;
}

pub returns-clause-reads : goal.returns-clause-reads
returns-clause-reads c =
    sym c.points.invariant.onto
    ∙ profile-ends c.args.m.now c.points.profile.items c.args.ring.now c.points.point-index c.points-test.false
