use Rattle.std.proofs.Common.{◌≡◌, ◌≤◌, drop, max}
use Rattle.scad_num.specs.Number.{most}
use Rattle.scad_modules.specs.Profile.{farthest}
use Rattle.scad_modules.proofs.profile.farthest.Given as goal

abbrev pub invariant-points : goal.invariant-points
invariant-points l = record {
  far : max l.far (farthest (drop l.point-index l.ring)) ≡ farthest l.ring;
  small : l.far ≤ most;
}
