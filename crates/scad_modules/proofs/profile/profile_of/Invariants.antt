use Rattle.std.proofs.Common.{◌≡◌, [], drop, length}
use Rattle.scad_modules.specs.Profile.{profile_onto}
use Rattle.scad_modules.proofs.profile.profile_of.Given as goal

abbrev pub invariant-points : goal.invariant-points
invariant-points l = record {
  onto : profile_onto l.m l.profile.items (drop l.point-index l.ring) ≡ profile_onto l.m [] l.ring;
  count : length l.profile.items ≡ l.point-index;
}
