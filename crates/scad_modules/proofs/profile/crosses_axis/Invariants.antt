use Rattle.std.proofs.Common.{◌≡◌, take}
use Rattle.std.specs.List.{list_any}
use Rattle.scad_modules.specs.Profile.{is_left, is_right}
use Rattle.scad_modules.proofs.profile.crosses_axis.Given as goal

-- the points so far
abbrev pub invariant-points : goal.invariant-points
invariant-points l = record {
  left : l.left ≡ list_any is_left (take l.point-index l.ring);
  right : l.right ≡ list_any is_right (take l.point-index l.ring);
}
