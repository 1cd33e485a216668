use Rattle.std.proofs.Common.{◌≡◌, ◌++◌, drop}
use Rattle.scad_scope.specs.Slots.{slots_from, slots_of}
use Rattle.scad_scope.proofs.resolution.resolve.Given as goal

abbrev pub invariant-frames : goal.invariant-frames
invariant-frames l = record {
  counted : l.up ≡ l.names-index;
  noted : l.list.items ++ slots_from l.name l.up (drop l.names-index l.frames) ≡ slots_of l.name l.frames;
}
