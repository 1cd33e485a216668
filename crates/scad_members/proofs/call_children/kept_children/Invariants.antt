use Rattle.std.proofs.Common.{◌≡◌}
use Rattle.scad_scope.specs.FrameStore.{env_at, envs}
use Rattle.scad_scope.specs.View.{stored}
use Rattle.scad_members.specs.Modules.{kept_children}
use Rattle.scad_members.proofs.call_children.kept_children.Given as goal

abbrev pub invariant-outwards : goal.invariant-outwards
invariant-outwards l = kept_children (env_at (envs (stored l.m.frames)) l.at) ≡ kept_children
    (env_at (envs (stored l.m.frames)) l.m.here)

abbrev pub decreases-outwards : goal.decreases-outwards
decreases-outwards l = l.at
