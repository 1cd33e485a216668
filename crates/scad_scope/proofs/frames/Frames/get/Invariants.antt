use Rattle.std.proofs.Common.{◌≡◌}
use Rattle.scad_scope.specs.Env.{sought}
use Rattle.scad_scope.specs.FrameStore.{env_at, envs}
use Rattle.scad_scope.specs.View.{stored}
use Rattle.scad_scope.proofs.frames.Frames.get.Given as goal

abbrev pub invariant-outwards : goal.invariant-outwards
invariant-outwards l = sought l.name (env_at (envs (stored l.self)) l.at) ≡ sought l.name
    (env_at (envs (stored l.self)) l.from)

abbrev pub decreases-outwards : goal.decreases-outwards
decreases-outwards l = l.at
