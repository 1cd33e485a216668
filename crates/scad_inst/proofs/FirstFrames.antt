-- What names mean in the frames before a program.
use Rattle.std.proofs.Common.{◌≡◌, ◌-◌, List, [], ◌∷◌, length, ap}
use Rattle.scad_scope.specs.Env.{outside}
use Rattle.scad_scope.specs.Names.{Names}
use Rattle.scad_scope.specs.FrameStore.{Stored, env_at, envs}
use Rattle.scad_expr.specs.Variables.{within}
use Rattle.scad_inst.specs.FirstFrames.{outermost}

pub env-first : (all : List Stored) (names : Names) → all ≡ outermost names ∷ [] → env_at (envs all) 0 ≡ within outside
    names
env-first all names e = ap (λ l. env_at (envs l) 0) e

pub env-last : (all : List Stored) (names : Names) → all ≡ outermost names ∷ [] → env_at (envs all) (length all - 1)
    ≡ within outside names
env-last all names e = ap (λ l. env_at (envs l) (length l - 1)) e

pub ruleset first = (env-first, env-last)
