-- What a machine holds, apart from where it lies in memory.
use Rattle.std.specs.Prelude.{ℕ, ◌-◌, List, length}
use Rattle.scad_scope.specs.Env.{Env}
use Rattle.scad_scope.specs.FrameStore.{Stored, env_at, envs}
use Rattle.scad_scope.specs.View.{stored}
use Rattle.scad_machine.specs.declared.machine.Machine.{Machine}
use Rattle.scad_machine.specs.State.{State, step_limit}

-- its frames, those of the `$` names, the number of the frame from which names are sought, and how many levels of
-- depth an expression has that it evaluates
pub record Held : Type 0 where
  pub frames : List Stored
  pub along : List Stored
  pub here : ℕ
  pub depth : ℕ

unfoldable pub held : Machine → Held
held m = record { frames = stored m.frames; along = stored m.along; here = m.here; depth = m.depth_left }

-- the environment of names, and that of the `$` names, which is the last frame's
unfoldable pub env_in : Held → Env
env_in h = env_at (envs h.frames) h.here

unfoldable pub along_in : Held → Env
along_in h = env_at (envs h.along) (length h.along - 1)

unfoldable pub state_of : Machine → State
state_of m = record {
  steps = step_limit - m.steps_left;
  leaves = m.leaves;
  triangles = m.triangles;
  profiles = m.profiles.items;
  echoes = m.echoes.items;
}
