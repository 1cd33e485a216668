-- Frames in a list, each with the numbers of other frames, and the environments that they stand for.
use Rattle.std.specs.Prelude.{ℕ, ◌-◌, List, [], ◌∷◌, ◌++◌, length, slice_index_or, slice_set, Option, Some, None}
use Rattle.scad_ast.specs.Tree.{Items}
use Rattle.scad_value.specs.Datum.{Datum}
use Rattle.scad_scope.specs.Names.{Names, with_name}
use Rattle.scad_scope.specs.Env.{Env, outside, inside, frame, Children, no_children, children}

-- the children of a call, with the number of the frame where they are written
pub record StoredChildren : Type 0 where
  pub statements : Items
  pub home : ℕ

-- a frame: the names that were set in it, and what it was pushed with
pub record Stored : Type 0 where
  pub names : Names
  pub parent : Option ℕ
  pub scope : Option Items
  pub kept : Option StoredChildren

-- a frame that was just pushed
abbrev pub pushed : Option ℕ → Option Items → Option StoredChildren → Stored
pushed parent scope kept = record { names = []; parent = parent; scope = scope; kept = kept }

-- the frame of a number, or an empty one where there is none
abbrev pub stored_at : List Stored → ℕ → Stored
stored_at all n = slice_index_or all n (pushed None None None)

abbrev pub with_name_in : List ℕ → Datum → Stored → Stored
with_name_in name d f = record f { names = with_name name d f.names }

-- the name is set in the last frame; where there is no frame nothing is
abbrev pub with_name_in_last : List ℕ → Datum → List Stored → List Stored
with_name_in_last name d all = slice_set all (length all - 1) (with_name_in name d (stored_at all (length all - 1)))

-- the environment of the frame of a number, among those of all frames; no frame has no environment
abbrev pub env_at : List Env → ℕ → Env
env_at envs n = slice_index_or envs n outside

-- the environment round a frame: that of its parent
abbrev pub env_round : List Env → Option ℕ → Env
env_round envs None = outside
env_round envs (Some n) = env_at envs n

abbrev pub children_in : List Env → Option StoredChildren → Children
children_in envs None = no_children
children_in envs (Some kept) = children kept.statements (env_at envs kept.home)

-- the environment of a frame, whose parent is one of the frames before it
abbrev pub env_of : List Env → Stored → Env
env_of before f = inside (frame f.names f.scope (children_in before f.kept)) (env_round before f.parent)

-- the environments of frames behind those that are given
abbrev pub envs_onto : List Env → List Stored → List Env
envs_onto before [] = before
envs_onto before (f ∷ more) = envs_onto (before ++ env_of before f ∷ []) more

-- the environment of each frame by its number
abbrev pub envs : List Stored → List Env
envs all = envs_onto [] all
