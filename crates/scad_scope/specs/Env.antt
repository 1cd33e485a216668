-- Environments: what names mean at a place of a program.
use Rattle.std.specs.Prelude.{ℕ, List, Option, Some, None}
use Rattle.scad_ast.specs.Tree.{Items}
use Rattle.scad_value.specs.Datum.{Datum}
use Rattle.scad_scope.specs.Names.{Names, value_of_name}

mutual
  -- frames, the innermost first
  pub data Env : Type 0 where
    outside : Env
    inside : Frame → Env → Env

  -- names with their values; the scope whose functions and modules hold here, where there is one; for the frame of a
  -- module's call its children
  pub data Frame : Type 0 where
    frame : Names → Option Items → Children → Frame

  -- the child statements of a call, with the environment of the place where they are written
  pub data Children : Type 0 where
    no_children : Children
    children : Items → Env → Children

abbrev pub names_of : Frame → Names
names_of (frame names scope kept) = names

abbrev pub scope_of : Frame → Option Items
scope_of (frame names scope kept) = scope

abbrev pub children_of : Frame → Children
children_of (frame names scope kept) = kept

-- what is found, or else another answer
abbrev pub or_else : {A : Type 0} → Option A → Option A → Option A
or_else (Some a) other = Some a
or_else None other = other

-- the value of a name in the innermost frame that has it
abbrev pub sought : List ℕ → Env → Option Datum
sought name outside = None
sought name (inside f env) = or_else (value_of_name name (names_of f)) (sought name env)
