-- Variables (OpenSCAD User Manual, "Variables", "Scope of variables", "Special variables").
use Rattle.std.specs.Prelude.{ℕ, ◌==◌, pos, Bool, false, List, [], ◌∷◌, Option, Some, None, if◌then◌else◌, codes}
use Rattle.scad_value.specs.Datum.{Datum, undef, boolean, number}
use Rattle.scad_scope.specs.Names.{Names, with_name}
use Rattle.scad_scope.specs.Env.{Env, outside, inside, frame, no_children, sought}

abbrev pub is_dollar : List ℕ → Bool
is_dollar [] = false
is_dollar (c ∷ more) = c == 36

abbrev pub or_undef : Option Datum → Datum
or_undef (Some d) = d
or_undef None = undef

-- a name that begins with `$` is looked up along the chain of calls, any other one from the innermost frame outwards;
-- an unknown one is `undef`
unfoldable pub variable : List ℕ → Env → Env → Datum
variable name env along = or_undef (if is_dollar name then sought name along else sought name env)

-- the names of a frame that is being filled: those of its place, and the `$` names that it sets for the calls
pub record Bound : Type 0 where
  pub names : Names
  pub dollars : Names

-- no name is set yet
abbrev pub empty : Bound
empty = record { names = []; dollars = [] }

unfoldable pub set : List ℕ → Datum → Bound → Bound
set name d b =
    if is_dollar name then record b { dollars = with_name name d b.dollars } else record b
    { names = with_name name d b.names }

-- names in a frame of their own, inside an environment
abbrev pub within : Env → Names → Env
within env names = inside (frame names None no_children) env

-- the one variable outside a program's scope
abbrev pub first_env : Env
first_env = within outside ((codes "PI", number (pos 3141593)) ∷ [])

-- the `$` names at the start of a program
abbrev pub first_along : Env
first_along =
    within outside
    ((codes "$fn", number (pos 0)) ∷ (codes "$fa", number (pos 12000000)) ∷ (codes "$fs", number (pos 2000000))
    ∷ (codes "$children", number (pos 0)) ∷ (codes "$t", number (pos 0)) ∷ (codes "$preview", boolean false)
    ∷ [])
