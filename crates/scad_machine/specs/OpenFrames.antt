-- The frames that a machine opens: one for names and one for `$` names, each the last of its list.
use Rattle.std.specs.Prelude.{◌≡◌, ℕ, ◌-◌, List, [], ◌∷◌, ◌++◌, length, take, Option, Some, None, if◌then◌else◌, codes}
use Rattle.scad_value.specs.Datum.{Datum}
use Rattle.scad_scope.specs.FrameStore.{Stored, StoredChildren, stored_at, with_name_in_last}
use Rattle.scad_scope.specs.Names.{Names}
use Rattle.scad_machine.specs.Machine.{Held, env_in, along_in}
use Rattle.scad_scope.specs.Env.{Env}
use Rattle.scad_machine.specs.Arguments.{number_of_children}
use Rattle.scad_machine.specs.Variables.{is_dollar, Bound}

-- the number of the last frame, where there is one
abbrev pub last_of : List Stored → Option ℕ
last_of [] = None
last_of (f ∷ more) = Some (length more)

-- two frames more, with these names: one inside the frame of a number `home`, one inside the last of the `$` names;
-- and names are sought from a frame
unfoldable pub opened : Option StoredChildren → ℕ → ℕ → Bound → Held → Held
opened kept here home b h = record {
  frames = h.frames ++ record { names = b.names; parent = Some home; scope = None; kept = kept } ∷ [];
  along = h.along ++ record { names = b.dollars; parent = last_of h.along; scope = None; kept = None } ∷ [];
  here = here;
  depth = h.depth;
}

-- a name is set in the last frame of its kind
abbrev pub set_in_last : List ℕ → Datum → Held → Held
set_in_last name d h =
    if is_dollar name then record h { along = with_name_in_last name d h.along }
    else record h { frames = with_name_in_last name d h.frames }

-- names with their values are set in the last frames
abbrev pub set_all_in_last : Names → Held → Held
set_all_in_last [] h = h
set_all_in_last (p ∷ more) h = set_all_in_last more (set_in_last p.0 p.1 h)

-- where child statements are kept, `$children` is set to their number
abbrev pub with_count : Option StoredChildren → Held → Held
with_count None h = h
with_count (Some kept) h = set_in_last (codes "$children") (number_of_children kept.statements) h

-- the last frames are taken away, and names are sought from a frame again
unfoldable pub left : ℕ → Held → Held
left back h = record {
  frames = take (length h.frames - 1) h.frames;
  along = take (length h.along - 1) h.along;
  here = back;
  depth = h.depth;
}

-- the last frame
abbrev pub last_frame : List Stored → Stored
last_frame all = stored_at all (length all - 1)

-- the names that are set in the last frames
unfoldable pub bound_in : Held → Bound
bound_in h = record { names = (last_frame h.frames).names; dollars = (last_frame h.along).names }

abbrev pub or_zero : Option ℕ → ℕ
or_zero None = 0
or_zero (Some n) = n

-- without the last frames, and names sought from where the last one stands
unfoldable pub outer : Held → Held
outer h = left (or_zero (last_frame h.frames).parent) h

-- the last frames were opened for names of a `let` or a `for`, and names are sought from them
pub record IsInner (h : Held) : Type 0 where
  pub is : h ≡ opened None (length (outer h).frames) (outer h).here (bound_in h) (outer h)

-- what a call opens: the environment of its parameters, with its children where it keeps some, and that of its
-- `$` names
pub record Opened : Type 0 where
  pub env : Env
  pub along : Env

-- what a call opened
unfoldable pub opened_in : Held → Opened
opened_in h = record { env = env_in h; along = along_in h }
