-- The frames that a scope opens, and how deep a machine evaluates.
use Rattle.std.specs.Prelude.{◌≡◌, ℕ, [], ◌∷◌, ◌++◌, length, Some, None}
use Rattle.scad_ast.specs.Tree.{Items}
use Rattle.scad_expr.specs.Machine.{Held}
use Rattle.scad_expr.specs.OpenFrames.{last_of, left, bound_in}
use Rattle.scad_expr.specs.Variables.{Bound}
use Rattle.scad_members.specs.Meaning.{Below, statements_meaning}

-- what is given one level deeper than a statement that is evaluated
abbrev pub below_of : Held → Below
below_of h = statements_meaning h.depth

abbrev pub with_depth : ℕ → Held → Held
with_depth depth h = record h { depth = depth }

-- two frames more, with these names: one that has a scope, inside the frame of a number, and one for the `$` names; and names are
-- sought from the first
unfoldable pub scope_held : Items → ℕ → Bound → Held → Held
scope_held scope home b h = record {
  frames = h.frames ++ record { names = b.names; parent = Some home; scope = Some scope; kept = None } ∷ [];
  along = h.along ++ record { names = b.dollars; parent = last_of h.along; scope = None; kept = None } ∷ [];
  here = length h.frames;
  depth = h.depth;
}

-- the last frames are those of a scope inside the frame of a number; once they are left, names are sought from another one again
pub record IsScope (scope : Items) (home back : ℕ) (h : Held) : Type 0 where
  pub is : h ≡ scope_held scope home (bound_in h) (left back h)
