-- The frames that statements open.
use Rattle.std.specs.Prelude.{List, [], ◌∷◌, Some, None, if◌then◌else◌}
use Rattle.scad_ast.specs.Tree.{Arguments, no_arguments, argument, Items}
use Rattle.scad_value.specs.Datum.{Datum}
use Rattle.scad_scope.specs.Env.{Env, inside, frame, no_children, children}
use Rattle.scad_expr.specs.Arguments.{with_children}
use Rattle.scad_expr.specs.Meaning.{Opened, opened}
use Rattle.scad_expr.specs.Variables.{is_dollar, Bound, set, within}

-- the frames of a scope whose assignments gave these names
abbrev pub scope_opened : Items → Env → Env → Bound → Opened
scope_opened scope env along b = record {
  env = inside (frame b.names (Some scope) no_children) env;
  along = within along b.dollars;
}

-- the frames of names that are set in frames of their own
abbrev pub names_opened : Env → Env → Bound → Opened
names_opened env along b = record { env = within env b.names; along = within along b.dollars }

-- the frames of a call of a module that is defined in the environment `home`: its children are kept with the
-- environment of the place where they are written
abbrev pub call_opened : Env → Env → Items → Env → Bound → Opened
call_opened home along all env b = opened home along (children all env) (with_children (children all env) b)

-- the `$` names among arguments with their values are set; the later of two for one name wins
unfoldable pub dollars_of : Arguments → List Datum → Bound → Bound
dollars_of no_arguments found b = b
dollars_of (argument word e more) [] b = b
dollars_of (argument None e more) (d ∷ found) b = dollars_of more found b
dollars_of (argument (Some name) e more) (d ∷ found) b =
    dollars_of more found (if is_dollar name then set name d b else b)
