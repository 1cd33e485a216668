-- The children that `children` names (OpenSCAD User Manual, "Children").
use Rattle.std.specs.Prelude.{ℤ, pos, negsuc, int_div, Option, None}
use Rattle.scad_num.specs.Number.{one}
use Rattle.scad_ast.specs.Tree.{Items, Item}
use Rattle.scad_value.specs.Datum.{Datum, number}
use Rattle.scad_members.specs.Scopes.{child_at}

-- the child of a whole number, from 0, where there is one
abbrev pub child_of : Items → ℤ → Option Item
child_of all (pos n) = child_at all n
child_of all (negsuc n) = None

-- a number is cut to a whole one; a value of another kind names no child
abbrev pub child_named : Items → Datum → Option Item
child_named all (number z) = child_of all (int_div z (pos one))
child_named all _ = None
