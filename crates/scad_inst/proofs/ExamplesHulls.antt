-- Worked examples of hulls, each under its source. Expected values come from an independent program.
use Rattle.std.proofs.Common.{◌≡◌, ℕ, pos, false, List, [], ◌∷◌, None, refl}
use Rattle.std.specs.Prelude.{codes}
use Rattle.scad_fault.specs.declared.fault.FaultKind.TheVariants.{LeftOut, BadArgument}
use Rattle.scad_ast.specs.declared.operator.UnOp.TheVariants.{Minus}
use Rattle.scad_ast.specs.Tree.{Expression, Arguments, Items, no_arguments, argument, no_elements, element, item}
use Rattle.scad_ast.specs.Tree.{no_items, entry, call_of}
use Rattle.scad_ast.specs.Tree.{number as number_at, vector as vector_at, unary as unary_at}
use Rattle.scad_inst.proofs.OnLiterals.{statements_on_literals}
use Rattle.scad_inst.proofs.ExampleWords.{at, Empty, made, shown, faulted}

-- a call at a column, before other statements
abbrev called : ℕ → List ℕ → Arguments → Items → Items → Items
called column name args all more = entry (call_of (at column) false false name args all) more

-- an argument without a name
abbrev given : Expression → Arguments
given e = argument None e no_arguments

-- so many millimetres
abbrev whole : ℕ → ℕ → Expression
whole column millionths = number_at (at column) (pos millionths)

-- hull();
of_nothing : shown (called 1 (codes "hull") no_arguments no_items no_items) ≡ made 1 0 0 [] (Empty 0 ∷ [])
unfolding statements_on_literals
of_nothing = refl

-- hull(){cube([1,1,0]);}
of_a_flat_solid : shown (called 1 (codes "hull") no_arguments (called 8 (codes "cube") (given (vector_at (at 13)
    (element (item (whole 14 1000000)) (element (item (whole 16 1000000)) (element (item (whole 18 0))
    no_elements))))) no_items no_items) no_items) ≡ made 9 1 12 [] (Empty 0 ∷ [])
unfolding statements_on_literals
of_a_flat_solid = refl

-- hull(){difference(){cube(2); cube(1);}}
of_a_difference : shown (called 1 (codes "hull") no_arguments (called 8 (codes "difference") no_arguments
    (called 21 (codes "cube") (given (whole 26 2000000)) no_items
    (called 30 (codes "cube") (given (whole 35 1000000)) no_items no_items)) no_items) no_items)
    ≡ faulted LeftOut (at 1) (codes "hull") []
unfolding statements_on_literals
of_a_difference = refl

-- rotate_extrude() hull(){square(1); translate([-1,0]) square(1);}
round_the_axis : shown (called 1 (codes "rotate_extrude") no_arguments (called 18 (codes "hull") no_arguments
    (called 25 (codes "square") (given (whole 32 1000000)) no_items
    (called 36 (codes "translate") (given (vector_at (at 46) (element (item (unary_at (at 47) Minus
    (whole 48 1000000))) (element (item (whole 50 0)) no_elements))))
    (called 54 (codes "square") (given (whole 61 1000000)) no_items no_items) no_items)) no_items) no_items)
    ≡ faulted BadArgument (at 1) (codes "rotate_extrude") []
unfolding statements_on_literals
round_the_axis = refl
