-- Worked examples of ranges, indices and members, each under its source. Expected values come from an independent
-- program.
use Rattle.std.proofs.Common.{◌≡◌, pos, false, [], refl}
use Rattle.std.specs.Prelude.{codes}
use Rattle.scad_fault.specs.declared.fault.FaultKind.TheVariants.{ZeroDivisor, ZeroStep}
use Rattle.scad_ast.specs.declared.operator.UnOp.TheVariants.{Minus}
use Rattle.scad_ast.specs.declared.operator.BinOp.TheVariants.{Mul, Div}
use Rattle.scad_ast.specs.Tree.{no_elements, element, item, no_items}
use Rattle.scad_ast.specs.Tree.{boolean as boolean_at, number as number_at, string as string_at, vector as vector_at, range as range_at, stepped as stepped_at, unary as unary_at, binary as binary_at, index as index_at, member as member_at}
use Rattle.scad_value.specs.Datum.{undef, number, string, range}
use Rattle.scad_machine.specs.State.{start, gives, refuses}
use Rattle.scad_expr.proofs.OnLiterals.{expressions_on_literals}
use Rattle.scad_expr.proofs.ExampleWords.{at, after, faulted, evaluated}

-- x=[0:0:3];
zero_step : evaluated 2000 no_items (stepped_at (at 3) (number_at (at 4) (pos 0)) (number_at (at 6) (pos
    0)) (number_at (at 8) (pos 3000000))) start ≡ refuses (faulted ZeroStep (at 3) []) (after 4 ([]))
unfolding expressions_on_literals
zero_step = refl

-- x=[0:"a"];
undef_part_of_range : evaluated 2000 no_items (range_at (at 3) (number_at (at 4) (pos 0)) (string_at (at
    6) (codes "a"))) start ≡ gives undef (after 3 ([]))
unfolding expressions_on_literals
undef_part_of_range = refl

-- x=[5,6,7][1.9];
index_is_cut : evaluated 2000 no_items (index_at (at 10) (vector_at (at 3) (element (item (number_at (at
    4) (pos 5000000))) (element (item (number_at (at 6) (pos 6000000))) (element (item (number_at (at 8)
    (pos 7000000))) no_elements)))) (number_at (at 11) (pos 1900000))) start ≡ gives (number (pos
    6000000)) (after 9 ([]))
unfolding expressions_on_literals
index_is_cut = refl

-- x=[5,6][-0.5];
index_below_zero : evaluated 2000 no_items (index_at (at 8) (vector_at (at 3) (element (item (number_at
    (at 4) (pos 5000000))) (element (item (number_at (at 6) (pos 6000000))) no_elements))) (unary_at (at
    9) Minus (number_at (at 10) (pos 500000)))) start ≡ gives (number (pos 5000000)) (after 8 ([]))
unfolding expressions_on_literals
index_below_zero = refl

-- x="abc"[1];
character : evaluated 2000 no_items (index_at (at 8) (string_at (at 3) (codes "abc")) (number_at (at 9)
    (pos 1000000))) start ≡ gives (string (codes "b")) (after 3 ([]))
unfolding expressions_on_literals
character = refl

-- x=[5,6].y;
member_y : evaluated 2000 no_items (member_at (at 8) (vector_at (at 3) (element (item (number_at (at 4)
    (pos 5000000))) (element (item (number_at (at 6) (pos 6000000))) no_elements))) (codes "y")) start ≡
    gives (number (pos 6000000)) (after 6 ([]))
unfolding expressions_on_literals
member_y = refl

-- x=[5,6].w;
member_other : evaluated 2000 no_items (member_at (at 8) (vector_at (at 3) (element (item (number_at (at
    4) (pos 5000000))) (element (item (number_at (at 6) (pos 6000000))) no_elements))) (codes "w"))
    start ≡ gives undef (after 6 ([]))
unfolding expressions_on_literals
member_other = refl

-- x=[5,6][2];
index_past_the_end : evaluated 2000 no_items (index_at (at 8) (vector_at (at 3) (element (item
    (number_at (at 4) (pos 5000000))) (element (item (number_at (at 6) (pos 6000000))) no_elements)))
    (number_at (at 9) (pos 2000000))) start ≡ gives undef (after 7 ([]))
unfolding expressions_on_literals
index_past_the_end = refl

-- x=[1:2:9][1];
index_of_range : evaluated 2000 no_items (index_at (at 10) (stepped_at (at 3) (number_at (at 4) (pos
    1000000)) (number_at (at 6) (pos 2000000)) (number_at (at 8) (pos 9000000))) (number_at (at 11) (pos
    1000000))) start ≡ gives (number (pos 2000000)) (after 6 ([]))
unfolding expressions_on_literals
index_of_range = refl

-- x=4[0];
index_of_number : evaluated 2000 no_items (index_at (at 4) (number_at (at 3) (pos 4000000)) (number_at
    (at 5) (pos 0))) start ≡ gives undef (after 3 ([]))
unfolding expressions_on_literals
index_of_number = refl

-- x=[4]["a"];
index_by_string : evaluated 2000 no_items (index_at (at 6) (vector_at (at 3) (element (item (number_at
    (at 4) (pos 4000000))) no_elements)) (string_at (at 7) (codes "a"))) start ≡ gives undef (after 5
    ([]))
unfolding expressions_on_literals
index_by_string = refl

-- x=(1/0)[1000000000*2];
index_after_value : evaluated 2000 no_items (index_at (at 8) (binary_at (at 5) Div (number_at (at 4)
    (pos 1000000)) (number_at (at 6) (pos 0))) (binary_at (at 19) Mul (number_at (at 9) (pos
    1000000000000000)) (number_at (at 20) (pos 2000000)))) start ≡ refuses (faulted ZeroDivisor (at 5)
    []) (after 4 ([]))
unfolding expressions_on_literals
index_after_value = refl

-- x=[3:5].x;
member_x_of_range : evaluated 2000 no_items (member_at (at 8) (range_at (at 3) (number_at (at 4) (pos
    3000000)) (number_at (at 6) (pos 5000000))) (codes "x")) start ≡ gives (number (pos 3000000)) (after
    4 ([]))
unfolding expressions_on_literals
member_x_of_range = refl

-- x=[5,6].z;
member_z_past : evaluated 2000 no_items (member_at (at 8) (vector_at (at 3) (element (item (number_at
    (at 4) (pos 5000000))) (element (item (number_at (at 6) (pos 6000000))) no_elements))) (codes "z"))
    start ≡ gives undef (after 6 ([]))
unfolding expressions_on_literals
member_z_past = refl

-- x=[1/0:0:3];
range_parts_in_order : evaluated 2000 no_items (stepped_at (at 3) (binary_at (at 5) Div (number_at (at
    4) (pos 1000000)) (number_at (at 6) (pos 0))) (number_at (at 8) (pos 0)) (number_at (at 10) (pos
    3000000))) start ≡ refuses (faulted ZeroDivisor (at 5) []) (after 4 ([]))
unfolding expressions_on_literals
range_parts_in_order = refl

-- x=[2:2];
range_of_equal_ends : evaluated 2000 no_items (range_at (at 3) (number_at (at 4) (pos 2000000))
    (number_at (at 6) (pos 2000000))) start ≡ gives (range (pos 2000000) (pos 1000000) (pos 2000000))
    (after 3 ([]))
unfolding expressions_on_literals
range_of_equal_ends = refl

-- x=[5:1];
range_to_below : evaluated 2000 no_items (range_at (at 3) (number_at (at 4) (pos 5000000)) (number_at
    (at 6) (pos 1000000))) start ≡ gives (range (pos 1000000) (pos 1000000) (pos 5000000)) (after 3
    ([]))
unfolding expressions_on_literals
range_to_below = refl

-- x=[false:3];
range_with_false : evaluated 2000 no_items (range_at (at 3) (boolean_at (at 4) false) (number_at (at 10)
    (pos 3000000))) start ≡ gives undef (after 3 ([]))
unfolding expressions_on_literals
range_with_false = refl

-- x=["a":0:3];
zero_step_of_undef : evaluated 2000 no_items (stepped_at (at 3) (string_at (at 4) (codes "a"))
    (number_at (at 8) (pos 0)) (number_at (at 10) (pos 3000000))) start ≡ gives undef (after 4 ([]))
unfolding expressions_on_literals
zero_step_of_undef = refl
