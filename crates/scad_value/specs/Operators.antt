-- The operators (OpenSCAD User Manual, "Mathematical operators", "Relational operators", "Logical operators").
-- Kinds of operands that a row doesn't list give `undef`.
use Rattle.std.specs.Prelude.{Bool, not, ◌&&◌, ◌||◌, Option, Some, None, Ok}
use Rattle.std.specs.declared.cmp.Ordering.{Ordering}
use Rattle.std.specs.Ordering.{is_lt, is_le, is_gt, is_ge}
use Rattle.scad_ast.specs.declared.operator.BinOp.{BinOp}
use Rattle.scad_ast.specs.declared.operator.BinOp.TheVariants.{Or, And, Eq, Ne, Lt, Le, Gt, Ge, Add, Sub, Mul, Div, Rem}
use Rattle.scad_ast.specs.declared.operator.UnOp.{UnOp}
use Rattle.scad_ast.specs.declared.operator.UnOp.TheVariants.{Not, Plus, Minus}
use Rattle.scad_num.specs.Number.{sum_of, difference_of, product_of, quotient_of, remainder_of}
use Rattle.scad_value.specs.Datum.{Datum, undef, boolean, number, vector}
use Rattle.scad_value.specs.Comparison.{truth, equal, order}
use Rattle.scad_value.specs.Elementwise.{Answer, as_number, as_vector, each_of, by_pairs}
use Rattle.scad_value.specs.Negative.{negative}
use Rattle.scad_value.specs.Products.{product_of_vectors}

-- a boolean, where the operands have an order
abbrev pub ordered : (Ordering → Bool) → Option Ordering → Datum
ordered test (Some o) = boolean (test o)
ordered test None = undef

-- `a * b`
abbrev pub product : Datum → Datum → Answer
product (number a) (number b) = as_number (product_of a b)
product (number a) (vector ys) = as_vector (each_of (λ y. product_of a y) ys)
product (vector xs) (number b) = as_vector (each_of (λ x. product_of x b) xs)
product (vector xs) (vector ys) = product_of_vectors xs ys
product _ _ = Ok undef

-- `a / b`
abbrev pub quotient : Datum → Datum → Answer
quotient (number a) (number b) = as_number (quotient_of a b)
quotient (vector xs) (number b) = as_vector (each_of (λ x. quotient_of x b) xs)
quotient (number a) (vector ys) = as_vector (each_of (λ y. quotient_of a y) ys)
quotient _ _ = Ok undef

-- `a % b`
abbrev pub remainder : Datum → Datum → Answer
remainder (number a) (number b) = as_number (remainder_of a b)
remainder _ _ = Ok undef

-- what an operator gives between two values: a value or the first fault. `&&` and `||` here are the booleans of the
-- truths, wherever the right operand is evaluated at all
abbrev pub op : BinOp → Datum → Datum → Answer
op Or a b = Ok (boolean (truth a || truth b))
op And a b = Ok (boolean (truth a && truth b))
op Eq a b = Ok (boolean (equal a b))
op Ne a b = Ok (boolean (not (equal a b)))
op Lt a b = Ok (ordered is_lt (order a b))
op Le a b = Ok (ordered is_le (order a b))
op Gt a b = Ok (ordered is_gt (order a b))
op Ge a b = Ok (ordered is_ge (order a b))
op Add a b = by_pairs sum_of a b
op Sub a b = by_pairs difference_of a b
op Mul a b = product a b
op Div a b = quotient a b
op Rem a b = remainder a b

-- the operand, where it is a number or a vector
abbrev pub plus : Datum → Datum
plus (number z) = number z
plus (vector all) = vector all
plus _ = undef

-- what a prefix operator gives
abbrev pub unary_op : UnOp → Datum → Datum
unary_op Not a = boolean (not (truth a))
unary_op Plus a = plus a
unary_op Minus a = negative a
