-- No operator is refused for want of memory.
use Rattle.std.proofs.Common.{ℕ, zero, suc, ◌+◌, ◌==◌, ℤ, Bool, true, false, Option, Some, None, Result, Ok, Err}
use Rattle.scad_ast.specs.declared.operator.BinOp.{BinOp}
use Rattle.scad_ast.specs.declared.operator.BinOp.TheVariants.{Or, And, Eq, Ne, Lt, Le, Gt, Ge, Add, Sub, Mul, Div, Rem}
use Rattle.scad_num.specs.declared.fault.NumFault.{NumFault}
use Rattle.scad_num.specs.declared.fault.NumFault.TheVariants.{Range}
use Rattle.scad_num.specs.declared.fault.NumFault.TheVariants.{ZeroDivisor as ByZero}
use Rattle.scad_num.specs.Number.{sum_of, difference_of, product_of, quotient_of, remainder_of}
use Rattle.scad_value.specs.declared.fault.ValueFault.{ValueFault}
use Rattle.scad_value.specs.declared.fault.ValueFault.TheVariants.{ZeroDivisor, NumberRange, Memory}
use Rattle.scad_value.specs.Datum.{Datum, undef, boolean, number, string, vector, range, Elements, no_elements, element}
use Rattle.scad_value.specs.Elementwise.{Answer, AllAnswers, as_number, as_vector, first_then, each}
use Rattle.scad_value.specs.Elementwise.{each_of}
use Rattle.scad_value.specs.Elementwise.{by_pairs, by_pairs_of}
use Rattle.scad_value.specs.Products.{dot, column, elements_in, count, numbers_in, columns_in, factor_by, by_columns}
use Rattle.scad_value.specs.Products.{by_rows, by_rows_and_columns, when, product_of_factors}
use Rattle.scad_value.specs.Operators.{product, quotient, remainder, op}
use Rattle.meaning_laws.proofs.Faults.{Faults, ok, err}

-- a fault of the source
abbrev pub OfValues : ValueFault → Type 0
OfValues ZeroDivisor = Unit {0}
OfValues NumberRange = Unit {0}
OfValues Memory = ⊥

-- a value, or a fault of the source
abbrev pub Operates : {A : Type 0} → Result A ValueFault → Type 0
Operates r = Faults OfValues r

-- ---- elements
operates-number : (r : Result ℤ NumFault) → Operates (as_number r)
operates-number (Ok z) = ok
operates-number (Err Range) = err tt
operates-number (Err ByZero) = err tt

operates-vector : {r : AllAnswers} → Operates r → Operates (as_vector r)
operates-vector {r = Ok all} others = ok
operates-vector {r = Err fault} others = err others.is

operates-first : {a : Answer} {r : AllAnswers} → Operates a → Operates r → Operates (first_then a r)
operates-first {a = Ok d} {r = Ok all} first others = ok
operates-first {a = Ok d} {r = Err fault} first others = err others.is
operates-first {a = Err fault} first others = err first.is

module _ (f : ℤ → Result ℤ NumFault) where
  mutual
    operates-each : (d : Datum) → Operates (each f d)
    operates-each (number z) = operates-number (f z)
    operates-each (vector all) = operates-vector (operates-each_of all)
    operates-each undef = ok
    operates-each (boolean b) = ok
    operates-each (string chars) = ok
    operates-each (range a s b) = ok

    operates-each_of : (all : Elements) → Operates (each_of f all)
    operates-each_of no_elements = ok
    operates-each_of (element d all) = operates-first (operates-each d) (operates-each_of all)

module _ (f : ℤ → ℤ → Result ℤ NumFault) where
  mutual
    operates-pairs : (a b : Datum) → Operates (by_pairs f a b)
    operates-pairs (number a) (number b) = operates-number (f a b)
    operates-pairs (vector xs) (vector ys) = operates-vector (operates-pairs_of xs ys)
    operates-pairs (number a) undef = ok
    operates-pairs (number a) (boolean b) = ok
    operates-pairs (number a) (string b) = ok
    operates-pairs (number a) (vector b) = ok
    operates-pairs (number a) (range b s e) = ok
    operates-pairs (vector a) undef = ok
    operates-pairs (vector a) (boolean b) = ok
    operates-pairs (vector a) (string b) = ok
    operates-pairs (vector a) (number b) = ok
    operates-pairs (vector a) (range b s e) = ok
    operates-pairs undef b = ok
    operates-pairs (boolean a) b = ok
    operates-pairs (string a) b = ok
    operates-pairs (range a s e) b = ok

    operates-pairs_of : (xs ys : Elements) → Operates (by_pairs_of f xs ys)
    operates-pairs_of (element x xs) (element y ys) = operates-first (operates-pairs x y) (operates-pairs_of xs ys)
    operates-pairs_of (element x xs) no_elements = ok
    operates-pairs_of no_elements ys = ok

-- ---- products of vectors
operates-columns : (n j : ℕ) (xs rows : Elements) → Operates (by_columns n j xs rows)
operates-columns zero j xs rows = ok
operates-columns (suc n) j xs rows =
    operates-first (operates-number (dot xs (column j rows))) (operates-columns n (j + 1) xs rows)

operates-rows : (xs ys : Elements) → Operates (by_rows xs ys)
operates-rows no_elements ys = ok
operates-rows (element row rows) ys =
    operates-first (operates-number (dot (elements_in row) ys)) (operates-rows rows ys)

operates-both : (n : ℕ) (xs ys : Elements) → Operates (by_rows_and_columns n xs ys)
operates-both n no_elements ys = ok
operates-both n (element row rows) ys =
    operates-first (operates-vector (operates-columns n 0 (elements_in row) ys)) (operates-both n rows ys)

operates-when : (b : Bool) {a : Answer} → Operates a → Operates (when b a)
operates-when true answer = answer
operates-when false answer = ok

-- each factor is so many numbers, or else so many rows of so many numbers, or neither
operates-factors : (numbers columns : Option ℕ) (rows : ℕ) (numbers2 columns2 : Option ℕ) (rows2 : ℕ) (xs ys : Elements)
    → Operates (product_of_factors (factor_by numbers rows columns) (factor_by numbers2 rows2 columns2) xs ys)
operates-factors (Some n) c rows (Some m) d more xs ys = operates-when (n == m) (operates-number (dot xs ys))
operates-factors None (Some n) rows (Some m) d more xs ys =
    operates-when (n == m) (operates-vector (operates-rows xs ys))
operates-factors (Some n) c rows None (Some k) m xs ys =
    operates-when (n == m) (operates-vector (operates-columns k 0 xs ys))
operates-factors None (Some n) rows None (Some k) m xs ys =
    operates-when (n == m) (operates-vector (operates-both k xs ys))
operates-factors (Some n) c rows None None m xs ys = ok
operates-factors None (Some n) rows None None m xs ys = ok
operates-factors None None rows b d m xs ys = ok

-- ---- the operators
operates-product : (a b : Datum) → Operates (product a b)
operates-product (number a) (number b) = operates-number (product_of a b)
operates-product (number a) (vector ys) = operates-vector (operates-each_of (λ y. product_of a y) ys)
operates-product (vector xs) (number b) = operates-vector (operates-each_of (λ x. product_of x b) xs)
operates-product (vector xs) (vector ys) =
    operates-factors (numbers_in xs) (columns_in xs) (count xs) (numbers_in ys) (columns_in ys) (count ys) xs ys
operates-product (number a) undef = ok
operates-product (number a) (boolean b) = ok
operates-product (number a) (string b) = ok
operates-product (number a) (range b s e) = ok
operates-product (vector a) undef = ok
operates-product (vector a) (boolean b) = ok
operates-product (vector a) (string b) = ok
operates-product (vector a) (range b s e) = ok
operates-product undef b = ok
operates-product (boolean a) b = ok
operates-product (string a) b = ok
operates-product (range a s e) b = ok

operates-quotient : (a b : Datum) → Operates (quotient a b)
operates-quotient (number a) (number b) = operates-number (quotient_of a b)
operates-quotient (vector xs) (number b) = operates-vector (operates-each_of (λ x. quotient_of x b) xs)
operates-quotient (number a) (vector ys) = operates-vector (operates-each_of (λ y. quotient_of a y) ys)
operates-quotient (number a) undef = ok
operates-quotient (number a) (boolean b) = ok
operates-quotient (number a) (string b) = ok
operates-quotient (number a) (range b s e) = ok
operates-quotient (vector a) undef = ok
operates-quotient (vector a) (boolean b) = ok
operates-quotient (vector a) (string b) = ok
operates-quotient (vector a) (vector b) = ok
operates-quotient (vector a) (range b s e) = ok
operates-quotient undef b = ok
operates-quotient (boolean a) b = ok
operates-quotient (string a) b = ok
operates-quotient (range a s e) b = ok

operates-remainder : (a b : Datum) → Operates (remainder a b)
operates-remainder (number a) (number b) = operates-number (remainder_of a b)
operates-remainder (number a) undef = ok
operates-remainder (number a) (boolean b) = ok
operates-remainder (number a) (string b) = ok
operates-remainder (number a) (vector b) = ok
operates-remainder (number a) (range b s e) = ok
operates-remainder (vector a) b = ok
operates-remainder undef b = ok
operates-remainder (boolean a) b = ok
operates-remainder (string a) b = ok
operates-remainder (range a s e) b = ok

pub operates-op : (o : BinOp) (a b : Datum) → Operates (op o a b)
operates-op Or a b = ok
operates-op And a b = ok
operates-op Eq a b = ok
operates-op Ne a b = ok
operates-op Lt a b = ok
operates-op Le a b = ok
operates-op Gt a b = ok
operates-op Ge a b = ok
operates-op Add a b = operates-pairs sum_of a b
operates-op Sub a b = operates-pairs difference_of a b
operates-op Mul a b = operates-product a b
operates-op Div a b = operates-quotient a b
operates-op Rem a b = operates-remainder a b
