-- Products of vectors and matrices (OpenSCAD User Manual, "Vector operators").
use Rattle.std.specs.Prelude.{ℕ, zero, suc, ◌+◌, ◌==◌, ℤ, pos, Bool, true, false, ◌&&◌, if◌then◌else◌, Option, Some, None, Result, Ok}
use Rattle.scad_base.specs.Results.{and_then}
use Rattle.scad_num.specs.declared.fault.NumFault.{NumFault}
use Rattle.scad_num.specs.Number.{sum_of, product_of}
use Rattle.scad_value.specs.declared.product.Factor.{Factor}
use Rattle.scad_value.specs.declared.product.Factor.TheVariants.{Numbers, Matrix, Other}
use Rattle.scad_value.specs.Datum.{Datum, undef, number, vector, Elements, no_elements, element}
use Rattle.scad_value.specs.Kinds.{is_number}
use Rattle.scad_value.specs.Elementwise.{Answer, AllAnswers, as_number, as_vector, first_then}

-- the element at a place, or `undef` where there is none
abbrev pub nth : Elements → ℕ → Datum
nth no_elements n = undef
nth (element d all) zero = d
nth (element d all) (suc n) = nth all n

abbrev pub count : Elements → ℕ
count no_elements = 0
count (element d all) = 1 + count all

abbrev pub all_numbers : Elements → Bool
all_numbers no_elements = true
all_numbers (element d all) = is_number d && all_numbers all

-- how many numbers there are, where there is one and all elements are numbers
abbrev pub numbers_in : Elements → Option ℕ
numbers_in no_elements = None
numbers_in (element d all) = if all_numbers (element d all) then Some (count (element d all)) else None

-- the same of a value's elements
abbrev pub width : Datum → Option ℕ
width (vector all) = numbers_in all
width _ = None

-- the row is a vector of so many numbers
abbrev pub is_wide : ℕ → Option ℕ → Bool
is_wide n (Some m) = m == n
is_wide n None = false

abbrev pub all_wide : ℕ → Elements → Bool
all_wide n no_elements = true
all_wide n (element d all) = is_wide n (width d) && all_wide n all

-- the length of the first row, where all rows have it
abbrev pub columns_of : Option ℕ → Elements → Option ℕ
columns_of (Some n) all = if all_wide n all then Some n else None
columns_of None all = None

-- the length of the rows, where all are vectors of equally many numbers, one at least
abbrev pub columns_in : Elements → Option ℕ
columns_in all = columns_of (width (nth all 0)) all

-- so many numbers; else so many rows of so many numbers; else neither
abbrev pub factor_by : Option ℕ → ℕ → Option ℕ → Factor
factor_by (Some n) rows columns = Numbers n
factor_by None rows (Some columns) = Matrix rows columns
factor_by None rows None = Other

-- what the elements of a vector are to a product
abbrev pub factor : Elements → Factor
factor all = factor_by (numbers_in all) (count all) (columns_in all)

abbrev pub amount : Datum → ℤ
amount (number z) = z
amount _ = pos 0

-- a sum and a product, each rounded and in range
abbrev pub plus_product : ℤ → ℤ → ℤ → Result ℤ NumFault
plus_product sum x y = and_then (product_of x y) (λ p. sum_of sum p)

-- a sum, and then the products of each two numbers, added one by one from left to right
abbrev pub dot_from : ℤ → Elements → Elements → Result ℤ NumFault
dot_from sum (element x xs) (element y ys) =
    and_then (plus_product sum (amount x) (amount y)) (λ next. dot_from next xs ys)
dot_from sum _ _ = Ok sum

-- the products summed from left to right
abbrev pub dot : Elements → Elements → Result ℤ NumFault
dot xs ys = dot_from (pos 0) xs ys

abbrev pub elements_in : Datum → Elements
elements_in (vector all) = all
elements_in _ = no_elements

-- a column of a matrix
abbrev pub column : ℕ → Elements → Elements
column j no_elements = no_elements
column j (element row rows) = element (nth (elements_in row) j) (column j rows)

-- a vector times each of so many columns, from the j-th on
abbrev pub by_columns : ℕ → ℕ → Elements → Elements → AllAnswers
by_columns zero j xs rows = Ok no_elements
by_columns (suc more) j xs rows = first_then (as_number (dot xs (column j rows))) (by_columns more (j + 1) xs rows)

-- each row times a vector
abbrev pub by_rows : Elements → Elements → AllAnswers
by_rows no_elements ys = Ok no_elements
by_rows (element row rows) ys = first_then (as_number (dot (elements_in row) ys)) (by_rows rows ys)

-- each row times each of so many columns
abbrev pub by_rows_and_columns : ℕ → Elements → Elements → AllAnswers
by_rows_and_columns n no_elements ys = Ok no_elements
by_rows_and_columns n (element row rows) ys =
    first_then (as_vector (by_columns n 0 (elements_in row) ys)) (by_rows_and_columns n rows ys)

abbrev pub when : Bool → Answer → Answer
when true answer = answer
when false answer = Ok undef

-- vectors of equal length; matrix and vector, vector and matrix, matrix and matrix, where the inner lengths agree
abbrev pub product_of_factors : Factor → Factor → Elements → Elements → Answer
product_of_factors (Numbers n) (Numbers m) xs ys = when (n == m) (as_number (dot xs ys))
product_of_factors (Matrix rows n) (Numbers m) xs ys = when (n == m) (as_vector (by_rows xs ys))
product_of_factors (Numbers n) (Matrix m columns) xs ys = when (n == m) (as_vector (by_columns columns 0 xs ys))
product_of_factors (Matrix rows n) (Matrix m columns) xs ys = when (n == m) (as_vector (by_rows_and_columns columns xs ys))
product_of_factors _ _ xs ys = Ok undef

abbrev pub product_of_vectors : Elements → Elements → Answer
product_of_vectors xs ys = product_of_factors (factor xs) (factor ys) xs ys
