-- Operations on numbers taken through vectors element by element, to a value or the first fault from left to right.
use Rattle.std.specs.Prelude.{ℤ, Result, Ok, Err}
use Rattle.scad_num.specs.declared.fault.NumFault.{NumFault}
use Rattle.scad_value.specs.declared.fault.ValueFault.{ValueFault}
use Rattle.scad_value.specs.Datum.{Datum, undef, number, vector, Elements, no_elements, element}
use Rattle.scad_value.specs.Faults.{fault_of}

-- what an operation gives
abbrev pub Answer : Type 0
Answer = Result Datum ValueFault

abbrev pub AllAnswers : Type 0
AllAnswers = Result Elements ValueFault

abbrev pub as_number : Result ℤ NumFault → Answer
as_number (Ok z) = Ok (number z)
as_number (Err fault) = Err (fault_of fault)

abbrev pub as_vector : AllAnswers → Answer
as_vector (Ok all) = Ok (vector all)
as_vector (Err fault) = Err fault

-- an element before others
abbrev pub before_all : Datum → AllAnswers → AllAnswers
before_all d (Ok all) = Ok (element d all)
before_all d (Err fault) = Err fault

-- the first element and then the others, or the first fault
abbrev pub first_then : Answer → AllAnswers → AllAnswers
first_then (Ok d) others = before_all d others
first_then (Err fault) others = Err fault

abbrev mutual
  -- the operation at a number and at each element of a vector
  pub each : (ℤ → Result ℤ NumFault) → Datum → Answer
  each f (number z) = as_number (f z)
  each f (vector all) = as_vector (each_of f all)
  each f _ = Ok undef

  pub each_of : (ℤ → Result ℤ NumFault) → Elements → AllAnswers
  each_of f no_elements = Ok no_elements
  each_of f (element d all) = first_then (each f d) (each_of f all)

abbrev mutual
  -- the operation at two numbers, and at each two elements of two vectors up to the shorter length
  pub by_pairs : (ℤ → ℤ → Result ℤ NumFault) → Datum → Datum → Answer
  by_pairs f (number a) (number b) = as_number (f a b)
  by_pairs f (vector xs) (vector ys) = as_vector (by_pairs_of f xs ys)
  by_pairs f _ _ = Ok undef

  pub by_pairs_of : (ℤ → ℤ → Result ℤ NumFault) → Elements → Elements → AllAnswers
  by_pairs_of f (element x xs) (element y ys) = first_then (by_pairs f x y) (by_pairs_of f xs ys)
  by_pairs_of f _ _ = Ok no_elements
