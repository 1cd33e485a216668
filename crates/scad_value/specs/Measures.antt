-- How large a value is, and how deep its vectors lie in one another.
use Rattle.std.specs.Prelude.{ℕ, ◌+◌, length, max}
use Rattle.scad_value.specs.Datum.{Datum, vector, string, Elements, no_elements, element}

abbrev mutual
  -- the elements and characters in a value, at every depth
  pub made : Datum → ℕ
  made (vector all) = made_all all
  made (string chars) = length chars
  made _ = 0

  pub made_all : Elements → ℕ
  made_all no_elements = 0
  made_all (element d all) = 1 + made d + made_all all

abbrev mutual
  -- how many brackets stand round the innermost element of a value
  pub nesting : Datum → ℕ
  nesting (vector all) = 1 + deepest all
  nesting _ = 0

  pub deepest : Elements → ℕ
  deepest no_elements = 0
  deepest (element d all) = max (nesting d) (deepest all)
