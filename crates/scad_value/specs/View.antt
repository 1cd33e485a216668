-- The datum that a value in memory is.
use Rattle.std.specs.Prelude.{List, [], ◌∷◌, map, Vec}
use Rattle.std.specs.Global.{Global}
use Rattle.scad_value.specs.declared.value.Value.{Value, Undef, Bool, Number, Str, List', Range, Row_of-Value, end_of-Value, more_of-Value}
use Rattle.scad_value.specs.Datum.{Datum, undef, boolean, number, string, vector, range, Elements, no_elements, element}

abbrev mutual
  pub datum_of : Value → Datum
  datum_of Undef = undef
  datum_of (Bool b) = boolean b
  datum_of (Number n) = number n
  datum_of (Str chars) = string chars.value
  datum_of (List' block shape all) = vector (row_of all)
  datum_of (Range start step end) = range start step end

  pub row_of : {m : _} → Row_of-Value m → Elements
  row_of end_of-Value = no_elements
  row_of (more_of-Value v rest) = element (datum_of v) (row_of rest)

-- what a list of values is, before more of them
abbrev pub elements_onto : List Value → Elements → Elements
elements_onto [] more = more
elements_onto (v ∷ all) more = element (datum_of v) (elements_onto all more)

-- what a list of values is
abbrev pub elements : List Value → Elements
elements all = elements_onto all no_elements

-- values, one behind another
abbrev pub data_of : List Value → List Datum
data_of all = map datum_of all

-- the values that a vector of them holds
abbrev pub data_in : Vec Value Global → List Datum
data_in v = data_of v.items
