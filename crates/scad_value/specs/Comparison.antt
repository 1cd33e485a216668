-- Truth, equality and order (OpenSCAD User Manual, "Relational operators", "Logical operators").
use Rattle.std.specs.Prelude.{pos, Bool, true, false, not, ◌&&◌, [], ◌∷◌, Option, Some, None, nat_eq}
use Rattle.std.specs.declared.cmp.Ordering.{Ordering}
use Rattle.std.specs.Ordering.{nat_cmp, int_cmp, int_eq, bool_cmp, is_eq}
use Rattle.std.specs.Cmp.Lexicographic.{pointwise, slice_cmp}
use Rattle.scad_value.specs.Datum.{Datum, undef, boolean, number, string, vector, range, Elements, no_elements, element}

-- `false`, 0, "", [] and `undef` are false
abbrev pub truth : Datum → Bool
truth undef = false
truth (boolean b) = b
truth (number z) = not (int_eq z (pos 0))
truth (string []) = false
truth (string (c ∷ chars)) = true
truth (vector no_elements) = false
truth (vector (element d all)) = true
truth (range start step end) = true

abbrev mutual
  -- equal kind and content
  pub equal : Datum → Datum → Bool
  equal undef undef = true
  equal (boolean a) (boolean b) = is_eq (bool_cmp a b)
  equal (number a) (number b) = int_eq a b
  equal (string a) (string b) = pointwise nat_eq a b
  equal (vector a) (vector b) = equal_all a b
  equal (range s t e) (range s' t' e') = int_eq s s' && (int_eq t t' && int_eq e e')
  equal _ _ = false

  pub equal_all : Elements → Elements → Bool
  equal_all no_elements no_elements = true
  equal_all (element d all) (element d' all') = equal d d' && equal_all all all'
  equal_all _ _ = false

-- numbers by value, strings by code points, `false` below `true`; no other two values have an order
abbrev pub order : Datum → Datum → Option Ordering
order (number a) (number b) = Some (int_cmp a b)
order (string a) (string b) = Some (slice_cmp nat_cmp a b)
order (boolean a) (boolean b) = Some (bool_cmp a b)
order _ _ = None
