-- Values as texts: the code points that are printed for them.
use Rattle.std.specs.Prelude.{ℕ, ℤ, Bool, true, false, List, [], ◌∷◌, ◌++◌, codes}
use Rattle.scad_base.specs.Characters.{quote, open_square, close_square}
pub use Rattle.scad_num.specs.Text.{size_text, number_text}
pub use Rattle.scad_ast.specs.Text.{boolean_text, separator, separator as comma}
use Rattle.scad_value.specs.Datum.{Datum, undef, boolean, number, string, vector, range, Elements, no_elements, element}

abbrev pub quoted_text : List ℕ → List ℕ
quoted_text chars = quote ∷ chars ++ quote ∷ []

abbrev pub range_text : ℤ → ℤ → ℤ → List ℕ
range_text start step end =
    open_square ∷ number_text start ++ codes " : " ++ number_text step ++ codes " : " ++ number_text end ++ close_square ∷ []

abbrev mutual
  -- a string stands between quotes, a vector's elements between brackets
  pub text : Datum → List ℕ
  text undef = codes "undef"
  text (boolean b) = boolean_text b
  text (number z) = number_text z
  text (string chars) = quoted_text chars
  text (vector all) = open_square ∷ elements_text true all
  text (range start step end) = range_text start step end

  -- elements, the first of them the first of all or not, and the closing bracket
  pub elements_text : Bool → Elements → List ℕ
  elements_text first no_elements = close_square ∷ []
  elements_text first (element d all) = separator first ++ text d ++ elements_text false all
