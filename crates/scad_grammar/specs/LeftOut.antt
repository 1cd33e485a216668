-- Forms of the language that are left out, where each could stand. Behind tokens a statement, a body's item or a
-- child may begin where `{` may stand; a mark where `#` may; an operator where `.` may, which also stands behind an
-- operand alone; an expression where `echo` may and no mark.
use Rattle.std.specs.Prelude.{ℕ, List, [], ◌∷◌, ◌++◌, codes}
use Rattle.scad_fault.specs.declared.place.Place.{Place}
use Rattle.scad_lex.specs.declared.token.Token.{Token}
use Rattle.scad_lex.specs.declared.token.Sign.TheVariants.{OpenCurly, Hash, Bang, Caret, Dot}
use Rattle.scad_lex.specs.declared.token.Key.TheVariants.{Function, Echo, Include, Use}
use Rattle.scad_grammar.specs.Tokens.{sign, key}
use Rattle.scad_grammar.specs.Statements.{Begins}

-- behind these tokens this token is of a form that is left out, of this name
pub data IsLeftOut : List Token → Token → List ℕ → Type 0 where
  left_include : {before : List Token} {at : Place} →
      Begins (before ++ (sign OpenCurly at ∷ [])) → IsLeftOut before (key Include at) (codes "include")
  left_use : {before : List Token} {at : Place} →
      Begins (before ++ (sign OpenCurly at ∷ [])) → IsLeftOut before (key Use at) (codes "use")
  left_mark : {before : List Token} {at : Place} →
      Begins (before ++ (sign Hash at ∷ [])) → IsLeftOut before (sign Bang at) (codes "!")
  left_operator : {before : List Token} {at : Place} →
      Begins (before ++ (sign Dot at ∷ [])) → IsLeftOut before (sign Caret at) (codes "^")
  left_function : {before : List Token} {at : Place} →
      Begins (before ++ (key Echo at ∷ [])) → (Begins (before ++ (sign Hash at ∷ [])) → ⊥) →
      IsLeftOut before (key Function at) (codes "function")
