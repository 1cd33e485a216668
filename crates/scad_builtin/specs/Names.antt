-- The names of functions (OpenSCAD User Manual, "Mathematical Functions", "String Functions", "List Concatenation",
-- "Type Test Functions"): those of the language, and those of the manual that the language leaves out.
use Rattle.std.specs.Prelude.{ℕ, List, [], ◌∷◌, codes}
use Rattle.scad_table.specs.Meanings.{found_in}
use Rattle.scad_builtin.specs.declared.function.Function.TheVariants.{Abs, Sign, Floor, Ceil, Round, Sqrt, Sin, Cos, Tan, Min, Max, Len, Concat, Str, Chr, Ord, Norm, Cross, IsUndef, IsBool, IsNum, IsString, IsList}
use Rattle.scad_builtin.specs.declared.function.Name.{Name}
use Rattle.scad_builtin.specs.declared.function.Name.TheVariants.{Known, LeftOut, Unknown}

-- what each name means
abbrev pub meanings : List (List ℕ × Name)
meanings =
    (codes "abs", Known Abs) ∷ (codes "acos", LeftOut) ∷ (codes "asin", LeftOut) ∷ (codes "atan", LeftOut)
    ∷ (codes "atan2", LeftOut) ∷ (codes "ceil", Known Ceil) ∷ (codes "chr", Known Chr)
    ∷ (codes "concat", Known Concat) ∷ (codes "cos", Known Cos) ∷ (codes "cross", Known Cross)
    ∷ (codes "dxf_cross", LeftOut) ∷ (codes "dxf_dim", LeftOut) ∷ (codes "exp", LeftOut)
    ∷ (codes "floor", Known Floor) ∷ (codes "fontmetrics", LeftOut) ∷ (codes "is_bool", Known IsBool)
    ∷ (codes "is_function", LeftOut) ∷ (codes "is_list", Known IsList) ∷ (codes "is_num", Known IsNum)
    ∷ (codes "is_string", Known IsString) ∷ (codes "is_undef", Known IsUndef) ∷ (codes "len", Known Len)
    ∷ (codes "ln", LeftOut) ∷ (codes "log", LeftOut) ∷ (codes "lookup", LeftOut) ∷ (codes "max", Known Max)
    ∷ (codes "min", Known Min) ∷ (codes "norm", Known Norm) ∷ (codes "ord", Known Ord)
    ∷ (codes "parent_module", LeftOut) ∷ (codes "pow", LeftOut) ∷ (codes "rands", LeftOut)
    ∷ (codes "round", Known Round) ∷ (codes "search", LeftOut) ∷ (codes "sign", Known Sign)
    ∷ (codes "sin", Known Sin) ∷ (codes "sqrt", Known Sqrt) ∷ (codes "str", Known Str)
    ∷ (codes "tan", Known Tan) ∷ (codes "textmetrics", LeftOut) ∷ (codes "version", LeftOut)
    ∷ (codes "version_num", LeftOut)
    ∷ []

-- what a name means where a function is called
unfoldable pub meaning_of : List ℕ → Name
meaning_of name = found_in meanings Unknown name
