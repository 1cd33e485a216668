-- How the table in memory numbers the names: an id for each function, and one for all names that are left out.
use Rattle.std.specs.Prelude.{ℕ, List, [], ◌∷◌, ◌==◌, if◌then◌else◌, codes}
use Rattle.scad_builtin.specs.declared.function.Function.TheVariants.{Abs, Sign, Floor, Ceil, Round, Sqrt, Sin, Cos, Tan, Min, Max, Len, Concat, Str, Chr, Ord, Norm, Cross, IsUndef, IsBool, IsNum, IsString, IsList}
use Rattle.scad_builtin.specs.declared.id.TheConstants.{ABS, SIGN, FLOOR, CEIL, ROUND, SQRT, SIN, COS, TAN, MIN, MAX, LEN, CONCAT, STR, CHR, ORD, NORM, CROSS, IS_UNDEF, IS_BOOL, IS_NUM, IS_STRING, IS_LIST, LEFT_OUT}
use Rattle.scad_builtin.specs.declared.function.Name.{Name}
use Rattle.scad_builtin.specs.declared.function.Name.TheVariants.{Known, LeftOut, Unknown}

-- each name with its id
abbrev pub name_table : List (List ℕ × ℕ)
name_table =
    (codes "abs", ABS) ∷ (codes "acos", LEFT_OUT) ∷ (codes "asin", LEFT_OUT) ∷ (codes "atan", LEFT_OUT)
    ∷ (codes "atan2", LEFT_OUT) ∷ (codes "ceil", CEIL) ∷ (codes "chr", CHR) ∷ (codes "concat", CONCAT)
    ∷ (codes "cos", COS) ∷ (codes "cross", CROSS) ∷ (codes "dxf_cross", LEFT_OUT) ∷ (codes "dxf_dim", LEFT_OUT)
    ∷ (codes "exp", LEFT_OUT) ∷ (codes "floor", FLOOR) ∷ (codes "fontmetrics", LEFT_OUT) ∷ (codes "is_bool", IS_BOOL)
    ∷ (codes "is_function", LEFT_OUT) ∷ (codes "is_list", IS_LIST) ∷ (codes "is_num", IS_NUM) ∷ (codes "is_string", IS_STRING)
    ∷ (codes "is_undef", IS_UNDEF) ∷ (codes "len", LEN) ∷ (codes "ln", LEFT_OUT) ∷ (codes "log", LEFT_OUT)
    ∷ (codes "lookup", LEFT_OUT) ∷ (codes "max", MAX) ∷ (codes "min", MIN) ∷ (codes "norm", NORM)
    ∷ (codes "ord", ORD) ∷ (codes "parent_module", LEFT_OUT) ∷ (codes "pow", LEFT_OUT)
    ∷ (codes "rands", LEFT_OUT) ∷ (codes "round", ROUND) ∷ (codes "search", LEFT_OUT) ∷ (codes "sign", SIGN)
    ∷ (codes "sin", SIN) ∷ (codes "sqrt", SQRT) ∷ (codes "str", STR) ∷ (codes "tan", TAN)
    ∷ (codes "textmetrics", LEFT_OUT) ∷ (codes "version", LEFT_OUT) ∷ (codes "version_num", LEFT_OUT)
    ∷ []

-- what the name of an id means
unfoldable pub numbered_name : ℕ → Name
numbered_name n =
    if n == ABS then Known Abs
    else (if n == SIGN then Known Sign
    else (if n == FLOOR then Known Floor
    else (if n == CEIL then Known Ceil
    else (if n == ROUND then Known Round
    else (if n == SQRT then Known Sqrt
    else (if n == SIN then Known Sin
    else (if n == COS then Known Cos
    else (if n == TAN then Known Tan
    else (if n == MIN then Known Min
    else (if n == MAX then Known Max
    else (if n == LEN then Known Len
    else (if n == CONCAT then Known Concat
    else (if n == STR then Known Str
    else (if n == CHR then Known Chr
    else (if n == ORD then Known Ord
    else (if n == NORM then Known Norm
    else (if n == CROSS then Known Cross
    else (if n == IS_UNDEF then Known IsUndef
    else (if n == IS_BOOL then Known IsBool
    else (if n == IS_NUM then Known IsNum
    else (if n == IS_STRING then Known IsString
    else (if n == IS_LIST then Known IsList
    else (if n == LEFT_OUT then LeftOut
    else Unknown)))))))))))))))))))))))
