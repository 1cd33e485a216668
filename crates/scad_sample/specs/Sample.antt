-- The sample of a number: a source in the language, of a plate with 36 holes in six rows, whose radii the number gives.
use Rattle.std.specs.Prelude.{ℕ, zero, suc, ◌+◌, ◌*◌, ◌/◌, ◌%◌, ◌^◌, List, ◌++◌, codes}
use Rattle.std.specs.List.{flat_map, range_with_len}
use Rattle.std.specs.Fmt.{decimal}
use Rattle.gcode_text.specs.Numeral.{fixed}

-- The numbers that follow a number, one for each hole.

-- the next number, by the constants of the example of `rand` in the C standard
abbrev pub next : ℕ → ℕ
next s = (1103515245 * s + 12345) % 2 ^ 31

-- the number after so many others
abbrev pub after : ℕ → ℕ → ℕ
after n zero = n
after n (suc count) = next (after n count)

-- The holes, numbered from 0.

-- the radius in micrometres that a number gives
abbrev pub radius : ℕ → ℕ
radius s = 2000 + s / 65536 % 4001

-- where hole k stands, in millimetres
abbrev pub across : ℕ → ℕ
across k = 10 + 16 * (k % 6)

abbrev pub along : ℕ → ℕ
along k = 10 + 16 * (k / 6)

-- The text.

unfoldable pub plate_start : List ℕ
plate_start = codes "difference(){cube([100,100,2]);\n"

unfoldable pub hole_start : List ℕ
hole_start = codes "translate(["

unfoldable pub hole_middle : List ℕ
hole_middle = codes ",-1])cylinder(h=4,r="

unfoldable pub hole_end : List ℕ
hole_end = codes ",$fn=24);\n"

unfoldable pub plate_end : List ℕ
plate_end = codes "}\n"

-- the line of a hole: its place, and its radius in millimetres with three decimals
abbrev pub hole_text : ℕ → ℕ → List ℕ
hole_text k r =
    hole_start ++ decimal (across k) ++ codes "," ++ decimal (along k) ++ hole_middle ++ fixed 3 r ++ hole_end

-- the line of hole k of the sample of n
abbrev pub hole : ℕ → ℕ → List ℕ
hole n k = hole_text k (radius (after n (k + 1)))

-- the lines of so many holes, from the first on
unfoldable pub holes : ℕ → ℕ → List ℕ
holes n count = flat_map (hole n) (range_with_len 0 count)

-- the sample of n
abbrev pub sample_text : ℕ → List ℕ
sample_text n = plate_start ++ holes n 36 ++ plate_end
