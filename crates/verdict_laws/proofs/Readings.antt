-- Outlines that aren't read have a line with a fault: reading wants no memory.
use Rattle.std.proofs.Common.{subst}
use Rattle.std.specs.Prelude.{◌≡◌, ℕ, ◌+◌, List, [], ◌∷◌, length, ◌==◌, nat_le, Bool, true, false, ◌&&◌, Option, Some, None, Result, Ok, Err, if◌then◌else◌, bytes_eq, codes}
use Rattle.std.specs.Str.Lines.{lines}
use Rattle.scad_base.specs.Results.{and_then}
use Rattle.scad_geom.specs.declared.point.Pt.{Pt}
use Rattle.cli_text.specs.Cli.{polyline_start, hatches_start, layer_start}
use Rattle.cli_read.specs.declared.fault.CliFault.{CliFault}
use Rattle.cli_read.specs.declared.fault.CliFault.TheVariants.{Memory, BadLine, CountDiffers, OpenLoop}
use Rattle.cli_read.specs.Form.{count_start, end_line}
use Rattle.cli_read.specs.Reading.{or_bad, count_of, coordinate_of, words, behind, point_at, points_at, ends_meet, closed_at, direction_at, outline_at, paired_at, some_at, hatches_at, is_above, height_at, drawn_by, drawn_at, said_by, said_at, last_height, ended_at, geometry_at, fixed_at, count_in, count_at, head_at, layers_at, reading}

-- a value, or a fault of a line
abbrev IsKnown : {A : Type 0} → Result A CliFault → Type 0
IsKnown (Ok a) = Unit {0}
IsKnown (Err (BadLine n)) = Unit {0}
IsKnown (Err (CountDiffers said there)) = Unit {0}
IsKnown (Err (OpenLoop n)) = Unit {0}
IsKnown (Err Memory) = ⊥

known_then : {A B : Type 0} (r : Result A CliFault) (f : A → Result B CliFault) → IsKnown r
    → ((a : A) → IsKnown (f a)) → IsKnown (and_then r f)
known_then (Ok a) f known next = next a
known_then (Err (BadLine n)) f known next = tt
known_then (Err (CountDiffers said there)) f known next = tt
known_then (Err (OpenLoop n)) f known next = tt
known_then (Err Memory) f known next = absurd known

known_if : {A : Type 0} (b : Bool) (r s : Result A CliFault) → IsKnown r → IsKnown s → IsKnown (if b then r else s)
known_if true r s one other = one
known_if false r s one other = other

known_or : {A : Type 0} (n : ℕ) (o : Option A) → IsKnown (or_bad n o)
known_or n (Some a) = tt
known_or n None = tt

-- ---- outlines and hatches
point_known : (n : ℕ) (left up : List ℕ) → IsKnown (point_at n left up)
unfolding point_at
point_known n left up = known_then (or_bad n (coordinate_of left)) _ (known_or n (coordinate_of left))
    (λ x. known_then (or_bad n (coordinate_of up)) _ (known_or n (coordinate_of up)) (λ y. tt))

points_known : (n : ℕ) (ws : List (List ℕ)) → IsKnown (points_at n ws)
unfolding points_at
points_known n [] = tt
points_known n (x ∷ []) = tt
points_known n (x ∷ y ∷ rest) = known_then (point_at n x y) _ (point_known n x y)
    (λ point. known_then (points_at n rest) _ (points_known n rest) (λ points. tt))

closed_known : (n said : ℕ) (points : List Pt) → IsKnown (closed_at n said points)
unfolding closed_at
closed_known n said points = known_if (said == length points) _ _
    (known_if (nat_le 4 (length points) && ends_meet points) _ _ tt tt) tt

direction_known : (n : ℕ) (word : List ℕ) → IsKnown (direction_at n word)
direction_known n word = known_then (or_bad n (count_of word)) _ (known_or n (count_of word))
    (λ direction. known_if (nat_le direction 1) _ _ tt tt)

outline_known : (n : ℕ) (ws : List (List ℕ)) → IsKnown (outline_at n ws)
unfolding outline_at
outline_known n (direction ∷ said ∷ rest) = known_then (direction_at n direction) _ (direction_known n direction)
    (λ either. known_then (or_bad n (count_of said)) _ (known_or n (count_of said))
    (λ count. known_then (points_at n rest) _ (points_known n rest) (λ points. closed_known n count points)))
outline_known n (direction ∷ []) = tt
outline_known n [] = tt

paired_known : (n : ℕ) (points : List Pt) → IsKnown (paired_at n points)
unfolding paired_at
paired_known n [] = tt
paired_known n (a ∷ []) = tt
paired_known n (a ∷ b ∷ rest) = known_then (paired_at n rest) _ (paired_known n rest) (λ hatches. tt)

hatches_known : (n : ℕ) (ws : List (List ℕ)) → IsKnown (hatches_at n ws)
unfolding hatches_at
hatches_known n (said ∷ rest) = known_then (some_at n said) _
    (known_then (or_bad n (count_of said)) _ (known_or n (count_of said)) (λ count. known_if (nat_le 1 count) _ _ tt tt))
    (λ count. known_then (points_at n rest) _ (points_known n rest)
    (λ points. known_then (paired_at n points) _ (paired_known n points)
    (λ hatches. known_if (count == length hatches) _ _ tt tt)))
hatches_known n [] = tt

-- ---- lines of layers
height_known : (n : ℕ) (last : Option ℕ) (text : List ℕ) → IsKnown (height_at n last text)
unfolding height_at
height_known n last text = known_then (or_bad n (count_of text)) _ (known_or n (count_of text))
    (λ z. known_if (is_above last z) _ _ tt tt)

drawn_known : (n : ℕ) (outline hatches : Option (List ℕ)) → IsKnown (drawn_by n outline hatches)
drawn_known n (Some outline) hatches = known_then (outline_at n (words outline)) _ (outline_known n (words outline))
    (λ points. tt)
drawn_known n None (Some hatches) = known_then (hatches_at n (words hatches)) _ (hatches_known n (words hatches))
    (λ some. tt)
drawn_known n None None = tt

said_by_known : (n : ℕ) (last : Option ℕ) (height : Option (List ℕ)) (line : List ℕ)
    → IsKnown (said_by n last height line)
unfolding drawn_at
said_by_known n last (Some height) line = known_then (height_at n last height) _ (height_known n last height) (λ z. tt)
said_by_known n (Some z) None line = drawn_known n (behind polyline_start line) (behind hatches_start line)
said_by_known n None None line = tt

said_known : (n : ℕ) (last : Option ℕ) (line : List ℕ) → IsKnown (said_at n last line)
unfolding said_at
said_known n last line = said_by_known n last (behind layer_start line) line

ended_known : (n : ℕ) (ls : List (List ℕ)) → IsKnown (ended_at n ls)
ended_known n [] = tt
ended_known n (line ∷ rest) = tt

geometry_known : (n : ℕ) (last : Option ℕ) (ls : List (List ℕ)) → IsKnown (geometry_at n last ls)
unfolding geometry_at
geometry_known n last [] = tt
geometry_known n last (line ∷ rest) = known_if (bytes_eq line end_line) _ _ (ended_known (n + 1) rest)
    (known_then (said_at (n + 1) last line) _ (said_known (n + 1) last line)
    (λ said. known_then (geometry_at (n + 1) (last_height said last) rest) _
    (geometry_known (n + 1) (last_height said last) rest) (λ more. tt)))

-- ---- the whole text
fixed_known : (n : ℕ) (wanted : List ℕ) (ls : List (List ℕ)) → IsKnown (fixed_at n wanted ls)
fixed_known n wanted [] = tt
fixed_known n wanted (line ∷ rest) = known_if (bytes_eq line wanted) _ _ tt tt

count_in_known : (n : ℕ) (text : Option (List ℕ)) → IsKnown (count_in n text)
count_in_known n None = tt
count_in_known n (Some text) = known_or n (count_of text)

count_known : (n : ℕ) (ls : List (List ℕ)) → IsKnown (count_at n ls)
count_known n [] = tt
count_known n (line ∷ rest) = known_then (count_in n (behind count_start line)) _
    (count_in_known n (behind count_start line)) (λ count. tt)

head_known : (all : List (List ℕ)) → IsKnown (head_at all)
unfolding head_at
head_known all =
    known_then (fixed_at 1 (codes "$$HEADERSTART") all) _ (fixed_known 1 (codes "$$HEADERSTART") all)
    (λ ascii. known_then (fixed_at 2 (codes "$$ASCII") ascii) _ (fixed_known 2 (codes "$$ASCII") ascii)
    (λ units. known_then (fixed_at 3 (codes "$$UNITS/0.001") units) _ (fixed_known 3 (codes "$$UNITS/0.001") units)
    (λ version. known_then (fixed_at 4 (codes "$$VERSION/200") version) _
    (fixed_known 4 (codes "$$VERSION/200") version)
    (λ layers. known_then (count_at 5 layers) _ (count_known 5 layers)
    (λ said. known_then (fixed_at 6 (codes "$$HEADEREND") said.1) _ (fixed_known 6 (codes "$$HEADEREND") said.1)
    (λ geometry. known_then (fixed_at 7 (codes "$$GEOMETRYSTART") geometry) _
    (fixed_known 7 (codes "$$GEOMETRYSTART") geometry) (λ first. tt)))))))

layers_known : (all : List (List ℕ)) → IsKnown (layers_at all)
unfolding layers_at
layers_known all = known_then (geometry_at 7 None all) _ (geometry_known 7 None all) (λ body. tt)

reading_known : (bytes : List ℕ) → IsKnown (reading bytes)
unfolding reading
reading_known bytes = known_then (head_at (lines bytes)) _ (head_known (lines bytes))
    (λ head. known_then (layers_at head.1) _ (layers_known head.1)
    (λ layers. known_if (head.0 == length layers) _ _ tt tt))

pub reading_wants_no_memory : (bytes : List ℕ) → reading bytes ≡ Err Memory → ⊥
reading_wants_no_memory bytes is = subst IsKnown is (reading_known bytes)
