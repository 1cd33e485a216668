-- Reading a text line by line, up to its end or to the first line with a fault.
use Rattle.std.specs.Prelude.{◌≡◌, ◌≢◌, ℕ, ◌+◌, ◌-◌, ◌^◌, Bool, true, ◌&&◌, List, [], ◌∷◌, ◌++◌, length, take, drop, slice_index_or, ◌==◌, nat_lt, nat_le, ℤ, pos, unsigned_abs, Option, Some, None, Result, Ok, Err, if◌then◌else◌, bytes_eq, codes}
use Rattle.std.specs.Ordering.{int_eq}
use Rattle.std.specs.Fmt.{decimal, signed_decimal}
use Rattle.std.specs.Str.Lines.{lines}
use Rattle.std.specs.Str.Parse.{digits_value, signed_digits_value}
use Rattle.scad_base.specs.Results.{and_then}
use Rattle.text_scan.specs.Marks.{pieces}
use Rattle.scad_geom.specs.declared.point.Pt.{Pt}
use Rattle.scad_geom.specs.declared.point.Edge.{Edge}
use Rattle.scad_geom.specs.Limits.{coordinate_limit}
use Rattle.cli_text.specs.Cli.{Layer, polyline_start, hatches_start, layer_start}
use Rattle.cli_read.specs.declared.fault.CliFault.{CliFault}
use Rattle.cli_read.specs.declared.fault.CliFault.TheVariants.{Memory, BadLine, CountDiffers, OpenLoop}
use Rattle.cli_read.specs.declared.line.Said.{Said}
use Rattle.cli_read.specs.declared.line.Said.TheVariants.{Height, Outline, Hatches}
use Rattle.cli_read.specs.Form.{count_start, end_line}

infixl 10 ◌>>=◌
abbrev pub ◌>>=◌ : {A B : Type 0} → Result A CliFault → (A → Result B CliFault) → Result B CliFault
r >>= f = and_then r f

-- what a function returned, as it is seen, is what reading gives; of want of memory nothing is said
abbrev pub Gives : {A B : Type 0} → Result B CliFault → (A → B) → Result A CliFault → Type 0
Gives read view (Ok a) = read ≡ Ok (view a)
Gives read view (Err fault) = fault ≢ Memory → read ≡ Err fault

-- the value, where there is one in line n
abbrev pub or_bad : {A : Type 0} → ℕ → Option A → Result A CliFault
or_bad n (Some a) = Ok a
or_bad n None = Err (BadLine n)

-- ---- words and numbers

abbrev pub comma : ℕ
comma = 44

-- what stands between commas
abbrev pub words : List ℕ → List (List ℕ)
words text = pieces comma text

-- the words behind a word, each behind a comma
abbrev pub words_behind : List ℕ → List (List ℕ)
words_behind [] = []
words_behind (mark ∷ text) = words text

-- what stands behind a start, where the text has it
unfoldable pub behind : List ℕ → List ℕ → Option (List ℕ)
behind start text =
    if bytes_eq (take (length start) text) start then Some (drop (length start) text) else None

-- the number, where the word is its text
abbrev pub if_count : ℕ → List ℕ → Option ℕ
if_count n word = if bytes_eq (decimal n) word then Some n else None

-- a number below 2 ^ 32, where the word is its text
unfoldable pub count_of : List ℕ → Option ℕ
count_of word =
    if nat_lt (digits_value 10 word) (2 ^ 32) then if_count (digits_value 10 word) word else None

-- the coordinate, where the word is its text and it is within reach
abbrev pub if_coordinate : ℤ → List ℕ → Option ℤ
if_coordinate z word =
    if bytes_eq (signed_decimal z) word && nat_le (unsigned_abs z) coordinate_limit then Some z else None

-- a coordinate within reach, where the word is its text
unfoldable pub coordinate_of : List ℕ → Option ℤ
coordinate_of word = if_coordinate (signed_digits_value 10 word) word

-- ---- outlines

unfoldable pub point_at : ℕ → List ℕ → List ℕ → Result Pt CliFault
point_at n left up = do
  x ← or_bad n (coordinate_of left)
  y ← or_bad n (coordinate_of up)
  Ok (record { x = x; y = y })

-- points, each of two words
unfoldable pub points_at : ℕ → List (List ℕ) → Result (List Pt) CliFault
points_at n [] = Ok []
points_at n (x ∷ []) = Err (BadLine n)
points_at n (x ∷ y ∷ rest) = do
  point ← point_at n x y
  points ← points_at n rest
  Ok (point ∷ points)

abbrev pub origin : Pt
origin = record { x = pos 0; y = pos 0 }

abbrev pub same_point : Pt → Pt → Bool
same_point p q = int_eq p.x q.x && int_eq p.y q.y

-- the last point is the first
abbrev pub ends_meet : List Pt → Bool
ends_meet points = same_point (slice_index_or points 0 origin) (slice_index_or points (length points - 1) origin)

-- the outline of four points or more, of which the last is the first
abbrev pub joined_at : ℕ → List Pt → Result (List Pt) CliFault
joined_at n points =
    if nat_le 4 (length points) && ends_meet points then Ok (take (length points - 1) points) else Err (OpenLoop n)

-- as many points as are said
unfoldable pub closed_at : ℕ → ℕ → List Pt → Result (List Pt) CliFault
closed_at n said points =
    if said == length points then joined_at n points else Err (CountDiffers said (length points))

abbrev pub direction_at : ℕ → List ℕ → Result ℕ CliFault
direction_at n word = or_bad n (count_of word) >>= λ direction. if nat_le direction 1 then Ok direction else Err (BadLine n)

-- the words of an outline: its direction, the number of its points, and these
unfoldable pub outline_at : ℕ → List (List ℕ) → Result (List Pt) CliFault
outline_at n (direction ∷ said ∷ rest) = do
  either ← direction_at n direction
  count ← or_bad n (count_of said)
  points ← points_at n rest
  closed_at n count points
outline_at n (direction ∷ []) = Err (BadLine n)
outline_at n [] = Err (BadLine n)

-- ---- hatches

-- hatches, each of two points
unfoldable pub paired_at : ℕ → List Pt → Result (List Edge) CliFault
paired_at n [] = Ok []
paired_at n (a ∷ []) = Err (BadLine n)
paired_at n (a ∷ b ∷ rest) = do
  hatches ← paired_at n rest
  Ok (record { a = a; b = b } ∷ hatches)

-- one hatch or more is said
abbrev pub some_at : ℕ → List ℕ → Result ℕ CliFault
some_at n word = or_bad n (count_of word) >>= λ count. if nat_le 1 count then Ok count else Err (BadLine n)

-- as many hatches as are said
abbrev pub hatched : ℕ → List Edge → Result (List Edge) CliFault
hatched said hatches = if said == length hatches then Ok hatches else Err (CountDiffers said (length hatches))

-- the words of hatches: their number, and their points
unfoldable pub hatches_at : ℕ → List (List ℕ) → Result (List Edge) CliFault
hatches_at n (said ∷ rest) = do
  count ← some_at n said
  points ← points_at n rest
  hatches ← paired_at n points
  hatched count hatches
hatches_at n [] = Err (BadLine n)

-- ---- lines of layers

abbrev pub is_above : Option ℕ → ℕ → Bool
is_above None z = true
is_above (Some last) z = nat_lt last z

-- a height above the last one
unfoldable pub height_at : ℕ → Option ℕ → List ℕ → Result ℕ CliFault
height_at n last text =
    or_bad n (count_of text) >>= λ z. if is_above last z then Ok z else Err (BadLine n)

-- by what stands behind the start of an outline or of hatches
abbrev pub drawn_by : ℕ → Option (List ℕ) → Option (List ℕ) → Result Said CliFault
drawn_by n (Some outline) hatches = outline_at n (words outline) >>= λ points. Ok (Outline points)
drawn_by n None (Some hatches) = hatches_at n (words hatches) >>= λ some. Ok (Hatches some)
drawn_by n None None = Err (BadLine n)

-- what line n draws
unfoldable pub drawn_at : ℕ → List ℕ → Result Said CliFault
drawn_at n line = drawn_by n (behind polyline_start line) (behind hatches_start line)

-- by what stands behind the start of a layer; what is drawn has a layer in front of it
abbrev pub said_by : ℕ → Option ℕ → Option (List ℕ) → List ℕ → Result Said CliFault
said_by n last (Some height) line = height_at n last height >>= λ z. Ok (Height z)
said_by n (Some z) None line = drawn_at n line
said_by n None None line = Err (BadLine n)

-- line n, behind a layer of the last height
unfoldable pub said_at : ℕ → Option ℕ → List ℕ → Result Said CliFault
said_at n last line = said_by n last (behind layer_start line) line

-- outlines and hatches of the layer at hand, and the layers behind it
pub record Geometry : Type 0 where
  pub outlines : List (List Pt)
  pub hatches : List Edge
  pub layers : List Layer

abbrev pub last_height : Said → Option ℕ → Option ℕ
last_height (Height z) last = Some z
last_height (Outline points) last = last
last_height (Hatches some) last = last

abbrev pub onto : Said → Geometry → Geometry
onto (Height z) rest = record {
  outlines = [];
  hatches = [];
  layers = record { z = z; loops = rest.outlines; hatches = rest.hatches } ∷ rest.layers;
}
onto (Outline points) rest = record rest { outlines = points ∷ rest.outlines }
onto (Hatches some) rest = record rest { hatches = some ++ rest.hatches }

abbrev pub nothing : Geometry
nothing = record { outlines = []; hatches = []; layers = [] }

-- the end is line n, and nothing stands behind it
abbrev pub ended_at : ℕ → List (List ℕ) → Result Geometry CliFault
ended_at n [] = Ok nothing
ended_at n (line ∷ rest) = Err (BadLine (n + 1))

-- what stands behind line n and a layer of the last height
unfoldable pub geometry_at : ℕ → Option ℕ → List (List ℕ) → Result Geometry CliFault
geometry_at n last [] = Err (BadLine (n + 1))
geometry_at n last (line ∷ rest) =
    if bytes_eq line end_line then ended_at (n + 1) rest
    else (do
      said ← said_at (n + 1) last line
      more ← geometry_at (n + 1) (last_height said last) rest
      Ok (onto said more))

-- ---- the whole text

-- line n is this one, and these stand behind it
abbrev pub fixed_at : ℕ → List ℕ → List (List ℕ) → Result (List (List ℕ)) CliFault
fixed_at n wanted [] = Err (BadLine n)
fixed_at n wanted (line ∷ rest) = if bytes_eq line wanted then Ok rest else Err (BadLine n)

abbrev pub count_in : ℕ → Option (List ℕ) → Result ℕ CliFault
count_in n None = Err (BadLine n)
count_in n (Some text) = or_bad n (count_of text)

-- line n says how many layers there are
abbrev pub count_at : ℕ → List (List ℕ) → Result (ℕ × List (List ℕ)) CliFault
count_at n [] = Err (BadLine n)
count_at n (line ∷ rest) = do
  count ← count_in n (behind count_start line)
  Ok (count, rest)

-- the number of layers that the head says, and the lines behind it
unfoldable pub head_at : List (List ℕ) → Result (ℕ × List (List ℕ)) CliFault
head_at all = do
  ascii ← fixed_at 1 (codes "$$HEADERSTART") all
  units ← fixed_at 2 (codes "$$ASCII") ascii
  version ← fixed_at 3 (codes "$$UNITS/0.001") units
  layers ← fixed_at 4 (codes "$$VERSION/200") version
  said ← count_at 5 layers
  geometry ← fixed_at 6 (codes "$$HEADEREND") said.1
  first ← fixed_at 7 (codes "$$GEOMETRYSTART") geometry
  Ok (said.0, first)

-- the layers behind the head
unfoldable pub layers_at : List (List ℕ) → Result (List Layer) CliFault
layers_at all = do
  body ← geometry_at 7 None all
  Ok body.layers

-- as many layers as are said
abbrev pub counted : ℕ → List Layer → Result (List Layer) CliFault
counted said layers = if said == length layers then Ok layers else Err (CountDiffers said (length layers))

-- the layers, or the fault of the first line that has one; their number is judged at the end
unfoldable pub reading : List ℕ → Result (List Layer) CliFault
reading bytes = do
  head ← head_at (lines bytes)
  layers ← layers_at head.1
  counted head.0 layers
