-- The settings: the range of each, and the value that it has where none is given. Lengths are micrometres, the area square
-- micrometres, feeds millimetres a minute, temperatures degrees Celsius.
use Rattle.std.specs.Prelude.{ℕ, Bool, ◌&&◌, ◌||◌, true, false, List, [], ◌∷◌, Option, option_map, find, codes, bytes_eq, ℤ, pos, int_le}
use Rattle.std.specs.Ordering.{int_eq}
use Rattle.scad_words.specs.declared.rows.Key.{Key}
use Rattle.scad_words.specs.declared.rows.Row.{Row}

abbrev row : ℕ → ℕ → ℕ → Row
row least most default = record { least = least; most = most; or_none = false; default = default }

-- such a row with 0, for none, besides
abbrev row_or_none : ℕ → ℕ → ℕ → Row
row_or_none least most default = record { least = least; most = most; or_none = true; default = default }

abbrev pub bed : Row
bed = row 0 200 60

abbrev pub filament_area : Row
filament_area = row 100000 20000000 2405282

abbrev pub hot_end : Row
hot_end = row 0 500 200

abbrev pub infill_spacing : Row
infill_spacing = row 0 100000 2000

abbrev pub layer_height : Row
layer_height = row 20 1000 200

abbrev pub line_width : Row
line_width = row 100 2000 450

abbrev pub print_feed : Row
print_feed = row 1 60000 1800

abbrev pub support_gap : Row
support_gap = row 0 10000 300

abbrev pub support_spacing : Row
support_spacing = row_or_none 500 100000 0

abbrev pub travel_feed : Row
travel_feed = row 1 60000 7200

abbrev pub walls : Row
walls = row 1 10 2

-- the keys, each with its row
abbrev pub rows : List (List ℕ × Row)
rows = (codes "bed", bed) ∷ (codes "filament_area", filament_area) ∷ (codes "hot_end", hot_end)
    ∷ (codes "infill_spacing", infill_spacing) ∷ (codes "layer_height", layer_height) ∷ (codes "line_width", line_width)
    ∷ (codes "print_feed", print_feed) ∷ (codes "support_gap", support_gap) ∷ (codes "support_spacing", support_spacing)
    ∷ (codes "travel_feed", travel_feed) ∷ (codes "walls", walls) ∷ []

-- the row beside a key among these, if there is one
abbrev pub row_among : List (List ℕ × Row) → List ℕ → Option Row
row_among known key = option_map (λ r. r.1) (find (λ r. bytes_eq key r.0) known)

-- the row of a key, if there is one
abbrev pub row_of : List ℕ → Option Row
row_of key = row_among rows key

-- what the code's table holds
abbrev pub rows_in : List Key → List (List ℕ × Row)
rows_in [] = []
rows_in (key ∷ keys) = (key.name.now, key.row) ∷ rows_in keys

-- a whole number lies in the range of a row, or is the 0 besides
abbrev pub is_in_range : Row → ℤ → Bool
is_in_range r z = (int_le (pos r.least) z && int_le z (pos r.most)) || (r.or_none && int_eq z (pos 0))
