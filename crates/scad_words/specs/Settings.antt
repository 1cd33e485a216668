-- What a settings text gives: a TOML table with whole numbers, each under a key of the settings and in its range. The members
-- of a table stand in byte order of their keys.
use Rattle.std.specs.Prelude.{◌≡◌, ℕ, ◌<◌, ◌≤◌, if◌then◌else◌, List, [], codes, Option, Some, None, option_and_then, Result, Ok, Err, ℤ, pos, unsigned_abs}
use Rattle.std.specs.Str.{is_utf8}
use Rattle.toml.specs.Data.{Data, Members, no_members, member, as_integer, get_member}
use Rattle.toml.specs.Parse.{parse_document}
use Rattle.scad_fault.specs.declared.settings.SetKind.{SetKind}
use Rattle.scad_fault.specs.declared.settings.SetKind.TheVariants.{NotToml, UnknownKey, NotWhole, OutOfRange}
use Rattle.scad_fault.specs.declared.settings.SetFault.{SetFault}
use Rattle.scad_words.specs.declared.rows.Row.{Row}
use Rattle.scad_words.specs.declared.settings.Settings.{Settings}
use Rattle.scad_words.specs.declared.settings.SetError.{SetError}
use Rattle.scad_words.specs.declared.settings.SetError.TheVariants.{Refused, Memory}
use Rattle.scad_words.specs.Rows.{bed, filament_area, hot_end, infill_spacing, layer_height, line_width, print_feed, support_gap, support_spacing, travel_feed, walls, row_of, is_in_range}

abbrev pub set_fault : SetKind → List ℕ → ℤ → SetFault
set_fault kind key value = record { kind = kind; key = key; value = value }

-- a whole number under a key is judged by the key's row
abbrev pub number_fault : List ℕ → Row → Option ℤ → Option SetFault
number_fault key row None = Some (set_fault NotWhole key (pos 0))
number_fault key row (Some z) = if is_in_range row z then None else Some (set_fault OutOfRange key z)

abbrev pub row_fault : List ℕ → Data → Option Row → Option SetFault
row_fault key value None = Some (set_fault UnknownKey key (pos 0))
row_fault key value (Some row) = number_fault key row (as_integer value)

-- the fault of a key with its value, if they have one
abbrev pub key_fault : List ℕ → Data → Option SetFault
key_fault key value = row_fault key value (row_of key)

abbrev pub fault_or : Option SetFault → Option SetFault → Option SetFault
fault_or None later = later
fault_or (Some fault) later = Some fault

-- the fault of the first key that has one
abbrev pub first_fault : Members → Option SetFault
first_fault no_members = None
first_fault (member key value ms) = fault_or (key_fault key value) (first_fault ms)

abbrev pub value_or : Row → Option ℤ → ℕ
value_or row None = row.default
value_or row (Some z) = if is_in_range row z then unsigned_abs z else row.default

-- the value of a setting: the key's, where the table has one in range, else the row's
abbrev pub setting : Members → List ℕ → Row → ℕ
setting ms key row = value_or row (option_and_then as_integer (get_member key ms))

abbrev pub settings_in : Members → Settings
settings_in ms = record {
  bed = setting ms (codes "bed") bed;
  filament_area = setting ms (codes "filament_area") filament_area;
  hot_end = setting ms (codes "hot_end") hot_end;
  infill_spacing = setting ms (codes "infill_spacing") infill_spacing;
  layer_height = setting ms (codes "layer_height") layer_height;
  line_width = setting ms (codes "line_width") line_width;
  print_feed = setting ms (codes "print_feed") print_feed;
  support_gap = setting ms (codes "support_gap") support_gap;
  support_spacing = setting ms (codes "support_spacing") support_spacing;
  travel_feed = setting ms (codes "travel_feed") travel_feed;
  walls = setting ms (codes "walls") walls;
}

-- the settings of a table, unless a key of it has a fault
abbrev pub settings_unless : Option SetFault → Members → Result Settings SetFault
settings_unless None ms = Ok (settings_in ms)
settings_unless (Some fault) ms = Err fault

-- the members of a text that is UTF-8 and TOML
unfoldable pub document : List ℕ → Option Members
document bytes = if is_utf8 bytes then parse_document bytes else None

abbrev pub settings_by : Option Members → Result Settings SetFault
settings_by None = Err (set_fault NotToml [] (pos 0))
settings_by (Some ms) = settings_unless (first_fault ms) ms

-- the settings that a text gives, or its fault
abbrev pub settings_of : List ℕ → Result Settings SetFault
settings_of bytes = settings_by (document bytes)

-- the settings where no text is given
abbrev pub default_settings : Settings
default_settings = settings_in no_members

-- the answer is this; want of memory is free
abbrev pub Answers : Result Settings SetFault → Result Settings SetError → Type 0
Answers meant (Ok settings) = meant ≡ Ok settings
Answers meant (Err (Refused fault)) = meant ≡ Err fault
Answers meant (Err Memory) = Unit {0}

-- a value lies in its row's range
pub record IsWithin (row : Row) (n : ℕ) : Type 0 where
  pub least : row.least ≤ n
  pub most : n ≤ row.most

-- a value is 0, for none, or lies in its row's range
pub record IsNoneOrWithin (row : Row) (n : ℕ) : Type 0 where
  pub least : 0 < n → row.least ≤ n
  pub most : n ≤ row.most

-- each setting is in its range
pub record AreInRange (s : Settings) : Type 0 where
  pub bed : IsWithin bed s.bed
  pub filament_area : IsWithin filament_area s.filament_area
  pub hot_end : IsWithin hot_end s.hot_end
  pub infill_spacing : IsWithin infill_spacing s.infill_spacing
  pub layer_height : IsWithin layer_height s.layer_height
  pub line_width : IsWithin line_width s.line_width
  pub print_feed : IsWithin print_feed s.print_feed
  pub support_gap : IsWithin support_gap s.support_gap
  pub support_spacing : IsNoneOrWithin support_spacing s.support_spacing
  pub travel_feed : IsWithin travel_feed s.travel_feed
  pub walls : IsWithin walls s.walls
