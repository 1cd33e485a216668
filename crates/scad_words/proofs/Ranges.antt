-- The settings of every table are in their ranges.
use Rattle.std.proofs.Common.{◌≡◌, ℕ, ◌≤◌, ℤ, pos, negsuc, Bool, true, false, Option, Some, None, Result, Ok, Err, inl, inr, refl, sym, ap, ◌∙◌, subst, arith}
use Rattle.std.proofs.lemmas.Bool.{false≢true}
use Rattle.std.proofs.lemmas.Int.{ints}
use Rattle.std.specs.Ordering.{int_eq}
use Rattle.std.specs.Prelude.{IfOk, ◌&&◌, ◌||◌, ◌⊎◌, int_le, List, codes, option_and_then, unsigned_abs, if◌then◌else◌}
use Rattle.toml.specs.Data.{Members, no_members, as_integer, get_member}
use Rattle.scad_words.specs.declared.settings.SetError.{SetError}
use Rattle.scad_words.specs.declared.rows.Row.{Row}
use Rattle.scad_words.specs.Rows.{bed, filament_area, hot_end, infill_spacing, layer_height, line_width, print_feed, support_gap, support_spacing, travel_feed, walls, is_in_range}
use Rattle.scad_fault.specs.declared.settings.SetFault.{SetFault}
use Rattle.scad_words.specs.declared.settings.Settings.{Settings}
use Rattle.scad_words.specs.Settings.{IsWithin, IsNoneOrWithin, AreInRange, value_or, setting, settings_in, first_fault, settings_unless, document, settings_by}
use Rattle.scad_words.specs.Settings.{Answers, settings_of, default_settings}

either : (a b : Bool) → (a || b) ≡ true → (a ≡ true) ⊎ (b ≡ true)
either true b is = inl refl
either false b is = inr is

-- a number lies in its row's range, or is the 0 besides
abbrev IsOneOf : Row → ℕ → Type 0
IsOneOf row n = ((row.or_none ≡ true) × (n ≡ 0)) ⊎ IsWithin row n

-- a number in range lies between the least and the greatest, or is the 0 besides
is_one : (row : Row) (z : ℤ) → is_in_range row z ≡ true → IsOneOf row (unsigned_abs z)
is_one row (pos n) is =
    by_case (either (int_le (pos row.least) (pos n) && int_le (pos n) (pos row.most)) (row.or_none && int_eq (pos n) (pos 0)) is)
  where
    by_case : ((int_le (pos row.least) (pos n) && int_le (pos n) (pos row.most)) ≡ true)
        ⊎ ((row.or_none && int_eq (pos n) (pos 0)) ≡ true) → IsOneOf row n
    by_case (inl between) = inr (record { least = grind (arith, ints); most = grind (arith, ints) })
    by_case (inr none) = inl (grind (arith, ints), grind (arith, ints))
is_one row (negsuc n) is = let never : ⊥ = grind (arith, ints) in absurd never

number_within : (row : Row) (z : ℤ) (b : Bool) → is_in_range row z ≡ b → IsOneOf row row.default
    → IsOneOf row (if b then unsigned_abs z else row.default)
number_within row z false is default = default
number_within row z true is default = is_one row z is

value_within : (row : Row) → IsOneOf row row.default → (number : Option ℤ)
    → IsOneOf row (value_or row number)
value_within row default None = default
value_within row default (Some z) = number_within row z (is_in_range row z) refl default

none_or_within : (ms : Members) (key : List ℕ) (row : Row) → IsOneOf row row.default
    → IsOneOf row (setting ms key row)
none_or_within ms key row default = value_within row default (option_and_then as_integer (get_member key ms))

-- where there is no 0 besides
within : (row : Row) (n : ℕ) → row.or_none ≡ false → IsOneOf row n → IsWithin row n
within row n never (inl h) = absurd (false≢true (sym never ∙ h.0))
within row n never (inr h) = h

setting_within : (ms : Members) (key : List ℕ) (row : Row) → row.or_none ≡ false → row.least ≤ row.default
    → row.default ≤ row.most → IsWithin row (setting ms key row)
setting_within ms key row never least most =
    within row (setting ms key row) never (none_or_within ms key row (inr (record { least = least; most = most })))

none_or : (row : Row) (n : ℕ) → IsOneOf row n → IsNoneOrWithin row n
none_or row n (inl h) =
    let none = h.1 in
    record { least = λ some. absurd (omega (arith, none, some)); most = omega (arith, none) }
none_or row n (inr h) = record { least = λ some. h.least; most = h.most }

pub settings_in_range : (ms : Members) → AreInRange (settings_in ms)
settings_in_range ms =
    record {
      bed = setting_within ms (codes "bed") bed refl (omega arith) (omega arith);
      filament_area = setting_within ms (codes "filament_area") filament_area refl (omega arith) (omega arith);
      hot_end = setting_within ms (codes "hot_end") hot_end refl (omega arith) (omega arith);
      infill_spacing = setting_within ms (codes "infill_spacing") infill_spacing refl (omega arith) (omega arith);
      layer_height = setting_within ms (codes "layer_height") layer_height refl (omega arith) (omega arith);
      line_width = setting_within ms (codes "line_width") line_width refl (omega arith) (omega arith);
      print_feed = setting_within ms (codes "print_feed") print_feed refl (omega arith) (omega arith);
      support_gap = setting_within ms (codes "support_gap") support_gap refl (omega arith) (omega arith);
      support_spacing =
          none_or support_spacing (setting ms (codes "support_spacing") support_spacing)
          (none_or_within ms (codes "support_spacing") support_spacing (inl (refl, refl)));
      travel_feed = setting_within ms (codes "travel_feed") travel_feed refl (omega arith) (omega arith);
      walls = setting_within ms (codes "walls") walls refl (omega arith) (omega arith);
    }

pub defaults_in_range : AreInRange default_settings
defaults_in_range = settings_in_range no_members

-- those of an answer, or others
abbrev settings_or : Settings → Result Settings SetFault → Settings
settings_or other (Ok settings) = settings
settings_or other (Err fault) = other

table_in_range : (ms : Members) (fault : Option SetFault) (settings : Settings) → settings_unless fault ms ≡ Ok settings
    → AreInRange settings
table_in_range ms None settings is =
    subst AreInRange (ap (settings_or default_settings) is) (settings_in_range ms)
table_in_range ms (Some fault) settings is = let never : ⊥ = cc in absurd never

document_in_range : (found : Option Members) (settings : Settings) → settings_by found ≡ Ok settings → AreInRange settings
document_in_range None settings is = let never : ⊥ = cc in absurd never
document_in_range (Some ms) settings is = table_in_range ms (first_fault ms) settings is

-- so are those of a text
pub text_in_range : (text : List ℕ) (settings : Settings) → settings_of text ≡ Ok settings → AreInRange settings
text_in_range text settings is = document_in_range (document text) settings is

-- and those of an answer
pub answered_in_range : (text : List ℕ) (result : Result Settings SetError) → Answers (settings_of text) result
    → IfOk result AreInRange
answered_in_range text (Ok settings) is = text_in_range text settings is
answered_in_range text (Err fault) is = tt
