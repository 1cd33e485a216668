-- Lines at which the machine does the same by limited numbers as by numbers of any size, since theirs are in range.
use Rattle.std.proofs.Common.{◌≡◌, ℕ, ◌*◌, ◌^◌, ◌<◌, ◌≤◌, true, not, nat_le, nat_lt, List, [], ◌∷◌, ◌++◌, length, get_or, refl, sym, ap, ◌∙◌, subst, arith, append_assoc, Some}
use Rattle.std.specs.Prelude.{ℤ, pos, unsigned_abs, ◌==◌, codes}
use Rattle.std.specs.Fmt.{decimal}
use Rattle.std.specs.List.{list_all, AllByRecursion}
use Rattle.std.proofs.lemmas.Bool.{not-true}
use Rattle.std.proofs.lemmas.Bool.Decides.{nat_tests}
use Rattle.std.proofs.lemmas.List.Splits.{slice_split_at}
use Rattle.std.proofs.lemmas.List.Sums.{AllPass-from_list_all}
use Rattle.scad_geom.specs.declared.point.Pt.{Pt}
use Rattle.scad_geom.specs.Limits.{coordinate_limit}
use Rattle.scad_geom.specs.Within.{IsWithin}
use Rattle.gcode_text.specs.declared.rates.Rates.{Rates}
use Rattle.gcode_text.specs.Limits.{amount_limit}
use Rattle.gcode_text.specs.Gcode.{travel_line, print_line, height_line, number_line, supports_line, heat_line, setup, home, end}
use Rattle.gcode_text.specs.Numeral.{fixed, millimetres}
use Rattle.gcode_text.specs.Reading.{lines, without_return, without_comment, words, number, size_of, whole_size, are_digits}
use Rattle.gcode_text.specs.Machine.{State, any, limited, command_of, plain_commands, takes, was_given, with_number, with_word, with_words, words_line, counting, line_step}
use Rattle.gcode_text.specs.Moves.{IsShort, IsShortPoint}
use Rattle.gcode_text.proofs.Lines.{AreWords, spaced, line_back, no_feed_in, travel_words, travel_line_is, travel_are_words, print_words, print_line_is, print_are_words, height_words, height_line_is, height_are_words, heat_words, heat_line_is, heat_are_words, in_word, decimal_no_feed, comment_back}
use Rattle.gcode_text.proofs.NumberText.{millimetres_back, thousandths_back, amount_back, decimal_back}

-- ---- lines
-- the line's numbers are in range, so that both machines do the same
abbrev pub IsInRange : List ℕ → Type 0
IsInRange line = (s : State) → line_step limited s line ≡ line_step any s line

abbrev AreInRange : List (List ℕ) → Type 0
AreInRange ws = (s : State) → words_line limited s ws ≡ words_line any s ws

line_of_words : (ws : List (List ℕ)) → AreWords ws → AreInRange ws → IsInRange (spaced ws)
unfolding line_step
line_of_words ws h same s =
    ap (words_line limited (counting s)) (line_back ws h) ∙ same (counting s)
    ∙ sym (ap (words_line any (counting s)) (line_back ws h))

-- ---- texts of lines
-- each line's numbers are in range
abbrev pub LinesAreInRange : List ℕ → Type 0
LinesAreInRange text = AllByRecursion IsInRange (lines text)

-- whole lines, each in range, in front of any others that are
abbrev pub LeadsInRange : List ℕ → Type 0
LeadsInRange text = (rest : List ℕ) → LinesAreInRange rest → LinesAreInRange (text ++ rest)

pub leads_nowhere : LeadsInRange []
leads_nowhere rest h = h

pub leads_on : (t u : List ℕ) → LeadsInRange t → LeadsInRange u → LeadsInRange (t ++ u)
leads_on t u p q rest h = subst LinesAreInRange (sym (append_assoc t u rest)) (p (u ++ rest) (q rest h))

cut_line : (line rest : List ℕ) → list_all (λ b. not (b == 10)) line ≡ true
    → lines ((line ++ 10 ∷ []) ++ rest) ≡ line ∷ lines rest
cut_line line rest h =
    let none = AllPass-from_list_all (λ (b : ℕ). not (b == 10)) line h in
    ap lines (append_assoc line (10 ∷ []) rest)
    ∙ slice_split_at (λ (b : ℕ). b == 10) line 10 rest (λ k d l. not-true (get_or line k d == 10) (none k d l)) refl

leads_line : (line : List ℕ) → list_all (λ b. not (b == 10)) line ≡ true → IsInRange line
    → LeadsInRange (line ++ 10 ∷ [])
leads_line line h same rest more = subst (AllByRecursion IsInRange) (sym (cut_line line rest h)) (same, more)

leads_words : (ws : List (List ℕ)) → AreWords ws → AreInRange ws → LeadsInRange (spaced ws ++ 10 ∷ [])
leads_words ws h same = leads_line (spaced ws) (no_feed_in ws h) (line_of_words ws h same)

-- ---- the moves' lines
is_below : (n most : ℕ) → n ≤ most → nat_le n most ≡ true
is_below n most h = grind (arith, nat_tests)

travel_in_range : (tx ty tf : List ℕ) (x y f : ℤ) → number 3 tx ≡ Some x → number 3 ty ≡ Some y
    → number 5 tf ≡ Some f → nat_le (unsigned_abs x) coordinate_limit ≡ true
    → nat_le (unsigned_abs y) coordinate_limit ≡ true
    → AreInRange (codes "G1" ∷ (88 ∷ tx) ∷ (89 ∷ ty) ∷ (70 ∷ tf) ∷ [])
unfolding command_of with_words with_word takes was_given with_number limited
travel_in_range tx ty tf x y f ex ey ef lx ly s = rw (ex, ey, ef, lx, ly) refl

print_in_range : (tx ty te tf : List ℕ) (x y e f : ℤ) → number 3 tx ≡ Some x → number 3 ty ≡ Some y
    → number 5 te ≡ Some e → number 5 tf ≡ Some f → nat_le (unsigned_abs x) coordinate_limit ≡ true
    → nat_le (unsigned_abs y) coordinate_limit ≡ true → nat_le (unsigned_abs e) amount_limit ≡ true
    → AreInRange (codes "G1" ∷ (88 ∷ tx) ∷ (89 ∷ ty) ∷ (69 ∷ te) ∷ (70 ∷ tf) ∷ [])
unfolding command_of with_words with_word takes was_given with_number limited
print_in_range tx ty te tf x y e f ex ey ee ef lx ly le s = rw (ex, ey, ee, ef, lx, ly, le) refl

height_in_range : (tz tf : List ℕ) (z f : ℤ) → number 3 tz ≡ Some z → number 5 tf ≡ Some f
    → nat_le (unsigned_abs z) coordinate_limit ≡ true → AreInRange (codes "G1" ∷ (90 ∷ tz) ∷ (70 ∷ tf) ∷ [])
unfolding command_of with_words with_word takes was_given with_number limited
height_in_range tz tf z f ez ef lz s = rw (ez, ef, lz) refl

module _ (rates : Rates) where
  pub leads_travel : (p : Pt) → IsShortPoint p → IsShort rates.travel_feed → IsWithin coordinate_limit p
      → LeadsInRange (travel_line rates p)
  leads_travel p short feed within =
      subst LeadsInRange (sym (travel_line_is rates p))
      (leads_words (travel_words rates p) (travel_are_words rates p short.0 short.1 feed)
      (travel_in_range (millimetres p.x) (millimetres p.y) (decimal rates.travel_feed) p.x p.y
      (pos (rates.travel_feed * 10 ^ 5)) (millimetres_back p.x short.0) (millimetres_back p.y short.1)
      (decimal_back rates.travel_feed feed) (is_below (unsigned_abs p.x) coordinate_limit within.x)
      (is_below (unsigned_abs p.y) coordinate_limit within.y)))

  pub leads_print : (p : Pt) (e : ℕ) → IsShortPoint p → IsShort rates.print_feed → IsWithin coordinate_limit p
      → e ≤ amount_limit → LeadsInRange (print_line rates p e)
  leads_print p e short feed within most =
      let short_e : e < 10 ^ 64 = omega (arith, most) in
      subst LeadsInRange (sym (print_line_is rates p e))
      (leads_words (print_words rates p e) (print_are_words rates p e short.0 short.1 short_e feed)
      (print_in_range (millimetres p.x) (millimetres p.y) (fixed 5 e) (decimal rates.print_feed) p.x p.y (pos e)
      (pos (rates.print_feed * 10 ^ 5)) (millimetres_back p.x short.0) (millimetres_back p.y short.1)
      (amount_back e short_e) (decimal_back rates.print_feed feed)
      (is_below (unsigned_abs p.x) coordinate_limit within.x) (is_below (unsigned_abs p.y) coordinate_limit within.y)
      (is_below e amount_limit most)))

  pub leads_height : (z : ℕ) → IsShort rates.travel_feed → z ≤ coordinate_limit → LeadsInRange (height_line rates z)
  leads_height z feed most =
      let short_z : z < 10 ^ 64 = omega (arith, most) in
      subst LeadsInRange (sym (height_line_is rates z))
      (leads_words (height_words rates z) (height_are_words rates z short_z feed)
      (height_in_range (fixed 3 z) (decimal rates.travel_feed) (pos z) (pos (rates.travel_feed * 10 ^ 5))
      (thousandths_back z short_z) (decimal_back rates.travel_feed feed) (is_below z coordinate_limit most)))

-- ---- the other lines
pub leads_number : (layer : ℕ) → IsShort layer → LeadsInRange (number_line layer)
unfolding number_line line_step
leads_number layer h =
    leads_line (codes "; layer " ++ decimal layer) (decimal_no_feed layer h)
    (λ s. ap (words_line limited (counting s)) (comment_back (codes " layer " ++ decimal layer))
    ∙ sym (ap (words_line any (counting s)) (comment_back (codes " layer " ++ decimal layer))))

pub leads_supports : LeadsInRange supports_line
unfolding supports_line line_step without_return without_comment words
leads_supports = leads_line (codes "; supports") refl (λ s. refl)

setting_in_range : (command t : List ℕ) (z : ℤ) → command_of command ≡ command_of (codes "M140") → number 5 t ≡ Some z
    → AreInRange (command ∷ (83 ∷ t) ∷ [])
unfolding command_of plain_commands with_words with_word takes was_given with_number limited
setting_in_range command t z plain ez s = rw (plain, ez) refl

pub leads_heat : (command : List ℕ) (degrees : ℕ) → command_of command ≡ command_of (codes "M140")
    → nat_lt 0 (length command) ≡ true → list_all in_word command ≡ true → IsShort degrees
    → LeadsInRange (heat_line command degrees)
leads_heat command degrees plain some word short =
    subst LeadsInRange (sym (heat_line_is command degrees))
    (leads_words (heat_words command degrees) (heat_are_words command degrees some word short)
    (setting_in_range command (decimal degrees) (pos (degrees * 10 ^ 5)) plain (decimal_back degrees short)))

pub leads_setup : LeadsInRange setup
unfolding setup line_step without_return without_comment words command_of plain_commands with_words
leads_setup =
    leads_on (codes "; scadslice\n" ++ codes "G21\n" ++ codes "G90\n" ++ codes "M82\n") (codes "M107\n")
    (leads_on (codes "; scadslice\n" ++ codes "G21\n" ++ codes "G90\n") (codes "M82\n")
    (leads_on (codes "; scadslice\n" ++ codes "G21\n") (codes "G90\n")
    (leads_on (codes "; scadslice\n") (codes "G21\n")
    (leads_line (codes "; scadslice") refl (λ s. refl))
    (leads_line (codes "G21") refl (λ s. refl)))
    (leads_line (codes "G90") refl (λ s. refl)))
    (leads_line (codes "M82") refl (λ s. refl)))
    (leads_line (codes "M107") refl (λ s. refl))

pub leads_home : LeadsInRange home
unfolding home line_step without_return without_comment words command_of with_words with_word takes was_given
    with_number number size_of whole_size are_digits limited
leads_home =
    leads_on (codes "G28\n") (codes "G92 E0\n") (leads_line (codes "G28") refl (λ s. refl))
    (leads_line (codes "G92 E0") refl (λ s. refl))

pub leads_end : LeadsInRange end
unfolding end line_step without_return without_comment words command_of plain_commands with_words with_word takes
    was_given with_number number size_of whole_size are_digits limited
leads_end =
    leads_on (codes "M104 S0\n" ++ codes "M140 S0\n") (codes "M84\n")
    (leads_on (codes "M104 S0\n") (codes "M140 S0\n") (leads_line (codes "M104 S0") refl (λ s. refl))
    (leads_line (codes "M140 S0") refl (λ s. refl)))
    (leads_line (codes "M84") refl (λ s. refl))

pub nothing_in_range : LinesAreInRange []
unfolding line_step without_return without_comment words
nothing_in_range = (λ s. refl, tt)
