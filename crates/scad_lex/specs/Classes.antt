-- The classes of bytes that runs are made of.
use Rattle.std.specs.Prelude.{ℕ, Bool}
use Rattle.scad_lex.specs.declared.gap.Class.{Class}
use Rattle.scad_lex.specs.declared.gap.Class.TheVariants.{Blank, WithinLine, WordByte}
use Rattle.scad_lex.specs.Gap.{is_blank, is_within_line}
use Rattle.scad_lex.specs.Words.{goes_on_word}

abbrev pub is_of : Class → ℕ → Bool
is_of Blank b = is_blank b
is_of WithinLine b = is_within_line b
is_of WordByte b = goes_on_word b
