-- A mark's value written.
use Rattle.std.specs.Prelude.{Bool, List, ℕ, slice_set}
use Rattle.slice_outlines.specs.declared.mark.Mark.{Mark}
use Rattle.slice_outlines.specs.Marks.{mark_at}

-- marks of which the one at a place has this value to its left
abbrev pub valued : ℕ → Bool → List Mark → List Mark
valued i left ms = slice_set ms i (record (mark_at ms i) { left = left })
