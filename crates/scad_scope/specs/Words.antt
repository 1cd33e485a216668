-- The bytes of a name that is kept.
use Rattle.std.specs.Prelude.{ℕ, ◌≤◌, List, take}
use Rattle.scad_scope.specs.declared.word.Bytes.{Bytes}
use Rattle.scad_scope.specs.declared.word.TheConstants.{SHORT}
use Rattle.scad_scope.specs.declared.word.Bytes.TheVariants.{Short, Long}

abbrev pub bytes_in : Bytes → List ℕ
bytes_in (Short count all) = take count all
bytes_in (Long all) = all.items

-- those in place are no more than there is room for
abbrev pub IsWithin : Bytes → Type 0
IsWithin (Short count all) = count ≤ SHORT
IsWithin (Long all) = Unit {0}
