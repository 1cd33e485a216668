use Rattle.std.proofs.Common.{◌≡◌, ◌++◌, [], ◌∷◌, map, drop}
use Rattle.scad_value.specs.Datum.{string}
use Rattle.scad_value.specs.View.{data_in}
use Rattle.scad_operations.proofs.sequence.add_characters.Given as goal

abbrev pub invariant-characters : goal.invariant-characters
invariant-characters l = data_in l.out ++ map (λ c. string (c ∷ [])) (drop l.c-index l.chars) ≡ data_in l.fn.out
    ++ map
    (λ c. string (c ∷ [])) l.chars
