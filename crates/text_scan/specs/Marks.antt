-- Where marks stand in bytes.
use Rattle.std.specs.Prelude.{ℕ, List, ◌==◌}
use Rattle.std.specs.List.{slice_split, position_or_len}

-- what stands between the marks, perhaps nothing
abbrev pub pieces : ℕ → List ℕ → List (List ℕ)
pieces mark bytes = slice_split (λ b. b == mark) bytes

-- where the first mark stands, or the length where there is none
abbrev pub first_at : ℕ → List ℕ → ℕ
first_at mark bytes = position_or_len (λ b. b == mark) bytes
