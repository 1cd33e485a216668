-- The exponent of a literal.
use Rattle.std.proofs.Common.{◌≡◌, ℕ, Bool, true, false, List, refl, ◌⊎◌, inl, inr}
use Rattle.std.specs.Prelude.{slice_index, ◌==◌, if◌then◌else◌}
use Rattle.scad_num.specs.Literal.{has_power, tens_up, tens_down}

-- an exponent moves the point one way at most
pub moves_one_way : (bytes : List ℕ) → (tens_up bytes ≡ 0) ⊎ (tens_down bytes ≡ 0)
unfolding tens_up tens_down
moves_one_way bytes = by_sign _ (has_power bytes) (slice_index bytes 1 == 45)
  where
    by_sign : (n : ℕ) (power minus : Bool) → ((if power then (if minus then 0 else n) else 0) ≡ 0) ⊎
        ((if power then (if minus then n else 0) else 0) ≡ 0)
    by_sign n false minus = inl refl
    by_sign n true true = inl refl
    by_sign n true false = inr refl
