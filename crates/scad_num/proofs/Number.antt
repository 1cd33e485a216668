-- Numbers in and out of range.
use Rattle.std.proofs.Common.{◌≡◌, ℕ, min, pos, arith}
use Rattle.std.proofs.lemmas.Bool.Decides.{nat_tests}
use Rattle.scad_num.specs.Number.{number_of}

-- a size past the range may be cut to the least such size
pub number_of-min : (n : ℕ) → number_of (pos (min n 1000000000000001)) ≡ number_of (pos n)
unfolding number_of
number_of-min n = grind (arith, nat_tests)
