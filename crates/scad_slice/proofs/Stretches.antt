-- The budget of stretches below higher layers.
use Rattle.std.proofs.Common.{◌≡◌, ◌<◌, ◌≤◌, ℕ, true, false, Some, None, nat_lt, arith}
use Rattle.std.specs.Prelude.{min, if◌then◌else◌}
use Rattle.std.proofs.lemmas.Bool.Decides.{nat_tests}
use Rattle.plan_support.specs.Covers.{stretch_limit}
use Rattle.plan_support.specs.Lines.{greatest_count}
use Rattle.scad_slice.specs.Supports.{stretches_passed, stretch_budget}

pub few_stretches : (count : ℕ) → count ≤ stretch_limit → stretch_budget count ≡ None
few_stretches count few =
    let a : nat_lt stretch_limit count ≡ false = grind (arith, nat_tests) in
    (λ k. if a k then Some (stretches_passed (min count greatest_count)) else None)

pub many_stretches : (count : ℕ) → stretch_limit < count
    → stretch_budget count ≡ Some (stretches_passed (min count greatest_count))
many_stretches count many =
    let a : nat_lt stretch_limit count ≡ true = grind (arith, nat_tests) in
    (λ k. if a k then Some (stretches_passed (min count greatest_count)) else None)
