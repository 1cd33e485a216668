-- A round of layers.
use Rattle.std.specs.Prelude.{◌≡◌, ℕ, ◌+◌, ◌<◌, ◌≤◌, All, Contains}
use Rattle.slice_work.specs.declared.round.Round.{Round}
use Rattle.slice_work.specs.Part.{layer_limit}
use Rattle.slice_work.specs.Shares.{made_numbers, over_numbers}

-- a round has at most so many layers
abbrev pub round_limit : ℕ
round_limit = 64

-- the layers below the least one that passes a budget were made, and that one, if any, passes one
pub record IsWhole (r : Round) : Type 0 where
  pub within : r.least ≤ r.count
  pub limit : r.first + r.count ≤ layer_limit
  pub from : All (λ d. r.first ≤ d.layer) r.done.items
  pub made : (n : ℕ) → n < r.least → Contains (made_numbers r.first r.done.items) n
  pub over : r.least < r.count → Contains (over_numbers r.first r.done.items) r.least

-- a whole round of so many layers
pub record IsRound (first count : ℕ) (r : Round) : Type 0 where
  pub start : r.first ≡ first
  pub size : r.count ≡ count
  pub whole : IsWhole r
