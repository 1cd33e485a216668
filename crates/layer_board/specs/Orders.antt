-- Each layer has a verdict, true where it fails. Whatever the order of its events, a board ends with one least failed layer.
use Rattle.std.specs.Prelude.{◌≡◌, ◌≢◌, ℕ, Bool, true, false, List, [], ◌∷◌, ⊤, IfSome, length, slice_index_or}
use Rattle.std.specs.List.{position_or_len}
use Rattle.layer_board.specs.Pass.{spent}
use Rattle.layer_board.specs.Events.{BoardState, opening, Event, Split, Claim, Look, Fail, Finish, Join, pass_at, IsLive, after, Runs}
use Rattle.layer_board.specs.Sound.{IsSound}

abbrev pub verdict : List Bool → ℕ → Bool
verdict verdicts n = slice_index_or verdicts n false

-- a layer fails only where its verdict is true, and finishes only where it is false
abbrev pub IsJudged : List Bool → Event → BoardState → Type 0
IsJudged verdicts (Split i) s = ⊤
IsJudged verdicts (Claim i) s = ⊤
IsJudged verdicts (Look i) s = ⊤
IsJudged verdicts (Fail i) s = IfSome (pass_at s i).pending (λ n. verdict verdicts n ≡ true)
IsJudged verdicts (Finish i) s = IfSome (pass_at s i).pending (λ n. verdict verdicts n ≡ false)
IsJudged verdicts (Join i j) s = ⊤

-- so do all events of a list
abbrev pub AreJudged : List Bool → List Event → BoardState → Type 0
AreJudged verdicts [] s = ⊤
AreJudged verdicts (e ∷ es) s = IsJudged verdicts e s × AreJudged verdicts es (after e s)

-- the pass at the place is the only one left, and it was told that all layers are drawn
pub record IsLast (s : BoardState) (i : ℕ) : Type 0 where
  pub live : IsLive (pass_at s i)
  pub others : (j : ℕ) → j ≢ i → pass_at s j ≡ spent
  pub ended : (pass_at s i).ended ≡ true

-- whatever the events and their order, the board ends with the first layer whose verdict is true, or with their number
abbrev pub OrdersAgree : Type 0
OrdersAgree = (verdicts : List Bool) (events : List Event) (end : BoardState) (last : ℕ)
    → Runs events (opening (length verdicts)) end → AreJudged verdicts events (opening (length verdicts))
    → IsLast end last
    → end.least ≡ position_or_len (λ failed. failed) verdicts

-- whatever the events and their order, the board is sound after them
abbrev pub StaysSound : Type 0
StaysSound = (count : ℕ) (events : List Event) (end : BoardState) → Runs events (opening count) end → IsSound count end
