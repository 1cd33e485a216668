-- What holds of a board between any two steps.
use Rattle.std.specs.Prelude.{◌≡◌, ℕ, ◌+◌, ◌<◌, ◌≤◌, ◌⊎◌, true, if◌then◌else◌, min, None, List, ◌++◌, length, All, Contains, flat_map, sum_by, option_to_list}
use Rattle.layer_board.specs.declared.view.View.{View}
use Rattle.layer_board.specs.Numbers.{below, lowest, Rearranged}
use Rattle.layer_board.specs.Pass.{spent}
use Rattle.layer_board.specs.Events.{BoardState, IsLive}

-- of one pass of a board of so many layers
pub record IsSoundPass (count next least : ℕ) (v : View) : Type 0 where
  -- it has at least one member, or it is spent
  pub live : (v ≡ spent) ⊎ (IsLive v × (v.count ≡ count))
  -- the layers drawn are the pending, finished, failed and skipped ones
  pub parts : Rearranged v.drawn (option_to_list v.pending ++ (v.finished ++ (v.failed ++ v.skipped)))
  -- each skipped layer lies above the least failed one
  pub skipped : All (λ n. least < n) v.skipped
  -- where it was told so, all layers are drawn, and nothing is pending in it
  pub ended : v.ended ≡ true → (count < next) × (v.pending ≡ None)

-- how many member numbers were given
abbrev pub given_of : List View → ℕ
given_of passes = sum_by (λ v. v.given) passes

-- how many members the ended passes have
abbrev pub ended_members : List View → ℕ
ended_members passes = sum_by (λ v. if v.ended then length v.members else 0) passes

pub record IsSound (count : ℕ) (s : BoardState) : Type 0 where
  -- the members of all passes are the numbers given, each once
  pub members : Rearranged (flat_map (λ v. v.members) s.passes) (below (given_of s.passes))
  -- the pass with member 0 counts all of them
  pub counts : All (λ v. Contains v.members 0 → v.given ≡ given_of s.passes) s.passes
  -- the layers drawn by all passes are the first ones, each once
  pub drawn : Rearranged (flat_map (λ v. v.drawn) s.passes) (below (min s.next count))
  -- the least of count and all failed layers
  pub least : s.least ≡ lowest count (flat_map (λ v. v.failed) s.passes)
  -- next passes the number of layers by no more than the members of the ended passes
  pub most : s.next ≤ count + ended_members s.passes
  pub passes : All (IsSoundPass count s.next s.least) s.passes
