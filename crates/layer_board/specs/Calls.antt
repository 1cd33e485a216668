-- What the calls of a board say of its passes.
use Rattle.std.specs.Prelude.{◌≡◌, ℕ, ◌-◌, ◌<◌, ◌∷◌, ◌++◌, Bool, true, false, None, List, [], length, All, Contains, replicate}
use Rattle.layer_board.specs.declared.view.View.{View}
use Rattle.layer_board.specs.declared.board.Board.{Board}
use Rattle.layer_board.specs.declared.board.Pass.{Pass}
use Rattle.layer_board.specs.declared.board.Claim.{Claim}
use Rattle.layer_board.specs.declared.board.Claim.TheVariants.{Layer, Ended}
use Rattle.layer_board.specs.Numbers.{below, lowest, Rearranged}
use Rattle.layer_board.specs.Pass.{draws, ends, skips}
use Rattle.layer_board.specs.Events.{opening, Split, IsEmpty, Runs}

abbrev pub view : Pass → View
view p = p.seat.me.0

-- how many layers the board has
abbrev pub layers_of : Board → ℕ
layers_of b = b.count

-- for how many workers it was made
abbrev pub workers_of : Board → ℕ
workers_of b = b.table.shared.key.workers

-- the pass is one of this board's
pub record IsOf (b : Board) (p : Pass) : Type 0 where
  pub table : p.seat.table_id ≡ b.table.shared.table_id
  pub layers : (view p).count ≡ layers_of b

-- a pass of the board that has one member and has drawn nothing
pub record IsFresh (b : Board) (p : Pass) : Type 0 where
  pub «of» : IsOf b p
  pub member : length (view p).members ≡ 1
  pub nothing : IsEmpty (view p)
  pub ended : (view p).ended ≡ false

-- a pass that is done with its layers: it was told the end, and nothing is pending in it
pub record IsThrough (b : Board) (p : Pass) : Type 0 where
  pub «of» : IsOf b p
  pub free : (view p).pending ≡ None
  pub ended : (view p).ended ≡ true

-- a board of so many layers has these passes, after its first pass was split so often, and after no other event
abbrev pub AreSplit : ℕ → ℕ → View → List View → Type 0
AreSplit layers splits first others =
    Runs (replicate splits (Split 0)) (opening layers) (record { next = 0; least = layers; passes = first ∷ others })

-- the passes of a new board: the one that was split for all others stands last
abbrev pub AreDealt : ℕ → ℕ → List View → Type 0
AreDealt layers workers passes =
    (first : View) × (others : List View) × (passes ≡ others ++ first ∷ [])
    × AreSplit layers (workers - 1) first others

-- the event Claim, seen in its pass: the layer that is answered is drawn and pending; or else the pass was told
-- the end, now or before
abbrev pub Claims : View → Claim → View → Type 0
Claims v (Layer n) w = (v.ended ≡ false) × (n < v.count) × (w ≡ draws n v)
Claims v Ended w = w ≡ ends v

-- the event Look, seen in its pass: the pending layer is skipped where the answer is true, and nothing changes
-- where it is false
abbrev pub Looks : View → Bool → View → Type 0
Looks v true w = w ≡ skips v
Looks v false w = w ≡ v

-- a layer that is drawn lies above those that the pass drew before
abbrev pub Ascends : View → Claim → Type 0
Ascends v (Layer n) = All (λ d. d < n) v.drawn
Ascends v Ended = Unit {0}

-- what a board is closed with: the last pass and the least failed layer
pub record Closed (layers least : ℕ) (v : View) : Type 0 where
  -- it has drawn every layer once
  pub drawn : Rearranged v.drawn (below layers)
  -- each of them was finished, failed or skipped
  pub parts : Rearranged v.drawn (v.finished ++ (v.failed ++ v.skipped))
  -- the least of its failed layers, or else their number
  pub is_lowest : least ≡ lowest layers v.failed
  -- every layer below was finished
  pub finished : (n : ℕ) → n < least → Contains v.finished n
