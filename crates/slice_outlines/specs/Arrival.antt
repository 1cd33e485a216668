-- A group that the code has come to.
use Rattle.std.specs.Prelude.{List, [], ◌∷◌, None, length, ◌<◌, ◌^◌}
use Rattle.slice_sweep.specs.declared.change.Change.{Change}
use Rattle.slice_sweep.specs.Changes.{Group, Tell, all_below, all_above}
use Rattle.slice_pieces.specs.declared.piece.Spot.{Spot}
use Rattle.slice_outlines.specs.declared.mark.Mark.{Mark}
use Rattle.slice_outlines.specs.declared.run.Run.{Run}
use Rattle.slice_outlines.specs.declared.height.Open.{Open}
use Rattle.slice_outlines.specs.Heights.{Onwards, KeepsMarks, AreValuedIn}
use Rattle.slice_outlines.specs.Along.{HasComeOver}

-- it has come to a group at a spot, once the values of its strands are found
abbrev pub HasReached : Onwards → List Spot → Spot → Run → Open → Type 0
HasReached on passed s run o = (ms : List Mark) → KeepsMarks run o.marks.items ms
    → AreValuedIn on.height on.shape run ms
    → HasComeOver on passed (s ∷ []) run run.below run.above None ms o.given.items o.cursors

-- changes that tell of groups, not too many to be counted
pub record CanCount (cs : List Change) : Type 0 where
  pub groups : List Group
  pub told : Tell 0 cs groups
  pub few_below : length (all_below groups) < 2 ^ 32
  pub few_above : length (all_above groups) < 2 ^ 32
