-- What one worker has done of a round, or several have together.
use Rattle.std.specs.Prelude.{◌≡◌, ℕ, ◌-◌, ◌≤◌, List, [], ◌∷◌, ◌++◌, flat_map, All}
use Rattle.layer_board.specs.declared.view.View.{View}
use Rattle.layer_board.specs.declared.board.Board.{Board}
use Rattle.layer_board.specs.declared.share.Share.{Share}
use Rattle.layer_board.specs.Pass.{fails, finishes}
use Rattle.layer_board.specs.Calls.{view, IsThrough}
use Rattle.slice_work.specs.declared.layer.LayerEnd.{LayerEnd}
use Rattle.slice_work.specs.declared.layer.LayerEnd.TheVariants.{Made, Over}
use Rattle.slice_work.specs.declared.layer.Drawn.{Drawn}
use Rattle.slice_work.specs.Part.{Part, Ends, EndsWithin}

-- the number, where the layer was made
abbrev pub if_made : ℕ → LayerEnd → List ℕ
if_made n (Made loops plan) = n ∷ []
if_made n (Over passed) = []

-- the number, where the layer passes a budget
abbrev pub if_over : ℕ → LayerEnd → List ℕ
if_over n (Made loops plan) = []
if_over n (Over passed) = n ∷ []

-- the numbers on the board of those layers that were made, where the layer `first` has number 0
abbrev pub made_numbers : ℕ → List Drawn → List ℕ
made_numbers first done = flat_map (λ d. if_made (d.layer - first) d.end) done

-- the numbers of those that pass a budget
abbrev pub over_numbers : ℕ → List Drawn → List ℕ
over_numbers first done = flat_map (λ d. if_over (d.layer - first) d.end) done

-- each number that a pass has finished or failed is in the list once, as that layer
pub record IsNoted (first : ℕ) (v : View) (done : List Drawn) : Type 0 where
  pub finished : v.finished ≡ made_numbers first done
  pub failed : v.failed ≡ over_numbers first done
  pub from : All (λ d. first ≤ d.layer) done

-- the outlines of all layers of the list lie within the limit of coordinates
abbrev pub AreWithin : List Drawn → Type 0
AreWithin done = All (λ d. EndsWithin d.end) done

-- what was done of a round whose layers start at `first`
pub record IsShare (board : Board) (first : ℕ) (s : Share Drawn) : Type 0 where
  pub through : IsThrough board s.pass
  pub noted : IsNoted first (view s.pass) s.done.items
  pub within : AreWithin s.done.items

-- the work on each layer of the list ended as the part is drawn
abbrev pub AreDrawnOf : Part → List Drawn → Type 0
AreDrawnOf part done = All (λ d. Ends (part d.layer) d.end) done

-- above a failed layer nothing was finished or failed: what was drawn there was skipped
abbrev pub SkipsAbove : View → Type 0
SkipsAbove v = All (λ m. All (λ n. n ≤ m) (v.finished ++ v.failed)) v.failed

-- the pending layer is finished where it was made, and failed where it passes a budget
abbrev pub settled : LayerEnd → View → View
settled (Made loops plan) v = finishes v
settled (Over passed) v = fails v
