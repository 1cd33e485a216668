-- How far the code has come along a height.
use Rattle.std.specs.Prelude.{true, false, ◌≡◌, ◌≤◌, ◌<◌, ◌-◌, List, [], ◌∷◌, ◌++◌, ℕ, length, take, drop}
use Rattle.std.specs.List.{AllByRecursion}
use Rattle.scad_geom.specs.declared.point.Pt.{Pt}
use Rattle.scad_geom.specs.declared.point.Edge.{Edge}
use Rattle.scad_geom.specs.declared.level.Level.{Level}
use Rattle.scad_geom.specs.declared.shape.Shape.{Shape}
use Rattle.winding_laws.specs.Edges.{rounded}
use Rattle.slice_bundles.specs.Bundles.{edge_at}
use Rattle.slice_pieces.specs.declared.piece.Spot.{Spot}
use Rattle.slice_pieces.specs.Spots.{point_of}
use Rattle.slice_sweep.specs.declared.change.Change.{Change}
use Rattle.slice_sweep.specs.Front.{bundles_in}
use Rattle.slice_border.specs.Beside.{left_value}
use Rattle.slice_border.specs.Pieces.{across, spot_on, passes_at, IsSameAcross}
use Rattle.scad_geom.specs.Level.{IsAtMost}
use Rattle.sweep_laws.specs.Fronts.{Strand}
use Rattle.slice_outlines.specs.declared.mark.Mark.{Mark}
use Rattle.slice_outlines.specs.declared.run.Run.{Run}
use Rattle.slice_outlines.specs.declared.height.Height.{Height}
use Rattle.slice_outlines.specs.declared.groups.Passed.{Passed}
use Rattle.slice_outlines.specs.Marks.{mark_at, left_of_first, spot_at, AreKept}
use Rattle.slice_outlines.specs.Runs.{first, run_of}

-- the strands of a part are there
pub record IsRunOf (lower upper : List Mark) (run : Run) : Type 0 where
  pub below : run.below ≤ run.below_to
  pub below_to : run.below_to ≤ length lower
  pub above : run.above ≤ run.above_to
  pub above_to : run.above_to ≤ length upper

-- ---- values
-- to the left of a part the shape has one value below the height and above it
abbrev pub IsBalancedBefore : Height → Shape → Run → Type 0
IsBalancedBefore h shape run = left_of_first (drop run.below h.below.now) false
    ≡ left_value h.edges.now shape (drop run.above (bundles_in h.front.now))

abbrev pub AreValuedIn : Height → Shape → Run → List Mark → Type 0
AreValuedIn h shape run ms = (i : ℕ) → run.above ≤ i → i < run.above_to
    → (mark_at ms i).left ≡ left_value h.edges.now shape (drop i (bundles_in h.front.now))

-- so have the first so many marks
abbrev pub AreValuedTo : Height → Shape → ℕ → List Mark → Type 0
AreValuedTo h shape n ms = (i : ℕ) → i < n
    → (mark_at ms i).left ≡ left_value h.edges.now shape (drop i (bundles_in h.front.now))

-- nothing but the values of a part's marks differs
pub record KeepsMarks (run : Run) (old new : List Mark) : Type 0 where
  pub size : length new ≡ length old
  pub names : (i : ℕ) → (mark_at new i).name ≡ (mark_at old i).name
  pub starts : (i : ℕ) → (mark_at new i).from ≡ (mark_at old i).from
  pub left : take run.above new ≡ take run.above old
  pub right : drop run.above_to new ≡ drop run.above_to old

-- ---- a height
-- what a height is for: a shape, the next height, the strands below it, and the edges that were given before
pub record Onwards : Type 0 where
  pub shape : Shape
  pub upper : Level
  pub height : Height
  pub below : List Strand
  pub given : List Edge

abbrev pub IsOf : Height → Onwards → Type 0
IsOf h on = (on.height ≡ h) × AreKept false h.below.now on.below

-- so it is with the first so many changes
pub record IsCountOf (cs : List Change) (p : Passed) : Type 0 where
  pub count : p.count ≤ length cs
  pub last : p.last ≡ run_of first p.count cs

-- ---- a group
-- the marks of a part, below the height and above it
abbrev pub marks_of : Height → List Mark → Run → List Mark
marks_of h ms run = take (run.below_to - run.below) (drop run.below h.below.now)
    ++ take (run.above_to - run.above) (drop run.above ms)

-- where their edges meet the height rounds to one point
abbrev pub MeetAt : Height → List Mark → Run → Pt → Type 0
MeetAt h ms run p = AllByRecursion (λ m. rounded (point_of (spot_at h.edges.now h.at.now m)) ≡ p) (marks_of h ms run)

-- they meet it where a spot is
abbrev pub MeetAcross : Height → List Mark → Run → Spot → Type 0
MeetAcross h ms run s = AllByRecursion (λ m. IsSameAcross (spot_at h.edges.now h.at.now m) s) (marks_of h ms run)

pub record IsGroupAt (h : Height) (ms : List Mark) (r : Run) : Type 0 where
  pub run : IsRunOf h.below.now ms r
  pub some : marks_of h ms r ≡ [] → ⊥
  pub point : Pt
  pub meet : MeetAt h ms r point

-- the number of an edge that meets the height where those of a part do
pub record IsNameOf (h : Height) (ms : List Mark) (r : Run) (k : ℕ) : Type 0 where
  pub there : k < length h.edges.now
  pub passes : passes_at (edge_at h.edges.now k) h.at.now ≡ true
  pub meets : (p : Pt) → MeetAt h ms r p → rounded (point_of (spot_on (edge_at h.edges.now k) h.at.now)) ≡ p

-- one spot doesn't lie to the right of another
abbrev pub IsNotRightOf : Spot → Spot → Type 0
IsNotRightOf s t = IsAtMost (across s) (across t)

-- marks from left to right
abbrev pub AreInOrder : Height → List Mark → Type 0
AreInOrder h [] = Unit {0}
AreInOrder h (m ∷ []) = Unit {0}
AreInOrder h (m ∷ (n ∷ ms)) = IsNotRightOf (spot_at h.edges.now h.at.now m) (spot_at h.edges.now h.at.now n)
    × AreInOrder h (n ∷ ms)
