-- The groups of a height that lie ahead of a place, as changes tell of them.
use Rattle.std.specs.Prelude.{◌≡◌, ◌≤◌, ⊤, List, [], ◌∷◌, ◌++◌, map, ℕ, ◌+◌, length, drop, pos, None}
use Rattle.std.specs.List.{AllByRecursion}
use Rattle.scad_geom.specs.declared.level.Level.{Level}
use Rattle.scad_geom.specs.declared.level.LeafEdge.{LeafEdge}
use Rattle.scad_geom.specs.declared.shape.Shape.{Shape}
use Rattle.winding_laws.specs.Edges.{rounded}
use Rattle.slice_pieces.specs.declared.piece.Spot.{Spot}
use Rattle.slice_pieces.specs.Spots.{point_of}
use Rattle.slice_border.specs.Pieces.{whole_spot, IsSameAcross}
use Rattle.slice_sweep.specs.declared.change.Change.{Change}
use Rattle.slice_sweep.specs.Changes.{Group, all_below, all_above, all_at, staying}
use Rattle.slice_sweep.specs.Front.{bundles_in}
use Rattle.sweep_laws.specs.Fronts.{bundles_of}
use Rattle.sweep_laws.specs.Staying.{spot_of}
use Rattle.slice_outlines.specs.declared.mark.Mark.{Mark}
use Rattle.slice_outlines.specs.declared.run.Run.{Run}
use Rattle.slice_outlines.specs.declared.height.Height.{Height}
use Rattle.slice_outlines.specs.declared.height.Open.{Open}
use Rattle.slice_outlines.specs.declared.groups.Passed.{Passed}
use Rattle.slice_outlines.specs.Marks.{spot_at, names_in}
use Rattle.slice_outlines.specs.Heights.{Onwards, IsBalancedBefore, IsCountOf}
use Rattle.slice_outlines.specs.Cursors.{StayOn}
use Rattle.slice_outlines.specs.Along.{HasComeOver}

-- ---- where groups are
abbrev pub first_spot : List LeafEdge → Level → List (List ℕ) → Spot
first_spot es l [] = whole_spot (pos 0) l
first_spot es l (b ∷ bs) = spot_of es l b

abbrev pub group_spots : List LeafEdge → Level → List Group → List Spot
group_spots es l gs = map (λ g. first_spot es l (all_at g)) gs

-- a spot is where another is, and rounds as it does
pub record IsSameSpot (s t : Spot) : Type 0 where
  pub across : IsSameAcross s t
  pub rounds : rounded (point_of s) ≡ rounded (point_of t)

-- marks that meet the height where a group does
abbrev pub AreMarksAt : Height → Group → List Mark → Type 0
AreMarksAt h g ms = AllByRecursion (λ m. IsSameSpot (spot_at h.edges.now h.at.now m)
    (first_spot h.edges.now h.at.now (all_at g))) ms

-- ---- ahead of a place among the strands above a height
-- changes tell of these groups, and then of more that is to the right of them; the marks that lie ahead below the
-- height and above it are the same where a strand stays, and those of a group are at its spot
pub data LieAhead (h : Height) (rest : List Change) : ℕ → List Change → List Group → List Mark → List Mark
    → Type 0 where
  none : (m : ℕ) (lower upper : List Mark) → LieAhead h rest m rest [] lower upper
  stays : (m : ℕ) (cs : List Change) (b : List ℕ) (gs : List Group) (x : Mark) (lower upper : List Mark)
      → LieAhead h rest (m + 1) cs gs lower upper → LieAhead h rest m cs (staying b ∷ gs) (x ∷ lower) (x ∷ upper)
  changes : (c : Change) (cs : List Change) (g : Group) (gs : List Group) (gone come lower upper : List Mark)
      → length g.below ≡ c.gone → length g.above ≡ c.come → length gone ≡ c.gone → length come ≡ c.come
      → AreMarksAt h g (gone ++ come) → (gone ++ come ≡ [] → ⊥) → LieAhead h rest (c.from + c.come) cs gs lower upper
      → LieAhead h rest c.from (c ∷ cs) (g ∷ gs) (gone ++ lower) (come ++ upper)

-- the first of these changes isn't to the left of a part of the height
abbrev pub IsBehind : Run → List Change → Type 0
IsBehind limit [] = ⊤
IsBehind limit (c ∷ cs) = (limit.above ≤ c.from) × (c.gone + c.come ≡ 0 → ⊥)

-- the groups between a place and a part of the height; to the left of the place all changes up to it are passed
pub record AreBetween (h : Height) (ms : List Mark) (cs : List Change) (p : Passed) (limit : Run) : Type 0 where
  pub below : ℕ
  pub above : ℕ
  pub groups : List Group
  pub rest : List Change
  pub ahead : LieAhead h rest above (drop p.count cs) groups (drop below h.below.now) (drop above ms)
  pub behind : IsBehind limit rest
  pub from_below : p.last.below_to ≤ below
  pub from_above : p.last.above_to ≤ above
  pub alike : below + p.last.above_to ≡ above + p.last.below_to
  pub there_below : below ≤ length h.below.now
  pub there_above : above ≤ length ms
  pub to_below : below + length (all_below groups) ≡ limit.below
  pub to_above : above + length (all_above groups) ≡ limit.above

-- ---- at a place
-- nothing is there
abbrev pub between : ℕ → ℕ → Run
between n m = record { below = n; below_to = n; above = m; above_to = m }

abbrev pub HasComeTo : Onwards → List Spot → ℕ → ℕ → Open → Type 0
HasComeTo on passed n m o = HasComeOver on passed [] (between n m) n m None o.marks.items o.given.items o.cursors

-- beside each of these groups there is one value below the height and above it
abbrev pub AreBalancedFrom : Height → Shape → ℕ → ℕ → List Group → Type 0
AreBalancedFrom h shape n m [] = IsBalancedBefore h shape (between n m)
AreBalancedFrom h shape n m (g ∷ gs) = IsBalancedBefore h shape (between n m)
    × AreBalancedFrom h shape (n + length g.below) (m + length g.above) gs

-- the strands ahead of a place are those of these groups, and of more
pub record AreStrandsAhead (on : Onwards) (n m : ℕ) (gs : List Group) : Type 0 where
  pub lower : List (List ℕ)
  pub upper : List (List ℕ)
  pub below : bundles_of (drop n on.below) ≡ all_below gs ++ lower
  pub above : drop m (bundles_in on.height.front.now) ≡ all_above gs ++ upper
  pub balanced : AreBalancedFrom on.height on.shape n m gs

-- but for a part that is passed, marks stay as they are, and none to its left is looked at
pub record KeepsRight (run : Run) (old new : List Mark) : Type 0 where
  pub names : names_in new ≡ names_in old
  pub right : drop run.above_to new ≡ drop run.above_to old

-- all groups up to a part are passed
pub record HasPassed (h : Height) (cs rest : List Change) (limit : Run) (p : Passed) (old new : Open) : Type 0 where
  pub names : names_in new.marks.items ≡ names_in old.marks.items
  pub right : drop limit.above new.marks.items ≡ drop limit.above old.marks.items
  pub stands : StayOn h.edges.now (bundles_in h.front.now) old.cursors new.cursors
  pub count : IsCountOf cs p
  pub later : drop p.count cs ≡ rest
  pub from_below : p.last.below_to ≤ limit.below
  pub from_above : p.last.above_to ≤ limit.above
  pub alike : limit.below + p.last.above_to ≡ limit.above + p.last.below_to

-- no change that is left lies in a part, and all others are skipped
pub record AreSkipped (cs rest : List Change) (limit : Run) (p : Passed) : Type 0 where
  pub later : drop p.count cs ≡ rest
  pub from_below : p.last.below_to ≤ limit.below_to
  pub from_above : p.last.above_to ≤ limit.above_to
  pub alike : limit.below_to + p.last.above_to ≡ limit.above_to + p.last.below_to
