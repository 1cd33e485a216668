-- The marks above a height before what is new in them is found.
use Rattle.std.specs.Prelude.{false, ◌≡◌, List, [], ◌∷◌, ◌++◌, map, ℕ, ◌+◌, length, pos}
use Rattle.slice_sweep.specs.declared.change.Change.{Change}
use Rattle.slice_sweep.specs.Changes.{Group, Tell, all_below, all_above, staying}
use Rattle.slice_outlines.specs.declared.mark.Mark.{Mark}

abbrev pub name_of : List ℕ → ℕ
name_of [] = 0
name_of (k ∷ ks) = k

-- the mark of a strand that is new
abbrev pub new_mark : List ℕ → Mark
new_mark b = record { name = name_of b; left = false; from = record { x = pos 0; y = pos 0 } }

-- the changes tell of groups, as many as these marks below and these bundles above
pub record IsTold (below : List Mark) (above : List (List ℕ)) (cs : List Change) : Type 0 where
  pub groups : List Group
  pub told : Tell 0 cs groups
  pub lower : length (all_below groups) ≡ length below
  pub upper : all_above groups ≡ above

-- marks of the strands above, as changes tell of them from a place among these strands on: those of strands that go on
-- as they are, and new ones for all others
pub data AreTaken : ℕ → List Change → List Group → List Mark → List Mark → Type 0 where
  none : (n : ℕ) → AreTaken n [] [] [] []
  stays : (n : ℕ) (cs : List Change) (b : List ℕ) (gs : List Group) (m : Mark) (ms ns : List Mark)
      → AreTaken (n + 1) cs gs ms ns → AreTaken n cs (staying b ∷ gs) (m ∷ ms) (m ∷ ns)
  changes : (c : Change) (cs : List Change) (g : Group) (gs : List Group) (gone ms ns : List Mark)
      → length gone ≡ c.gone → length g.below ≡ c.gone → length g.above ≡ c.come
      → AreTaken (c.from + c.come) cs gs ms ns
      → AreTaken c.from (c ∷ cs) (g ∷ gs) (gone ++ ms) (map new_mark g.above ++ ns)
