-- Edges in ascending order, of which some are taken: those that remain.
use Rattle.std.specs.Prelude.{◌≡◌, Bool, true, false, cond, List, [], ◌∷◌, ℕ, ◌<◌, ◌≤◌, length, slice_index_or, slice_set}
use Rattle.scad_geom.specs.declared.point.Edge.{Edge}
use Rattle.slice_loops.specs.declared.remainder.Remaining.{Remaining}
use Rattle.slice_loops.specs.Ascending.{IsAscending}

-- the edges of a list whose marks don't say that they are taken
abbrev pub untaken : List Bool → List Edge → List Edge
untaken [] es = es
untaken (t ∷ ts) [] = []
untaken (t ∷ ts) (e ∷ es) = cond t (untaken ts es) (e ∷ untaken ts es)

abbrev pub remaining : Remaining → List Edge
remaining r = untaken r.taken.items r.edges.items

-- whether the edge at a place is taken; past the last none is
abbrev pub taken_at : List Bool → ℕ → Bool
taken_at marks k = slice_index_or marks k false

-- the edges ascend, each has a mark and a note, and those from a place up to what its note says are taken
pub record IsInOrder (r : Remaining) : Type 0 where
  pub ascending : IsAscending r.edges.items
  pub marks : length r.taken.items ≡ length r.edges.items
  pub notes : length r.passed.items ≡ length r.edges.items
  pub passed : (g k : ℕ) → g ≤ k → k < slice_index_or r.passed.items g 0 → taken_at r.taken.items k ≡ true

-- at a place stands an edge that isn't taken
pub record IsUntaken (r : Remaining) (place : ℕ) : Type 0 where
  pub there : place < length r.edges.items
  pub free : taken_at r.taken.items place ≡ false

-- all edges before a place are taken
abbrev pub AllTakenTo : Remaining → ℕ → Type 0
AllTakenTo r place = (k : ℕ) → k < place → taken_at r.taken.items k ≡ true

-- the first place from one on whose edge isn't taken, or that past the last
pub record IsFirstUntaken (marks : List Bool) (from place : ℕ) : Type 0 where
  pub after : from ≤ place
  pub inside : place ≤ length marks
  pub skipped : (k : ℕ) → from ≤ k → k < place → taken_at marks k ≡ true
  pub free : taken_at marks place ≡ false

-- the edge at a place is taken, and nothing else changes
pub record Takes (old : Remaining) (place : ℕ) (e : Edge) (new : Remaining) : Type 0 where
  pub edge : e ≡ slice_index_or old.edges.items place e
  pub edges : new.edges.items ≡ old.edges.items
  pub taken : new.taken.items ≡ slice_set old.taken.items place true
  pub notes : new.passed.items ≡ old.passed.items

-- the same edges, of which those that were taken still are
pub record StayTaken (old new : Remaining) : Type 0 where
  pub edges : new.edges.items ≡ old.edges.items
  pub taken : (k : ℕ) → taken_at old.taken.items k ≡ true → taken_at new.taken.items k ≡ true
