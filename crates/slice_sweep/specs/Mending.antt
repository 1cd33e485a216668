-- Strands at a height of which the first are mended: put into the order that they have above it.
use Rattle.std.specs.Prelude.{List, ◌++◌, ℕ, ◌+◌, ◌<◌, ◌≤◌, ◌≡◌, true, length}
use Rattle.std.specs.List.{AllByRecursion}
use Rattle.scad_geom.specs.declared.level.Level.{Level}
use Rattle.scad_geom.specs.declared.level.LeafEdge.{LeafEdge}
use Rattle.scad_geom.specs.EdgeOrder.{IsBefore}
use Rattle.slice_bundles.specs.Times.{times}
use Rattle.slice_bundles.specs.Bundles.{edge_at, reaches}
use Rattle.slice_sweep.specs.declared.strand.Strand.{Strand}
use Rattle.slice_sweep.specs.Chains.{Chain, Joins}
use Rattle.slice_sweep.specs.Strands.{head, numbers_in, strand_at, LiesLeft, IsTogether, IsReaching, IsHeld, AreHeld, AreApart}

-- one strand comes before another above a height
abbrev pub ComesBefore : List LeafEdge → Level → Strand → Strand → Type 0
ComesBefore edges at s t = IsBefore at (head edges s.bundle) (head edges t.bundle)

-- strands between two heights: those of edges that reach both, in their order
pub record AreMended (edges : List LeafEdge) (lower upper : Level) (strands : List Strand) : Type 0 where
  pub reach : AllByRecursion (λ s. AllByRecursion (IsReaching edges lower upper) s.bundle) strands
  pub ranked : Chain (ComesBefore edges lower) strands

-- all strands are mended
pub record AreOrdered (edges : List LeafEdge) (lower upper : Level) (strands : List Strand) : Type 0 where
  pub held : AllByRecursion (IsHeld edges lower) strands
  pub ordered : Chain (AreHeld edges lower) strands
  pub mended : AreMended edges lower upper strands

-- the first so many strands are mended, and lie to the left of the others at the lower height
pub record AreMendedTo (edges : List LeafEdge) (lower upper : Level) (n : ℕ) (strands : List Strand) : Type 0 where
  pub done : List Strand
  pub rest : List Strand
  pub is : strands ≡ done ++ rest
  pub size : length done ≡ n
  pub held : AllByRecursion (IsHeld edges lower) strands
  pub ordered : Chain (AreHeld edges lower) strands
  pub mended : AreMended edges lower upper done
  pub beside : Joins (LiesLeft edges lower) done rest
  pub apart : Chain (AreApart edges lower) rest

-- the edges that reach two heights stand in one list as often as in another
abbrev pub KeepTimes : List LeafEdge → Level → Level → List Strand → List Strand → Type 0
KeepTimes edges lower upper old new = (k : ℕ) → reaches (edge_at edges k) lower upper ≡ true
    → times k (numbers_in new) ≡ times k (numbers_in old)

-- the strands from one place to another lie at one place, and the next doesn't
pub record IsGroup (edges : List LeafEdge) (at : Level) (from to : ℕ) (strands : List Strand) : Type 0 where
  pub some : from < to
  pub within : to ≤ length strands
  pub together : (i : ℕ) → from ≤ i → i + 1 < to
      → IsTogether edges at (strand_at strands i) (strand_at strands (i + 1))
  pub apart : (i : ℕ) → i + 1 ≡ to → to < length strands
      → IsTogether edges at (strand_at strands i) (strand_at strands (i + 1)) → ⊥
