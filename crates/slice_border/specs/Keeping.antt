-- A shape whose leaves are in where their winding numbers aren't 0.
use Rattle.std.specs.Prelude.{Bool, not, List, ℕ, ◌≡◌, ◌<◌, ◌≤◌, ◌+◌, ◌^◌, ℤ, pos, length, slice_index_or, unsigned_abs, vec_len, All}
use Rattle.scad_geom.specs.declared.level.LeafEdge.{LeafEdge}
use Rattle.scad_geom.specs.declared.shape.Shape.{Shape}
use Rattle.scad_geom.specs.Sign.{is_zero}
use Rattle.slice_held.specs.declared.kept_shape.Held.{Held}
use Rattle.slice_held.specs.Held.{leaf_count, IsReady, Shows}
use Rattle.slice_border.specs.declared.tally.Tally.{Tally}
use Rattle.slice_border.specs.Tally.{IsTally, headings}

-- whether a leaf is in by its number
abbrev pub in_by : List ℤ → ℕ → Bool
in_by turns leaf = not (is_zero (slice_index_or turns leaf (pos 0)))

-- what is shown by numbers is shown by those after
pub record KeepsUp (turns news : List ℤ) (h g : Held) : Type 0 where
  pub ready : IsReady g
  pub size : leaf_count g ≡ leaf_count h
  pub shows : (shape : Shape) → Shows shape (in_by turns) h → Shows shape (in_by news) g

-- it can be asked for the shape's value
abbrev pub IsKept : Tally → Type 0
IsKept t = IsReady t.held

-- the winding numbers that edges of these numbers sum up to, and a shape over the leaves whose number isn't 0
pub record Tells (es : List LeafEdge) (shape : Shape) (numbers : List ℕ) (t : Tally) : Type 0 where
  pub ready : IsReady t.held
  pub size : leaf_count t.held ≡ vec_len t.turns
  pub leaves : All (λ e. e.leaf < vec_len t.turns) es
  pub turns : IsTally t.turns.items (λ leaf. headings es leaf numbers)
  pub shows : Shows shape (in_by t.turns.items) t.held

-- it's ready, and its numbers leave room for the headings of these edges
pub record AreSmall (es : List LeafEdge) (numbers : List ℕ) (t : Tally) : Type 0 where
  pub ready : IsReady t.held
  pub size : leaf_count t.held ≡ vec_len t.turns
  pub leaves : All (λ e. e.leaf < vec_len t.turns) es
  pub room : (leaf : ℕ) → unsigned_abs (slice_index_or t.turns.items leaf (pos 0)) + length numbers ≤ 2 ^ 62
