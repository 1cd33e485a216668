-- Winding numbers of leaves, and how a bundle's edges change them.
use Rattle.std.specs.Prelude.{Bool, not, List, [], ◌∷◌, ℕ, ◌==◌, ◌≡◌, ℤ, pos, ◌+ℤ◌, if◌then◌else◌, slice_index_or}
use Rattle.scad_geom.specs.declared.level.LeafEdge.{LeafEdge}
use Rattle.scad_geom.specs.declared.shape.Shape.{Shape}
use Rattle.scad_geom.specs.Shape.{shape_holds}
use Rattle.scad_geom.specs.Sign.{is_zero}
use Rattle.scad_geom.specs.Line.{heading}
use Rattle.slice_bundles.specs.Bundles.{no_edge}

-- numbers by leaf; past the list's end they are 0
abbrev pub IsTally : List ℤ → (ℕ → ℤ) → Type 0
IsTally turns f = (leaf : ℕ) → slice_index_or turns leaf (pos 0) ≡ f leaf

-- what a leaf's number says of a shape
abbrev pub is_held : (ℕ → ℤ) → Shape → Bool
is_held f shape = shape_holds (λ leaf. not (is_zero (f leaf))) shape

-- the headings of a leaf's edges among these numbers
abbrev pub headings : List LeafEdge → ℕ → List ℕ → ℤ
headings edges leaf [] = pos 0
headings edges leaf (k ∷ ks) = (if (slice_index_or edges k no_edge).leaf
    == leaf then heading (slice_index_or edges k no_edge).edge else pos 0) +ℤ headings edges leaf ks
