-- Marks beside strands: the name, the value to the left, and where the open piece began, rounded.
use Rattle.std.specs.Prelude.{Bool, false, ◌≡◌, ⊤, List, [], ◌∷◌, ◌++◌, map, take, drop, ℕ, ◌-◌, ◌<◌, length, slice_index_or, pos, All}
use Rattle.scad_geom.specs.declared.point.Pt.{Pt}
use Rattle.scad_geom.specs.declared.level.Level.{Level}
use Rattle.scad_geom.specs.declared.level.LeafEdge.{LeafEdge}
use Rattle.winding_laws.specs.Edges.{rounded}
use Rattle.slice_pieces.specs.Spots.{point_of}
use Rattle.slice_pieces.specs.declared.piece.Spot.{Spot}
use Rattle.slice_bundles.specs.Bundles.{edge_at}
use Rattle.slice_border.specs.Pieces.{spot_on}
use Rattle.sweep_laws.specs.Fronts.{Strand, value_before}
use Rattle.slice_outlines.specs.declared.mark.Mark.{Mark}

-- the value to the left of the first of these, or that to the right of all
abbrev pub left_of_first : List Mark → Bool → Bool
left_of_first [] right = right
left_of_first (m ∷ ms) right = m.left

-- a bundle's least edge
abbrev pub IsNamed : ℕ → List ℕ → Type 0
IsNamed name [] = ⊥
IsNamed name (k ∷ ks) = name ≡ k

-- the mark of a strand with a value to its right
pub record IsKept (right : Bool) (m : Mark) (s : Strand) : Type 0 where
  pub name : IsNamed m.name s.bundle
  pub left : m.left ≡ s.left
  pub from : (s.left ≡ right → ⊥) → m.from ≡ rounded (point_of s.start)

-- the marks of strands from left to right, with the value to the right of the last
abbrev pub AreKept : Bool → List Mark → List Strand → Type 0
AreKept right [] [] = ⊤
AreKept right [] (s ∷ ss) = ⊥
AreKept right (m ∷ ms) [] = ⊥
AreKept right (m ∷ ms) (s ∷ ss) = IsKept (value_before ss right) m s × AreKept right ms ss

-- the names are those of edges
abbrev pub AreThere : List LeafEdge → List Mark → Type 0
AreThere es ms = All (λ m. m.name < length es) ms

-- what stands for a mark past the last
abbrev pub no_mark : Mark
no_mark = record { name = 0; left = false; from = record { x = pos 0; y = pos 0 } }

abbrev pub mark_at : List Mark → ℕ → Mark
mark_at ms i = slice_index_or ms i no_mark

-- where the edge of a mark's name meets a height
abbrev pub spot_at : List LeafEdge → Level → Mark → Spot
spot_at es l m = spot_on (edge_at es m.name) l

-- strands that begin at a point; those from one place to another
abbrev pub begun : Pt → List Mark → List Mark
begun at ms = map (λ (m : Mark). record m { from = at }) ms

abbrev pub begun_in : ℕ → ℕ → Pt → List Mark → List Mark
begun_in from to at ms = take from ms ++ (begun at (take (to - from) (drop from ms)) ++ drop to ms)

abbrev pub names_in : List Mark → List ℕ
names_in ms = map (λ m. m.name) ms
