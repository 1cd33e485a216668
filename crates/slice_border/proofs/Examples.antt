-- Worked examples of the definitions: a square of one leaf.
use Rattle.std.proofs.Common.{◌≡◌, ℕ, true, false, List, [], ◌∷◌, ℤ, pos, negsuc, refl}
use Rattle.scad_geom.specs.declared.level.LeafEdge.{LeafEdge}
use Rattle.scad_geom.specs.declared.shape.Shape.{Leaf}
use Rattle.scad_geom.specs.Winding.{is_over, passage_by, side_by, is_beyond, turn}
use Rattle.scad_geom.specs.Leaves.{edges_of}
use Rattle.slice_border.specs.Centre.{holds_centre}

abbrev from_to : ℕ → ℤ → ℤ → ℤ → ℤ → LeafEdge
from_to leaf x y x' y' = record {
  leaf = leaf;
  edge = record {
    a = record { x = x; y = y };
    b =
        record { x = x'; y = y' };
  };
}

-- a square of leaf 0 with sides of 2, and a stray edge of leaf 1
abbrev square : List LeafEdge
square =
    from_to 0 (pos 0) (pos 0) (pos 2) (pos 0)
    ∷ from_to 0 (pos 2) (pos 0) (pos 2) (pos 2)
    ∷ from_to 1 (pos 5) (pos 0) (pos 5) (pos 2)
    ∷ from_to 0 (pos 2) (pos 2) (pos 0) (pos 2)
    ∷ from_to 0 (pos 0) (pos 2) (pos 0) (pos 0)
    ∷ []

holds_inside : holds_centre square (Leaf 0) (pos 1) (pos 1) ≡ true
unfolding is_over passage_by side_by is_beyond turn
holds_inside = refl

holds_outside : holds_centre square (Leaf 0) (pos 2) (pos 1) ≡ false
unfolding is_over passage_by side_by is_beyond turn
holds_outside = refl

holds_left : holds_centre square (Leaf 0) (negsuc 0) (pos 0) ≡ false
unfolding is_over passage_by side_by is_beyond turn
holds_left = refl

one_edge : edges_of 1 square ≡ record { a = record { x = pos 5; y = pos 0 }; b = record { x = pos 5; y = pos 2 } }
    ∷ []
one_edge = refl
