-- The walls of a layer at a distance from its outlines: the outlines of what lies inside them and outside of the ring
-- round each of their sides.
use Rattle.std.specs.Prelude.{◌≡◌, Bool, false, not, ◌&&◌, ◌||◌, ℕ, zero, suc, ◌+◌, List, [], ◌∷◌, ◌++◌, length, map}
use Rattle.std.specs.Prelude.{flat_map}
use Rattle.scad_geom.specs.declared.point.Pt.{Pt}
use Rattle.scad_geom.specs.declared.point.Edge.{Edge}
use Rattle.scad_geom.specs.declared.level.LeafEdge.{LeafEdge}
use Rattle.scad_geom.specs.declared.shape.Shape.{Shape}
use Rattle.scad_geom.specs.Loop.{sides}
use Rattle.scad_geom.specs.Shape.{shape_holds}
use Rattle.scad_ring.specs.Corners.{corners_of}
use Rattle.slice_border.specs.Outlines.{AreOutlinesOf}

-- edges as those of one leaf
abbrev pub of_leaf : ℕ → List Edge → List LeafEdge
of_leaf leaf es = map (λ e. record { leaf = leaf; edge = e }) es

-- the sides of the ring by the octagon of c round each edge, each ring a leaf, numbered from k on
abbrev pub rings_from : ℕ → ℕ → List Edge → List LeafEdge
rings_from c k [] = []
rings_from c k (e ∷ es) = of_leaf k (sides (corners_of c e)) ++ rings_from c (k + 1) es

-- edges as leaf 0, then the ring of each in their order, from leaf 1 on
abbrev pub with_rings : ℕ → List Edge → List LeafEdge
with_rings c es = of_leaf 0 es ++ rings_from c 1 es

-- the same of the sides of outlines
abbrev pub wall_edges : ℕ → List (List Pt) → List LeafEdge
wall_edges c outlines = with_rings c (flat_map sides outlines)

-- whether one of n leaves is among those inside, numbered from k on
abbrev pub some_inside : (ℕ → Bool) → ℕ → ℕ → Bool
some_inside inside k zero = false
some_inside inside k (suc n) = inside k || some_inside inside (k + 1) n

-- a shape holds what leaf 0 holds and none of the n leaves after it
abbrev pub IsFirstWithout : ℕ → Shape → Type 0
IsFirstWithout n shape = (inside : ℕ → Bool) → shape_holds inside shape ≡ (inside 0 && not (some_inside inside 1 n))

-- the loops of the walls at the distance c from edges
pub record AreWallsAlong (c : ℕ) (es : List Edge) (loops : List (List Pt)) : Type 0 where
  pub shape : Shape
  pub first_without : IsFirstWithout (length es) shape
  pub are_outlines : AreOutlinesOf (with_rings c es) shape loops

-- the loops of the walls at the distance c from the sides of outlines
abbrev pub AreWalls : ℕ → List (List Pt) → List (List Pt) → Type 0
AreWalls c outlines loops = AreWallsAlong c (flat_map sides outlines) loops
