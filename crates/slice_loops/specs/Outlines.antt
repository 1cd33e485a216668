-- The outlines that edges make: the loops drawn from them, by their corners.
use Rattle.std.specs.Prelude.{◌≡◌, List, [], ◌∷◌, ◌++◌, map, filter, length, nat_le}
use Rattle.scad_geom.specs.declared.point.Pt.{Pt}
use Rattle.scad_geom.specs.declared.point.Edge.{Edge}
use Rattle.slice_loops.specs.Drawing.{IsLoop, AreDrawn}
use Rattle.slice_loops.specs.Corners.{corners}

-- loops without the vertices that are no corners, and of these the loops of three vertices or more
abbrev pub outlines_of : List (List Pt) → List (List Pt)
outlines_of loops = filter (λ l. nat_le 3 (length l)) (map corners loops)

-- the outlines of the loops that are drawn from edges
pub record AreOutlines (edges : List Edge) (outlines : List (List Pt)) : Type 0 where
  pub loops : List (List Pt)
  pub drawn : AreDrawn edges loops
  pub kept : outlines ≡ outlines_of loops

-- a loop is drawn from edges, and its outline is added where one is left of it
pub record AddsOutline (edges : List Edge) (outlines : List (List Pt)) (left : List Edge) (more : List (List Pt)) : Type 0 where
  pub vertices : List Pt
  pub drawn : IsLoop edges vertices left
  pub added : more ≡ outlines ++ outlines_of (vertices ∷ [])
