-- The outlines of a layer hold what the tree contains, away from its cuts.
use Rattle.std.specs.Prelude.{◌≡◌, ℕ, List, flat_map, ℤ, pos, ◌<ℤ◌}
use Rattle.scad_geom.specs.declared.point.Pt.{Pt}
use Rattle.scad_geom.specs.Point.{Point}
use Rattle.scad_geom.specs.Half.{centre}
use Rattle.scad_geom.specs.Segment.{segments}
use Rattle.scad_geom.specs.Winding.{wind, counted}
use Rattle.scad_geom.specs.Loop.{sides}
use Rattle.scad_tree.specs.Solid.{Solid}
use Rattle.scad_tree.specs.Containment.{contained_at}
use Rattle.slice_layer.specs.Cuts.{IsClearOfCuts}

-- outlines wind once round a point that the tree contains at the layer, and not at all round one that it doesn't
abbrev pub HoldsPoint : ℕ → ℕ → Solid → List (List Pt) → Point → Type 0
HoldsPoint layer h s outlines q = wind q (segments (flat_map sides outlines)) ≡ counted (contained_at layer h q s)

-- so they do at each exact point more than one micrometre from each cut along an axis
abbrev pub HoldPoints : ℕ → ℕ → Solid → List (List Pt) → Type 0
HoldPoints layer h s outlines = (q : Point) → pos 0 <ℤ q.d → IsClearOfCuts layer h s q → HoldsPoint layer h s outlines q

-- so they do at each such centre of a cell
abbrev pub HoldCentres : ℕ → ℕ → Solid → List (List Pt) → Type 0
HoldCentres layer h s outlines = (i j : ℤ) → IsClearOfCuts layer h s (centre i j) → HoldsPoint layer h s outlines (centre i j)
