-- Which points of a layer's plane a tree contains.
use Rattle.std.specs.Prelude.{ℕ, Bool, ℤ}
use Rattle.scad_geom.specs.Point.{Point}
use Rattle.scad_solid.specs.Cut.{plane_of, contains}
use Rattle.scad_tree.specs.Solid.{Solid}
use Rattle.scad_tree.specs.Member.{holds}

-- at a plane, where each surface contains what its exact cuts wind round
abbrev pub contained : ℤ → Point → Solid → Bool
contained plane p s = holds (λ ts. contains plane ts p) s

-- at a layer of the height h
abbrev pub contained_at : ℕ → ℕ → Point → Solid → Bool
contained_at layer h p s = contained (plane_of layer h) p s
