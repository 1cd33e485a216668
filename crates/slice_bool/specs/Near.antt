-- What of an edge list matters on a level: the edges that meet it, and the numbers of the flat ones that lie on it.
use Rattle.std.specs.Prelude.{if◌then◌else◌, List, [], ◌∷◌, ℕ, ◌<◌, ◌≡◌, length, map, slice_index_or, All}
use Rattle.scad_geom.specs.Limits.{coordinate_limit}
use Rattle.scad_geom.specs.declared.level.Level.{Level}
use Rattle.scad_geom.specs.declared.level.LeafEdge.{LeafEdge}
use Rattle.scad_geom.specs.Within.{IsEdgeWithin}
use Rattle.slice_bundles.specs.Bundles.{no_edge}
use Rattle.slice_bundles.specs.Touching.{touches}
use Rattle.slice_bool.specs.declared.near.Near.{Near}
use Rattle.slice_border.specs.Flats.{flats_from}

-- the edges of these numbers
abbrev pub picked : List LeafEdge → List ℕ → List LeafEdge
picked edges ks = map (λ k. slice_index_or edges k no_edge) ks

-- the edges that meet a level
abbrev pub touching_at : List LeafEdge → Level → List LeafEdge
touching_at [] at = []
touching_at (e ∷ es) at = if touches e.edge at then e ∷ touching_at es at else touching_at es at

-- these are the numbers of the flat edges that lie on a level
pub record AreFlats (edges : List LeafEdge) (at : Level) (flats : List ℕ) : Type 0 where
  pub are : flats ≡ flats_from 0 edges at
  pub there : All (λ k. k < length edges) flats

-- what was found is that of the level: the edges that meet it are asked for where there are flat ones
pub record AreEdgesNear (edges : List LeafEdge) (at : Level) (near : Near) : Type 0 where
  pub flats : AreFlats edges at near.flats.items
  pub touching : 0 < length near.flats.items → near.touching.items ≡ touching_at edges at
  pub within : 0 < length near.flats.items → All (λ e. IsEdgeWithin coordinate_limit e.edge) near.touching.items
