-- The edges that meet a height, as it rises.
use Rattle.std.specs.Prelude.{List, drop, ℕ, ◌<◌, ◌≤◌, length, pos, ◌<ℤ◌, All}
use Rattle.scad_geom.specs.declared.level.Level.{Level}
use Rattle.scad_geom.specs.declared.level.LeafEdge.{LeafEdge}
use Rattle.scad_geom.specs.Level.{IsAtMost}
use Rattle.slice_slab.specs.declared.rising_edges.Active.{Active}
use Rattle.slice_bundles.specs.Starts.{AreStarts, AreRising}
use Rattle.slice_bundles.specs.CoverHeight.{CoverHeight}

-- the numbers of the edges that meet the height it stands at
abbrev pub live_in : Active → List ℕ
live_in a = a.live.items

-- the bundles of the slab above that height
abbrev pub bundles_in : Active → List (List ℕ)
bundles_in a = a.bundles.items

-- it can be lifted to a height, and to those above it
pub record IsReadyFor (edges : List LeafEdge) (at : Level) (a : Active) : Type 0 where
  pub starts : AreStarts edges a.starts.items
  pub rising : AreRising a.starts.items
  pub begun : a.begun ≤ length a.starts.items
  pub there : All (λ k. k < length edges) a.live.items
  pub later : (h : Level) → pos 0 <ℤ h.d → IsAtMost at h
      → CoverHeight edges h a.live.items (drop a.begun a.starts.items)

-- it can be lifted on from a height
abbrev pub StandsAt : List LeafEdge → Level → Active → Type 0
StandsAt edges at a = (h : Level) → pos 0 <ℤ h.d → IsAtMost at h → IsReadyFor edges h a
