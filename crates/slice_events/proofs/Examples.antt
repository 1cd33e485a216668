-- Worked examples of how many pairs of edges cross.
use Rattle.std.proofs.Common.{◌≡◌, [], ◌∷◌, ℕ, pos, refl}
use Rattle.scad_geom.specs.declared.level.LeafEdge.{LeafEdge}
use Rattle.scad_geom.specs.Meeting.{meets, meeting, straddles}
use Rattle.scad_geom.specs.Line.{low, high, rise, run, offset, x_at, left_of, lean, apart}
use Rattle.slice_events.specs.Levels.{crossings}

abbrev from_to : ℕ → ℕ → ℕ → ℕ → LeafEdge
from_to x y x' y' = record {
  leaf = 0;
  edge = record
      { a = record { x = pos x; y = pos y }; b = record { x = pos x'; y = pos y' } };
}

-- ---- a doubled edge, one that crosses it at (1000.5, 1000.5), and a flat one
abbrev doubled : LeafEdge
doubled = from_to 2000 2000 0 0

abbrev slanted : LeafEdge
slanted = from_to 2001 0 0 2001

abbrev flat : LeafEdge
flat = from_to 0 0 2001 0

-- the doubled edge crosses the slanted one twice; it starts on the flat one, which ends where the slanted one starts
shared_ends_dont_cross : crossings (doubled ∷ slanted ∷ doubled ∷ flat ∷ []) ≡ 2
unfolding meets meeting straddles low high rise run offset x_at left_of lean apart
shared_ends_dont_cross = refl

one_edge_doesnt_cross : crossings (doubled ∷ []) ≡ 0
one_edge_doesnt_cross = refl

-- ---- three edges through (2, 2)
abbrev rising : LeafEdge
rising = from_to 0 0 4 4

abbrev falling : LeafEdge
falling = from_to 0 4 4 0

abbrev upright : LeafEdge
upright = from_to 2 0 2 4

each_pair_through_one_point_counts : crossings (rising ∷ falling ∷ upright ∷ []) ≡ 3
unfolding meets meeting straddles low high rise run offset x_at left_of lean apart
each_pair_through_one_point_counts = refl

equal_edges_dont_cross : crossings (rising ∷ rising ∷ []) ≡ 0
unfolding meets meeting straddles low high rise run offset x_at left_of lean apart
equal_edges_dont_cross = refl

each_of_equal_edges_crosses : crossings (rising ∷ rising ∷ falling ∷ []) ≡ 2
unfolding meets meeting straddles low high rise run offset x_at left_of lean apart
each_of_equal_edges_crosses = refl
