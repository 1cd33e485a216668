-- What changes nothing: a strand that comes to a height alone and goes on as it is, and places with
-- nothing along the height.
use Rattle.std.specs.Prelude.{Bool, false, ◌≡◌, ⊤, List, [], ◌∷◌, ℕ, pos, None}
use Rattle.std.specs.List.{AllByRecursion, position}
use Rattle.scad_geom.specs.declared.level.Level.{Level}
use Rattle.scad_geom.specs.declared.level.LeafEdge.{LeafEdge}
use Rattle.slice_bundles.specs.Bundles.{edge_at}
use Rattle.slice_pieces.specs.declared.piece.Spot.{Spot}
use Rattle.slice_border.specs.Pieces.{spot_on, whole_spot, covers}
use Rattle.sweep_laws.specs.Ways.{Way}
use Rattle.sweep_laws.specs.Visits.{IsOneCourse, OneGoesOn, Pass}
use Rattle.sweep_laws.specs.Fronts.{Strand, value_before, ways_up, ways_from}
use Rattle.sweep_laws.specs.Crossing.{Place, all_below, all_above, ins_to, outs_from, opens_after}

-- no flat edge covers the stretch from a place to the next
abbrev pub IsUncovered : List LeafEdge → Place → List Place → Type 0
IsUncovered es p [] = ⊤
IsUncovered es p (q ∷ ps) = position (covers p.at q.at) es ≡ None

-- where a bundle meets a height
abbrev pub spot_of : List LeafEdge → Level → List ℕ → Spot
spot_of es l [] = whole_spot (pos 0) l
spot_of es l (k ∷ ks) = spot_on (edge_at es k) l

-- the place of a strand that goes on as it is
abbrev pub staying : List LeafEdge → Level → Strand → Place
staying es l s = record {
  at = spot_of es l s.bundle;
  below = s ∷ [];
  above = s ∷ [];
  start =
      spot_of es l s.bundle;
  closed = [];
}

-- strands that begin at a spot
abbrev pub begun_at : Spot → List Strand → List Strand
begun_at start [] = []
begun_at start (s ∷ ss) = record s { start = start } ∷ begun_at start ss

-- each begins where its bundle meets a height
abbrev pub AreBegun : List LeafEdge → Level → List Strand → Type 0
AreBegun es l ss = AllByRecursion (λ s. s.start ≡ spot_of es l s.bundle) ss

-- ---- the laws
-- Where nothing leads along the height to a place or from it, it's enough that the ways of its strands pass.
abbrev pub PlainPlacesPass : Type 0
PlainPlacesPass =
    (es : List LeafEdge) (l u : Level) (p : Place) (ps : List Place) → IsUncovered es p ps
    → Pass (ways_up es l (value_before (all_below ps) false) p.below)
    (ways_from es l u (value_before (all_above ps) false) p.above)
    (ways_up es u (value_before (all_above ps) false) p.above) p.closed
    → Pass (ins_to es l [] p ps) (outs_from es l u p ps) (opens_after es u p ps) p.closed

-- A strand with the same value to its right below the height and above it stays as it is: it passes, and no way ends.
abbrev pub StrandsStay : Type 0
StrandsStay =
    (es : List LeafEdge) (l u : Level) (s : Strand) (ps : List Place) → IsUncovered es (staying es l s) ps
    → value_before (all_below ps) false ≡ value_before (all_above ps) false
    → Pass (ins_to es l [] (staying es l s) ps) (outs_from es l u (staying es l s) ps)
    (opens_after es u (staying es l s) ps) []

-- A group of strands at one place, of which not one alone comes in and goes on: all ways that come
-- in end, and the strands above begin there.
abbrev pub GroupsEnd : Type 0
GroupsEnd =
    (es : List LeafEdge) (l u : Level) (v w : Bool) (below above : List Strand) → AreBegun es l above
    → (OneGoesOn (ways_up es l v below) (ways_from es l u w above) → ⊥)
    → Pass (ways_up es l v below) (ways_from es l u w above) (ways_up es u w above) (ways_up es l v below)

-- One of which one way alone comes in and one goes out, of one name and direction: that goes on, and none ends.
abbrev pub GroupsGoOn : Type 0
GroupsGoOn =
    (es : List LeafEdge) (l u : Level) (v w : Bool) (below above : List Strand) (x y : Way)
    → ways_up es l v below ≡ x ∷ [] → ways_from es l u w above ≡ y ∷ [] → IsOneCourse x y
    → Pass (ways_up es l v below) (ways_from es l u w above) (ways_up es u w (begun_at x.near above)) []
