-- Groups of strands at one place.
use Rattle.std.proofs.Common.{◌≡◌, ℕ, Bool, true, false, List, [], ◌∷◌, ◌++◌, map, refl, sym, ap, ap₂, ◌∙◌, subst}
use Rattle.std.proofs.lemmas.List.{map-append}
use Rattle.scad_geom.specs.declared.level.Level.{Level}
use Rattle.scad_geom.specs.declared.level.LeafEdge.{LeafEdge}
use Rattle.slice_bundles.specs.Bundles.{edge_at}
use Rattle.slice_pieces.specs.declared.piece.Spot.{Spot}
use Rattle.slice_border.specs.Pieces.{spot_on}
use Rattle.sweep_laws.specs.Ways.{Way, way_between}
use Rattle.sweep_laws.specs.Visits.{grown, IsOneCourse, Pass, goes_on, all_end}
use Rattle.sweep_laws.specs.Fronts.{Strand, value_before, way_up, ways_up, way_from, ways_from}
use Rattle.sweep_laws.specs.Staying.{spot_of, begun_at, AreBegun, GroupsEnd, GroupsGoOn}

-- strands that begin at a height have the ways from it
begun_way : (es : List LeafEdge) (l u : Level) (v w : Bool) (b : List ℕ)
    → way_up es u v w (spot_of es l b) b ≡ way_from es l u v w b
begun_way es l u v w [] = refl
begun_way es l u v w (k ∷ ks) = refl

begun_ways : (es : List LeafEdge) (l u : Level) (w : Bool) (ss : List Strand) → AreBegun es l ss
    → ways_up es u w ss ≡ ways_from es l u w ss
begun_ways es l u w [] h = refl
begun_ways es l u w (s ∷ ss) h =
    ap₂ (λ (xs ys : List Way). xs ++ ys)
    (ap (λ (t : Spot). way_up es u s.left (value_before ss w) t s.bundle) h.0
    ∙ begun_way es l u s.left (value_before ss w) s.bundle) (begun_ways es l u w ss h.1)

pub groups_end : GroupsEnd
groups_end es l u v w below above h none =
    subst (λ (after : List Way). Pass (ways_up es l v below) (ways_from es l u w above) after (ways_up es l v below))
    (sym (begun_ways es l u w above h)) (all_end (ways_up es l v below) (ways_from es l u w above) none)

-- ---- ways with another near end
abbrev restarted : Spot → Way → Way
restarted start w = record w { near = start }

between_restarted : (v w : Bool) (start s t : Spot) (k : ℕ)
    → way_between v w start t k ≡ map (restarted start) (way_between v w s t k)
between_restarted true true start s t k = refl
between_restarted true false start s t k = refl
between_restarted false true start s t k = refl
between_restarted false false start s t k = refl

way_restarted : (es : List LeafEdge) (l u : Level) (v w : Bool) (start : Spot) (b : List ℕ)
    → way_up es u v w start b ≡ map (restarted start) (way_from es l u v w b)
way_restarted es l u v w start [] = refl
way_restarted es l u v w start (k ∷ ks) =
    between_restarted v w start (spot_on (edge_at es k) l) (spot_on (edge_at es k) u) k

same_first : (start : Spot) (ss : List Strand) (w : Bool) → value_before (begun_at start ss) w ≡ value_before ss w
same_first start [] w = refl
same_first start (s ∷ ss) w = refl

ways_restarted : (es : List LeafEdge) (l u : Level) (w : Bool) (start : Spot) (ss : List Strand)
    → ways_up es u w (begun_at start ss) ≡ map (restarted start) (ways_from es l u w ss)
ways_restarted es l u w start [] = refl
ways_restarted es l u w start (s ∷ ss) =
    ap₂ (λ (xs ys : List Way). xs ++ ys)
    (ap (λ (r : Bool). way_up es u s.left r start s.bundle) (same_first start ss w)
    ∙ way_restarted es l u s.left (value_before ss w) start s.bundle) (ways_restarted es l u w start ss)
    ∙ sym (map-append (restarted start) (way_from es l u s.left (value_before ss w) s.bundle) (ways_from es l u w ss))

-- the second with the near end of the first is the two as one
as_grown : (x y : Way) → IsOneCourse x y → restarted x.near y ≡ grown x y
as_grown x y c = ap₂ (λ (n : ℕ) (b : Bool). record { near = x.near; far = y.far; edge = n; forward = b }) (sym c.edge)
    (sym c.forward)

pub groups_go_on : GroupsGoOn
groups_go_on es l u v w below above x y ins outs c =
    subst (λ (is : List Way). Pass is (ways_from es l u w above) (ways_up es u w (begun_at x.near above)) []) (sym ins)
    (subst (λ (os : List Way). Pass (x ∷ []) os (ways_up es u w (begun_at x.near above)) []) (sym outs)
    (subst (λ (after : List Way). Pass (x ∷ []) (y ∷ []) after [])
    (sym (ways_restarted es l u w x.near above ∙ ap (map (restarted x.near)) outs
    ∙ ap (λ (z : Way). z ∷ []) (as_grown x y c))) (goes_on x y c)))
