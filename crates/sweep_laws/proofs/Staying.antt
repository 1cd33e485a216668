-- A strand that stays, and places with nothing along the height.
use Rattle.std.proofs.Common.{◌≡◌, ℕ, Bool, true, false, List, [], ◌∷◌, ◌++◌, refl, sym, ap, ◌∙◌, subst}
use Rattle.std.proofs.lemmas.List.{append-nil}
use Rattle.scad_geom.specs.declared.level.Level.{Level}
use Rattle.scad_geom.specs.declared.level.LeafEdge.{LeafEdge}
use Rattle.slice_bundles.specs.Bundles.{edge_at}
use Rattle.slice_pieces.specs.declared.piece.Spot.{Spot}
use Rattle.slice_border.specs.Pieces.{spot_on}
use Rattle.sweep_laws.specs.Ways.{Way, way_between}
use Rattle.sweep_laws.specs.Visits.{Pass, goes_on, all_end}
use Rattle.sweep_laws.specs.Fronts.{value_before, way_up, ways_up, way_from, ways_from}
use Rattle.sweep_laws.specs.Crossing.{Place, all_below, all_above, way_along, flat_way, outs_from, opens_after}
use Rattle.sweep_laws.specs.Staying.{IsUncovered, staying, PlainPlacesPass, StrandsStay}

pub no_flat_way : (es : List LeafEdge) (start : Spot) (p : Place) (ps : List Place) → IsUncovered es p ps
    → flat_way es start p ps ≡ []
no_flat_way es start p [] h = refl
no_flat_way es start p (q ∷ ps) h =
    ap (way_along (value_before (all_above (q ∷ ps)) false) (value_before (all_below (q ∷ ps)) false) start q.at) h

with_nothing : (ws fs : List Way) → fs ≡ [] → ws ++ fs ≡ ws
with_nothing ws fs h = ap (λ (us : List Way). ws ++ us) h ∙ append-nil ws

pub plain_places_pass : PlainPlacesPass
plain_places_pass es l u p ps h pass =
    let v : Bool = value_before (all_below ps) false in
    let w : Bool = value_before (all_above ps) false in
    subst (λ (ins : List Way). Pass ins (outs_from es l u p ps) (opens_after es u p ps) p.closed)
    (sym (append-nil (ways_up es l v p.below)))
    (subst (λ (outs : List Way). Pass (ways_up es l v p.below) outs (opens_after es u p ps) p.closed)
    (sym (with_nothing (ways_from es l u w p.above) (flat_way es p.at p ps) (no_flat_way es p.at p ps h)))
    (subst (λ (after : List Way). Pass (ways_up es l v p.below) (ways_from es l u w p.above) after p.closed)
    (sym (with_nothing (ways_up es u w p.above) (flat_way es p.start p ps) (no_flat_way es p.start p ps h))) pass))

between_stays : (v w : Bool) (start s t : Spot) (k : ℕ)
    → Pass (way_between v w start s k ++ []) (way_between v w s t k ++ []) (way_between v w start t k ++ []) []
between_stays true true start s t k = all_end [] [] (λ x. x)
between_stays true false start s t k = goes_on (record { near = start; far = s; edge = k; forward = true })
    (record { near = s; far = t; edge = k; forward = true }) (record { edge = refl; forward = refl })
between_stays false true start s t k = goes_on (record { near = start; far = s; edge = k; forward = false })
    (record { near = s; far = t; edge = k; forward = false }) (record { edge = refl; forward = refl })
between_stays false false start s t k = all_end [] [] (λ x. x)

strand_stays : (es : List LeafEdge) (l u : Level) (v w : Bool) (start : Spot) (b : List ℕ)
    → Pass (way_up es l v w start b ++ []) (way_from es l u v w b ++ []) (way_up es u v w start b ++ []) []
strand_stays es l u v w start [] = all_end [] [] (λ x. x)
strand_stays es l u v w start (k ∷ ks) = between_stays v w start (spot_on (edge_at es k) l) (spot_on (edge_at es k) u) k

pub strands_stay : StrandsStay
strands_stay es l u s ps h e =
    plain_places_pass es l u (staying es l s) ps h
    (subst (λ (v : Bool). Pass (ways_up es l (value_before (all_below ps) false) (s ∷ [])) (ways_from es l u v (s ∷ []))
    (ways_up es u v (s ∷ [])) []) e
    (strand_stays es l u s.left (value_before (all_below ps) false) s.start s.bundle))
