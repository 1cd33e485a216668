-- The flat edges of a height.
use Rattle.std.proofs.Common.{◌≡◌, ℕ, ◌+◌, Bool, true, false, true≢false, List, [], ◌∷◌, length, refl, sym, ap, ◌∙◌, subst, arith}
use Rattle.std.specs.Prelude.{if◌then◌else◌, slice_index_or, None, Some}
use Rattle.std.specs.List.{AllByRecursion}
use Rattle.scad_geom.specs.declared.level.Level.{Level}
use Rattle.scad_geom.specs.declared.level.LeafEdge.{LeafEdge}
use Rattle.slice_bundles.specs.Bundles.{no_edge}
use Rattle.slice_pieces.specs.declared.piece.Spot.{Spot}
use Rattle.slice_border.specs.Flats.{flats_from, first_cover}
use Rattle.slice_border.specs.Pieces.{whole_spot, is_flat_at, covers, HasSpot}
use Rattle.slice_border.proofs.Flats.{flats_cover}
use Rattle.sweep_laws.specs.Crossing.{Place}
use Rattle.sweep_laws.specs.Plain.{AreUncovered}
use Rattle.sweep_laws.specs.Staying.{IsUncovered}
use Rattle.sweep_laws.specs.Flats.{FlatsCover, HeightsWithoutFlats}

none_first : (es : List LeafEdge) (s t : Spot) (ks : List ℕ)
    → AllByRecursion (λ k. covers s t (slice_index_or es k no_edge) ≡ false) ks → first_cover es s t ks ≡ None
none_first es s t [] h = refl
none_first es s t (k ∷ ks) h =
    ap (λ (b : Bool). if b then Some k else first_cover es s t ks) h.0 ∙ none_first es s t ks h.1

pub flats_cover_all : FlatsCover
flats_cover_all es p q ps h = sym (flats_cover es p.at q.at) ∙ none_first es p.at q.at (flats_from 0 es p.at.at) h

no_flats : (es : List LeafEdge) (m : Level) (places : List Place) → flats_from 0 es m ≡ []
    → AllByRecursion (λ p. p.at.at ≡ m) places → AreUncovered es places
no_flats es m [] h a = tt
no_flats es m (p ∷ ps) h a = (by_rest ps, no_flats es m ps h a.1)
  where
    by_rest : (ps : List Place) → IsUncovered es p ps
    by_rest [] = tt
    by_rest (q ∷ qs) = flats_cover_all es p q qs
        (subst (AllByRecursion (λ k. covers p.at q.at (slice_index_or es k no_edge) ≡ false))
        (sym (ap (flats_from 0 es) a.0 ∙ h)) tt)

-- none of them is flat
no_ends : (stops : List Spot) (k : ℕ) (es : List LeafEdge) (m : Level) → flats_from k es m ≡ []
    → AllByRecursion (λ e. is_flat_at e.edge m ≡ true
    → HasSpot stops (whole_spot e.edge.a.x m) × HasSpot stops (whole_spot e.edge.b.x m)) es
no_ends stops k [] m h = tt
no_ends stops k (e ∷ es) m h = by_test (is_flat_at e.edge m) refl h (no_ends stops (k + 1) es m)
  where
    by_test : (t : Bool) → is_flat_at e.edge m ≡ t
        → (if t then k ∷ flats_from (k + 1) es m else flats_from (k + 1) es m) ≡ []
        → (flats_from (k + 1) es m ≡ [] → AllByRecursion (λ f. is_flat_at f.edge m ≡ true
        → HasSpot stops (whole_spot f.edge.a.x m) × HasSpot stops (whole_spot f.edge.b.x m)) es)
        → AllByRecursion (λ f. is_flat_at f.edge m ≡ true
        → HasSpot stops (whole_spot f.edge.a.x m) × HasSpot stops (whole_spot f.edge.b.x m)) (e ∷ es)
    by_test true p h rest = let l = ap length h in absurd (omega arith)
    by_test false p h rest = ((λ q. absurd (true≢false (sym q ∙ p))), rest h)

pub heights_without_flats : HeightsWithoutFlats
heights_without_flats = record {
  uncovered = no_flats;
  ends = λ es m stops h. no_ends stops 0 es m h;
}
