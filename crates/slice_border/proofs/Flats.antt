-- Only flat edges on a level cover a stretch of it.
use Rattle.std.proofs.Common.{◌≡◌, ℕ, zero, suc, ◌+◌, ◌<◌, cond, Bool, true, false, List, ◌∷◌, length, get_or, drop, refl, sym, ap, ◌∙◌, arith}
use Rattle.std.specs.Prelude.{if◌then◌else◌, Some}
use Rattle.std.specs.List.{position, position_from}
use Rattle.std.proofs.lemmas.Bool.{and_left}
use Rattle.std.proofs.lemmas.List.{at_drop_more, drop_all}
use Rattle.std.proofs.lemmas.Iterator.Adapters.{position_from-zero}
use Rattle.scad_geom.specs.declared.level.LeafEdge.{LeafEdge}
use Rattle.slice_bundles.specs.Bundles.{no_edge}
use Rattle.slice_pieces.specs.declared.piece.Spot.{Spot}
use Rattle.slice_border.specs.Pieces.{is_flat_at, covers}
use Rattle.slice_border.specs.Flats.{flats_from, first_cover}

-- ---- the first edge that passes a test
pub position_more : (test : LeafEdge → Bool) (es : List LeafEdge) (i : ℕ) (d : LeafEdge) → i < length es
    → test (get_or es i d) ≡ false
    → position_from test i (drop i es) ≡ position_from test (i + 1) (drop (i + 1) es)
position_more test es i d h e = at_drop_more (position_from test i) es i d h ∙ ap
    (λ (b : Bool). cond b (Some i) (position_from test (i + 1) (drop (i + 1) es))) e

pub position_here : (test : LeafEdge → Bool) (es : List LeafEdge) (i : ℕ) (d : LeafEdge) → i < length es
    → test (get_or es i d) ≡ true
    → position_from test i (drop i es) ≡ Some i
position_here test es i d h e = at_drop_more (position_from test i) es i d h ∙ ap
    (λ (b : Bool). cond b (Some i) (position_from test (i + 1) (drop (i + 1) es))) e

-- ---- only flat edges on the level cover a stretch
flats_cover_from : (n : ℕ) (es : List LeafEdge) (s t : Spot) (i : ℕ) → n + i ≡ length es
    → first_cover es s t (flats_from i (drop i es) s.at) ≡ position_from (covers s t) i (drop i es)
flats_cover_from zero es s t i h = ap (λ (xs : List LeafEdge). first_cover es s t (flats_from i xs s.at))
    (drop_all i es (omega arith)) ∙ sym (ap (position_from (covers s t) i) (drop_all i es (omega arith)))
flats_cover_from (suc n) es s t i h =
    ap (first_cover es s t) (at_drop_more (λ (es : List LeafEdge). flats_from i es s.at) es i no_edge (omega arith))
    ∙ by_tests (is_flat_at e.edge s.at) (covers s t e) refl refl (flats_cover_from n es s t (i + 1) (omega arith))
  where
    e : LeafEdge
    e = get_or es i no_edge

    rest : List ℕ
    rest = flats_from (i + 1) (drop (i + 1) es) s.at

    by_tests : (f c : Bool) → is_flat_at e.edge s.at ≡ f → covers s t e ≡ c
        → first_cover es s t rest ≡ position_from
        (covers s t) (i + 1) (drop (i + 1) es)
        → first_cover es s t (if f then i ∷ rest else rest) ≡ position_from (covers s t) i (drop i es)
    by_tests true true q r k = ap (λ (b : Bool). if b then Some i else first_cover es s t rest) r ∙ sym
        (position_here (covers s t) es i no_edge (omega arith) r)
    by_tests true false q r k = ap (λ (b : Bool). if b then Some i else first_cover es s t rest) r ∙ k ∙ sym
        (position_more (covers s t) es i no_edge (omega arith) r)
    by_tests false c q r k = k ∙ sym (position_more (covers s t) es i no_edge (omega arith)
        (and_left (is_flat_at e.edge s.at) _ q))

pub flats_cover : (es : List LeafEdge) (s t : Spot)
    → first_cover es s t (flats_from 0 es s.at) ≡ position (covers s t)
    es
flats_cover es s t = flats_cover_from (length es) es s t 0 (omega arith) ∙ sym (position_from-zero (covers s t) es)
