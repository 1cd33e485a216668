-- Each list of edges has stops at each level, and each shape over it has pieces.
use Rattle.std.proofs.Common.{inl, inr, List, [], ◌∷◌, ◌++◌, refl}
use Rattle.std.specs.List.{AllByRecursion}
use Rattle.scad_geom.specs.declared.level.Level.{Level}
use Rattle.scad_geom.specs.declared.level.LeafEdge.{LeafEdge}
use Rattle.scad_geom.specs.declared.shape.Shape.{Shape}
use Rattle.slice_pieces.specs.declared.piece.Spot.{Spot}
use Rattle.slice_pieces.specs.declared.piece.Piece.{Piece}
use Rattle.slice_border.specs.Pieces.{across, spots_at, GoRight, HasSpot, IsOneOf, AreStops}
use Rattle.slice_border.specs.Pieces.{flat_pieces, slab_pieces, AreLevelPieces, ArePieces}
use Rattle.slice_border.proofs.Winding.{IsSpotAt, spots_are_at}
use Rattle.outline_laws.proofs.Distinct.{weaker, each_is_in, HasDivisor, Climbs, Reaches, HasDistinct, distinct}
use Rattle.outline_laws.proofs.SomeLevels.{HasLevels, levels_of}
use Rattle.outline_laws.proofs.SomeBundles.{HasBundles, bundles_of}

-- ---- the stops of a level
go_right : (ss : List Spot) → Climbs across ss → GoRight ss
go_right [] c = tt
go_right (s ∷ []) c = tt
go_right (s ∷ (t ∷ ss)) c = (c.0.0, go_right (t ∷ ss) c.1)

has_spot : (ss : List Spot) (t : Spot) → Reaches across ss t → HasSpot ss t
has_spot [] t c = c
has_spot (s ∷ ss) t (inl e) = inl e
has_spot (s ∷ ss) t (inr c) = inr (has_spot ss t c)

record HasStops (es : List LeafEdge) (at : Level) : Type 0 where
  stops : List Spot
  are_stops : AreStops es at stops

stops_of : (es : List LeafEdge) (at : Level) → HasStops es at
stops_of es at =
    let ss : List Spot = spots_at es at in
    let d : AllByRecursion (HasDivisor across) ss =
    weaker (IsSpotAt at) (HasDivisor across) (λ s h. h.runs) ss (spots_are_at es at) in
    let r : HasDistinct across ss = distinct across ss d in
    record {
      stops = r.all;
      are_stops = record {
        rightwards = go_right r.all r.climbs;
        sound = r.kept (IsOneOf ss) (each_is_in IsOneOf (λ s ss. inl refl) (λ s t ss c. inr c) ss);
        complete = weaker (Reaches across r.all) (HasSpot r.all) (has_spot r.all) ss r.complete;
      };
    }

-- ---- level by level
module _ (es : List LeafEdge) (shape : Shape) where
  record HasLevelPieces (ls : List Level) : Type 0 where
    pieces : List Piece
    are_pieces : AreLevelPieces es shape ls pieces

  level_pieces : (ls : List Level) → HasLevelPieces ls
  level_pieces [] = record { pieces = []; are_pieces = refl }
  level_pieces (l ∷ []) =
      let s : HasStops es l = stops_of es l in
      record { pieces = flat_pieces es shape s.stops; are_pieces = (s.stops, s.are_stops, refl) }
  level_pieces (l ∷ (u ∷ ls)) =
      let s : HasStops es l = stops_of es l in
      let b : HasBundles es l u = bundles_of es l u in
      let rest : HasLevelPieces (u ∷ ls) = level_pieces (u ∷ ls) in
      record {
        pieces = flat_pieces es shape s.stops ++ slab_pieces es shape l u b.bundles ++ rest.pieces;
        are_pieces = (s.stops, b.bundles, rest.pieces, s.are_stops, b.are_bundles, rest.are_pieces, refl);
      }

  pub record HasPieces : Type 0 where
    pub pieces : List Piece
    pub are_pieces : ArePieces es shape pieces

  pub pieces_of : HasPieces
  pieces_of =
      let l : HasLevels es = levels_of es in
      let p : HasLevelPieces l.levels = level_pieces l.levels in
      record {
        pieces = p.pieces;
        are_pieces = record { levels = l.levels; are_levels = l.are_levels; are_pieces = p.are_pieces };
      }
