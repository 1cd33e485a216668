-- The pieces between neighbouring stops, one after the other.
use Rattle.std.proofs.Common.{◌≡◌, ℕ, zero, suc, ◌-◌, ◌<◌, ◌≤◌, List, [], ◌∷◌, ◌++◌, length, get_or, drop, refl, ap, ◌∙◌, arith, append_assoc, length-drop}
use Rattle.std.specs.List.{position}
use Rattle.scad_geom.specs.declared.level.LeafEdge.{LeafEdge}
use Rattle.scad_geom.specs.declared.shape.Shape.{Shape}
use Rattle.slice_pieces.specs.declared.piece.Spot.{Spot}
use Rattle.slice_pieces.specs.declared.piece.Piece.{Piece}
use Rattle.slice_border.specs.declared.stop.Stop.{Stop}
use Rattle.slice_border.specs.Pieces.{covers, stretch_piece, flat_pieces}
use Rattle.slice_border.specs.Stops.{spots_in}

abbrev pub stretch : List LeafEdge → Shape → Spot → Spot → List Piece
stretch es shape s t = stretch_piece es shape s t (position (covers s t) es)

next : (es : List LeafEdge) (shape : Shape) (ss : List Stop) (j : ℕ) (d e : Stop) → suc j < length ss
    → flat_pieces es shape (drop j (spots_in ss)) ≡ stretch es shape (get_or ss j d).spot (get_or ss (suc j) e).spot
    ++
    flat_pieces es shape (drop (suc j) (spots_in ss))
next es shape [] j d e h = absurd (omega arith)
next es shape (x ∷ []) j d e h = absurd (omega arith)
next es shape (x ∷ (y ∷ ss)) zero d e h = refl
next es shape (x ∷ (y ∷ ss)) (suc j) d e h = next es shape (y ∷ ss) j d e (omega arith)

pub stretch_at : (es : List LeafEdge) (shape : Shape) (ss : List Stop) (i : ℕ) (d e : Stop) → 0 < i
    → i < length ss
    → flat_pieces es shape (drop (i - 1) (spots_in ss)) ≡ stretch es shape (get_or ss (i - 1) d).spot
    (get_or ss i e).spot ++ flat_pieces es shape (drop i (spots_in ss))
stretch_at es shape ss zero d e p h = absurd (omega arith)
stretch_at es shape ss (suc j) d e p h = let q : suc j - 1 ≡ j = omega arith in rw q (next es shape ss j d e h)

few : (es : List LeafEdge) (shape : Shape) (ts : List Spot) → length ts ≤ 1 → flat_pieces es shape ts ≡ []
few es shape [] h = refl
few es shape (t ∷ []) h = refl
few es shape (t ∷ (u ∷ ts)) h = absurd (omega arith)

length-spots : (ss : List Stop) → length (spots_in ss) ≡ length ss
length-spots [] = refl
length-spots (s ∷ ss) = ap suc (length-spots ss)

pub no_stretch : (es : List LeafEdge) (shape : Shape) (ss : List Stop) (i : ℕ) → length ss ≤ i
    → flat_pieces es shape (drop (i - 1) (spots_in ss)) ≡ []
no_stretch es shape ss i h =
    let l = length-drop (i - 1) (spots_in ss) in
    let m = length-spots ss in
    few es shape (drop (i - 1) (spots_in ss)) (omega arith)

-- the loop's step
pub more_pieces : (old new more rest whole : List Piece) → new ≡ old ++ more → old ++ (more ++ rest) ≡ whole
    → new ++ rest ≡ whole
more_pieces old new more rest whole e h = ap (λ (ps : List Piece). ps ++ rest) e ∙ append_assoc old more rest ∙ h
