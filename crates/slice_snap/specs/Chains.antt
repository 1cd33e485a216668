-- Pieces joined into chains: a chain's whole stands at the place of its first piece, and its other pieces are gone.
use Rattle.std.specs.Prelude.{◌≡◌, Bool, true, false, cond, List, [], ◌∷◌, ℕ, ◌<◌, ◌≤◌, pos, length, slice_index_or, slice_set, All}
use Rattle.scad_geom.specs.Limits.{coordinate_limit}
use Rattle.scad_geom.specs.Point.{Point}
use Rattle.scad_geom.specs.Balance.{starts_at, ends_at}
use Rattle.slice_pieces.specs.declared.piece.Spot.{Spot}
use Rattle.slice_pieces.specs.declared.piece.Piece.{Piece}
use Rattle.slice_snap.specs.declared.chains.Chains.{Chains}
use Rattle.slice_pieces.specs.Spots.{point_of, IsSpotWithin}
use Rattle.slice_pieces.specs.Pieces.{ways_of, IsPieceWithin}
use Rattle.slice_pieces.specs.Merging.{joined, AreMerged}
use Rattle.slice_pieces.specs.Joining.{IsStuck}

-- the pieces that aren't gone
abbrev pub kept : List Bool → List Piece → List Piece
kept [] qs = qs
kept (g ∷ gs) [] = []
kept (g ∷ gs) (q ∷ qs) = cond g (kept gs qs) (q ∷ kept gs qs)

abbrev pub wholes_of : Chains → List Piece
wholes_of c = kept c.gone.items c.wholes.items

-- ---- what stands at a place, and what stands for it past the end
abbrev pub no_spot : Spot
no_spot = record { at = record { n = pos 0; d = pos 0 }; x = pos 0; run = 0 }

abbrev pub no_piece : Piece
no_piece = record { from = no_spot; to = no_spot; edge = 0 }

abbrev pub piece_at : List Piece → ℕ → Piece
piece_at qs k = slice_index_or qs k no_piece

abbrev pub gone_at : List Bool → ℕ → Bool
gone_at gs k = slice_index_or gs k false

abbrev pub place_at : List ℕ → ℕ → ℕ
place_at ps k = slice_index_or ps k 0

-- ---- the chains
pub record HaveLengths (n : ℕ) (c : Chains) : Type 0 where
  pub wholes : length c.wholes.items ≡ n
  pub gone : length c.gone.items ≡ n
  pub first : length c.first.items ≡ n
  pub last : length c.last.items ≡ n

-- a chain's whole runs from the start of its first piece to the end of its last one, and both have its name
pub record IsChain (pieces : List Piece) (c : Chains) (h : ℕ) : Type 0 where
  pub there : place_at c.last.items h < length pieces
  pub from : (piece_at c.wholes.items h).from ≡ (piece_at pieces h).from
  pub to : (piece_at c.wholes.items h).to ≡ (piece_at pieces (place_at c.last.items h)).to
  pub first_name : (piece_at c.wholes.items h).edge ≡ (piece_at pieces h).edge
  pub last_name : (piece_at c.wholes.items h).edge ≡ (piece_at pieces (place_at c.last.items h)).edge

-- at a place stands the last piece of a chain
pub record IsLast (n : ℕ) (c : Chains) (t : ℕ) : Type 0 where
  pub there : place_at c.first.items t < n
  pub kept : gone_at c.gone.items (place_at c.first.items t) ≡ false
  pub back : place_at c.last.items (place_at c.first.items t) ≡ t

-- some pieces were made of others by joining two that meet alone, again and again
pub record AreJoined (pieces left : List Piece) : Type 0 where
  pub on : (merged : List Piece) → AreMerged left merged → AreMerged pieces merged
  pub within : All (IsPieceWithin coordinate_limit) left
  pub starts : (p : Point) → starts_at p (ways_of left) ≤ starts_at p (ways_of pieces)
  pub ends : (p : Point) → ends_at p (ways_of left) ≤ ends_at p (ways_of pieces)
  pub stuck : (q : Piece) → IsSpotWithin coordinate_limit q.to → IsStuck pieces q → IsStuck left q

-- pieces are joined into chains, and those before a place go on nowhere any more
pub record AreChained (pieces : List Piece) (c : Chains) (i : ℕ) : Type 0 where
  pub lengths : HaveLengths (length pieces) c
  pub chains : (h : ℕ) → h < length pieces → gone_at c.gone.items h ≡ false → IsChain pieces c h
  pub lasts : (t : ℕ) → i ≤ t → t < length pieces → IsLast (length pieces) c t
  pub joined : AreJoined pieces (wholes_of c)
  pub gone : (j : ℕ) → j < length pieces → gone_at c.gone.items j ≡ true
      → starts_at (point_of (piece_at pieces j).from) (ways_of (wholes_of c)) ≡ 0
  pub stuck : (k : ℕ) → k < i → IsStuck (wholes_of c) (piece_at pieces k)

-- the chain that begins at one place goes on with that which begins at another
pub record IsLinked (old : Chains) (start next : ℕ) (new : Chains) : Type 0 where
  pub wholes : new.wholes.items ≡ slice_set old.wholes.items start
      (joined (piece_at old.wholes.items start) (piece_at old.wholes.items next))
  pub gone : new.gone.items ≡ slice_set old.gone.items next true
  pub first : new.first.items ≡ slice_set old.first.items (place_at old.last.items next) start
  pub last : new.last.items ≡ slice_set old.last.items start (place_at old.last.items next)

-- each piece is a chain
pub record AreAlone (pieces : List Piece) (c : Chains) : Type 0 where
  pub lengths : HaveLengths (length pieces) c
  pub wholes : c.wholes.items ≡ pieces
  pub kept : (k : ℕ) → gone_at c.gone.items k ≡ false
  pub first : (k : ℕ) → k < length pieces → place_at c.first.items k ≡ k
  pub last : (k : ℕ) → k < length pieces → place_at c.last.items k ≡ k
