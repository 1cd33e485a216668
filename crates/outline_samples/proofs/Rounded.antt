-- Ends of pieces are rounded, halves down, and a sliver vanishes, as the definition computes it.
use Rattle.std.proofs.Common.{◌≡◌, ℕ, [], ◌∷◌, pos, refl}
use Rattle.scad_geom.specs.Rounding.{half_down}
use Rattle.slice_pieces.specs.declared.piece.Spot.{Spot}
use Rattle.slice_pieces.specs.Rounding.{rounded_edges}

-- the point (x / d, y / d)
abbrev spot : ℕ → ℕ → ℕ → Spot
spot x y d = record { at = record { n = pos y; d = pos d }; x = pos x; run = 1 }

halves_are_rounded_down :
    rounded_edges (record { from = spot 3 1 2; to = spot 5 7 2; edge = 0 }
    ∷ record { from = spot 5 7 2; to = spot 17 33 10; edge = 1 } ∷ [])
    ≡ record { a = record { x = pos 1; y = pos 0 }; b = record { x = pos 2; y = pos 3 } } ∷ []
unfolding half_down
halves_are_rounded_down = refl
