-- How many triangles a turned outline has.
use Rattle.std.proofs.Common.{◌≡◌, ℕ, zero, suc, ◌+◌, ◌*◌, List, [], map, length, ℤ, arith, refl, ap, ◌∙◌}
use Rattle.std.specs.List.{range_with_len}
use Rattle.std.proofs.lemmas.List.FromFn.{length-map-range_with_len}
use Rattle.scad_solid.specs.Wrap.{wrapped}
use Rattle.scad_solid.proofs.Counts.{length-wrapped}
use Rattle.scad_matrix.specs.declared.matrix.Matrix.{Matrix}
use Rattle.scad_extrude.specs.Revolution.{turned_ring_at, turned_rings}
use Rattle.scad_extrude.proofs.Alike.{length-turn, alike-later}

no_rings : length (wrapped []) ≡ 0
unfolding wrapped
no_rings = refl

pub turned_count : (outline : List (ℤ × ℤ)) (n : ℕ) (m : Matrix) → length (wrapped (turned_rings outline n m))
    ≡ 2 * n * length outline
turned_count outline n m = counted n
  where
    counted : (k : ℕ) → length (wrapped (map (turned_ring_at outline n m) (range_with_len 0 k))) ≡ 2 * k * length
        outline
    counted zero = let none : 0 ≡ 2 * 0 * length outline = omega arith in no_rings ∙ none
    counted (suc k) =
        length-wrapped (length outline) (turned_ring_at outline n m 0) (map (turned_ring_at outline n m)
        (range_with_len 1 k)) (length-turn outline n m 0) (alike-later outline n m k)
        ∙ ap (λ l. 2 * length outline * (l + 1)) (length-map-range_with_len (turned_ring_at outline n m) 1 k) ∙ omega
        arith
