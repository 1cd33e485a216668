-- The rings of all turns have equally many points.
use Rattle.std.proofs.Common.{◌≡◌, ℕ, zero, suc, true, ◌==◌, List, map, length, ℤ, refl, ap, ◌∙◌}
use Rattle.std.specs.List.{list_all, range_with_len}
use Rattle.std.proofs.lemmas.List.{length-map}
use Rattle.scad_solid.specs.Stack.{are_alike}
use Rattle.scad_matrix.specs.declared.matrix.Matrix.{Matrix}
use Rattle.scad_shapes.proofs.Solids.{alike-map}
use Rattle.scad_extrude.specs.Revolution.{turned_ring_at, turned_rings}

module _ (outline : List (ℤ × ℤ)) (n : ℕ) (m : Matrix) where
  pub length-turn : (j : ℕ) → length (turned_ring_at outline n m j) ≡ length outline
  length-turn j = simp length-map

  pub alike-later : (k : ℕ) → list_all (λ ring. length ring == length outline) (map (turned_ring_at outline n m)
      (range_with_len 1 k)) ≡ true
  alike-later k = alike-map (turned_ring_at outline n m) (length outline) 1 k length-turn

  alike_of : (k : ℕ) → are_alike (map (turned_ring_at outline n m) (range_with_len 0 k)) ≡ true
  alike_of zero = refl
  alike_of (suc k) = ap (λ l. list_all (λ ring. length ring == l) (map (turned_ring_at outline n m)
      (range_with_len 1 k))) (length-turn 0) ∙ alike-later k

  pub alike-turns : are_alike (turned_rings outline n m) ≡ true
  alike-turns = alike_of n
