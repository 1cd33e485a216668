-- How many triangles the primitives have.
use Rattle.std.proofs.Common.{◌≡◌, ℕ, zero, suc, ◌+◌, ◌-◌, ◌*◌, ◌<◌, ◌≤◌, ◌==◌, ◌&&◌, List, [], ◌∷◌, length, map, true, arith, refl, ap, ap₂, sym, ◌∙◌, ℤ, length-append}
use Rattle.std.specs.List.{range_with_len}
use Rattle.std.proofs.lemmas.Bool.Decides.{nat_tests}
use Rattle.std.proofs.lemmas.List.{length-map}
use Rattle.std.proofs.lemmas.List.Sums.{sum_by-cons}
use Rattle.std.proofs.lemmas.List.FromFn.{length-map-range_with_len}
use Rattle.scad_geom.specs.declared.point3.Pt3.{Pt3}
use Rattle.scad_solid.specs.Solid.{fan, fans, corners}
use Rattle.scad_solid.specs.Stack.{stacked}
use Rattle.scad_solid.proofs.Counts.{length-stacked, length-fan}
use Rattle.scad_matrix.specs.declared.matrix.Matrix.{Matrix}
use Rattle.scad_shapes.specs.Outline.{sphere_rings}
use Rattle.scad_shapes.specs.Rings.{placed_ring, two_rings, sphere_ring_at, sphere_rings_of}
use Rattle.scad_shapes.specs.Count.{prism_triangles, sphere_triangles, face_triangles}
use Rattle.scad_shapes.proofs.Solids.{alike-map, length-sphere_ring}

pub prism_count : (m : Matrix) (bottom top : List (ℤ × ℤ)) (low high : ℤ) → length bottom ≡ length top → 3 ≤ length top
    → length (stacked (two_rings m bottom top low high)) ≡ prism_triangles (length top)
prism_count m bottom top low high same some =
    let upper : length (placed_ring m high top) ≡ length top = simp length-map in
    let lower : length (placed_ring m low bottom) ≡ length top = simp length-map same in
    length-stacked (length top) (placed_ring m high top) (placed_ring m low bottom ∷ []) upper
    (alone (length (placed_ring m low bottom)) (length top) lower) ∙ omega arith
  where
    alone : (a b : ℕ) → a ≡ b → (a == b) && true ≡ true
    alone a b e = grind (arith, nat_tests)

pub sphere_count : (r : ℤ) (n : ℕ) (m : Matrix) → 3 ≤ n → length (stacked (sphere_rings_of r n m)) ≡ sphere_triangles n
sphere_count r n m some = counted (sphere_rings n) (omega arith)
  where
    counted : (k : ℕ) → 0 < k → length (stacked (map (sphere_ring_at r n m) (range_with_len 0 k))) ≡ 2 * (n - 2) + 2 * n
        * (k - 1)
    counted zero some = absurd (omega arith)
    counted (suc k) some =
        length-stacked n (sphere_ring_at r n m 0) (map (sphere_ring_at r n m) (range_with_len 1 k))
        (length-sphere_ring r n m 0) (alike-map (sphere_ring_at r n m) n 1 k (length-sphere_ring r n m))
        ∙ ap (λ l. 2 * (n - 2) + 2 * n * l) (length-map-range_with_len (sphere_ring_at r n m) 1 k ∙ omega arith)

pub polyhedron_count : (points : List Pt3) (faces : List (List ℕ)) → length (fans (map (corners points) faces))
    ≡ face_triangles faces
polyhedron_count points [] = refl
polyhedron_count points (face ∷ faces) =
    length-append (fan (corners points face)) (fans (map (corners points) faces))
    ∙ ap₂ (λ a b. a + b) (length-fan (corners points face) ∙ simp length-map) (polyhedron_count points faces)
    ∙ sym (sum_by-cons (λ f. length f - 2) face faces)
