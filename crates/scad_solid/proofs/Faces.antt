-- How the first bad number of faces is found, and what follows where there is none.
use Rattle.std.proofs.Common.{◌≡◌, ℕ, zero, suc, ◌+◌, ◌<◌, true, false, cond, ◌&&◌, List, [], ◌∷◌, ◌++◌, length, get_or, drop, map, Some, None, arith, refl, ap, ap₂, sym, ◌∙◌, nat_le, nat_lt, append_assoc}
use Rattle.std.specs.List.{find, flat_map}
use Rattle.std.specs.Option.{option_or}
use Rattle.std.proofs.lemmas.Bool.{and_parts}
use Rattle.std.proofs.lemmas.List.Folds.{find-append}
use Rattle.std.proofs.lemmas.Bool.Decides.{nat_tests}
use Rattle.std.proofs.lemmas.List.{at_drop_more}
use Rattle.scad_geom.specs.declared.point3.Pt3.{Pt3}
use Rattle.scad_solid.specs.declared.triangle.Triangle.{Triangle}
use Rattle.scad_solid.specs.Solid.{first_bad, names_points, corners, fan, fans}

module _ (count : ℕ) where
  -- a bad number of the first face is the first
  pub first_bad-here : (face : List ℕ) (faces : List (List ℕ)) (i : ℕ) → find (λ k. nat_le count k) face ≡ Some i
      → first_bad count (face ∷ faces) ≡ Some i
  first_bad-here face faces i e = find-append (λ k. nat_le count k) face (flat_map (λ f. f) faces) ∙ ap
      (λ o. option_or o (first_bad count faces)) e

  pub first_bad-later : (face : List ℕ) (faces : List (List ℕ)) → find (λ k. nat_le count k) face ≡ None
      → first_bad count (face ∷ faces) ≡ first_bad count faces
  first_bad-later face faces e = find-append (λ k. nat_le count k) face (flat_map (λ f. f) faces) ∙ ap
      (λ o. option_or o (first_bad count faces)) e

  -- where none is found, all name points
  pub names_points-found_none : (face : List ℕ) → find (λ k. nat_le count k) face ≡ None → names_points count face
      ≡ true
  names_points-found_none [] e = refl
  names_points-found_none (k ∷ face) e =
      elim (nat_le count k) as (λ b. nat_le count k ≡ b → cond b (Some k) (find (λ i. nat_le count i) face) ≡ None
      → (nat_lt k count && names_points count face) ≡ true) [
        | true ↦ (λ t g. absurd (cc))
        | false ↦ (λ t g. ap₂ (λ a b. a && b) (below k t) (names_points-found_none face g))
      ] refl e
    where
      below : (k : ℕ) → nat_le count k ≡ false → nat_lt k count ≡ true
      below k t = grind (arith, nat_tests)

  pub names_points-at : (face : List ℕ) (i : ℕ) → names_points count face ≡ true → i < length face → get_or face i 0
      < count
  names_points-at [] i all inside = absurd (omega arith)
  names_points-at (k ∷ face) zero all inside = below (and_parts (nat_lt k count) (names_points count face) all).0
    where
      below : nat_lt k count ≡ true → k < count
      below t = grind (arith, nat_tests)
  names_points-at (k ∷ face) (suc i) all inside = names_points-at face i
      (and_parts (nat_lt k count) (names_points count face) all).1 (omega arith)

  -- no bad number at all: none in the first face, and none in the others
  pub first_bad-none : (face : List ℕ) (faces : List (List ℕ)) → first_bad count (face ∷ faces) ≡ None
      → (find (λ k. nat_le count k) face ≡ None) × (first_bad count faces ≡ None)
  first_bad-none face faces e =
      let split = sym (find-append (λ k. nat_le count k) face (flat_map (λ f. f) faces)) ∙ e in
      elim (find (λ k. nat_le count k) face) as (λ o. option_or o (first_bad count faces) ≡ None
      → (o ≡ None) × (first_bad count faces ≡ None)) [
        | None ↦ (λ g. (refl, g))
        | Some i ↦ (λ g. absurd (cc))
      ] split

  -- at a face on the way through the list
  pub first_bad-none_at : (faces : List (List ℕ)) (i : ℕ) (face : List ℕ) → i < length faces
      → face ≡ get_or faces i face → first_bad count (drop i faces) ≡ None → (find (λ k. nat_le count k) face ≡ None)
      × (first_bad count (drop (i + 1) faces) ≡ None)
  first_bad-none_at faces i face inside is none =
      let front = rw (← is) at (at_drop_more (first_bad count) faces i face inside) in
      first_bad-none face (drop (i + 1) faces) (sym front ∙ none)

-- the fans of one more face
pub fans-more : (points : List Pt3) (faces : List (List ℕ)) (i : ℕ) (face : List ℕ) (made new all : List Triangle)
    → i < length faces → face ≡ get_or faces i face → made ++ fans (map (corners points) (drop i faces)) ≡ all
    → new ≡ made ++ fan (corners points face) → new ++ fans (map (corners points) (drop (i + 1) faces)) ≡ all
fans-more points faces i face made new all inside is so_far more =
    let front = rw (← is) at (at_drop_more (λ fs. fans (map (corners points) fs)) faces i face inside) in
    let rest = fans (map (corners points) (drop (i + 1) faces)) in
    ap (λ ts. ts ++ rest) more ∙ append_assoc made (fan (corners points face)) rest ∙ ap (λ ts. made ++ ts) (sym front)
    ∙ so_far
