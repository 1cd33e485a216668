-- The band between two rings, of which a loop adds a quad at a time.
use Rattle.std.proofs.Common.{◌≡◌, ℕ, ◌+◌, ◌<◌, ◌≤◌, false, ◌==◌, List, [], ◌∷◌, ◌++◌, append_assoc, length, get_or, drop, map, arith, ap, ap₂, sym, subst, ◌∙◌}
use Rattle.std.specs.List.{zip}
use Rattle.std.proofs.lemmas.Bool.Decides.{nat_tests}
use Rattle.std.proofs.lemmas.List.{drop_all, drop_more, get_or_default}
use Rattle.scad_geom.specs.declared.point3.Pt3.{Pt3}
use Rattle.scad_solid.specs.declared.triangle.Triangle.{Triangle}
use Rattle.scad_solid.specs.Solid.{fan, fans}
use Rattle.scad_solid.specs.Stack.{path, quad}

some_length : (n : ℕ) → false ≡ (n == 0) → 0 < n
some_length n some = grind (arith, nat_tests)

abbrev quads : (a : Pt3) (us : List Pt3) (u b : Pt3) (vs : List Pt3) (v : Pt3) → List Triangle
quads a us u b vs v = fans (map quad (zip (path a us u) (path b vs v)))

module _ (d : Pt3) (upper lower : List Pt3) (same : length upper ≡ length lower) (j : ℕ) (a b : Pt3) where
  abbrev left : List Triangle
  left = quads a (drop j upper) (get_or upper 0 a) b (drop j lower) (get_or lower 0 b)

  -- where no point is left, the last quad is the band's
  pub quads-all : false ≡ (length upper == 0) → length upper ≤ j → (old new all : List Triangle) → old ++ left ≡ all
      → new ≡ old ++ fan (a ∷ get_or upper 0 d ∷ get_or lower 0 d ∷ b ∷ []) → new ≡ all
  quads-all some none old new all so_far more =
      let first = some_length (length upper) some in
      let first_below = subst (λ n. 0 < n) same first in
      let none_below = subst (λ n. n ≤ j) same none in
      more ∙ ap₂ (λ u v. old ++ fan (a ∷ u ∷ v ∷ b ∷ [])) (get_or_default upper 0 d a first)
      (get_or_default lower 0 d b first_below)
      ∙ ap₂ (λ us vs. old ++ quads a us (get_or upper 0 a) b vs (get_or lower 0 b)) (sym (drop_all j upper none))
      (sym (drop_all j lower none_below)) ∙ so_far

  abbrev u : Pt3
  u = get_or upper j d

  abbrev v : Pt3
  v = get_or lower j d

  abbrev rest : List Triangle
  rest = quads u (drop (j + 1) upper) (get_or upper 0 u) v (drop (j + 1) lower) (get_or lower 0 v)

  pub quads-more : j < length upper → (old new all : List Triangle) → old ++ left ≡ all
      → new ≡ old ++ fan (a ∷ u ∷ v ∷ b ∷ []) → new ++ rest ≡ all
  quads-more inside old new all so_far more =
      let inside_below = subst (λ n. j < n) same inside in
      let first : 0 < length upper = omega arith in
      let first_below : 0 < length lower = omega arith in
      ap (λ ts. ts ++ rest) more ∙ append_assoc old (fan (a ∷ u ∷ v ∷ b ∷ [])) rest
      ∙ ap₂ (λ s t. old ++ quads a (u ∷ drop (j + 1) upper) s b (v ∷ drop (j + 1) lower) t)
      (get_or_default upper 0 u a first) (get_or_default lower 0 v b first_below)
      ∙ ap₂ (λ us vs. old ++ quads a us (get_or upper 0 a) b vs (get_or lower 0 b))
      (sym (drop_more upper j d inside)) (sym (drop_more lower j d inside_below)) ∙ so_far
