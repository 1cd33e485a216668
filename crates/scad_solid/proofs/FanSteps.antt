-- A fan that a loop collects.
use Rattle.std.proofs.Common.{◌≡◌, ℕ, ◌+◌, ◌<◌, ◌≤◌, ◌-◌, List, [], ◌∷◌, ◌++◌, append_assoc, length, get_or, drop, take, arith, ap, sym, ◌∙◌}
use Rattle.std.proofs.lemmas.List.{append-nil, at_drop_all, at_drop_more, take_all}
use Rattle.scad_geom.specs.declared.point3.Pt3.{Pt3}
use Rattle.scad_solid.specs.declared.triangle.Triangle.{Triangle}
use Rattle.scad_solid.specs.Solid.{fan, fan_around}

module _ (p q : Pt3) (points : List Pt3) (k : ℕ) where
  pub fan_around-all : length points ≤ k → (old all : List Triangle) → old ++ fan_around p q (drop k points) ≡ all
      → old ≡ all
  fan_around-all none old all so_far =
      sym (append-nil old) ∙ ap (λ ts. old ++ ts) (sym (at_drop_all (fan_around p q) points k none)) ∙ so_far

  pub fan_around-more : (d : Pt3) → k < length points → (old new all : List Triangle)
      → old ++ fan_around p q (drop k points) ≡ all → new ≡ old ++ record { a = p; b = q; c = get_or points k d } ∷ []
      → new ++ fan_around p (get_or points k d) (drop (k + 1) points) ≡ all
  fan_around-more d inside old new all so_far more =
      let r = get_or points k d in
      let rest = fan_around p r (drop (k + 1) points) in
      ap (λ ts. ts ++ rest) more ∙ append_assoc old (record { a = p; b = q; c = r } ∷ []) rest
      ∙ ap (λ ts. old ++ ts) (sym (at_drop_more (fan_around p q) points k d inside)) ∙ so_far

-- the fan of a face of which the first two points are taken off
pub fan-parts : (d : Pt3) (face : List Pt3) → 2 ≤ length face → fan_around (get_or face 0 d) (get_or face 1 d)
    (take (length face - 2) (drop 2 face)) ≡ fan face
fan-parts d [] long = absurd (omega arith)
fan-parts d (p ∷ []) long = absurd (omega arith)
fan-parts d (p ∷ q ∷ rs) long = ap (fan_around p q) (take_all (length (p ∷ q ∷ rs) - 2) rs (omega arith))
