-- The rings of a list that a loop goes through: each is as long as the one before it, and its band follows those so far.
use Rattle.std.proofs.Common.{◌≡◌, ℕ, ◌+◌, ◌<◌, ◌≤◌, true, ◌==◌, List, [], ◌∷◌, ◌++◌, append_assoc, length, get_or, drop, arith, ap, ap₂, sym, ◌∙◌}
use Rattle.std.specs.List.{list_all}
use Rattle.std.proofs.lemmas.Bool.{and_parts}
use Rattle.std.proofs.lemmas.Bool.Decides.{nat_tests}
use Rattle.std.proofs.lemmas.Grind.{flat_map-append}
use Rattle.std.proofs.lemmas.List.{append-nil, at_drop_all, at_drop_more}
use Rattle.scad_geom.specs.declared.point3.Pt3.{Pt3}
use Rattle.scad_solid.specs.declared.triangle.Triangle.{Triangle}
use Rattle.scad_solid.specs.Solid.{fan, fans}
use Rattle.scad_solid.specs.Stack.{band, faces_below, are_alike}
use Rattle.scad_solid.specs.Wrap.{bands}

same_number : (a b : ℕ) → (a == b) ≡ true → a ≡ b
same_number a b e = grind (arith, nat_tests)

alike_next : (upper next : List Pt3) (rest : List (List Pt3)) → are_alike (upper ∷ next ∷ rest) ≡ true
    → (length upper ≡ length next) × (are_alike (next ∷ rest) ≡ true)
alike_next upper next rest e =
    let parts = and_parts (length next == length upper) (list_all (λ ring. length ring == length upper) rest) e in
    let same = sym (same_number (length next) (length upper) parts.0) in
    (same, sym (ap (λ n. list_all (λ ring. length ring == n) rest) same) ∙ parts.1)

fans-next : (old new : List Triangle) (here rest : List (List Pt3)) → new ≡ old ++ fans here
    → new ++ fans rest ≡ old ++ fans (here ++ rest)
fans-next old new here rest more = ap (λ ts. ts ++ fans rest) more ∙ append_assoc old (fans here) (fans rest)
    ∙ ap (λ ts. old ++ ts) (sym (flat_map-append fan here rest))

module _ (rings : List (List Pt3)) (i : ℕ) (upper next : List Pt3) (inside : i < length rings) (is : next
    ≡ get_or rings i next) where
  abbrev rest : List (List Pt3)
  rest = drop (i + 1) rings

  front : {Y : Type 0} (f : List (List Pt3) → Y) → f (drop i rings) ≡ f (next ∷ rest)
  front f = at_drop_more f rings i next inside ∙ ap (λ ring. f (ring ∷ rest)) (sym is)

  pub alike-more : are_alike (upper ∷ drop i rings) ≡ true
      → (length upper ≡ length next) × (are_alike (next ∷ rest) ≡ true)
  alike-more so_far = alike_next upper next rest (sym (front (λ rs. are_alike (upper ∷ rs))) ∙ so_far)

  pub faces_below-more : (old new all : List Triangle) → old ++ fans (faces_below upper (drop i rings)) ≡ all
      → new ≡ old ++ fans (band upper next) → new ++ fans (faces_below next rest) ≡ all
  faces_below-more old new all so_far more = fans-next old new (band upper next) (faces_below next rest) more
      ∙ ap (λ ts. old ++ ts) (sym (front (λ rs. fans (faces_below upper rs)))) ∙ so_far

  pub bands-more : (last : List Pt3) (old new all : List Triangle)
      → old ++ fans (bands upper (drop i rings ++ last ∷ [])) ≡ all → new ≡ old ++ fans (band upper next)
      → new ++ fans (bands next (rest ++ last ∷ [])) ≡ all
  bands-more last old new all so_far more = fans-next old new (band upper next) (bands next (rest ++ last ∷ [])) more
      ∙ ap (λ ts. old ++ ts) (sym (front (λ rs. fans (bands upper (rs ++ last ∷ []))))) ∙ so_far

-- where no ring is left
module _ (rings : List (List Pt3)) (i : ℕ) (upper : List Pt3) (none : length rings ≤ i) where
  pub faces_below-all : (face : List Pt3) (old new all : List Triangle)
      → old ++ fans (faces_below upper (drop i rings)) ≡ all → face ≡ upper → new ≡ old ++ fan face → new ≡ all
  faces_below-all face old new all so_far is more = more ∙ ap (λ ps. old ++ fan ps) is
      ∙ ap (λ ts. old ++ ts) (sym (at_drop_all (λ rs. fans (faces_below upper rs)) rings i none
      ∙ append-nil (fan upper))) ∙ so_far

  pub bands-all : (above below last : List Pt3) (old new all : List Triangle)
      → old ++ fans (bands upper (drop i rings ++ last ∷ [])) ≡ all → above ≡ upper → below ≡ last
      → new ≡ old ++ fans (band above below) → new ≡ all
  bands-all above below last old new all so_far is end more = more ∙ ap₂ (λ a b. old ++ fans (band a b)) is end
      ∙ ap (λ ts. old ++ ts) (sym (at_drop_all (λ rs. fans (bands upper (rs ++ last ∷ []))) rings i none
      ∙ ap fans (append-nil (band upper last)))) ∙ so_far
