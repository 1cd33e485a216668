-- The steps of the loops over edges and heights.
use Rattle.std.proofs.Common.{◌≡◌, ℕ, zero, suc, ◌+◌, ◌<◌, List, [], ◌∷◌, ◌++◌, ◌-◌, length, get_or, take, drop, refl, ◌∙◌, arith, append_assoc}
use Rattle.std.specs.List.{count_by}
use Rattle.std.proofs.lemmas.Grind.{common_steps}
use Rattle.scad_geom.specs.declared.level.Level.{Level}
use Rattle.scad_geom.specs.declared.level.LeafEdge.{LeafEdge}
use Rattle.slice_events.specs.Levels.{crosses, crossings}

pub crossings_more : (es : List LeafEdge) (i : ℕ) (e : LeafEdge) → i < length es → e ≡ get_or es i e
    → crossings (drop i es) ≡ count_by (λ f. crosses e.edge f.edge) (drop (suc i) es) + crossings (drop (suc i) es)
crossings_more [] i e h q = absurd (omega arith)
crossings_more (g ∷ es) zero e h q = rw q refl
crossings_more (g ∷ es) (suc i) e h q = crossings_more es i e (omega arith) q

pub pushed : (out rest whole : List Level) (l : Level) → out ++ (l ∷ rest) ≡ whole
    → (out ++ (l ∷ [])) ++ rest ≡ whole
pushed out rest whole l h = append_assoc out (l ∷ []) rest ∙ h

pub rest_is : {A : Type 0} (xs : List A) (i : ℕ) → take (length xs - i) (drop i xs) ≡ drop i xs
rest_is [] zero = refl
rest_is [] (suc i) = grind (arith, common_steps)
rest_is (x ∷ xs) zero = grind (arith, common_steps)
rest_is (x ∷ xs) (suc i) = let e : suc (length xs) - suc i ≡ length xs - i = omega arith in rw e (rest_is xs i)

pub drop_one : {A : Type 0} (xs : List A) (i : ℕ) → drop 1 (drop i xs) ≡ drop (suc i) xs
drop_one [] zero = refl
drop_one [] (suc i) = refl
drop_one (x ∷ xs) zero = refl
drop_one (x ∷ xs) (suc i) = drop_one xs i
