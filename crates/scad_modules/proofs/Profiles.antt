-- Profiles, point by point.
use Rattle.std.proofs.Common.{◌≡◌, ℕ, ◌+◌, ◌<◌, ◌≤◌, List, [], ◌∷◌, ◌++◌, length, get_or, take, drop, ap, sym, ◌∙◌, Ok, Err, max}
use Rattle.std.specs.Prelude.{Bool, ◌||◌, unsigned_abs}
use Rattle.std.specs.List.{list_any}
use Rattle.std.proofs.lemmas.List.{drop_more, drop_all, take_all}
use Rattle.std.proofs.lemmas.List.Folds.{list_any_more}
use Rattle.scad_base.specs.Results.{and_then}
use Rattle.scad_matrix.specs.declared.matrix.Matrix.{Matrix}
use Rattle.scad_modules.specs.declared.fault.ArgumentFault.{ArgumentFault}
use Rattle.scad_modules.specs.Outline.{Pair}
use Rattle.scad_modules.specs.Profile.{profile_point, profile_onto, farthest}

-- the point of a place, and those behind it
next : (ring : List Pair) (i : ℕ) (p : Pair) → i < length ring → p ≡ get_or ring i p → drop i ring ≡ p ∷ drop (i + 1)
    ring
next ring i p below is = drop_more ring i p below ∙ ap (λ q. q ∷ drop (i + 1) ring) (sym is)

pub profile-goes : (m : Matrix) (so_far ring : List Pair) (i : ℕ) (p q : Pair) → i < length ring → p ≡ get_or ring i p
    → Ok q ≡ profile_point m p → profile_onto m (so_far ++ q ∷ []) (drop (i + 1) ring) ≡ profile_onto m so_far
    (drop i ring)
profile-goes m so_far ring i p q below is r =
    sym (ap (profile_onto m so_far) (next ring i p below is) ∙ ap
    (λ r. and_then r (λ q. profile_onto m (so_far ++ q ∷ []) (drop (i + 1) ring))) (sym r))

pub profile-stops : (m : Matrix) (so_far ring : List Pair) (i : ℕ) (p : Pair) (e : ArgumentFault) → i < length ring
    → p ≡ get_or ring i p → Err e ≡ profile_point m p → profile_onto m so_far (drop i ring) ≡ Err e
profile-stops m so_far ring i p e below is r =
    ap (profile_onto m so_far) (next ring i p below is) ∙ ap
    (λ r. and_then r (λ q. profile_onto m (so_far ++ q ∷ []) (drop (i + 1) ring))) (sym r)

pub profile-ends : (m : Matrix) (so_far ring : List Pair) (i : ℕ) → length ring ≤ i
    → profile_onto m so_far (drop i ring) ≡ Ok so_far
profile-ends m so_far ring i past = ap (profile_onto m so_far) (drop_all i ring past)

-- how far the points left are from the axis
pub farthest-drop : (ring : List Pair) (i : ℕ) (p : Pair) → i < length ring → p ≡ get_or ring i p
    → farthest (drop i ring) ≡ max (unsigned_abs p.0) (farthest (drop (i + 1) ring))
farthest-drop ring i p below is = ap farthest (next ring i p below is)

pub farthest-drop_all : (ring : List Pair) (i : ℕ) → length ring ≤ i → farthest (drop i ring) ≡ 0
farthest-drop_all ring i past = ap farthest (drop_all i ring past)

pub ruleset distances = (farthest-drop, farthest-drop_all)

-- whether one of the points so far passes a test
pub any-take : (test : Pair → Bool) (ring : List Pair) (i : ℕ) (p : Pair) → i < length ring → p ≡ get_or ring i p
    → list_any test (take (i + 1) ring) ≡ (list_any test (take i ring) || test p)
any-take test ring i p below is =
    list_any_more test ring i p below ∙ ap (λ q. list_any test (take i ring) || test q) (sym is)

pub any-take_all : (test : Pair → Bool) (ring : List Pair) (i : ℕ) → length ring ≤ i
    → list_any test (take i ring) ≡ list_any test ring
any-take_all test ring i past = ap (list_any test) (take_all i ring past)

pub ruleset sides = (any-take, any-take_all)
