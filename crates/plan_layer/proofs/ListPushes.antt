-- What is made of the elements of a list, one after another.
use Rattle.std.proofs.Common.{◌≡◌, ◌<◌, ◌+◌, ℕ, Bool, not, List, [], ◌∷◌, ◌++◌, length, drop, get_or, map, ap, sym, ◌∙◌}
use Rattle.std.proofs.Common.{append_assoc}
use Rattle.std.proofs.lemmas.List.{drop_more}
use Rattle.scad_geom.specs.declared.point.Pt.{Pt}
use Rattle.plan_layer.specs.Infill.{line_at, LineRuns, line_paths, infill_paths}

-- with one more element those made and those of the rest stay the same
pub pushed_next : {A B : Type 0} (f : A → B) (xs : List A) (i : ℕ) (d : A) (out new all : List B) (y : B)
    → i < length xs → new ≡ out ++ y ∷ [] → y ≡ f (get_or xs i d)
    → out ++ map f (drop i xs) ≡ all → new ++ map f (drop (i + 1) xs) ≡ all
pushed_next {A} {B} f xs i d out new all y h e g k =
    ap (λ (ys : List B). ys ++ map f (drop (i + 1) xs)) e ∙ append_assoc out (y ∷ []) (map f (drop (i + 1) xs))
    ∙ ap (λ (x : B). out ++ (x ∷ map f (drop (i + 1) xs))) g ∙ ap (λ (zs : List A). out ++ map f zs)
    (sym (drop_more xs i d h)) ∙ k

-- with the paths of one more line
pub infill_next : (layer : ℕ) (up : Bool) (ls : List LineRuns) (i : ℕ) (l : LineRuns) (out new all : List (List Pt))
    → i < length ls → new ≡ out ++ line_paths up (line_at layer (get_or ls i l).at) (get_or ls i l).runs
    → out ++ infill_paths layer up (drop i ls) ≡ all → new ++ infill_paths layer (not up) (drop (i + 1) ls) ≡ all
infill_next layer up ls i l out new all h e k =
    let m = get_or ls i l in
    let rest = infill_paths layer (not up) (drop (i + 1) ls) in
    ap (λ (ps : List (List Pt)). ps ++ rest) e ∙ append_assoc out (line_paths up (line_at layer m.at) m.runs) rest
    ∙ ap (λ (ms : List LineRuns). out ++ infill_paths layer up ms) (sym (drop_more ls i l h)) ∙ k
