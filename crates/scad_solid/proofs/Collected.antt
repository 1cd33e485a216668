-- A list that a loop collects: what it has so far and what the items left give are all.
use Rattle.std.proofs.Common.{◌≡◌, ℕ, ◌+◌, ◌<◌, ◌≤◌, List, [], ◌∷◌, ◌++◌, append_assoc, length, get_or, drop, Result, Ok, Err, OnOk, pos, ap, sym, ◌∙◌}
use Rattle.std.proofs.lemmas.List.{append-nil, at_drop_all, at_drop_more}
use Rattle.scad_geom.specs.declared.point3.Pt3.{Pt3}

-- what is read where a list has no such point
abbrev pub origin : Pt3
origin = record { x = pos 0; y = pos 0; z = pos 0 }

module _ {A X : Type 0} (f : List A → List X) (items : List A) (k : ℕ) where
  -- where none is left, all is collected
  pub collected-all : length items ≤ k → f [] ≡ [] → (old all : List X) → old ++ f (drop k items) ≡ all → old ≡ all
  collected-all none empty old all so_far =
      sym (append-nil old) ∙ ap (λ xs. old ++ xs) (sym (at_drop_all f items k none ∙ empty)) ∙ so_far

  -- and otherwise what the next item gives comes first
  pub collected-more : (d : A) → k < length items → (here old new all : List X) → f (get_or items k d ∷ drop
      (k + 1) items) ≡ here ++ f (drop (k + 1) items) → old ++ f (drop k items) ≡ all → new ≡ old ++ here
      → new ++ f (drop (k + 1) items) ≡ all
  collected-more d inside here old new all next so_far more =
      ap (λ xs. xs ++ f (drop (k + 1) items)) more ∙ append_assoc old here (f (drop (k + 1) items))
      ∙ ap (λ xs. old ++ xs) (sym (at_drop_more f items k d inside ∙ next)) ∙ so_far

-- what follows where a call succeeded
pub on_ok : {A E P Q : Type 0} (r : Result A E) → (P → Q) → OnOk r P → OnOk r Q
on_ok (Ok a) then_ is = then_ is
on_ok (Err e) then_ is = is
