-- The first file of a name is the one at the first place that has it.
use Rattle.std.proofs.Common.{◌≡◌, ◌≤◌, ℕ, Bool, List, [], length, Some, None, refl, ap, ◌∙◌, arith, inl, inr}
use Rattle.std.specs.Prelude.{option_map, slice_get}
use Rattle.std.specs.List.{position, position_or_len}
use Rattle.std.proofs.lemmas.Bool.Decides.{nat_tests}
use Rattle.std.proofs.lemmas.List.Folds.{find_at}
use Rattle.std.proofs.lemmas.List.Quantifiers.{position-Some}
use Rattle.std.proofs.lemmas.Option.{slice_get_cases, slice_get_past}
use Rattle.memory_desk.specs.Shelf.{has_name, contents_of, text_at}

is_at : {X : Type 0} (p : X → Bool) (xs : List X) (i : ℕ)
    → position p xs ≡ Some i → position_or_len p xs ≡ i
is_at p xs i found = grind (arith, nat_tests)

is_past : {X : Type 0} (p : X → Bool) (xs : List X)
    → position p xs ≡ None → length xs ≤ position_or_len p xs
is_past p xs none = grind (arith, nat_tests)

pub file_found : (files : List (List ℕ × List ℕ)) (name : List ℕ) (i : ℕ)
    → position (has_name name) files ≡ Some i
    → contents_of files name ≡ Some (text_at files i)
file_found files name i found =
    let p = has_name name in
    let there = position-Some p files i ([], []) found in
    let is = find_at p files ∙ ap (slice_get files) (is_at p files i found) in
    elim (slice_get_cases files i).1 [
      | inl w ↦ rw (is, w.2) refl
      | inr w ↦ absurd (omega (arith, w.0, there.0))
    ]

pub file_missing : (files : List (List ℕ × List ℕ)) (name : List ℕ)
    → position (has_name name) files ≡ None
    → contents_of files name ≡ None
file_missing files name none =
    let p = has_name name in
    let past = slice_get_past files _ (is_past p files none) in
    ap (option_map (λ file. file.1)) (find_at p files ∙ past)
