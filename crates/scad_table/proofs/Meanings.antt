-- A table of ids stands for a table of meanings, where each id has its name's meaning.
use Rattle.std.proofs.Common.{◌≡◌, ℕ, Bool, true, false, List, [], ◌∷◌, Some, refl, ap, ◌∙◌, map}
use Rattle.std.specs.Prelude.{if◌then◌else◌, bytes_eq}
use Rattle.std.specs.Option.{option_map_or}
use Rattle.scad_table.specs.Table.{Table, id_of}
use Rattle.scad_table.specs.Meanings.{found_in}

-- each name with the meaning of its id
abbrev pub meant : {A : Type 0} → (ℕ → A) → Table → List (List ℕ × A)
meant of table = map (λ entry. (entry.0, of entry.1)) table

by_id : {A : Type 0} (of : ℕ → A) (none : A) (table : Table) (name : List ℕ)
    → found_in (meant of table) none name ≡ option_map_or of (id_of table name) none
by_id of none [] name = refl
by_id {A} of none (entry ∷ rest) name = by_test (bytes_eq entry.0 name) (by_id of none rest name)
  where
    by_test : (b : Bool) → found_in (meant of rest) none name ≡ option_map_or of (id_of rest name) none
        → (if b then of entry.1 else found_in (meant of rest) none name)
        ≡ option_map_or of (if b then Some entry.1 else id_of rest name) none
    by_test true later = refl
    by_test false later = later

pub found_by_id : {A : Type 0} (of : ℕ → A) (none : A) (meanings : List (List ℕ × A)) (table : Table) (name : List ℕ)
    → meanings ≡ meant of table → found_in meanings none name ≡ option_map_or of (id_of table name) none
found_by_id of none meanings table name is =
    ap (λ all. found_in all none name) is ∙ by_id of none table name
