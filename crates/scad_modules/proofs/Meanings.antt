-- The ids of the table in memory stand for the meanings of the names.
use Rattle.std.proofs.Common.{◌≡◌, ℕ, List, Some, None, refl, sym, ap, ◌∙◌}
use Rattle.std.specs.Option.{option_map_or}
use Rattle.scad_table.specs.Table.{Table, id_of}
use Rattle.scad_table.proofs.Meanings.{meant, found_by_id}
use Rattle.scad_modules.specs.declared.module.Name.TheVariants.{Unknown}
use Rattle.scad_modules.specs.Names.{meanings, meaning_of}
use Rattle.scad_modules.specs.Ids.{name_table, numbered_name}

table_means : meanings ≡ meant numbered_name name_table
unfolding numbered_name
table_means = refl

meaning_by_id : (name : List ℕ) → meaning_of name ≡ option_map_or numbered_name (id_of name_table name) Unknown
unfolding meaning_of
meaning_by_id name = found_by_id numbered_name Unknown meanings name_table name table_means

-- a name that has an id means what the id does
pub meaning_of_id : (name : List ℕ) (table : Table) (id : ℕ) → table ≡ name_table → id_of table name ≡ Some id
    → numbered_name id ≡ meaning_of name
meaning_of_id name table id same found =
    sym (meaning_by_id name ∙ ap (λ o. option_map_or numbered_name o Unknown)
    (ap (λ t. id_of t name) (sym same) ∙ found))

-- another means nothing
pub meaning_of_none : (name : List ℕ) (table : Table) → table ≡ name_table → id_of table name ≡ None
    → Unknown ≡ meaning_of name
meaning_of_none name table same none =
    sym (meaning_by_id name ∙ ap (λ o. option_map_or numbered_name o Unknown)
    (ap (λ t. id_of t name) (sym same) ∙ none))
