use Rattle.std.proofs.Common.{◌≡◌, map, drop}
use Rattle.scad_ast.specs.Scope.{items}
use Rattle.scad_bindings.specs.Notes.{placed, noted_all}
use Rattle.scad_scope.specs.Definitions.{word_of_kind}
use Rattle.scad_scope.specs.Tables.{words_by, tabled}
use Rattle.scad_scope.proofs.entries.rows_of.Given as goal

abbrev pub invariant-items : goal.invariant-items
invariant-items l = (l.place ≡ l.item-index) × (noted_all (map placed l.rows) l.place
    (words_by (word_of_kind l.kind) (items (drop l.item-index l.scope.items))) ≡ tabled (word_of_kind l.kind)
    (items l.scope.items))
