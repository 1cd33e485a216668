use Rattle.std.proofs.Common.{rules, sym, Ok, Err, []}
use Rattle.std.specs.Ordering.{nat_cmp}
use Rattle.std.specs.Cmp.Lexicographic.{slice_cmp}
use Rattle.std.proofs.lemmas.Fn.{always_returns_same}
use Rattle.scad_table.specs.declared.row.Row.{Row}
use Rattle.scad_table.proofs.Ascending.{Ascends-from_test}
use Rattle.scad_table.proofs.LookUp.{searched, listed, missing}
use Rattle.scad_table.proofs.row.find.Goals as goal

-- what an index past the end reads
abbrev no_row : Row
no_row = record { name = record { ref_ptr = (0, 0); now = [] }; id = 0 }

-- the closure compares a row's name, and stays the same
pub returns-in-Ok : goal.returns-in-Ok
returns-in-Ok c =
    let up = Ascends-from_test c.args.rows.now c.requires in
    let by_name = c.in-Ok.ensures.position (λ row. slice_cmp nat_cmp row.name.now c.args.name.now)
    (always_returns_same _ _ _ (λ a r g called. (search rules, search rules))) in
    let is = sym (searched c.args.rows.now c.args.name.now no_row up (Ok c.in-Ok.at) c.in-Ok.ensures.bound by_name) in
    record { given = is; listed = listed _ _ up _ is; missing = missing _ _ up _ is }

pub returns-in-Err : goal.returns-in-Err
returns-in-Err c =
    let up = Ascends-from_test c.args.rows.now c.requires in
    let by_name = c.in-Err.ensures.position (λ row. slice_cmp nat_cmp row.name.now c.args.name.now)
    (always_returns_same _ _ _ (λ a r g called. (search rules, search rules))) in
    let is = sym (searched c.args.rows.now c.args.name.now no_row up (Err c.in-Err.field-0) c.in-Err.ensures.bound
    by_name) in
    record { given = is; listed = listed _ _ up _ is; missing = missing _ _ up _ is }
