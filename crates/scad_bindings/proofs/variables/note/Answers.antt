use Rattle.std.proofs.Common.{ap, sym, ◌∙◌, map}
use Rattle.scad_ast.specs.Scope.{item_of}
use Rattle.scad_bindings.specs.Assignments.{assigned}
use Rattle.scad_bindings.specs.Notes.{with_place, noted, placed}
use Rattle.scad_bindings.proofs.Notes.{placed_put}
use Rattle.scad_bindings.proofs.variables.note.Goals as goal

pub returns-in_ok-put : goal.returns-in_ok-put
returns-in_ok-put c =
    ap (map placed) c.in_ok-put.ensures.put
    ∙ placed_put c.as_slice.result c.args.place c.args.last.now
    ∙ ap (λ n. with_place n c.args.place (map placed c.args.last.now)) c.as_slice.ensures
    ∙ ap (λ i. noted (map placed c.args.last.now) c.args.place (assigned (item_of i))) (sym c.in-Assign.is)
