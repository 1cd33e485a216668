use Rattle.std.proofs.Common.{ap, ◌∙◌, map}
use Rattle.scad_bindings.specs.Notes.{noted, placed}
use Rattle.scad_bindings.proofs.Notes.{placed_put}
use Rattle.scad_scope.proofs.entries.note.Goals as goal

pub returns-in_ok-put : goal.returns-in_ok-put
returns-in_ok-put c =
    ap (map placed) c.in_ok-put.ensures.put
    ∙ placed_put c.in-Some.word c.args.place c.args.rows.now
    ∙ ap (noted (map placed c.args.rows.now) c.args.place) c.in-Some.ensures
