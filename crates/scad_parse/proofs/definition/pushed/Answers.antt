use Rattle.std.proofs.Common.{Ok, ◌++◌, [], ◌∷◌}
use Rattle.scad_ast.specs.Scope.{items}
use Rattle.scad_parse.specs.Standing.{nothing_read}
use Rattle.scad_parse.proofs.rules.Statements.{items_push}
use Rattle.scad_parse.proofs.rules.Steps.{follows, made_same, stay}
use Rattle.scad_parse.proofs.definition.pushed.Goals as goal

pub returns : goal.returns
returns c = made_same (items_push c.args.scope.items c.args.item)
    (follows (nothing_read (c.args.scope.items ++ (c.args.item ∷ []))) (λ e xs us. Ok (items xs, us)) c.push_lone.ensures stay)
