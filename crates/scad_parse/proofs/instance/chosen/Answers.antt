use Rattle.std.proofs.Common.{ap}
use Rattle.scad_ast.specs.Scope.{items}
use Rattle.scad_ast.proofs.ScopeRows.{choice_view}
use Rattle.scad_grammar.specs.Lists.{with_statement}
use Rattle.scad_parse.specs.ReadingStatements.{marks_of}
use Rattle.scad_parse.proofs.rules.Steps.{made_same}
use Rattle.scad_parse.proofs.instance.chosen.Goals as goal

pub returns : goal.returns
returns c =
    let m = c.args.before.marks in
    made_same (ap (with_statement (marks_of m) (items c.args.before.scope.items))
    (choice_view c.args.at m.percent m.hash c.args.test c.args.held c.args.other)) c.kept.ensures
