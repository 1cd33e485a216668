use Rattle.std.proofs.Common.{ap}
use Rattle.scad_ast.specs.Scope.{items}
use Rattle.scad_ast.proofs.ScopeRows.{call_view}
use Rattle.scad_grammar.specs.Lists.{with_statement}
use Rattle.scad_parse.specs.ReadingStatements.{marks_of}
use Rattle.scad_parse.proofs.rules.Steps.{made_same}
use Rattle.scad_parse.proofs.instance.called.Goals as goal

pub returns : goal.returns
returns c =
    let m = c.args.before.marks in
    made_same (ap (with_statement (marks_of m) (items c.args.before.scope.items))
    (call_view c.args.word.at m.percent m.hash c.args.word.name c.args.args c.args.inside)) c.kept.ensures
