use Rattle.std.proofs.Common.{map, sym, ap, ◌∙◌}
use Rattle.scad_ast.specs.Scope.{parameter}
use Rattle.scad_parse.proofs.loops.Parameters.{parameters_go, parameters_fewer, parameters_ended}
use Rattle.scad_parse.proofs.rules.Steps.{given_as}
use Rattle.scad_parse.proofs.definition.parameters.Goals as goal

pub members-preserved : goal.members-preserved
members-preserved c =
    parameters_go c.args.room c.members.params.items c.push_lone.new.all.items c.named_parameter-param.result
    c.members.invariant
    (sym c.lacks.ensures ∙ c.members-test.true) c.named_parameter-param.ensures c.push_lone.ensures c.behind_member.ensures

pub members-smaller : goal.members-smaller
members-smaller c =
    parameters_fewer c.args.room c.members.params.items c.push_lone.new.all.items c.named_parameter-param.result
    c.members.invariant
    (sym c.lacks.ensures ∙ c.members-test.true) c.named_parameter-param.ensures c.push_lone.ensures c.behind_member.ensures

pub returns : goal.returns
returns c = given_as (ap (map parameter) c.shrink_to_fit.ensures.items)
    (parameters_ended c.args.room c.members.params.items c.members.invariant
    (sym c.lacks.ensures ∙ c.members-test.false) c.pass.ensures.end c.pass.ensures.now)
