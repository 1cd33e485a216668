use Rattle.scad_parse.specs.ReadingStatements.{below_statements, statement_rules_at}
use Rattle.scad_parse.proofs.rules.Statements.{no_statements, more_statements}
use Rattle.scad_parse.proofs.rules.Steps.{round_opens, round_stops}
use Rattle.scad_parse.proofs.definition.round_parameters.Goals as goal

pub returns-in_default : goal.returns-in_default
returns-in_default c =
    round_stops below_statements statement_rules_at no_statements more_statements
    (λ e r us. r.params_closed us) c.needs.ensures c.in_default.is c.open.ensures.opens

pub returns : goal.returns
returns c =
    round_opens below_statements statement_rules_at no_statements more_statements
    (λ e r us. r.params_closed us) c.needs.ensures c.in-Some.is c.open.ensures.opens
    c.parameters.ensures
