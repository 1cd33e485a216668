use Rattle.std.proofs.Common.{ap, ◌∙◌, subst}
use Rattle.scad_value.specs.Datum.{Datum}
use Rattle.scad_value.specs.View.{datum_of}
use Rattle.scad_machine.specs.Answers.{Does}
use Rattle.scad_machine.specs.Machine.{state_of}
use Rattle.scad_machine.specs.State.{Outcome, make}
use Rattle.scad_operations.proofs.Lists.{vector-data}
use Rattle.scad_operations.proofs.construction.vector.Goals as goal

pub returns-clause-does : goal.returns-clause-does
returns-clause-does c =
    subst (λ (o : Outcome Datum). Does datum_of o c.make.result (state_of c.make.new.self))
    (ap (λ (d : Datum). make c.args.at d (state_of c.args.m.now)) (vector-data _ _ c.in_ok-value.ensures) ∙
    c.in_ok-all.ensures.alike c.args.at (state_of c.args.m.now))
    c.make.ensures.does
