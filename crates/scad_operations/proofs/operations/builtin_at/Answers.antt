use Rattle.scad_machine.specs.Machine.{state_of}
use Rattle.scad_operations.proofs.InPlace.{refused}
use Rattle.scad_operations.proofs.operations.builtin_at.Goals as goal

pub returns-in-Err-clause-does : goal.returns-in-Err-clause-does
returns-in-Err-clause-does c =
    λ some. refused c.args.at c.args.name.now _ c.in-Err.e c.refusal.result (state_of c.args.m.now)
    c.in-Err.ensures.err
    c.refusal.ensures.told c.refusal.ensures.memory some
