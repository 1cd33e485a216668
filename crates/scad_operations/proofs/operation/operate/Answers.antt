-- What an operation gives, by its kind.
use Rattle.std.proofs.Common.{Bool, sym, ap, ◌∙◌}
use Rattle.scad_value.specs.Datum.{Datum, boolean}
use Rattle.scad_value.specs.View.{datum_of}
use Rattle.scad_machine.specs.Machine.{held, state_of}
use Rattle.scad_machine.specs.State.{Outcome, gives}
use Rattle.scad_operations.specs.declared.operation.Operation.{Operation}
use Rattle.scad_operations.specs.Operation.{operates}
use Rattle.scad_operations.proofs.operation.operate.Goals as goal

pub returns-in-Ends-clause-does : goal.returns-in-Ends-clause-does
unfolding operates
returns-in-Ends-clause-does c =
    let h = held c.args.m.now in
    let s = state_of c.args.m.now in
    let given : Operation → Outcome Datum = λ (o : Operation). operates o h (datum_of c.args.v) s in
    ap given c.in-Ends.is ∙ ap (λ (d : Datum). gives d s) (sym c.range_by_one.ensures)

pub returns-in-Stepped-clause-does : goal.returns-in-Stepped-clause-does
unfolding operates
returns-in-Stepped-clause-does c =
    rw c.in-Stepped.is (rw c.deref.ensures at (c.range.ensures (state_of c.args.m.now)))

pub returns-in-Unary-clause-does : goal.returns-in-Unary-clause-does
unfolding operates
returns-in-Unary-clause-does c = rw c.in-Unary.is c.unary_at.ensures.does

pub returns-in-Truth-clause-does : goal.returns-in-Truth-clause-does
unfolding operates
returns-in-Truth-clause-does c =
    let h = held c.args.m.now in
    let s = state_of c.args.m.now in
    let given : Operation → Outcome Datum = λ (o : Operation). operates o h (datum_of c.args.v) s in
    ap given c.in-Truth.is ∙ ap (λ (b : Bool). gives (boolean b) s) (sym c.truth.ensures)
