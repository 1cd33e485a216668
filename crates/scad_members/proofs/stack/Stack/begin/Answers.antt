-- What waited before is under the operation, and the frames of the machine are left first.
use Rattle.std.proofs.Common.{Result, Ok, Err, OnOk, ap, ◌∙◌}
use Rattle.scad_members.specs.declared.work.Frame.TheVariants.{Combine, Leave}
use Rattle.scad_members.specs.Stack.{onto}
use Rattle.scad_members.proofs.stack.Stack.begin.Goals as goal

on_ok : {A E P Q : Type 0} (r : Result A E) → (P → Q) → OnOk r P → OnOk r Q
on_ok (Ok a) then_ is = then_ is
on_ok (Err e) then_ is = is

pub returns-clause-rest : goal.returns-clause-rest
returns-clause-rest c =
    on_ok c.push-2.result
    (λ is. (
      c.exchange-outer.result,
      c.exchange-outer.ensures.before,
      is ∙ ap (onto (Leave c.args.back))
          (c.in_ok-push.ensures.rest
          ∙ ap (onto (Combine c.args.operation c.args.at c.exchange-outer.result)) c.exchange-outer.ensures.rest),
    ))
    c.push-2.ensures.rest
