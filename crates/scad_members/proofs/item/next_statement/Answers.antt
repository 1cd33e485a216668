-- What isn't a statement is passed over.
use Rattle.std.proofs.Common.{refl, sym, ◌∙◌, arith}
use Rattle.scad_members.proofs.Onward.{item-skipped}
use Rattle.scad_members.proofs.item.next_statement.Goals as goal

pub items-init : goal.items-init
items-init c = λ below w env along so_far s. refl

pub items-preserved : goal.items-preserved
items-preserved c = λ below w env along so_far s.
    c.items.invariant below w env along so_far s
    ∙ item-skipped below w env along so_far s c.args.scope.now.items c.items.number c.index.result.now
    (omega (arith, c.items-test.true, c.len.ensures)) c.index.ensures (sym c.is_statement.ensures ∙ c.if-not-is_statement.true)
