use Rattle.std.proofs.lemmas.List.Elements.{All-more}
use Rattle.plan_verify.specs.Trial.{IsApart, ComesNear}
use Rattle.plan_verify.proofs.Searches.{any_item, all_taken}
use Rattle.plan_verify.proofs.trial.Trial.is_clear_of.Goals as goal

pub sides-preserved : goal.sides-preserved
sides-preserved c = All-more (IsApart c.args.self.now) c.args.sides.now c.sides.side-index _ c.sides-test.true
    c.sides.invariant (c.is_near.ensures.apart c.if-is_near.false)

pub returns-then-is_near-clause-near : goal.returns-then-is_near-clause-near
returns-then-is_near-clause-near c = λ _. any_item (ComesNear c.args.self.now) c.args.sides.now c.sides.side-index _
    c.sides-test.true (c.is_near.ensures.near c.if-is_near.true)

pub returns-clause-clear : goal.returns-clause-clear
returns-clause-clear c = λ _. all_taken (IsApart c.args.self.now) c.args.sides.now c.sides.side-index
    c.sides-test.false
    c.sides.invariant
