-- A statement is at work, and what comes behind it waits; what isn't a statement is passed over.
use Rattle.std.proofs.Common.{ap, sym, ◌∙◌}
use Rattle.scad_members.specs.declared.work.Frame.TheVariants.{Member}
use Rattle.scad_members.specs.Stack.{rest, made_in, onto, goes_on}
use Rattle.scad_members.proofs.Onward.{item-runs, item-passes}
use Rattle.scad_members.proofs.scope_members.member.Goals as goal

pub returns-then-not-is_statement-clause-goes : goal.returns-then-not-is_statement-clause-goes
returns-then-not-is_statement-clause-goes c = λ h s o is.
    is ∙ item-passes h c.args.stack.now.stands c.args.item.now c.args.behind (rest c.args.stack.now)
    (made_in c.args.stack.now) s (sym c.is_statement.ensures ∙ c.if-not-is_statement.true)

pub returns-clause-goes : goal.returns-clause-goes
unfolding goes_on
returns-clause-goes c = λ h s o is.
    is ∙ item-runs h c.args.stack.now.stands c.args.item.now c.args.behind (rest c.args.stack.now)
    (made_in c.args.stack.now) s c.is_marked.result (rest c.push-2.new.self) (made_in c.push-2.new.self)
    c.push-2.new.self.stands
    (sym c.is_statement.ensures ∙ c.if-not-is_statement.false) c.is_marked.ensures
    (c.in_ok-push-2.ensures.rest ∙ ap (onto (Member c.is_marked.result)) c.in_ok-push.ensures.rest)
    (c.in_ok-push-2.ensures.made ∙ c.in_ok-push.ensures.made)
    (c.in_ok-push-2.ensures.stands ∙ c.in_ok-push.ensures.stands)
