use Rattle.std.proofs.Common.{◌≡◌, ◌++◌, ◌∷◌, [], false, sym, ◌∙◌}
use Rattle.std.specs.Prelude.{is_err}
use Rattle.plan_support.proofs.Consecutive.{push_keeps, push_adds, from_ok, to_ok}
use Rattle.plan_support.proofs.lists.Lists.push.Goals as goal

pub invariant_of-self-else-is_err : goal.invariant_of-self-else-is_err
invariant_of-self-else-is_err c =
    let pushed = c.push_end-pushed in
    let fine : is_err pushed.result ≡ false = sym c.is_err.ensures.value ∙ c.if-is_err.false in
    let added : pushed.new.ends.items ≡ c.self.inside.ends.items ++ c.len.result ∷ [] =
    from_ok pushed.result _ fine pushed.ensures.ok in
    push_keeps c.self.inside.ends.items pushed.new.ends.items c.self.inside.runs.items
    c.extend_from_slice.new.self.items
    c.args.list.now c.len.result c.self.invariant c.in_ok-extend_from_slice.ensures.items
    (c.len.ensures ∙ c.extend_from_slice.new.self.ok.0) added

pub returns-else-is_err-clause-ok : goal.returns-else-is_err-clause-ok
returns-else-is_err-clause-ok c =
    let pushed = c.push_end-pushed in
    let fine : is_err pushed.result ≡ false = sym c.is_err.ensures.value ∙ c.if-is_err.false in
    let added : pushed.new.ends.items ≡ c.self.inside.ends.items ++ c.len.result ∷ [] =
    from_ok pushed.result _ fine pushed.ensures.ok in
    to_ok pushed.result _
    (push_adds c.self.inside.ends.items pushed.new.ends.items c.self.inside.runs.items
    c.extend_from_slice.new.self.items
    c.args.list.now c.len.result c.args.self.now c.self.invariant c.self.view_is c.in_ok-extend_from_slice.ensures.items
    (c.len.ensures ∙ c.extend_from_slice.new.self.ok.0) added)
