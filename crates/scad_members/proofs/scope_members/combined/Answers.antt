-- The frames of a scope are opened, and its items are at work; without items it gives nothing.
use Rattle.std.proofs.Common.{◌≡◌, ap, sym, ◌∙◌, arith, vec_len}
use Rattle.std.proofs.lemmas.Bool.{eqb-true}
use Rattle.scad_ast.specs.Scope.{items}
use Rattle.scad_scope.specs.Env.{Env}
use Rattle.scad_tree.specs.View.{solid_of}
use Rattle.scad_expr.specs.Machine.{held, along_in, state_of}
use Rattle.scad_members.specs.Frames.{below_of}
use Rattle.scad_members.specs.Meaning.{opened_scope}
use Rattle.scad_members.specs.Stack.{rest, made_in, goes_on}
use Rattle.scad_members.proofs.Onward.{scope-begins, scope-empty}
use Rattle.scad_members.proofs.scope_members.combined.Goals as goal

pub returns-then-is_empty : goal.returns-then-is_empty
unfolding goes_on
returns-then-is_empty c = λ o is.
    let none : vec_len c.args.scope.now ≡ 0 = eqb-true (vec_len c.args.scope.now) 0
    (sym c.is_empty.ensures ∙ c.if-is_empty.true) in
    is ∙ scope-empty c.args.operation c.args.at c.args.stack.now.stands c.args.scope (held c.args.m.now)
    (rest c.args.stack.now) (made_in c.args.stack.now) (solid_of c.empty.result) (state_of c.args.m.now)
    (omega (arith, none)) c.empty.ensures

pub returns : goal.returns
returns c = λ o is.
    let begins = c.in_ok-begin.ensures.rest in
    is ∙ scope-begins c.args.operation c.args.at c.args.stack.now.stands c.args.scope begins.0 c.in_ok-back.back
    c.begin.new.self.stands (held c.args.m.now) (held c.open_scope.new.m) (rest c.args.stack.now)
    (rest c.begin.new.self) (made_in c.args.stack.now) (made_in c.begin.new.self) (state_of c.args.m.now)
    (state_of c.open_scope.new.m)
    (ap (λ (e : Env). opened_scope (below_of (held c.args.m.now)) (items c.args.scope.now.items) e
    (along_in (held c.args.m.now)) (state_of c.args.m.now)) (sym c.here-home.ensures.env) ∙ c.in_ok-back.ensures.does)
    c.in_ok-back.ensures.back begins.1 begins.2 c.in_ok-begin.ensures.made c.in_ok-begin.ensures.stands
