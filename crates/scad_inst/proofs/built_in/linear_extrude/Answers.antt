-- The children of `linear_extrude`, or the fault of its height.
use Rattle.std.proofs.Common.{◌≡◌, ℤ, Bool, List, sym, ap, ◌∙◌}
use Rattle.std.proofs.lemmas.Result.{err_from_is_err_and}
use Rattle.scad_ast.specs.declared.expression.Arg.{Arg}
use Rattle.scad_ast.specs.Scope.{items}
use Rattle.scad_ast.specs.View.{arguments}
use Rattle.scad_value.specs.View.{data_of}
use Rattle.scad_modules.specs.Extrusions.{linear_by}
use Rattle.scad_modules.specs.Reading.{Read}
use Rattle.scad_tree.specs.Solid.{Solid}
use Rattle.scad_expr.specs.Machine.{held, env_in, along_in, state_of}
use Rattle.scad_expr.specs.State.{Outcome}
use Rattle.scad_leaves.specs.declared.operation.Operation.TheVariants.{Unite}
use Rattle.scad_leaves.specs.declared.space.Where.{Where}
use Rattle.scad_leaves.specs.Products.{argued}
use Rattle.scad_leaves.specs.Where.{inside_linear}
use Rattle.scad_members.specs.Frames.{below_of}
use Rattle.scad_members.specs.Meaning.{built_in, combined}
use Rattle.scad_members.specs.Stack.{onward}
use Rattle.scad_inst.proofs.Heights.{height-stops, height-goes}
use Rattle.scad_inst.proofs.built_in.linear_extrude.Goals as goal

pub returns : goal.returns
unfolding built_in
returns c =
    let s = state_of c.args.m.now in
    let said : c.linear_by.result ≡ linear_by (arguments c.args.call.args.now.items) (data_of c.args.found.now) =
    c.linear_by.ensures ∙ ap (λ (l : List Arg). linear_by (arguments l) (data_of c.args.found.now))
    c.deref.ensures.value in
    λ o is. c.placed.ensures o (is ∙ ap (λ (x : Outcome Solid). onward x c.args.stack.now c.args.m.now)
    (height-goes c.args.call.at c.args.stack.now.stands.space (argued c.args.call.at c.args.call.name.now
    (linear_by (arguments c.args.call.args.now.items) (data_of c.args.found.now)))
    (λ (h : ℤ × Bool). combined (below_of (held c.args.m.now)) Unite c.args.call.at
    (inside_linear c.args.stack.now.stands.whole h) (items c.args.call.all.now.items) (env_in (held c.args.m.now))
    (along_in (held c.args.m.now))) s (c.in_ok-judge_solid.ensures s) c.in_ok-height.height
    (ap (λ (r : Read (ℤ × Bool)). argued c.args.call.at c.args.call.name.now r s) (sym said)
    ∙ c.in_ok-height.ensures.argued s)
    ∙ ap (λ (w : Where). combined (below_of (held c.args.m.now)) Unite c.args.call.at w
    (items c.args.call.all.now.items) (env_in (held c.args.m.now)) (along_in (held c.args.m.now)) s)
    (sym c.inside_linear-inner.ensures)))

pub returns-in_err-height : goal.returns-in_err-height
unfolding built_in
returns-in_err-height c =
    let s = state_of c.args.m.now in
    let said : c.linear_by.result ≡ linear_by (arguments c.args.call.args.now.items) (data_of c.args.found.now) =
    c.linear_by.ensures ∙ ap (λ (l : List Arg). linear_by (arguments l) (data_of c.args.found.now))
    c.deref.ensures.value in
    let p = err_from_is_err_and c.from_residual-in_err-height.result c.from_residual-in_err-height.ensures.1 in
    λ o is. rw (p.1, p.2) (λ some. is ∙ ap (λ (x : Outcome Solid). onward x c.args.stack.now c.args.m.now)
    (height-stops c.args.call.at c.args.stack.now.stands.space (argued c.args.call.at c.args.call.name.now
    (linear_by (arguments c.args.call.args.now.items) (data_of c.args.found.now)))
    (λ (h : ℤ × Bool). combined (below_of (held c.args.m.now)) Unite c.args.call.at
    (inside_linear c.args.stack.now.stands.whole h) (items c.args.call.all.now.items) (env_in (held c.args.m.now))
    (along_in (held c.args.m.now))) s (c.in_ok-judge_solid.ensures s) _
    (ap (λ (r : Read (ℤ × Bool)). argued c.args.call.at c.args.call.name.now r s) (sym said)
    ∙ c.in_err-height.ensures.argued s some)))
