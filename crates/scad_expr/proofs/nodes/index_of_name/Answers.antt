-- The name passes, and its index is sought while the name waits.
use Rattle.std.proofs.Common.{◌≡◌, ℕ, List, sym, ap, ◌∙◌}
use Rattle.std.proofs.lemmas.Result.{err_from_is_err_and}
use Rattle.std.specs.Borrow.{Bor}
use Rattle.scad_fault.specs.declared.place.Place.{Place}
use Rattle.scad_ast.specs.Tree.{Expression, name, index}
use Rattle.scad_ast.specs.View.{expression_of}
use Rattle.scad_value.specs.Datum.{Datum}
use Rattle.scad_value.specs.Index.{indexed}
use Rattle.scad_machine.specs.Machine.{Held, held, env_in, along_in, state_of}
use Rattle.scad_machine.specs.State.{State, Outcome, Action, pure, and_then}
use Rattle.scad_machine.specs.Variables.{variable}
use Rattle.scad_operations.specs.declared.operation.Operation.TheVariants.{IndexedName}
use Rattle.scad_operations.specs.Operation.{operates}
use Rattle.scad_stack.specs.declared.frame.Frame.TheVariants.{Operation as OperationFrame}
use Rattle.scad_stack.specs.Meaning.{meaning, node, value}
use Rattle.scad_stack.specs.Stack.{Rest, onto, rest, made_in}
use Rattle.scad_stack.proofs.Loops.{twice}
use Rattle.scad_expr.proofs.nodes.index_of_name.Goals as goal

module _ (depth : ℕ) (at of : Place) (word : Bor (List ℕ)) (i : Expression) (k : Rest) (h : Held)
    (made : List Datum) (s : State) where
  -- the index of what is there
  abbrev next : Datum → Action Datum
  next d t = and_then (value depth (env_in h) (along_in h) i t) (λ e. pure (indexed d e))

  begins : (r : Outcome Datum) → value depth (env_in h) (along_in h) (name of word.now) s ≡ r
      → and_then (node (meaning depth) (env_in h) (along_in h) (index at (name of word.now) i) s) (k h made)
      ≡ and_then (and_then r next) (k h made)
  unfolding node
  begins r is = ap (λ o. and_then (and_then o next) (k h made)) is

  goes_on : (held_then : Held) (t : State) → held_then ≡ h
      → and_then (next (variable word.now (env_in h) (along_in h)) t) (k h made)
      ≡ and_then (value depth (env_in held_then) (along_in held_then) i t)
      (onto (OperationFrame (IndexedName word)) k held_then made)
  unfolding onto operates
  goes_on held_then t kept =
      twice (value depth (env_in h) (along_in h) i t)
      (λ e. pure (indexed (variable word.now (env_in h) (along_in h)) e)) (k h made)
      ∙ ap (λ x. and_then (value depth (env_in x) (along_in x) i t) (onto (OperationFrame (IndexedName word)) k x made))
      (sym kept)

pub returns-in_err-pass_name-clause-goes : goal.returns-in_err-pass_name-clause-goes
returns-in_err-pass_name-clause-goes c =
    let p = err_from_is_err_and c.from_residual.result c.from_residual.ensures.1 in
    rw (p.1, p.2) (λ o is some. is ∙ begins c.args.depth c.args._at c.args.of.at c.args.of.word
    (expression_of c.args.i.now) (rest c.args.stack.now) (held c.args.m.now) (made_in c.args.stack.now)
    (state_of c.args.m.now) _ (c.in_err-pass_name.ensures.does some))

pub returns-clause-goes : goal.returns-clause-goes
returns-clause-goes c = λ o is.
    let h = held c.args.m.now in
    let k = rest c.args.stack.now in
    let made = made_in c.args.stack.now in
    let t = state_of c.pass_name.new.m in
    let i = expression_of c.args.i.now in
    c.wait.ensures.goes (held c.pass_name.new.m) t o
    (is ∙ begins c.args.depth c.args._at c.args.of.at c.args.of.word i k h made (state_of c.args.m.now) _
    c.in_ok-pass_name.ensures.does
    ∙ goes_on c.args.depth c.args._at c.args.of.at c.args.of.word i k h made (state_of c.args.m.now)
    (held c.pass_name.new.m) t c.in_ok-pass_name.ensures.kept)
