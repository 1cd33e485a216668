-- The first argument takes the value where it has a name, and those behind it are left.
use Rattle.std.proofs.Common.{◌≡◌, ℕ, ◌<◌, List, length, get_or, drop, Some, None, sym, ap, ◌∙◌, arith}
use Rattle.std.proofs.lemmas.List.{take_rest}
use Rattle.std.proofs.lemmas.Result.{err_from_is_err_and}
use Rattle.scad_ast.specs.declared.expression.Arg.{Arg}
use Rattle.scad_ast.specs.Tree.{Arguments, argument}
use Rattle.scad_ast.specs.View.{expression_of, arguments}
use Rattle.scad_value.specs.Datum.{Datum}
use Rattle.scad_value.specs.View.{datum_of}
use Rattle.scad_value.proofs.Lists.{arguments-drop}
use Rattle.scad_machine.specs.Machine.{Held, held}
use Rattle.scad_machine.specs.OpenFrames.{set_in_last}
use Rattle.scad_stack.specs.Stack.{set_first}
use Rattle.scad_stack.proofs.StackTurns.{behind-drop}
use Rattle.scad_stack.proofs.name_bindings.set_first.Goals as goal
use Rattle.scad_stack.proofs.name_bindings.set_first.Goals.{in-Some+in_ok-set-in-Some, in-None}

first-is : (all : List Arg) (a : Arg) (d : Datum) (h : Held) → 0 < length all → a ≡ get_or all 0 a
    → set_first (argument a.name (expression_of a.value) (arguments (drop 1 all))) d h
    ≡ set_first (arguments all) d h
first-is all a d h there at = ap (λ (x : Arguments). set_first x d h) (sym (arguments-drop all 0 a there at))

first-named : (all : List Arg) (a : Arg) (name : List ℕ) (d : Datum) (h : Held) → 0 < length all
    → a ≡ get_or all 0 a → a.name ≡ Some name → set_in_last name d h ≡ set_first (arguments all) d h
unfolding set_first
first-named all a name d h there at is =
    ap (λ n. set_first (argument n (expression_of a.value) (arguments (drop 1 all))) d h) (sym is)
    ∙ first-is all a d h there at

first-unnamed : (all : List Arg) (a : Arg) (d : Datum) (h : Held) → 0 < length all
    → a ≡ get_or all 0 a → a.name ≡ None → h ≡ set_first (arguments all) d h
unfolding set_first
first-unnamed all a d h there at is =
    ap (λ n. set_first (argument n (expression_of a.value) (arguments (drop 1 all))) d h) (sym is)
    ∙ first-is all a d h there at

pub returns-clause-held : goal.returns-clause-held
returns-clause-held c =
    let all = c.args.args.now in
    let a = c.first-item.result in
    let d = datum_of c.args.v in
    let h = held c.args.m.now in
    let there : 0 < length all = omega (arith, c.in-len1-up.len_at_least) in
    elim c.match-first.branch [
      | in-Some+in_ok-set-in-Some w ↦
          ap held w.m-is ∙ w.in_ok-set-in-Some.ensures.held
          ∙ ap (λ (n : List ℕ). set_in_last n d h) w.as_slice.ensures
          ∙ first-named all a w.in-Some.name d h there c.first-item.is w.in-Some.is
      | in-None w ↦ ap held w.m-is ∙ first-unnamed all a d h there c.first-item.is w.in-None.is
    ]

pub returns-clause-more : goal.returns-clause-more
returns-clause-more c = ap arguments (take_rest c.args.args.now 1) ∙ sym (behind-drop 1 c.args.args.now)

pub returns-in_err-set-in-Some-clause-does : goal.returns-in_err-set-in-Some-clause-does
returns-in_err-set-in-Some-clause-does c =
    let p = err_from_is_err_and c.from_residual.result c.from_residual.ensures.1 in
    rw (p.1, p.2) c.in_err-set-in-Some.ensures.does

pub returns-in_err-set-in-Some-clause-held : goal.returns-in_err-set-in-Some-clause-held
returns-in_err-set-in-Some-clause-held c =
    let p = err_from_is_err_and c.from_residual.result c.from_residual.ensures.1 in
    rw p.1 tt
