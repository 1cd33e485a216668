-- A parameter that isn't given goes behind those before it, and at the end all are there.
use Rattle.std.proofs.Common.{◌≡◌, ℕ, ◌+◌, ◌<◌, ◌++◌, ◌∷◌, [], not, Bool, true, false, List, map, length, get_or}
use Rattle.std.proofs.Common.{drop, if◌then◌else◌, sym, ap, ◌∙◌}
use Rattle.std.proofs.lemmas.List.{append-nil, append_assoc, map-append}
use Rattle.std.specs.Borrow.{Bor}
use Rattle.scad_ast.specs.declared.statement.Param.{Param}
use Rattle.scad_ast.specs.Scope.{parameter}
use Rattle.scad_ast.specs.Tree.{Parameter}
use Rattle.scad_scope.specs.Names.{Names}
use Rattle.scad_machine.specs.Arguments.{is_given}
use Rattle.scad_machine.specs.Parameters.{missing}
use Rattle.scad_machine.specs.View.{values_in}
use Rattle.scad_machine.proofs.Giving.{parameters-drop, parameters-drop_all}
use Rattle.scad_machine.proofs.parameters.missing.Goals as goal
use Rattle.scad_machine.proofs.parameters.missing.Goals.{then-not-has+in_ok-push, else-not-has}

abbrev shown : List (Bor Param) → List Parameter
shown all = map (λ p. parameter p.now) all

module _ (given : Names) (all : List Param) (i : ℕ) where
  abbrev left : ℕ → List Parameter
  left n = missing given (map parameter (drop n all))

  next : (b : Bool) (p : Param) → i < length all → p ≡ get_or all i p → is_given p.name given ≡ b
      → left i ≡ (if not b then parameter p ∷ left (i + 1) else left (i + 1))
  next b p below is e =
      ap (missing given) (parameters-drop all i p below is)
      ∙ ap (λ c. if not c then parameter p ∷ left (i + 1) else left (i + 1)) e

  one-more : (before later : List (Bor Param)) (b : Bor Param) (target : List Parameter) → later ≡ before ++ b ∷ []
      → i < length all → b.now ≡ get_or all i b.now → is_given b.now.name given ≡ false
      → shown before ++ left i ≡ target → shown later ++ left (i + 1) ≡ target
  one-more before later b target grown below is none so_far =
      ap (λ l. shown l ++ left (i + 1)) grown
      ∙ ap (λ l. l ++ left (i + 1)) (map-append (λ (p : Bor Param). parameter p.now) before (b ∷ []))
      ∙ append_assoc (shown before) (parameter b.now ∷ []) (left (i + 1))
      ∙ ap (λ l. shown before ++ l) (sym (next false b.now below is none))
      ∙ so_far

pub parameters-preserved : goal.parameters-preserved
parameters-preserved c =
    let given = values_in c.args.got.now in
    let all = c.args.params.now in
    let p = c.p-item.result in
    let has = sym (ap (λ n. is_given n given) c.as_slice.ensures) ∙ sym c.has.ensures in
    elim c.if-not-has.branch [
      | then-not-has+in_ok-push w ↦
          rw w.all-is (one-more given all c.parameters.p-index c.parameters.all.items _ _ _ w.in_ok-push.ensures.items
          c.parameters-test.true c.p-item.is (has ∙ w.if-not-has.true) c.parameters.invariant)
      | else-not-has w ↦
          rw w.all-is (ap (λ l. shown c.parameters.all.items ++ l) (sym (next given all c.parameters.p-index true p
          c.parameters-test.true c.p-item.is (has ∙ w.if-not-has.false))) ∙ c.parameters.invariant)
    ]

pub returns : goal.returns
returns c =
    let given = values_in c.args.got.now in
    sym (append-nil (shown c.parameters.all.items))
    ∙ ap (λ l. shown c.parameters.all.items ++ l) (sym (ap (missing given)
    (parameters-drop_all c.args.params.now c.parameters.p-index c.parameters-test.false)))
    ∙ c.parameters.invariant
