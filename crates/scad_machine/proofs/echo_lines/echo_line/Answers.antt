-- The text of the next argument with its value goes behind those before it, and at the end all are there.
use Rattle.std.proofs.Common.{◌≡◌, ℕ, ◌+◌, ◌++◌, Bool, false, List, [], drop, eqb, codes, refl, ap, ap₂, sym, ◌∙◌, arith}
use Rattle.std.proofs.lemmas.Bool.Decides.{nat_tests}
use Rattle.std.proofs.lemmas.List.{append-nil}
use Rattle.scad_ast.proofs.Pieces.{four}
use Rattle.scad_ast.specs.Tree.{Arguments, no_arguments, argument}
use Rattle.scad_ast.specs.View.{arguments}
use Rattle.scad_value.proofs.Lists.{arguments-drop, arguments-drop_all, data-drop, data-drop_all}
use Rattle.scad_value.specs.Texts.{text, comma}
use Rattle.scad_value.specs.View.{datum_of, data_of}
use Rattle.scad_machine.specs.EchoLines.{joined, label, echo_line}
use Rattle.scad_machine.proofs.echo_lines.echo_line.Goals as goal

next_is_not_first : (i : ℕ) → eqb (i + 1) 0 ≡ false
next_is_not_first i = grind (arith, nat_tests)

pub arguments-preserved : goal.arguments-preserved
arguments-preserved c =
    let args = c.args.args.now in
    let values = c.args.values.now in
    let i = c.arguments.i in
    let n = c.arguments.arg-index in
    let arg = c.arg-item.result in
    let value = c.index-values-i.result in
    let line = c.arguments.line.items in (
      omega arith,
      rw (next_is_not_first i) (four line (comma (eqb i 0)) (label arg.name) (text (datum_of value))
          (joined false (arguments (drop (n + 1) args)) (data_of (drop (i + 1) values)))
          c.in_ok-push_comma.ensures c.in_ok-push_label.ensures c.in_ok-push_text.ensures.ok refl
          ∙ sym (ap (λ t. line ++ t) (ap₂ (joined (eqb i 0))
          (arguments-drop args n arg c.arguments-test.true c.arg-item.is)
          (data-drop values i value c.if-i-values.false c.index-values-i.is))) ∙ c.arguments.invariant.1),
    )

no_values : (first : Bool) (args : Arguments) → joined first args [] ≡ []
no_values first no_arguments = refl
no_values first (argument word e more) = refl

-- nothing is left
all-there : (line rest all : List ℕ) → rest ≡ [] → line ++ rest ≡ all → line ≡ all
all-there line rest all none so_far = sym (append-nil line) ∙ ap (λ t. line ++ t) (sym none) ∙ so_far

pub arguments-init : goal.arguments-init
unfolding echo_line
arguments-init c = (
  refl,
  ap (λ t. t ++ joined (eqb 0 0) (arguments c.args.args.now) (data_of c.args.values.now))
      (c.in_ok-push_bytes.ensures ∙ ap (λ (t : List ℕ). t ++ codes "ECHO: ") c.new-line.ensures.items),
)

pub returns-then-i-values : goal.returns-then-i-values
returns-then-i-values c =
    let rest = arguments (drop c.arguments.arg-index c.args.args.now) in
    all-there c.arguments.line.items _ _
    (ap (joined (eqb c.arguments.i 0) rest) (data-drop_all c.args.values.now c.arguments.i c.if-i-values.true)
    ∙ no_values (eqb c.arguments.i 0) rest) c.arguments.invariant.1

pub returns : goal.returns
returns c =
    all-there c.arguments.line.items _ _
    (ap (λ args. joined (eqb c.arguments.i 0) args (data_of (drop c.arguments.i c.args.values.now)))
    (arguments-drop_all c.args.args.now c.arguments.arg-index c.arguments-test.false)) c.arguments.invariant.1
