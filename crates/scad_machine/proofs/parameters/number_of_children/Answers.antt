-- Each statement counts once.
use Rattle.std.proofs.Common.{◌≡◌, ℕ, ◌+◌, ◌<◌, Bool, true, false, List, length, get_or, drop, if◌then◌else◌, sym, ap, ◌∙◌, arith}
use Rattle.scad_ast.specs.declared.statement.Item.{Item}
use Rattle.scad_ast.specs.Scope.{item_of, items}
use Rattle.scad_machine.specs.Arguments.{is_statement, statements}
use Rattle.scad_machine.proofs.Giving.{statements-next}
use Rattle.scad_machine.proofs.parameters.number_of_children.Goals as goal
use Rattle.scad_machine.proofs.parameters.number_of_children.Goals.{then-is_statement, else-is_statement}

counts : (b : Bool) (there all : List Item) (i : ℕ) (v : Item) → there ≡ all → i < length there
    → v ≡ get_or there i v → is_statement (item_of v) ≡ b
    → statements (items (drop i all)) ≡ (if b then 1 else 0) + statements (items (drop (i + 1) all))
counts b there all i v are below is e =
    ap (λ xs. statements (items (drop i xs))) (sym are)
    ∙ statements-next there i v below is
    ∙ ap (λ xs. (if is_statement (item_of v) then 1 else 0) + statements (items (drop (i + 1) xs))) are
    ∙ ap (λ c. (if c then 1 else 0) + statements (items (drop (i + 1) all))) e

pub items-preserved : goal.items-preserved
items-preserved c =
    let all = c.args.all.now.items in
    let i = c.items.item-index in
    elim c.if-is_statement.branch [
      | then-is_statement w ↦
          let next : statements (items (drop i all)) ≡ 1 + statements (items (drop (i + 1) all)) =
          counts true _ all i c.item-item.result c.deref-item-items.ensures.value c.items-test.true c.item-item.is
          (sym c.is_statement.ensures ∙ w.if-is_statement.true) in
          (omega (arith, next, c.items.invariant, w.count-is), omega (arith, c.items.invariant, w.count-is))
      | else-is_statement w ↦
          let next : statements (items (drop i all)) ≡ 0 + statements (items (drop (i + 1) all)) =
          counts false _ all i c.item-item.result c.deref-item-items.ensures.value c.items-test.true c.item-item.is
          (sym c.is_statement.ensures ∙ w.if-is_statement.false) in
          (omega (arith, next, c.items.invariant, w.count-is), omega (arith, c.items.invariant, w.count-is))
    ]
