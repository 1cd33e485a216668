use Rattle.std.proofs.Common.{arith}
use Rattle.scad_geom.specs.Limits.{coordinate_limit}
use Rattle.scad_geom.specs.Within.{IsEdgeWithin}
use Rattle.plan_verify.specs.Trial.{IsApart, ComesNear}
use Rattle.plan_verify.proofs.Indexes.{first_boxed, second_boxed, all_first, all_second, fewer_first, fewer_second}
use Rattle.plan_verify.proofs.Indexes.{all_both, any_in_first, any_in_second}
use Rattle.plan_verify.proofs.Searches.{all_apart}
use Rattle.plan_verify.proofs.index.+is_clear.Goals as goal

pub returns-then-is_beyond-clause-clear : goal.returns-then-is_beyond-clause-clear
returns-then-is_beyond-clause-clear t c = λ _. all_apart c.args.tree.now c.args.trial.now c.extent_in.result
    c.is_beyond.result c.requires.boxed c.requires.trial c.extent_in.ensures c.is_beyond.ensures c.if-is_beyond.true

pub is_clear-requires : goal.is_clear-requires
is_clear-requires t c =
    let m = c.in-Many in
    let tree = c.args.tree.now in
    let first = c.deref-in-Many.result.now in
    let same = c.deref-in-Many.ensures in
    let lower = fewer_first tree first m.field-0 m.first m.second m.is same in (
      omega (arith, c.decreases, lower),
      (
        first_boxed tree first m.field-0 m.first m.second m.is same c.requires.boxed,
        (
          all_first (IsEdgeWithin coordinate_limit) tree first m.field-0 m.first m.second m.is same c.requires.sides,
          c.requires.trial,
        ),
      ),
    )

pub is_clear-requires-then-is_clear : goal.is_clear-requires-then-is_clear
is_clear-requires-then-is_clear t c =
    let m = c.in-Many in
    let tree = c.args.tree.now in
    let second = c.deref-then-is_clear.result.now in
    let same = c.deref-then-is_clear.ensures in
    let lower = fewer_second tree second m.field-0 m.first m.second m.is same in (
      omega (arith, c.decreases, lower),
      (
        second_boxed tree second m.field-0 m.first m.second m.is same c.requires.boxed,
        (
          all_second (IsEdgeWithin coordinate_limit) tree second m.field-0 m.first m.second m.is same c.requires.sides,
          c.requires.trial,
        ),
      ),
    )

pub returns-then-is_clear-clause-clear : goal.returns-then-is_clear-clause-clear
returns-then-is_clear-clause-clear t c = λ e.
    let m = c.in-Many in
    all_both (IsApart c.args.trial.now) c.args.tree.now c.deref-in-Many.result.now c.deref-then-is_clear.result.now
    m.field-0 m.first m.second m.is c.deref-in-Many.ensures c.deref-then-is_clear.ensures
    (c.is_clear.ensures.clear c.if-is_clear.true) (c.is_clear-then-is_clear.ensures.clear e)

pub returns-then-is_clear-clause-near : goal.returns-then-is_clear-clause-near
returns-then-is_clear-clause-near t c = λ e.
    let m = c.in-Many in
    any_in_second (ComesNear c.args.trial.now) c.args.tree.now c.deref-then-is_clear.result.now m.field-0 m.first
    m.second
    m.is c.deref-then-is_clear.ensures (c.is_clear-then-is_clear.ensures.near e)

pub returns-else-is_clear-clause-near : goal.returns-else-is_clear-clause-near
returns-else-is_clear-clause-near t c = λ _.
    let m = c.in-Many in
    any_in_first (ComesNear c.args.trial.now) c.args.tree.now c.deref-in-Many.result.now m.field-0 m.first m.second m.is
    c.deref-in-Many.ensures (c.is_clear.ensures.near c.if-is_clear.false)
