-- The sweep is lifted from level to level, and ends with the last.
use Rattle.std.proofs.Common.{◌+◌, ◌-◌, ◌<◌, ℕ, length, drop, arith}
use Rattle.slice_outlines.proofs.LevelSteps.{some_by, no_levels, at_two, at_last, neighbours, climbed}
use Rattle.slice_outlines.proofs.outlining.merged_edges.Goals as goal

before : (i n : ℕ) → i < n → i - 1 < n
before i n h = omega arith

pub returns-then-is_empty : goal.returns-then-is_empty
returns-then-is_empty c =
    no_levels c.args.edges.now c.args.shape.now c.args.levels.now c.is_empty.result c.new.result.items
    c.requires.levels c.is_empty.ensures c.if-is_empty.true c.new.ensures.items

pub levels-init : goal.levels-init
levels-init c = c.in_ok-sweep.ensures c.args.levels.now c.requires.levels

pub advance-requires-clause-neighbours : goal.advance-requires-clause-neighbours
advance-requires-clause-neighbours c =
    neighbours c.args.edges.now c.args.shape.now c.args.levels.now c.requires.levels c.levels.i
    c.fit_cursors.new.self c.levels.auto.i c.levels-test.true

pub advance-requires-clause-swept : goal.advance-requires-clause-swept
advance-requires-clause-swept c =
    let ls = c.args.levels.now in
    record {
      shape = c.args.shape.now;
      levels = ls;
      later = drop (c.levels.i + 1) ls;
      are_levels = c.requires.levels;
      swept = at_two c.args.edges.now c.args.shape.now ls c.requires.levels c.levels.i c.fit_cursors.new.self
          c.levels.auto.i c.levels-test.true
          (c.in_ok-fit_cursors.ensures ls (drop (c.levels.i - 1) ls) c.levels.invariant);
    }

pub levels-preserved : goal.levels-preserved
levels-preserved c =
    let ls = c.args.levels.now in
    climbed c.args.edges.now c.args.shape.now ls c.requires.levels c.levels.i c.fit_cursors.new.self c.levels.auto.i
    c.advance.new.self c.levels-test.true
    (c.in_ok-advance.ensures (record {
      shape = c.args.shape.now;
      levels = ls;
      later = drop (c.levels.i + 1) ls;
      are_levels = c.requires.levels;
      swept = at_two c.args.edges.now c.args.shape.now ls c.requires.levels c.levels.i c.fit_cursors.new.self
          c.levels.auto.i c.levels-test.true
          (c.in_ok-fit_cursors.ensures ls (drop (c.levels.i - 1) ls) c.levels.invariant);
    }))

pub end-requires-clause-swept : goal.end-requires-clause-swept
end-requires-clause-swept c =
    let ls = c.args.levels.now in
    let some = some_by (length ls) c.is_empty.result c.is_empty.ensures c.if-is_empty.false in
    record {
      shape = c.args.shape.now;
      levels = ls;
      are_levels = c.requires.levels;
      swept = at_last c.args.edges.now c.args.shape.now ls c.requires.levels c.levels.i c.levels.sweep c.levels.auto.i
          c.levels-test.false (c.levels.auto.i-end some) c.levels.invariant;
    }

pub returns : goal.returns
returns c =
    let ls = c.args.levels.now in
    let some = some_by (length ls) c.is_empty.result c.is_empty.ensures c.if-is_empty.false in
    c.end.ensures (record {
      shape = c.args.shape.now;
      levels = ls;
      are_levels = c.requires.levels;
      swept = at_last c.args.edges.now c.args.shape.now ls c.requires.levels c.levels.i c.levels.sweep c.levels.auto.i
          c.levels-test.false (c.levels.auto.i-end some) c.levels.invariant;
    })

pub new-requires-2-clause-within : goal.new-requires-2-clause-within
new-requires-2-clause-within c = c.requires.within

pub new-requires-2-clause-few : goal.new-requires-2-clause-few
new-requires-2-clause-few c = c.requires.few

pub advance-requires-clause-within : goal.advance-requires-clause-within
advance-requires-clause-within c = c.requires.within

pub advance-requires-clause-few : goal.advance-requires-clause-few
advance-requires-clause-few c = c.requires.few

pub advance-requires-clause-balanced : goal.advance-requires-clause-balanced
advance-requires-clause-balanced c = c.requires.balanced

pub advance-requires-clause-upper : goal.advance-requires-clause-upper
advance-requires-clause-upper c = c.requires.levels_within c.levels.i _ c.levels-test.true

pub end-requires-clause-within : goal.end-requires-clause-within
end-requires-clause-within c = c.requires.within

pub end-requires-clause-few : goal.end-requires-clause-few
end-requires-clause-few c = c.requires.few

pub end-requires-clause-balanced : goal.end-requires-clause-balanced
end-requires-clause-balanced c = c.requires.balanced

pub advance-requires-clause-at : goal.advance-requires-clause-at
advance-requires-clause-at c = c.requires.levels_within (c.levels.i - 1) _
    (before c.levels.i (length c.args.levels.now) c.levels-test.true)
