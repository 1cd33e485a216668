-- The next level is above the one where the edges stand.
use Rattle.std.proofs.Common.{◌+◌, ℕ, pos, sym, subst, false}
use Rattle.scad_geom.specs.declared.level.Level.{Level}
use Rattle.scad_geom.proofs.Heights.{lower_weak}
use Rattle.slice_border.specs.Levels.{level_at}
use Rattle.slice_bool.proofs.Climbing.{Goes, starts, goes_on, ends}
use Rattle.slice_border.proofs.Neighbours.{neighbours_at}
use Rattle.slice_bool.proofs.BothSides.{nothing_side}
use Rattle.slice_border.proofs.Telling.{tell_first}
use Rattle.slice_bool.proofs.border.all_pieces.Goals as goal

pub levels-init : goal.levels-init
levels-init c =
    let es = c.args.edges.now in
    let shape = c.args.shape.now in
    let ls = c.args.levels.now in
    let none : Level = record { n = pos 0; d = pos 0 } in
    record {
      pieces = subst (Goes es shape ls ls) (sym c.new-out.ensures.items) (starts es shape ls);
      active = λ h. c.in_ok-new.ensures (level_at ls 0);
      tally = c.in_ok-new-2.ensures;
      below = λ h. nothing_side false es shape (level_at ls 0) _ c.in_ok-nothing_beside.ensures.bundles
          c.in_ok-nothing_beside.ensures.values (tell_first es shape ls none c.requires.levels h);
    }

pub levels-preserved : goal.levels-preserved
levels-preserved c =
    let es = c.args.edges.now in
    let ls = c.args.levels.now in
    let i : ℕ = c.levels.i in
    let none : Level = record { n = pos 0; d = pos 0 } in
    record {
      pieces = goes_on es c.args.shape.now ls i c.levels.out.items c.push_level.new.out.items c.levels-test.true
          c.levels.invariant.pieces c.in_ok-push_level.ensures.pieces;
      active = λ h.
          let n = neighbours_at es ls i none none h c.requires.levels in
          c.in_ok-push_level.ensures.active (level_at ls (i + 1)) n.upper_divisor
          (lower_weak (level_at ls i) (level_at ls (i + 1)) n.in_order);
      tally = c.in_ok-push_level.ensures.tally;
      below = c.in_ok-push_level.ensures.below;
    }

pub returns : goal.returns
returns c = ends c.args.edges.now c.args.shape.now c.args.levels.now c.levels.i c.levels.out.items c.levels-test.false
    c.levels.invariant.pieces

pub invariant_of-sweep : goal.invariant_of-sweep
invariant_of-sweep c = record { within = c.requires.edges; few = c.requires.few }

pub push_level-requires-clause-within : goal.push_level-requires-clause-within
push_level-requires-clause-within c = c.requires.within

pub push_level-requires-clause-levels : goal.push_level-requires-clause-levels
push_level-requires-clause-levels c = c.requires.levels

pub push_level-requires-clause-there : goal.push_level-requires-clause-there
push_level-requires-clause-there c = c.levels-test.true

pub push_level-requires-clause-active : goal.push_level-requires-clause-active
push_level-requires-clause-active c = c.levels.invariant.active c.levels-test.true

pub push_level-requires-clause-tally : goal.push_level-requires-clause-tally
push_level-requires-clause-tally c = c.levels.invariant.tally

pub push_level-requires-clause-below : goal.push_level-requires-clause-below
push_level-requires-clause-below c = c.levels.invariant.below c.levels-test.true
