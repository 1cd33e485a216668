-- Both stand ready for the next level, which is above the one where they stood.
use Rattle.std.proofs.Common.{◌≡◌, ℕ, ◌+◌, ◌-◌, ◌<◌, length, pos, arith, subst}
use Rattle.scad_geom.specs.declared.level.Level.{Level}
use Rattle.scad_geom.proofs.Heights.{lower_weak}
use Rattle.slice_slab.specs.Active.{IsReadyFor as IsActiveFor}
use Rattle.slice_sweep.specs.Front.{IsReadyFor}
use Rattle.slice_border.specs.Levels.{level_at}
use Rattle.slice_border.proofs.Neighbours.{neighbours_at}
use Rattle.outline_samples.proofs.random_fronts.number_of_slabs.Goals as goal

pub levels-preserved : goal.levels-preserved
levels-preserved c =
    let es = c.args.edges.now in
    let ls = c.args.levels.now in
    let i : ℕ = c.levels.i in
    let none : Level = record { n = pos 0; d = pos 0 } in
    let from = c.levels.auto.i in
    let there : i - 1 + 1 < length ls = omega (arith, c.levels-test.true, from) in
    let next : i - 1 + 1 ≡ i + 1 - 1 = omega (arith, from) in
    let n = neighbours_at es ls (i - 1) none none there c.requires.levels in
    record {
      front = subst (λ (j : ℕ). IsReadyFor es (level_at ls j) c.number_of_slab.new.front) next c.in_ok-slab.ensures.front;
      active = subst (λ (j : ℕ). IsActiveFor es (level_at ls j) c.number_of_slab.new.active) next
          (c.in_ok-slab.ensures.active (level_at ls (i - 1 + 1)) n.upper_divisor
          (lower_weak (level_at ls (i - 1)) (level_at ls (i - 1 + 1)) n.in_order));
    }

pub levels-init : goal.levels-init
levels-init c = record {
  front = c.in_ok-front.ensures.ready (level_at c.args.levels.now 0);
  active = c.in_ok-active.ensures (level_at c.args.levels.now 0);
}
