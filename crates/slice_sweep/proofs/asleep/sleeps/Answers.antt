-- A height below the low of a block lies below the keys of its strands.
use Rattle.std.proofs.Common.{◌/◌, ◌⊎◌, ℤ, sym, subst}
use lib.Signed.{◌≤ℤ◌}
use mir.Syntax.{w64}
use Rattle.std.proofs.lemmas.Int.{to_z-of_z}
use Rattle.slice_sweep.specs.Keys.{stale, IsBelowKey}
use Rattle.slice_sweep.specs.Strands.{strand_at}
use Rattle.slice_sweep.specs.Lows.{block}
use Rattle.slice_sweep.proofs.Blocks.{low_sleeps}
use Rattle.slice_sweep.proofs.asleep.sleeps.Goals as goal

pub returns-then-b-lows : goal.returns-then-b-lows
returns-then-b-lows c asleep i e o =
    let s = c.args.step.now in
    low_sleeps s.lower.now s.lower_within c.low_at.result (strand_at c.args.strands.now i).wake
    (subst (λ (low : ℤ). (low ≤ℤ stale) ⊎ (low ≤ℤ (strand_at c.args.strands.now i).wake)) (sym c.low_at.ensures)
    (c.requires.low (c.args.place / block) c.if-b-lows.true i e o))
    (subst (IsBelowKey s.lower.now) (to_z-of_z w64 c.low_at.result (record { sfits = c.low_at.type_inv }))
    (c.is_later.ensures asleep))
