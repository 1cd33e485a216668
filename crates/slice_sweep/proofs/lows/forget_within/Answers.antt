-- One block after another is forgotten.
use Rattle.std.proofs.Common.{◌+◌, ◌/◌, arith}
use Rattle.slice_sweep.specs.Lows.{block}
use Rattle.slice_sweep.proofs.Blocks.{none_forgotten, forgotten_more, forgotten_all, forgotten_low}
use Rattle.slice_sweep.proofs.lows.forget_within.Goals as goal

pub row-init : goal.row-init
row-init c = none_forgotten (c.args.from / block) c.args.lows.now.items

pub row-preserved : goal.row-preserved
row-preserved c =
    forgotten_more (c.args.from / block) c.row.b c.args.lows.now.items c.row.lows.items c.forget_block.new.lows.items
    c.forget_block.ensures.size c.forget_block.ensures.block c.forget_block.ensures.others c.row.invariant

pub returns : goal.returns
returns c =
    forgotten_low c.args.lows.now.items c.row.lows.items c.args.from c.args.to
    (forgotten_all (c.args.from / block) c.row.b (c.args.to / block + 1) c.args.lows.now.items c.row.lows.items
    (omega (arith, c.row-test.false)) c.row.invariant)
