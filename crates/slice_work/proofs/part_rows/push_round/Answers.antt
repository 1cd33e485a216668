use Rattle.std.proofs.Common.{◌+◌, arith}
use Rattle.slice_work.specs.Script.{laid_out}
use Rattle.slice_work.specs.Survey.{AddsRows}
use Rattle.slice_work.proofs.LayerRows.{next_surveyed, rows_added}
use Rattle.slice_work.proofs.part_rows.push_round.Goals as goal

pub layers-preserved : goal.layers-preserved
layers-preserved c =
    let first = c.args.round.now.first in
    let layout = laid_out c.layout_of-layer.result in
    let old = c.layers.all.items in
    let new = c.push_rows.new.all.items in
    let adds : AddsRows layout.outlines c.args.spacing old new = c.in_ok-push_rows.ensures in
    record {
      rows = λ part drawn are.
          next_surveyed part c.args.spacing (first + c.layers.n) (first + (c.layers.n + 1)) layout old new (omega arith)
          (c.layout_of-layer.ensures.layout part drawn) adds (c.layers.invariant.rows part drawn are);
      each = rows_added layout.outlines c.args.spacing old new adds c.layers.invariant.each;
    }
