use Rattle.std.proofs.Common.{◌≡◌, ◌++◌, drop}
use Rattle.slice_border.specs.Pieces.{slab_pieces}
use Rattle.slice_bool.proofs.slab.push_slab_pieces.Given as goal

abbrev pub invariant-bundles : goal.invariant-bundles
invariant-bundles l = l.out.items ++ slab_pieces l.sweep.edges.now l.sweep.shape.now l.slab.lower.now l.slab.upper.now
    (drop l.i l.slab.side.now.bundles.items) ≡ l.fn.out.items
    ++ slab_pieces l.sweep.edges.now l.sweep.shape.now l.slab.lower.now l.slab.upper.now l.slab.side.now.bundles.items
