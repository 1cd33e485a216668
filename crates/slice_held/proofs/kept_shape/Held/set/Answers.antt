-- The cells but for the leaf's are as they were.
use Rattle.std.proofs.Common.{◌∙◌}
use Rattle.slice_held.proofs.Chains.{chained_by}
use Rattle.slice_held.proofs.Shown.{set_shown, some_stay}
use Rattle.slice_held.proofs.kept_shape.Held.set.Goals as goal

pub returns-clause-ready : goal.returns-clause-ready
returns-clause-ready c =
    let h = c.args.self.now in
    let news = c.set_leaf.new.cells.items in
    let e = c.set_leaf.ensures in
    record {
      some = some_stay h.cells.items news e.bare c.requires.ready.some;
      sound = e.sound;
      chained = chained_by h.cells.items news h.lasts.items h.earlier.items e.bare c.requires.ready.chained;
    }

pub returns-clause-shows : goal.returns-clause-shows
returns-clause-shows c shape inside shown =
    let e = c.set_leaf.ensures in
    record {
      cells = e.bare ∙ shown.cells;
      leaves = set_shown c.args.self.now.cells.items c.set_leaf.new.cells.items c.args.leaf c.args.inside inside
          e.bare e.set
          shown.leaves;
    }
