-- The new cell is told to its operation, and found from its leaf.
use Rattle.std.proofs.Common.{rules, ◌≡◌, ◌+◌, length}
use Rattle.slice_held.proofs.Adding.{chained_on}
use Rattle.slice_held.proofs.kept_shape.Held.push.Goals as goal

-- src/value.rt:100:5
pub returns-clause-adds : goal.returns-clause-adds
returns-clause-adds c =
    let h = c.args.self.now in
    let number : c.len-number.result + 1 ≡ length h.cells.items + 1 = search (rules) in
    let cell = c.in_ok-push_cell.ensures in
    record {
      blank = record {
        sound = cell.sound;
        chained = chained_on h.cells.items c.push_cell.new.cells.items c.args.cell h.lasts.items
            c.enter-before.new.lasts.items
            h.earlier.items c.push.new.self.items (c.len-number.result + 1) c.enter-before.result c.requires.none
            c.requires.blank.chained number c.enter-before.ensures cell.bare c.in_ok-push.ensures.items;
        out = cell.out;
      };
      leaves = c.enter-before.ensures.size;
      cells = cell.bare;
    }
