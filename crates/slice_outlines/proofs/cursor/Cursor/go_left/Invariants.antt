use Rattle.std.proofs.Common.{◌≡◌, ◌≤◌}
use Rattle.slice_sweep.specs.Front.{bundles_in}
use Rattle.slice_outlines.specs.Cursor.{StaysOn}
use Rattle.slice_outlines.proofs.cursor.Cursor.go_left.Given as goal

abbrev pub invariant-strands : goal.invariant-strands
invariant-strands l = record {
  to : l.self.at ≤ l.fn.self.at;
  stays : l.fn.self.at ≤ l.place → l.self.at ≡ l.fn.self.at;
  goes : l.place ≤ l.fn.self.at → l.place ≤ l.self.at;
  stands : StaysOn l.edges (bundles_in l.front) l.fn.self l.self;
}

abbrev pub decreases-strands : goal.decreases-strands
decreases-strands l = l.self.at
