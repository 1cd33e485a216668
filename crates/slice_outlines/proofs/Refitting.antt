-- A sweep whose cursors alone are others.
use Rattle.std.proofs.Common.{List, [], ◌∷◌}
use Rattle.scad_geom.specs.declared.level.Level.{Level}
use Rattle.scad_geom.specs.declared.level.LeafEdge.{LeafEdge}
use Rattle.scad_geom.specs.declared.shape.Shape.{Shape}
use Rattle.slice_sweep.specs.Front.{bundles_in}
use Rattle.slice_outlines.specs.declared.sweep.Sweep.{Sweep}
use Rattle.slice_outlines.specs.declared.cursors.Cursors.{Cursors}
use Rattle.slice_outlines.specs.Cursors.{StandOn}
use Rattle.slice_outlines.specs.Sweep.{HasSwept, IsReadyForFirst, ArePassedBelowFirst}

abbrev pub with_cursors : Cursors → Sweep → Sweep
with_cursors cs s = record s { kept = record (s.kept) { cursors = cs } }

still_below : (cs : Cursors) (s : Sweep) (left : List Level) → ArePassedBelowFirst left s
    → ArePassedBelowFirst left (with_cursors cs s)
still_below cs s [] p = tt
still_below cs s (l ∷ ls) p = record { passed = p.passed; later = p.later }

still_ready : (es : List LeafEdge) (cs : Cursors) (s : Sweep) (left : List Level) → IsReadyForFirst es left s
    → IsReadyForFirst es left (with_cursors cs s)
still_ready es cs s [] r = tt
still_ready es cs s (l ∷ ls) r = r

pub refitted : (es : List LeafEdge) (shape : Shape) (levels left : List Level) (cs : Cursors) (s : Sweep)
    → StandOn es shape (bundles_in s.front) cs → HasSwept es shape levels left s
    → HasSwept es shape levels left (with_cursors cs s)
refitted es shape levels left cs s on w = record {
  done = w.done;
  front = w.front;
  closed = w.closed;
  all = w.all;
  swept = w.swept;
  given = w.given;
  bundles = w.bundles;
  kept = w.kept;
  cursors = on;
  flats = w.flats;
  passed = w.passed;
  flats_below = still_below cs s left w.flats_below;
  ready = still_ready es cs s left w.ready;
  below = w.below;
}
