-- Neighbouring levels of a border are neighbouring heights.
use Rattle.std.proofs.Common.{ℕ, zero, suc, ◌+◌, ◌<◌, List, [], ◌∷◌, length, get_or, arith, add-one}
use lib.IntN.{pos}
use lib.Signed.{◌<ℤ◌}
use Rattle.std.specs.List.{AllByRecursion}
use Rattle.scad_geom.specs.declared.level.Level.{Level}
use Rattle.scad_geom.specs.declared.level.LeafEdge.{LeafEdge}
use Rattle.scad_geom.specs.Heights.{AreNeighbours, heights}
use Rattle.scad_geom.proofs.Heights.{heights_positive}
use Rattle.slice_events.specs.Levels.{IsRising, AreLevels}
use Rattle.slice_border.proofs.Walk.{UpTo, at_first, at_next, neighbours_next}

from_level : (es : List LeafEdge) (ls : List Level) (l : Level) (i : ℕ) (d e : Level) → suc i < suc (length ls)
    → AllByRecursion (λ (l : Level). pos 0 <ℤ l.d) (l ∷ ls) → IsRising (l ∷ ls)
    → AllByRecursion (UpTo l ls) (heights es)
    → AreNeighbours es (get_or (l ∷ ls) i d) (get_or (l ∷ ls) (suc i) e)
from_level es [] l i d e h p r t = absurd (omega arith)
from_level es (u ∷ ls) l zero d e h p r t = neighbours_next es l u ls p r t
from_level es (u ∷ ls) l (suc i) d e h p r t = from_level es ls u i d e (omega arith) p.1 r.1
    (at_next l u ls (heights es) p.0 p.1.0 (heights_positive es) r.0 t)

pub neighbours_at : (es : List LeafEdge) (ls : List Level) (i : ℕ) (d e : Level) → i + 1 < length ls
    → AreLevels es ls → AreNeighbours es (get_or ls i d) (get_or ls (i + 1) e)
neighbours_at es [] i d e h a = absurd (omega arith)
neighbours_at es (l ∷ ls) i d e h a = rw add-one (from_level es ls l i d e (omega arith) a.divisors a.rising
    (at_first l ls (heights es) a.complete))
