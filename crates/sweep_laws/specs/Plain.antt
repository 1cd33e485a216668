-- Heights along which nothing leads from place to place: there it's enough that the strands' ways pass.
use Rattle.std.specs.Prelude.{false, ◌≡◌, ⊤, List, [], ◌∷◌}
use Rattle.scad_geom.specs.declared.level.Level.{Level}
use Rattle.scad_geom.specs.declared.level.LeafEdge.{LeafEdge}
use Rattle.sweep_laws.specs.Visits.{Pass}
use Rattle.sweep_laws.specs.Fronts.{value_before, ways_up, ways_from}
use Rattle.sweep_laws.specs.Crossing.{Place, all_below, all_above, ArePassed}
use Rattle.sweep_laws.specs.Staying.{IsUncovered}
use Rattle.sweep_laws.specs.Steps.{AreAlikeBeside}

-- no flat edge covers a stretch between neighbouring places
abbrev pub AreUncovered : List LeafEdge → List Place → Type 0
AreUncovered es [] = ⊤
AreUncovered es (p ∷ ps) = IsUncovered es p ps × AreUncovered es ps

-- at each place the ways of its strands pass, with the value to the right of those below
abbrev pub ArePlainlyPassed : List LeafEdge → Level → Level → List Place → Type 0
ArePlainlyPassed es l u [] = ⊤
ArePlainlyPassed es l u (p ∷ ps) = Pass (ways_up es l (value_before (all_below ps) false) p.below)
    (ways_from es l u (value_before (all_below ps) false) p.above)
    (ways_up es u (value_before (all_below ps) false) p.above) p.closed × ArePlainlyPassed es l u ps

-- ---- the laws
-- Then all places are passed, where strands below and above tell one value, or where none are above.
abbrev pub PlainHeightsPass : Type 0
PlainHeightsPass = (es : List LeafEdge) (l u : Level) (places : List Place) → AreUncovered es places
    → AreAlikeBeside es places → ArePlainlyPassed es l u places → ArePassed es l u [] places

abbrev pub LastHeightsPass : Type 0
LastHeightsPass = (es : List LeafEdge) (m : Level) (places : List Place) → all_above places ≡ []
    → AreUncovered es places
    → ArePlainlyPassed es m m places → ArePassed es m m [] places
