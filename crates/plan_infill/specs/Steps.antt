-- What holds along a line, by steps.
use Rattle.std.specs.Prelude.{◌≡◌, true, if◌then◌else◌, ◌⊎◌, ℕ, ◌≤◌, List, [], ◌∷◌, ◌++◌, ℤ, pos, ◌+ℤ◌, ◌<ℤ◌, ◌≤ℤ◌, int_le, unsigned_abs, All}
use Rattle.std.specs.List.{AllByRecursion}
use Rattle.scad_geom.specs.declared.point.Edge.{Edge}
use Rattle.scad_geom.specs.Limits.{coordinate_limit}
use Rattle.scad_geom.specs.Point.{whole}
use Rattle.scad_geom.specs.Segment.{segments}
use Rattle.scad_geom.specs.Winding.{turn, passage_by, wind}
use Rattle.plan_infill.specs.declared.line.Line.{Line}
use Rattle.plan_infill.specs.declared.line.Line.TheVariants.{Row, Column}
use Rattle.plan_infill.specs.declared.step.Step.{Step}
use Rattle.plan_infill.specs.declared.stretch.Stretch.{Stretch}
use Rattle.scad_ring.specs.Octagon.{octagon_of}
use Rattle.scad_ring.specs.Nearness.{Open, Meets, IsClear}
use Rattle.plan_infill.specs.Runs.{point_on}

-- the sum of one of the numbers of steps, over those at a place and before it
abbrev pub up_to : (Step → ℤ) → ℤ → List Step → ℤ
up_to f z [] = pos 0
up_to f z (s ∷ ss) = (if int_le s.at z then f s else pos 0) +ℤ up_to f z ss

-- over all
abbrev pub all_of : (Step → ℤ) → List Step → ℤ
all_of f [] = pos 0
all_of f (s ∷ ss) = f s +ℤ all_of f ss

-- how often an edge turns round the points of a line far before it: on a row it may lie to their right
abbrev pub turn_before : Line → Edge → ℤ
turn_before (Row y) e = passage_by true (whole (point_on (Row y) (pos 0))) (whole e.a) (whole e.b)
turn_before (Column x) e = pos 0

-- from far before on, the steps give the turns of an edge round each whole point of a line, and far behind none
pub record GiveTurns (line : Line) (e : Edge) (steps : List Step) : Type 0 where
  pub each : (z : ℤ) → turn true true (whole (point_on line z)) (whole e.a) (whole e.b)
      ≡ turn_before line e +ℤ up_to (λ s. s.turns) z steps
  pub behind : turn_before line e +ℤ all_of (λ s. s.turns) steps ≡ pos 0

-- an edge comes within the octagon of c round the whole point of a line, without its border
abbrev pub ComesNear : ℕ → Line → ℤ → Edge → Type 0
ComesNear c line z e = Meets Open (octagon_of c) (whole (point_on line z)) (whole e.a) (whole e.b)

-- it doesn't
abbrev pub IsApart : ℕ → Line → ℤ → Edge → Type 0
IsApart c line z e = IsClear Open (octagon_of c) (whole (point_on line z)) (whole e.a) (whole e.b)

-- the steps count 1 where an edge comes near to the whole point of a line, else 0
abbrev pub GiveNear : ℕ → Line → Edge → List Step → Type 0
GiveNear c line e steps = (z : ℤ) →
    ((up_to (λ s. s.near) z steps ≡ pos 1) × ComesNear c line z e)
    ⊎ ((up_to (λ s. s.near) z steps ≡ pos 0) × IsApart c line z e)

-- a step changes by at most one; where it changes the winding number it lies within the limit of the coordinates
pub record IsStep (s : Step) : Type 0 where
  pub turns : unsigned_abs s.turns ≤ 1
  pub near : unsigned_abs s.near ≤ 1
  pub place : (s.turns ≡ pos 0) ⊎ (unsigned_abs s.at ≤ coordinate_limit)

-- a list with such steps behind it
abbrev pub Adds : (List Step → Type 0) → List Step → List Step → Type 0
Adds P old new = (more : List Step) × P more × (new ≡ old ++ more)

-- the steps count 1 in a stretch and 0 outside of it
pub record Counts (stretch : Stretch) (steps : List Step) : Type 0 where
  pub inside : (z : ℤ) → stretch.from ≤ℤ z → z <ℤ stretch.until → up_to (λ s. s.near) z steps ≡ pos 1
  pub outside : (z : ℤ) → ((stretch.from ≤ℤ z) × (z <ℤ stretch.until) → ⊥)
      → up_to (λ s. s.near) z steps ≡ pos 0
  pub each : All IsStep steps
  pub other : All (λ s. s.turns ≡ pos 0) steps

-- the steps of an edge's turns, which say nothing of what is near
pub record AreTurnSteps (line : Line) (e : Edge) (steps : List Step) : Type 0 where
  pub give : GiveTurns line e steps
  pub each : All IsStep steps
  pub other : All (λ s. s.near ≡ pos 0) steps

-- the steps of where it comes near, which say nothing of its turns
pub record AreNearSteps (c : ℕ) (line : Line) (e : Edge) (steps : List Step) : Type 0 where
  pub give : GiveNear c line e steps
  pub each : All IsStep steps
  pub other : All (λ s. s.turns ≡ pos 0) steps

-- all steps of an edge
pub record AreEdgeSteps (c : ℕ) (line : Line) (e : Edge) (steps : List Step) : Type 0 where
  pub turns : GiveTurns line e steps
  pub near : GiveNear c line e steps
  pub each : All IsStep steps

-- how often edges turn round the points of a line far before it
abbrev pub turns_before : Line → List Edge → ℤ
turns_before line [] = pos 0
turns_before line (e ∷ es) = turn_before line e +ℤ turns_before line es

-- steps in the order of their places
abbrev pub AreInOrder : List Step → Type 0
AreInOrder [] = Unit {0}
AreInOrder (s ∷ ss) = AllByRecursion (λ t. s.at ≤ℤ t.at) ss × AreInOrder ss

-- the steps of edges: they give the winding number round each whole point of a line, and count the edges near to it
pub record AreSteps (c : ℕ) (line : Line) (es : List Edge) (steps : List Step) : Type 0 where
  pub turns : (z : ℤ) → wind (whole (point_on line z)) (segments es)
      ≡ turns_before line es +ℤ up_to (λ s. s.turns) z steps
  pub behind : turns_before line es +ℤ all_of (λ s. s.turns) steps ≡ pos 0
  pub near : (z : ℤ) →
      ((pos 0 <ℤ up_to (λ s. s.near) z steps) × (AllByRecursion (IsApart c line z) es → ⊥))
      ⊎ ((up_to (λ s. s.near) z steps ≡ pos 0) × AllByRecursion (IsApart c line z) es)
  pub each : All IsStep steps
