-- The order of bundles at the heights from the lower one to the upper one.
use Rattle.std.specs.Prelude.{List, [], ◌∷◌, ℕ, ⊤, ◌≡◌, pos, ◌*ℤ◌, ◌<ℤ◌, ◌≤ℤ◌}
use Rattle.std.specs.List.{AllByRecursion}
use Rattle.scad_geom.specs.declared.point.Edge.{Edge}
use Rattle.scad_geom.specs.declared.level.Level.{Level}
use Rattle.scad_geom.specs.declared.level.LeafEdge.{LeafEdge}
use Rattle.scad_geom.specs.Line.{rise, x_at}
use Rattle.scad_geom.specs.Level.{IsLower, IsAtMost}
use Rattle.scad_geom.specs.Heights.{AreNeighbours}
use Rattle.slice_bundles.specs.Bundles.{edge_at, AreBundles}

-- at a height, e lies to the left of f; not to the right of it; at the same place
abbrev pub IsLeftAt : Level → Edge → Edge → Type 0
IsLeftAt at e f = (x_at e at.n at.d *ℤ rise f) <ℤ (x_at f at.n at.d *ℤ rise e)

abbrev pub IsNotRightAt : Level → Edge → Edge → Type 0
IsNotRightAt at e f = (x_at e at.n at.d *ℤ rise f) ≤ℤ (x_at f at.n at.d *ℤ rise e)

abbrev pub IsSamePlaceAt : Level → Edge → Edge → Type 0
IsSamePlaceAt at e f = x_at e at.n at.d *ℤ rise f ≡ x_at f at.n at.d *ℤ rise e

-- each edge of one bundle stands in a relation to each of another
abbrev pub AllStand : (Edge → Edge → Type 0) → List LeafEdge → List ℕ → List ℕ → Type 0
AllStand R edges ks js = AllByRecursion (λ k. AllByRecursion (λ j. R (edge_at edges k) (edge_at edges j)) js) ks

-- so do the edges of each bundle to those of each later one
abbrev pub AllStandInOrder : (Edge → Edge → Type 0) → List LeafEdge → List (List ℕ) → Type 0
AllStandInOrder R edges [] = ⊤
AllStandInOrder R edges (b ∷ bs) = AllByRecursion (AllStand R edges b) bs × AllStandInOrder R edges bs

-- from the lower height to the upper one no bundle comes to the right of a later one; strictly between them each lies
-- to the
-- left of the later ones. The edges of one bundle lie at one place at every height
pub record KeepOrder (edges : List LeafEdge) (lower upper : Level) (bundles : List (List ℕ)) : Type 0 where
  pub throughout : (at : Level) → pos 0 <ℤ at.d → IsAtMost lower at → IsAtMost at upper
      → AllStandInOrder (IsNotRightAt at) edges bundles
  pub between : (at : Level) → pos 0 <ℤ at.d → IsLower lower at → IsLower at upper
      → AllStandInOrder (IsLeftAt at) edges bundles
  pub together : (at : Level) → AllByRecursion (λ b. AllStand (IsSamePlaceAt at) edges b b) bundles

-- ---- the law
-- The bundles between two neighbouring heights, ordered at the lower one, keep their order up to the upper one.
abbrev pub BundlesKeepOrder : Type 0
BundlesKeepOrder =
    (edges : List LeafEdge) (lower upper : Level) (bundles : List (List ℕ)) → AreNeighbours edges lower upper
    → AreBundles edges lower upper bundles
    → KeepOrder edges lower upper bundles
