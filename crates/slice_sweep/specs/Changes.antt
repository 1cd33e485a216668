-- What a height changes of the strands: the groups of strands that meet it at one place, below it and above it, and
-- which of them a list of changes tells.
use Rattle.std.specs.Prelude.{Bool, ◌≡◌, List, [], ◌∷◌, ◌++◌, ℕ, zero, suc, ◌+◌, ◌*ℤ◌, length, if◌then◌else◌}
use Rattle.std.specs.List.{AllByRecursion}
use Rattle.std.specs.Ordering.{int_eq}
use Rattle.scad_geom.specs.declared.level.Level.{Level}
use Rattle.scad_geom.specs.declared.level.LeafEdge.{LeafEdge}
use Rattle.scad_geom.specs.Line.{low}
use Rattle.slice_bundles.specs.KeptOrder.{IsLeftAt, IsSamePlaceAt}
use Rattle.slice_sweep.specs.declared.change.Change.{Change}
use Rattle.slice_sweep.specs.declared.strand.Strand.{Strand}
use Rattle.slice_sweep.specs.Chains.{Chain}
use Rattle.slice_sweep.specs.Strands.{head}

-- the bundles that come to a place from below, and those that leave it upwards
pub record Group : Type 0 where
  pub below : List (List ℕ)
  pub above : List (List ℕ)

abbrev pub all_below : List Group → List (List ℕ)
all_below [] = []
all_below (g ∷ gs) = g.below ++ all_below gs

abbrev pub all_above : List Group → List (List ℕ)
all_above [] = []
all_above (g ∷ gs) = g.above ++ all_above gs

-- all bundles at the place
abbrev pub all_at : Group → List (List ℕ)
all_at g = g.below ++ g.above

-- each bundle of one group stands in a relation to each of another, by the first edges
abbrev pub Stand : (List ℕ → List ℕ → Type 0) → Group → Group → Type 0
Stand R g h = AllByRecursion (λ b. AllByRecursion (R b) (all_at h)) (all_at g)

abbrev pub IsTogetherAt : List LeafEdge → Level → List ℕ → List ℕ → Type 0
IsTogetherAt edges at b c = IsSamePlaceAt at (head edges b) (head edges c)

abbrev pub LiesLeftAt : List LeafEdge → Level → List ℕ → List ℕ → Type 0
LiesLeftAt edges at b c = IsLeftAt at (head edges b) (head edges c)

-- groups from left to right, none empty, each with its bundles at one place
pub record AreGroups (edges : List LeafEdge) (at : Level) (gs : List Group) : Type 0 where
  pub some : AllByRecursion (λ g. all_at g ≡ [] → ⊥) gs
  pub together : AllByRecursion (λ g. Stand (IsTogetherAt edges at) g g) gs
  pub rightwards : Chain (Stand (LiesLeftAt edges at)) gs

-- a bundle that goes on as it is
abbrev pub staying : List ℕ → Group
staying b = record { below = b ∷ []; above = b ∷ [] }

-- from a place among the strands above the height on, the changes tell of all groups but bundles that go on as they are
pub data Tell : ℕ → List Change → List Group → Type 0 where
  none : (n : ℕ) → Tell n [] []
  stays : (n : ℕ) (cs : List Change) (b : List ℕ) (gs : List Group) → Tell (n + 1) cs gs → Tell n cs (staying b ∷ gs)
  changes : (c : Change) (cs : List Change) (g : Group) (gs : List Group) → length g.below ≡ c.gone
      → length g.above ≡ c.come
      → Tell (c.from + c.come) cs gs → Tell c.from (c ∷ cs) (g ∷ gs)

-- what lies below a height and above it, and the changes that tell of it
pub record AreChanges (edges : List LeafEdge) (at : Level) (below above : List (List ℕ)) (cs : List Change) : Type 0 where
  pub groups : List Group
  pub are_groups : AreGroups edges at groups
  pub below_is : all_below groups ≡ below
  pub above_is : all_above groups ≡ above
  pub told : Tell 0 cs groups

-- ---- strands that start
-- whether the first edge of a bundle starts at a height
abbrev pub has_started : List LeafEdge → Level → List ℕ → Bool
has_started edges at b = int_eq ((low (head edges b)).y *ℤ at.d) at.n

-- how many strands were there below it
abbrev pub older : List LeafEdge → Level → List Strand → ℕ
older edges at [] = 0
older edges at (s ∷ ss) = if has_started edges at s.bundle then older edges at ss else suc (older edges at ss)

-- what is told of a strand that is alone at its place and goes on
abbrev pub started : ℕ → ℕ → List Change
started place zero = record { from = place; gone = 0; come = 1 } ∷ []
started place (suc n) = []
