-- How far the code has come along a stretch of flat edges.
use Rattle.std.specs.Prelude.{Bool, true, false, ◌≡◌, ◌≤◌, ◌<◌, ◌-◌, ⊤, ℕ, ℤ, All, filter, nat_lt, if◌then◌else◌, Option, None, Some, List, [], ◌∷◌, ◌++◌, take, drop}
use Rattle.std.specs.List.{AllByRecursion, AllZip, position}
use Rattle.std.specs.List.Sorted.{IsPermutation}
use Rattle.scad_geom.specs.declared.point.Pt.{Pt}
use Rattle.scad_geom.specs.declared.point.Edge.{Edge}
use Rattle.scad_geom.specs.declared.level.Level.{Level}
use Rattle.scad_geom.specs.declared.level.LeafEdge.{LeafEdge}
use Rattle.slice_pieces.specs.declared.piece.Spot.{Spot}
use Rattle.winding_laws.specs.Edges.{rounded}
use Rattle.slice_pieces.specs.Spots.{point_of}
use Rattle.slice_pieces.specs.Rounding.{rounded_edges}
use Rattle.slice_sweep.specs.Front.{bundles_in}
use Rattle.slice_border.specs.Pieces.{whole_spot, IsLeft, covers}
use Rattle.slice_border.specs.Stops.{is_left}
use Rattle.sweep_laws.specs.Ways.{Way, pieces_of}
use Rattle.sweep_laws.specs.Fronts.{bundles_of, value_before}
use Rattle.sweep_laws.specs.Crossing.{Place, spots_of, all_below, all_above, all_closed, ArePassed, MeetsAt}
use Rattle.slice_outlines.specs.declared.mark.Mark.{Mark}
use Rattle.slice_outlines.specs.declared.run.Run.{Run}
use Rattle.slice_border.specs.declared.stop.Stop.{Stop}
use Rattle.slice_outlines.specs.declared.flat.Flat.{Flat}
use Rattle.slice_outlines.specs.declared.course.Course.{Course}
use Rattle.slice_outlines.specs.declared.cursors.Cursors.{Cursors}
use Rattle.slice_outlines.specs.declared.stretch.Along.{Along}
use Rattle.slice_outlines.specs.declared.height.Height.{Height}
use Rattle.slice_outlines.specs.declared.height.Open.{Open}
use Rattle.slice_outlines.specs.Marks.{spot_at, mark_at, left_of_first, IsNamed, AreKept}
use Rattle.slice_outlines.specs.Passing.{IsCourseOf, or_none}
use Rattle.slice_outlines.specs.Cursors.{StandOn}
use Rattle.slice_outlines.specs.Heights.{Onwards, IsRunOf, AreValuedTo, marks_of}

-- ---- beside a stop
abbrev pub LiesLeftOf : Height → Stop → Mark → Type 0
LiesLeftOf h s m = IsLeft (spot_at h.edges.now h.at.now m) s.spot

abbrev pub LiesRightOf : Height → Stop → Mark → Type 0
LiesRightOf h s m = IsLeft s.spot (spot_at h.edges.now h.at.now m)

-- of these marks those from one place to another lie between two xs, or there
pub record LieBetween (h : Height) (left right : ℤ) (ms : List Mark) (from to : ℕ) : Type 0 where
  pub before : AllByRecursion (λ m. IsLeft (spot_at h.edges.now h.at.now m) (whole_spot left h.at.now)) (take from ms)
  pub inside : AllByRecursion (λ m. (IsLeft (spot_at h.edges.now h.at.now m) (whole_spot left h.at.now) → ⊥)
      × (IsLeft (whole_spot right h.at.now) (spot_at h.edges.now h.at.now m) → ⊥)) (drop from (take to ms))
  pub behind : AllByRecursion (λ m. IsLeft (whole_spot right h.at.now) (spot_at h.edges.now h.at.now m)) (drop to ms)

-- ---- flat edges
abbrev pub BeginsBy : Stop → Flat → Type 0
BeginsBy s f = IsLeft s.spot (whole_spot f.left s.spot.at) → ⊥

abbrev pub StartsAfter : Stop → List Flat → Type 0
StartsAfter s [] = ⊤
StartsAfter s (f ∷ fs) = IsLeft s.spot (whole_spot f.left s.spot.at)

-- it goes on to the right of a stop
abbrev pub goes_on : Stop → Flat → Bool
goes_on s f = is_left s.spot (whole_spot f.right s.spot.at)

-- ---- the piece along the height
abbrev pub lesser : Option ℕ → ℕ → Option ℕ
lesser None k = Some k
lesser (Some j) k = Some (if nat_lt k j then k else j)

abbrev pub least_from : Option ℕ → List Flat → Option ℕ
least_from least [] = least
least_from least (f ∷ fs) = least_from (lesser least f.number) fs

abbrev pub least : List Flat → Option ℕ
least fs = least_from None fs

abbrev pub course_along : Option ℕ → Bool → Bool → Pt → Option Course
course_along None above below at = None
course_along (Some name) true true at = None
course_along (Some name) true false at = Some (record { name = name; forward = true; from = at })
course_along (Some name) false true at = Some (record { name = name; forward = false; from = at })
course_along (Some name) false false at = None

abbrev pub begun_at : Pt → Option Course → Option Course
begun_at from None = None
begun_at from (Some c) = Some (record c { from = from })

-- ---- how far it has come
-- the value just above the height to the left of a strand, or to the right of the stretch, where it's that below
abbrev pub value_over : Height → Run → List Mark → ℕ → Bool
value_over h run ms i = if nat_lt i run.above_to then (mark_at ms i).left
    else left_of_first (drop run.below_to h.below.now) false

-- ways that end at the first of some spots
abbrev pub LeadTo : List Spot → List Way → Type 0
LeadTo [] ws = ws ≡ []
LeadTo (t ∷ ts) ws = AllByRecursion (λ w. w.far ≡ t) ws

-- places of which the first is at the first of some spots
abbrev pub BeginAt : List Spot → List Place → Type 0
BeginAt [] ps = ⊤
BeginAt (t ∷ ts) [] = ⊥
BeginAt (t ∷ ts) (p ∷ ps) = p.at ≡ t

-- places to come, behind so many strands below the height, with a value above it to their left
pub record ArePlacesFrom (on : Onwards) (n : ℕ) (left : Bool) (spots : List Spot) (later : List Place) : Type 0 where
  pub below : all_below later ≡ drop n on.below
  pub value : value_before (all_above later) false ≡ left
  pub first : BeginAt spots later

-- strands are at their place
pub record AreAtPlace (es : List LeafEdge) (l : Level) (p : Place) : Type 0 where
  pub below : AllByRecursion (λ s. MeetsAt es l p.at s.bundle) p.below
  pub above : AllByRecursion (λ s. MeetsAt es l p.at s.bundle) p.above

-- the places that are passed have some spots, and so many strands below the height and above it; a way along the height
-- may lead to the first of the spots to come
pub record HasComeOver (on : Onwards) (passed spots : List Spot) (run : Run) (n m : ℕ) (course : Option Course)
    (marks : List Mark) (given : List Edge) (cursors : Cursors) : Type 0 where
  pub places : List Place
  pub flat : List Way
  pub at : spots_of places ≡ passed
  pub along : AllZip IsCourseOf flat (or_none course)
  pub leads : LeadTo spots flat
  pub lower : all_below places ≡ take n on.below
  pub upper : bundles_of (all_above places) ≡ take m (bundles_in on.height.front.now)
  pub goes_on : (later : List Place) → ArePlacesFrom on n (value_over on.height run marks m) spots later
      → ArePassed on.height.edges.now on.height.at.now on.upper flat later
      → ArePassed on.height.edges.now on.height.at.now on.upper [] (places ++ later)
  pub kept : AreKept (value_over on.height run marks m) (take m marks) (all_above places)
  pub met : AllByRecursion (AreAtPlace on.height.edges.now on.height.at.now) places
  pub named : AllZip (λ x b. IsNamed x.name b) marks (bundles_in on.height.front.now)
  pub valued : AreValuedTo on.height on.shape run.above_to marks
  pub edges : IsPermutation (on.given ++ rounded_edges (pieces_of (all_closed places))) given
  pub stands : StandOn on.height.edges.now on.shape (bundles_in on.height.front.now) cursors

abbrev pub HasComeAlong : Onwards → List Spot → List Spot → Along → Open → Type 0
HasComeAlong on passed spots a o = HasComeOver on passed spots a.run a.below a.above a.flat o.marks.items o.given.items
    o.cursors

-- the flat edges that go on from a stop are told by the least that covers the way to the next; behind the last stop
-- there is one value below the height and above it
abbrev pub IsNameTo : List LeafEdge → Spot → List Spot → List Flat → Bool → Bool → Type 0
IsNameTo es s [] live above below = above ≡ below
IsNameTo es s (t ∷ ts) live above below = least live ≡ position (covers s t) es

-- ---- stops
-- it stands within its stretch, whose strands are there
pub record IsWithinRun (h : Height) (ms : List Mark) (a : Along) : Type 0 where
  pub run : IsRunOf h.below.now ms a.run
  pub below : a.below ≤ a.run.below_to
  pub above : a.above ≤ a.run.above_to

-- none of the strands to come lies to the left of a stop
pub record IsNextStop (h : Height) (upper : List Mark) (a : Along) (s : Stop) : Type 0 where
  pub below : AllByRecursion (λ m. LiesLeftOf h s m → ⊥) (take (a.run.below_to - a.below) (drop a.below h.below.now))
  pub above : AllByRecursion (λ m. LiesLeftOf h s m → ⊥) (take (a.run.above_to - a.above) (drop a.above upper))

-- the next of them lie to its right
pub record IsBehindStop (h : Height) (upper : List Mark) (a : Along) (s : Stop) : Type 0 where
  pub below : a.below < a.run.below_to → LiesRightOf h s (mark_at h.below.now a.below)
  pub above : a.above < a.run.above_to → LiesRightOf h s (mark_at upper a.above)

-- of the flat edges that were there and of those that begin by a stop, those that go on are kept
pub record HasLive (s : Stop) (fs : List Flat) (old new : Along) : Type 0 where
  pub from : old.begun ≤ new.begun
  pub begun : All (BeginsBy s) (take (new.begun - old.begun) (drop old.begun fs))
  pub later : StartsAfter s (drop new.begun fs)
  pub live : new.live.items ≡ filter (goes_on s) (old.live.items ++ take (new.begun - old.begun) (drop old.begun fs))

-- the strands of a part meet the height at places that round as a spot does
abbrev pub RoundAlike : Height → List Mark → Run → Spot → Type 0
RoundAlike h ms run s = AllByRecursion (λ m. rounded (point_of (spot_at h.edges.now h.at.now m)) ≡ rounded (point_of s))
    (marks_of h ms run)
