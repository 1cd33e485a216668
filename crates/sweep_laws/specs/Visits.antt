-- A sweep over places: at each place ways come in and others go out. Where one comes in and one goes out, of one name
-- and direction, the first goes on as the second; else all that come in end there, and all that go out begin.
use Rattle.std.specs.Prelude.{◌≡◌, ◌⊎◌, ⊤, List, [], ◌∷◌, ◌++◌}
use Rattle.std.specs.List.{AllByRecursion}
use Rattle.std.specs.List.Sorted.{IsPermutation}
use Rattle.winding_laws.specs.Nearness.{IsPoint}
use Rattle.slice_pieces.specs.declared.piece.Spot.{Spot}
use Rattle.slice_pieces.specs.Merging.{AreMerged}
use Rattle.slice_pieces.specs.Spots.{point_of}
use Rattle.sweep_laws.specs.Ways.{Way, pieces_of, IsAt, IsAway, AreOfDifferentNames}

-- ---- at one place
-- the way that two become
abbrev pub grown : Way → Way → Way
grown v w = record { near = v.near; far = w.far; edge = v.edge; forward = v.forward }

-- of one name and direction
pub record IsOneCourse (v w : Way) : Type 0 where
  pub edge : v.edge ≡ w.edge
  pub forward : v.forward ≡ w.forward

-- one comes in and one goes out, of one name and direction
abbrev pub OneGoesOn : List Way → List Way → Type 0
OneGoesOn [] outs = ⊥
OneGoesOn (v ∷ []) [] = ⊥
OneGoesOn (v ∷ []) (w ∷ []) = IsOneCourse v w
OneGoesOn (v ∷ []) (w ∷ (x ∷ outs)) = ⊥
OneGoesOn (u ∷ (v ∷ ins)) outs = ⊥

-- of ways that come in and others that go out: those that are open then, and those that end
pub data Pass : List Way → List Way → List Way → List Way → Type 0 where
  goes_on : (v w : Way) → IsOneCourse v w → Pass (v ∷ []) (w ∷ []) (grown v w ∷ []) []
  all_end : (ins outs : List Way) → (OneGoesOn ins outs → ⊥) → Pass ins outs outs ins

-- ---- over all places
-- a place, and the ways that go out from it
pub record Visit : Type 0 where
  pub at : Spot
  pub outs : List Way

abbrev pub outs_of : List Visit → List Way
outs_of [] = []
outs_of (v ∷ vs) = v.outs ++ outs_of vs

-- a spot is at one of these places
abbrev pub IsAtOne : List Visit → Spot → Type 0
IsAtOne [] s = ⊥
IsAtOne (v ∷ vs) s = IsAt (point_of v.at) s ⊎ IsAtOne vs s

-- a way from a place to a later one
pub record Leads (at : Spot) (later : List Visit) (w : Way) : Type 0 where
  pub near_point : IsPoint (point_of w.near)
  pub far_point : IsPoint (point_of w.far)
  pub near : IsAt (point_of at) w.near
  pub far : IsAtOne later w.far

-- places that differ, in an order in which each comes before those to which its ways lead
abbrev pub AreInSweepOrder : List Visit → Type 0
AreInSweepOrder [] = ⊤
AreInSweepOrder (v ∷ vs) = IsPoint (point_of v.at) × AllByRecursion (λ u. IsAway (point_of v.at) u.at) vs
    × AllByRecursion (Leads v.at vs) v.outs × AreOfDifferentNames v.outs × AreInSweepOrder vs

-- from some open ways over all places, with those that end on the way
pub data Walk : List Way → List Visit → List Way → Type 0 where
  over : Walk [] [] []
  visit : (opens ins kept after closed more : List Way) (v : Visit) (vs : List Visit)
      → IsPermutation opens (ins ++ kept)
      → AllByRecursion (λ w. IsAt (point_of v.at) w.far) ins
      → AllByRecursion (λ w. IsAway (point_of v.at) w.far) kept
      → AreOfDifferentNames ins → Pass ins v.outs after closed → Walk (after ++ kept) vs more
      → Walk opens (v ∷ vs) (closed ++ more)

-- ---- the law
-- Such a sweep merges pieces: those that end on the way are the merged pieces of all that go out.
abbrev pub WalksMerge : Type 0
WalksMerge =
    (visits : List Visit) (closed : List Way) → AreInSweepOrder visits → Walk [] visits closed
    → AreMerged (pieces_of (outs_of visits)) (pieces_of closed)
