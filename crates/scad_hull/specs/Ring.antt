-- The convex ring round points, in a plane with `left p q r` above 0 where r lies to the left of the way from p to q,
-- and an order of its points.
use Rattle.std.specs.Prelude.{◌≤◌, List, [], ◌∷◌, ◌++◌, length, ℤ, pos, ◌<ℤ◌, ◌≤ℤ◌, All}
use Rattle.std.specs.List.{Contains}

-- the way round the corners, on to the second
abbrev pub round : {X : Type 0} → List X → List X
round [] = []
round (p ∷ []) = p ∷ p ∷ []
round (p ∷ q ∷ ps) = p ∷ q ∷ (ps ++ p ∷ q ∷ [])

module _ {X : Type 0} (left : X → X → X → ℤ) where
  -- q lies to the right of no side of a way
  abbrev pub IsRightOfNone : X → List X → Type 0
  IsRightOfNone q [] = Unit {0}
  IsRightOfNone q (a ∷ []) = Unit {0}
  IsRightOfNone q (a ∷ b ∷ way) = (pos 0 ≤ℤ left a b q) × IsRightOfNone q (b ∷ way)

  -- a way turns to the left at each point between its first and its last
  abbrev pub AllTurnLeft : List X → Type 0
  AllTurnLeft [] = Unit {0}
  AllTurnLeft (a ∷ []) = Unit {0}
  AllTurnLeft (a ∷ b ∷ []) = Unit {0}
  AllTurnLeft (a ∷ b ∷ c ∷ way) = (pos 0 <ℤ left a b c) × AllTurnLeft (b ∷ c ∷ way)

  module _ (Before : X → X → Type 0) where
    -- the first of the corners comes before each other
    abbrev pub StartsFirst : List X → Type 0
    StartsFirst [] = ⊥
    StartsFirst (p ∷ ps) = All (Before p) ps

    -- the ring's corners are three or more of the points, each a corner; it has all points on its left; and it starts
    -- with its first corner, which comes once, so that it goes round once
    pub record IsConvexRing (points ring : List X) : Type 0 where
      pub three : 3 ≤ length ring
      pub corners : All (Contains points) ring
      pub holds : All (λ q. IsRightOfNone q (round ring)) points
      pub turns : AllTurnLeft (round ring)
      pub starts : StartsFirst ring
