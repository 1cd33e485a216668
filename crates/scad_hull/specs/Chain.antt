-- Convex rings by two chains (Andrew's monotone chain): over points in an order that sweeps the plane, and with `left p
-- q r` above 0 where r lies to the
-- left of the way from p to q.
use Rattle.std.specs.Prelude.{List, [], ◌∷◌, ◌++◌, reverse, if◌then◌else◌, ℤ, pos, int_lt}

-- all but the first
abbrev pub rest_of : {X : Type 0} → List X → List X
rest_of [] = []
rest_of (x ∷ xs) = xs

module _ {X : Type 0} (left : X → X → X → ℤ) where
  -- a chain, newest point first, without the points at which the way on to r doesn't turn to the left
  abbrev pub bent : X → List X → List X
  bent r [] = []
  bent r (q ∷ []) = q ∷ []
  bent r (q ∷ p ∷ chain) = if int_lt (pos 0) (left p q r) then q ∷ p ∷ chain else bent r (p ∷ chain)

  -- the chain once it was led through further points
  abbrev pub led : List X → List X → List X
  led chain [] = chain
  led chain (r ∷ rs) = led (r ∷ bent r chain) rs

  -- the chain through points, from the first up to its last corner but one
  abbrev pub half : List X → List X
  half points = reverse (rest_of (led [] points))

  -- there along one side and back along the other
  abbrev pub ring_round : List X → List X
  ring_round points = half points ++ half (reverse points)
