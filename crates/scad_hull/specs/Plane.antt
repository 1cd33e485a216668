-- Points of a plane by two coordinates, and on which side of a way a point lies.
use Rattle.std.specs.Prelude.{◌≡◌, ◌⊎◌, ℤ, pos, ◌-ℤ◌, ◌*ℤ◌, ◌<ℤ◌}

-- above 0 where the way (c, d) points to the left of the way (a, b), 0 where both lie along one line
abbrev pub area : ℤ → ℤ → ℤ → ℤ → ℤ
area a b c d = a *ℤ d -ℤ b *ℤ c

-- the way (a, b) points upwards, or straight to the right
abbrev pub IsOnward : ℤ → ℤ → Type 0
IsOnward a b = (pos 0 <ℤ b) ⊎ ((b ≡ pos 0) × (pos 0 <ℤ a))

module _ {X : Type 0} (f g : X → ℤ) where
  -- above 0 where r lies to the left of the way from p to q, 0 where it lies on its line
  abbrev pub left : X → X → X → ℤ
  left p q r = area (f q -ℤ f p) (g q -ℤ g p) (f r -ℤ f p) (g r -ℤ g p)

  -- p lies below q, or at its height to its left
  abbrev pub IsBefore : X → X → Type 0
  IsBefore p q = IsOnward (f q -ℤ f p) (g q -ℤ g p)
