-- Heights that aren't whole, and their order.
use Rattle.std.specs.Prelude.{ℕ, ◌≡◌, ℤ, pos, ◌*ℤ◌, ◌<ℤ◌, ◌≤ℤ◌, ◌≤◌, ◌*◌, unsigned_abs}
use Rattle.scad_geom.specs.declared.level.Level.{Level}
use Rattle.scad_geom.specs.Limits.{divisor_limit}

-- the height of a whole coordinate
abbrev pub level_of : ℤ → Level
level_of y = record { n = y; d = pos 1 }

-- p lies lower than q
abbrev pub IsLower : Level → Level → Type 0
IsLower p q = (p.n *ℤ q.d) <ℤ (q.n *ℤ p.d)

-- p doesn't lie higher than q
abbrev pub IsAtMost : Level → Level → Type 0
IsAtMost p q = (p.n *ℤ q.d) ≤ℤ (q.n *ℤ p.d)

-- the same height, over any divisors
abbrev pub IsSameHeight : Level → Level → Type 0
IsSameHeight p q = p.n *ℤ q.d ≡ q.n *ℤ p.d

-- a height whose divisor is positive and within its limit, and which lies within the limit of the coordinates
pub record IsLevelWithin (limit : ℕ) (h : Level) : Type 0 where
  pub positive : pos 0 <ℤ h.d
  pub divisor : unsigned_abs h.d ≤ divisor_limit
  pub size : unsigned_abs h.n ≤ limit * unsigned_abs h.d
