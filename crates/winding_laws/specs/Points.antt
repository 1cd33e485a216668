-- Points of a segment, and points near to one another.
use Rattle.std.specs.Prelude.{◌≡◌, ◌⊎◌, ℤ, pos, ◌+ℤ◌, ◌-ℤ◌, ◌*ℤ◌, ◌<ℤ◌, ◌≤ℤ◌}
use Rattle.scad_geom.specs.Point.{Point}

-- c is a point of the segment from a to b: k times its numbers are the sums of theirs by weights
pub record IsOn (a b c : Point) : Type 0 where
  pub k : ℤ
  pub s : ℤ
  pub t : ℤ
  pub positive : pos 0 <ℤ k
  pub first : pos 0 ≤ℤ s
  pub second : pos 0 ≤ℤ t
  pub some : pos 0 <ℤ (s +ℤ t)
  pub x : k *ℤ c.x ≡ s *ℤ a.x +ℤ t *ℤ b.x
  pub y : k *ℤ c.y ≡ s *ℤ a.y +ℤ t *ℤ b.y
  pub d : k *ℤ c.d ≡ s *ℤ a.d +ℤ t *ℤ b.d

-- by one of its numbers, p lies strictly between a and b
abbrev pub IsBetween : (Point → ℤ) → Point → Point → Point → Type 0
IsBetween n a p b = ((n a *ℤ p.d) <ℤ (n p *ℤ a.d) × (n p *ℤ b.d) <ℤ (n b *ℤ p.d))
    ⊎ ((n b *ℤ p.d) <ℤ (n p *ℤ b.d) × (n p *ℤ a.d) <ℤ (n a *ℤ p.d))

-- p lies less than one micrometre from q along both axes
pub record IsWithinOne (q p : Point) : Type 0 where
  pub right : (p.x *ℤ q.d -ℤ q.x *ℤ p.d) <ℤ (p.d *ℤ q.d)
  pub left : (q.x *ℤ p.d -ℤ p.x *ℤ q.d) <ℤ (p.d *ℤ q.d)
  pub above : (p.y *ℤ q.d -ℤ q.y *ℤ p.d) <ℤ (p.d *ℤ q.d)
  pub below : (q.y *ℤ p.d -ℤ p.y *ℤ q.d) <ℤ (p.d *ℤ q.d)
