-- Points in blocks of neighbours, each with the box round them.
use Rattle.std.specs.Prelude.{ℕ, ◌<◌, ◌≤◌, ◌*◌, ◌/◌, List, length, slice_index_or, All, ℤ, pos, int_lt, ◌≤ℤ◌, if◌then◌else◌}
use Rattle.scad_geom.specs.declared.point3.Pt3.{Pt3}
use Rattle.scad_hull.specs.declared.block.Block.{Block}
use Rattle.scad_hull.specs.declared.turning.Normal.{Normal}
use Rattle.scad_hull.specs.Space.{IsSmall}

-- p lies in the box
pub record IsWithin (b : Block) (p : Pt3) : Type 0 where
  pub low_x : b.low.x ≤ℤ p.x
  pub low_y : b.low.y ≤ℤ p.y
  pub low_z : b.low.z ≤ℤ p.z
  pub high_x : p.x ≤ℤ b.high.x
  pub high_y : p.y ≤ℤ b.high.y
  pub high_z : p.z ≤ℤ b.high.z

-- the first box lies in the second
pub record IsPartOf (b c : Block) : Type 0 where
  pub low_x : c.low.x ≤ℤ b.low.x
  pub low_y : c.low.y ≤ℤ b.low.y
  pub low_z : c.low.z ≤ℤ b.low.z
  pub high_x : b.high.x ≤ℤ c.high.x
  pub high_y : b.high.y ≤ℤ c.high.y
  pub high_z : b.high.z ≤ℤ c.high.z

pub record IsSmallBlock (b : Block) : Type 0 where
  pub low : IsSmall b.low
  pub high : IsSmall b.high

-- of the points each 32 neighbours, from the first on, lie in a box
pub record AreBlocks (ps : List Pt3) (bs : List Block) : Type 0 where
  pub all : length ps ≤ 32 * length bs
  pub small : All IsSmallBlock bs
  pub within : (k : ℕ) (d : Pt3) (e : Block) → k < length ps
      → IsWithin (slice_index_or bs (k / 32) e) (slice_index_or ps k d)

-- a coordinate of the corner of least depth
abbrev pub least_of : ℤ → ℤ → ℤ → ℤ
least_of n low high = if int_lt n (pos 0) then high else low

-- the corner of a box that lies least deep inside of a plane with this normal
abbrev pub least_corner : Normal → Block → Pt3
least_corner n b = record {
  x = least_of n.x b.low.x b.high.x;
  y = least_of n.y b.low.y b.high.y;
  z = least_of n.z b.low.z b.high.z;
}
