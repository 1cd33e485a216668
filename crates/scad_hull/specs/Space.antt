-- Planes through points of space, and on which side of them points lie.
use Rattle.std.specs.Prelude.{◌≡◌, ◌⊎◌, ℕ, ◌^◌, ◌≤◌, ◌<◌, ◌≤ℤ◌, slice_index_or, List, All, Bool, if◌then◌else◌, int_lt, ℤ, pos, ◌+ℤ◌, ◌-ℤ◌, ◌*ℤ◌, ◌<ℤ◌, unsigned_abs, ◌&&◌}
use Rattle.std.specs.List.{Contains}
use Rattle.std.specs.Ordering.{int_cmp, ordering_then}
use Rattle.std.specs.declared.cmp.Ordering.{Ordering}
use Rattle.std.specs.declared.cmp.Ordering.TheVariants.{Less}
use Rattle.scad_geom.specs.Limits.{point_limit}
use Rattle.scad_geom.specs.Sign.{is_zero}
use Rattle.scad_geom.specs.declared.point3.Pt3.{Pt3}
use Rattle.scad_hull.specs.declared.turning.Normal.{Normal}
use Rattle.scad_hull.specs.Plane.{left, IsOnward}

-- the order by z, then y, then x
abbrev pub space_cmp : Pt3 → Pt3 → Ordering
space_cmp p q = ordering_then (int_cmp p.z q.z) (ordering_then (int_cmp p.y q.y) (int_cmp p.x q.x))

-- p comes before q in that order
abbrev pub IsSpaceBefore : Pt3 → Pt3 → Type 0
IsSpaceBefore p q = space_cmp p q ≡ Less

-- the cross product of the ways from a to b and to c
abbrev pub normal_of : Pt3 → Pt3 → Pt3 → Normal
normal_of a b c = record {
  x = (b.y -ℤ a.y) *ℤ (c.z -ℤ a.z) -ℤ (b.z -ℤ a.z) *ℤ (c.y -ℤ a.y);
  y = (b.z -ℤ a.z) *ℤ (c.x -ℤ a.x) -ℤ (b.x -ℤ a.x) *ℤ (c.z -ℤ a.z);
  z = (b.x -ℤ a.x) *ℤ (c.y -ℤ a.y) -ℤ (b.y -ℤ a.y) *ℤ (c.x -ℤ a.x);
}

-- the point beside a in the x direction
abbrev pub beside : Pt3 → Pt3
beside a = record { x = a.x -ℤ pos 1; y = a.y; z = a.z }

-- above 0 where p lies on the side of the plane through a to which its normal points, 0 where it lies in the plane
abbrev pub depth_of : Normal → Pt3 → Pt3 → ℤ
depth_of n a p = n.x *ℤ (p.x -ℤ a.x) +ℤ (n.y *ℤ (p.y -ℤ a.y) +ℤ n.z *ℤ (p.z -ℤ a.z))

-- above 0 where p lies on the inner side of the plane through a, b and c, which run clockwise as seen from outside
abbrev pub inner : Pt3 → Pt3 → Pt3 → Pt3 → ℤ
inner a b c p = depth_of (normal_of a b c) a p

abbrev pub dot_of : Normal → Normal → ℤ
dot_of n m = n.x *ℤ m.x +ℤ (n.y *ℤ m.y +ℤ n.z *ℤ m.z)

abbrev pub square_of : Normal → ℤ
square_of n = dot_of n n

-- a normal without a direction: the points that gave it lie on one line
abbrev pub is_none : Normal → Bool
is_none n = is_zero n.x && (is_zero n.y && is_zero n.z)

abbrev x_of : Pt3 → ℤ
x_of p = p.x

abbrev y_of : Pt3 → ℤ
y_of p = p.y

abbrev z_of : Pt3 → ℤ
z_of p = p.z

-- the turns in a level plane, by its inward normal
abbrev pub level_left : Normal → Pt3 → Pt3 → Pt3 → ℤ
level_left n = if int_lt (pos 0) n.z then left x_of y_of else left y_of x_of

-- the turns in a plane along the x direction
abbrev pub across_left : Normal → Pt3 → Pt3 → Pt3 → ℤ
across_left n =
    if int_lt (pos 0) n.y then left z_of x_of
    else (if int_lt n.y (pos 0) then left x_of z_of
    else level_left n)

-- of points in a plane with this inward normal, seen from outside: above 0 where r lies to the right of the way from p
-- to q. It is read off two coordinates, so that the third is not needed to tell the points apart.
abbrev pub face_left : Normal → Pt3 → Pt3 → Pt3 → ℤ
face_left n =
    if int_lt (pos 0) n.x then left y_of z_of
    else (if int_lt n.x (pos 0) then left z_of y_of
    else across_left n)

-- all three numbers are at most 2^20 in size
pub record IsSmall (p : Pt3) : Type 0 where
  pub x : unsigned_abs p.x ≤ 2 ^ 20
  pub y : unsigned_abs p.y ≤ 2 ^ 20
  pub z : unsigned_abs p.z ≤ 2 ^ 20

-- there is room for a point beside it
pub record HasRoom (p : Pt3) : Type 0 where
  pub x : unsigned_abs p.x ≤ point_limit

pub record IsNarrow (n : Normal) : Type 0 where
  pub x : unsigned_abs n.x ≤ 2 ^ 44
  pub y : unsigned_abs n.y ≤ 2 ^ 44
  pub z : unsigned_abs n.z ≤ 2 ^ 44

-- p lies on the line through a and b
pub record IsOnLine (a b p : Pt3) : Type 0 where
  pub x : (normal_of a b p).x ≡ pos 0
  pub y : (normal_of a b p).y ≡ pos 0
  pub z : (normal_of a b p).z ≡ pos 0

-- p lies above the plane with a known normal through a and b, or in it on one side of their line
abbrev pub IsInFront : Normal → Pt3 → Pt3 → Pt3 → Type 0
IsInFront n a b p = IsOnward
    ((n.z *ℤ (b.y -ℤ a.y) -ℤ n.y *ℤ (b.z -ℤ a.z)) *ℤ (p.x -ℤ a.x) +ℤ
    ((n.x *ℤ (b.z -ℤ a.z) -ℤ n.z *ℤ (b.x -ℤ a.x)) *ℤ (p.y -ℤ a.y) +ℤ
    (n.y *ℤ (b.x -ℤ a.x) -ℤ n.x *ℤ (b.y -ℤ a.y)) *ℤ (p.z -ℤ a.z)))
    (depth_of n a p)

-- the known plane has all points of a list in front or on the line
pub record IsFacing (known : Normal) (a b : Pt3) (ps : List Pt3) : Type 0 where
  pub upright : depth_of known a b ≡ pos 0
  pub some : pos 0 <ℤ (known.x *ℤ known.x +ℤ (known.y *ℤ known.y +ℤ known.z *ℤ known.z))
  pub front : All (λ p. IsOnLine a b p ⊎ IsInFront known a b p) ps

-- of the first i points none lies outside of the plane through a, b and one of the points in front
pub record IsTurned (a b : Pt3) (ps : List Pt3) (n : Normal) (i : ℕ) : Type 0 where
  pub known : Normal
  pub facing : IsFacing known a b ps
  pub met : Pt3
  pub is : n ≡ normal_of a b met
  pub there : Contains ps met
  pub front : IsInFront known a b met
  pub inward : (k : ℕ) (d : Pt3) → k < i → pos 0 ≤ℤ depth_of n a (slice_index_or ps k d)
