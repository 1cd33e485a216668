-- Points that are the same over any divisors.
use Rattle.std.proofs.Common.{◌≡◌, true, ◌*ℤ◌}
use Rattle.std.specs.Ordering.{int_eq}
use Rattle.std.specs.Cmp.{signed_Decides}
use Rattle.std.proofs.lemmas.Bool.{and_parts}
use Rattle.scad_geom.specs.Point.{Point, is_same_point}

pub same_height : (p q : Point) → is_same_point p q ≡ true → p.y *ℤ q.d ≡ q.y *ℤ p.d
same_height p q h = (signed_Decides (p.y *ℤ q.d) (q.y *ℤ p.d)).0 (and_parts (int_eq (p.y *ℤ q.d) (q.y *ℤ p.d))
    (int_eq (p.x *ℤ q.d) (q.x *ℤ p.d)) h).0

pub same_across : (p q : Point) → is_same_point p q ≡ true → p.x *ℤ q.d ≡ q.x *ℤ p.d
same_across p q h = (signed_Decides (p.x *ℤ q.d) (q.x *ℤ p.d)).0 (and_parts (int_eq (p.y *ℤ q.d) (q.y *ℤ p.d))
    (int_eq (p.x *ℤ q.d) (q.x *ℤ p.d)) h).1
