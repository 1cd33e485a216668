-- How many points an outline has.
use Rattle.std.proofs.Common.{◌≡◌, ℕ, ℤ, ◌≤◌, true, length, arith}
use Rattle.std.specs.Prelude.{nat_le}
use Rattle.std.proofs.lemmas.Bool.{leb-true, and_parts}
use Rattle.std.proofs.lemmas.List.FromFn.{length-map-range_with_len}
use Rattle.scad_cos.specs.Circle.{fragment_limit}
use Rattle.scad_shapes.specs.Outline.{vertex, circle}
use Rattle.scad_modules.specs.Outline.{Outline, square, round, path, points_in, is_outline}

pub circle-length : (r : ℤ) (n : ℕ) → length (circle r n) ≡ n
circle-length r n = length-map-range_with_len (vertex r n) 0 n

pub outline-some : (o : Outline) → is_outline o ≡ true → 3 ≤ points_in o
outline-some (square x y center) e = omega arith
outline-some (round r n) e = leb-true 3 n (and_parts (nat_le 3 n) (nat_le n fragment_limit) e).0
outline-some (path points) e = leb-true 3 (length points) e

pub ruleset lengths = (circle-length, outline-some)
