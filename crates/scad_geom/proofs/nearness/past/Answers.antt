-- The sizes of a doubled coordinate and of a difference.
use Rattle.std.proofs.Common.{arith, ap, unsigned_abs}
use Rattle.std.proofs.lemmas.Int.{to_z-of_z}
use Rattle.scad_geom.proofs.Casts.{sizes, doubled_size, fits_by_size}
use Rattle.scad_geom.proofs.nearness.past.Goals as goal
use mir.Syntax.{w32, w64}

pub overflow_mul-end : goal.overflow_mul-end
overflow_mul-end c = fits_by_size w64 _ (omega (arith, sizes, doubled_size))

pub minus-requires : goal.minus-requires
minus-requires c = record { fits = omega (arith, sizes, doubled_size) }

pub returns-clause-size : goal.returns-clause-size
returns-clause-size c =
    let end_same = ap unsigned_abs (to_z-of_z w32 c.args.end c.ranges.end) in
    let from_same = ap unsigned_abs (to_z-of_z w64 c.args.from c.ranges.from) in
    omega (arith, sizes, doubled_size)
