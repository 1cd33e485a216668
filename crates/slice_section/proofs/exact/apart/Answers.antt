-- The difference of twice the heights, and the sizes of what is handed on.
use Rattle.std.proofs.Common.{◌≡◌, unsigned_abs, refl, ap, to_z, of_z, arith}
use mir.Syntax.{w128}
use Rattle.scad_geom.proofs.Casts.{by_cast, difference_by, doubled_size}
use Rattle.slice_section.proofs.Doubled.{twice_kept, size_of}
use Rattle.slice_section.proofs.exact.apart.Goals as goal

pub minus-requires : goal.minus-requires
minus-requires c = record {
  fits = omega (
    arith,
    ap unsigned_abs (twice_kept c.args.high c.ranges.high),
    doubled_size c.args.high,
    size_of c.args.high c.ranges.high,
    ap unsigned_abs (twice_kept c.args.low c.ranges.low),
    doubled_size c.args.low,
    size_of c.args.low c.ranges.low,
  );
}

pub returns-clause-value : goal.returns-clause-value
returns-clause-value c =
    difference_by w128 c.minus.type_inv c.minus.ensures.difference (twice_kept c.args.high c.ranges.high)
    (twice_kept c.args.low c.ranges.low)

pub returns-clause-size : goal.returns-clause-size
returns-clause-size c =
    let back : to_z w128 (of_z w128 c.minus.result) ≡ c.minus.result = by_cast w128 c.minus.type_inv refl in
    omega (
      arith,
      ap unsigned_abs back,
      c.minus.ensures.size,
      ap unsigned_abs (twice_kept c.args.high c.ranges.high),
      doubled_size c.args.high,
      ap unsigned_abs (twice_kept c.args.low c.ranges.low),
      doubled_size c.args.low,
    )
