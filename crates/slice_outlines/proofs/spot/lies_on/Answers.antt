-- The height over the divisor is that of the level.
use Rattle.std.proofs.Common.{◌≡◌, ℤ, ◌*ℤ◌, refl, ap, ap₂, ◌∙◌, arith}
use Rattle.std.specs.Ordering.{int_eq}
use mir.Syntax.{w32, w128}
use Rattle.scad_geom.proofs.Casts.{sizes, fits_by_size, handed, widened}
use Rattle.slice_outlines.proofs.Bits.{same_bits}
use Rattle.slice_outlines.proofs.spot.lies_on.Goals as goal

pub times-requires-clause-left : goal.times-requires-clause-left
times-requires-clause-left c =
    let size = c.requires.point.y in
    omega (arith, sizes)

pub times-requires-clause-right : goal.times-requires-clause-right
times-requires-clause-right c =
    let size = c.requires.at.divisor in
    omega (arith, sizes)

pub returns : goal.returns
returns c =
    let y = c.args.p.y in
    let at = c.args.at.now in
    let size = c.requires.point.y in
    let product : c.times.result ≡ y *ℤ at.d =
    c.times.ensures.product ∙ ap₂ (λ (s t : ℤ). s *ℤ t)
    (widened w32 w128 y (omega (arith, size)) (omega (arith, size)) refl)
    (handed w128 at.d (omega (arith, c.requires.at.divisor)) refl) in
    same_bits c.times.result at.n (record { sfits = c.times.type_inv })
    (fits_by_size w128 at.n (omega (arith, c.requires.at.size, c.requires.at.divisor)))
    ∙ ap (λ (z : ℤ). int_eq z at.n) product
