-- The height over the divisor is that of the level.
use Rattle.std.proofs.Common.{◌≡◌, ℤ, ◌*ℤ◌, refl, ap, ap₂, ◌∙◌, arith}
use Rattle.std.specs.Ordering.{int_eq}
use mir.Syntax.{w32, w128}
use Rattle.scad_geom.proofs.Casts.{sizes, fits_by_size, handed, widened}
use Rattle.slice_outlines.proofs.Bits.{same_bits}
use Rattle.slice_outlines.proofs.flats.lies_on.Goals as goal

pub times-requires-clause-left : goal.times-requires-clause-left
times-requires-clause-left c =
    let size = c.args.e.now.height in
    omega (arith, sizes)

pub times-requires-clause-right : goal.times-requires-clause-right
times-requires-clause-right c =
    let size = c.requires.divisor in
    omega (arith, sizes)

pub returns : goal.returns
returns c =
    let y = c.args.e.now.y in
    let at = c.args.at.now in
    let size = c.args.e.now.height in
    let product : c.times.result ≡ y *ℤ at.d =
    c.times.ensures.product ∙ ap₂ (λ (s t : ℤ). s *ℤ t)
    (widened w32 w128 y (omega (arith, size)) (omega (arith, size)) refl)
    (handed w128 at.d (omega (arith, c.requires.divisor)) refl) in
    same_bits c.times.result at.n (record { sfits = c.times.type_inv })
    (fits_by_size w128 at.n (omega (arith, c.requires.size, c.requires.divisor)))
    ∙ ap (λ (z : ℤ). int_eq z at.n) product
