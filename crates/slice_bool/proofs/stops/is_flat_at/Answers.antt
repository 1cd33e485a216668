-- Whether the rise is 0, and the height of the edge over the divisor that of the level.
use Rattle.std.proofs.Common.{◌≡◌, ◌&&◌, Bool, ℤ, ◌*ℤ◌, refl, sym, ap, ap₂, ◌∙◌, arith, eq-eqb, of_z}
use Rattle.std.specs.Ordering.{int_eq}
use mir.Syntax.{w32, w128}
use Rattle.scad_geom.specs.Sign.{is_zero}
use Rattle.scad_geom.proofs.Casts.{sizes, fits_by_size, handed, widened}
use Rattle.slice_bool.proofs.Bits.{zero_bits, same_bits}
use Rattle.slice_bool.proofs.stops.is_flat_at.Goals as goal

pub times-requires-clause-left : goal.times-requires-clause-left
times-requires-clause-left c = omega (arith, sizes)

pub returns-then-rise-eq0 : goal.returns-then-rise-eq0
returns-then-rise-eq0 c =
    let e = c.args.e.now in
    let at = c.args.at.now in
    let zero = zero_bits c.rise.result (record { sfits = c.rise.type_inv }) ∙ ap is_zero c.rise.ensures.value in
    let y : c.times.result ≡ e.a.y *ℤ at.d =
    c.times.ensures.product ∙ ap₂ (λ (s t : ℤ). s *ℤ t)
    (widened w32 w128 e.a.y (omega (arith, c.requires.edge.a.y)) (omega (arith, c.requires.edge.a.y)) refl)
    (handed w128 at.d (omega (arith, c.requires.at.divisor)) refl) in
    same_bits c.times.result at.n (record { sfits = c.times.type_inv })
    (fits_by_size w128 at.n (omega (arith, c.requires.at.size, c.requires.at.divisor)))
    ∙ ap (λ (z : ℤ). int_eq z at.n) y
    ∙ sym (ap (λ (b : Bool). b && int_eq (e.a.y *ℤ at.d) at.n) (sym zero ∙ eq-eqb (of_z w128 c.rise.result) 0 c.if-rise-eq0.true))
