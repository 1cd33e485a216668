-- A product of two numbers within twice the limit.
use Rattle.std.proofs.Common.{◌≡◌, ◌*◌, ℤ, unsigned_abs, to_z, of_z, refl, ap, ap₂, arith}
use Rattle.std.proofs.lemmas.Nat.{mul-le}
use Rattle.scad_geom.proofs.Casts.{product_by, by_cast, handed}
use mir.Syntax.{w64}
use Rattle.slice_events.proofs.line.area.Goals as goal

pub product-requires : goal.product-requires
product-requires c =
    let left : to_z w64 (of_z w64 c.args.a) ≡ c.args.a = handed w64 c.args.a (omega (arith, c.requires.a)) refl in
    let right : to_z w64 (of_z w64 c.args.b) ≡ c.args.b = handed w64 c.args.b (omega (arith, c.requires.b)) refl in
    let same = ap₂ (λ (s t : ℤ). unsigned_abs s * unsigned_abs t) left right in
    let most = mul-le _ _ _ _ c.requires.a c.requires.b in
    record { fits = omega (arith, same, most) }

pub returns-clause-value : goal.returns-clause-value
returns-clause-value c =
    let left : to_z w64 (of_z w64 c.args.a) ≡ c.args.a = handed w64 c.args.a (omega (arith, c.requires.a)) refl in
    let right : to_z w64 (of_z w64 c.args.b) ≡ c.args.b = handed w64 c.args.b (omega (arith, c.requires.b)) refl in
    product_by w64 c.product.type_inv c.product.ensures.product left right

pub returns-clause-size : goal.returns-clause-size
returns-clause-size c =
    let left : to_z w64 (of_z w64 c.args.a) ≡ c.args.a = handed w64 c.args.a (omega (arith, c.requires.a)) refl in
    let right : to_z w64 (of_z w64 c.args.b) ≡ c.args.b = handed w64 c.args.b (omega (arith, c.requires.b)) refl in
    let back : to_z w64 (of_z w64 c.product.result) ≡ c.product.result = by_cast w64 c.product.type_inv refl in
    let size = ap unsigned_abs back in
    let same = ap₂ (λ (s t : ℤ). unsigned_abs s * unsigned_abs t) left right in
    let most = mul-le _ _ _ _ c.requires.a c.requires.b in
    omega (arith, size, c.product.ensures.size, same, most)
