-- Half of a diameter is the value of each cast of it.
use Rattle.std.proofs.Common.{◌≡◌, ◌<◌, ◌≤◌, ◌^◌, ℤ, unsigned_abs, to_z, of_z, refl, ap, ◌∙◌, arith}
use Rattle.scad_geom.proofs.Casts.{by_cast, handed}
use Rattle.scad_num.specs.Number.{most}
use Rattle.scad_num.specs.Rounding.{half_away}
use Rattle.scad_modules.proofs.reading.half.Goals as goal
use mir.Syntax.{w64, w128}
use mir.Val.{hbits}
use lib.Signed.{mag}

cast_back : (z v : ℤ) → mag z < 2 ^ hbits w128 → unsigned_abs v ≤ most → z ≡ v
    → to_z w64 (of_z w64 (to_z w128 (of_z w128 z))) ≡ v
cast_back z v large small is =
    ap (λ (y : ℤ). to_z w64 (of_z w64 y)) (by_cast w128 large is) ∙ handed w64 v (omega (arith, small)) refl

pub half_away-requires-clause-room : goal.half_away-requires-clause-room
half_away-requires-clause-room c =
    rw (by_cast w128 c.from.type_inv (c.from.ensures ∙ by_cast w64 c.millionths.type_inv c.millionths.ensures.value))
    (omega (arith, c.millionths.ensures.in_range))

pub returns : goal.returns
returns c =
    let given = by_cast w128 c.from.type_inv
    (c.from.ensures ∙ by_cast w64 c.millionths.type_inv c.millionths.ensures.value) in
    let small : unsigned_abs c.half_away.result ≤ most =
    omega (arith, c.half_away.ensures.small, ap unsigned_abs given, c.millionths.ensures.in_range) in
    c.within.ensures ∙ cast_back c.half_away.result c.half_away.result c.half_away.type_inv small refl
    ∙ c.half_away.ensures.value ∙ ap (λ n. half_away n 2) given

pub within-requires : goal.within-requires
within-requires c =
    let given = by_cast w128 c.from.type_inv
    (c.from.ensures ∙ by_cast w64 c.millionths.type_inv c.millionths.ensures.value) in
    let small : unsigned_abs c.half_away.result ≤ most =
    omega (arith, c.half_away.ensures.small, ap unsigned_abs given, c.millionths.ensures.in_range) in
    rw (cast_back c.half_away.result c.half_away.result c.half_away.type_inv small refl) small
