-- The entry is the rounded quotient of what was computed in steps, and is between -1 and 1.
use Rattle.std.proofs.Common.{◌≡◌, ◌*◌, ◌≤◌, ℤ, pos, ◌-ℤ◌, ◌*ℤ◌, unsigned_abs, FitsSigned, ap₂, sym, subst, ◌∙◌, arith}
use Rattle.std.proofs.lemmas.Int.{ints, to_z-of_z}
use Rattle.scad_geom.proofs.Casts.{cast_size}
use Rattle.scad_num.specs.Rounding.{half_away}
use Rattle.scad_matrix.proofs.Reflection.{along-exact, along-small}
use Rattle.scad_matrix.proofs.mirroring.along.Goals as goal
use mir.Syntax.{w128}

pub rounded-requires-clause-small : goal.rounded-requires-clause-small
rounded-requires-clause-small c =
    let square_fits = c.ranges.square in
    let whole_fits : FitsSigned w128 c.times-whole.result = record { sfits = c.times-whole.type_inv } in
    let product_fits : FitsSigned w128 c.product.result = record { sfits = c.product.type_inv } in
    let twice_fits : FitsSigned w128 c.times-twice.result = record { sfits = c.times-twice.type_inv } in
    let minus_fits : FitsSigned w128 c.minus.result = record { sfits = c.minus.type_inv } in
    let exact = along-exact c.args.v c.args.square c.minus.result _ _ _ (simp to_z-of_z at c.minus.ensures.difference)
    (simp to_z-of_z at c.times-whole.ensures.product) (simp to_z-of_z at c.times-twice.ensures.product)
    c.product.ensures.value in
    let size : c.unsigned_abs.result ≡ unsigned_abs c.args.square = simp to_z-of_z at c.unsigned_abs.ensures.value in
    let small : unsigned_abs c.minus.result ≤ 1000000 * c.unsigned_abs.result =
    subst (λ (n : ℤ). unsigned_abs n ≤ 1000000 * c.unsigned_abs.result) (sym exact)
    (subst (λ d. unsigned_abs (pos 1000000 *ℤ c.args.square -ℤ pos 2000000 *ℤ (c.args.v *ℤ c.args.v)) ≤ 1000000 * d)
    (sym size) (along-small c.args.v c.args.square c.requires.part)) in
    simp to_z-of_z small

pub returns : goal.returns
returns c =
    let square_fits = c.ranges.square in
    let whole_fits : FitsSigned w128 c.times-whole.result = record { sfits = c.times-whole.type_inv } in
    let product_fits : FitsSigned w128 c.product.result = record { sfits = c.product.type_inv } in
    let twice_fits : FitsSigned w128 c.times-twice.result = record { sfits = c.times-twice.type_inv } in
    let minus_fits : FitsSigned w128 c.minus.result = record { sfits = c.minus.type_inv } in
    let exact = along-exact c.args.v c.args.square c.minus.result _ _ _ (simp to_z-of_z at c.minus.ensures.difference)
    (simp to_z-of_z at c.times-whole.ensures.product) (simp to_z-of_z at c.times-twice.ensures.product)
    c.product.ensures.value in
    let size : c.unsigned_abs.result ≡ unsigned_abs c.args.square = simp to_z-of_z at c.unsigned_abs.ensures.value in
    simp to_z-of_z at c.rounded.ensures ∙ ap₂ half_away exact size

-- ---- what is handed on is in range
pub times-whole-requires-clause-right : goal.times-whole-requires-clause-right
times-whole-requires-clause-right c =
    rw (cast_size w128 c.args.square (omega (arith, c.requires.small))) c.requires.small

pub times-twice-requires-clause-right : goal.times-twice-requires-clause-right
times-twice-requires-clause-right c =
    rw (cast_size w128 c.product.result (omega (arith, c.product.ensures.size))) c.product.ensures.size

pub minus-requires : goal.minus-requires
minus-requires c =
    let whole = c.times-whole.ensures.size in
    let twice = c.times-twice.ensures.size in
    record {
      fits = rw (
        cast_size w128 c.times-whole.result (omega (arith, whole)),
        cast_size w128 c.times-twice.result (omega (arith, twice)),
      ) (omega (arith, whole, twice));
    }

size_is : (c : goal.After-unsigned_abs) → c.unsigned_abs.result ≡ unsigned_abs c.args.square
size_is c = c.unsigned_abs.ensures.value ∙ cast_size w128 c.args.square (omega (arith, c.requires.small))

pub rounded-requires-clause-divisor : goal.rounded-requires-clause-divisor
rounded-requires-clause-divisor c = rw (size_is c) (omega (arith, ints, c.requires.some))

pub rounded-requires-clause-room : goal.rounded-requires-clause-room
rounded-requires-clause-room c = rw (size_is c) c.requires.small
