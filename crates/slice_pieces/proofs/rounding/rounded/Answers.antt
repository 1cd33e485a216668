-- The numbers of a spot are in range of rounding.
use Rattle.std.proofs.Common.{◌≡◌, ℕ, ℤ, ◌<ℤ◌, ◌≤◌, ◌*◌, ◌^◌, ap₂, refl, sym, ◌∙◌, pos, subst, to_z, of_z, arith}
use Rattle.std.specs.Prelude.{unsigned_abs}
use mir.Syntax.{w32, w128}
use Rattle.scad_geom.specs.declared.point.Pt.{Pt}
use Rattle.scad_geom.specs.Limits.{coordinate_limit}
use Rattle.scad_geom.specs.Rounding.{half_down}
use Rattle.scad_geom.proofs.Casts.{by_cast, cast_size, product_by}
use Rattle.slice_pieces.specs.Spots.{point_of}
use Rattle.slice_pieces.proofs.SameSpots.{divisor_above}
use Rattle.slice_pieces.proofs.SpotRange.{divisor_bits, across_within, across_kept, divisor_kept, run_kept}
use Rattle.slice_pieces.proofs.rounding.rounded.Goals as goal

pub times-d-requires-clause-left : goal.times-d-requires-clause-left
times-d-requires-clause-left c =
    subst (λ (z : ℤ). unsigned_abs z ≤ 2 ^ 44) (sym (divisor_kept c.args.s.now c.requires))
    (omega (arith, c.requires.level.divisor))

pub times-d-requires-clause-right : goal.times-d-requires-clause-right
times-d-requires-clause-right c =
    subst (λ (z : ℤ). unsigned_abs z ≤ 2 ^ 22) (sym (run_kept c.args.s.now c.requires)) (omega (arith, c.requires.run))

pub round_half_down-requires : goal.round_half_down-requires
round_half_down-requires c =
    let s = c.args.s.now in
    let d : to_z w128 (of_z w128 c.times-d.result) ≡ (point_of s).d =
    product_by w128 c.times-d.type_inv c.times-d.ensures.product (divisor_kept s c.requires) (run_kept s c.requires) in
    record {
      divisor = subst (λ (z : ℤ). pos 0 <ℤ z) (sym d) (divisor_above coordinate_limit s c.requires);
      bits = subst (λ (z : ℤ). z <ℤ pos (2 ^ 65)) (sym d) (divisor_bits s c.requires);
      range = subst (λ (z : ℤ). unsigned_abs z ≤ coordinate_limit * unsigned_abs (to_z w128 (of_z w128 c.times-d.result)))
          (sym (across_kept s c.requires))
          (subst (λ (z : ℤ). unsigned_abs s.x ≤ coordinate_limit * unsigned_abs z) (sym d) (across_within s c.requires));
    }

pub round_half_down-requires-2 : goal.round_half_down-requires-2
round_half_down-requires-2 c =
    let s = c.args.s.now in
    let d : to_z w128 (of_z w128 c.times-d.result) ≡ (point_of s).d =
    product_by w128 c.times-d.type_inv c.times-d.ensures.product (divisor_kept s c.requires) (run_kept s c.requires) in
    let height : to_z w128 (of_z w128 c.height.result) ≡ c.height.result = by_cast w128 c.height.type_inv refl in
    record {
      divisor = subst (λ (z : ℤ). pos 0 <ℤ z) (sym d) (divisor_above coordinate_limit s c.requires);
      bits = subst (λ (z : ℤ). z <ℤ pos (2 ^ 65)) (sym d) (divisor_bits s c.requires);
      range = subst (λ (z : ℤ). unsigned_abs z ≤ coordinate_limit * unsigned_abs (to_z w128 (of_z w128 c.times-d.result)))
          (sym height)
          (subst (λ (z : ℤ). unsigned_abs c.height.result ≤ coordinate_limit * unsigned_abs z) (sym d)
          c.height.ensures.size);
    }

pub returns-clause-value : goal.returns-clause-value
returns-clause-value c =
    let s = c.args.s.now in
    let point : ℤ → ℤ → Pt = λ x y. record { x = x; y = y } in
    let d : to_z w128 (of_z w128 c.times-d.result) ≡ (point_of s).d =
    product_by w128 c.times-d.type_inv c.times-d.ensures.product (divisor_kept s c.requires) (run_kept s c.requires) in
    ap₂ point
    (by_cast w32 c.round_half_down.type_inv (c.round_half_down.ensures.value ∙ ap₂ half_down (across_kept s c.requires) d))
    (by_cast w32 c.round_half_down-2.type_inv (c.round_half_down-2.ensures.value
    ∙ ap₂ half_down (by_cast w128 c.height.type_inv c.height.ensures.value) d))

pub returns-clause-within : goal.returns-clause-within
returns-clause-within c =
    let most = λ (n : ℕ). n ≤ coordinate_limit in
    record {
      x = subst most (sym (cast_size w32 c.round_half_down.result (omega (arith, c.round_half_down.ensures.size))))
          c.round_half_down.ensures.size;
      y = subst most (sym (cast_size w32 c.round_half_down-2.result (omega (arith, c.round_half_down-2.ensures.size))))
          c.round_half_down-2.ensures.size;
    }
