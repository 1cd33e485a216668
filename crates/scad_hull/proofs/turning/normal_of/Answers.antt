-- Each number is the area of two ways.
use Rattle.std.proofs.Common.{◌≡◌, ◌≤◌, ◌^◌, ℤ, ◌-ℤ◌, ◌*ℤ◌, unsigned_abs, to_z, of_z, refl, ap, ◌∙◌, arith}
use Rattle.scad_geom.proofs.Casts.{by_cast, cast_size, handed}
use Rattle.scad_hull.proofs.turning.normal_of.Goals as goal
use mir.Syntax.{w128}

kept : (z : ℤ) → unsigned_abs z ≤ 2 ^ 21 → unsigned_abs (to_z w128 (of_z w128 z)) ≤ 2 ^ 21
kept z small = omega (arith, cast_size w128 z (omega arith))

told : (z : ℤ) {v : ℤ} → unsigned_abs z ≤ 2 ^ 21 → z ≡ v → to_z w128 (of_z w128 z) ≡ v
told z small is = handed w128 z (omega arith) is

narrow : (z y : ℤ) → z ≡ y → unsigned_abs y ≤ 2 ^ 43 → unsigned_abs z ≤ 2 ^ 44
narrow z y e small = omega (arith, ap unsigned_abs e)

pub area-requires : goal.area-requires
area-requires c =
    let u = c.between-u in
    let v = c.between-v in
    record {
      a = kept u.result.y u.ensures.wide_y;
      b = kept u.result.z u.ensures.wide_z;
      c = kept v.result.y v.ensures.wide_y;
      d = kept v.result.z v.ensures.wide_z;
    }

pub area-requires-2 : goal.area-requires-2
area-requires-2 c =
    let u = c.between-u in
    let v = c.between-v in
    record {
      a = kept u.result.z u.ensures.wide_z;
      b = kept u.result.x u.ensures.wide_x;
      c = kept v.result.z v.ensures.wide_z;
      d = kept v.result.x v.ensures.wide_x;
    }

pub area-requires-3 : goal.area-requires-3
area-requires-3 c =
    let u = c.between-u in
    let v = c.between-v in
    record {
      a = kept u.result.x u.ensures.wide_x;
      b = kept u.result.y u.ensures.wide_y;
      c = kept v.result.x v.ensures.wide_x;
      d = kept v.result.y v.ensures.wide_y;
    }

pub returns-clause-value : goal.returns-clause-value
returns-clause-value c =
    let ux = told c.between-u.result.x c.between-u.ensures.wide_x c.between-u.ensures.x in
    let uy = told c.between-u.result.y c.between-u.ensures.wide_y c.between-u.ensures.y in
    let uz = told c.between-u.result.z c.between-u.ensures.wide_z c.between-u.ensures.z in
    let vx = told c.between-v.result.x c.between-v.ensures.wide_x c.between-v.ensures.x in
    let vy = told c.between-v.result.y c.between-v.ensures.wide_y c.between-v.ensures.y in
    let vz = told c.between-v.result.z c.between-v.ensures.wide_z c.between-v.ensures.z in
    λ i. record {
      x = by_cast w128 c.area.type_inv (c.area.ensures.value ∙ (λ j. uy j *ℤ vz j -ℤ uz j *ℤ vy j)) i;
      y = by_cast w128 c.area-2.type_inv (c.area-2.ensures.value ∙ (λ j. uz j *ℤ vx j -ℤ ux j *ℤ vz j)) i;
      z = by_cast w128 c.area-3.type_inv (c.area-3.ensures.value ∙ (λ j. ux j *ℤ vy j -ℤ uy j *ℤ vx j)) i;
    }

pub returns-clause-narrow : goal.returns-clause-narrow
returns-clause-narrow c = record {
  x = narrow _ c.area.result (by_cast w128 c.area.type_inv refl) c.area.ensures.size;
  y = narrow _ c.area-2.result (by_cast w128 c.area-2.type_inv refl) c.area-2.ensures.size;
  z = narrow _ c.area-3.result (by_cast w128 c.area-3.type_inv refl) c.area-3.ensures.size;
}
