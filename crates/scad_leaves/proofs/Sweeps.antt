-- Profiles of few triangles go round in few turns, and have some.
use Rattle.std.proofs.Common.{◌≡◌, ℕ, ◌*◌, ◌<◌, ◌≤◌, true, List, length, Result, Ok, Err, sym, subst, arith}
use Rattle.std.specs.Prelude.{nat_le, IfOk}
use Rattle.std.proofs.lemmas.Bool.{leb-true, and_parts}
use Rattle.std.proofs.lemmas.Nat.{mul-le}
use Rattle.scad_solid.specs.declared.triangle.Triangle.{Triangle}
use Rattle.scad_shapes.specs.Limits.{triangle_limit}
use Rattle.scad_shapes.specs.declared.fault.ShapeFault.{ShapeFault}
use Rattle.scad_modules.specs.Primitive.{are_fragments}

pub turns-some : (turns : ℕ) → are_fragments turns ≡ true → 3 ≤ turns
turns-some turns e = leb-true 3 turns (and_parts (nat_le 3 turns) (nat_le turns 1000000000) e).0

pub turns-few : (turns : ℕ) → are_fragments turns ≡ true → turns ≤ 1000000000
turns-few turns e = leb-true turns 1000000000 (and_parts (nat_le 3 turns) (nat_le turns 1000000000) e).1

pub sweep-few : (points turns : ℕ) → 3 ≤ points → 2 * turns * points ≤ triangle_limit → turns ≤ triangle_limit
sweep-few points turns some few =
    let least : 2 * turns * 3 ≤ 2 * turns * points = mul-le (2 * turns) 3 (2 * turns) points (omega arith) some in
    omega (arith, least, few)

pub sweep-some : (points turns : ℕ) → 3 ≤ points → 3 ≤ turns → 0 < 2 * turns * points
sweep-some points turns some turned =
    let least : 6 * 3 ≤ 2 * turns * points = mul-le 6 3 (2 * turns) points (omega (arith, turned)) some in
    omega (arith, least)

-- a solid of so many triangles has some
pub sweep-solid : (points turns : ℕ) (solid : Result (List Triangle) ShapeFault) → 3 ≤ points → 3 ≤ turns
    → IfOk solid (λ (ts : List Triangle). length ts ≡ 2 * turns * points)
    → IfOk solid (λ (ts : List Triangle). 0 < length ts)
sweep-solid points turns (Ok ts) some turned count =
    subst (λ (n : ℕ). 0 < n) (sym count) (sweep-some points turns some turned)
sweep-solid points turns (Err e) some turned count = tt

pub ruleset bounds = (turns-some, turns-few, sweep-few, sweep-some)
