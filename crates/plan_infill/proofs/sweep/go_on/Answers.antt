-- Where a stretch is open, its start and the place before lie within the limit.
use Rattle.std.proofs.Common.{◌≡◌, ◌≤◌, ℤ, pos, ◌-ℤ◌, unsigned_abs, to_z, of_z, FitsSigned, Option, ap, ◌∙◌, subst, arith}
use Rattle.std.proofs.lemmas.Int.{to_z-of_z}
use mir.Syntax.{w128}
use Rattle.scad_geom.specs.Limits.{coordinate_limit}
use Rattle.scad_geom.proofs.Casts.{fits_by_size}
use Rattle.plan_infill.specs.Sweep.{IsOpenWithin}
use Rattle.plan_infill.proofs.sweep.go_on.Goals as goal

fits : (z : ℤ) → unsigned_abs z ≤ coordinate_limit → FitsSigned w128 z
fits z small = fits_by_size w128 z (omega arith)

before_fits : (at : ℤ) → FitsSigned w128 at → unsigned_abs (at -ℤ pos 1) ≤ coordinate_limit
    → FitsSigned w128 (to_z w128 (of_z w128 at) -ℤ pos 1)
before_fits at there small = rw (to_z-of_z w128 at there) (fits (at -ℤ pos 1) small)

before : (at : ℤ) → FitsSigned w128 at → unsigned_abs (at -ℤ pos 1) ≤ coordinate_limit
    → to_z w128 (of_z w128 (to_z w128 (of_z w128 at) -ℤ pos 1)) ≡ at -ℤ pos 1
before at there small =
    ap (λ (z : ℤ). to_z w128 (of_z w128 (z -ℤ pos 1))) (to_z-of_z w128 at there)
    ∙ to_z-of_z w128 (at -ℤ pos 1) (fits (at -ℤ pos 1) small)

pub overflow_sub-at : goal.overflow_sub-at
overflow_sub-at c =
    let open_within = subst (λ (s : Option ℤ). IsOpenWithin coordinate_limit s c.args.at) c.in-Some.is c.requires in
    before_fits c.args.at c.ranges.at open_within.1

pub push_long-requires : goal.push_long-requires
push_long-requires c =
    let open_within = subst (λ (s : Option ℤ). IsOpenWithin coordinate_limit s c.args.at) c.in-Some.is c.requires in
    record {
      from = rw (to_z-of_z w128 c.in-Some.from (fits c.in-Some.from open_within.0)) open_within.0;
      to = rw (before c.args.at c.ranges.at open_within.1) open_within.1;
    }
