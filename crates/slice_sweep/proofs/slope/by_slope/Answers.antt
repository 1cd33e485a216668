-- The two products.
use Rattle.std.proofs.Common.{arith, refl, ◌∙◌, FitsSigned}
use Rattle.std.specs.Ordering.{int_cmp}
use Rattle.scad_geom.proofs.Casts.{fits_by_size}
use Rattle.slice_sweep.specs.declared.ray.Ray.{Ray}
use Rattle.slice_sweep.proofs.PassedNumbers.{both, product_of}
use Rattle.slice_sweep.proofs.slope.by_slope.Goals as goal
use mir.Syntax.{w128}

run_fits : (r : Ray) → FitsSigned w128 r.run
run_fits r =
    let size = r.run_size in
    fits_by_size w128 r.run (omega (arith, size))

rise_fits : (r : Ray) → FitsSigned w128 r.rise
rise_fits r =
    let size = r.rise_size in
    fits_by_size w128 r.rise (omega (arith, size))

pub returns : goal.returns
returns c =
    let p = c.args.p.now in
    let q = c.args.q.now in
    c.cmp.ensures ∙ both int_cmp
    (product_of c.times.result p.run q.rise _ _ (record { sfits = c.times.type_inv }) (run_fits p) (rise_fits q)
    c.times.ensures.product refl refl)
    (product_of c.times-2.result q.run p.rise _ _ (record { sfits = c.times-2.type_inv }) (run_fits q) (rise_fits p)
    c.times-2.ensures.product refl refl)
