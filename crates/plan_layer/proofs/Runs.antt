-- Each exact point of a run has a whole point of the run under it.
use Rattle.std.proofs.Common.{◌≡◌, arith, ℤ, pos, ◌+ℤ◌, ◌*ℤ◌, ◌<ℤ◌}
use Rattle.std.proofs.lemmas.Int.{ints}
use Rattle.plan_infill.specs.declared.line.Line.TheVariants.{Row, Column}
use Rattle.plan_infill.specs.Quotient.{IsFloor}
use Rattle.plan_infill.specs.Runs.{point_on}
use Rattle.plan_infill.proofs.Means.{has_floor, at_one_place}
use Rattle.plan_layer.specs.Clearance.{RunsKeepClear}
use Rattle.plan_layer.proofs.Under.{deep_keeps}

-- of ends at one place the point is there
level_floor : (k s t n d a : ℤ) → pos 0 <ℤ k → pos 0 <ℤ d → k *ℤ n ≡ s *ℤ a +ℤ t *ℤ a
    → k *ℤ d ≡ s *ℤ pos 1 +ℤ t *ℤ pos 1 → IsFloor n d a
level_floor k s t n d a hk pd hn hd =
    let e = at_one_place k s t n d a hk hn hd in
    record { least = omega (arith, ints, e); most = omega (arith, ints, e) }

-- ---- of a run
pub runs_keep_clear : RunsKeepClear
runs_keep_clear outlines c least (Row y) r two is q hd on =
    let long = is.long in
    let f = has_floor on.k on.s on.t q.x q.d r.from r.to on.positive on.first on.second hd (omega (arith, ints)) on.x
    on.d in
    deep_keeps outlines c (point_on (Row y) f.place) q hd
    (record { x = f.floor; y = level_floor on.k on.s on.t q.y q.d y on.positive hd on.y on.d })
    (is.deep f.place f.from f.to) two
runs_keep_clear outlines c least (Column x) r two is q hd on =
    let long = is.long in
    let f = has_floor on.k on.s on.t q.y q.d r.from r.to on.positive on.first on.second hd (omega (arith, ints)) on.y
    on.d in
    deep_keeps outlines c (point_on (Column x) f.place) q hd
    (record { x = level_floor on.k on.s on.t q.x q.d x on.positive hd on.x on.d; y = f.floor })
    (is.deep f.place f.from f.to) two
