-- How far apart the ends are, and that it is within twice the limit.
use Rattle.std.proofs.Common.{◌≡◌, to_z, of_z, ap, arith}
use Rattle.scad_geom.specs.declared.point.Pt.{Pt}
use Rattle.scad_geom.specs.Line.{low, high, rise}
use Rattle.scad_geom.proofs.Casts.{sizes}
use Rattle.scad_geom.proofs.Casts.{difference_by, handed}
use mir.Syntax.{w32, w64}
use Rattle.slice_events.proofs.line.rise_of.Goals as goal

pub returns-clause-value : goal.returns-clause-value
unfolding rise
returns-clause-value c =
    let e = c.args.e.now in
    let from = c.low.result in
    let to = c.high.result in
    let low_within = c.low.ensures.within c.requires in
    let high_within = c.high.ensures.within c.requires in
    let start : to_z w32 (of_z w32 from.y) ≡ (low e).y =
    handed w32 from.y (omega (arith, low_within.y)) (ap (λ (p : Pt). p.y) c.low.ensures.value) in
    let end : to_z w32 (of_z w32 to.y) ≡ (high e).y =
    handed w32 to.y (omega (arith, high_within.y)) (ap (λ (p : Pt). p.y) c.high.ensures.value) in
    difference_by w64 c.span.type_inv c.span.ensures.difference end start

pub returns-clause-size : goal.returns-clause-size
returns-clause-size c =
    let low = c.low.ensures.within c.requires in
    let high = c.high.ensures.within c.requires in
    omega (arith, sizes)
