-- An edge that starts at the height lies at its lower end, and any other between its ends.
use Rattle.std.proofs.Common.{◌*ℤ◌, sym, ◌∙◌, FitsSigned}
use Rattle.std.specs.Cmp.{signed_Decides}
use Rattle.std.proofs.lemmas.Int.{to_z-of_z}
use Rattle.scad_geom.specs.Line.{low}
use Rattle.slice_bundles.proofs.Live.{reaches_is}
use Rattle.slice_sweep.proofs.Sides.{between_its_ends, between_at_start}
use Rattle.slice_sweep.proofs.spot.spot_on.Goals as goal
use mir.Syntax.{w32, w128}

pub returns-then-starts_at-clause-between : goal.returns-then-starts_at-clause-between
returns-then-starts_at-clause-between c =
    let e = c.args.e.now in
    let at = c.args.at.now in
    let x_fits : FitsSigned w128 c.x_at-x.result = record { sfits = c.x_at-x.type_inv } in
    let up_fits : FitsSigned w128 c.rise-up.result = record { sfits = c.rise-up.type_inv } in
    let p_fits : FitsSigned w32 c.low_x-whole.result = record { sfits = c.low_x-whole.type_inv } in
    simp to_z-of_z (between_at_start at e (reaches_is e at at c.requires.reach)
    ((signed_Decides ((low e).y *ℤ at.d) at.n).0 (sym c.starts_at.ensures ∙ c.if-starts_at.true))
    c.x_at-x.result c.rise-up.result c.low_x-whole.result c.x_at-x.ensures.value c.rise-up.ensures.value
    c.low_x-whole.ensures)

pub returns-clause-between : goal.returns-clause-between
returns-clause-between c =
    let e = c.args.e.now in
    let at = c.args.at.now in
    let x_fits : FitsSigned w128 c.x_at-x.result = record { sfits = c.x_at-x.type_inv } in
    let up_fits : FitsSigned w128 c.rise-up.result = record { sfits = c.rise-up.type_inv } in
    let l_fits : FitsSigned w32 c.left_end.result = record { sfits = c.left_end.type_inv } in
    let r_fits : FitsSigned w32 c.right_end.result = record { sfits = c.right_end.type_inv } in
    simp to_z-of_z (between_its_ends at e (reaches_is e at at c.requires.reach) c.x_at-x.result c.rise-up.result c.left_end.result
    c.right_end.result c.x_at-x.ensures.value c.rise-up.ensures.value c.left_end.ensures.a c.left_end.ensures.b
    c.right_end.ensures.a c.right_end.ensures.b)
