-- Each coordinate is the greater of the two.
use Rattle.std.proofs.Common.{◌^◌, ◌≤◌, ℤ, unsigned_abs, FitsSigned, arith}
use Rattle.std.proofs.lemmas.Int.{fits_signed_from_abs, to_z-of_z}
use Rattle.scad_hull.proofs.block.highest.Goals as goal
use mir.Syntax.{w32}

fits : (z : ℤ) → unsigned_abs z ≤ 2 ^ 20 → FitsSigned w32 z
fits z h = fits_signed_from_abs w32 z (omega arith)

pub returns : goal.returns
returns c =
    let a_x = fits c.args.a.x c.requires.a.x in
    let a_y = fits c.args.a.y c.requires.a.y in
    let a_z = fits c.args.a.z c.requires.a.z in
    let b_x = fits c.args.b.x c.requires.b.x in
    let b_y = fits c.args.b.y c.requires.b.y in
    let b_z = fits c.args.b.z c.requires.b.z in
    let x : FitsSigned w32 c.greater.result = record { sfits = c.greater.type_inv } in
    let y : FitsSigned w32 c.greater-2.result = record { sfits = c.greater-2.type_inv } in
    let z : FitsSigned w32 c.greater-3.result = record { sfits = c.greater-3.type_inv } in
    simp to_z-of_z (record {
      small = record { x = c.greater.ensures.small; y = c.greater-2.ensures.small; z = c.greater-3.ensures.small };
      first_x = simp to_z-of_z at c.greater.ensures.first;
      first_y = simp to_z-of_z at c.greater-2.ensures.first;
      first_z = simp to_z-of_z at c.greater-3.ensures.first;
      second_x = simp to_z-of_z at c.greater.ensures.second;
      second_y = simp to_z-of_z at c.greater-2.ensures.second;
      second_z = simp to_z-of_z at c.greater-3.ensures.second;
    })
