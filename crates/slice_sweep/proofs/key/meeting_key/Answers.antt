-- The quotient of what they lie apart by how they lean to one another, or a lower key.
use Rattle.std.proofs.Common.{arith, ◌≡◌, ◌⊎◌, FitsSigned, ◌*ℤ◌}
use lib.Signed.{◌≤ℤ◌}
use Rattle.std.proofs.lemmas.Int.{to_z-of_z}
use Rattle.scad_base.proofs.Tests.{int_lt-true}
use Rattle.scad_geom.specs.Line.{lean, apart}
use Rattle.slice_sweep.specs.Keys.{parts, stale}
use Rattle.slice_sweep.proofs.Keys.{meeting_by}
use Rattle.slice_sweep.proofs.key.meeting_key.Goals as goal
use mir.Syntax.{w64, w128}

pub returns-then-lean-gt0-clause-meeting : goal.returns-then-lean-gt0-clause-meeting
returns-then-lean-gt0-clause-meeting c p =
    let k_fits : FitsSigned w64 c.least.result = record { sfits = c.least.type_inv } in
    let q_fits : FitsSigned w128 c.floor.result = record { sfits = c.floor.type_inv } in
    let l_fits : FitsSigned w128 c.lean-lean.result = record { sfits = c.lean-lean.type_inv } in
    let t_fits : FitsSigned w128 c.times.result = record { sfits = c.times.type_inv } in
    let a_fits : FitsSigned w128 c.apart.result = record { sfits = c.apart.type_inv } in
    let key : (c.least.result ≤ℤ stale) ⊎ (c.least.result ≤ℤ c.floor.result) = simp to_z-of_z at c.least.ensures.key in
    let least : (c.floor.result *ℤ c.lean-lean.result) ≤ℤ c.times.result = simp to_z-of_z at c.floor.ensures.least in
    let product : c.times.result ≡ c.apart.result *ℤ parts = simp to_z-of_z at c.times.ensures.product in
    simp to_z-of_z (meeting_by c.least.result c.floor.result c.lean-lean.result (lean c.args.e.now c.args.f.now)
    c.times.result c.apart.result (apart c.args.f.now c.args.e.now) key least product c.lean-lean.ensures.value
    c.apart.ensures.value p)

pub lean-lean-requires-clause-e : goal.lean-lean-requires-clause-e
lean-lean-requires-clause-e c = c.requires.e

pub lean-lean-requires-clause-f : goal.lean-lean-requires-clause-f
lean-lean-requires-clause-f c = c.requires.f

pub apart-requires-clause-e : goal.apart-requires-clause-e
apart-requires-clause-e c = c.requires.f

pub apart-requires-clause-f : goal.apart-requires-clause-f
apart-requires-clause-f c = c.requires.e

pub times-requires-clause-left : goal.times-requires-clause-left
times-requires-clause-left c =
    rw (to_z-of_z w128 c.apart.result (record { sfits = c.apart.type_inv })) c.apart.ensures.size

pub floor-requires-clause-divisor : goal.floor-requires-clause-divisor
floor-requires-clause-divisor c = int_lt-true _ _ c.if-lean-gt0.true

pub floor-requires-clause-size : goal.floor-requires-clause-size
floor-requires-clause-size c =
    let size = c.times.ensures.size in
    rw (to_z-of_z w128 c.times.result (record { sfits = c.times.type_inv })) (omega arith)

pub returns-then-lean-gt0-clause-most : goal.returns-then-lean-gt0-clause-most
returns-then-lean-gt0-clause-most c =
    let k_fits : FitsSigned w64 c.least.result = record { sfits = c.least.type_inv } in
    let m_fits : FitsSigned w64 c.args.most = c.ranges.most in
    simp to_z-of_z (simp to_z-of_z at c.least.ensures.most)
