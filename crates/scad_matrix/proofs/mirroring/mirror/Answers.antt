-- The square of a normal that isn't 0 is large enough for each entry, and the entries are the reflection's.
use Rattle.std.proofs.Common.{◌^◌, ◌≤◌, ℤ, unsigned_abs, FitsSigned, ap, to_z, of_z, arith}
use Rattle.std.proofs.lemmas.Int.{to_z-of_z}
use Rattle.scad_geom.proofs.Casts.{cast_size}
use Rattle.scad_matrix.proofs.Reflection.{twice-xy, twice-yz, twice-zx, square-some, square-x, square-y, square-z}
use Rattle.scad_matrix.proofs.Reflection.{reflected}
use Rattle.scad_matrix.proofs.mirroring.mirror.Goals as goal
use mir.Syntax.{w128}

-- the square is handed on as it is
small : (square : ℤ) → unsigned_abs square ≤ 2 ^ 102 → unsigned_abs (to_z w128 (of_z w128 square)) ≤ 2 ^ 102
small square within = rw (cast_size w128 square (omega arith)) within

pub across-xy-requires-clause-small : goal.across-xy-requires-clause-small
across-xy-requires-clause-small c = small c.square-square.result c.square-square.ensures.size

pub across-yz-requires-clause-small : goal.across-yz-requires-clause-small
across-yz-requires-clause-small c = small c.square-square.result c.square-square.ensures.size

pub across-zx-requires-clause-small : goal.across-zx-requires-clause-small
across-zx-requires-clause-small c = small c.square-square.result c.square-square.ensures.size

pub along-requires-clause-small : goal.along-requires-clause-small
along-requires-clause-small c = small c.square-square.result c.square-square.ensures.size

pub along-requires-2-clause-small : goal.along-requires-2-clause-small
along-requires-2-clause-small c = small c.square-square.result c.square-square.ensures.size

pub along-requires-3-clause-small : goal.along-requires-3-clause-small
along-requires-3-clause-small c = small c.square-square.result c.square-square.ensures.size

pub across-xy-requires-clause-part : goal.across-xy-requires-clause-part
across-xy-requires-clause-part c =
    let fits : FitsSigned w128 c.square-square.result = record { sfits = c.square-square.type_inv } in
    simp to_z-of_z (twice-xy c.args.x c.args.y c.args.z c.square-square.result c.square-square.ensures.value)

pub across-yz-requires-clause-part : goal.across-yz-requires-clause-part
across-yz-requires-clause-part c =
    let fits : FitsSigned w128 c.square-square.result = record { sfits = c.square-square.type_inv } in
    simp to_z-of_z (twice-yz c.args.x c.args.y c.args.z c.square-square.result c.square-square.ensures.value)

pub across-zx-requires-clause-part : goal.across-zx-requires-clause-part
across-zx-requires-clause-part c =
    let fits : FitsSigned w128 c.square-square.result = record { sfits = c.square-square.type_inv } in
    simp to_z-of_z (twice-zx c.args.x c.args.y c.args.z c.square-square.result c.square-square.ensures.value)

pub across-xy-requires-clause-some : goal.across-xy-requires-clause-some
across-xy-requires-clause-some c =
    let fits : FitsSigned w128 c.square-square.result = record { sfits = c.square-square.type_inv } in
    simp to_z-of_z (square-some c.args.x c.args.y c.args.z c.square-square.result c.square-square.ensures.value
    (λ e. c.if-square-eq0.false (ap (of_z w128) e)))

pub across-yz-requires-clause-some : goal.across-yz-requires-clause-some
across-yz-requires-clause-some c =
    let fits : FitsSigned w128 c.square-square.result = record { sfits = c.square-square.type_inv } in
    simp to_z-of_z (square-some c.args.x c.args.y c.args.z c.square-square.result c.square-square.ensures.value
    (λ e. c.if-square-eq0.false (ap (of_z w128) e)))

pub across-zx-requires-clause-some : goal.across-zx-requires-clause-some
across-zx-requires-clause-some c =
    let fits : FitsSigned w128 c.square-square.result = record { sfits = c.square-square.type_inv } in
    simp to_z-of_z (square-some c.args.x c.args.y c.args.z c.square-square.result c.square-square.ensures.value
    (λ e. c.if-square-eq0.false (ap (of_z w128) e)))

pub along-requires-clause-some : goal.along-requires-clause-some
along-requires-clause-some c =
    let fits : FitsSigned w128 c.square-square.result = record { sfits = c.square-square.type_inv } in
    simp to_z-of_z (square-some c.args.x c.args.y c.args.z c.square-square.result c.square-square.ensures.value
    (λ e. c.if-square-eq0.false (ap (of_z w128) e)))

pub along-requires-2-clause-some : goal.along-requires-2-clause-some
along-requires-2-clause-some c =
    let fits : FitsSigned w128 c.square-square.result = record { sfits = c.square-square.type_inv } in
    simp to_z-of_z (square-some c.args.x c.args.y c.args.z c.square-square.result c.square-square.ensures.value
    (λ e. c.if-square-eq0.false (ap (of_z w128) e)))

pub along-requires-3-clause-some : goal.along-requires-3-clause-some
along-requires-3-clause-some c =
    let fits : FitsSigned w128 c.square-square.result = record { sfits = c.square-square.type_inv } in
    simp to_z-of_z (square-some c.args.x c.args.y c.args.z c.square-square.result c.square-square.ensures.value
    (λ e. c.if-square-eq0.false (ap (of_z w128) e)))

pub along-requires-clause-part : goal.along-requires-clause-part
along-requires-clause-part c =
    let fits : FitsSigned w128 c.square-square.result = record { sfits = c.square-square.type_inv } in
    simp to_z-of_z (square-x c.args.x c.args.y c.args.z c.square-square.result c.square-square.ensures.value)

pub along-requires-2-clause-part : goal.along-requires-2-clause-part
along-requires-2-clause-part c =
    let fits : FitsSigned w128 c.square-square.result = record { sfits = c.square-square.type_inv } in
    simp to_z-of_z (square-y c.args.x c.args.y c.args.z c.square-square.result c.square-square.ensures.value)

pub along-requires-3-clause-part : goal.along-requires-3-clause-part
along-requires-3-clause-part c =
    let fits : FitsSigned w128 c.square-square.result = record { sfits = c.square-square.type_inv } in
    simp to_z-of_z (square-z c.args.x c.args.y c.args.z c.square-square.result c.square-square.ensures.value)

pub returns : goal.returns
returns c =
    let fits : FitsSigned w128 c.square-square.result = record { sfits = c.square-square.type_inv } in
    reflected c.args.x c.args.y c.args.z c.square-square.result c.along.result c.along-2.result c.along-3.result
    c.across-xy.result c.across-yz.result c.across-zx.result c.within-o.result c.square-square.ensures.value
    (λ e. c.if-square-eq0.false (ap (of_z w128) e)) (simp to_z-of_z at c.along.ensures)
    (simp to_z-of_z at c.along-2.ensures) (simp to_z-of_z at c.along-3.ensures) (simp to_z-of_z at c.across-xy.ensures)
    (simp to_z-of_z at c.across-yz.ensures) (simp to_z-of_z at c.across-zx.ensures) c.within-o.ensures
