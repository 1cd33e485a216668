-- The second test is made where the first holds.
use Rattle.std.proofs.Common.{◌*ℤ◌, ◌&&◌, Bool, pos, int_le, refl, sym, ap, ap₂, ◌∙◌, arith}
use mir.Syntax.{w128}
use Rattle.scad_geom.proofs.Casts.{by_cast, handed}
use Rattle.slice_bool.proofs.covering.spans.Goals as goal

pub returns-then-scaled-s : goal.returns-then-scaled-s
returns-then-scaled-s c =
    let s = c.args.s.now in
    let t = c.args.t.now in
    let second : Bool = int_le t.spot.x (c.args.to.x *ℤ (t.spot.at.d *ℤ pos t.spot.run)) in
    let first = ap₂ int_le (by_cast w128 c.scaled.type_inv c.scaled.ensures)
    (handed w128 s.spot.x (omega (arith, s.x_size)) refl) in
    ap₂ int_le (handed w128 t.spot.x (omega (arith, t.x_size)) refl)
    (by_cast w128 c.scaled-then-scaled-s.type_inv c.scaled-then-scaled-s.ensures)
    ∙ sym (ap (λ (b : Bool). b && second) (sym first ∙ c.if-scaled-s.true))

pub returns-else-scaled-s : goal.returns-else-scaled-s
returns-else-scaled-s c =
    let s = c.args.s.now in
    let t = c.args.t.now in
    let second : Bool = int_le t.spot.x (c.args.to.x *ℤ (t.spot.at.d *ℤ pos t.spot.run)) in
    let first = ap₂ int_le (by_cast w128 c.scaled.type_inv c.scaled.ensures)
    (handed w128 s.spot.x (omega (arith, s.x_size)) refl) in
    c.if-scaled-s.false ∙ sym (ap (λ (b : Bool). b && second) (sym first ∙ c.if-scaled-s.false))
