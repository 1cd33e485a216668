-- One point more on the line, and where all of them are.
use Rattle.std.proofs.Common.{◌≡◌, Bool, true, false, not, ◌&&◌, ◌+◌, get_or, drop, pos, refl, sym, ap, ◌∙◌}
use Rattle.std.specs.List.{list_all}
use Rattle.std.proofs.lemmas.List.{at_drop_more, at_drop_all}
use Rattle.scad_geom.specs.declared.point3.Pt3.{Pt3}
use Rattle.scad_hull.specs.Space.{normal_of, is_none}
use Rattle.scad_hull.proofs.first.off.Goals as goal

abbrev no_point : Pt3
no_point = record { x = pos 0; y = pos 0; z = pos 0 }

turned : (b r : Bool) → not b ≡ r → b ≡ not r
turned true r e = ap not e
turned false r e = ap not e

pub points-init : goal.points-init
points-init c = refl

pub is_off-requires : goal.is_off-requires
is_off-requires c = record {
  a = c.requires.a;
  b = c.requires.b;
  p = c.requires.points c.points.p-index no_point c.points-test.true;
}

pub returns-then-is_off-clause-off : goal.returns-then-is_off-clause-off
returns-then-is_off-clause-off c =
    turned (is_none (normal_of c.args.a c.args.b (get_or c.args.points.now c.points.p-index no_point))) true
    (sym c.is_off.ensures ∙ c.if-is_off.true)

pub points-preserved : goal.points-preserved
points-preserved c =
    let on_line = λ (p : Pt3). is_none (normal_of c.args.a c.args.b p) in
    let i = c.points.p-index in
    ap (λ (here : Bool). here && list_all on_line (drop (i + 1) c.args.points.now))
    (sym (turned (on_line (get_or c.args.points.now i no_point)) false (sym c.is_off.ensures ∙ c.if-is_off.false)))
    ∙ sym (at_drop_more (list_all on_line) c.args.points.now i no_point c.points-test.true)
    ∙ c.points.invariant

pub returns-clause-none : goal.returns-clause-none
returns-clause-none c =
    let on_line = λ (p : Pt3). is_none (normal_of c.args.a c.args.b p) in
    sym c.points.invariant ∙ at_drop_all (list_all on_line) c.args.points.now c.points.p-index c.points-test.false
