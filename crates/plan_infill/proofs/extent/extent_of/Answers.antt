use Rattle.std.proofs.Common.{FitsSigned, ◌≡◌, List, get_or, subst, sym, ℤ, pos, ◌-ℤ◌}
use lib.Signed.{◌≤ℤ◌}
use Rattle.std.specs.Prelude.{All}
use Rattle.std.proofs.lemmas.Int.{to_z-of_z}
use Rattle.std.proofs.lemmas.List.{take_all}
use Rattle.std.proofs.lemmas.List.Elements.{All-get_or}
use Rattle.scad_geom.specs.declared.point.Edge.{Edge}
use Rattle.scad_geom.specs.Within.{IsEdgeWithin}
use Rattle.plan_infill.specs.Extent.{across, IsEdgeAmong}
use Rattle.plan_infill.proofs.Extents.{lesser, greater, extent_more, point_among}
use Rattle.plan_infill.proofs.extent.extent_of.Goals as goal
use mir.Syntax.{w32}

no_side : Edge
no_side = record { a = record { x = pos 0; y = pos 0 }; b = record { x = pos 0; y = pos 0 } }

pub sides-preserved : goal.sides-preserved
unfolding no_side
sides-preserved c =
    let side : Edge = get_or c.args.sides.now c.sides.side-index no_side in
    let a : c.across.result ≡ across c.args.rows side.a = c.across.ensures in
    let b : c.across-in-sides.result ≡ across c.args.rows side.b = c.across-in-sides.ensures in
    let first_fits : FitsSigned w32 c.across.result = record { sfits = c.across.type_inv } in
    let second_fits : FitsSigned w32 c.across-in-sides.result = record { sfits = c.across-in-sides.type_inv } in
    let l = lesser c.sides.extent.low c.across.result c.with.result.low (simp to_z-of_z at c.with.ensures.low) in
    let h = greater c.sides.extent.high c.across.result c.with.result.high (simp to_z-of_z at c.with.ensures.high) in
    let m = lesser c.with.result.low c.across-in-sides.result c.with-extent.result.low
    (simp to_z-of_z at c.with-extent.ensures.low) in
    let n = greater c.with.result.high c.across-in-sides.result c.with-extent.result.high
    (simp to_z-of_z at c.with-extent.ensures.high) in
    record {
      among = extent_more c.args.rows c.args.sides.now c.sides.side-index no_side c.sides.extent.low
          c.sides.extent.high c.with.result.low c.with.result.high
          c.with-extent.result.low c.with-extent.result.high c.across.result c.across-in-sides.result c.sides-test.true
          a b l h m n c.sides.invariant.among;
      from = λ limit within.
          let w = All-get_or (IsEdgeWithin limit) c.args.sides.now c.sides.side-index no_side c.sides-test.true within in
          m.greatest _ (l.greatest _ (c.sides.invariant.from limit within)
          (subst (λ (z : ℤ). (pos 0 -ℤ pos limit) ≤ℤ z) (sym a) (point_among c.args.rows limit side.a w.a).from))
          (subst (λ (z : ℤ). (pos 0 -ℤ pos limit) ≤ℤ z) (sym b) (point_among c.args.rows limit side.b w.b).from);
      to = λ limit within.
          let w = All-get_or (IsEdgeWithin limit) c.args.sides.now c.sides.side-index no_side c.sides-test.true within in
          n.least _ (h.least _ (c.sides.invariant.to limit within)
          (subst (λ (z : ℤ). z ≤ℤ pos limit) (sym a) (point_among c.args.rows limit side.a w.a).to))
          (subst (λ (z : ℤ). z ≤ℤ pos limit) (sym b) (point_among c.args.rows limit side.b w.b).to);
    }

pub returns-clause-among : goal.returns-clause-among
returns-clause-among c =
    subst (λ (es : List Edge). All (IsEdgeAmong c.args.rows c.sides.extent.low c.sides.extent.high) es)
    (take_all c.sides.side-index c.args.sides.now c.sides-test.false) c.sides.invariant.among

pub returns-clause-from : goal.returns-clause-from
returns-clause-from c = c.sides.invariant.from

pub returns-clause-to : goal.returns-clause-to
returns-clause-to c = c.sides.invariant.to
