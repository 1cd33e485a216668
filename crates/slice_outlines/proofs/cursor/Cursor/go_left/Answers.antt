-- The bundle to the left is added.
use Rattle.std.proofs.Common.{◌-◌, ◌<◌, ℕ, List, [], length, refl, sym, subst, arith}
use Rattle.std.specs.List.{All}
use Rattle.scad_geom.specs.declared.shape.Shape.{Shape}
use Rattle.slice_sweep.specs.Front.{bundles_in}
use Rattle.slice_border.proofs.BundleValues.{there_at}
use Rattle.slice_outlines.proofs.Standing.{small_at, stands_left}
use Rattle.slice_outlines.proofs.cursor.Cursor.go_left.Goals as goal

pub strands-init : goal.strands-init
strands-init c = record {
  to = omega arith;
  stays = λ h. refl;
  goes = λ h. h;
  stands = λ shape s. s;
}

pub add-requires-clause-there : goal.add-requires-clause-there
add-requires-clause-there c =
    let es = c.args.edges.now in
    let bs : List (List ℕ) = bundles_in c.args.front.now in
    let l : c.strands.self.at - 1 < length bs =
    omega (arith, c.strands.invariant.to, c.requires.stands.on.there, c.strands-test.true) in
    subst (All (λ k. k < length es)) (sym c.bundle.ensures)
    (there_at es bs (c.strands.self.at - 1) [] l c.requires.members)

pub add-requires-clause-small : goal.add-requires-clause-small
add-requires-clause-small c =
    let es = c.args.edges.now in
    let bs : List (List ℕ) = bundles_in c.args.front.now in
    let shape : Shape = c.requires.stands.shape in
    let l : c.strands.self.at - 1 < length bs =
    omega (arith, c.strands.invariant.to, c.requires.stands.on.there, c.strands-test.true) in
    small_at es shape bs c.bundle.result.now (c.strands.self.at - 1) c.strands.self c.requires.few c.requires.members l
    c.bundle.ensures (c.strands.invariant.stands shape c.requires.stands.on)

pub strands-preserved : goal.strands-preserved
strands-preserved c =
    let es = c.args.edges.now in
    let bs : List (List ℕ) = bundles_in c.args.front.now in
    let l : c.strands.self.at - 1 < length bs =
    omega (arith, c.strands.invariant.to, c.requires.stands.on.there, c.strands-test.true) in
    record {
      to = omega (arith, c.strands.invariant.to);
      stays = λ h. absurd (omega (arith, c.strands.invariant.to, c.strands-test.true));
      goes = λ h. omega (arith, c.strands-test.true);
      stands = λ shape s. stands_left es shape bs c.bundle.result.now c.strands.self _ (omega arith) l c.bundle.ensures
          (λ js t. c.add.ensures shape js t) (c.strands.invariant.stands shape s);
    }
