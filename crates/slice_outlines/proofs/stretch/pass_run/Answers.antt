-- The place is passed.
use Rattle.std.proofs.Common.{◌++◌, ◌∷◌, [], List, drop, sym, subst, ap, refl, ◌∙◌}
use Rattle.scad_geom.specs.declared.point.Edge.{Edge}
use Rattle.slice_outlines.specs.declared.mark.Mark.{Mark}
use Rattle.slice_outlines.specs.Marks.{names_in, begun_in}
use Rattle.slice_outlines.specs.Passing.{start_of, ended_at}
use Rattle.slice_outlines.specs.Places.{ins_in, outs_in}
use Rattle.slice_outlines.specs.Heights.{IsRunOf}
use Rattle.slice_outlines.specs.Along.{begun_at}
use Rattle.slice_outlines.proofs.Onward.{run_passed, come_as, names_begun, begun_right}
use Rattle.slice_outlines.proofs.stretch.pass_run.Goals as goal

pub returns-clause-names : goal.returns-clause-names
returns-clause-names c = ap names_in c.begin.ensures
    ∙ names_begun c.args.run.now.above c.args.run.now.above_to c.in_ok-from.from c.args.kept.now.marks.items
    c.requires.run.above

pub returns-clause-right : goal.returns-clause-right
returns-clause-right c =
    let k = c.args.along.now.run.above_to in
    ap (drop k) c.begin.ensures
    ∙ begun_right c.args.run.now.above c.args.run.now.above_to k c.in_ok-from.from c.args.kept.now.marks.items
    c.requires.run.above c.requires.above_to c.requires.run.above_to

pub returns-clause-passed : goal.returns-clause-passed
returns-clause-passed c = λ on passed later of round across name come.
    let h = c.args.height.now in
    let a = c.args.along.now in
    let run = c.args.run.now in
    let b = c.beside_of-beside.result in
    let marks : List Mark = c.args.kept.now.marks.items in
    let given : List Edge = c.args.kept.now.given.items in
    let from = c.in_ok-from.from in
    let edges : List Edge = c.pass_strands.new.given.items in
    let s = c.args.s.now.spot in
    come_as on (passed ++ (s ∷ [])) later a.run c.go_on.new.along.run run.below_to c.go_on.new.along.below run.above_to
    c.go_on.new.along.above (begun_at from b.flat_out) c.go_on.new.along.flat
    (begun_in run.above run.above_to from marks) c.begin.new.marks.items edges edges c.args.kept.now.cursors
    (sym c.go_on.ensures.run) (sym c.go_on.ensures.below) (sym c.go_on.ensures.above) (sym c.go_on.ensures.flat)
    (sym c.begin.ensures) refl
    (run_passed on passed s later a run b marks given c.args.kept.now.cursors from edges come h of.0 (record {
      kept = of.1;
      run_of = c.requires.run;
      above_to = c.requires.above_to;
      from_below = c.requires.below;
      from_above = c.requires.above;
      value_below = c.beside_of-beside.ensures.below;
      value_above = c.beside_of-beside.ensures.above;
      at = c.beside_of-beside.ensures.at;
      flat_in = c.beside_of-beside.ensures.flat_in;
      flat_out = c.beside_of-beside.ensures.flat_out;
      begins = c.in_ok-from.ensures.from
          ∙ ap (λ (ms : List Mark). start_of b.at (ins_in h.below.now run b) (outs_in ms run b)) c.deref.ensures.value;
      ended = c.in_ok-from.ensures.given
          ∙ ap (λ (ms : List Mark). given ++ ended_at b.at (ins_in h.below.now run b) (outs_in ms run b))
          c.deref.ensures.value;
      round = round;
      across = across;
      name = name;
    }))

pub beside_of-beside-requires-clause-within : goal.beside_of-beside-requires-clause-within
beside_of-beside-requires-clause-within c = c.requires.within

pub beside_of-beside-requires-clause-spot : goal.beside_of-beside-requires-clause-spot
beside_of-beside-requires-clause-spot c = c.requires.spot

pub pass_strands-requires : goal.pass_strands-requires
pass_strands-requires c =
    subst (λ (ms : List Mark). IsRunOf c.args.height.now.below.now ms c.args.run.now) (sym c.deref.ensures.value)
    c.requires.run

pub begin-requires-clause-from : goal.begin-requires-clause-from
begin-requires-clause-from c = c.requires.run.above

pub begin-requires-clause-to : goal.begin-requires-clause-to
begin-requires-clause-to c = c.requires.run.above_to

pub returns-clause-run : goal.returns-clause-run
returns-clause-run c = c.go_on.ensures.run

pub returns-clause-below : goal.returns-clause-below
returns-clause-below c = c.go_on.ensures.below

pub returns-clause-above : goal.returns-clause-above
returns-clause-above c = c.go_on.ensures.above

pub returns-clause-begun : goal.returns-clause-begun
returns-clause-begun c = c.go_on.ensures.begun

pub returns-clause-live : goal.returns-clause-live
returns-clause-live c = c.go_on.ensures.live
