-- The place of a group is passed.
use Rattle.std.proofs.Common.{◌≡◌, ◌-◌, ◌++◌, List, take, drop, sym, ap, ◌∙◌, subst, None, refl}
use Rattle.winding_laws.specs.Edges.{rounded}
use Rattle.slice_pieces.specs.Spots.{point_of}
use Rattle.scad_geom.specs.declared.point.Pt.{Pt}
use Rattle.scad_geom.specs.declared.point.Edge.{Edge}
use Rattle.slice_outlines.specs.declared.mark.Mark.{Mark}
use Rattle.slice_outlines.specs.declared.height.Height.{Height}
use Rattle.slice_outlines.specs.Passing.{courses, or_none, start_of, ended_at}
use Rattle.slice_outlines.specs.Heights.{MeetAt, AreValuedIn}
use Rattle.slice_outlines.proofs.Grouping.{group_by, keeps_right}
use Rattle.slice_outlines.proofs.groups.pass_group.Goals as goal

pub returns : goal.returns
returns c = record {
  passed = λ on passed s is meet across balanced stands reached.
      let h = c.args.height.now in
      let run = c.args.run.now in
      let old : List Mark = c.args.kept.now.marks.items in
      let mid : List Mark = c.find_values.new.kept.marks.items in
      let right = c.value_at-right.result in
      let p : Pt = c.point_of-at.result in
      let point : p ≡ rounded (point_of s) = c.point_of-at.ensures (rounded (point_of s)) meet in
      let low : List Mark = take (run.below_to - run.below) (drop run.below h.below.now) in
      let valued = subst (λ (x : Height). AreValuedIn x on.shape run mid) (sym is.0)
      (c.find_values.ensures.values on.shape balanced stands) in
      let seen : c.deref.result.now ≡ mid = c.deref.ensures.value in
      let given : c.find_values.new.kept.given.items ≡ c.args.kept.now.given.items =
      rw c.find_values.ensures.given refl in
      let from = c.in_ok-from.ensures.from ∙ ap (λ (ms : List Mark). start_of p (courses right low ++ or_none None)
      (courses right (take (run.above_to - run.above) (drop run.above ms)) ++ or_none None)) seen in
      let more = c.in_ok-from.ensures.given
      ∙ ap (λ (es : List Edge). es ++ ended_at p (courses right low ++ or_none None)
      (courses right (take (run.above_to - run.above) (drop run.above c.deref.result.now)) ++ or_none None)) given
      ∙ ap (λ (ms : List Mark). c.args.kept.now.given.items ++ ended_at p (courses right low ++ or_none None)
      (courses right (take (run.above_to - run.above) (drop run.above ms)) ++ or_none None)) seen in
      group_by on h is.0 passed s run old mid c.begin.new.marks.items c.args.kept.now.given.items
      c.pass_strands.new.given.items c.args.kept.now.cursors c.find_values.new.kept.cursors p c.in_ok-from.from right is.1
      c.find_values.ensures.rest c.requires.group.run (sym point) (subst (MeetAt h old run) (sym point) meet) across
      (c.find_values.ensures.stands on.shape stands) (reached mid c.find_values.ensures.rest valued)
      c.value_at-right.ensures from c.begin.ensures more;
  right = keeps_right c.args.run.now c.args.kept.now.marks.items c.find_values.new.kept.marks.items
      c.begin.new.marks.items c.in_ok-from.from c.find_values.ensures.rest c.requires.group.run.above
      c.requires.group.run.above_to c.begin.ensures;
  stands = c.find_values.ensures.stands;
}
