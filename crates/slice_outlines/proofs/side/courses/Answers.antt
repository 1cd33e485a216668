-- A strand's piece comes behind those of the strands to its left.
use Rattle.std.proofs.Common.{◌+◌, ℕ, List, ◌++◌, [], drop, refl, sym, ap, ◌∙◌, append_assoc}
use Rattle.std.proofs.lemmas.List.{at_drop_more, at_drop_all, append-nil}
use Rattle.slice_outlines.specs.declared.mark.Mark.{Mark}
use Rattle.slice_outlines.specs.declared.course.Course.{Course}
use Rattle.slice_outlines.specs.Marks.{no_mark}
use Rattle.slice_outlines.specs.Passing.{courses, or_none, alone}
use Rattle.slice_outlines.proofs.side.courses.Goals as goal

pub strands-init : goal.strands-init
strands-init c = ([], refl, refl)

pub strands-preserved : goal.strands-preserved
strands-preserved c =
    let ms : List Mark = c.args.side.now.marks.now in
    let i : ℕ = c.strands.i in
    let cs : List Course = c.strands.invariant.0 in
    let own : List Course = or_none c.course_of.result in
    let later : List Course = courses c.args.side.now.right (drop (i + 1) ms) in (
      cs ++ own,
      c.with-all.ensures cs c.strands.invariant.1,
      append_assoc cs own later
          ∙ ap (λ (ds : List Course). cs ++ (ds ++ later)) c.course_of.ensures
          ∙ ap (λ (ds : List Course). cs ++ ds)
          (sym (at_drop_more (courses c.args.side.now.right) ms i no_mark c.strands-test.true))
          ∙ c.strands.invariant.2,
    )

pub returns : goal.returns
returns c =
    let ms : List Mark = c.args.side.now.marks.now in
    let cs : List Course = c.strands.invariant.0 in
    c.strands.invariant.1
    ∙ ap alone (sym (append-nil cs)
    ∙ ap (λ (ds : List Course). cs ++ ds)
    (sym (at_drop_all (courses c.args.side.now.right) ms c.strands.i c.strands-test.false))
    ∙ c.strands.invariant.2)
