-- One more value is found.
use Rattle.std.proofs.Common.{ℕ, drop, refl, ◌∙◌, arith}
use Rattle.slice_sweep.specs.Front.{bundles_in}
use Rattle.slice_border.specs.Beside.{left_value}
use Rattle.slice_outlines.proofs.Valuing.{keeps_all, keeps_more, valued_more}
use Rattle.slice_outlines.proofs.changing.ask_cursor.Goals as goal

pub strands-init : goal.strands-init
strands-init c = record {
  values = λ shape s j a l. absurd (omega arith);
  stands = λ shape s. s;
  keeps = keeps_all c.args.run.now c.args.kept.now.marks.items;
  given = refl;
}

pub ask_at-requires-clause-stands : goal.ask_at-requires-clause-stands
ask_at-requires-clause-stands c =
    let s = c.requires.stands in
    record { shape = s.shape; on = c.strands.invariant.stands s.shape s.on }

pub ask_at-requires-clause-size : goal.ask_at-requires-clause-size
ask_at-requires-clause-size c = c.strands.invariant.keeps.size ∙ c.requires.size

pub ask_at-requires-clause-there : goal.ask_at-requires-clause-there
ask_at-requires-clause-there c =
    let size = c.strands.invariant.keeps.size in
    let there = c.requires.there.above_to in
    omega (arith, size, there, c.strands-test.true)

pub strands-preserved : goal.strands-preserved
strands-preserved c =
    let h = c.args.height.now in
    let size = c.strands.invariant.keeps.size in
    let there = c.requires.there.above_to in
    let s = c.requires.stands in
    let i = c.strands.i in
    record {
      values = λ shape on. valued_more (λ (j : ℕ). left_value h.edges.now shape (drop j (bundles_in h.front.now)))
          c.args.run.now.above i c.strands.kept.marks.items c.ask_at.new.kept.marks.items
          (omega (arith, size, there, c.strands-test.true))
          (c.ask_at.ensures.value shape (c.strands.invariant.stands shape on)) (c.strands.invariant.values shape on);
      stands = λ shape on. c.ask_at.ensures.stands shape (c.strands.invariant.stands shape on);
      keeps = keeps_more c.args.run.now c.args.kept.now.marks.items c.strands.kept.marks.items
          c.ask_at.new.kept.marks.items i _ c.strands.invariant.keeps c.strands.auto.i c.strands-test.true
          (c.ask_at.ensures.value s.shape (c.strands.invariant.stands s.shape s.on));
      given = c.ask_at.ensures.given ∙ c.strands.invariant.given;
    }
