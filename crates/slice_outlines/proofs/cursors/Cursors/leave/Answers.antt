-- One more is clear, and all stand.
use Rattle.std.proofs.Common.{◌<◌, ℕ, List, length, sym, ◌∙◌, subst, arith}
use Rattle.std.proofs.lemmas.List.{length-set}
use Rattle.std.proofs.lemmas.List.Elements.{All-set}
use Rattle.slice_sweep.specs.Front.{bundles_in}
use Rattle.slice_outlines.specs.declared.cursor.Cursor.{Cursor}
use Rattle.slice_outlines.specs.Cursor.{StandsOn, IsClearAt}
use Rattle.slice_outlines.proofs.Several.{one_more, all_done}
use Rattle.slice_outlines.proofs.cursors.Cursors.leave.Goals as goal

pub leave-requires-clause-stands : goal.leave-requires-clause-stands
leave-requires-clause-stands c =
    let s = c.requires.stands in
    let i : ℕ = c.cursors.i in
    let l : i < length c.cursors.self.all.items = omega (
      arith,
      c.cursors-test.true,
      c.len-i-end.ensures,
      c.cursors.invariant.count,
    ) in
    record {
      shape = s.shape;
      on = subst (StandsOn c.args.edges.now s.shape (bundles_in c.args.front.now)) (sym c.index_mut.ensures.value)
          ((c.cursors.invariant.stands s.shape s.on).each i c.index_mut.result.now l);
    }

pub cursors-preserved : goal.cursors-preserved
cursors-preserved c =
    let es = c.args.edges.now in
    let bs : List (List ℕ) = bundles_in c.args.front.now in
    let i : ℕ = c.cursors.i in
    let all : List Cursor = c.cursors.self.all.items in
    let l : i < length all = omega (arith, c.cursors-test.true, c.len-i-end.ensures, c.cursors.invariant.count) in
    let size = length-set all i c.leave.new.self in
    record {
      count = size ∙ c.cursors.invariant.count;
      stands = λ shape s.
          let on = c.cursors.invariant.stands shape s in
          record {
            some = omega (arith, size, on.some);
            each = All-set (StandsOn es shape bs) all i c.leave.new.self (c.leave.ensures.stands shape
                (subst (StandsOn es shape bs) (sym c.index_mut.ensures.value) (on.each i c.index_mut.result.now l)))
                on.each;
          };
      done = one_more (λ (x : Cursor). IsClearAt es c.args.at.now c.args.marks.now c.args.flats.now x.at) all i
          c.leave.new.self l c.leave.ensures.clear c.cursors.invariant.done;
    }

pub returns-clause-clear : goal.returns-clause-clear
returns-clause-clear c =
    all_done (λ (x : Cursor). IsClearAt c.args.edges.now c.args.at.now c.args.marks.now c.args.flats.now x.at) c.cursors.i
    c.cursors.self.all.items (omega (arith, c.cursors-test.false, c.len-i-end.ensures, c.cursors.invariant.count))
    c.cursors.invariant.done
