-- One more stands on no strands.
use Rattle.std.proofs.Common.{◌<◌, ℕ, List, [], length, sym, ◌∙◌, subst, arith}
use Rattle.std.proofs.lemmas.List.{length-set}
use Rattle.slice_sweep.specs.Front.{bundles_in}
use Rattle.slice_outlines.specs.declared.cursor.Cursor.{Cursor}
use Rattle.slice_outlines.specs.Cursor.{StandsOn}
use Rattle.slice_outlines.proofs.Several.{one_more, others_same, as_before, all_done}
use Rattle.slice_outlines.proofs.cursors.Cursors.clear.Goals as goal

pub clear-requires-clause-stands : goal.clear-requires-clause-stands
clear-requires-clause-stands c =
    let s = c.requires.stands in
    let old : List Cursor = c.args.self.now.all.items in
    let i : ℕ = c.cursors.i in
    let x : Cursor = c.index_mut.result.now in
    let l : i < length old = omega (arith, c.cursors-test.true, c.len-i-end.ensures) in
    let here : i < length c.cursors.self.all.items = omega (arith, l, c.cursors.invariant.count) in
    record {
      shape = s.shape;
      on = subst (StandsOn c.args.edges.now s.shape (bundles_in c.args.front.now))
          (sym (as_before old c.cursors.self.all.items i x here c.index_mut.ensures.value c.cursors.invariant.same x))
          (s.on.each i x l);
    }

pub cursors-preserved : goal.cursors-preserved
cursors-preserved c =
    let es = c.args.edges.now in
    let bs : List (List ℕ) = bundles_in c.args.front.now in
    let old : List Cursor = c.args.self.now.all.items in
    let i : ℕ = c.cursors.i in
    let all : List Cursor = c.cursors.self.all.items in
    let x : Cursor = c.index_mut.result.now in
    let l : i < length old = omega (arith, c.cursors-test.true, c.len-i-end.ensures) in
    let here : i < length all = omega (arith, l, c.cursors.invariant.count) in
    let e = as_before old all i x here c.index_mut.ensures.value c.cursors.invariant.same in
    record {
      count = length-set all i c.clear.new.self ∙ c.cursors.invariant.count;
      same = others_same old all i c.clear.new.self c.cursors.invariant.same;
      done = λ shape s. one_more (StandsOn es shape []) all i c.clear.new.self here
          (c.clear.ensures shape (subst (StandsOn es shape bs) (sym (e x)) (s.each i x l)))
          (c.cursors.invariant.done shape s);
    }

pub returns : goal.returns
returns c = λ shape s. record {
  some = omega (arith, c.cursors.invariant.count, s.some);
  each = all_done (StandsOn c.args.edges.now shape []) c.cursors.i c.cursors.self.all.items
      (omega (arith, c.cursors-test.false, c.len-i-end.ensures, c.cursors.invariant.count))
      (c.cursors.invariant.done shape s);
}
