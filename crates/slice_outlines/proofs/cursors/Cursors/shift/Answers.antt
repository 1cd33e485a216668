-- One more is shifted.
use Rattle.std.proofs.Common.{◌<◌, ℕ, List, length, sym, ◌∙◌, subst, arith}
use Rattle.std.proofs.lemmas.List.{length-set}
use Rattle.slice_outlines.specs.declared.cursor.Cursor.{Cursor}
use Rattle.slice_outlines.specs.Cursor.{CanShift, Fit}
use Rattle.slice_outlines.proofs.Several.{others_same, as_before, one_above}
use Rattle.slice_outlines.proofs.cursors.Cursors.shift.Goals as goal

pub shift-requires : goal.shift-requires
shift-requires c =
    let old : List Cursor = c.args.self.now.all.items in
    let i : ℕ = c.cursors.i in
    let x : Cursor = c.index_mut.result.now in
    let l : i < length old = omega (arith, c.cursors-test.true, c.len-i-end.ensures) in
    let here : i < length c.cursors.self.all.items = omega (arith, l, c.cursors.invariant.count) in
    record {
      told = subst (λ (y : Cursor). CanShift c.args.changes.now y.at)
          (sym (as_before old c.cursors.self.all.items i x here c.index_mut.ensures.value c.cursors.invariant.same x))
          (c.requires.told i x l);
    }

pub cursors-preserved : goal.cursors-preserved
cursors-preserved c =
    let old : List Cursor = c.args.self.now.all.items in
    let i : ℕ = c.cursors.i in
    let all : List Cursor = c.cursors.self.all.items in
    let x : Cursor = c.index_mut.result.now in
    let l : i < length old = omega (arith, c.cursors-test.true, c.len-i-end.ensures) in
    let here : i < length all = omega (arith, l, c.cursors.invariant.count) in
    let e = as_before old all i x here c.index_mut.ensures.value c.cursors.invariant.same in
    record {
      count = length-set all i c.shift.new.self ∙ c.cursors.invariant.count;
      same = others_same old all i c.shift.new.self c.cursors.invariant.same;
      done = λ gs t f. one_above gs old all i x c.shift.new.self here e
          (record {
            tally = c.shift.ensures.tally;
            place = c.shift.ensures.place gs t (subst (λ (y : Cursor). Fit gs y.at) (sym (e x)) (f i x l));
          }) (c.cursors.invariant.done gs t f);
    }

pub returns : goal.returns
returns c = λ gs t f. record {
  count = c.cursors.invariant.count;
  each = λ k a b o. c.cursors.invariant.done gs t f k a b (omega (arith, o, c.cursors-test.false, c.len-i-end.ensures));
}
