-- A new one stands at the right end, and those that are left stand where they stood.
use Rattle.std.proofs.Common.{◌<◌, [], ◌∷◌, length, sym, ap, ◌∙◌, subst, arith, length-append}
use Rattle.std.specs.List.{All}
use Rattle.std.proofs.lemmas.List.Elements.{All-push, All-take}
use Rattle.slice_sweep.specs.Front.{bundles_in}
use Rattle.slice_outlines.specs.Cursor.{StandsOn}
use Rattle.slice_outlines.proofs.Several.{some_taken}
use Rattle.slice_outlines.proofs.cursors.Cursors.fit.Goals as goal

pub returns-then-len-count_for : goal.returns-then-len-count_for
returns-then-len-count_for c = λ s.
    let P = StandsOn c.args.edges.now c.args.shape.now (bundles_in c.args.front.now) in
    let all = c.args.self.now.all.items in
    let cursor = c.in_ok-cursor.cursor in
    let size = ap length c.in_ok-push.ensures.items ∙ length-append all (cursor ∷ []) in
    record {
      some = omega (arith, size);
      each = subst (All P) (sym c.in_ok-push.ensures.items)
          (All-push P all cursor s.each (c.in_ok-cursor.ensures (bundles_in c.args.front.now) (sym c.count-strands.ensures)));
    }

pub returns : goal.returns
returns c = λ s.
    let P = StandsOn c.args.edges.now c.args.shape.now (bundles_in c.args.front.now) in
    let all = c.args.self.now.all.items in
    record {
      some = subst (λ cs. 0 < length cs) (sym c.truncate.ensures.items)
          (some_taken c.count_for-2.result all c.count_for-2.ensures s.some);
      each = subst (All P) (sym c.truncate.ensures.items) (All-take P c.count_for-2.result all s.each);
    }
