-- One more that stands on no strands.
use Rattle.std.proofs.Common.{[], ◌∷◌, ap, ◌∙◌, refl, sym, subst, length, arith, length-append}
use Rattle.std.specs.List.{All}
use Rattle.std.proofs.lemmas.List.Elements.{All-push}
use Rattle.slice_outlines.specs.Cursor.{StandsOn}
use Rattle.slice_outlines.proofs.cursors.Cursors.new.Goals as goal

pub cursors-preserved : goal.cursors-preserved
cursors-preserved c =
    subst (All (StandsOn c.args.edges.now c.args.shape.now [])) (sym c.in_ok-push.ensures.items)
    (All-push (StandsOn c.args.edges.now c.args.shape.now []) c.cursors.all.items c.in_ok-cursor.cursor
    c.cursors.invariant (c.in_ok-cursor.ensures [] refl))

pub cursors-smaller : goal.cursors-smaller
cursors-smaller c =
    let size = ap length c.in_ok-push.ensures.items ∙ length-append c.cursors.all.items (c.in_ok-cursor.cursor ∷ []) in
    omega (arith, size, c.len.ensures, c.cursors-test.true)

pub returns : goal.returns
returns c = record {
  some = omega (arith, c.len.ensures, c.cursors-test.false);
  each = c.cursors.invariant;
}
