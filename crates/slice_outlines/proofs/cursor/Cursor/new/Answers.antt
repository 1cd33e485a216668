-- No strands lie to the right of the right end.
use Rattle.std.proofs.Common.{ℕ, List, sym, ap, subst, arith}
use Rattle.std.specs.List.{concat}
use Rattle.std.proofs.lemmas.List.{drop_all}
use Rattle.slice_border.specs.Keeping.{Tells}
use Rattle.slice_outlines.proofs.cursor.Cursor.new.Goals as goal

pub returns : goal.returns
returns c = λ bs e. record {
  there = omega (arith, e);
  tells = subst (λ (ks : List ℕ). Tells c.args.edges.now c.args.shape.now ks c.in_ok-tally.tally)
      (sym (ap concat (drop_all c.args.strands bs (omega (arith, e))))) c.in_ok-tally.ensures;
}
