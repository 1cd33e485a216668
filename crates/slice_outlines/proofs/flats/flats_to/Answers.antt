-- One more that lies on the height.
use Rattle.std.proofs.Common.{sym, subst, arith}
use Rattle.std.specs.List.{All}
use Rattle.std.proofs.lemmas.List.Elements.{All-nil}
use Rattle.slice_outlines.specs.Flats.{LiesOn}
use Rattle.slice_outlines.proofs.Parts.{part_none, all_part_more}
use Rattle.slice_outlines.proofs.flats.flats_to.Goals as goal

pub flats-init : goal.flats-init
flats-init c = record {
  from = omega arith;
  to = c.requires.from;
  on = subst (All (LiesOn c.args.at.now)) (sym (part_none c.args.flats.now c.args.from)) (All-nil
      (LiesOn c.args.at.now));
}

pub flats-preserved : goal.flats-preserved
flats-preserved c =
    let there = c.is_on.ensures.there c.flats-test.true in
    record {
      from = omega (arith, c.flats.invariant.from);
      to = omega (arith, there);
      on = all_part_more (LiesOn c.args.at.now) c.args.flats.now c.args.from c.flats.to c.flats.invariant.from there
          c.flats.invariant.on (c.is_on.ensures.on c.flats-test.true);
    }

pub flats-smaller : goal.flats-smaller
flats-smaller c = let there = c.is_on.ensures.there c.flats-test.true in omega (arith, there)

pub returns-clause-off : goal.returns-clause-off
returns-clause-off c = c.is_on.ensures.off c.flats-test.false
