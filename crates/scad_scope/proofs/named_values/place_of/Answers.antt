use Rattle.std.proofs.Common.{sym, ap, ◌∙◌, arith}
use Rattle.scad_scope.specs.Names.{is_same_name}
use Rattle.scad_scope.proofs.Few.{place-here, place-past, place-none}
use Rattle.scad_scope.proofs.named_values.place_of.Goals as goal

pub returns-then-eq : goal.returns-then-eq
returns-then-eq c =
    let here = place-here c.args.name.now c.args.all.now c.entries.entry-index c.entry-item.result (omega arith)
    c.entry-item.is (ap (is_same_name c.args.name.now) (sym c.as_slice.ensures) ∙ sym c.eq.ensures
    ∙ c.if-eq.true) in
    omega (arith, here, c.entries.invariant.counted, c.entries.invariant.place)

pub entries-preserved : goal.entries-preserved
entries-preserved c =
    let past = place-past c.args.name.now c.args.all.now c.entries.entry-index c.entry-item.result (omega arith)
    c.entry-item.is (ap (is_same_name c.args.name.now) (sym c.as_slice.ensures) ∙ sym c.eq.ensures
    ∙ c.if-eq.false) in
    record {
      counted = omega (arith, c.entries.invariant.counted);
      place = omega (arith, past, c.entries.invariant.place);
    }

pub returns : goal.returns
returns c =
    let none = place-none c.args.name.now c.args.all.now c.entries.entry-index (omega arith) in
    omega (arith, none, c.entries.invariant.counted, c.entries.invariant.place)
