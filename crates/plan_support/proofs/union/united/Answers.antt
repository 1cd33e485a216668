use Rattle.std.proofs.Common.{List, sym, subst, ap, ◌∙◌, pos}
use lib.Signed.{◌≤ℤ◌}
use Rattle.std.specs.Prelude.{All}
use Rattle.std.proofs.lemmas.List.{take_all}
use Rattle.std.proofs.lemmas.List.Elements.{All-get_or}
use Rattle.std.proofs.lemmas.List.Sorted.{All-permutation, list_any-IsPermutation}
use Rattle.plan_infill.specs.declared.run.Run.{Run}
use Rattle.plan_support.specs.Unite.{StartInOrder}
use Rattle.plan_support.specs.On.{has_place, is_on}
use Rattle.plan_support.proofs.RunUnion.{united_more}
use Rattle.plan_support.proofs.union.united.Goals as goal

abbrev none : Run
none = record { from = pos 0; to = pos 0 }

pub take_in-requires-clause-place : goal.take_in-requires-clause-place
take_in-requires-clause-place c =
    All-get_or (λ (r : Run). r.from ≤ℤ r.to) c.deref-run-items.result.now c.runs.run-index none c.runs-test.true
    (subst (All (λ (r : Run). r.from ≤ℤ r.to)) (sym c.deref-run-items.ensures.value)
    (All-permutation (λ (r : Run). r.from ≤ℤ r.to) c.args.runs.items c.sort.new.runs.items
    c.in_ok-sort.ensures.permutation c.requires))

pub runs-preserved : goal.runs-preserved
runs-preserved c =
    united_more c.deref-run-items.result.now c.runs.run-index c.runs.out.items c.take_in.new.out.items none
    (subst StartInOrder (sym c.deref-run-items.ensures.value) c.in_ok-sort.ensures.order) c.runs-test.true
    c.runs.invariant
    c.in_ok-take_in.ensures

pub returns-clause-on : goal.returns-clause-on
returns-clause-on c x =
    c.runs.invariant.on x
    ∙ ap (λ (rs : List Run). is_on rs x) (take_all c.runs.run-index c.deref-run-items.result.now c.runs-test.false)
    ∙ ap (λ (rs : List Run). is_on rs x) c.deref-run-items.ensures.value
    ∙ sym (list_any-IsPermutation (λ (r : Run). has_place r x) c.args.runs.items c.sort.new.runs.items
    c.in_ok-sort.ensures.permutation)
