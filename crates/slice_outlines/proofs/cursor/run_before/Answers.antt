-- A change that ends no farther to the right than the place is passed.
use Rattle.std.proofs.Common.{◌+◌, ◌<◌, ◌≤◌, ℕ, List, get_or, drop, sym, ap, subst, arith}
use Rattle.std.proofs.lemmas.List.{get_or_default}
use Rattle.slice_sweep.specs.declared.change.Change.{Change}
use Rattle.slice_outlines.specs.declared.run.Run.{Run}
use Rattle.slice_outlines.specs.Runs.{after}
use Rattle.slice_outlines.proofs.Taking.{no_change}
use Rattle.slice_outlines.proofs.Shifting.{ArePassedBy, none_passed, one_passed, shifted_by, none_next, is_next, change_fits, fit_within, above_within}
use Rattle.slice_outlines.proofs.cursor.run_before.Goals as goal

pub changes-init : goal.changes-init
changes-init c = λ gs t f. subst (λ (r : Run). ArePassedBy gs c.args.changes.now r c.args.at) (sym c.first-done.ensures)
    (none_passed gs c.args.changes.now c.args.at t f)

pub after-run-requires-clause-later : goal.after-run-requires-clause-later
after-run-requires-clause-later c =
    let cs : List Change = c.args.changes.now in
    let i : ℕ = c.changes.change-index in
    let d : Change = get_or cs i no_change in
    let k = c.requires.told in
    (change_fits k.groups cs i d c.changes.done c.args.at c.changes-test.true
    (get_or_default cs i no_change d c.changes-test.true) (c.changes.invariant k.groups k.told k.fits)
    k.few_below k.few_above).later

pub after-run-requires-clause-fits : goal.after-run-requires-clause-fits
after-run-requires-clause-fits c =
    let cs : List Change = c.args.changes.now in
    let i : ℕ = c.changes.change-index in
    let d : Change = get_or cs i no_change in
    let k = c.requires.told in
    (change_fits k.groups cs i d c.changes.done c.args.at c.changes-test.true
    (get_or_default cs i no_change d c.changes-test.true) (c.changes.invariant k.groups k.told k.fits)
    k.few_below k.few_above).sizes

pub changes-preserved : goal.changes-preserved
changes-preserved c = λ gs t f.
    let cs : List Change = c.args.changes.now in
    let i : ℕ = c.changes.change-index in
    let d : Change = get_or cs i no_change in
    let same = ap (λ (r : Run). r.below_to) c.after-run.ensures in
    let by : (after c.changes.done d).below_to ≤ c.args.at = omega (arith, same, c.if-run-at.false) in
    subst (λ (r : Run). ArePassedBy gs (drop (i + 1) cs) r c.args.at) (sym c.after-run.ensures)
    (one_passed gs cs i d c.changes.done c.args.at c.changes-test.true
    (get_or_default cs i no_change d c.changes-test.true) (c.changes.invariant gs t f) by)

pub returns-then-run-at-clause-below : goal.returns-then-run-at-clause-below
returns-then-run-at-clause-below c =
    let k = c.requires.told in
    (c.changes.invariant k.groups k.told k.fits).by

pub returns-then-run-at-clause-fits : goal.returns-then-run-at-clause-fits
returns-then-run-at-clause-fits c =
    let k = c.requires.told in
    let p = c.changes.invariant k.groups k.told k.fits in
    let a = above_within k.groups (drop c.changes.change-index c.args.changes.now) c.changes.done c.args.at p in
    let b = fit_within k.groups c.args.at k.fits in
    omega (arith, a, b, k.few_below, k.few_above)

pub returns-then-run-at-clause-place : goal.returns-then-run-at-clause-place
returns-then-run-at-clause-place c = λ gs t f.
    let cs : List Change = c.args.changes.now in
    let i : ℕ = c.changes.change-index in
    let d : Change = get_or cs i no_change in
    let same = ap (λ (r : Run). r.below_to) c.after-run.ensures in
    let past : c.args.at < (after c.changes.done d).below_to = omega (arith, same, c.if-run-at.true) in
    shifted_by gs (drop i cs) c.changes.done c.args.at (c.changes.invariant gs t f)
    (λ x later q. subst (λ (y : Change). c.args.at < (after c.changes.done y).below_to)
    (is_next cs i d x later c.changes-test.true (get_or_default cs i no_change d c.changes-test.true) q) past)

pub returns-clause-below : goal.returns-clause-below
returns-clause-below c =
    let k = c.requires.told in
    (c.changes.invariant k.groups k.told k.fits).by

pub returns-clause-fits : goal.returns-clause-fits
returns-clause-fits c =
    let k = c.requires.told in
    let p = c.changes.invariant k.groups k.told k.fits in
    let a = above_within k.groups (drop c.changes.change-index c.args.changes.now) c.changes.done c.args.at p in
    let b = fit_within k.groups c.args.at k.fits in
    omega (arith, a, b, k.few_below, k.few_above)

pub returns-clause-place : goal.returns-clause-place
returns-clause-place c = λ gs t f.
    shifted_by gs (drop c.changes.change-index c.args.changes.now) c.changes.done c.args.at (c.changes.invariant gs t f)
    (λ x later q. absurd (none_next c.args.changes.now c.changes.change-index c.changes-test.false x later q))
