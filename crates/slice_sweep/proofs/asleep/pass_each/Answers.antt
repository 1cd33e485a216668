-- One more strand sleeps.
use Rattle.std.proofs.Common.{◌≡◌, ℕ, ◌+◌, ◌<◌, ◌≤◌, inl, inr, subst, arith}
use Rattle.std.proofs.lemmas.Bool.{cases_lt}
use Rattle.slice_sweep.specs.Keys.{IsBelowKey}
use Rattle.slice_sweep.specs.Strands.{strand_at}
use Rattle.slice_sweep.proofs.asleep.pass_each.Goals as goal

one_more : (P : ℕ → Type 0) (from place : ℕ) → ((i : ℕ) → from ≤ i → i < place → P i) → P place
    → (i : ℕ) → from ≤ i → i < place + 1 → P i
one_more P from place h last i f o = elim (cases_lt i place) [
  | inl before ↦ h i f before
  | inr behind ↦
      let e : place ≡ i = omega arith in
      subst P e last
]

pub asleep-init : goal.asleep-init
asleep-init c =
    let from = c.requires.from in
    record { from = omega arith; within = omega (arith, from); asleep = λ i f o. absurd (omega (arith, f, o)) }

pub asleep-preserved : goal.asleep-preserved
asleep-preserved c =
    let i = c.asleep.invariant in
    let from = i.from in
    let there = c.asleep-test.true in
    record {
      from = omega (arith, from);
      within = omega (arith, there);
      asleep = one_more (λ (k : ℕ). IsBelowKey c.args.step.now.lower.now (strand_at c.args.strands.now k).wake)
          c.args.from c.asleep.place i.asleep (c.is_asleep.ensures c.if-is_asleep.true);
    }

pub returns-after-asleep : goal.returns-after-asleep
returns-after-asleep c = c.asleep.invariant

pub returns-else-is_asleep : goal.returns-else-is_asleep
returns-else-is_asleep c = c.asleep.invariant
