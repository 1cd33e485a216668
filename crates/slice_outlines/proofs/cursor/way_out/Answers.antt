-- Where it goes nowhere, the strands on both sides are apart and the flat edges lie aside.
use Rattle.std.proofs.Common.{◌≡◌, ◌+◌, ◌<◌, ◌≤◌, ℕ, arith}
use Rattle.std.specs.Prelude.{None, Some}
use Rattle.slice_outlines.proofs.cursor.way_out.Goals as goal

no_place : (n : ℕ) → Some n ≡ None → ⊥
no_place n e = cc

place_after : (n m : ℕ) → n < m → (n < n + 1) × (n + 1 ≤ m)
place_after n m h = (omega arith, omega arith)

none_there : (n m : ℕ) → m ≤ n → n < m → ⊥
none_there n m h k = omega arith

pub returns-then-place-marks-clause-clear : goal.returns-then-place-marks-clause-clear
returns-then-place-marks-clause-clear c = λ e. record {
  apart = λ i p h s. none_there c.args.place _ c.if-place-marks.true h;
  aside = λ h. absurd (none_there c.args.place _ c.if-place-marks.true h);
}

pub is_apart-requires-clause-named : goal.is_apart-requires-clause-named
is_apart-requires-clause-named c = c.requires.named

pub returns-then-not-is_apart-clause-clear : goal.returns-then-not-is_apart-clause-clear
returns-then-not-is_apart-clause-clear c = λ e. absurd (no_place (c.args.place + 1) e)

pub returns-then-not-is_apart-clause-right : goal.returns-then-not-is_apart-clause-right
returns-then-not-is_apart-clause-right c = place_after c.args.place _ c.if-place-marks.false

pub way_over-requires-clause-place : goal.way_over-requires-clause-place
way_over-requires-clause-place c = c.if-place-marks.false

pub returns-clause-clear : goal.returns-clause-clear
returns-clause-clear c = λ e. record {
  apart = c.is_apart.ensures c.if-not-is_apart.false;
  aside = λ h. c.way_over.ensures.aside e;
}

pub returns-clause-right : goal.returns-clause-right
returns-clause-right c = c.way_over.ensures.right
