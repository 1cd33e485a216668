-- A run's own last place, or the place before a hole that begins on it.
use Rattle.std.proofs.Common.{◌≡◌, ◌<◌, ℕ, List, length, get_or, subst, ap, ◌∙◌, arith, rules, ℤ, pos, ◌-ℤ◌, ◌<ℤ◌}
use lib.Signed.{◌≤ℤ◌}
use Rattle.std.proofs.lemmas.Int.{ints}
use Rattle.std.proofs.lemmas.List.{get_or_default}
use Rattle.scad_geom.proofs.Casts.{casts}
use Rattle.plan_infill.specs.declared.run.Run.{Run}
use Rattle.plan_support.specs.Free.{IsEnd}
use Rattle.plan_support.proofs.free.end_before.Goals as goal

abbrev no_run : Run
no_run = record { from = pos 0; to = pos 0 }

module _ (run : Run) (holes : List Run) (i : ℕ) (end : ℤ) where
  own_end : end ≡ run.to → (i < length holes → run.to <ℤ (get_or holes i no_run).from) → IsEnd run holes i end
  own_end is apart = record {
    most = omega (arith, ints, is);
    before = λ d h. subst (λ (r : Run). end <ℤ r.from) (get_or_default holes i no_run d h)
        (let a = apart h in omega (arith, ints, is, a));
    reaches = λ d l. absurd (omega (arith, ints, is, l));
  }

  before_hole : i < length holes → end ≡ (get_or holes i no_run).from -ℤ pos 1
      → (get_or holes i no_run).from ≤ℤ run.to → IsEnd run holes i end
  before_hole there is on = record {
    most = omega (arith, ints, is, on);
    before = λ d h. subst (λ (r : Run). end <ℤ r.from) (get_or_default holes i no_run d h) (omega (arith, ints, is));
    reaches = λ d l. (there, is ∙ ap (λ (r : Run). r.from -ℤ pos 1) (get_or_default holes i no_run d there));
  }

pub returns-then-i-holes : goal.returns-then-i-holes
returns-then-i-holes c =
    own_end c.args.run c.args.holes.now c.args.i _ (search (rules, casts)) (λ h. absurd (omega arith))

pub returns-then-run-holes : goal.returns-then-run-holes
returns-then-run-holes c =
    let apart : c.args.run.to <ℤ (get_or c.args.holes.now c.args.i no_run).from = search (rules, casts) in
    own_end c.args.run c.args.holes.now c.args.i _ (search (rules, casts)) (λ h. apart)

pub returns : goal.returns
returns c =
    let there : c.args.i < length c.args.holes.now = omega arith in
    let on : (get_or c.args.holes.now c.args.i no_run).from ≤ℤ c.args.run.to = search (rules, casts) in
    before_hole c.args.run c.args.holes.now c.args.i _ there (search (rules, casts)) on
