use Rattle.std.proofs.Common.{◌≡◌, ℕ, ◌<◌, [], length, get_or}
use Rattle.plan_support.specs.Lines.{kept_rows}
use Rattle.plan_support.proofs.cover.gathered.Given as goal

abbrev pub invariant-layers : goal.invariant-layers
invariant-layers l = record {
  as_many : length l.out.items ≡ l.n;
  each : (k : ℕ) → k < l.n → get_or l.out.items k [] ≡ kept_rows k l.heights l.lines;
}
