use Rattle.std.proofs.Common.{◌≡◌, ◌++◌, drop, filter}
use Rattle.std.specs.List.{All}
use Rattle.slice_bundles.specs.Bundles.{edge_at, reaches}
use Rattle.slice_sweep.specs.Rays.{numbers_of, IsRayOf}
use Rattle.slice_sweep.proofs.leave.gather.Given as goal

abbrev pub invariant-numbers : goal.invariant-numbers
invariant-numbers l = record {
  numbers : numbers_of l.rays.items
      ++ filter (λ k. reaches (edge_at l.step.edges.now k) l.step.lower.now l.step.upper.now)
      (drop l.k-index l.numbers)
      ≡ filter (λ k. reaches (edge_at l.step.edges.now k) l.step.lower.now l.step.upper.now) l.numbers;
  rays : All (IsRayOf l.step.edges.now) l.rays.items;
}
