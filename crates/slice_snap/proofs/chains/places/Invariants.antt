use Rattle.std.proofs.Common.{◌≡◌, ◌<◌, ℕ, length}
use Rattle.slice_snap.specs.Chains.{place_at}
use Rattle.slice_snap.proofs.chains.places.Given as goal

abbrev pub invariant-places : goal.invariant-places
invariant-places l = record {
  count : length l.places.items ≡ l.place;
  each : (k : ℕ) → k < l.place
      → place_at l.places.items k ≡ k;
}
