use Rattle.std.proofs.Common.{◌≡◌, ℕ, ◌+◌, ◌^◌, ◌≤◌, length, drop, get_or, vec_len}
use Rattle.std.specs.Prelude.{pos, ◌+ℤ◌, ◌-ℤ◌, unsigned_abs}
use Rattle.slice_border.specs.Tally.{headings}
use Rattle.slice_border.specs.Keeping.{KeepsUp}
use Rattle.slice_border.proofs.tally.Tally.take.Given as goal

abbrev pub invariant-numbers : goal.invariant-numbers
invariant-numbers l = record {
  sums : (leaf : ℕ) → get_or l.self.turns.items leaf (pos 0)
      ≡ (get_or l.fn.self.turns.items leaf (pos 0) -ℤ headings l.edges leaf l.numbers)
      +ℤ headings l.edges leaf (drop l.k-index l.numbers);
  room : (leaf : ℕ) → unsigned_abs (get_or l.self.turns.items leaf (pos 0)) + length l.numbers ≤ 2 ^ 62 + l.k-index;
  len : vec_len l.self.turns ≡ vec_len l.fn.self.turns;
  held : KeepsUp l.fn.self.turns.items l.self.turns.items l.fn.self.held l.self.held;
}
