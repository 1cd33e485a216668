use Rattle.winding_laws.proofs.Rounding.{rounding_moves_by_halves, rounding_keeps_balance, rounding_keeps_winding}
use Rattle.winding_laws.proofs.laws.rounding_keeps_winding.Goals as goal

pub returns : goal.returns
returns c = record {
  halves = rounding_moves_by_halves;
  balance = rounding_keeps_balance;
  winding =
      rounding_keeps_winding;
}
