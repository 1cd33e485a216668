use Rattle.winding_laws.proofs.Lengths.{lengths_keep_balance, lengths_keep_winding}
use Rattle.winding_laws.proofs.laws.lengths_keep_winding.Goals as goal

pub returns : goal.returns
returns c = record { balance = lengths_keep_balance; winding = lengths_keep_winding }
