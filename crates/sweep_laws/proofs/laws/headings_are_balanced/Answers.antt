use Rattle.sweep_laws.proofs.Balance.{headings_are_balanced, values_are_kept}
use Rattle.sweep_laws.proofs.Boundaries.{boundaries_are_balanced, headings_add}
use Rattle.sweep_laws.proofs.laws.headings_are_balanced.Goals as goal

pub returns : goal.returns
returns c = record {
  headings = headings_are_balanced;
  values = values_are_kept;
  boundaries = boundaries_are_balanced;
  add = headings_add;
}
