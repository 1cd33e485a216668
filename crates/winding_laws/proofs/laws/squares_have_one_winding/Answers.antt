use Rattle.winding_laws.proofs.OneWinding.{regions_have_one_winding, squares_have_one_winding}
use Rattle.winding_laws.proofs.laws.squares_have_one_winding.Goals as goal

pub returns : goal.returns
returns c = record { regions = regions_have_one_winding; squares = squares_have_one_winding }
