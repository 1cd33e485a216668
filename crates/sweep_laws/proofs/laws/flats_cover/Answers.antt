use Rattle.sweep_laws.proofs.Flats.{flats_cover_all, heights_without_flats}
use Rattle.sweep_laws.proofs.laws.flats_cover.Goals as goal

pub returns : goal.returns
returns c = record { cover = flats_cover_all; none = heights_without_flats }
