-- Rounding takes the nearest number, and of two the one away from zero.
use Rattle.scad_num.proofs.Nearest.{rounds_away_from_zero}
use Rattle.scad_num.proofs.laws.rounds_away_from_zero.Goals as goal

pub returns : goal.returns
returns c = rounds_away_from_zero
