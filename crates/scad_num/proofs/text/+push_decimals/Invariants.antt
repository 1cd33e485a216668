-- Fewer places are left at each call.
use Rattle.scad_num.proofs.text.+push_decimals.Given as goal

abbrev pub decreases-push_decimals : goal.decreases-push_decimals
decreases-push_decimals l = l.places
