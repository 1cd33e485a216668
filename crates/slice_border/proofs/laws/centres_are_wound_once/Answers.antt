use Rattle.slice_border.proofs.Centre.{centres_are_wound_once, centres_are_held}
use Rattle.slice_border.proofs.laws.centres_are_wound_once.Goals as goal

pub returns : goal.returns
returns c = record { wound = centres_are_wound_once; held = centres_are_held }
