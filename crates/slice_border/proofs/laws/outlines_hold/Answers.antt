use Rattle.slice_border.proofs.Membership.{outlines_hold_points, outlines_hold_centres}
use Rattle.slice_border.proofs.laws.outlines_hold.Goals as goal

pub returns : goal.returns
returns c = record { points = outlines_hold_points; centres = outlines_hold_centres }
