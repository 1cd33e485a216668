-- The edge of the name meets the height where all of the group do.
use Rattle.std.proofs.Common.{◌∙◌}
use Rattle.slice_outlines.proofs.groups.point_of.Goals as goal

pub returns : goal.returns
returns c p m = c.rounded_on.ensures ∙ c.name_of-name.ensures.meets p m
