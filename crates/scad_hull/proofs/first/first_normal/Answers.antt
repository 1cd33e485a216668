-- The level plane, turned on.
use Rattle.scad_hull.proofs.first.first_normal.Goals as goal

pub returns-in_default : goal.returns-in_default
returns-in_default c = record {
  narrow = tt;
  plane = tt;
  none = c.in_default.ensures.none;
}

pub turned_on-requires : goal.turned_on-requires
turned_on-requires c = record {
  points = c.requires.points;
  small = c.requires.small;
  room = c.requires.room;
  has = c.requires.has;
  narrow = c.in-Some.ensures.narrow;
  turned = c.in-Some.ensures.turned;
}

pub returns : goal.returns
returns c = record {
  narrow = c.turned_on.ensures.narrow;
  plane = c.turned_on.ensures.plane;
  none = c.turned_on.ensures.none;
}
