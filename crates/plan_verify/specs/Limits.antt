-- Moves within the limit of coordinates.
use Rattle.scad_geom.specs.Limits.{coordinate_limit}
use Rattle.scad_geom.specs.Within.{IsEdgeWithin}
use Rattle.gcode_text.specs.declared.machine.Move.{Move}
use Rattle.plan_verify.specs.Stays.{from_above}

-- as it is seen from above
abbrev pub IsMoveWithin : Move → Type 0
IsMoveWithin m = IsEdgeWithin coordinate_limit (from_above m)
