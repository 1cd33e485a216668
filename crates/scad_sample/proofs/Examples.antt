-- The line of a hole, worked out.
use Rattle.std.proofs.Common.{◌≡◌, refl, codes}
use Rattle.std.specs.Fmt.{digits}
use Rattle.gcode_text.specs.Numeral.{last_digits, fixed}
use Rattle.scad_sample.specs.Sample.{hole_start, hole_middle, hole_end, hole}

first_hole_of_seven : hole 7 0 ≡ codes "translate([10,10,-1])cylinder(h=4,r=5.560,$fn=24);\n"
unfolding hole_start hole_middle hole_end fixed last_digits digits
first_hole_of_seven = refl

last_hole_of_seven : hole 7 35 ≡ codes "translate([90,90,-1])cylinder(h=4,r=2.061,$fn=24);\n"
unfolding hole_start hole_middle hole_end fixed last_digits digits
last_hole_of_seven = refl
