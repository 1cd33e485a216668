-- A place as the code passes it.
use Rattle.std.specs.Prelude.{◌++◌, ◌-◌, List, take, drop, Option}
use Rattle.slice_outlines.specs.declared.course.Course.{Course}
use Rattle.slice_outlines.specs.declared.mark.Mark.{Mark}
use Rattle.slice_outlines.specs.declared.run.Run.{Run}
use Rattle.slice_outlines.specs.declared.passing.Place.{Place}
use Rattle.slice_outlines.specs.declared.passing.Beside.{Beside}
use Rattle.slice_outlines.specs.Passing.{courses, or_none}

-- the pieces that come in and go out, the flat one last
abbrev pub ins_at : Place → Option Course → List Course
ins_at p flat = courses p.below.right p.below.marks.now ++ or_none flat

abbrev pub outs_at : Place → Option Course → List Course
outs_at p flat = courses p.above.right p.above.marks.now ++ or_none flat

-- those of the strands of a part of a height, with what lies to its right
abbrev pub ins_in : List Mark → Run → Beside → List Course
ins_in below run b = courses b.below (take (run.below_to - run.below) (drop run.below below)) ++ or_none b.flat_in

abbrev pub outs_in : List Mark → Run → Beside → List Course
outs_in above run b = courses b.above (take (run.above_to - run.above) (drop run.above above)) ++ or_none b.flat_out
