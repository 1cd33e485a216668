-- No object of a desk that keeps nothing has failed, whatever was done on it.
use Rattle.std.proofs.Common.{◌≡◌, false, refl}
use Rattle.scad_io.specs.Desk.{side, failed_count}
use Rattle.scad_io.specs.Null.{Null, null_view}
use Rattle.scad_io.specs.declared.desk.Out.{Out}
use Rattle.scad_io.specs.declared.desk.Out.TheVariants.{Report, Cli, Gcode}

pub none_failed : (d : Null) → failed_count (null_view d) ≡ 0
none_failed d = refl

pub is_sound : (out : Out) (d : Null) → (side out (null_view d)).failed ≡ false
is_sound Report d = refl
is_sound Cli d = refl
is_sound Gcode d = refl
