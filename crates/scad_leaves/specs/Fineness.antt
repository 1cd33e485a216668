-- How finely circles are cut at a place (OpenSCAD User Manual, "Special variables").
use Rattle.std.specs.Prelude.{codes}
use Rattle.scad_scope.specs.Env.{Env}
use Rattle.scad_modules.specs.Shapes.{Fineness}
use Rattle.scad_machine.specs.Variables.{variable}

-- `$fn`, `$fa` and `$fs` at a place
abbrev pub fineness : Env → Env → Fineness
fineness env along = record {
  fn = variable (codes "$fn") env along;
  fa = variable (codes "$fa") env along;
  fs = variable (codes "$fs") env along;
}
