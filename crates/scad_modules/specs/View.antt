-- What values in memory are to the definitions, and how code answers them.
use Rattle.std.specs.Prelude.{◌≡◌, ◌≢◌, List, map, Option, option_map, Result, Ok, Err}
use Rattle.std.specs.Borrow.{Bor}
use Rattle.scad_value.specs.Datum.{Datum}
use Rattle.scad_value.specs.View.{datum_of}
use Rattle.scad_value.specs.declared.value.Value.{Value}
use Rattle.scad_modules.specs.declared.fault.ArgumentFault.{ArgumentFault}
use Rattle.scad_modules.specs.declared.fault.ArgumentFault.TheVariants.{Memory}
use Rattle.scad_modules.specs.declared.primitive.Primitive.{Primitive}
use Rattle.scad_modules.specs.declared.primitive.Primitive.TheVariants.{Cube, Sphere, Cylinder, Polyhedron}
use Rattle.scad_modules.specs.declared.fineness.Fineness.{Fineness}
use Rattle.scad_modules.specs.declared.outline.Outline.{Outline}
use Rattle.scad_modules.specs.declared.outline.Outline.TheVariants.{Rectangle, Circle, Path}
use Rattle.scad_modules.specs.Outline.{square, round, path}
use Rattle.scad_modules.specs.Outline.{Outline as Flat}
use Rattle.scad_modules.specs.Primitive.{cube, sphere, cylinder, polyhedron}
use Rattle.scad_modules.specs.Primitive.{Primitive as Solid}
use Rattle.scad_modules.specs.Reading.{Read}
use Rattle.scad_modules.specs.Shapes.{Fineness as FineAt}

-- a value that may be given
abbrev pub datum_in : Option (Bor Value) → Option Datum
datum_in found = option_map (λ v. datum_of v.now) found

abbrev pub primitive : Primitive → Solid
primitive (Cube x y z center) = cube x y z center
primitive (Sphere r n) = sphere r n
primitive (Cylinder h bottom top n center) = cylinder h bottom top n center
primitive (Polyhedron points faces) = polyhedron points.items faces.items

abbrev pub outline : Outline → Flat
outline (Rectangle x y center) = square x y center
outline (Circle r n) = round r n
outline (Path points) = path points.items

-- the outlines that a list holds
abbrev pub outlines : List Outline → List Flat
outlines all = map outline all

abbrev pub fine_at : Fineness → FineAt
fine_at f = record { fn = datum_of f.fn_; fa = datum_of f.fa; fs = datum_of f.fs }

-- the answer is what the rule gives, unless there was no memory
abbrev pub Reads : {A B : Type 0} → (A → B) → Read B → Result A ArgumentFault → Type 0
Reads view rule (Ok a) = rule ≡ Ok (view a)
Reads view rule (Err e) = e ≢ Memory → rule ≡ Err e
