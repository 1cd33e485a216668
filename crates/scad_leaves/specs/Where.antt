-- Where a statement's shapes stand: the matrix that places them, and whether they are solids or flat (OpenSCAD
-- User Manual, "Transformations", "2D to 3D Extrusion").
use Rattle.std.specs.Prelude.{ℤ, Bool, Result, Ok, pos}
use Rattle.scad_base.specs.Results.{and_then}
use Rattle.scad_fault.specs.declared.place.Place.{Place}
use Rattle.scad_matrix.specs.declared.matrix.Matrix.{Matrix}
use Rattle.scad_matrix.specs.declared.matrix.MatrixFault.{MatrixFault}
use Rattle.scad_matrix.specs.Makers.{translation}
use Rattle.scad_matrix.specs.Matrix.{composed, flattened}
use Rattle.scad_modules.specs.declared.fineness.Resolution.{Resolution}
use Rattle.scad_leaves.specs.declared.space.Space.{Space}
use Rattle.scad_leaves.specs.declared.space.Space.TheVariants.{Solid, Linear, Turned}
use Rattle.scad_leaves.specs.declared.space.Turning.{Turning}
use Rattle.scad_leaves.specs.declared.space.Where.{Where}

abbrev pub stands : Matrix → Space → Where
stands whole space = record { whole = whole; space = space }

-- the matrix that moves nothing
abbrev pub unmoved : Matrix
unmoved = translation (pos 0) (pos 0) (pos 0)

-- where the statements of a program stand
abbrev pub at_first : Where
at_first = stands unmoved Solid

-- inside a `rotate_extrude` at a place, whose profile isn't moved yet
abbrev pub turned_at : Place → Resolution → Turning
turned_at word resolution = record { profile = unmoved; word = word; resolution = resolution }

-- inside a `linear_extrude` of this height, centred or not
unfoldable pub inside_linear : Matrix → ℤ × Bool → Where
inside_linear whole h = stands whole (Linear h.0 h.1)

abbrev pub turned_profile : Turning → Matrix → Turning
turned_profile t profile = record { profile = profile; word = t.word; resolution = t.resolution }

-- a transformation by a matrix: the whole matrix times it. Inside `linear_extrude` it acts by its x and y rows and
-- columns alone; inside `rotate_extrude` matrices so reduced are composed apart from the whole one
abbrev pub moved_in : Matrix → Matrix → Space → Result Where MatrixFault
moved_in whole m Solid = and_then (composed whole m) (λ product. Ok (stands product Solid))
moved_in whole m (Linear height center) =
    and_then (composed whole (flattened m)) (λ product. Ok (stands product (Linear height center)))
moved_in whole m (Turned t) =
    and_then (composed t.profile (flattened m)) (λ product. Ok (stands whole (Turned (turned_profile t product))))

unfoldable pub moved : Where → Matrix → Result Where MatrixFault
moved w m = moved_in w.whole m w.space
