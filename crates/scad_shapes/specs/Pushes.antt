-- What the parts of the crate say of placed points and rings that they push or collect.
use Rattle.std.specs.Prelude.{◌≡◌, ◌++◌, List, [], ◌∷◌, Bool, true, false, Result, Ok, Err}
use Rattle.std.specs.List.{list_all}
use Rattle.scad_geom.specs.declared.point3.Pt3.{Pt3}
use Rattle.scad_geom.specs.PointRange.{is_in_range}
use Rattle.scad_shapes.specs.declared.fault.ShapeFault.{ShapeFault}
use Rattle.scad_shapes.specs.declared.fault.ShapeFault.TheVariants.{CoordinateRange, NotClosed, Memory}

-- all points of the ring are in range
abbrev pub ring_in_range : List Pt3 → Bool
ring_in_range ring = list_all is_in_range ring

-- x is pushed where it passes the test of the range
abbrev pub Pushes : {A X : Type 0} → (X → Bool) → List X → X → List X → Result A ShapeFault → Type 0
Pushes ranged old x new (Ok a) = (new ≡ old ++ x ∷ []) × (ranged x ≡ true)
Pushes ranged old x new (Err CoordinateRange) = ranged x ≡ false
Pushes ranged old x new (Err NotClosed) = ⊥
Pushes ranged old x new (Err Memory) = Unit {0}

-- the list is collected where all of it passes the test
abbrev pub Collects : {A X : Type 0} → (X → Bool) → Result A ShapeFault → (A → List X) → List X → Type 0
Collects ranged (Ok a) items xs = (items a ≡ xs) × (list_all ranged xs ≡ true)
Collects ranged (Err CoordinateRange) items xs = list_all ranged xs ≡ false
Collects ranged (Err NotClosed) items xs = ⊥
Collects ranged (Err Memory) items xs = Unit {0}
