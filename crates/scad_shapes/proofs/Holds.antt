-- What the primitives contain: a matrix that keeps heights places a prism's rings one over the other.
use Rattle.std.proofs.Common.{◌≡◌, Bool, true, false, Ok, Err, Result, IfOk, List, [], ◌∷◌, map, ℤ, pos, ◌+ℤ◌, ◌*ℤ◌, refl, ap, ap₂, sym, ◌∙◌, subst}
use Rattle.std.proofs.Math.IntN.{zero-*ℤ}
use Rattle.scad_geom.specs.declared.point.Pt.{Pt}
use Rattle.scad_geom.specs.declared.point3.Pt3.{Pt3}
use Rattle.scad_num.specs.Rounding.{half_away}
use Rattle.std.specs.Prelude.{if◌then◌else◌}
use Rattle.scad_solid.specs.declared.triangle.Triangle.{Triangle}
use Rattle.scad_solid.specs.Stack.{stacked, rings_in_range}
use Rattle.scad_shapes.specs.declared.fault.ShapeFault.{ShapeFault}
use Rattle.scad_shapes.specs.declared.fault.ShapeFault.TheVariants.{CoordinateRange}
use Rattle.scad_solid.specs.Laws.{at, prism, box, rectangle, HoldBetween, HoldInside}
use Rattle.scad_solid.proofs.Holds.{prism_holds, box_holds}
use Rattle.scad_matrix.specs.declared.matrix.Row.{Row}
use Rattle.scad_matrix.specs.declared.matrix.Matrix.{Matrix}
use Rattle.scad_matrix.specs.Matrix.{micrometre, placed_coordinate, placed_point}
use Rattle.scad_shapes.specs.Outline.{start_of, circle}
use Rattle.scad_shapes.specs.Outline as outline
use Rattle.scad_base.specs.Memory.{UnlessMemory}
use Rattle.scad_shapes.specs.Faults.{is_memory}
use Rattle.scad_shapes.specs.Rings.{placed_ring, two_rings, solid_of_rings}
use Rattle.scad_shapes.specs.Laws.{IsUpright, IsDiagonal, placed_outline, placed_height, CubesHold, PlacedPrismsHold, CylindersHold}

-- a row doesn't read a coordinate whose entry is 0
gone : (k z w : ℤ) → k ≡ pos 0 → k *ℤ z ≡ k *ℤ w
gone k z w none = ap (λ e. e *ℤ z) none ∙ zero-*ℤ z ∙ sym (ap (λ e. e *ℤ w) none ∙ zero-*ℤ w)

module _ (r : Row) where
  without_x : r.x ≡ pos 0 → (x x' y z : ℤ) → placed_coordinate r x y z ≡ placed_coordinate r x' y z
  without_x none x x' y z = ap (λ t. half_away (t +ℤ r.y *ℤ y +ℤ r.z *ℤ z +ℤ r.shift *ℤ pos 1000000) micrometre)
      (gone r.x x x' none)

  without_y : r.y ≡ pos 0 → (x y y' z : ℤ) → placed_coordinate r x y z ≡ placed_coordinate r x y' z
  without_y none x y y' z = ap (λ t. half_away (r.x *ℤ x +ℤ t +ℤ r.z *ℤ z +ℤ r.shift *ℤ pos 1000000) micrometre)
      (gone r.y y y' none)

  without_z : r.z ≡ pos 0 → (x y z z' : ℤ) → placed_coordinate r x y z ≡ placed_coordinate r x y z'
  without_z none x y z z' = ap (λ t. half_away (r.x *ℤ x +ℤ r.y *ℤ y +ℤ t +ℤ r.shift *ℤ pos 1000000) micrometre)
      (gone r.z z z' none)

module _ (m : Matrix) (upright : IsUpright m) where
  abbrev flat : ℤ × ℤ → Pt
  flat p = record { x = placed_coordinate m.x p.0 p.1 (pos 0); y = placed_coordinate m.y p.0 p.1 (pos 0) }

  level : (x y z : ℤ) → placed_coordinate m.z x y z ≡ placed_height m z
  level x y z = without_x m.z upright.z_by_x x (pos 0) y z ∙ without_y m.z upright.z_by_y (pos 0) y (pos 0) z

  placed_at : (p : ℤ × ℤ) (z : ℤ) → placed_point m p.0 p.1 z ≡ at (placed_height m z) (flat p)
  placed_at p z = λ i. record {
    x = without_z m.x upright.x_by_z p.0 p.1 z (pos 0) i;
    y = without_z m.y upright.y_by_z p.0 p.1 z (pos 0) i;
    z = level p.0 p.1 z i;
  }

  placed_over : (z : ℤ) (points : List (ℤ × ℤ)) → placed_ring m z points ≡ map (at (placed_height m z))
      (placed_outline m points)
  placed_over z [] = refl
  placed_over z (p ∷ ps) = ap₂ (λ q qs. q ∷ qs) (placed_at p z) (placed_over z ps)

  placed_prism : (points : List (ℤ × ℤ)) (low high : ℤ) → prism (placed_height m high) (placed_height m low)
      (placed_outline m points) ≡ stacked (two_rings m points points low high)
  placed_prism points low high = ap₂ (λ a b. stacked (a ∷ b ∷ [])) (sym (placed_over high points))
      (sym (placed_over low points))

  pub placed_prism_holds : (points : List (ℤ × ℤ)) (low high : ℤ) → HoldInside (placed_outline m points)
      (placed_height m high) (placed_height m low) (stacked (two_rings m points points low high))
  placed_prism_holds points low high = subst (HoldInside (placed_outline m points) (placed_height m high)
      (placed_height m low)) (placed_prism points low high) (prism_holds (placed_outline m points)
      (placed_height m high) (placed_height m low))

module _ (m : Matrix) (diagonal : IsDiagonal m) where
  abbrev across : ℤ → ℤ
  across x = placed_coordinate m.x x (pos 0) (pos 0)

  abbrev along : ℤ → ℤ
  along y = placed_coordinate m.y (pos 0) y (pos 0)

  flat_at : (x y : ℤ) → flat m diagonal.upright (x, y) ≡ record { x = across x; y = along y }
  flat_at x y = λ i. record {
    x = without_y m.x diagonal.x_by_y x y (pos 0) (pos 0) i;
    y = without_x m.y diagonal.y_by_x
        x (pos 0) y (pos 0) i;
  }

  abbrev corner : ℤ → ℤ → ℤ → Pt3
  corner x y z = record { x = across x; y = along y; z = placed_height m z }

  corner_at : (x y z : ℤ) → placed_point m x y z ≡ corner x y z
  corner_at x y z = placed_at m diagonal.upright (x, y) z ∙ ap (at (placed_height m z)) (flat_at x y)

  placed_rectangle : (x0 y0 x y : ℤ) → placed_outline m (outline.corners_from x0 y0 x y) ≡ rectangle (across x0)
      (along y0) (across (x0 +ℤ x)) (along (y0 +ℤ y))
  placed_rectangle x0 y0 x y = λ i. flat_at x0 y0 i ∷ flat_at (x0 +ℤ x) y0 i ∷ flat_at (x0 +ℤ x) (y0 +ℤ y) i ∷ flat_at
      x0 (y0 +ℤ y) i ∷ []

  placed_box : (x0 y0 z0 x y z : ℤ) → box (placed_point m x0 y0 z0) (placed_point m (x0 +ℤ x) (y0 +ℤ y) (z0 +ℤ z))
      ≡ stacked (two_rings m (outline.corners_from x0 y0 x y) (outline.corners_from x0 y0 x y) z0 (z0 +ℤ z))
  placed_box x0 y0 z0 x y z =
      ap₂ box (corner_at x0 y0 z0) (corner_at (x0 +ℤ x) (y0 +ℤ y) (z0 +ℤ z))
      ∙ ap (prism (placed_height m (z0 +ℤ z)) (placed_height m z0)) (sym (placed_rectangle x0 y0 x y))
      ∙ placed_prism m diagonal.upright (outline.corners_from x0 y0 x y) z0 (z0 +ℤ z)

  pub placed_box_holds : (x0 y0 z0 x y z : ℤ) → HoldBetween (placed_point m x0 y0 z0)
      (placed_point m (x0 +ℤ x) (y0 +ℤ y) (z0 +ℤ z))
      (stacked (two_rings m (outline.corners_from x0 y0 x y) (outline.corners_from x0 y0 x y) z0 (z0 +ℤ z)))
  placed_box_holds x0 y0 z0 x y z = subst (HoldBetween (placed_point m x0 y0 z0) (placed_point m (x0 +ℤ x) (y0 +ℤ y)
      (z0 +ℤ z))) (placed_box x0 y0 z0 x y z) (box_holds (placed_point m x0 y0 z0) (placed_point m (x0 +ℤ x) (y0 +ℤ y)
      (z0 +ℤ z)))

pub cubes_hold : CubesHold
cubes_hold = record {
  each = λ x y z center m diagonal. placed_box_holds m diagonal (start_of x center)
      (start_of y center) (start_of z center) x y z;
}

pub placed_prisms_hold : PlacedPrismsHold
placed_prisms_hold = record { each = λ points low high m upright. placed_prism_holds m upright points low high }

pub cylinders_hold : CylindersHold
cylinders_hold = record {
  each = λ h r n center m upright. placed_prism_holds m upright (circle r n) (start_of h center)
      (start_of h center +ℤ h);
}

-- so do the solids that the calls give
solid_by : (b : Bool) (ts us : List Triangle) → Ok us ≡ (if b then Ok ts else Err CoordinateRange) → us ≡ ts
solid_by true ts us e = cc
solid_by false ts us e = absurd (cc)

pub of_solid : (P : List Triangle → Type 0) (rings : List (List Pt3)) → P (stacked rings)
    → (r : Result (List Triangle) ShapeFault) → UnlessMemory is_memory r (r ≡ solid_of_rings rings) → IfOk r P
of_solid P rings all (Ok ts) is = subst P (sym (solid_by (rings_in_range rings) (stacked rings) ts is)) all
of_solid P rings all (Err e) is = tt
