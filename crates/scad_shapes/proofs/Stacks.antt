-- What the solid of rings is that were made one by one and are all in range.
use Rattle.std.proofs.Common.{◌≡◌, ℕ, inl, inr, Bool, true, false, ◌==◌, ◌&&◌, List, length, Result, Ok, Err}
use Rattle.std.proofs.Common.{refl, ap, subst, sym, ◌∙◌}
use Rattle.std.specs.Prelude.{IfOk, if◌then◌else◌}
use Rattle.std.specs.List.{list_all}
use Rattle.std.proofs.lemmas.Bool.{and_from}
use Rattle.std.proofs.lemmas.Bool.Decides.{eqb_tells}
use Rattle.scad_base.specs.Memory.{UnlessMemory}
use Rattle.scad_geom.specs.declared.point3.Pt3.{Pt3}
use Rattle.scad_geom.specs.PointRange.{is_in_range}
use Rattle.scad_solid.specs.declared.triangle.Triangle.{Triangle}
use Rattle.scad_solid.specs.Stack.{stacked, rings_in_range}
use Rattle.scad_shapes.specs.declared.fault.ShapeFault.{ShapeFault}
use Rattle.scad_shapes.specs.declared.fault.ShapeFault.TheVariants.{CoordinateRange}
use Rattle.scad_shapes.specs.Faults.{is_memory}
use Rattle.scad_shapes.specs.Rings.{ring_if_in_range, solid_of_rings}

made_by : (b : Bool) (ring all : List Pt3) → Ok ring ≡ (if b then Ok all else Err CoordinateRange)
    → (ring ≡ all) × (b ≡ true)
made_by true ring all e = (cc, refl)
made_by false ring all e = absurd (cc)

-- a ring that was made is the one that was asked for, and in range
pub ring_made : (ring all : List Pt3) → Ok ring ≡ ring_if_in_range all
    → (ring ≡ all) × (list_all is_in_range all ≡ true)
ring_made ring all e = made_by (list_all is_in_range all) ring all e

pub two_in_range : (upper lower : List Pt3) → list_all is_in_range upper ≡ true → list_all is_in_range lower ≡ true
    → (list_all is_in_range upper && (list_all is_in_range lower && true)) ≡ true
two_in_range upper lower high low =
    and_from (list_all is_in_range upper) (list_all is_in_range lower && true) high
    (and_from (list_all is_in_range lower) true low refl)

pub two_alike : (upper lower : List Pt3) → length lower ≡ length upper
    → ((length lower == length upper) && true) ≡ true
two_alike upper lower same = and_from (length lower == length upper) true (equal same) refl
  where
    equal : {m n : ℕ} → m ≡ n → (m == n) ≡ true
    equal {m} {n} e = elim (eqb_tells m n) [ inl t ↦ t.0 | inr t ↦ absurd (t.1 e) ]

module _ (r : Result (List Triangle) ShapeFault) (rings all : List (List Pt3)) (are : rings ≡ all)
    (told : UnlessMemory is_memory r (r ≡ Ok (stacked rings))) where
  pub solid_is : rings_in_range all ≡ true → UnlessMemory is_memory r (r ≡ solid_of_rings all)
  solid_is ranged =
      subst (λ s. UnlessMemory is_memory r (r ≡ s))
      (ap (λ rs. Ok (stacked rs)) are ∙ sym (ap (λ b. if b then Ok (stacked all) else Err CoordinateRange) ranged)) told

-- the solid has as many triangles as its rings give
pub solid_counts : (r : Result (List Triangle) ShapeFault) (rings all : List (List Pt3)) (n : ℕ) → rings ≡ all
    → UnlessMemory is_memory r (r ≡ Ok (stacked rings)) → length (stacked all) ≡ n → IfOk r (λ t. length t ≡ n)
solid_counts (Ok t) rings all n are told many =
    let is : t ≡ stacked rings = cc in ap length (is ∙ ap stacked are) ∙ many
solid_counts (Err e) rings all n are told many = tt
