-- No plane at or above all corners of a surface cuts it.
use Rattle.std.proofs.Common.{◌≡◌, Bool, true, false, cond, ◌&&◌, not, List, [], ◌∷◌, Option, Some, None, IfSome, ℤ, pos, ◌*ℤ◌, ◌≤ℤ◌, arith, refl, ap, ap₂, ◌∙◌}
use Rattle.std.specs.Int.{int_max}
use Rattle.std.specs.List.{cons_option}
use Rattle.std.proofs.lemmas.Int.{ints, clamps}
use Rattle.scad_geom.specs.Segment.{Segment}
use Rattle.scad_geom.specs.Sign.{is_zero}
use Rattle.scad_geom.specs.Winding.{wind}
use Rattle.scad_solid.specs.declared.triangle.Triangle.{Triangle}
use Rattle.scad_solid.specs.Height.{top_of, higher_of, highest_of}
use Rattle.scad_solid.specs.Cut.{is_above, is_below, cut_between, cut_of, cuts_of}
use Rattle.scad_solid.specs.Laws.{NothingAbove}

module _ (plane : ℤ) where
  -- the cut of a triangle by which of its corners lie above and below the plane
  abbrev cut_by : Triangle → Bool → Bool → Bool → Bool → Bool → Bool → Option Segment
  cut_by t up_a up_b up_c down_a down_b down_c = cut_between plane
      (cond (up_a && down_b) (Some (record { from = t.a; to = t.b }))
      (cond (up_b && down_c) (Some (record { from = t.b; to = t.c }))
      (cond (up_c && down_a) (Some (record { from = t.c; to = t.a })) None)))
      (cond (down_a && up_b) (Some (record { from = t.a; to = t.b }))
      (cond (down_b && up_c) (Some (record { from = t.b; to = t.c }))
      (cond (down_c && up_a) (Some (record { from = t.c; to = t.a })) None)))

  none_up : (t : Triangle) (a b c : Bool) → cut_by t false false false a b c ≡ None
  none_up t true true true = refl
  none_up t true true false = refl
  none_up t true false true = refl
  none_up t true false false = refl
  none_up t false true true = refl
  none_up t false true false = refl
  none_up t false false true = refl
  none_up t false false false = refl

  not_up : (z : ℤ) → (pos 2 *ℤ z) ≤ℤ plane → is_above plane z ≡ false
  not_up z l = grind (arith, ints)

  first_max : (a b c : ℤ) → (pos 2 *ℤ int_max (int_max a b) c) ≤ℤ plane → (pos 2 *ℤ a) ≤ℤ plane
  first_max a b c l = omega (arith, ints, clamps)

  second_max : (a b c : ℤ) → (pos 2 *ℤ int_max (int_max a b) c) ≤ℤ plane → (pos 2 *ℤ b) ≤ℤ plane
  second_max a b c l = omega (arith, ints, clamps)

  third_max : (a b c : ℤ) → (pos 2 *ℤ int_max (int_max a b) c) ≤ℤ plane → (pos 2 *ℤ c) ≤ℤ plane
  third_max a b c l = omega (arith, ints, clamps)

  uncut : (t : Triangle) → (pos 2 *ℤ top_of t) ≤ℤ plane → cut_of plane t ≡ None
  uncut t l =
      let a = not_up t.a.z (first_max t.a.z t.b.z t.c.z l) in
      let b = not_up t.b.z (second_max t.a.z t.b.z t.c.z l) in
      let c = not_up t.c.z (third_max t.a.z t.b.z t.c.z l) in
      (λ i. cut_by t (a i) (b i) (c i) (is_below plane t.a.z) (is_below plane t.b.z) (is_below plane t.c.z))
      ∙ none_up t (is_below plane t.a.z) (is_below plane t.b.z) (is_below plane t.c.z)

  higher_first : (z : ℤ) (h : Option ℤ) → IfSome (higher_of (Some z) h) (λ w. (pos 2 *ℤ w) ≤ℤ plane)
      → (pos 2 *ℤ z) ≤ℤ plane
  higher_first z None l = l
  higher_first z (Some w) l = omega (arith, ints, clamps)

  higher_rest : (z : ℤ) (h : Option ℤ) → IfSome (higher_of (Some z) h) (λ w. (pos 2 *ℤ w) ≤ℤ plane)
      → IfSome h (λ w. (pos 2 *ℤ w) ≤ℤ plane)
  higher_rest z None l = tt
  higher_rest z (Some w) l = let m : (pos 2 *ℤ int_max z w) ≤ℤ plane = l in omega (arith, ints, clamps)

  all_uncut : (ts : List Triangle) → IfSome (highest_of ts) (λ z. (pos 2 *ℤ z) ≤ℤ plane) → cuts_of plane ts ≡ []
  all_uncut [] l = refl
  all_uncut (t ∷ ts) l = ap₂ cons_option (uncut t (higher_first (top_of t) (highest_of ts) l))
      (all_uncut ts (higher_rest (top_of t) (highest_of ts) l))

pub nothing_above : NothingAbove
nothing_above = record { each = λ plane ts p l. ap (λ cs. not (is_zero (wind p cs))) (all_uncut plane ts l) }
