-- A tree contains nothing at a plane that lies at or above its top.
use Rattle.std.proofs.Common.{◌≡◌, ◌⊎◌, ℕ, ◌<◌, ◌≤◌, Bool, true, false, not, ◌&&◌, ◌||◌, Option, Some, None, ℤ, pos, ◌*ℤ◌, ◌≤ℤ◌, IfSome, arith, refl, ap, ap₂, sym, ◌∙◌, inl, inr}
use Rattle.std.proofs.lemmas.Bool.Decides.{nat_tests}
use Rattle.std.proofs.lemmas.Int.{ints, clamps}
use Rattle.std.proofs.Math.Bool.{and-false}
use Rattle.std.specs.Prelude.{nat_lt, int_lt, is_none}
use Rattle.scad_geom.specs.Point.{Point}
use Rattle.scad_solid.specs.Height.{higher_of}
use Rattle.scad_solid.specs.Cut.{plane_of, contains}
use Rattle.scad_solid.proofs.Above.{nothing_above}
use Rattle.scad_tree.specs.Solid.{Solid, Solids, nothing, surface, union, intersection, difference, none, member}
use Rattle.scad_tree.specs.Member.{some_hold, all_hold}
use Rattle.scad_tree.specs.Height.{lower_of, top_of, greatest, least, is_below_top, layers_below, layers_to}
use Rattle.scad_tree.specs.Containment.{contained}
use Rattle.scad_tree.specs.Laws.{is_below, LayersHold}
use Rattle.scad_tree.proofs.Layers.{below_count}

-- a plane doesn't lie below a height, where there is one
abbrev IsOver : ℤ → Option ℤ → Type 0
IsOver plane height = IfSome height (λ z. (pos 2 *ℤ z) ≤ℤ plane)

over_both : (plane : ℤ) (a b : Option ℤ) → IsOver plane (higher_of a b) → IsOver plane a × IsOver plane b
over_both plane None b over = (tt, over)
over_both plane (Some z) None over = (over, tt)
over_both plane (Some z) (Some w) over = (omega (arith, ints, clamps, over), omega (arith, ints, clamps, over))

over_one : (plane : ℤ) (a b : Option ℤ) → IsOver plane (lower_of a b)
    → IsOver plane a ⊎ (IsOver plane b × (is_none b ≡ false))
over_one plane None b over = inl tt
over_one plane (Some z) None over = inl over
over_one plane (Some z) (Some w) over = chosen (int_lt z w) refl
  where
    chosen : (b : Bool) → int_lt z w ≡ b → IsOver plane (Some z) ⊎ (IsOver plane (Some w) × (is_none (Some w) ≡ false))
    chosen true e = inl (omega (arith, ints, clamps, over, e))
    chosen false e = inr (omega (arith, ints, clamps, over, e), refl)

module _ (plane : ℤ) (p : Point) where
  mutual
    none_above : (s : Solid) → IsOver plane (top_of s) → contained plane p s ≡ false
    none_above nothing over = refl
    none_above (surface ts) over = nothing_above.each plane ts p over
    none_above (union ms) over = some_above ms over
    none_above (intersection none) over = refl
    none_above (intersection (member s rest)) over =
        elim (over_one plane (top_of s) (least rest) over) [
          | inl first ↦ ap (λ b. b && all_hold (λ ts. contains plane ts p) rest) (none_above s first)
          | inr later ↦ ap (λ b. contained plane p s && b) (later_above rest later.0 later.1) ∙ and-false
              (contained plane p s)
        ]
    none_above (difference first rest) over = ap (λ b. b && not (some_hold (λ ts. contains plane ts p) rest))
        (none_above first over)

    some_above : (ms : Solids) → IsOver plane (greatest ms) → some_hold (λ ts. contains plane ts p) ms ≡ false
    some_above none over = refl
    some_above (member s rest) over =
        let both = over_both plane (top_of s) (greatest rest) over in
        ap₂ (λ a b. a || b) (none_above s both.0) (some_above rest both.1)

    later_above : (ms : Solids) → IsOver plane (least ms) → is_none (least ms) ≡ false
        → all_hold (λ ts. contains plane ts p) ms ≡ false
    later_above none over some = absurd (cc)
    later_above (member s rest) over some =
        elim (over_one plane (top_of s) (least rest) over) [
          | inl first ↦ ap (λ b. b && all_hold (λ ts. contains plane ts p) rest) (none_above s first)
          | inr later ↦ ap (λ b. contained plane p s && b) (later_above rest later.0 later.1) ∙ and-false
              (contained plane p s)
        ]

-- a layer that isn't among those below the top has its plane above it
over_top : (top : Option ℤ) (h layer : ℕ) → 0 < h → layers_to top h ≤ layer → IsOver (plane_of layer h) top
over_top None h layer some more = tt
over_top (Some z) h layer some more = not_below (below_count z h layer some)
  where
    not_below : nat_lt layer (layers_below z h) ≡ is_below_top z h layer → (pos 2 *ℤ z) ≤ℤ plane_of layer h
    not_below same =
        let no : nat_lt layer (layers_below z h) ≡ false = grind (arith, nat_tests) in
        let none : int_lt (plane_of layer h) (pos 2 *ℤ z) ≡ false = sym same ∙ no in
        omega (arith, ints, none)

below_by : (top : Option ℤ) (h layer : ℕ) → 0 < h → nat_lt layer (layers_to top h) ≡ is_below top h layer
below_by None h layer some = grind (arith, nat_tests)
below_by (Some z) h layer some = below_count z h layer some

pub layers_hold : LayersHold
layers_hold = record {
  below = λ s h layer some. below_by (top_of s) h layer some;
  above = λ s h layer p some more. none_above (plane_of layer h) p s (over_top (top_of s) h layer some more);
}
