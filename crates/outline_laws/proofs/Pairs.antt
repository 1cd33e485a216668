-- Shapes of operations on two members, as values.
use Rattle.std.proofs.Common.{◌≡◌, ℕ, Bool, not, ◌&&◌, ◌||◌, [], ◌∷◌, Vec, Box, Global, refl, ap, ◌∙◌, arith}
use Rattle.std.proofs.Math.Bool.{or-false, and-true}
use denote.RawPtr.{null_ptr}
use Rattle.scad_geom.specs.declared.shape.Shape.{Shape, Empty, Union, Inter, Diff}
use Rattle.scad_geom.specs.Shape.{shape_holds}
use Rattle.scad_geom.proofs.Shapes.{holds_union, holds_inter, holds_diff}

heap : Global
heap = record { memory = record { seal = tt } }

pair : Shape → Shape → Vec Shape Global
pair s t = record {
  ptr = null_ptr;
  len = 2;
  cap = 2;
  alloc = heap;
  items = s ∷ (t ∷ []);
  ok = (refl, omega arith);
  small = omega arith;
}

boxed : Shape → Box Shape Global
boxed s = record { ptr = null_ptr; alloc = heap; value = s }

pub either : Shape → Shape → Shape
either s t = Union (pair s t)

pub both : Shape → Shape → Shape
both s t = Inter (pair s t)

pub without : Shape → Shape → Shape
without s t = Diff (boxed s) (pair t Empty)

module _ (inside : ℕ → Bool) (s t : Shape) where
  abbrev first : Bool
  first = shape_holds inside s

  abbrev second : Bool
  second = shape_holds inside t

  pub either_holds : shape_holds inside (either s t) ≡ (first || second)
  unfolding either pair
  either_holds = holds_union inside (pair s t) ∙ ap (λ (b : Bool). first || b) (or-false second)

  pub both_hold : shape_holds inside (both s t) ≡ (first && second)
  unfolding both pair
  both_hold = holds_inter inside (pair s t) ∙ ap (λ (b : Bool). first && b) (and-true second)

  pub first_holds : shape_holds inside (without s t) ≡ (first && not second)
  unfolding without pair boxed
  first_holds = holds_diff inside (boxed s) (pair t Empty) ∙ ap (λ (b : Bool). first && not b) (or-false second)
