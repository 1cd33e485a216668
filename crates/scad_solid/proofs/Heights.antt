-- The highest of heights, taken from the left or from the right.
use Rattle.std.proofs.Common.{◌≡◌, ℕ, ◌+◌, ◌<◌, ◌≤◌, ℤ, List, length, get_or, drop, Option, Some, None, refl, ap, sym, ◌∙◌, arith}
use Rattle.std.specs.Int.{int_max}
use Rattle.std.proofs.lemmas.Int.{ints, clamps}
use Rattle.std.proofs.lemmas.List.{at_drop_all, at_drop_more}
use Rattle.scad_solid.specs.declared.triangle.Triangle.{Triangle}
use Rattle.scad_solid.specs.Height.{higher_of, highest_of, top_of}

int_max_assoc : (x y z : ℤ) → int_max (int_max x y) z ≡ int_max x (int_max y z)
int_max_assoc x y z = omega (arith, ints, clamps)

pub higher_of_assoc : (a b c : Option ℤ) → higher_of (higher_of a b) c ≡ higher_of a (higher_of b c)
higher_of_assoc None b c = refl
higher_of_assoc (Some x) None c = refl
higher_of_assoc (Some x) (Some y) None = refl
higher_of_assoc (Some x) (Some y) (Some z) = ap Some (int_max_assoc x y z)

higher_of-none : (h : Option ℤ) → higher_of h None ≡ h
higher_of-none None = refl
higher_of-none (Some z) = refl

-- the highest so far of triangles that are gone through one by one
module _ (ts : List Triangle) (k : ℕ) (h : Option ℤ) where
  pub highest-all : length ts ≤ k → (all : Option ℤ) → higher_of h (highest_of (drop k ts)) ≡ all → h ≡ all
  highest-all none all so_far =
      sym (at_drop_all (λ rest. higher_of h (highest_of rest)) ts k none ∙ higher_of-none h) ∙ so_far

  pub highest-more : (d : Triangle) → k < length ts → (top new : ℤ) (all : Option ℤ) → top ≡ top_of (get_or ts k d)
      → Some new ≡ higher_of h (Some top) → higher_of h (highest_of (drop k ts)) ≡ all
      → higher_of (Some new) (highest_of (drop (k + 1) ts)) ≡ all
  highest-more d inside top new all is more so_far =
      let rest = highest_of (drop (k + 1) ts) in
      ap (λ g. higher_of g rest) more ∙ higher_of_assoc h (Some top) rest
      ∙ ap (λ z. higher_of h (higher_of (Some z) rest)) is
      ∙ sym (at_drop_more (λ rest. higher_of h (highest_of rest)) ts k d inside) ∙ so_far
