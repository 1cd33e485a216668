-- The points of a plane, where points that lie deep inside are passed over.
use Rattle.std.proofs.Common.{◌≡◌, ℕ, zero, suc, ◌<◌, ◌≤◌, false, cond, List, [], ◌∷◌, ◌++◌, length, get_or, drop, refl, sym, ap, ◌∙◌, arith}
use lib.IntN.{ℤ, pos, negsuc}
use lib.Signed.{◌<ℤ◌}
use Rattle.std.proofs.lemmas.Int.{ints}
use Rattle.scad_geom.specs.Sign.{is_zero}
use Rattle.scad_geom.specs.declared.point3.Pt3.{Pt3}
use Rattle.scad_hull.specs.declared.turning.Normal.{Normal}
use Rattle.scad_hull.specs.Space.{depth_of}
use Rattle.scad_hull.specs.Faces.{in_plane}

not_in : (z : ℤ) → pos 0 <ℤ z → is_zero z ≡ false
not_in (pos zero) h = absurd (omega (arith, ints))
not_in (pos (suc n)) h = refl
not_in (negsuc n) h = refl

module _ (a : Pt3) (n : Normal) where
  pub passed_over : (ps : List Pt3) (i j : ℕ) → i ≤ j → j ≤ length ps
      → ((k : ℕ) (d : Pt3) → i ≤ k → k < j → pos 0 <ℤ depth_of n a (get_or ps k d))
      → in_plane (drop j ps) a n ≡ in_plane (drop i ps) a n
  passed_over [] zero zero h l f = refl
  passed_over [] zero (suc j) h l f = absurd (omega arith)
  passed_over [] (suc i) zero h l f = absurd (omega arith)
  passed_over [] (suc i) (suc j) h l f = absurd (omega arith)
  passed_over (p ∷ ps) zero zero h l f = refl
  passed_over (p ∷ ps) (suc i) zero h l f = absurd (omega arith)
  passed_over (p ∷ ps) zero (suc j) h l f =
      passed_over ps zero j (omega arith) (omega arith) (λ k d g m. f (suc k) d (omega arith) (omega arith))
      ∙ sym (ap (λ c. cond c (p ∷ in_plane ps a n) (in_plane ps a n))
      (not_in (depth_of n a p) (f zero p (omega arith) (omega arith))))
  passed_over (p ∷ ps) (suc i) (suc j) h l f =
      passed_over ps i j (omega arith) (omega arith) (λ k d g m. f (suc k) d (omega arith) (omega arith))

  -- a loop's step over them
  pub found_past : (ps out all : List Pt3) (i j : ℕ) → i ≤ j → j ≤ length ps
      → ((k : ℕ) (d : Pt3) → i ≤ k → k < j → pos 0 <ℤ depth_of n a (get_or ps k d))
      → out ++ in_plane (drop i ps) a n ≡ all → out ++ in_plane (drop j ps) a n ≡ all
  found_past ps out all i j h l f e = ap (λ xs. out ++ xs) (passed_over ps i j h l f) ∙ e
