-- A signed value that was cast to its bits and back, as the answer and the arguments of a call are.
use Rattle.std.proofs.Common.{◌≡◌, ℕ, ◌*◌, ◌^◌, ◌<◌, ◌≤◌, ℤ, pos, ◌+ℤ◌, ◌-ℤ◌, ◌*ℤ◌, unsigned_abs}
use Rattle.std.proofs.Common.{to_z, of_z, FitsSigned, refl, ap, ap₂, ◌∙◌, arith}
use Rattle.std.proofs.lemmas.Int.{ints, to_z-of_z, unsigned_abs-mul}
use mir.Syntax.{Width, w32, w128}
use mir.Val.{hbits}
use lib.Signed.{mag}

-- for `using(..)` on functions that chain calls over signed numbers
pub ruleset casts = (to_z-of_z)

-- ---- the value of a call, which is one of its type
pub by_cast : (w : Width) {r v : ℤ} → mag r < 2 ^ hbits w → r ≡ v → to_z w (of_z w r) ≡ v
by_cast w {r} fits is = to_z-of_z w r (record { sfits = fits }) ∙ is

pub sum_by : (w : Width) {r a b c d : ℤ} → mag r < 2 ^ hbits w → r ≡ a +ℤ b → a ≡ c → b ≡ d
    → to_z w (of_z w r) ≡ c +ℤ d
sum_by w fits is left right = by_cast w fits (is ∙ ap₂ (λ (s t : ℤ). s +ℤ t) left right)

pub difference_by : (w : Width) {r a b c d : ℤ} → mag r < 2 ^ hbits w → r ≡ a -ℤ b → a ≡ c → b ≡ d
    → to_z w (of_z w r) ≡ c -ℤ d
difference_by w fits is left right = by_cast w fits (is ∙ ap₂ (λ (s t : ℤ). s -ℤ t) left right)

pub product_by : (w : Width) {r a b c d : ℤ} → mag r < 2 ^ hbits w → r ≡ a *ℤ b → a ≡ c → b ≡ d
    → to_z w (of_z w r) ≡ c *ℤ d
product_by w fits is left right = by_cast w fits (is ∙ ap₂ (λ (s t : ℤ). s *ℤ t) left right)

-- ---- sizes, by which `omega` needs no case of a sign for the bounds of a chain of calls
pub fits_by_size : (w : Width) (z : ℤ) → unsigned_abs z < 2 ^ hbits w → FitsSigned w z
fits_by_size w z small = omega (arith, ints)

-- what is handed on to a call
pub handed : (w : Width) (z : ℤ) {v : ℤ} → unsigned_abs z < 2 ^ hbits w → z ≡ v → to_z w (of_z w z) ≡ v
handed w z small is = to_z-of_z w z (fits_by_size w z small) ∙ is

pub widened : (w u : Width) (z : ℤ) {v : ℤ} → unsigned_abs z < 2 ^ hbits w → unsigned_abs z < 2 ^ hbits u → z ≡ v
    → to_z u (of_z u (to_z w (of_z w z))) ≡ v
widened w u z small large is =
    ap (λ (y : ℤ). to_z u (of_z u y)) (handed w z small refl) ∙ handed u z large is

pub cast_size : (w : Width) (z : ℤ) → unsigned_abs z < 2 ^ hbits w → unsigned_abs (to_z w (of_z w z)) ≡ unsigned_abs z
cast_size w z small = ap unsigned_abs (to_z-of_z w z (fits_by_size w z small))

pub read_size : (w : Width) (n : ℕ) → unsigned_abs (to_z w n) ≤ 2 ^ hbits w
read_size w n = omega (arith, ints)

pub ruleset sizes = (cast_size, read_size)

-- any number of 32 bits as one of 128
pub read_widened : (z : ℤ) → FitsSigned w32 z → to_z w128 (of_z w128 (to_z w32 (of_z w32 z))) ≡ z
read_widened z fits = handed w128 _ (omega (arith, read_size w32 (of_z w32 z))) (to_z-of_z w32 z fits)

pub doubled_size : (z : ℤ) → unsigned_abs (pos 2 *ℤ z) ≡ 2 * unsigned_abs z
doubled_size z = omega (arith, ints)

pub product_fits : (w : Width) (a b : ℤ) → unsigned_abs a * unsigned_abs b < 2 ^ hbits w → FitsSigned w (a *ℤ b)
product_fits w a b small = fits_by_size w (a *ℤ b) (rw (unsigned_abs-mul a b) small)
