-- Which edges have begun at a height, by the starts of all.
use Rattle.std.proofs.Common.{◌≡◌, ℕ, zero, suc, ◌<◌, Bool, true, false, cond, List, [], ◌∷◌, ◌++◌, length, drop, refl, sym, ap, ◌∙◌, arith}
use lib.IntN.{ℤ, pos, ◌*ℤ◌}
use lib.Signed.{◌<ℤ◌, ◌≤ℤ◌}
use Rattle.std.specs.Prelude.{int_le, int_lt, if◌then◌else◌}
use Rattle.std.specs.List.{AllByRecursion}
use Rattle.std.proofs.lemmas.Int.{ints}
use Rattle.scad_geom.specs.declared.point.Edge.{Edge}
use Rattle.scad_geom.specs.declared.level.Level.{Level}
use Rattle.scad_geom.specs.declared.level.LeafEdge.{LeafEdge}
use Rattle.scad_geom.specs.Line.{low}
use Rattle.scad_geom.specs.Level.{level_of, IsLower, IsAtMost}
use Rattle.scad_geom.proofs.Heights.{lower_then_at_most}
use Rattle.slice_bundles.specs.declared.start.Start.{Start}
use Rattle.slice_bundles.specs.Bundles.{edge_at}
use Rattle.slice_bundles.specs.Starts.{numbers_of, IsStartOf, AreRising, is_begun, begun_at, pending_at}

-- what is true of the heights of both ends is true of that of the lower one
pub of_lower : (P : Level → Type 0) (e : Edge) → P (level_of e.a.y) → P (level_of e.b.y) → P (level_of (low e).y)
unfolding low
of_lower P e a b = by_test (int_lt e.b.y e.a.y)
  where
    by_test : (t : Bool) → P (level_of (cond t e.b e.a).y)
    by_test true = b
    by_test false = a

-- ---- starts that rise
rising_rest : (s : Start) (ss : List Start) → AreRising (s ∷ ss) → AreRising ss
rising_rest s [] r = tt
rising_rest s (t ∷ ss) r = r.1

pub rising_drop : (n : ℕ) (ss : List Start) → AreRising ss → AreRising (drop n ss)
rising_drop zero ss r = r
rising_drop (suc n) [] r = tt
rising_drop (suc n) (s ∷ ss) r = rising_drop n ss (rising_rest s ss r)

-- ---- what has begun at a height, and what is pending
module _ (at : Level) where
  pub parted : (ss : List Start) → numbers_of ss ≡ numbers_of (begun_at at ss) ++ numbers_of (pending_at at ss)
  parted [] = refl
  parted (s ∷ ss) = by_test (is_begun at s) (parted ss)
    where
      by_test : (t : Bool) → numbers_of ss ≡ numbers_of (begun_at at ss) ++ numbers_of (pending_at at ss)
          → numbers_of (s ∷ ss) ≡ numbers_of (if t then s ∷ begun_at at ss else [])
          ++ numbers_of (if t then pending_at at ss else s ∷ ss)
      by_test true h = ap (λ (ks : List ℕ). s.number ∷ ks) h
      by_test false h = refl

  -- what is true of all starts is true of both parts
  pub begun_too : (P : Start → Type 0) (ss : List Start) → AllByRecursion P ss → AllByRecursion P (begun_at at ss)
  begun_too P [] h = tt
  begun_too P (s ∷ ss) h = by_test (is_begun at s) (begun_too P ss h.1)
    where
      by_test : (t : Bool) → AllByRecursion P (begun_at at ss)
          → AllByRecursion P (if t then s ∷ begun_at at ss else [])
      by_test true r = (h.0, r)
      by_test false r = tt

  pub pending_too : (P : Start → Type 0) (ss : List Start) → AllByRecursion P ss
      → AllByRecursion P (pending_at at ss)
  pending_too P [] h = tt
  pending_too P (s ∷ ss) h = by_test (is_begun at s) (pending_too P ss h.1)
    where
      by_test : (t : Bool) → AllByRecursion P (pending_at at ss)
          → AllByRecursion P (if t then pending_at at ss else s ∷ ss)
      by_test true r = r
      by_test false r = h

  pub all_begun : (ss : List Start) → AllByRecursion (λ s. is_begun at s ≡ true) (begun_at at ss)
  all_begun [] = tt
  all_begun (s ∷ ss) = by_test (is_begun at s) refl (all_begun ss)
    where
      by_test : (t : Bool) → is_begun at s ≡ t → AllByRecursion (λ s. is_begun at s ≡ true) (begun_at at ss)
          → AllByRecursion (λ s. is_begun at s ≡ true) (if t then s ∷ begun_at at ss else [])
      by_test true e r = (e, r)
      by_test false e r = tt

  next_waits : pos 0 <ℤ at.d → (s t : Start) → s.y ≤ℤ t.y → is_begun at s ≡ false
      → is_begun at t ≡ false
  next_waits d s t h e =
      let one : pos 0 <ℤ pos 1 = omega (arith, ints) in
      let a : IsLower at (level_of s.y) = omega (arith, ints) in
      let b : IsAtMost (level_of s.y) (level_of t.y) = omega (arith, ints) in
      let c : IsLower at (level_of t.y) = lower_then_at_most at (level_of s.y) (level_of t.y) d one one a b in
      sym (omega (arith, ints))

  wait_from : pos 0 <ℤ at.d → (s : Start) (ss : List Start) → is_begun at s ≡ false → AreRising (s ∷ ss)
      → AllByRecursion (λ s. is_begun at s ≡ false) (s ∷ ss)
  wait_from d s [] e r = (e, tt)
  wait_from d s (t ∷ ss) e r = (e, wait_from d t ss (next_waits d s t r.0 e) r.1)

  pub all_pending : pos 0 <ℤ at.d → (ss : List Start) → AreRising ss
      → AllByRecursion (λ s. is_begun at s ≡ false) (pending_at at ss)
  all_pending d [] r = tt
  all_pending d (s ∷ ss) r = by_test (is_begun at s) refl (all_pending d ss (rising_rest s ss r))
    where
      by_test : (t : Bool) → is_begun at s ≡ t → AllByRecursion (λ s. is_begun at s ≡ false) (pending_at at ss)
          → AllByRecursion (λ s. is_begun at s ≡ false) (if t then pending_at at ss else s ∷ ss)
      by_test true e q = q
      by_test false e q = wait_from d s ss e r

-- a test of starts that is a test of edges, and what is true of these edges' numbers
pub of_numbers : (edges : List LeafEdge) (at : Level) (t : Bool) (ss : List Start)
    → AllByRecursion (IsStartOf edges) ss → AllByRecursion (λ s. is_begun at s ≡ t) ss
    → AllByRecursion (λ k. (k < length edges) × (int_le ((low (edge_at edges k)).y *ℤ at.d) at.n ≡ t))
    (numbers_of ss)
of_numbers edges at t [] h e = tt
of_numbers edges at t (s ∷ ss) h e = (
  (h.0.there, ap (λ (y : ℤ). int_le (y *ℤ at.d) at.n) (sym h.0.y) ∙ e.0),
  of_numbers edges at t ss h.1 e.1,
)
