-- Each edge that meets a height comes from below it or goes on above it.
use Rattle.std.proofs.Common.{◌≡◌, ℕ, ◌<◌, ◌⊎◌, inl, inr, Bool, true, false, cond, List, length, sym, arith}
use lib.IntN.{pos, ◌*ℤ◌}
use lib.Signed.{◌<ℤ◌}
use Rattle.std.specs.Prelude.{int_lt, int_le, ◌&&◌}
use Rattle.std.specs.List.{AllByRecursion}
use Rattle.std.proofs.lemmas.Bool.{and_parts}
use Rattle.std.proofs.lemmas.Int.{ints}
use Rattle.std.proofs.lemmas.List.Elements.{recursion_from_All}
use Rattle.scad_geom.specs.declared.point.Edge.{Edge}
use Rattle.scad_geom.specs.declared.level.Level.{Level}
use Rattle.scad_geom.specs.declared.level.LeafEdge.{LeafEdge}
use Rattle.scad_geom.specs.Line.{low, high, rise}
use Rattle.scad_geom.specs.Level.{level_of, IsLower, IsAtMost}
use Rattle.scad_geom.specs.Heights.{heights, AreNeighbours}
use Rattle.scad_geom.proofs.Heights.{at_most_chain}
use Rattle.scad_geom.proofs.Order.{all_ends}
use Rattle.slice_bundles.specs.Bundles.{no_edge, edge_at, reaches}
use Rattle.slice_border.specs.Pieces.{passes_at}

-- ---- each edge that meets the height comes from below or goes on above
lower_end : (P : Level → Type 0) (e : Edge) → P (level_of e.a.y) × P (level_of e.b.y) → P (level_of (low e).y)
unfolding low
lower_end P e h = by_test (int_lt e.b.y e.a.y)
  where
    by_test : (t : Bool) → P (level_of (cond t e.b e.a).y)
    by_test true = h.1
    by_test false = h.0

upper_end : (P : Level → Type 0) (e : Edge) → P (level_of e.a.y) × P (level_of e.b.y) → P (level_of (high e).y)
unfolding high
upper_end P e h = by_test (int_lt e.b.y e.a.y)
  where
    by_test : (t : Bool) → P (level_of (cond t e.a e.b).y)
    by_test true = h.0
    by_test false = h.1

pub record Passes (e : Edge) (m : Level) : Type 0 where
  pub rises : pos 0 <ℤ rise e
  pub from : IsAtMost (level_of (low e).y) m
  pub to : IsAtMost m (level_of (high e).y)

pub passes_is : (e : Edge) (m : Level) → passes_at e m ≡ true → Passes e m
passes_is e m h =
    let p = and_parts (int_lt (pos 0) (rise e)) (int_le ((low e).y *ℤ m.d) m.n && int_le m.n ((high e).y *ℤ m.d)) h in
    let q = and_parts (int_le ((low e).y *ℤ m.d) m.n) (int_le m.n ((high e).y *ℤ m.d)) p.1 in
    let p0 = p.0 in let q0 = q.0 in let q1 = q.1 in
    record { rises = omega (arith, ints); from = omega (arith, ints); to = omega (arith, ints) }

reaches_by : (e : Edge) (l u : Level) → pos 0 <ℤ rise e → IsAtMost (level_of (low e).y) l
    → IsAtMost u (level_of (high e).y)
    → reaches e l u ≡ true
unfolding reaches
reaches_by e l u r a b =
    let x : int_lt (pos 0) (rise e) ≡ true = sym (omega (arith, ints)) in
    let y : int_le ((low e).y *ℤ l.d) l.n ≡ true = sym (omega (arith, ints)) in
    let z : int_le u.n ((high e).y *ℤ u.d) ≡ true = sym (omega (arith, ints)) in
    rw (x, y, z)

rising_gap : (e : Edge) → pos 0 <ℤ rise e → IsLower (level_of (low e).y) (level_of (high e).y)
unfolding rise
rising_gap e r = omega (arith, ints)

apart_levels : (p q : Level) → IsLower p q → IsAtMost q p → ⊥
apart_levels p q h k = omega (arith, ints)

one : pos 0 <ℤ pos 1
one = omega (arith, ints)

module _ (es : List LeafEdge) (m : Level) (dm : pos 0 <ℤ m.d) (k : ℕ) (o : k < length es)
    (t : Passes (edge_at es k) m) where
  abbrev e : Edge
  e = edge_at es k

  from_below : (l : Level) → IsAtMost (level_of (low e).y) l → reaches e l m ≡ true
  from_below l a = reaches_by e l m t.rises a t.to

  on_above : (u : Level) → AllByRecursion (λ h. IsAtMost h m ⊎ IsAtMost u h) (heights es)
      → IsAtMost m (level_of (low e).y) → reaches e m u ≡ true
  on_above u n a = by_case (upper_end (λ h. IsAtMost h m ⊎ IsAtMost u h) e
      (all_ends (λ h. IsAtMost h m ⊎ IsAtMost u h) es k no_edge n o))
    where
      by_case : IsAtMost (level_of (high e).y) m ⊎ IsAtMost u (level_of (high e).y) → reaches e m u ≡ true
      by_case (inl b) = absurd (apart_levels (level_of (low e).y) (level_of (high e).y) (rising_gap e t.rises)
          (at_most_chain (level_of (high e).y) m (level_of (low e).y) one dm one b a))
      by_case (inr b) = reaches_by e m u t.rises t.from b

  -- with heights below and above
  pub either : (l u : Level) → AreNeighbours es l m → AreNeighbours es m u
      → (reaches e l m ≡ true) ⊎ (reaches e m u ≡ true)
  either l u lm mu =
      by_case (lower_end (λ h. IsAtMost h l ⊎ IsAtMost m h) e
      (all_ends (λ h. IsAtMost h l ⊎ IsAtMost m h) es k no_edge
      (recursion_from_All (λ h. IsAtMost h l ⊎ IsAtMost m h) (heights es) lm.between) o))
    where
      by_case : IsAtMost (level_of (low e).y) l ⊎ IsAtMost m (level_of (low e).y)
          → (reaches e l m ≡ true) ⊎ (reaches e m u ≡ true)
      by_case (inl a) = inl (from_below l a)
      by_case (inr a) = inr (on_above u (recursion_from_All (λ h. IsAtMost h m ⊎ IsAtMost u h)
          (heights es) mu.between) a)

  pub only_above : (u : Level) → AreNeighbours es m u → AllByRecursion (IsAtMost m) (heights es) → reaches e m u ≡ true
  only_above u mu h = on_above u (recursion_from_All (λ h. IsAtMost h m ⊎ IsAtMost u h) (heights es) mu.between)
      (lower_end (IsAtMost m) e (all_ends (IsAtMost m) es k no_edge h o))

  pub only_below : (l : Level) → AreNeighbours es l m → AllByRecursion (λ h. IsAtMost h m) (heights es)
      → reaches e l m ≡ true
  only_below l lm h =
      by_case (lower_end (λ h. IsAtMost h l ⊎ IsAtMost m h) e
      (all_ends (λ h. IsAtMost h l ⊎ IsAtMost m h) es k no_edge
      (recursion_from_All (λ h. IsAtMost h l ⊎ IsAtMost m h) (heights es) lm.between) o))
    where
      top : IsAtMost (level_of (high e).y) m
      top = upper_end (λ h. IsAtMost h m) e (all_ends (λ h. IsAtMost h m) es k no_edge h o)

      by_case : IsAtMost (level_of (low e).y) l ⊎ IsAtMost m (level_of (low e).y) → reaches e l m ≡ true
      by_case (inl a) = from_below l a
      by_case (inr a) = absurd (apart_levels (level_of (low e).y) (level_of (high e).y) (rising_gap e t.rises)
          (at_most_chain (level_of (high e).y) m (level_of (low e).y) one dm one top a))

  -- with neither there is none
  pub never : AllByRecursion (IsAtMost m) (heights es) → AllByRecursion (λ h. IsAtMost h m) (heights es) → ⊥
  never a b = apart_levels (level_of (low e).y) (level_of (high e).y) (rising_gap e t.rises)
      (at_most_chain (level_of (high e).y) m (level_of (low e).y) one dm one
      (upper_end (λ h. IsAtMost h m) e (all_ends (λ h. IsAtMost h m) es k no_edge b o))
      (lower_end (IsAtMost m) e (all_ends (IsAtMost m) es k no_edge a o)))
