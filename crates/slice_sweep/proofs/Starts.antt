-- Lower ends as starts of edges.
use Rattle.std.proofs.Common.{◌≡◌, ℕ, zero, suc, ◌+◌, ◌<◌, List, [], ◌∷◌, ◌++◌, length, get_or, drop, refl, sym, ap₂, ◌∙◌, arith, subst, add-one, Bool, false}
use Rattle.std.specs.Prelude.{int_lt}
use Rattle.std.specs.Cmp.{IsStrictWeakOrder}
use Rattle.std.specs.List.Sorted.{IsSortedBy}
use Rattle.std.proofs.lemmas.Int.{ints}
use Rattle.std.specs.List.{AllByRecursion}
use Rattle.std.proofs.lemmas.List.Elements.{recursion_from_All, All-drop}
use Rattle.scad_geom.specs.declared.level.Level.{Level}
use Rattle.scad_geom.specs.declared.level.LeafEdge.{LeafEdge}
use Rattle.slice_bundles.specs.Starts.{AreStarts, AreRising, IsStartOf, numbers_of, begun_at, pending_at}
use Rattle.slice_bundles.proofs.Beginning.{rising_drop}
use Rattle.slice_sweep.specs.declared.lower_end.LowerEnd.{LowerEnd}
use Rattle.slice_sweep.specs.LowerEnds.{starts_of}

abbrev pub lower_first : LowerEnd → LowerEnd → Bool
lower_first s t = int_lt s.y t.y

pub lower_order : IsStrictWeakOrder lower_first
lower_order = record {
  one_way = λ s t h. sym (omega (arith, ints));
  chain = λ s t u h k. sym (omega (arith, ints));
}

rising_by : (ss : List LowerEnd) → ((k : ℕ) (d : LowerEnd) → suc k < length ss
    → lower_first (get_or ss (suc k) d) (get_or ss k d) ≡ false) → AreRising (starts_of ss)
rising_by [] h = tt
rising_by (s ∷ []) h = tt
rising_by (s ∷ (t ∷ ss)) h =
    let q : lower_first t s ≡ false = h zero s (omega arith) in
    (omega (arith, ints), rising_by (t ∷ ss) (λ k d b. h (suc k) d (omega arith)))

pub rising_from : (ss : List LowerEnd) → IsSortedBy lower_first ss → AreRising (starts_of ss)
rising_from ss h = rising_by ss (λ k d b.
    let t : lower_first (get_or ss (k + 1) d) (get_or ss k d) ≡ false = h k d (omega arith) (omega arith) in
    rw add-one at t)

starts_drop : (n : ℕ) (ss : List LowerEnd) → drop n (starts_of ss) ≡ starts_of (drop n ss)
starts_drop zero ss = refl
starts_drop (suc n) [] = refl
starts_drop (suc n) (s ∷ ss) = starts_drop n ss

-- ---- those that are left
pub starts_left : (es : List LeafEdge) (n : ℕ) (ss : List LowerEnd) → AreStarts es (starts_of ss)
    → AllByRecursion (IsStartOf es) (starts_of (drop n ss))
starts_left es n ss h = subst (AllByRecursion (IsStartOf es)) (starts_drop n ss)
    (recursion_from_All (IsStartOf es) (drop n (starts_of ss)) (All-drop (IsStartOf es) n (starts_of ss) h))

pub rising_left : (n : ℕ) (ss : List LowerEnd) → AreRising (starts_of ss) → AreRising (starts_of (drop n ss))
rising_left n ss r = subst AreRising (starts_drop n ss) (rising_drop n (starts_of ss) r)

-- ---- as the code begins them
pub begun_by : (at : Level) (b : ℕ) (E X : List LowerEnd) (old new B : List ℕ) → X ≡ E → old ≡ []
    → new ≡ old ++ numbers_of (begun_at at (starts_of (drop b X))) → B ≡ new
    → B ≡ numbers_of (begun_at at (starts_of (drop b E)))
begun_by at b E X old new B x o n e =
    e ∙ n ∙ ap₂ (λ (ks : List ℕ) (es : List LowerEnd). ks ++ numbers_of (begun_at at (starts_of (drop b es)))) o x

pub pending_by : (at : Level) (b n : ℕ) (E X : List LowerEnd) → X ≡ E
    → starts_of (drop n X) ≡ pending_at at (starts_of (drop b X))
    → starts_of (drop n E) ≡ pending_at at (starts_of (drop b E))
pending_by at b n E X x h =
    subst (λ (es : List LowerEnd). starts_of (drop n es) ≡ pending_at at (starts_of (drop b es))) x h
