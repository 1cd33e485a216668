-- Blocks of strands with known keys, and strands that sleep.
use Rattle.std.proofs.Common.{◌≡◌, ℕ, zero, suc, ◌+◌, ◌-◌, ◌/◌, ◌<◌, ◌≤◌, ◌⊎◌, inl, inr, List, [], ◌∷◌, ◌++◌, length, get_or, set, take, drop, refl, sym, ap, ◌∙◌, arith, subst, ℤ}
use lib.Signed.{◌≤ℤ◌}
use Rattle.std.proofs.lemmas.Bool.{cases_eq, cases_lt}
use Rattle.std.proofs.lemmas.Int.{ints}
use Rattle.std.proofs.lemmas.List.{append-nil, length-append, length-drop, length-take-le, get_or-take, get_or-drop, get_or_append_left, get_or-append_right, get_or-set_other, length-set}
use Rattle.std.proofs.lemmas.Grind.{get_or-set_at}
use Rattle.std.proofs.lemmas.List.Elements.{All-from_recursion}
use Rattle.scad_geom.specs.Limits.{coordinate_limit}
use Rattle.scad_geom.specs.declared.level.Level.{Level}
use Rattle.scad_geom.specs.declared.level.LeafEdge.{LeafEdge}
use Rattle.scad_geom.specs.Level.{IsLevelWithin}
use Rattle.scad_geom.specs.Heights.{AreNeighbours}
use Rattle.slice_sweep.specs.declared.change.Change.{Change}
use Rattle.slice_sweep.specs.declared.strand.Strand.{Strand}
use Rattle.slice_sweep.specs.Keys.{IsBelowKey, stale}
use Rattle.slice_sweep.specs.Strands.{weakened, fresh, no_strand, strand_at}
use Rattle.slice_sweep.specs.Lows.{block, IsLow, AreLow, KeysStay}
use Rattle.slice_sweep.specs.Mending.{AreMendedTo}
use Rattle.slice_sweep.specs.Places.{StartsKeyless, ArePlacedTo}
use Rattle.slice_sweep.proofs.Keys.{times_at_most, never_below_less}
use Rattle.slice_sweep.proofs.Telling.{asleep_told}
use Rattle.slice_sweep.proofs.Placing.{placed_stays}
use Rattle.slice_sweep.proofs.Groups.{asleep}
use Rattle.slice_sweep.proofs.Weakening.{length_fresh, length_weakened, weakened_length}

-- ---- strands that sleep
module _ (es : List LeafEdge) (l u : Level) (w : IsLevelWithin coordinate_limit l) (n : AreNeighbours es l u)
    (L : List Strand) where
  abbrev pub Passed : ℕ → ℕ → Type 0
  Passed from to = AreMendedTo es l u to L × ((old : List Strand) (cs : List Change)
      → ArePlacedTo es l from old L cs → ArePlacedTo es l to old L cs)

  slept_one : (p : ℕ) → AreMendedTo es l u p L → p < length L → IsBelowKey l (strand_at L p).wake → Passed p (p + 1)
  slept_one p m o b =
      let next = asleep es l u n p L m o b in (
        next,
        λ (old : List Strand) (cs : List Change) a.
            let keyless = All-from_recursion (StartsKeyless es l) L a.keyless p no_strand o in
            subst (λ (ds : List Change). ArePlacedTo es l (p + 1) old L ds) (append-nil cs)
            (placed_stays es l u p old L m o next cs [] a (asleep_told es l w p (strand_at L p) keyless b)),
      )

  slept_more : (from k : ℕ) → AreMendedTo es l u from L → from + k ≤ length L
      → ((i : ℕ) → from ≤ i → i < from + k → IsBelowKey l (strand_at L i).wake) → Passed from (from + k)
  slept_more from zero m o b =
      let e : from ≡ from + 0 = omega arith in
      subst (Passed from) e (m, λ (old : List Strand) (cs : List Change) a. a)
  slept_more from (suc k) m o b =
      let h = slept_more from k m (omega arith) (λ i p q. b i p (omega arith)) in
      let s = slept_one (from + k) h.0 (omega arith) (b (from + k) (omega arith) (omega arith)) in
      let e : from + k + 1 ≡ from + suc k = omega arith in
      subst (Passed from) e (s.0, λ (old : List Strand) (cs : List Change) a. s.1 old cs (h.1 old cs a))

  pub slept : (from to : ℕ) → from ≤ to → to ≤ length L → AreMendedTo es l u from L
      → ((i : ℕ) → from ≤ i → i < to → IsBelowKey l (strand_at L i).wake) → Passed from to
  slept from to f t m b =
      let e : from + (to - from) ≡ to = omega arith in
      subst (Passed from) e (slept_more from (to - from) m (omega arith) (λ i p q. b i p (omega arith)))

-- a strand of a block that is known to sleep
pub low_sleeps : (l : Level) → IsLevelWithin coordinate_limit l → (low wake : ℤ) → (low ≤ℤ stale) ⊎ (low ≤ℤ wake)
    → IsBelowKey l low → IsBelowKey l wake
low_sleeps l w low wake (inl c) b =
    absurd (never_below_less l l low w w.positive (omega (arith, ints)) c b)
low_sleeps l w low wake (inr c) b =
    let m = times_at_most low wake l.d w.positive c in
    omega (arith, ints, m, b)

-- ---- blocks that are touched
-- what is known of a block whose strands keep their keys
still_low : (from to b : ℕ) (old new : List Strand) (low : ℤ) → IsLow old b low → KeysStay from to old new
    → ((i : ℕ) → i / block ≡ b → (i < from) ⊎ (to ≤ i)) → IsLow new b low
still_low from to b old new low h k a i e o =
    let s = k i o (a i e) in
    elim (h i e s.0) [
      | inl c ↦ inl c
      | inr c ↦ inr (subst (λ (z : ℤ). low ≤ℤ z) (sym s.1) c)
    ]

-- each block is forgotten, or lies before a place or behind another
pub record AreForgotten (first last : ℕ) (old new : List ℤ) : Type 0 where
  pub size : length new ≡ length old
  pub each : (b : ℕ) → (get_or new b stale ≡ stale)
      ⊎ ((get_or new b stale ≡ get_or old b stale) × ((b < first) ⊎ (last ≤ b)))

pub forgotten_low : (lows new_lows : List ℤ) (from to : ℕ)
    → AreForgotten (from / block) (to / block + 1) lows new_lows
    → (old new : List Strand) → AreLow lows old → KeysStay from to old new → AreLow new_lows new
forgotten_low lows new_lows from to f old new h k b o =
    elim (f.each b) [
      | inl c ↦ λ i e p. inl (subst (λ (z : ℤ). z ≤ℤ stale) (sym c) (omega (arith, ints)))
      | inr c ↦
          let size = f.size in
          subst (IsLow new b) (sym c.0)
          (still_low from to b old new (get_or lows b stale) (h b (omega (arith, size, o))) k (aside c.1))
    ]
  where
    aside : (b < from / block) ⊎ (to / block + 1 ≤ b) → (i : ℕ) → i / block ≡ b → (i < from) ⊎ (to ≤ i)
    aside (inl c) i e = inl (omega (arith, c, e))
    aside (inr c) i e = inr (omega (arith, c, e))

-- one more is forgotten
pub forgotten_more : (first p : ℕ) (old new next : List ℤ) → length next ≡ length new → get_or next p stale ≡ stale
    → ((b : ℕ) → (b ≡ p → ⊥) → get_or next b stale ≡ get_or new b stale) → AreForgotten first p old new
    → AreForgotten first (p + 1) old next
forgotten_more first p old new next size at others f = record {
  size = size ∙ f.size;
  each = λ b. elim (cases_eq b p) [
    | inl e ↦ inl (subst (λ (i : ℕ). get_or next i stale ≡ stale) (sym e) at)
    | inr e ↦ elim (f.each b) [
      | inl c ↦ inl (others b e ∙ c)
      | inr c ↦ inr (others b e ∙ c.0, behind b e c.1)
    ]
  ];
}
  where
    behind : (b : ℕ) → (b ≡ p → ⊥) → (b < first) ⊎ (p ≤ b) → (b < first) ⊎ (p + 1 ≤ b)
    behind b e (inl c) = inl c
    behind b e (inr c) = inr (omega (arith, c, e))

pub none_forgotten : (first : ℕ) (old : List ℤ) → AreForgotten first first old old
none_forgotten first old = record { size = refl; each = λ b. inr (refl, cases_lt b first) }

pub forgotten_all : (first p last : ℕ) (old new : List ℤ) → last ≤ p → AreForgotten first p old new
    → AreForgotten first last old new
forgotten_all first p last old new o f = record {
  size = f.size;
  each = λ b. elim (f.each b) [
    | inl c ↦ inl c
    | inr c ↦ inr (c.0, behind b c.1)
  ];
}
  where
    behind : (b : ℕ) → (b < first) ⊎ (p ≤ b) → (b < first) ⊎ (last ≤ b)
    behind b (inl c) = inl c
    behind b (inr c) = inr (omega (arith, c, o))

-- ---- keys that are found
pub found_low : (lows : List ℤ) (L : List Strand) (b : ℕ) (low : ℤ) → b < length lows → IsLow L b low → AreLow lows L
    → AreLow (set lows b low) L
found_low lows L b low o k h p q = elim (cases_eq p b) [
  | inl e ↦
      let same = get_or-set_at lows b p low stale e o in
      subst (IsLow L p) (sym same) (subst (λ (i : ℕ). IsLow L i low) (sym e) k)
  | inr e ↦
      let r : p < length lows = omega (arith, length-set lows b low, q) in
      subst (IsLow L p) (sym (get_or-set_other lows b p low stale e)) (h p r)
]

-- none is known of more blocks
pub more_low : (lows more : List ℤ) (L : List Strand) → AreLow lows L
    → ((b : ℕ) → b < length more → b < length lows → get_or more b stale ≡ get_or lows b stale)
    → ((b : ℕ) → b < length more → length lows ≤ b → get_or more b stale ≡ stale) → AreLow more L
more_low lows more L h old new b o = elim (cases_lt b (length lows)) [
  | inl c ↦ subst (IsLow L b) (sym (old b o c)) (h b c)
  | inr c ↦ λ i e p. inl (subst (λ (z : ℤ). z ≤ℤ stale) (sym (new b o c)) (omega (arith, ints)))
]

-- ---- a key that is written where there was none
pub woken_low : (lows : List ℤ) (L : List Strand) (i : ℕ) (x : Strand) → i < length L
    → (strand_at L i).wake ≡ stale → AreLow lows L → AreLow lows (set L i x)
woken_low lows L i x o z h b p j e q = elim (cases_eq j i) [
  | inl c ↦ inl (elim (h b p j e there) [
    | inl d ↦ d
    | inr d ↦ subst (λ (y : ℤ). get_or lows b stale ≤ℤ y)
        (ap (λ (k : ℕ). (strand_at L k).wake) c ∙ z) d
  ])
  | inr c ↦ subst (λ (s : Strand). (get_or lows b stale ≤ℤ stale) ⊎ (get_or lows b stale ≤ℤ s.wake))
      (sym (get_or-set_other L i j x no_strand c)) (h b p j e there)
]
  where
    there : j < length L
    there = omega (arith, length-set L i x, q)

-- ---- strands put in the place of others
weakened_before : (ss : List Strand) (i : ℕ) (d : Strand) → suc i < length ss → get_or (weakened ss) i d ≡ get_or ss i d
weakened_before [] i d o = absurd (omega arith)
weakened_before (s ∷ []) i d o = absurd (omega arith)
weakened_before (s ∷ (t ∷ ss)) zero d o = refl
weakened_before (s ∷ (t ∷ ss)) (suc i) d o = weakened_before (t ∷ ss) i d (omega arith)

module _ (L W : List Strand) (from : ℕ) (o : from ≤ length L) (we : W ≡ weakened (take from L) ++ drop from L) where
  wide : length W ≡ length L
  wide = weakened_length L W from o we

  first : length (take from W) ≡ from
  first = length-take-le from W (omega (arith, wide, o))

  front : length (weakened (take from L)) ≡ from
  front = length_weakened (take from L) ∙ length-take-le from L o

  module _ (new R : List Strand) (e : new ≡ take from W ++ R) where
    same_before : (i : ℕ) → i < from - 1 → strand_at new i ≡ strand_at L i
    same_before i q =
        let q' : i < from = omega arith in
        let long = length-take-le from L o in
        ap (λ (xs : List Strand). strand_at xs i) e
        ∙ get_or_append_left (take from W) R no_strand i (omega (arith, first, q'))
        ∙ get_or-take from W i no_strand q' ∙ ap (λ (xs : List Strand). strand_at xs i) we
        ∙ get_or_append_left (weakened (take from L)) (drop from L) no_strand i (omega (arith, front, q'))
        ∙ weakened_before (take from L) i no_strand (omega (arith, long, q)) ∙ get_or-take from L i no_strand q'

    pub keys_before : KeysStay (from - 1) (length new) L new
    keys_before i p (inl q) = (omega arith, ap (λ (s : Strand). s.wake) (same_before i q))
    keys_before i p (inr q) = absurd (omega arith)

  module _ (new : List Strand) (bs : List (List ℕ)) (to : ℕ) (t : to ≤ length L) (z : from + length bs ≡ to)
      (e : new ≡ take from W ++ (fresh bs ++ drop to W)) where
    same_behind : (i : ℕ) → to ≤ i → strand_at new i ≡ strand_at L i
    same_behind i q =
        let count = length_fresh bs in
        let a : from ≤ i = omega (arith, z, q) in
        let b : length bs ≤ i - from = omega (arith, z, q) in
        let at_W : to + (i - from - length bs) ≡ i = omega (arith, z, q) in
        let at_L : from + (i - from) ≡ i = omega (arith, a) in
        ap (λ (xs : List Strand). strand_at xs i) e
        ∙ get_or-append_right (take from W) (fresh bs ++ drop to W) from i no_strand first a
        ∙ get_or-append_right (fresh bs) (drop to W) (length bs) (i - from) no_strand count b
        ∙ get_or-drop to W (i - from - length bs) no_strand ∙ ap (λ (j : ℕ). strand_at W j) at_W
        ∙ ap (λ (xs : List Strand). strand_at xs i) we
        ∙ get_or-append_right (weakened (take from L)) (drop from L) from i no_strand front a
        ∙ get_or-drop from L (i - from) no_strand ∙ ap (λ (j : ℕ). strand_at L j) at_L

    long : length new ≡ length L
    long =
        let a = ap length e in
        let b = length-append (take from W) (fresh bs ++ drop to W) in
        let c = length-append (fresh bs) (drop to W) in
        let d = length_fresh bs in
        let f = length-drop to W in
        omega (arith, a, b, c, d, f, first, wide, t, z)

    pub keys_stay : KeysStay (from - 1) to L new
    keys_stay i p (inl q) = keys_before new (fresh bs ++ drop to W) e i p (inl q)
    keys_stay i p (inr q) = (omega (arith, long, p), ap (λ (s : Strand). s.wake) (same_behind i q))
