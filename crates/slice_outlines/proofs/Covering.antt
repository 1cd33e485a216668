-- The least of the flat edges that go on from a place is the first edge that covers the way to the next.
use Rattle.std.proofs.Common.{◌≡◌, ℕ, zero, suc, ◌<◌, ◌≤◌, Bool, true, false, true≢false, List, [], ◌∷◌, length, get_or, Option, None, Some, refl, sym, ap, ◌∙◌, inl, inr, arith}
use Rattle.std.specs.Prelude.{◌⊎◌, nat_lt, if◌then◌else◌}
use Rattle.std.specs.List.{AllByRecursion, position}
use Rattle.std.proofs.lemmas.Bool.{cases_lt}
use Rattle.std.proofs.lemmas.List.Quantifiers.{position-Some}
use Rattle.scad_geom.specs.declared.level.LeafEdge.{LeafEdge}
use Rattle.slice_bundles.specs.Bundles.{no_edge}
use Rattle.slice_border.proofs.BalanceFlat.{none_covers}
use Rattle.slice_outlines.specs.declared.flat.Flat.{Flat}
use Rattle.slice_outlines.specs.Along.{lesser, least_from, least}
use Rattle.slice_outlines.specs.Level.{HasNumber}

-- ---- the least number
record IsLeast (start : Option ℕ) (fs : List Flat) (m : ℕ) : Type 0 where
  is_one : (start ≡ Some m) ⊎ HasNumber fs m
  by_start : (k : ℕ) → start ≡ Some k → m ≤ k
  by_all : (k : ℕ) → HasNumber fs k → m ≤ k

some_of : (j k : ℕ) → Some j ≡ Some k → j ≡ k
some_of j k e = cc

lesser_some : (start : Option ℕ) (k : ℕ) → (j : ℕ) × (lesser start k ≡ Some j) × (j ≤ k)
    × ((i : ℕ) → start ≡ Some i → j ≤ i) × ((start ≡ Some j) ⊎ (k ≡ j))
lesser_some None k = (k, refl, omega arith, λ i e. absurd cc, inr refl)
lesser_some (Some i) k = by_test (nat_lt k i) refl
  where
    by_test : (t : Bool) → nat_lt k i ≡ t → (j : ℕ) × (Some (if t then k else i) ≡ Some j) × (j ≤ k)
        × ((n : ℕ) → Some i ≡ Some n → j ≤ n) × ((Some i ≡ Some j) ⊎ (k ≡ j))
    by_test true e =
        let l : k < i = grind arith in
        (k, refl, omega arith, λ n q. let s : i ≡ n = some_of i n q in omega (arith, s, l), inr refl)
    by_test false e =
        let l : i ≤ k = grind arith in
        (i, refl, l, λ n q. let s : i ≡ n = some_of i n q in omega (arith, s), inl refl)

least_some : (start : Option ℕ) (fs : List Flat) (m : ℕ) → least_from start fs ≡ Some m → IsLeast start fs m
least_some start [] m e =
    record {
      is_one = inl e;
      by_start = λ k q. let s : m ≡ k = some_of m k (sym e
          ∙ q) in omega (arith, s);
      by_all = λ k h. absurd h;
    }
least_some start (f ∷ fs) m e =
    let n = lesser_some start f.number in
    let r : IsLeast (lesser start f.number) fs m = least_some (lesser start f.number) fs m e in
    let top : m ≤ n.0 = r.by_start n.0 n.1 in
    record {
      is_one = elim r.is_one [
        | inl q ↦
            let s : n.0 ≡ m = some_of n.0 m (sym n.1 ∙ q) in
            elim n.4 [
              | inl a ↦ inl (a ∙ ap (λ (k : ℕ). Some k) s)
              | inr b ↦ inr (inl (b ∙ s))
            ]
        | inr q ↦ inr (inr q)
      ];
      by_start = λ k q. let a : n.0 ≤ k = n.3 k q in omega (arith, a, top);
      by_all = λ k h. elim h [
        | inl a ↦ let b : n.0 ≤ f.number = n.2 in omega (arith, a, b, top)
        | inr b ↦ r.by_all k b
      ];
    }

never_none : (start : Option ℕ) (k : ℕ) (fs : List Flat) → start ≡ Some k → least_from start fs ≡ None → ⊥
never_none start k [] s e = cc
never_none start k (f ∷ fs) s e =
    let n = lesser_some start f.number in
    never_none (lesser start f.number) n.0 fs n.1 e

least_none : (fs : List Flat) → least fs ≡ None → (k : ℕ) → HasNumber fs k → ⊥
least_none [] e k h = h
least_none (f ∷ fs) e k h =
    let n = lesser_some None f.number in
    never_none (lesser None f.number) n.0 fs n.1 e

-- ---- the first that passes a test
passes_not : (test : LeafEdge → Bool) (es : List LeafEdge) (k : ℕ) (d : LeafEdge)
    → AllByRecursion (λ e. test e ≡ false) es
    → k < length es → test (get_or es k d) ≡ false
passes_not test [] k d a l = absurd (omega arith)
passes_not test (e ∷ es) zero d a l = a.0
passes_not test (e ∷ es) (suc k) d a l = passes_not test es k d a.1 (omega arith)

-- flat edges whose numbers are those that pass a test
pub record ArePassing (test : LeafEdge → Bool) (es : List LeafEdge) (fs : List Flat) : Type 0 where
  pub each : (k : ℕ) → HasNumber fs k → (k < length es) × (test (get_or es k no_edge) ≡ true)
  pub all : (k : ℕ) → k < length es → test (get_or es k no_edge) ≡ true → HasNumber fs k

pub least_passes : (test : LeafEdge → Bool) (es : List LeafEdge) (fs : List Flat) → ArePassing test es fs
    → least fs ≡ position test es
least_passes test es fs h = by_both (least fs) (position test es) refl refl
  where
    by_both : (a b : Option ℕ) → least fs ≡ a → position test es ≡ b → a ≡ b
    by_both None None p q = refl
    by_both None (Some i) p q =
        let s = position-Some test es i no_edge q in
        absurd (least_none fs p i (h.all i s.0 s.1))
    by_both (Some m) None p q =
        let r : IsLeast None fs m = least_some None fs m p in
        let one : HasNumber fs m = elim r.is_one [
          | inl a ↦ absurd cc
          | inr b ↦ b
        ] in
        let there = h.each m one in
        absurd (true≢false (sym there.1 ∙ passes_not test es m no_edge (none_covers test es q) there.0))
    by_both (Some m) (Some i) p q =
        let r : IsLeast None fs m = least_some None fs m p in
        let one : HasNumber fs m = elim r.is_one [
          | inl a ↦ absurd cc
          | inr b ↦ b
        ] in
        let s = position-Some test es i no_edge q in
        let up : m ≤ i = r.by_all i (h.all i s.0 s.1) in
        let down : i ≤ m = elim (cases_lt m i) [
          | inl l ↦ absurd (true≢false (sym (h.each m one).1 ∙ s.2 m l))
          | inr l ↦ l
        ] in
        ap (λ (k : ℕ). Some k) (let e : m ≡ i = omega (arith, up, down) in e)
