-- Sorted passages give the bundles.
use Rattle.std.proofs.Common.{◌≡◌, ℕ, zero, suc, ◌+◌, ◌<◌, ◌≤◌, ◌⊎◌, inl, inr, Bool, true, false, not, ◌&&◌, ◌||◌, List, [], ◌∷◌, length, get_or, refl, sym, ap, ◌∙◌, arith, subst, add-one}
use Rattle.std.proofs.lemmas.Bool.{and_parts, true≢false}
use lib.IntN.{ℤ, pos, ◌*ℤ◌}
use lib.Signed.{◌<ℤ◌}
use Rattle.std.specs.Prelude.{nat_lt, if◌then◌else◌}
use lib.Dec.{T, nltb→le}
use Rattle.std.specs.Ordering.{int_eq}
use Rattle.std.specs.List.{AllByRecursion, concat}
use Rattle.std.specs.List.{All}
use Rattle.std.specs.List.Sorted.{IsSortedBy, IsPermutation}
use Rattle.std.proofs.lemmas.List.Elements.{recursion_from_All}
use Rattle.std.proofs.lemmas.List.Sorted.{All-permutation, IsPermutation-map, IsPermutation-trans}
use Rattle.std.proofs.lemmas.Int.{ints}
use Rattle.scad_geom.specs.declared.level.Level.{Level}
use Rattle.scad_geom.specs.declared.level.LeafEdge.{LeafEdge}
use Rattle.scad_geom.specs.EdgeOrder.{IsBefore, AreAligned}
use Rattle.slice_slab.specs.declared.passage.Passage.{Passage}
use Rattle.slice_bundles.specs.Bundles.{edge_at, AreRanked, reaching, AreBundles}
use Rattle.slice_bundles.specs.Joined.{joined}
use Rattle.slice_bundles.proofs.Bundling.{Rises, Bundled, ranked_from, alone, joins_first, comes_before}
use Rattle.slice_bundles.proofs.Joined.{concat-joined}
use Rattle.slice_slab.specs.Passages.{is_left, leans_left, comes_first, IsPassageOf, numbers_of, is_aligned, bundles_of, AreSorted}
use Rattle.std.specs.Cmp.{signed_Decides}

-- ---- neighbours of a sorted list of passages
-- what a passage says of its edge
same_edge : (es : List LeafEdge) (at : Level) (p q : Passage) → IsPassageOf es at p → IsPassageOf es at q
    → p.x *ℤ q.rise ≡ q.x *ℤ p.rise → p.run *ℤ q.rise ≡ q.run *ℤ p.rise
    → AreAligned at (edge_at es p.number)
    (edge_at es q.number)
same_edge es at p q hp hq h k =
    let a = rw (hp.x, hq.x, hp.rise, hq.rise) at h in
    let b = rw (hp.run, hq.run, hp.rise, hq.rise) at k in
    (a, b)

before_edge : (es : List LeafEdge) (at : Level) (p q : Passage) → IsPassageOf es at p → IsPassageOf es at q
    → ((p.x *ℤ q.rise) <ℤ (q.x *ℤ p.rise)) ⊎ ((p.x *ℤ q.rise ≡ q.x *ℤ p.rise)
    × ((p.run *ℤ q.rise) <ℤ (q.run *ℤ p.rise)))
    → IsBefore at (edge_at es p.number) (edge_at es q.number)
before_edge es at p q hp hq (inl h) = inl (rw (hp.x, hq.x, hp.rise, hq.rise) at h)
before_edge es at p q hp hq (inr h) = let h0 = h.0 in let h1 = h.1 in inr (rw (hp.x, hq.x, hp.rise, hq.rise) at h0, rw (hp.run, hq.run, hp.rise, hq.rise) at h1)

-- one of two neighbours doesn't come after the other
apart_parts : (a b c d e : Bool) → (a || (not b && (c || (not d && e)))) ≡ false
    → (a ≡ false) × ((b ≡ true) ⊎ ((b ≡ false) × (c ≡ false)
    × ((d ≡ true) ⊎ ((d ≡ false) × (e ≡ false)))))
apart_parts true b c d e h = cc
apart_parts false true c d e h = (refl, inl refl)
apart_parts false false true d e h = cc
apart_parts false false false true e h = (refl, inr (refl, refl, inl refl))
apart_parts false false false false true h = cc
apart_parts false false false false false h = (refl, inr (refl, refl, inr (refl, refl)))

neighbours : (p q : Passage) → comes_first q p ≡ false
    → (((p.x *ℤ q.rise) <ℤ (q.x *ℤ p.rise)) ⊎ ((p.x *ℤ q.rise ≡ q.x *ℤ p.rise)
    × ((p.run *ℤ q.rise) <ℤ (q.run *ℤ p.rise))))
    ⊎ ((p.x *ℤ q.rise ≡ q.x *ℤ p.rise) × (p.run *ℤ q.rise ≡ q.run *ℤ p.rise) × (p.number ≤ q.number))
neighbours p q h =
    let t = apart_parts (is_left q p) (is_left p q) (leans_left q p) (leans_left p q) (nat_lt q.number p.number) h in
    let a = t.0 in
    elim t.1 [
      | inl b ↦ inl (inl (omega (arith, ints)))
      | inr b ↦
          let b0 = b.0 in let b1 = b.1 in
          let x : p.x *ℤ q.rise ≡ q.x *ℤ p.rise = omega (arith, ints) in
          elim b.2 [
            | inl d ↦ inl (inr (x, omega (arith, ints)))
            | inr d ↦ let d0 = d.0 in let d1 = d.1 in inr (x, omega (arith, ints), not_less q.number p.number d1)
          ]
    ]
  where
    not_less : (m n : ℕ) → nat_lt m n ≡ false → n ≤ m
    not_less m n h = nltb→le m n (subst (λ (t : Bool). T (not t)) (sym h) tt)

sorted_by : (ps : List Passage) → ((k : ℕ) (d : Passage) → suc k < length ps → comes_first (get_or ps (suc k) d)
    (get_or ps k d) ≡ false) → AreSorted ps
sorted_by [] h = tt
sorted_by (p ∷ []) h = tt
sorted_by (p ∷ (q ∷ ps)) h = (h zero p (omega arith), sorted_by (q ∷ ps) (λ k d b. h (suc k) d (omega arith)))

pub sorted_from : (ps : List Passage) → IsSortedBy comes_first ps → AreSorted ps
sorted_from ps h = sorted_by ps (λ k d b. let t : comes_first (get_or ps (k + 1) d) (get_or ps k d) ≡ false = h k d (omega arith) (omega arith) in rw add-one at t)

-- ---- bundles of sorted passages
rises_of : (es : List LeafEdge) (at : Level) (p : Passage) → IsPassageOf es at p → Rises es p.number
rises_of es at p h = subst (λ (z : ℤ). pos 0 <ℤ z) h.rise p.rises

not_aligned : (p q : Passage) → p.x *ℤ q.rise ≡ q.x *ℤ p.rise → p.run *ℤ q.rise ≡ q.run *ℤ p.rise
    → is_aligned p q ≡ false → ⊥
not_aligned p q h k e = let a = (signed_Decides (p.x *ℤ q.rise) (q.x *ℤ p.rise)).1 h in let b = (signed_Decides (p.run *ℤ q.rise) (q.run *ℤ p.rise)).1 k in true≢false (sym (rw (a, b) refl) ∙ e)

bundled : (es : List LeafEdge) (at : Level) (p : Passage) (ps : List Passage) → AllByRecursion (IsPassageOf es at)
    (p ∷ ps) → AreSorted (p ∷ ps) → Bundled es at p.number (bundles_of (p ∷ ps))
bundled es at p [] h s = alone es at p.number
bundled es at p (q ∷ ps) h s =
    by_test (is_aligned p q) refl (neighbours p q s.0) (rises_of es at p h.0) (rises_of es at q h.1.0)
    (bundled es at q ps h.1 s.1)
  where
    by_test : (t : Bool) → is_aligned p q ≡ t
        → (((p.x *ℤ q.rise) <ℤ (q.x *ℤ p.rise)) ⊎ ((p.x *ℤ q.rise ≡ q.x *ℤ p.rise)
        × ((p.run *ℤ q.rise) <ℤ (q.run *ℤ p.rise))))
        ⊎ ((p.x *ℤ q.rise ≡ q.x *ℤ p.rise) × (p.run *ℤ q.rise ≡ q.run *ℤ p.rise)
        × (p.number ≤ q.number))
        → Rises es p.number → Rises es q.number → Bundled es at q.number (bundles_of (q ∷ ps))
        → Bundled es at p.number
        (if t then joined p.number (bundles_of (q ∷ ps)) else (p.number ∷ []) ∷ bundles_of (q ∷ ps))
    by_test true e (inr n) hp hq r = joins_first es at p.number q.number hp hq
        (same_edge es at p q h.0 h.1.0 n.0 n.1) n.2 (bundles_of (q ∷ ps)) r
    by_test false e (inl n) hp hq r = comes_before es at p.number q.number hp hq (before_edge es at p q h.0 h.1.0 n)
        (bundles_of (q ∷ ps)) r
    by_test false e (inr n) hp hq r = absurd (not_aligned p q n.0 n.1 e)
    by_test true e (inl (inl n)) hp hq r = let x = (signed_Decides (p.x *ℤ q.rise) (q.x *ℤ p.rise)).0 (and_parts (int_eq (p.x *ℤ q.rise) (q.x *ℤ p.rise)) (int_eq (p.run *ℤ q.rise) (q.run *ℤ p.rise)) e).0 in absurd (omega (arith, ints))
    by_test true e (inl (inr n)) hp hq r = let n1 = n.1 in let x = (signed_Decides (p.run *ℤ q.rise) (q.run *ℤ p.rise)).0 (and_parts (int_eq (p.x *ℤ q.rise) (q.x *ℤ p.rise)) (int_eq (p.run *ℤ q.rise) (q.run *ℤ p.rise)) e).1 in absurd (omega (arith, ints))

pub ranked_bundles : (es : List LeafEdge) (at : Level) (ps : List Passage) → AllByRecursion (IsPassageOf es at) ps
    → AreSorted ps → AreRanked es at (bundles_of ps)
ranked_bundles es at [] h s = tt
ranked_bundles es at (p ∷ ps) h s = ranked_from es at p.number (bundles_of (p ∷ ps)) (bundled es at p ps h s)

pub concat-bundles : (ps : List Passage) → concat (bundles_of ps) ≡ numbers_of ps
concat-bundles [] = refl
concat-bundles (p ∷ []) = refl
concat-bundles (p ∷ (q ∷ ps)) = by_test (is_aligned p q) (concat-bundles (q ∷ ps))
  where
    by_test : (t : Bool) → concat (bundles_of (q ∷ ps)) ≡ numbers_of (q ∷ ps)
        → concat (if t then joined p.number (bundles_of (q ∷ ps)) else (p.number ∷ []) ∷ bundles_of (q ∷ ps))
        ≡ p.number ∷ numbers_of (q ∷ ps)
    by_test true r = concat-joined p.number (bundles_of (q ∷ ps)) ∙ ap (λ (xs : List ℕ). p.number ∷ xs) r
    by_test false r = ap (λ (xs : List ℕ). p.number ∷ xs) r

-- sorted passages of the edges that reach both heights give these bundles
pub bundles_made : (es : List LeafEdge) (l u : Level) (old new : List Passage)
    → IsPermutation (reaching 0 es l u) (numbers_of old)
    → All (IsPassageOf es l) old → IsPermutation old new → AreSorted new → AreBundles es l u (bundles_of new)
bundles_made es l u old new numbers passages same sorted =
    let P : Passage → Type 0 = IsPassageOf es l in
    let all : AllByRecursion P new = recursion_from_All P new (All-permutation P old new same passages) in
    let moved : IsPermutation (numbers_of old) (numbers_of new) = IsPermutation-map (λ (p : Passage). p.number) old new same in
    record {
      members = subst (IsPermutation (reaching 0 es l u)) (sym (concat-bundles new))
          (IsPermutation-trans (reaching 0 es l u) (numbers_of old) (numbers_of new) numbers moved);
      ranked = ranked_bundles es l new all sorted;
    }
