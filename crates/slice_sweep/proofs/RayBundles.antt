-- Sorted rays of one place give the bundles that leave it.
use Rattle.std.proofs.Common.{◌≡◌, ℕ, ◌≤◌, ◌⊎◌, inl, inr, Bool, true, false, List, [], ◌∷◌, filter, refl, sym, ap, ◌∙◌, arith, subst, true≢false, IsPermutation}
use lib.IntN.{ℤ, pos, ◌*ℤ◌}
use lib.Signed.{◌<ℤ◌}
use Rattle.std.specs.Prelude.{if◌then◌else◌}
use Rattle.std.specs.Cmp.{signed_Decides}
use Rattle.std.specs.List.{All, AllByRecursion, concat}
use Rattle.std.proofs.lemmas.Int.{ints}
use Rattle.std.proofs.lemmas.List.Elements.{recursion_from_All, All-from_recursion, All-filter}
use Rattle.std.proofs.lemmas.List.Sorted.{All-permutation, IsPermutation-map}
use Rattle.scad_geom.specs.declared.level.Level.{Level}
use Rattle.scad_geom.specs.declared.level.LeafEdge.{LeafEdge}
use Rattle.scad_geom.specs.EdgeOrder.{IsBefore, AreAligned}
use Rattle.slice_bundles.specs.Bundles.{edge_at, AreRanked}
use Rattle.slice_bundles.specs.KeptOrder.{IsSamePlaceAt, AllStand}
use Rattle.slice_bundles.specs.Joined.{joined}
use Rattle.slice_bundles.proofs.Bundling.{Rises, Bundled, ranked_from, alone, joins_first, comes_before}
use Rattle.slice_bundles.proofs.Joined.{concat-joined}
use Rattle.slice_sweep.specs.declared.ray.Ray.{Ray}
use Rattle.slice_sweep.specs.Rays.{IsRayOf, numbers_of, is_parallel, bundles_of, AreSorted}
use Rattle.slice_sweep.proofs.Lists.{weaker}
use Rattle.slice_sweep.proofs.RayOrder.{neighbours}

-- ---- two rays
module _ (es : List LeafEdge) (at : Level) (p q : Ray) (hp : IsRayOf es p) (hq : IsRayOf es q)
    (same : IsSamePlaceAt at (edge_at es p.number) (edge_at es q.number)) where
  aligned_edges : p.run *ℤ q.rise ≡ q.run *ℤ p.rise → AreAligned at (edge_at es p.number) (edge_at es q.number)
  aligned_edges k = let b = rw (hp.run, hq.run, hp.rise, hq.rise) at k in (same, b)

  before_edges : (p.run *ℤ q.rise) <ℤ (q.run *ℤ p.rise) → IsBefore at (edge_at es p.number) (edge_at es q.number)
  before_edges k = inr (same, rw (hp.run, hq.run, hp.rise, hq.rise) at k)

rises_of : (es : List LeafEdge) (p : Ray) → IsRayOf es p → Rises es p.number
rises_of es p h = subst (λ (z : ℤ). pos 0 <ℤ z) h.rise p.rises

-- ---- bundles of sorted rays
-- each of these rays at one place with those behind it
abbrev AreTogether : List LeafEdge → Level → List Ray → Type 0
AreTogether es at [] = Unit {0}
AreTogether es at (p ∷ rs) =
    AllByRecursion (λ r. IsSamePlaceAt at (edge_at es p.number) (edge_at es r.number)) rs × AreTogether es at rs

bundled : (es : List LeafEdge) (at : Level) (p : Ray) (rs : List Ray) → AllByRecursion (IsRayOf es) (p ∷ rs)
    → AreTogether es at (p ∷ rs) → AreSorted (p ∷ rs) → Bundled es at p.number (bundles_of (p ∷ rs))
bundled es at p [] h t s = alone es at p.number
bundled es at p (q ∷ rs) h t s =
    by_test (is_parallel p q) refl (neighbours p q s.0) (rises_of es p h.0) (rises_of es q h.1.0)
    (bundled es at q rs h.1 t.1 s.1)
  where
    by_test : (v : Bool) → is_parallel p q ≡ v
        → ((p.run *ℤ q.rise) <ℤ (q.run *ℤ p.rise)) ⊎ ((p.run *ℤ q.rise ≡ q.run *ℤ p.rise) × (p.number ≤ q.number))
        → Rises es p.number → Rises es q.number → Bundled es at q.number (bundles_of (q ∷ rs))
        → Bundled es at p.number
        (if v then joined p.number (bundles_of (q ∷ rs)) else (p.number ∷ []) ∷ bundles_of (q ∷ rs))
    by_test true e (inr n) hp hq r = joins_first es at p.number q.number hp hq
        (aligned_edges es at p q h.0 h.1.0 t.0.0 n.0) n.1 (bundles_of (q ∷ rs)) r
    by_test false e (inl n) hp hq r = comes_before es at p.number q.number hp hq
        (before_edges es at p q h.0 h.1.0 t.0.0 n) (bundles_of (q ∷ rs)) r
    by_test false e (inr n) hp hq r =
        absurd (true≢false (sym ((signed_Decides (p.run *ℤ q.rise) (q.run *ℤ p.rise)).1 n.0) ∙ e))
    by_test true e (inl n) hp hq r =
        let x = (signed_Decides (p.run *ℤ q.rise) (q.run *ℤ p.rise)).0 e in absurd (omega (arith, ints))

ranked_bundles : (es : List LeafEdge) (at : Level) (rs : List Ray) → AllByRecursion (IsRayOf es) rs
    → AreTogether es at rs → AreSorted rs → AreRanked es at (bundles_of rs)
ranked_bundles es at [] h t s = tt
ranked_bundles es at (p ∷ rs) h t s = ranked_from es at p.number (bundles_of (p ∷ rs)) (bundled es at p rs h t s)

concat-bundles : (rs : List Ray) → concat (bundles_of rs) ≡ numbers_of rs
concat-bundles [] = refl
concat-bundles (p ∷ []) = refl
concat-bundles (p ∷ (q ∷ rs)) = by_test (is_parallel p q) (concat-bundles (q ∷ rs))
  where
    by_test : (t : Bool) → concat (bundles_of (q ∷ rs)) ≡ numbers_of (q ∷ rs)
        → concat (if t then joined p.number (bundles_of (q ∷ rs)) else (p.number ∷ []) ∷ bundles_of (q ∷ rs))
        ≡ p.number ∷ numbers_of (q ∷ rs)
    by_test true r = concat-joined p.number (bundles_of (q ∷ rs)) ∙ ap (λ (xs : List ℕ). p.number ∷ xs) r
    by_test false r = ap (λ (xs : List ℕ). p.number ∷ xs) r

-- ---- rays of edges that lie at one place
module _ (es : List LeafEdge) (at : Level) where
  abbrev Same : ℕ → ℕ → Type 0
  Same k j = IsSamePlaceAt at (edge_at es k) (edge_at es j)

  same_rays : (k : ℕ) (rs : List Ray) → AllByRecursion (Same k) (numbers_of rs)
      → AllByRecursion (λ r. Same k r.number) rs
  same_rays k [] h = tt
  same_rays k (r ∷ rs) h = (h.0, same_rays k rs h.1)

  together_from : (rs : List Ray) → AllByRecursion (λ k. AllByRecursion (Same k) (numbers_of rs)) (numbers_of rs)
      → AreTogether es at rs
  together_from [] h = tt
  together_from (r ∷ rs) h = (
    same_rays r.number rs h.0.1,
    together_from rs (weaker (λ k. AllByRecursion (Same k) (r.number ∷ numbers_of rs))
        (λ k. AllByRecursion (Same k) (numbers_of rs)) (λ k q. q.1) (numbers_of rs) h.1),
  )

-- sorted rays of those of some edges of one place that pass a test give these bundles
pub leaving_made : (es : List LeafEdge) (at : Level) (p : ℕ → Bool) (numbers : List ℕ) (old new : List Ray)
    → AllStand (IsSamePlaceAt at) es numbers numbers → numbers_of old ≡ filter p numbers → All (IsRayOf es) old
    → IsPermutation old new → AreSorted new
    → IsPermutation (filter p numbers) (concat (bundles_of new)) × AreRanked es at (bundles_of new)
leaving_made es at p numbers old new same are rays moved sorted =
    let kept : IsPermutation (filter p numbers) (numbers_of new) =
    subst (λ (ks : List ℕ). IsPermutation ks (numbers_of new)) are
    (IsPermutation-map (λ (r : Ray). r.number) old new moved) in
    let to : (P : ℕ → Type 0) → AllByRecursion P numbers → AllByRecursion P (numbers_of new) = λ P h.
    recursion_from_All P (numbers_of new) (All-permutation P (filter p numbers) (numbers_of new) kept
    (All-filter p P numbers (All-from_recursion P numbers h))) in
    let all : AllByRecursion (IsRayOf es) new = recursion_from_All (IsRayOf es) new
    (All-permutation (IsRayOf es) old new moved rays) in
    let tied : AllByRecursion (λ k. AllByRecursion (Same es at k) (numbers_of new)) (numbers_of new) =
    to (λ k. AllByRecursion (Same es at k) (numbers_of new))
    (weaker (λ k. AllByRecursion (Same es at k) numbers) (λ k. AllByRecursion (Same es at k) (numbers_of new))
    (λ k h. to (Same es at k) h) numbers same) in (
      subst (IsPermutation (filter p numbers)) (sym (concat-bundles new)) kept,
      ranked_bundles es at new all (together_from es at new tied) sorted,
    )
