-- The keys of mended strands.
use Rattle.std.proofs.Common.{◌≡◌, ℕ, zero, suc, ◌+◌, ◌<◌, ◌⊎◌, inl, inr, List, [], ◌∷◌, length, get_or, set, refl, sym, ap, arith, subst, ℤ, pos, ◌*ℤ◌, ◌<ℤ◌}
use lib.Signed.{◌≤ℤ◌}
use Rattle.std.specs.List.{AllByRecursion}
use Rattle.std.proofs.lemmas.Int.{ints, by_lt_z}
use Rattle.std.proofs.lemmas.List.{get_or_read}
use Rattle.scad_geom.specs.Limits.{coordinate_limit}
use Rattle.scad_geom.specs.declared.point.Edge.{Edge}
use Rattle.scad_geom.specs.declared.level.Level.{Level}
use Rattle.scad_geom.specs.declared.level.LeafEdge.{LeafEdge}
use Rattle.scad_geom.specs.Line.{high, lean, apart}
use Rattle.scad_geom.specs.Level.{level_of, IsLower, IsLevelWithin}
use Rattle.scad_geom.specs.EdgeOrder.{IsBefore}
use Rattle.scad_geom.proofs.Heights.{lower_weak}
use Rattle.slice_bundles.specs.Bundles.{edge_at}
use Rattle.slice_bundles.specs.KeptOrder.{IsLeftAt}
use Rattle.slice_sweep.specs.declared.strand.Strand.{Strand}
use Rattle.slice_sweep.specs.Keys.{parts, IsBelowKey, stale}
use Rattle.slice_sweep.specs.Chains.{Chain}
use Rattle.slice_sweep.specs.Strands.{bundles_of, EndAbove, LiesLeft, IsReaching, IsHeld, AreHeld, no_strand, strand_at}
use Rattle.slice_sweep.specs.Mending.{ComesBefore, AreOrdered}
use Rattle.slice_sweep.proofs.Keys.{below_whole, never_below_less, left_until, left_always}
use Rattle.slice_sweep.proofs.Lists.{chain_at, weaker}

-- edges of which none ends below a whole height end above each height below its key
pub ends_by : (es : List LeafEdge) (b : List ℕ) (least wake : ℤ) → wake ≤ℤ (least *ℤ parts)
    → AllByRecursion (λ k. least ≤ℤ (high (edge_at es k)).y) b
    → (h : Level) → pos 0 <ℤ h.d → IsBelowKey h wake → EndAbove es h b
ends_by es b least wake o a h d q =
    weaker (λ k. least ≤ℤ (high (edge_at es k)).y) (λ k. IsLower h (level_of (high (edge_at es k)).y))
    (λ k p. below_whole h (high (edge_at es k)).y wake d (omega (arith, ints)) q) b a

-- an edge lies to the left of another that it comes before, up to the key of their meeting
pub left_by : (e f : Edge) (wake : ℤ)
    → (pos 0 <ℤ lean e f → (wake ≤ℤ stale) ⊎ ((wake *ℤ lean e f) ≤ℤ (apart f e *ℤ parts)))
    → (at h : Level) → IsLevelWithin coordinate_limit at → IsBefore at e f → pos 0 <ℤ h.d → IsLower at h
    → IsBelowKey h wake → IsLeftAt h e f
left_by e f wake m at h w o d a b =
    by_lt_z (pos 0) (lean e f)
    (λ k. elim (m k) [
      | inl s ↦ absurd (never_below_less at h wake w d (lower_weak at h a) s b)
      | inr s ↦ left_until e f h wake d k s b
    ])
    (λ k. left_always e f at h w.positive d k o a)

-- ---- a key written
module _ {A : Type 0} (R : A → A → Type 0) where
  chain_set : (xs : List A) (i : ℕ) (d x : A) → ((y : A) → R y (get_or xs i d) → R y x)
      → (suc i < length xs → R x (get_or xs (suc i) d)) → i < length xs → Chain R xs → Chain R (set xs i x)
  chain_set [] i d x f n o c = absurd (omega arith)
  chain_set (y ∷ []) zero d x f n o c = tt
  chain_set (y ∷ []) (suc i) d x f n o c = absurd (omega arith)
  chain_set (y ∷ (z ∷ zs)) zero d x f n o c = (n (omega arith), c.1)
  chain_set (y ∷ (z ∷ zs)) (suc zero) d x f n o c =
      (f y c.0, chain_set (z ∷ zs) zero d x f (λ p. n (omega arith)) (omega arith) c.1)
  chain_set (y ∷ (z ∷ zs)) (suc (suc i)) d x f n o c =
      (c.0, chain_set (z ∷ zs) (suc i) d x f (λ p. n (omega arith)) (omega arith) c.1)

all_set : {A : Type 0} (P : A → Type 0) (xs : List A) (i : ℕ) (d x : A) → (P (get_or xs i d) → P x) → i < length xs
    → AllByRecursion P xs → AllByRecursion P (set xs i x)
all_set P [] i d x f o h = absurd (omega arith)
all_set P (y ∷ ys) zero d x f o h = (f h.0, h.1)
all_set P (y ∷ ys) (suc i) d x f o h = (h.0, all_set P ys i d x f (omega arith) h.1)

all_at : {A : Type 0} (P : A → Type 0) (xs : List A) (i : ℕ) (d : A) → i < length xs → AllByRecursion P xs
    → P (get_or xs i d)
all_at P [] i d o h = absurd (omega arith)
all_at P (y ∷ ys) zero d o h = h.0
all_at P (y ∷ ys) (suc i) d o h = all_at P ys i d (omega arith) h.1

pub bundles_set : (xs : List Strand) (i : ℕ) (wake : ℤ) → i < length xs
    → bundles_of (set xs i (record { bundle = (strand_at xs i).bundle; wake = wake })) ≡ bundles_of xs
bundles_set [] i wake o = absurd (omega arith)
bundles_set (x ∷ xs) zero wake o = refl
bundles_set (x ∷ xs) (suc i) wake o = ap (λ (bs : List (List ℕ)). x.bundle ∷ bs) (bundles_set xs i wake (omega arith))

pub woken : (es : List LeafEdge) (l u : Level) (L : List Strand) (i : ℕ) (wake : ℤ)
    → IsLevelWithin coordinate_limit l → i < length L
    → ((h : Level) → pos 0 <ℤ h.d → IsBelowKey h wake → EndAbove es h (strand_at L i).bundle)
    → (i + 1 < length L → (at h : Level) → IsLevelWithin coordinate_limit at
    → ComesBefore es at (strand_at L i) (strand_at L (i + 1)) → pos 0 <ℤ h.d → IsLower at h → IsBelowKey h wake
    → LiesLeft es h (strand_at L i) (strand_at L (i + 1)))
    → AreOrdered es l u L
    → AreOrdered es l u (set L i (record { bundle = (strand_at L i).bundle; wake = wake }))
woken es l u L i wake w o ends left h = record {
  held = all_set (IsHeld es l) L i no_strand x
      (λ s. record { bundle = s.bundle; reach = s.reach; ends = λ g d p b. ends g d b }) o h.held;
  ordered = chain_set (AreHeld es l) L i no_strand x (λ y s. record { order = s.order; left = s.left })
      (λ p. let s = chain_at (AreHeld es l) L i no_strand h.ordered p in
      record { order = s.order; left = λ g d q b. next p g d q b }) o h.ordered;
  mended = record {
    reach = all_set (λ (t : Strand). AllByRecursion (IsReaching es l u) t.bundle) L i no_strand x (λ s. s) o
        h.mended.reach;
    ranked = chain_set (ComesBefore es l) L i no_strand x (λ y s. s)
        (λ p. chain_at (ComesBefore es l) L i no_strand h.mended.ranked p) o h.mended.ranked;
  };
}
  where
    x : Strand
    x = record { bundle = (strand_at L i).bundle; wake = wake }

    next : suc i < length L → (g : Level) → pos 0 <ℤ g.d → IsLower l g → IsBelowKey g wake
        → LiesLeft es g x (strand_at L (suc i))
    next p g d q b =
        let e : i + 1 ≡ suc i = omega arith in
        let r : i + 1 < length L = omega arith in
        let a = chain_at (ComesBefore es l) L i no_strand h.mended.ranked p in
        let c = subst (λ (j : ℕ). ComesBefore es l (strand_at L i) (strand_at L j)) (sym e) a in
        subst (λ (j : ℕ). LiesLeft es g (strand_at L i) (strand_at L j)) e (left r l g w c d q b)

-- as the code writes it
pub woken_by : (es : List LeafEdge) (l u : Level) (L X : List Strand) (i : ℕ) (x : Strand) (wake : ℤ)
    → IsLevelWithin coordinate_limit l → X ≡ L → i < length L → x ≡ get_or L i x
    → ((h : Level) → pos 0 <ℤ h.d → IsBelowKey h wake → EndAbove es h (strand_at X i).bundle)
    → (i + 1 < length X → (at h : Level) → IsLevelWithin coordinate_limit at
    → ComesBefore es at (strand_at X i) (strand_at X (i + 1)) → pos 0 <ℤ h.d → IsLower at h → IsBelowKey h wake
    → LiesLeft es h (strand_at X i) (strand_at X (i + 1)))
    → AreOrdered es l u L
    → AreOrdered es l u (set L i (record { bundle = x.bundle; wake = wake }))
    × (bundles_of (set L i (record { bundle = x.bundle; wake = wake })) ≡ bundles_of L)
woken_by es l u L X i x wake w e o r ends left h =
    let is : strand_at L i ≡ x = sym (get_or_read L i x o r no_strand) in
    let ends' = subst (λ (xs : List Strand). (h : Level) → pos 0 <ℤ h.d → IsBelowKey h wake
    → EndAbove es h (strand_at xs i).bundle) e ends in
    let left' = subst (λ (xs : List Strand). i + 1 < length xs → (at h : Level) → IsLevelWithin coordinate_limit at
    → ComesBefore es at (strand_at xs i) (strand_at xs (i + 1)) → pos 0 <ℤ h.d → IsLower at h → IsBelowKey h wake
    → LiesLeft es h (strand_at xs i) (strand_at xs (i + 1))) e left in (
      subst (λ (y : Strand). AreOrdered es l u (set L i (record { bundle = y.bundle; wake = wake }))) is
          (woken es l u L i wake w o ends' left' h),
      subst (λ (y : Strand). bundles_of (set L i (record { bundle = y.bundle; wake = wake })) ≡ bundles_of L) is
          (bundles_set L i wake o),
    )
