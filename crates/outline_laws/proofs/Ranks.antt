-- The bundles between two heights, over whatever divisors, are one list of bundles.
use Rattle.std.proofs.Common.{◌≡◌, ℕ, ◌+◌, inl, inr, Bool, List, [], ◌∷◌, refl, sym, ap, ap₂, ◌∙◌, subst, arith}
use lib.IntN.{ℤ, pos, ◌-ℤ◌, ◌*ℤ◌}
use lib.Signed.{◌<ℤ◌}
use Rattle.std.specs.Prelude.{IsPermutation, if◌then◌else◌}
use Rattle.std.specs.List.{AllByRecursion, concat}
use Rattle.std.proofs.lemmas.Int.{ints}
use Rattle.std.proofs.lemmas.List.Sorted.{IsPermutation-sym, IsPermutation-trans}
use Rattle.scad_base.proofs.Products.{positive_product}
use Rattle.scad_geom.specs.declared.point.Edge.{Edge}
use Rattle.scad_geom.specs.declared.level.Level.{Level}
use Rattle.scad_geom.specs.declared.level.LeafEdge.{LeafEdge}
use Rattle.scad_geom.specs.Line.{rise, x_at}
use Rattle.scad_geom.specs.Level.{IsSameHeight}
use Rattle.scad_geom.specs.EdgeOrder.{IsBefore, AreAligned}
use Rattle.scad_geom.proofs.Ring.{ring, ◌⊖◌, ◌⊗◌, v0, v1, v2}
use Rattle.scad_geom.proofs.Signs.{pos_left}
use Rattle.winding_laws.proofs.Sameness.{cancel_mul}
use Rattle.slice_bundles.specs.Bundles.{edge_at, reaching, IsBundle, Precedes, AreRanked, AreBundles}
use Rattle.slice_bundles.proofs.Live.{IsLive, live_bundles}
use Rattle.slice_bundles.proofs.Bundling.{Rises}
use Rattle.outline_laws.proofs.Rising.{HasDivisor}
use Rattle.outline_laws.proofs.Lines.{reaches_test, x_same}
use Rattle.outline_laws.proofs.Bundles.{ranked_one}

-- numbers over one divisor and the other are in one order
module _ (u v w z d f : ℤ) (dp : pos 0 <ℤ d) (fp : pos 0 <ℤ f) (a : u *ℤ f ≡ w *ℤ d) (b : v *ℤ f ≡ z *ℤ d) where
  scaled_lower : w <ℤ z → u <ℤ v
  scaled_lower o =
      let g : pos 0 <ℤ ((z -ℤ w) *ℤ d) = positive_product (z -ℤ w) d (omega (arith, ints)) dp in
      let e : (z -ℤ w) *ℤ d ≡ (v -ℤ u) *ℤ f =
      ring (z ∷ w ∷ d ∷ []) ((v0 ⊖ v1) ⊗ v2) (v0 ⊗ v2 ⊖ v1 ⊗ v2) refl
      ∙ ap₂ (λ (s t : ℤ). s -ℤ t) (sym b) (sym a)
      ∙ ring (v ∷ u ∷ f ∷ []) (v0 ⊗ v2 ⊖ v1 ⊗ v2) ((v0 ⊖ v1) ⊗ v2) refl in
      let k : pos 0 <ℤ (v -ℤ u) = pos_left (v -ℤ u) f fp (subst (λ (s : ℤ). pos 0 <ℤ s) e g) in
      omega (arith, ints)

  scaled_equal : w ≡ z → u ≡ v
  scaled_equal o = cancel_mul u v f fp (a ∙ ap (λ (s : ℤ). s *ℤ d) o ∙ sym b)

module _ (es : List LeafEdge) (l m : Level) (dl : HasDivisor l) (dm : HasDivisor m) (e : IsSameHeight l m) where
  times_same : (f : Edge) (r : ℤ) → (x_at f l.n l.d *ℤ r) *ℤ m.d ≡ (x_at f m.n m.d *ℤ r) *ℤ l.d
  times_same f r =
      swap (x_at f l.n l.d) r m.d ∙ ap (λ (z : ℤ). z *ℤ r) (x_same l m dl dm e f) ∙ sym (swap (x_at f m.n m.d) r l.d)
    where
      swap : (x r d : ℤ) → (x *ℤ r) *ℤ d ≡ (x *ℤ d) *ℤ r
      swap x r d = ring (x ∷ r ∷ d ∷ []) ((v0 ⊗ v1) ⊗ v2) ((v0 ⊗ v2) ⊗ v1) refl

  before_same : (f g : Edge) → IsBefore m f g → IsBefore l f g
  before_same f g (inl h) =
      inl (scaled_lower (x_at f l.n l.d *ℤ rise g) (x_at g l.n l.d *ℤ rise f) (x_at f m.n m.d *ℤ rise g)
      (x_at g m.n m.d *ℤ rise f) l.d m.d dl dm (times_same f (rise g)) (times_same g (rise f)) h)
  before_same f g (inr h) =
      inr (
        scaled_equal (x_at f l.n l.d *ℤ rise g) (x_at g l.n l.d *ℤ rise f) (x_at f m.n m.d *ℤ rise g)
            (x_at g m.n m.d *ℤ rise f) l.d m.d dl dm (times_same f (rise g)) (times_same g (rise f)) h.0,
        h.1,
      )

  aligned_same : (f g : Edge) → AreAligned m f g → AreAligned l f g
  aligned_same f g h = (
    scaled_equal (x_at f l.n l.d *ℤ rise g) (x_at g l.n l.d *ℤ rise f) (x_at f m.n m.d *ℤ rise g)
        (x_at g m.n m.d *ℤ rise f) l.d m.d dl dm (times_same f (rise g)) (times_same g (rise f)) h.0,
    h.1,
  )

  all_aligned : (k : ℕ) (ks : List ℕ) → AllByRecursion (λ j. AreAligned m (edge_at es k) (edge_at es j)) ks
      → AllByRecursion (λ j. AreAligned l (edge_at es k) (edge_at es j)) ks
  all_aligned k [] h = tt
  all_aligned k (j ∷ ks) h = (aligned_same (edge_at es k) (edge_at es j) h.0, all_aligned k ks h.1)

  bundle_ranked : (b : List ℕ) → IsBundle es m b → IsBundle es l b
  bundle_ranked [] h = h
  bundle_ranked (k ∷ ks) h = (h.0, all_aligned k ks h.1)

  precedes_same : (b c : List ℕ) → Precedes es m b c → Precedes es l b c
  precedes_same [] c h = h
  precedes_same (k ∷ ks) [] h = h
  precedes_same (k ∷ ks) (j ∷ js) h = before_same (edge_at es k) (edge_at es j) h

  all_precede : (b : List ℕ) (cs : List (List ℕ)) → AllByRecursion (Precedes es m b) cs
      → AllByRecursion (Precedes es l b) cs
  all_precede b [] h = tt
  all_precede b (c ∷ cs) h = (precedes_same b c h.0, all_precede b cs h.1)

  ranked_same : (bs : List (List ℕ)) → AreRanked es m bs → AreRanked es l bs
  ranked_same [] h = tt
  ranked_same (b ∷ bs) h = (bundle_ranked b h.0, all_precede b bs h.1, ranked_same bs h.2)

  numbers_same : (u v : Level) → HasDivisor u → HasDivisor v → IsSameHeight u v → (k : ℕ) (fs : List LeafEdge)
      → reaching k fs l u ≡ reaching k fs m v
  numbers_same u v du dv g k [] = refl
  numbers_same u v du dv g k (f ∷ fs) =
      ap₂ (λ (b : Bool) (ns : List ℕ). if b then k ∷ ns else ns) (reaches_test l m u v dl dm du dv e g f.edge)
      (numbers_same u v du dv g (k + 1) fs)

all_rise : (es : List LeafEdge) (l u : Level) (ks : List ℕ) → AllByRecursion (IsLive es l u) ks
    → AllByRecursion (Rises es) ks
all_rise es l u [] h = tt
all_rise es l u (k ∷ ks) h = (h.0.reaches.rises, all_rise es l u ks h.1)

pub bundles_rise : (es : List LeafEdge) (l u : Level) (bs : List (List ℕ)) → AreBundles es l u bs
    → AllByRecursion (Rises es) (concat bs)
bundles_rise es l u bs a = all_rise es l u (concat bs) (live_bundles es l u bs a)

pub bundles_one : (es : List LeafEdge) (l m : Level) (dl : HasDivisor l) (dm : HasDivisor m) (e : IsSameHeight l m)
    (u v : Level) → HasDivisor u → HasDivisor v → IsSameHeight u v → (bs cs : List (List ℕ))
    → AreBundles es l u bs → AreBundles es m v cs → bs ≡ cs
bundles_one es l m dl dm e u v du dv g bs cs a b =
    ranked_one es l bs cs (bundles_rise es l u bs a) (bundles_rise es m v cs b) a.ranked
    (ranked_same es l m dl dm e cs b.ranked)
    (IsPermutation-trans (concat bs) (reaching 0 es l u) (concat cs) (IsPermutation-sym (reaching 0 es l u) (concat bs)
    a.members)
    (subst (λ (ns : List ℕ). IsPermutation ns (concat cs)) (sym (numbers_same es l m dl dm e u v du dv g 0 es))
    b.members))
