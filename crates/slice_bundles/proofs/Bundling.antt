-- Edges that coincide, and edges that lie before others, from one to the next; bundles with one number more in front.
use Rattle.std.proofs.Common.{◌≡◌, ℕ, ◌≤◌, inl, inr, List, [], ◌∷◌, refl, sym, ap, arith, subst}
use lib.IntN.{pos}
use lib.Signed.{◌<ℤ◌}
use Rattle.std.specs.List.{AllByRecursion}
use Rattle.scad_geom.specs.declared.level.Level.{Level}
use Rattle.scad_geom.specs.declared.level.LeafEdge.{LeafEdge}
use Rattle.scad_geom.specs.declared.point.Edge.{Edge}
use Rattle.scad_geom.specs.Line.{rise, run, x_at}
use Rattle.scad_geom.specs.EdgeOrder.{IsBefore, AreAligned}
use Rattle.scad_geom.proofs.Heights.{same_chain, same_lower, lower_same, lower_chain}
use Rattle.slice_bundles.specs.Bundles.{edge_at, Precedes, AreRanked}
use Rattle.slice_bundles.specs.Joined.{joined}

x_of : Level → Edge → Level
x_of at e = record { n = x_at e at.n at.d; d = rise e }

lean_of : Edge → Level
lean_of e = record { n = run e; d = rise e }

module _ (at : Level) (e f g : Edge) (de : pos 0 <ℤ rise e) (df : pos 0 <ℤ rise f) (dg : pos 0 <ℤ rise g) where
  pub aligned_chain : AreAligned at e f → AreAligned at f g → AreAligned at e g
  unfolding x_of lean_of
  aligned_chain h k = (
    same_chain (x_of at e) (x_of at f) (x_of at g) de df dg h.0 k.0,
    same_chain (lean_of e)
        (lean_of f) (lean_of g) de df dg h.1 k.1,
  )

  pub aligned_before : AreAligned at e f → IsBefore at f g → IsBefore at e g
  unfolding x_of lean_of
  aligned_before h (inl k) = inl (same_lower (x_of at e) (x_of at f) (x_of at g) de df dg h.0 k)
  aligned_before h (inr k) = inr (
    same_chain (x_of at e) (x_of at f) (x_of at g) de df dg h.0 k.0,
    same_lower
        (lean_of e) (lean_of f) (lean_of g) de df dg h.1 k.1,
  )

  pub before_chain : IsBefore at e f → IsBefore at f g → IsBefore at e g
  unfolding x_of lean_of
  before_chain (inl h) (inl k) = inl (lower_chain (x_of at e) (x_of at f) (x_of at g) de df dg h k)
  before_chain (inl h) (inr k) = inl (lower_same (x_of at e) (x_of at f) (x_of at g) de df dg h k.0)
  before_chain (inr h) (inl k) = inl (same_lower (x_of at e) (x_of at f) (x_of at g) de df dg h.0 k)
  before_chain (inr h) (inr k) = inr (
    same_chain (x_of at e) (x_of at f) (x_of at g) de df dg h.0 k.0,
    lower_chain
        (lean_of e) (lean_of f) (lean_of g) de df dg h.1 k.1,
  )

-- ---- an edge of a number, and the first of a bundle, aren't flat
abbrev pub Rises : List LeafEdge → ℕ → Type 0
Rises es k = pos 0 <ℤ rise (edge_at es k)

abbrev pub HeadRises : List LeafEdge → List ℕ → Type 0
HeadRises es [] = ⊥
HeadRises es (k ∷ ks) = Rises es k

-- ---- bundles from left to right, of which the first begins with a number
pub record Bundled (es : List LeafEdge) (at : Level) (k : ℕ) (bundles : List (List ℕ)) : Type 0 where
  pub ks : List ℕ
  pub bs : List (List ℕ)
  pub are : bundles ≡ (k ∷ ks) ∷ bs
  pub ranked : AreRanked es at ((k ∷ ks) ∷ bs)
  pub rise_ks : AllByRecursion (Rises es) ks
  pub rise_bs : AllByRecursion (HeadRises es) bs

pub ranked_from : (es : List LeafEdge) (at : Level) (k : ℕ) (bundles : List (List ℕ)) → Bundled es at k bundles
    → AreRanked es at bundles
ranked_from es at k bundles b = subst (AreRanked es at) (sym b.are) b.ranked

pub alone : (es : List LeafEdge) (at : Level) (k : ℕ) → Bundled es at k ((k ∷ []) ∷ [])
alone es at k = record {
  ks = [];
  bs = [];
  are = refl;
  ranked = (((tt, tt), tt), tt, tt);
  rise_ks = tt;
  rise_bs = tt;
}

-- ---- one more number in front, in the first bundle or in one of its own
all_later : (k n : ℕ) → k ≤ n → (ks : List ℕ) → AllByRecursion (λ j. n ≤ j) ks → AllByRecursion (λ j. k ≤ j) ks
all_later k n o [] h = tt
all_later k n o (j ∷ ks) h = let h0 = h.0 in (omega arith, all_later k n o ks h.1)

module _ (es : List LeafEdge) (at : Level) (k n : ℕ) (hk : Rises es k) (hn : Rises es n) where
  all_aligned : AreAligned at (edge_at es k) (edge_at es n) → (ks : List ℕ) → AllByRecursion (Rises es) ks
      → AllByRecursion (λ j. AreAligned at (edge_at es n) (edge_at es j)) ks
      → AllByRecursion (λ j. AreAligned at (edge_at es k) (edge_at es j)) ks
  all_aligned a [] r h = tt
  all_aligned a (j ∷ ks) r h = (
    aligned_chain at (edge_at es k) (edge_at es n) (edge_at es j) hk hn r.0 a h.0,
    all_aligned a ks r.1 h.1,
  )

  precede_aligned : AreAligned at (edge_at es k) (edge_at es n) → (ks : List ℕ) (bs : List (List ℕ))
      → AllByRecursion (HeadRises es) bs → AllByRecursion (Precedes es at (n ∷ ks)) bs
      → AllByRecursion (Precedes es at (k ∷ (n ∷ ks))) bs
  precede_aligned a ks [] r h = tt
  precede_aligned a ks ([] ∷ bs) r h = absurd r.0
  precede_aligned a ks ((j ∷ js) ∷ bs) r h = (
    aligned_before at (edge_at es k) (edge_at es n) (edge_at es j) hk hn r.0 a h.0,
    precede_aligned a ks bs r.1 h.1,
  )

  precede_before : IsBefore at (edge_at es k) (edge_at es n) → (ks : List ℕ) (bs : List (List ℕ))
      → AllByRecursion (HeadRises es) bs → AllByRecursion (Precedes es at (n ∷ ks)) bs
      → AllByRecursion (Precedes es at (k ∷ [])) bs
  precede_before a ks [] r h = tt
  precede_before a ks ([] ∷ bs) r h = absurd r.0
  precede_before a ks ((j ∷ js) ∷ bs) r h = (
    before_chain at (edge_at es k) (edge_at es n) (edge_at es j) hk hn r.0 a h.0,
    precede_before a ks bs r.1 h.1,
  )

  pub joins_first : AreAligned at (edge_at es k) (edge_at es n) → k ≤ n → (bundles : List (List ℕ))
      → Bundled es at n bundles → Bundled es at k (joined k bundles)
  joins_first a o bundles r = record {
    ks = n ∷ r.ks;
    bs = r.bs;
    are = ap (joined k) r.are;
    ranked = (
      (
        ((o, all_later k n o r.ks r.ranked.0.0.0), r.ranked.0.0),
        (a, all_aligned a r.ks r.rise_ks r.ranked.0.1),
      ),
      precede_aligned a r.ks r.bs r.rise_bs r.ranked.1,
      r.ranked.2,
    );
    rise_ks = (hn, r.rise_ks);
    rise_bs = r.rise_bs;
  }

  pub comes_before : IsBefore at (edge_at es k) (edge_at es n) → (bundles : List (List ℕ))
      → Bundled es at n bundles → Bundled es at k ((k ∷ []) ∷ bundles)
  comes_before a bundles r = record {
    ks = [];
    bs = (n ∷ r.ks) ∷ r.bs;
    are = ap (λ (cs : List (List ℕ)). (k ∷ []) ∷ cs) r.are;
    ranked = (((tt, tt), tt), (a, precede_before a r.ks r.bs r.rise_bs r.ranked.1), r.ranked);
    rise_ks = tt;
    rise_bs = (hn, r.rise_bs);
  }
