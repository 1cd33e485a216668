-- The edges that reach two heights have bundles.
use Rattle.std.proofs.Common.{◌≡◌, ℕ, ◌+◌, ◌≤◌, Bool, true, false, inl, inr, List, [], ◌∷◌, ◌++◌, sym, arith}
use lib.IntN.{◌*ℤ◌}
use Rattle.std.specs.Prelude.{IsPermutation, if◌then◌else◌}
use Rattle.std.specs.List.{AllByRecursion, concat}
use Rattle.std.proofs.lemmas.List.Elements.{recursion_from_All, All-from_recursion}
use Rattle.std.proofs.lemmas.List.Sorted.{All-permutation, IsPermutation-refl, IsPermutation-sym, IsPermutation-trans}
use Rattle.std.proofs.lemmas.List.Sorted.{IsPermutation-cons, IsPermutation-middle, IsPermutation-append_right}
use Rattle.scad_geom.specs.declared.point.Edge.{Edge}
use Rattle.scad_geom.specs.declared.level.Level.{Level}
use Rattle.scad_geom.specs.declared.level.LeafEdge.{LeafEdge}
use Rattle.scad_geom.specs.Line.{rise, run, x_at}
use Rattle.scad_geom.specs.EdgeOrder.{IsBefore, AreAligned}
use Rattle.scad_geom.proofs.Order.{front, back}
use Rattle.slice_bundles.specs.Bundles.{edge_at, reaches, reaching, Ascends, Precedes, AreRanked, AreBundles}
use Rattle.slice_bundles.proofs.Bundling.{Rises, aligned_chain, aligned_before, before_chain}
use Rattle.slice_bundles.proofs.Live.{IsLive, live_reaching}
use Rattle.outline_laws.proofs.Distinct.{weaker, AreCompared, lower, same, higher, compared}

-- ---- any two edges are ordered at a height
data AreOrdered (at : Level) (e f : Edge) : Type 0 where
  before : IsBefore at e f → AreOrdered at e f
  aligned : AreAligned at e f → AreOrdered at e f
  after : IsBefore at f e → AreOrdered at e f

x_of : Level → Edge → Level
x_of at e = record { n = x_at e at.n at.d; d = rise e }

lean_of : Edge → Level
lean_of e = record { n = run e; d = rise e }

ordered : (at : Level) (e f : Edge) → AreOrdered at e f
unfolding x_of lean_of
ordered at e f = by_x (compared (x_of at e) (x_of at f)) (compared (lean_of e) (lean_of f))
  where
    by_lean : x_at e at.n at.d *ℤ rise f ≡ x_at f at.n at.d *ℤ rise e
        → AreCompared (lean_of e) (lean_of f) → AreOrdered at e f
    by_lean h (lower o) = before (inr (h, o))
    by_lean h (same k) = aligned (h, k)
    by_lean h (higher o) = after (inr (sym h, o))

    by_x : AreCompared (x_of at e) (x_of at f) → AreCompared (lean_of e) (lean_of f) → AreOrdered at e f
    by_x (lower o) c = before (inl o)
    by_x (same h) c = by_lean h c
    by_x (higher o) c = after (inl o)

-- ---- one more number among bundles
module _ (es : List LeafEdge) (at : Level) where
  abbrev edge : ℕ → Edge
  edge k = edge_at es k

  abbrev AllRise : List ℕ → Type 0
  AllRise ks = AllByRecursion (Rises es) ks

  abbrev Lead : List ℕ → List (List ℕ) → Type 0
  Lead ks bs = AllByRecursion (Precedes es at ks) bs

  -- what lies before a bundle, or is aligned with it, lies before those behind it
  before_rest : (k j : ℕ) (ks js : List ℕ) (bs : List (List ℕ)) → Rises es k → Rises es j → AllRise (concat bs)
      → IsBefore at (edge k) (edge j) → Lead (j ∷ js) bs → Lead (k ∷ ks) bs
  before_rest k j ks js [] rk rj rs b h = tt
  before_rest k j ks js ([] ∷ bs) rk rj rs b h = absurd h.0
  before_rest k j ks js ((i ∷ is) ∷ bs) rk rj rs b h = (
    before_chain at (edge k) (edge j) (edge i) rk rj rs.0 b h.0,
    before_rest k j ks js bs rk rj (back (Rises es) is (concat bs) rs.1) b h.1,
  )

  aligned_rest : (k j : ℕ) (ks js : List ℕ) (bs : List (List ℕ)) → Rises es k → Rises es j → AllRise (concat bs)
      → AreAligned at (edge k) (edge j) → Lead (j ∷ js) bs → Lead (k ∷ ks) bs
  aligned_rest k j ks js [] rk rj rs a h = tt
  aligned_rest k j ks js ([] ∷ bs) rk rj rs a h = absurd h.0
  aligned_rest k j ks js ((i ∷ is) ∷ bs) rk rj rs a h = (
    aligned_before at (edge k) (edge j) (edge i) rk rj rs.0 a h.0,
    aligned_rest k j ks js bs rk rj (back (Rises es) is (concat bs) rs.1) a h.1,
  )

  all_aligned : (k j : ℕ) (js : List ℕ) → Rises es k → Rises es j → AllRise js → AreAligned at (edge k) (edge j)
      → AllByRecursion (λ i. AreAligned at (edge j) (edge i)) js
      → AllByRecursion (λ i. AreAligned at (edge k) (edge i)) js
  all_aligned k j [] rk rj rs a h = tt
  all_aligned k j (i ∷ js) rk rj rs a h =
      (aligned_chain at (edge k) (edge j) (edge i) rk rj rs.0 a h.0, all_aligned k j js rk rj rs.1 a h.1)

  record HasBundled (k : ℕ) (bs : List (List ℕ)) : Type 0 where
    all : List (List ℕ)
    members : IsPermutation (k ∷ concat bs) (concat all)
    ranked : AreRanked es at all
    led : (i : ℕ) (is : List ℕ) → IsBefore at (edge i) (edge k) → Lead (i ∷ is) bs → Lead (i ∷ is) all

  -- one that is no greater than any of them
  bundled : (k : ℕ) (bs : List (List ℕ)) → Rises es k → AllRise (concat bs) → AllByRecursion (λ j. k ≤ j) (concat bs)
      → AreRanked es at bs → HasBundled k bs
  bundled k [] rk rs o r = record {
    all = (k ∷ []) ∷ [];
    members = IsPermutation-refl (k ∷ []);
    ranked = (((tt, tt), tt), tt, tt);
    led = λ i is b h. (b, tt);
  }
  bundled k ([] ∷ bs) rk rs o r = absurd r.0
  bundled k ((j ∷ js) ∷ bs) rk rs o r =
      by_order (ordered at (edge k) (edge j)) (bundled k bs rk rest (back (λ j. k ≤ j) js (concat bs) o.1) r.2)
    where
      old : List ℕ
      old = j ∷ (js ++ concat bs)

      own : AllRise js
      own = front (Rises es) js (concat bs) rs.1

      rest : AllRise (concat bs)
      rest = back (Rises es) js (concat bs) rs.1

      behind : (on : HasBundled k bs) → IsPermutation (k ∷ old) ((j ∷ js) ++ concat on.all)
      behind on =
          let moved : List ℕ = (j ∷ js) ++ (k ∷ concat bs) in
          IsPermutation-trans (k ∷ old) moved ((j ∷ js) ++ concat on.all)
          (IsPermutation-sym moved (k ∷ old) (IsPermutation-middle (j ∷ js) k (concat bs)))
          (IsPermutation-append_right (j ∷ js) (k ∷ concat bs) (concat on.all) on.members)

      by_order : AreOrdered at (edge k) (edge j) → HasBundled k bs → HasBundled k ((j ∷ js) ∷ bs)
      by_order (before b) on = record {
        all = (k ∷ []) ∷ ((j ∷ js) ∷ bs);
        members = IsPermutation-refl (k ∷ old);
        ranked = (((tt, tt), tt), (b, before_rest k j [] js bs rk rs.0 rest b r.1), r);
        led = λ i is c h. (c, h);
      }
      by_order (aligned a) on =
          let ascends : Ascends (k ∷ (j ∷ js)) = ((o.0, front (λ j. k ≤ j) js (concat bs) o.1), r.0.0) in
          record {
            all = (k ∷ (j ∷ js)) ∷ bs;
            members = IsPermutation-refl (k ∷ old);
            ranked = (
              (ascends, (a, all_aligned k j js rk rs.0 own a r.0.1)),
              aligned_rest k j (j ∷ js) js bs rk rs.0 rest a r.1,
              r.2,
            );
            led = λ i is c h. (c, h.1);
          }
      by_order (after b) on = record {
        all = (j ∷ js) ∷ on.all;
        members = behind on;
        ranked = (r.0, on.led j js b r.1, on.ranked);
        led = λ i is c h. (h.0, on.led i is c h.1);
      }

  -- ---- one after another, from the greatest down
  record HasRanked (ks : List ℕ) : Type 0 where
    bundles : List (List ℕ)
    members : IsPermutation ks (concat bundles)
    ranked : AreRanked es at bundles

  moved : (P : ℕ → Type 0) (ks js : List ℕ) → IsPermutation ks js → AllByRecursion P ks → AllByRecursion P js
  moved P ks js m h = recursion_from_All P js (All-permutation P ks js m (All-from_recursion P ks h))

  all_ranked : (ks : List ℕ) → AllRise ks → Ascends ks → HasRanked ks
  all_ranked [] r o = record { bundles = []; members = IsPermutation-refl []; ranked = tt }
  all_ranked (k ∷ ks) r o =
      let on : HasRanked ks = all_ranked ks r.1 o.1 in
      let there : List ℕ = concat on.bundles in
      let rise : AllRise there = moved (Rises es) ks there on.members r.1 in
      let above : AllByRecursion (λ j. k ≤ j) there = moved (λ j. k ≤ j) ks there on.members o.0 in
      let one : HasBundled k on.bundles = bundled k on.bundles r.0 rise above on.ranked in
      record {
        bundles = one.all;
        members = IsPermutation-trans (k ∷ ks) (k ∷ there) (concat one.all)
            (IsPermutation-cons k ks there on.members) one.members;
        ranked = one.ranked;
      }

-- ---- the numbers of the edges that reach both heights
module _ (l u : Level) where
  from_on : (k j : ℕ) (es : List LeafEdge) → k ≤ j → AllByRecursion (λ i. k ≤ i) (reaching j es l u)
  from_on k j [] o = tt
  from_on k j (e ∷ es) o = by_test (reaches e.edge l u) (from_on k (j + 1) es (omega arith))
    where
      next : List ℕ
      next = reaching (j + 1) es l u

      by_test : (t : Bool) → AllByRecursion (λ i. k ≤ i) next
          → AllByRecursion (λ i. k ≤ i) (if t then j ∷ next else next)
      by_test true r = (o, r)
      by_test false r = r

  ascending : (k : ℕ) (es : List LeafEdge) → Ascends (reaching k es l u)
  ascending k [] = tt
  ascending k (e ∷ es) = by_test (reaches e.edge l u) (ascending (k + 1) es)
    where
      next : List ℕ
      next = reaching (k + 1) es l u

      by_test : (t : Bool) → Ascends next → Ascends (if t then k ∷ next else next)
      by_test true r = (from_on k (k + 1) es (omega arith), r)
      by_test false r = r

pub record HasBundles (es : List LeafEdge) (l u : Level) : Type 0 where
  pub bundles : List (List ℕ)
  pub are_bundles : AreBundles es l u bundles

pub bundles_of : (es : List LeafEdge) (l u : Level) → HasBundles es l u
bundles_of es l u =
    let ks : List ℕ = reaching 0 es l u in
    let rise : AllByRecursion (Rises es) ks =
    weaker (IsLive es l u) (Rises es) (λ k h. h.reaches.rises) ks (live_reaching es l u) in
    let r : HasRanked es l ks = all_ranked es l ks rise (ascending l u 0 es) in
    record { bundles = r.bundles; are_bundles = record { members = r.members; ranked = r.ranked } }
