-- The bundles between two heights are one list of bundles.
use Rattle.std.proofs.Common.{◌≡◌, ℕ, zero, suc, ◌<◌, ◌≤◌, ◌⊎◌, inl, inr, Bool, List, [], ◌∷◌, ◌++◌, length, refl, sym, ap, ap₂, subst, arith}
use lib.IntN.{pos}
use lib.Signed.{◌<ℤ◌}
use Rattle.std.specs.Prelude.{IsPermutation, Contains, ◌==◌, slice_index_or, drop}
use Rattle.std.specs.List.{AllByRecursion, concat}
use Rattle.std.proofs.lemmas.Int.{ints}
use Rattle.std.proofs.lemmas.List.Elements.{All-contains, All-from_recursion}
use Rattle.std.proofs.lemmas.List.Sorted.{IsPermutation-sym, Contains-permutation, length_permutation}
use Rattle.scad_geom.specs.declared.point.Edge.{Edge}
use Rattle.scad_geom.specs.declared.level.Level.{Level}
use Rattle.scad_geom.specs.declared.level.LeafEdge.{LeafEdge}
use Rattle.scad_geom.specs.Line.{rise, run, x_at}
use Rattle.scad_geom.specs.EdgeOrder.{IsBefore, AreAligned}
use Rattle.scad_geom.proofs.Order.{front, back}
use Rattle.slice_bundles.specs.Bundles.{edge_at, Ascends, Precedes, AreRanked}
use Rattle.slice_bundles.proofs.Bundling.{Rises, aligned_chain, aligned_before}
use Rattle.slice_pieces.proofs.Counts.{without_first}
use Rattle.scad_geom.proofs.Heights.{same_chain, lower_same}
use Rattle.std.proofs.lemmas.Bool.{eq-eqb, eqb-true}

-- ---- lists in an order
abbrev Sorted : (ℕ → ℕ → Type 0) → List ℕ → Type 0
Sorted R [] = Unit {0}
Sorted R (x ∷ xs) = AllByRecursion (R x) xs × Sorted R xs

all_both : (P : ℕ → Type 0) (xs ys : List ℕ) → AllByRecursion P xs → AllByRecursion P ys → AllByRecursion P (xs ++ ys)
all_both P [] ys h k = k
all_both P (x ∷ xs) ys h k = (h.0, all_both P xs ys h.1 k)

sorted_both : (R : ℕ → ℕ → Type 0) (xs ys : List ℕ) → Sorted R xs → Sorted R ys
    → AllByRecursion (λ x. AllByRecursion (R x) ys) xs → Sorted R (xs ++ ys)
sorted_both R [] ys h k c = k
sorted_both R (x ∷ xs) ys h k c = (all_both (R x) xs ys h.0 c.0, sorted_both R xs ys h.1 k c.1)

abbrev equal : ℕ → ℕ → Bool
equal m n = m == n

-- two lists of the same numbers, in an order of which no two numbers stand in both ways, are one
module _ (R : ℕ → ℕ → Type 0) (P : ℕ → Type 0) (antisymmetric : (x y : ℕ) → P x → P y → R x y → R y x → x ≡ y) where
  first_is : (x y : ℕ) (xs ys : List ℕ) → P x → P y → AllByRecursion (R x) xs → AllByRecursion (R y) ys
      → IsPermutation (x ∷ xs) (y ∷ ys) → x ≡ y
  first_is x y xs ys px py a b m =
      by_cases (first_of x y xs (Contains-permutation (y ∷ ys) (x ∷ xs) y (IsPermutation-sym (x ∷ xs) (y ∷ ys) m)
      (itself y ys)))
      (first_of y x ys (Contains-permutation (x ∷ xs) (y ∷ ys) x m (itself x xs)))
    where
      itself : (z : ℕ) (zs : List ℕ) → Contains (z ∷ zs) z
      itself z zs = (0, omega arith, refl)

      first_of : (u v : ℕ) (us : List ℕ) → Contains (u ∷ us) v → (u ≡ v) ⊎ Contains us v
      first_of u v us c = at c.0 c.1 c.2
        where
          at : (k : ℕ) → k < length (u ∷ us) → slice_index_or (u ∷ us) k v ≡ v → (u ≡ v) ⊎ Contains us v
          at zero l e = inl e
          at (suc k) l e = inr (k, omega arith, e)

      by_cases : (x ≡ y) ⊎ Contains xs y → (y ≡ x) ⊎ Contains ys x → x ≡ y
      by_cases (inl e) k = e
      by_cases (inr c) (inl e) = sym e
      by_cases (inr c) (inr d) =
          antisymmetric x y px py (All-contains (R x) xs y (All-from_recursion (R x) xs a) c)
          (All-contains (R y) ys x (All-from_recursion (R y) ys b) d)

  sorted_one : (xs ys : List ℕ) → AllByRecursion P xs → AllByRecursion P ys → Sorted R xs → Sorted R ys
      → IsPermutation xs ys → xs ≡ ys
  sorted_one [] [] p q h k m = refl
  sorted_one [] (y ∷ ys) p q h k m = let l = length_permutation [] (y ∷ ys) m in absurd (omega arith)
  sorted_one (x ∷ xs) [] p q h k m = let l = length_permutation (x ∷ xs) [] m in absurd (omega arith)
  sorted_one (x ∷ xs) (y ∷ ys) p q h k m =
      let e : x ≡ y = first_is x y xs ys p.0 q.0 h.0 k.0 m in
      let rest : IsPermutation xs ys =
      without_first equal (λ m. eq-eqb m m refl) eqb-true y xs ys
      (subst (λ (z : ℕ). IsPermutation (z ∷ xs) (y ∷ ys)) e m) in
      ap₂ (λ (z : ℕ) (zs : List ℕ). z ∷ zs) e (sorted_one xs ys p.1 q.1 h.1 k.1 rest)

-- ---- the order of edges at a height, by number where they coincide
module _ (es : List LeafEdge) (at : Level) where
  abbrev Before : ℕ → ℕ → Type 0
  Before x y = IsBefore at (edge_at es x) (edge_at es y)

  abbrev Aligned : ℕ → ℕ → Type 0
  Aligned x y = AreAligned at (edge_at es x) (edge_at es y)

  abbrev Comes : ℕ → ℕ → Type 0
  Comes x y = Before x y ⊎ (Aligned x y × (x ≤ y))

  never_both : (e f : Edge) → IsBefore at e f → IsBefore at f e → ⊥
  never_both e f (inl h) (inl k) = omega (arith, ints)
  never_both e f (inl h) (inr k) = let k0 = k.0 in omega (arith, ints)
  never_both e f (inr h) (inl k) = let h0 = h.0 in omega (arith, ints)
  never_both e f (inr h) (inr k) = let h1 = h.1 in let k1 = k.1 in omega (arith, ints)

  not_aligned : (e f : Edge) → IsBefore at e f → AreAligned at e f → ⊥
  not_aligned e f (inl h) a = let a0 = a.0 in omega (arith, ints)
  not_aligned e f (inr h) a = let h1 = h.1 in let a1 = a.1 in omega (arith, ints)

  aligned_turned : (x y : ℕ) → Aligned x y → Aligned y x
  aligned_turned x y a = (sym a.0, sym a.1)

  comes_once : (x y : ℕ) → Rises es x → Rises es y → Comes x y → Comes y x → x ≡ y
  comes_once x y rx ry (inl h) (inl k) = absurd (never_both (edge_at es x) (edge_at es y) h k)
  comes_once x y rx ry (inl h) (inr k) = absurd (not_aligned (edge_at es x) (edge_at es y) h (aligned_turned y x k.0))
  comes_once x y rx ry (inr h) (inl k) = absurd (not_aligned (edge_at es y) (edge_at es x) k (aligned_turned x y h.0))
  comes_once x y rx ry (inr h) (inr k) = let m = h.1 in let n = k.1 in omega arith

  -- what comes before an edge comes before those aligned with it
  before_aligned : (x y z : ℕ) → Rises es x → Rises es y → Rises es z → Before x y → Aligned y z → Before x z
  before_aligned x y z rx ry rz h a = through (edge_at es x) (edge_at es y) (edge_at es z) rx ry rz h a
    where
      through : (e f g : Edge) → pos 0 <ℤ rise e → pos 0 <ℤ rise f → pos 0 <ℤ rise g → IsBefore at e f
          → AreAligned at f g → IsBefore at e g
      through e f g re rf rg (inl h) a = inl (lower_same (record { n = x_at e at.n at.d; d = rise e })
          (record { n = x_at f at.n at.d; d = rise f }) (record { n = x_at g at.n at.d; d = rise g }) re rf rg h a.0)
      through e f g re rf rg (inr h) a = inr (
        same_chain (record { n = x_at e at.n at.d; d = rise e }) (record { n = x_at f at.n at.d; d = rise f })
            (record { n = x_at g at.n at.d; d = rise g }) re rf rg h.0 a.0,
        lower_same (record { n = run e; d = rise e }) (record { n = run f; d = rise f })
            (record { n = run g; d = rise g }) re rf rg h.1 a.1,
      )

  -- ---- within one bundle
  all_from_first : (k x : ℕ) (xs : List ℕ) → Rises es k → Rises es x → AllByRecursion (Rises es) xs → Aligned k x
      → AllByRecursion (Aligned k) xs → AllByRecursion (λ y. x ≤ y) xs → AllByRecursion (Comes x) xs
  all_from_first k x [] rk rx rs a h o = tt
  all_from_first k x (y ∷ xs) rk rx rs a h o = (
    inr (aligned_chain at (edge_at es x) (edge_at es k) (edge_at es y) rx rk rs.0 (aligned_turned k x a) h.0, o.0),
    all_from_first k x xs rk rx rs.1 a h.1 o.1,
  )

  bundle_sorted : (k : ℕ) (xs : List ℕ) → Rises es k → AllByRecursion (Rises es) xs → AllByRecursion (Aligned k) xs
      → Ascends xs → Sorted Comes xs
  bundle_sorted k [] rk rs h o = tt
  bundle_sorted k (x ∷ xs) rk rs h o = (
    all_from_first k x xs rk rs.0 rs.1 h.0 h.1 o.0,
    bundle_sorted k xs rk rs.1 h.1
        o.1,
  )

  -- ---- before the later bundles
  before_bundle : (k j : ℕ) (js : List ℕ) → Rises es k → Rises es j → AllByRecursion (Rises es) js → Before k j
      → AllByRecursion (Aligned j) js → AllByRecursion (Before k) js
  before_bundle k j [] rk rj rs b a = tt
  before_bundle k j (i ∷ js) rk rj rs b a = (
    before_aligned k j i rk rj rs.0 b a.0,
    before_bundle k j js rk rj rs.1 b
        a.1,
  )

  before_later : (k : ℕ) (ks : List ℕ) (bs : List (List ℕ)) → Rises es k → AllByRecursion (Rises es) (concat bs)
      → AllByRecursion (Precedes es at (k ∷ ks)) bs → AreRanked es at bs → AllByRecursion (Before k) (concat bs)
  before_later k ks [] rk rs p r = tt
  before_later k ks ([] ∷ bs) rk rs p r = absurd r.0
  before_later k ks ((j ∷ js) ∷ bs) rk rs p r =
      all_both (Before k) (j ∷ js) (concat bs)
      (p.0, before_bundle k j js rk rs.0 (front (Rises es) js (concat bs) rs.1) p.0 r.0.1)
      (before_later k ks bs rk (back (Rises es) (j ∷ js) (concat bs) rs) p.1 r.2)

  comes_later : (k x : ℕ) (ys : List ℕ) → Rises es k → Rises es x → AllByRecursion (Rises es) ys → Aligned k x
      → AllByRecursion (Before k) ys → AllByRecursion (Comes x) ys
  comes_later k x [] rk rx rs a b = tt
  comes_later k x (y ∷ ys) rk rx rs a b = (
    inl (aligned_before at (edge_at es x) (edge_at es k) (edge_at es y) rx rk rs.0 (aligned_turned k x a) b.0),
    comes_later k x ys rk rx rs.1 a b.1,
  )

  all_later : (k : ℕ) (xs ys : List ℕ) → Rises es k → AllByRecursion (Rises es) xs → AllByRecursion (Rises es) ys
      → AllByRecursion (Aligned k) xs → AllByRecursion (Before k) ys → AllByRecursion (λ x. AllByRecursion (Comes x) ys)
      xs
  all_later k [] ys rk rx ry a b = tt
  all_later k (x ∷ xs) ys rk rx ry a b = (comes_later k x ys rk rx.0 ry a.0 b, all_later k xs ys rk rx.1 ry a.1 b)

  flat_sorted : (bs : List (List ℕ)) → AllByRecursion (Rises es) (concat bs) → AreRanked es at bs
      → Sorted Comes (concat bs)
  flat_sorted [] rs r = tt
  flat_sorted ([] ∷ bs) rs r = absurd r.0
  flat_sorted ((k ∷ ks) ∷ bs) rs r =
      let own : AllByRecursion (Rises es) (k ∷ ks) = front (Rises es) (k ∷ ks) (concat bs) rs in
      let others : AllByRecursion (Rises es) (concat bs) = back (Rises es) (k ∷ ks) (concat bs) rs in
      let aligned : AllByRecursion (Aligned k) (k ∷ ks) = ((refl, refl), r.0.1) in
      sorted_both Comes (k ∷ ks) (concat bs) (bundle_sorted k (k ∷ ks) own.0 own aligned r.0.0)
      (flat_sorted bs others r.2)
      (all_later k (k ∷ ks) (concat bs) own.0 own others aligned (before_later k ks bs own.0 others r.1 r.2))

  -- ---- the same flat list is parted in one way
  no_more : (k j : ℕ) (js rest : List ℕ) (ks : List ℕ) (bs : List (List ℕ)) → Aligned k j
      → AllByRecursion (Precedes es at (k ∷ ks)) bs → AreRanked es at bs → concat bs ≡ j ∷ rest → ⊥
  no_more k j js rest ks [] a p r e = let n : 0 ≡ suc (length rest) = ap length e in omega (arith, n)
  no_more k j js rest ks ([] ∷ bs) a p r e = r.0
  no_more k j js rest ks ((i ∷ is) ∷ bs) a p r e =
      let head : i ≡ j = ap (λ (xs : List ℕ). slice_index_or xs 0 0) e in
      not_aligned (edge_at es k) (edge_at es i) p.0 (subst (λ (n : ℕ). Aligned k n) (sym head) a)

  parted : (k : ℕ) (ls ks js : List ℕ) (bs cs : List (List ℕ)) → AllByRecursion (Aligned k) ks
      → AllByRecursion (Aligned k) js → AllByRecursion (Precedes es at (k ∷ ls)) bs
      → AllByRecursion (Precedes es at (k ∷ ls)) cs
      → AreRanked es at bs → AreRanked es at cs → ks ++ concat bs ≡ js ++ concat cs
      → (ks ≡ js) × (concat bs ≡ concat cs)
  parted k ls [] [] bs cs a b p q r s e = (refl, e)
  parted k ls [] (j ∷ js) bs cs a b p q r s e = absurd (no_more k j js (js ++ concat cs) ls bs b.0 p r e)
  parted k ls (i ∷ ks) [] bs cs a b p q r s e = absurd (no_more k i ks (ks ++ concat bs) ls cs a.0 q s (sym e))
  parted k ls (i ∷ ks) (j ∷ js) bs cs a b p q r s e =
      let t = parted k ls ks js bs cs a.1 b.1 p q r s (ap (λ (xs : List ℕ). drop 1 xs) e) in
      (ap₂ (λ (n : ℕ) (ns : List ℕ). n ∷ ns) (ap (λ (xs : List ℕ). slice_index_or xs 0 0) e) t.0, t.1)

  reheaded : (k j : ℕ) (ks js : List ℕ) (bs : List (List ℕ)) → k ≡ j → AllByRecursion (Precedes es at (j ∷ js)) bs
      → AreRanked es at bs → AllByRecursion (Precedes es at (k ∷ ks)) bs
  reheaded k j ks js [] e p r = tt
  reheaded k j ks js ([] ∷ bs) e p r = absurd r.0
  reheaded k j ks js ((i ∷ is) ∷ bs) e p r = (
    subst (λ (n : ℕ). Before n i) (sym e) p.0,
    reheaded k j ks js bs e p.1
        r.2,
  )

  same_flat : (bs cs : List (List ℕ)) → AreRanked es at bs → AreRanked es at cs → concat bs ≡ concat cs → bs ≡ cs
  same_flat [] [] r s e = refl
  same_flat [] ([] ∷ cs) r s e = absurd s.0
  same_flat [] ((j ∷ js) ∷ cs) r s e = let n : 0 ≡ suc (length (js ++ concat cs)) = ap length e in absurd (omega (arith, n))
  same_flat ([] ∷ bs) cs r s e = absurd r.0
  same_flat ((k ∷ ks) ∷ bs) [] r s e = let n : suc (length (ks ++ concat bs)) ≡ 0 = ap length e in absurd (omega (arith, n))
  same_flat ((k ∷ ks) ∷ bs) ([] ∷ cs) r s e = absurd s.0
  same_flat ((k ∷ ks) ∷ bs) ((j ∷ js) ∷ cs) r s e =
      let head : k ≡ j = ap (λ (xs : List ℕ). slice_index_or xs 0 0) e in
      let t = parted k ks ks js bs cs r.0.1 (subst (λ (n : ℕ). AllByRecursion (Aligned n) js) (sym head) s.0.1) r.1
      (reheaded k j ks js cs head s.1 s.2) r.2 s.2 (ap (λ (xs : List ℕ). drop 1 xs) e) in
      ap₂ (λ (b : List ℕ) (bs : List (List ℕ)). b ∷ bs) (ap₂ (λ (n : ℕ) (ns : List ℕ). n ∷ ns) head t.0)
      (same_flat bs cs r.2 s.2 t.1)

  pub ranked_one : (bs cs : List (List ℕ)) → AllByRecursion (Rises es) (concat bs)
      → AllByRecursion (Rises es) (concat cs) → AreRanked es at bs → AreRanked es at cs
      → IsPermutation (concat bs) (concat cs) → bs ≡ cs
  ranked_one bs cs rb rc r s m =
      same_flat bs cs r s (sorted_one Comes (Rises es) comes_once (concat bs) (concat cs) rb rc (flat_sorted bs rb r)
      (flat_sorted cs rc s) m)
