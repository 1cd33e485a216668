-- An edge that starts at a height.
use Rattle.std.proofs.Common.{◌≡◌, ℕ, zero, suc, ◌+◌, ◌-◌, ◌<◌, ◌≤◌, List, [], ◌∷◌, ◌++◌, length, get_or, take, drop, refl, sym, ap, ap₂, ◌∙◌, arith, subst}
use Rattle.std.specs.List.{AllByRecursion, concat}
use Rattle.std.proofs.lemmas.Int.{ints}
use Rattle.std.proofs.lemmas.List.{length-drop, take-append-drop, get_or-take, get_or-drop, length-take-le, take_at, take_more, drop_at, drop-drop}
use Rattle.scad_geom.specs.Limits.{coordinate_limit}
use Rattle.scad_geom.specs.declared.point.Edge.{Edge}
use Rattle.scad_geom.specs.declared.level.Level.{Level}
use Rattle.scad_geom.specs.declared.level.LeafEdge.{LeafEdge}
use Rattle.scad_geom.specs.Level.{IsLevelWithin}
use Rattle.scad_geom.proofs.Order.{front, back}
use Rattle.slice_bundles.specs.Times.{times}
use Rattle.slice_bundles.proofs.Times.{times-append}
use Rattle.slice_bundles.specs.Bundles.{edge_at}
use Rattle.slice_bundles.specs.KeptOrder.{IsLeftAt, IsNotRightAt}
use Rattle.slice_sweep.specs.declared.strand.Strand.{Strand}
use Rattle.slice_sweep.specs.Chains.{Chain, Joins}
use Rattle.slice_sweep.specs.Strands.{numbers_in, head, LiesNotRight, IsReaching, IsHeld, AreHeld, AreApart, AreWaiting, weakened, fresh, no_strand, strand_at}
use Rattle.slice_sweep.proofs.Keys.{never_below}
use Rattle.slice_sweep.proofs.Lists.{chain_front, chain_back, joins_from}
use Rattle.slice_sweep.proofs.Weakening.{length_weakened, held_put, ordered_put, apart_put, times_strands, times_put}

-- strands put between the first ones, of which the last has lost its key, and those from a place on
pub put_between : (L : List Strand) (from to : ℕ) (W N : List Strand) → from ≤ to → from ≤ length L
    → W ≡ weakened (take from L) ++ drop from L
    → take from W ++ (N ++ drop to W) ≡ weakened (take from L) ++ (N ++ drop to L)
put_between L from to W N o q e =
    let n : length (weakened (take from L)) ≡ from = length_weakened (take from L) ∙ length-take-le from L q in
    let t : take from W ≡ weakened (take from L) = ap (take from) e
    ∙ take_at (weakened (take from L)) (drop from L) from n in
    let d : drop from W ≡ drop from L = ap (drop from) e ∙ drop_at (weakened (take from L)) (drop from L) from n in
    let m : from + (to - from) ≡ to = omega (arith, o) in
    let r : drop to W ≡ drop to L =
    ap (λ (i : ℕ). drop i W) (sym m) ∙ sym (drop-drop (to - from) from W) ∙ ap (drop (to - from)) d
    ∙ drop-drop (to - from) from L ∙ ap (λ (i : ℕ). drop i L) m in
    ap₂ (λ (xs ys : List Strand). xs ++ (N ++ ys)) t r

module _ (es : List LeafEdge) (l : Level) (w : IsLevelWithin coordinate_limit l) (L : List Strand) (i k : ℕ)
    (o : i ≤ length L) (r : IsReaching es l l k)
    (left : (j : ℕ) → j + 1 ≡ i → IsLeftAt l (head es (strand_at L j).bundle) (edge_at es k))
    (right : i < length L → IsNotRightAt l (edge_at es k) (head es (strand_at L i).bundle))
    (h : AreWaiting es l L) where
  abbrev D : List Strand
  D = take i L

  abbrev O : List Strand
  O = drop i L

  abbrev B : List (List ℕ)
  B = (k ∷ []) ∷ []

  whole : D ++ O ≡ L
  whole = take-append-drop i L

  before : Joins (LiesNotRight es l) D (fresh B ++ O)
  before = joins_from (LiesNotRight es l) D (fresh B ++ O) no_strand
      (λ j e q. let n : suc j ≡ i = e ∙ length-take-le i L o in
      let m : j < i = omega arith in
      let p : j + 1 ≡ i = omega arith in
      subst (λ (s : Strand). IsNotRightAt l (head es s.bundle) (edge_at es k)) (sym (get_or-take i L j no_strand m))
      (weak (head es (strand_at L j).bundle) (left j p)))
    where
      weak : (e : Edge) → IsLeftAt l e (edge_at es k) → IsNotRightAt l e (edge_at es k)
      weak e q = omega (arith, ints)

  behind : Joins (LiesNotRight es l) (fresh B) O
  behind = joins_from (LiesNotRight es l) (fresh B) O no_strand by_index
    where
      by_index : (j : ℕ) → suc j ≡ length (fresh B) → 0 < length O
          → LiesNotRight es l (get_or (fresh B) j no_strand) (get_or O 0 no_strand)
      by_index zero e q =
          let z : i + zero ≡ i = omega arith in
          let m : i < length L = omega (arith, length-drop i L, q) in
          subst (λ (s : Strand). IsNotRightAt l (edge_at es k) (head es s.bundle))
          (sym (get_or-drop i L zero no_strand ∙ ap (λ (n : ℕ). get_or L n no_strand) z)) (right m)
      by_index (suc j) e q = absurd (omega arith)

  held : AllByRecursion (IsHeld es l) (D ++ O)
  held = subst (AllByRecursion (IsHeld es l)) (sym whole) h.held

  new_held : AllByRecursion (IsHeld es l) (fresh B)
  new_held = (
    record {
      bundle = ((tt, tt), tt);
      reach = (r, tt);
      ends = λ g d a b. absurd (never_below l g w d a b);
    },
    tt,
  )

  ordered : Chain (AreHeld es l) (D ++ O)
  ordered = subst (Chain (AreHeld es l)) (sym whole) h.ordered

  apart : Chain (AreApart es l) (D ++ O)
  apart = subst (Chain (AreApart es l)) (sym whole) h.apart

  pub started : AreWaiting es l (weakened D ++ (fresh B ++ O))
  started = record {
    held = held_put es l w D B O (front (IsHeld es l) D O held) new_held (back (IsHeld es l) D O held);
    ordered = ordered_put es l w D B O (chain_front (AreHeld es l) D O ordered) tt
        (chain_back (AreHeld es l) D O ordered) before behind;
    apart = apart_put es l w D B O (chain_front (AreApart es l) D O apart) tt
        (chain_back (AreApart es l) D O apart) before behind;
  }

  pub started_times : (j : ℕ) → times j (numbers_in (weakened D ++ (fresh B ++ O)))
      ≡ times j (numbers_in L) + times j (k ∷ [])
  started_times j =
      sums (times j (numbers_in (weakened D ++ (fresh B ++ O)))) (times j (numbers_in D)) (times j (concat B))
      (times j (numbers_in O)) (times j (numbers_in L)) (times j (k ∷ [])) (times_put j D B O)
      (ap (λ (xs : List Strand). times j (numbers_in xs)) (sym whole) ∙ times_strands j D O) refl
    where
      sums : (a b c d e f : ℕ) → a ≡ b + (c + d) → e ≡ b + d → c ≡ f → a ≡ e + f
      sums a b c d e f p q s = omega arith

-- as the code puts it
pub started_by : (es : List LeafEdge) (l : Level) (w : IsLevelWithin coordinate_limit l) (L X W new : List Strand)
    (i k : ℕ) → X ≡ L → i ≤ length X → IsReaching es l l k
    → ((j : ℕ) → j + 1 ≡ i → IsLeftAt l (head es (strand_at X j).bundle) (edge_at es k))
    → (i < length X → IsNotRightAt l (edge_at es k) (head es (strand_at X i).bundle))
    → AreWaiting es l L → W ≡ weakened (take i L) ++ drop i L
    → new ≡ take i W ++ (fresh ((k ∷ []) ∷ []) ++ drop i W)
    → AreWaiting es l new
    × ((j : ℕ) → times j (numbers_in new) ≡ times j (numbers_in L) + times j (k ∷ []))
started_by es l w L X W new i k e o r left right h we ne =
    let o' : i ≤ length L = subst (λ (xs : List Strand). i ≤ length xs) e o in
    let left' = subst (λ (xs : List Strand). (j : ℕ) → j + 1 ≡ i
    → IsLeftAt l (head es (strand_at xs j).bundle) (edge_at es k)) e left in
    let right' = subst (λ (xs : List Strand). i < length xs
    → IsNotRightAt l (edge_at es k) (head es (strand_at xs i).bundle)) e right in
    let self : i ≤ i = omega arith in
    let is = sym (ne ∙ put_between L i i W (fresh ((k ∷ []) ∷ [])) self o' we) in (
      subst (AreWaiting es l) is (started es l w L i k o' r left' right' h),
      subst (λ (xs : List Strand). (j : ℕ) → times j (numbers_in xs) ≡ times j (numbers_in L) + times j (k ∷ [])) is
          (started_times es l w L i k o' r left' right' h),
    )

-- one more of the numbers of edges that start
pub started_more : (k : ℕ) (L old new : List Strand) (ks : List ℕ) (i : ℕ) → i < length ks
    → times k (numbers_in old) ≡ times k (numbers_in L) + times k (take i ks)
    → times k (numbers_in new) ≡ times k (numbers_in old) + times k (get_or ks i 0 ∷ [])
    → times k (numbers_in new) ≡ times k (numbers_in L) + times k (take (i + 1) ks)
started_more k L old new ks i o p q =
    sums (times k (numbers_in new)) (times k (numbers_in old)) (times k (get_or ks i 0 ∷ [])) (times k (numbers_in L))
    (times k (take i ks)) (times k (take (i + 1) ks)) q p
    (ap (times k) (take_more ks i 0 o) ∙ times-append k (take i ks) (get_or ks i 0 ∷ []))
  where
    sums : (a b c d e f : ℕ) → a ≡ b + c → b ≡ d + e → f ≡ e + c → a ≡ d + f
    sums a b c d e f r s t = omega arith
